-- What the definitions come to, and used by no program.
mod PrunedTrees
mod PassedCalls
mod RefusedFilters
mod TakenMemory
