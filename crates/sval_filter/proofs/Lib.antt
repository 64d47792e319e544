pub mod PrunedGood
pub mod NothingDropped
pub mod Turns
pub mod Silent
pub mod PartSteps
pub mod PartByPart
pub mod PrunedParts
pub mod DueCalls
pub mod Filtered
pub mod Refusals
mod PathTexts
mod TailSteps
mod LayerSteps
mod Holding
mod Sieving
mod SieveSteps
mod FilterSteps
mod PruneSteps
mod PruneWants
mod Verdicts
mod LeftTexts
mod ScriptAnswers
mod examples
mod TakenCalls
