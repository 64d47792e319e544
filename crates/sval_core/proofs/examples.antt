-- Values that are computed in proofs.
mod MachineSteps
mod EmittedValues
pub mod ListsOfTrees
mod IncompleteCalls
