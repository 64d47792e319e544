pub mod ReadScripts
pub mod ReadAnswers
pub mod Growing
pub mod Telling
pub mod PrintedTrees
pub mod FoundCalls
pub mod Verdicts
mod CapturedMemory
pub mod JobRuns
pub mod JobStatuses
pub mod JobLeaves
pub mod JobEnds
pub mod ToldRuns
pub mod Streaming
mod LineTexts
