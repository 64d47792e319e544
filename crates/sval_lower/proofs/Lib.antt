pub mod Ranks
pub mod LoweredCalls
pub mod FoundItems
pub mod WideNumbers
pub mod BaseCalls
pub mod BaseTrees
mod examples
pub mod ByteItems
pub mod WideStreams
