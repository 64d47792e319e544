pub mod Nonempty
pub mod Runs
pub mod Spelled
mod examples
