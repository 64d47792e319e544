pub mod Points
pub mod Matches
