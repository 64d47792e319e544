pub mod Pairs
pub mod Steps
pub mod Writing
pub mod ErrorTexts
