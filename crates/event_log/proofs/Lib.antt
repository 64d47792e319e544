pub mod Captured
pub mod Checked
pub mod Joined
