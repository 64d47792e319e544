pub mod Readings
pub mod Totals
pub mod Written
