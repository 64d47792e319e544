pub mod Faults
pub mod Due
pub mod OfTapes
pub mod OfFilters
pub mod Lacks
pub mod Reports
pub mod Guarded
