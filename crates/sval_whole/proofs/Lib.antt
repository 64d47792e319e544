pub mod Whole
pub mod WholeLaws
pub mod StructsShaped
pub mod WholeCaptures
