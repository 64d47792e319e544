pub mod Whole
pub mod WholeTexts
pub mod WholeCaptures
pub mod WholeLaws
pub mod ErrorTexts
pub mod StructJson
