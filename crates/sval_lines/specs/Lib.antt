pub mod ErrorTexts
pub mod SourceLines
pub mod LineParts
pub mod SeenLines
