pub mod Layout
pub mod PrettyJson
pub mod PrettyLaws
