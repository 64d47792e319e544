pub mod Lower
pub mod Lowered
pub mod Laws
pub mod Readers
pub mod Reading
pub mod ReaderLaws
pub mod BaseTrees
