pub mod Appending
pub mod Pieces
pub mod Buffering
pub mod FaultyWrites
pub mod ReadParts
mod TextPlaces
