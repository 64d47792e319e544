pub mod Texts
pub mod TextFronts
pub mod Numbers
pub mod Readings
pub mod Writing
pub mod WritingKeys
pub mod WritingParts
pub mod WritingValues
pub mod WritingPlain
pub mod WrittenOnce
pub mod WrittenUtf8
pub mod Passing
pub mod Refused
pub mod MendedNumbers
pub mod MendedRuns
pub mod MendedKeys
pub mod Mending
pub mod NumberGrammar
pub mod OneValue
pub mod Append
pub mod EscapedString
pub mod MeansOne
pub mod CompactText
pub mod NumberTexts
pub mod Meaning
mod EscapeLanes
pub mod EscapedPieces
pub mod Doing
pub mod Combined
pub mod Streamed
pub mod Streaming
pub mod Given
pub mod ToFmt
pub mod Room
pub mod JsonTexts
pub mod Told
mod examples
mod Joined
