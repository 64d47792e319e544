pub mod Cut
pub mod PrintedFields
pub mod PrintedLines
pub mod PrintedPieces
pub mod Printers
pub mod CanonPrinters
pub mod PrintedValues
pub mod CanonicalScripts
pub mod PrintableScripts
pub mod PrintableTrees
pub mod ExactCalls
pub mod KnownTags
pub mod Tables
pub mod WordTable
pub mod TagTable
pub mod FirstFields
pub mod FieldCuts
pub mod FieldParts
pub mod FieldsRead
pub mod LinesMade
pub mod NamesMade
pub mod NearPlaces
pub mod SameRuns
pub mod Decimals
pub mod FieldTexts
pub mod DigitFields
pub mod KnownLines
pub mod RoomBytes
pub mod ScriptLines
pub mod ScriptPieces
pub mod BadLines
pub mod ScriptSlices
pub mod ScriptStreams
pub mod ScriptTexts
pub mod WholeLines
mod NumbersRead
mod examples
mod AsciiLanes
