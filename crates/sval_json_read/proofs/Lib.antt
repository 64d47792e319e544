pub mod NumberPhases
pub mod StringSteps
pub mod Fits
pub mod Sound
pub mod Completed
pub mod Runs
pub mod StringRuns
pub mod ReadTexts
pub mod Fails
pub mod Boundaries
pub mod PieceTexts
pub mod SpelledTrees
pub mod Utf8Texts
pub mod SettledNumbers
pub mod SettledTrees
pub mod Documents
pub mod Loop
pub mod TakenFronts
pub mod FrontEnds
pub mod ReadFronts
pub mod Outlining
pub mod Outlines
pub mod LimitedFronts
pub mod LimitedValues
pub mod FrontsOfBytes
pub mod ParsedNumbers
pub mod RawStrings
pub mod KeptNodes
pub mod NodeCounts
pub mod Offsets
pub mod EscapePlaces
pub mod ExtendedPieces
pub mod WritableTrees
pub mod ReaderPlaces
pub mod StringCuts
pub mod PieceStreams
pub mod NodeStreams
pub mod JoinedParts
pub mod KeptDocuments
pub mod NumberStreams
pub mod KeptTokens
pub mod PlainRuns
pub mod ByteRuns
mod Lanes
pub mod Passed
mod examples
pub mod TokenTexts
pub mod NodeTexts
mod BackslashLanes
pub mod DueEscapes
pub mod TextParts
pub mod DueTexts
pub mod OneDue
mod SpanTokens
mod SeenValues
mod FirstNodes
mod InnerNodes
mod NextNodes
mod ParsedNaturals
mod PartCounts
pub mod Pointers
mod Parts
mod PartCalls
mod ProperParts
mod ShorterTexts
mod WholeDocuments
pub mod TokenScripts
pub mod Waits
pub mod Continued
pub mod UnchangedNodes
