-- The laws of CBOR's items, as facts.
use Rattle.std.specs.Prelude.{◌≡◌, ℕ, false, ◌+◌, ◌^◌, ◌<◌, ◌≤◌, List, [], ◌++◌, length, Some, None, Ok, Err}
use Rattle.std.specs.List.{AllByRecursion}
use Rattle.sval_label.specs.Calls.{Call}
use Rattle.sval_core.specs.Trees.{Tree}
use Rattle.sval_core.specs.Spells.{Spells}
use Rattle.sval_core.specs.Real.{IsReal}
use Rattle.sval_json.specs.Json.{Json}
use Rattle.sval_json.specs.Number.{Refusal, InvalidKey}
use Rattle.sval_json.specs.Shape.{json_of}
use Rattle.sval_cbor.specs.declared.style.Style.{Style}
use Rattle.sval_cbor.specs.Packs.{pack_as, pack_of}
use Rattle.sval_cbor.specs.Cbor.{head_bytes, cbor_as, cbor}
use Rattle.sval_cbor.specs.Premises.{IsShortTreeAs, IsShortTree}
use Rattle.sval_cbor_read.specs.Items.{head, head_at_front, IsItem, IsItemOf}
use Rattle.sval_cbor_read.specs.WellFormed.{IsWellFormed}
use Rattle.sval_cbor_read.specs.Document.{cbor_document_calls}
use Rattle.sval_cbor_read.specs.ReadErrors.{StepsStopAt}
use Rattle.sval_cbor_read.specs.Reading.{OpenItem, ItemState, Ended, BignumPieces, Move, fits, reading_step, IsReadAs, Reached, IsAtEnd, distance}

-- bytes begin with an item of one tree at most, and it ends at one place
abbrev pub ItemHasOneTree : Type 0
ItemHasOneTree = (bytes rest last : List ℕ) (tree other : Tree) → IsItem bytes tree rest → IsItem bytes other last → (tree ≡ other) × (rest ≡ last)

-- each item is well-formed
abbrev pub ItemsAreWellFormed : Type 0
ItemsAreWellFormed = (bytes rest : List ℕ) (tree : Tree) → IsItem bytes tree rest → IsWellFormed bytes rest

-- and a well-formed item ends at one place
abbrev pub WellFormedHasOneRest : Type 0
WellFormedHasOneRest = (bytes rest last : List ℕ) → IsWellFormed bytes rest → IsWellFormed bytes last → rest ≡ last

-- the tree of an item is real
abbrev pub ItemsAreReal : Type 0
ItemsAreReal = (bytes : List ℕ) (tree : Tree) → AllByRecursion (λ byte. byte < 256) bytes → IsItemOf bytes tree → IsReal tree

-- and where it has no JSON, a key is no text
abbrev pub ItemsAreRefusedByKey : Type 0
ItemsAreRefusedByKey = (bytes : List ℕ) (tree : Tree) (why : Refusal) → IsItemOf bytes tree → json_of tree ≡ Err why → why ≡ InvalidKey

-- the document's calls spell the item's tree
abbrev pub CborDocumentsSpell : Type 0
CborDocumentsSpell = (bytes : List ℕ) (tree : Tree) (item : IsItemOf bytes tree) → Spells (cbor_document_calls item) tree

-- the reader reads each item as its document
abbrev pub ItemsAreRead : Type 0
ItemsAreRead = (bytes : List ℕ) (tree : Tree) (item : IsItemOf bytes tree) → IsReadAs bytes (cbor_document_calls item)

-- what it reads is an item, and is read as that item's document
abbrev pub ReadIsItem : Type 0
ReadIsItem = (bytes : List ℕ) (calls : List Call) → IsReadAs bytes calls → (tree : Tree) × (item : IsItemOf bytes tree) × (calls ≡ cbor_document_calls item)

-- bytes are read in one way at most
abbrev pub ReadInOneWay : Type 0
ReadInOneWay = (bytes : List ℕ) (calls other : List Call) → IsReadAs bytes calls → IsReadAs bytes other → calls ≡ other

-- steps that end with no byte left and nothing open have read the bytes
abbrev pub ReadingEndsWell : Type 0
ReadingEndsWell = (bytes : List ℕ) (calls : List Call) → Reached bytes (Ended []) [] calls → IsReadAs bytes calls

-- where they stop elsewhere, the bytes are no item
abbrev pub ReadingStopsAtBadBytes : Type 0
ReadingStopsAtBadBytes = (bytes left : List ℕ) (state : ItemState) (calls : List Call) → Reached bytes state left calls → reading_step state left ≡ None → (IsAtEnd state left → ⊥)
    → (tree : Tree) → IsItemOf bytes tree → ⊥

-- and they stop at one place of the bytes at most
abbrev pub StepsStopAtOnePlace : Type 0
StepsStopAtOnePlace = (bytes : List ℕ) (at other : ℕ) → StepsStopAt bytes at → StepsStopAt bytes other → at ≡ other

-- a number in pieces that is too large before the last of them is in no item, so a reader may stop there
abbrev pub LargeNumbersAreBadBytes : Type 0
LargeNumbersAreBadBytes = (bytes left : List ℕ) (tag : ℕ) (front : List ℕ) (frames : List OpenItem) (calls : List Call) → Reached bytes (BignumPieces tag front frames) left calls
    → fits tag front ≡ false → (tree : Tree) → IsItemOf bytes tree → ⊥

-- each step brings the end nearer, so reading ends
abbrev pub StepsComeNearer : Type 0
StepsComeNearer = (state : ItemState) (bytes : List ℕ) (move : Move) → reading_step state bytes ≡ Some move → distance move.next move.left < distance state bytes

-- the head that is written is read
abbrev pub HeadsAreRead : Type 0
HeadsAreRead = (major number : ℕ) (rest : List ℕ) → number < 2 ^ 64 → head_at_front (head_bytes major number ++ rest) ≡ Some (head major number rest)

-- and no head that is read as the same number is shorter
abbrev pub HeadsAreShortest : Type 0
HeadsAreShortest = (bytes : List ℕ) (major number : ℕ) (rest : List ℕ) → AllByRecursion (λ byte. byte < 256) bytes → head_at_front bytes ≡ Some (head major number rest)
    → length (head_bytes major number) + length rest ≤ length bytes

-- what a real tree with short texts is written as is an item of one tree, and that tree has the shape that was written
abbrev pub WrittenIsReadBack : Type 0
WrittenIsReadBack = (tree : Tree) (json : Json) → IsReal tree → IsShortTree tree → pack_of tree ≡ Ok json
    → (read : Tree) × IsItemOf (cbor json) read × ((other : Tree) → IsItemOf (cbor json) other → other ≡ read) × (json_of read ≡ Ok json)

-- the same in each style, in which that tree packs to the shape that was written
abbrev pub StylesAreReadBack : Type 0
StylesAreReadBack = (style : Style) (tree : Tree) (json : Json) → IsReal tree → IsShortTreeAs style tree → pack_as style tree ≡ Ok json
    → (read : Tree) × IsItemOf (cbor_as style.lengths json) read × ((other : Tree) → IsItemOf (cbor_as style.lengths json) other → other ≡ read) × (pack_as style read ≡ Ok json)
