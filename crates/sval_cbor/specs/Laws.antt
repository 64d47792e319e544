-- The laws of packed shapes and of their bytes, as facts.
use Rattle.std.specs.Prelude.{◌≡◌, ℕ, ◌<◌, List, ◌∷◌, ◌++◌, Ok, Err}
use Rattle.std.specs.List.{AllByRecursion}
use Rattle.sval_label.specs.Calls.{Call}
use Rattle.sval_core.specs.Trees.{Tree, calls_of}
use Rattle.sval_core.specs.Spells.{Spells}
use Rattle.sval_core.specs.Real.{IsReal}
use Rattle.sval_json.specs.Json.{Json, compact}
use Rattle.sval_json.specs.Shape.{json_of}
use Rattle.sval_buffer.specs.Forest.{Forest, Holds, forest, replayed}
use Rattle.sval_cbor.specs.declared.style.Style.{Style}
use Rattle.sval_cbor.specs.Packs.{PackRefusal, map_packed, pack_as, pack_of}
use Rattle.sval_cbor.specs.Cbor.{cbor_as}
use Rattle.sval_cbor.specs.Writing.{CborState, cbor_step, written_from, written_as, Went, HaveWholeTexts}
use Rattle.sval_cbor.specs.Premises.{IsShortTreeAs, HasPlainIdentifiers}

-- the bytes of a packed shape are bytes, in each style
abbrev pub CborIsBytes : Type 0
CborIsBytes = (style : Style) (tree : Tree) (json : Json) → IsReal tree → IsShortTreeAs style tree → pack_as style tree ≡ Ok json → AllByRecursion (λ byte. byte < 256) (cbor_as style.lengths json)

-- where a tree packs in the default style and its identifiers need no escapes, the tree has a shape too, and both have the same text
abbrev pub PacksAsWritten : Type 0
PacksAsWritten = (tree : Tree) (json : Json) → HasPlainIdentifiers tree → pack_of tree ≡ Ok json
    → (found : Json) × (json_of tree ≡ Ok found) × (compact json ≡ compact found)

-- what doesn't pack in one style doesn't pack in another, for the same cause
abbrev pub StylesRefuseAlike : Type 0
StylesRefuseAlike = (one other : Style) (tree : Tree) (why : PackRefusal) → pack_as one tree ≡ Err why → pack_as other tree ≡ Err why

-- whatever calls with whole texts spell a tree, the writer writes the bytes of what the tree packs to, or is refused as the tree is
abbrev pub WholeSpellingsAreWritten : Type 0
WholeSpellingsAreWritten =
    (style : Style) (calls : List Call) (tree : Tree) → Spells calls tree → HaveWholeTexts calls → written_as style calls ≡ map_packed (cbor_as style.lengths) (pack_as style tree)

-- the canonical calls of a tree have whole texts
abbrev pub CanonicalCallsAreWhole : Type 0
CanonicalCallsAreWhole = (tree : Tree) → HaveWholeTexts (calls_of tree)

-- however calls cut their texts: what is captured of calls that spell a tree is written as the bytes of what the tree packs to, or is refused as the tree is
abbrev pub CapturedIsWritten : Type 0
CapturedIsWritten = (style : Style) (calls : List Call) (tree : Tree) (captured : Forest) → Spells calls tree → forest calls ≡ Holds captured
    → written_as style (replayed captured) ≡ map_packed (cbor_as style.lengths) (pack_as style tree)

-- calls that were taken one by one are written as the bytes that they gave
abbrev pub TakenCallsAreWritten : Type 0
TakenCallsAreWritten = (start : CborState) (calls : List Call) (bytes : List ℕ) (state : CborState) → Went start calls bytes state → written_from calls start ≡ Ok bytes

-- and where the next call is refused, so are all calls that begin so
abbrev pub RefusedCallRefuses : Type 0
RefusedCallRefuses = (start : CborState) (calls more : List Call) (bytes : List ℕ) (state : CborState) (call : Call) (why : PackRefusal) → Went start calls bytes state
    → cbor_step call state ≡ Err why → written_from (calls ++ call ∷ more) start ≡ Err why
