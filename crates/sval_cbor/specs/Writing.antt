-- The writer call by call, over calls that have each text and each binary in one fragment, as those of a captured value do.
use Rattle.std.specs.Prelude.{◌≡◌, ℕ, Bool, true, false, List, [], ◌∷◌, ◌++◌, if◌then◌else◌, Option, Some, None, Result, Ok, Err}
use Rattle.std.specs.Fmt.{signed_decimal}
use Rattle.sval_label.specs.Calls.{Call, Head, Slot, Name}
use Rattle.sval_label.specs.Texts.{truth_text}
use Rattle.sval_core.specs.Trees.{TextKind, Ordinary, Number, JsonValue, JsonText, JsonNumber, text_kind}
use Rattle.sval_json.specs.Json.{Json, null, number}
use Rattle.sval_json.specs.Number as json
use Rattle.sval_json.specs.Number.{normal}
use Rattle.sval_json.specs.Shape.{handle, own, bare_text}
use Rattle.sval_cbor.specs.declared.style.Lengths.{Lengths}
use Rattle.sval_cbor.specs.declared.style.Lengths.TheVariants.{Indefinite, Definite}
use Rattle.sval_cbor.specs.declared.style.Style.{Style}
use Rattle.sval_cbor.specs.declared.style.TheConstants.Style.{DEFAULT}
use Rattle.sval_cbor.specs.Packs.{PackRefusal, BadKey, BadNumber, RawJson, on_packed, map_packed, number_pack, binary_shape}
use Rattle.sval_cbor.specs.Cbor.{string, truth_bytes, row_head, row_end, cbor_as, cbor}
use Rattle.sval_cbor.specs.Counting.{counts_due}

-- where the writer stands as to enums: in none that matters, in one that has begun and holds nothing yet, or after a value that has a handle
pub data EnumPlace : Type 0 where
  Elsewhere : EnumPlace
  Begun : EnumPlace
  Ended : EnumPlace

-- The style, the place, whether it is in a map's key, and whether text stands for a number. Where lengths are definite, also
-- how many items or pairs each container has that is still to begin, in the order of the begins.
pub record CborState : Type 0 where
  pub style : Style
  pub place : EnumPlace
  pub in_key : Bool
  pub in_number : Bool
  pub counts : List ℕ

-- a state by its five parts
abbrev pub cbor_state : Style → EnumPlace → Bool → Bool → List ℕ → CborState
cbor_state style place in_key in_number counts = record { style = style; place = place; in_key = in_key; in_number = in_number; counts = counts }

-- before the first call: outside enums, keys and numbers
abbrev pub cbor_start : Style → List ℕ → CborState
cbor_start style counts = cbor_state style Elsewhere false false counts

-- the bytes of a call, and the state after it
pub record CborStep : Type 0 where
  pub bytes : List ℕ
  pub state : CborState

-- a step that writes these bytes and leads to this state
abbrev pub writes : List ℕ → CborState → Result CborStep PackRefusal
writes bytes state = Ok (record { bytes = bytes; state = state })

-- in a key a simple value is its text
abbrev pub simple : Bool → List ℕ → List ℕ → List ℕ
simple in_key text bytes = if in_key then string 3 text else bytes

-- a simple value, by its text in a key and its bytes elsewhere, and then the place matters no more
abbrev pub simple_step : List ℕ → List ℕ → CborState → Result CborStep PackRefusal
simple_step text bytes state = writes (simple state.in_key text bytes) (record state { place = Elsewhere })

-- a simple value by its shape
abbrev pub json_step : Json → CborState → Result CborStep PackRefusal
json_step json state = simple_step (bare_text json) (cbor json) state

-- text that stands for a number
abbrev pub number_key : Result (List ℕ) json.Refusal → Result (List ℕ) PackRefusal
number_key (Ok digits) = Ok (string 3 digits)
number_key (Err _) = Err BadNumber

-- in a key the digits of its normal form, and elsewhere the number or `null`
abbrev pub number_bytes : Bool → Result (List ℕ) json.Refusal → Result (List ℕ) PackRefusal
number_bytes in_key digits = if in_key then number_key digits else map_packed cbor (number_pack digits)

-- a whole text, where it may stand for a number
abbrev pub text_bytes : CborState → List ℕ → Result (List ℕ) PackRefusal
text_bytes state bytes = if state.in_number then number_bytes state.in_key (normal bytes) else Ok (string 3 bytes)

-- no container stands in a key
abbrev pub unless_key : CborState → Result CborStep PackRefusal → Result CborStep PackRefusal
unless_key state cbor_step = if state.in_key then Err BadKey else cbor_step

-- directly in an enum a map of the one pair of the handle and the value begins
abbrev pub opening : Lengths → Option (List ℕ) → EnumPlace → Bool → Result (List ℕ) PackRefusal
opening lengths (Some bytes) Begun in_key = if in_key then Err BadKey else Ok (row_head lengths 5 1 ++ string 3 bytes)
opening lengths _ _ _ = Ok []

-- what a name opens, and then these bytes
abbrev pub opens_name : Name → List ℕ → CborState → CborState → Result CborStep PackRefusal
opens_name name bytes next state = on_packed (opening state.style.lengths (handle name) state.place state.in_key) (λ front. writes (front ++ bytes) next)

-- after a value with a name
abbrev pub after_handle : Option (List ℕ) → EnumPlace
after_handle (Some _) = Ended
after_handle None = Elsewhere

-- the same of a state
abbrev pub cbor_after_name : Name → CborState → CborState
cbor_after_name name state = record state { place = after_handle (handle name) }

-- what an enum's end writes: for one that holds nothing what its name is by itself, and else the end of the map that its value was put into
abbrev pub enum_end_bytes : Lengths → EnumPlace → Bool → Json → List ℕ
enum_end_bytes lengths Begun in_key json = simple in_key (bare_text json) (cbor json)
enum_end_bytes lengths Ended in_key json = if in_key then [] else row_end lengths
enum_end_bytes lengths Elsewhere in_key json = []

-- a tag under which text is meant as raw JSON refuses, in a key only after what its name or kind refuses there
abbrev pub tagged_begins : TextKind → Name → CborState → Result CborStep PackRefusal
tagged_begins Ordinary name state = opens_name name [] (record state { place = Elsewhere }) state
tagged_begins Number name state = opens_name name [] (record state { place = Elsewhere; in_number = true }) state
tagged_begins JsonValue name state = if state.in_key then Err BadKey else Err RawJson
tagged_begins JsonText name state = on_packed (opening state.style.lengths (handle name) state.place state.in_key) (λ front. Err RawJson)
tagged_begins JsonNumber name state = on_packed (opening state.style.lengths (handle name) state.place state.in_key) (λ front. Err RawJson)

-- the first of these counts
abbrev pub first_count : List ℕ → ℕ
first_count [] = 0
first_count (count ∷ counts) = count

-- the counts after a container's begin, which takes the first where lengths are definite
abbrev pub later_counts : Lengths → List ℕ → List ℕ
later_counts Indefinite counts = counts
later_counts Definite [] = []
later_counts Definite (count ∷ counts) = counts

-- the head of an array or a map, by its major type
abbrev pub next_head : ℕ → CborState → List ℕ
next_head major state = row_head state.style.lengths major (first_count state.counts)

-- the state after it
abbrev pub after_head : CborState → CborState
after_head state = record state { place = Elsewhere; counts = later_counts state.style.lengths state.counts }

-- arrays and maps, behind the name of a record, a tuple or a record tuple
abbrev pub cbor_container_begins : Head → CborState → Result CborStep PackRefusal
cbor_container_begins Head.Seq state = unless_key state (writes (next_head 4 state) (after_head state))
cbor_container_begins Head.Map state = unless_key state (writes (next_head 5 state) (after_head state))
cbor_container_begins (Head.Record name) state = unless_key state (opens_name name (next_head 5 state) (after_head state) state)
cbor_container_begins (Head.Tuple name) state = unless_key state (opens_name name (next_head 4 state) (after_head state) state)
cbor_container_begins (Head.RecordTuple name) state = unless_key state (opens_name name (next_head 5 state) (after_head state) state)

-- the break, where lengths are indefinite
abbrev pub cbor_container_ends : Head → CborState → Result CborStep PackRefusal
cbor_container_ends Head.Seq state = writes (row_end state.style.lengths) (record state { place = Elsewhere })
cbor_container_ends Head.Map state = writes (row_end state.style.lengths) (record state { place = Elsewhere })
cbor_container_ends (Head.Record name) state = writes (row_end state.style.lengths) (cbor_after_name name state)
cbor_container_ends (Head.Tuple name) state = writes (row_end state.style.lengths) (cbor_after_name name state)
cbor_container_ends (Head.RecordTuple name) state = writes (row_end state.style.lengths) (cbor_after_name name state)

-- a field's label is a key
abbrev pub cbor_part_begins : Slot → CborState → Result CborStep PackRefusal
cbor_part_begins Slot.Item state = writes [] (record state { place = Elsewhere })
cbor_part_begins Slot.Key state = writes [] (record state { place = Elsewhere; in_key = true })
cbor_part_begins Slot.Value state = writes [] (record state { place = Elsewhere })
cbor_part_begins (Slot.Field _ label) state = writes (string 3 label.text) (record state { place = Elsewhere })
cbor_part_begins (Slot.Place _ _) state = writes [] (record state { place = Elsewhere })
cbor_part_begins (Slot.FieldPlace _ label _) state = writes (string 3 label.text) (record state { place = Elsewhere })

-- after a key the writer is in no key
abbrev pub cbor_part_ends : Slot → CborState → Result CborStep PackRefusal
cbor_part_ends Slot.Key state = writes [] (record state { place = Elsewhere; in_key = false })
cbor_part_ends _ state = writes [] (record state { place = Elsewhere })

-- a binary, by its one fragment
abbrev pub binary_bytes : Style → List ℕ → List ℕ
binary_bytes style bytes = cbor_as style.lengths (binary_shape style.binaries bytes)

-- what one call writes, and the state after it, or why it is refused
abbrev pub cbor_step : Call → CborState → Result CborStep PackRefusal
cbor_step Call.Null state = json_step null state
cbor_step (Call.Truth b) state = simple_step (truth_text b) (truth_bytes b) state
cbor_step (Call.Int _ n) state = json_step (number (signed_decimal n)) state
cbor_step (Call.Standalone name) state = json_step (own name) state
cbor_step (Call.TagHint _) state = writes [] state
cbor_step (Call.TextBegin _) state = writes [] state
cbor_step (Call.TextFragment _ bytes) state = on_packed (text_bytes state bytes) (λ made. writes made (record state { place = Elsewhere }))
cbor_step Call.TextEnd state = writes [] state
cbor_step (Call.BinaryBegin _) state = unless_key state (writes [] (record state { place = Elsewhere }))
cbor_step (Call.BinaryFragment _ bytes) state = writes (binary_bytes state.style bytes) state
cbor_step Call.BinaryEnd state = writes [] state
cbor_step (Call.EnumBegin name) state = opens_name name [] (record state { place = Begun }) state
cbor_step (Call.EnumEnd name) state = writes (enum_end_bytes state.style.lengths state.place state.in_key (own name)) (cbor_after_name name state)
cbor_step (Call.TaggedBegin name) state = tagged_begins (text_kind name.tag) name state
cbor_step (Call.TaggedEnd name) state = writes [] (cbor_after_name name (record state { in_number = false }))
cbor_step (Call.Begin head _) state = cbor_container_begins head state
cbor_step (Call.End head) state = cbor_container_ends head state
cbor_step (Call.PartBegin slot) state = cbor_part_begins slot state
cbor_step (Call.PartEnd slot) state = cbor_part_ends slot state

-- the bytes of all calls from a state on, or the first refusal
abbrev pub written_from : List Call → CborState → Result (List ℕ) PackRefusal
written_from [] state = Ok []
written_from (call ∷ calls) state = on_packed (cbor_step call state) (λ done. map_packed (λ more. done.bytes ++ more) (written_from calls done.state))

-- the bytes of all calls in a style, or the first refusal
abbrev pub written_as : Style → List Call → Result (List ℕ) PackRefusal
written_as style calls = written_from calls (cbor_start style (counts_due style.lengths calls))

-- the same in the default style
abbrev pub written_cbor : List Call → Result (List ℕ) PackRefusal
written_cbor calls = written_as DEFAULT calls

-- Went start calls bytes state: from a state on these calls were taken one by one, with these bytes, and have led to this state
pub data Went : CborState → List Call → List ℕ → CborState → Type 0 where
  at_start : {start : CborState} → Went start [] [] start
  onward : {start : CborState} {calls : List Call} {bytes : List ℕ} {state : CborState} {done : CborStep} (call : Call) → Went start calls bytes state → cbor_step call state ≡ Ok done
      → Went start (calls ++ call ∷ []) (bytes ++ done.bytes) done.state

-- how much of a text or binary has come
pub data FragmentProgress : Type 0 where
  NoText : FragmentProgress
  NoFragment : FragmentProgress
  OneFragment : FragmentProgress

-- where a text or binary stands after a call, or none where it isn't in one fragment
abbrev pub fragment_progress : FragmentProgress → Call → Option FragmentProgress
fragment_progress so_far (Call.TagHint _) = Some so_far
fragment_progress NoFragment (Call.TextFragment _ _) = Some OneFragment
fragment_progress NoFragment (Call.BinaryFragment _ _) = Some OneFragment
fragment_progress OneFragment Call.TextEnd = Some NoText
fragment_progress OneFragment Call.BinaryEnd = Some NoText
fragment_progress NoText (Call.TextBegin _) = Some NoFragment
fragment_progress NoText (Call.BinaryBegin _) = Some NoFragment
fragment_progress NoText _ = Some NoText
fragment_progress _ _ = None

-- each text and each binary from here on comes in one fragment
abbrev pub are_whole : Option FragmentProgress → List Call → Bool
are_whole None _ = false
are_whole (Some _) [] = true
are_whole (Some so_far) (call ∷ calls) = are_whole (fragment_progress so_far call) calls

-- from outside texts and binaries on
abbrev pub HaveWholeTexts : List Call → Type 0
HaveWholeTexts calls = are_whole (Some NoText) calls ≡ true
