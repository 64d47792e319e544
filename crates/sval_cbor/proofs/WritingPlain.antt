-- The writer's steps do not see what leaves no trace in a tree, and joined bytes of joined calls.
use Rattle.std.specs.Prelude.{◌≡◌, ℕ, Bool, true, false, List, [], ◌∷◌, ◌++◌, Option, Some, None, option_map, if◌then◌else◌, Result, Ok, Err, refl}
use Rattle.std.specs.List.{cons_option}
use Rattle.std.proofs.Common.{sym, ap, ◌∙◌, append_assoc}
use Rattle.sval_label.specs.Calls.{Call, Head, Slot, Name, Label, Index}
use Rattle.sval_core.specs.Trees.{plain_label, plain_name, TextKind, Ordinary, Number, JsonValue, JsonText, JsonNumber, text_kind}
use Rattle.sval_core.specs.Spells.{plain, plain_call, bare_label, bare_index, bare_name}
use Rattle.sval_json.specs.Json.{Json}
use Rattle.sval_json.specs.Shape.{handle, handle_of, is_none_tag, label_or_index, own}
use Rattle.sval_json.proofs.Writing.{handle_bare}
use Rattle.sval_cbor.specs.Packs.{PackRefusal, RawJson, on_packed, map_packed}
use Rattle.sval_cbor.specs.Cbor.{row_end}
use Rattle.sval_cbor.specs.Writing.{Elsewhere, Begun, CborState, CborStep, next_head, after_head, writes, unless_key, opening, opens_name, after_handle, cbor_after_name, enum_end_bytes, tagged_begins, json_step, cbor_step, written_from, FragmentProgress, NoText, NoFragment, OneFragment, fragment_progress, are_whole}
use Rattle.sval_json.proofs.WritingPlain.{handle_plain}

-- ---- bytes in front of others

abbrev pub prepend : List ℕ → Result (List ℕ) PackRefusal → Result (List ℕ) PackRefusal
prepend bytes r = map_packed (λ more. bytes ++ more) r

pub prepend_nothing : (r : Result (List ℕ) PackRefusal) → prepend [] r ≡ r
prepend_nothing (Ok x) = refl
prepend_nothing (Err why) = refl

pub prepend_twice : (a b : List ℕ) (r : Result (List ℕ) PackRefusal) → prepend a (prepend b r) ≡ prepend (a ++ b) r
prepend_twice a b (Ok x) = ap Ok (sym (append_assoc a b x))
prepend_twice a b (Err why) = refl

-- what is written, and then the rest
abbrev pub and_then : Result (List ℕ) PackRefusal → Result (List ℕ) PackRefusal → Result (List ℕ) PackRefusal
and_then first rest = on_packed first (λ bytes. prepend bytes rest)

-- ---- names

own_plain_by : (b : Bool) (label : Option Label) (d : Option (List ℕ)) → label_or_index (option_map plain_label label) d ≡ label_or_index label d
own_plain_by b None d = refl
own_plain_by b (Some l) d = refl

pub plain_own : (name : Name) → own (plain_name name) ≡ own name
plain_own name = ap (λ x. if is_none_tag name.tag then Json.null else x) (own_plain_by true name.label (handle_of None name.index))

label_bare : (label : Option Label) (index : Option Index) → label_or_index (option_map bare_label label) (handle_of None (option_map bare_index index)) ≡ label_or_index label (handle_of None index)
label_bare None None = refl
label_bare None (Some i) = refl
label_bare (Some l) None = refl
label_bare (Some l) (Some i) = refl

pub bare_own : (name : Name) → own (bare_name name) ≡ own name
bare_own name = ap (λ x. if is_none_tag name.tag then Json.null else x) (label_bare name.label name.index)

pub bare_handle : (name : Name) → handle (bare_name name) ≡ handle name
bare_handle name = handle_bare name.label name.index

pub plain_handle : (name : Name) → handle (plain_name name) ≡ handle name
plain_handle name = handle_plain name.label name.index

-- ---- calls

opens_plain : (name : Name) (bytes : List ℕ) (next state : CborState) → opens_name (plain_name name) bytes next state ≡ opens_name name bytes next state
opens_plain name bytes next state = ap (λ h. on_packed (opening state.style.lengths h state.place state.in_key) (λ front. writes (front ++ bytes) next)) (plain_handle name)

ends_bare : (name : Name) (bytes : List ℕ) (state : CborState) → writes bytes (cbor_after_name (bare_name name) state) ≡ writes bytes (cbor_after_name name state)
ends_bare name bytes state = ap (λ h. writes bytes (record state { place = after_handle h })) (bare_handle name)

tagged_plain : (kind : TextKind) (name : Name) (state : CborState) → tagged_begins kind (plain_name name) state ≡ tagged_begins kind name state
tagged_plain Ordinary name state = opens_plain name [] (record state { place = Elsewhere }) state
tagged_plain Number name state = opens_plain name [] (record state { place = Elsewhere; in_number = true }) state
tagged_plain JsonValue name state = refl
tagged_plain JsonText name state = ap (λ h. on_packed (opening state.style.lengths h state.place state.in_key) (λ front. Err RawJson)) (plain_handle name)
tagged_plain JsonNumber name state = ap (λ h. on_packed (opening state.style.lengths h state.place state.in_key) (λ front. Err RawJson)) (plain_handle name)

abbrev SameStep : Option Call → Call → CborState → Type 0
SameStep None call state = writes [] state ≡ cbor_step call state
SameStep (Some other) call state = cbor_step other state ≡ cbor_step call state

same_step : (call : Call) (state : CborState) → SameStep (plain_call call) call state
same_step (Call.TagHint _) state = refl
same_step (Call.TextFragment _ bytes) state = refl
same_step (Call.BinaryFragment _ bytes) state = refl
same_step (Call.Standalone name) state = ap (λ json. json_step json state) (plain_own name)
same_step (Call.EnumBegin name) state = opens_plain name [] (record state { place = Begun }) state
same_step (Call.EnumEnd name) state =
    ap (λ json. writes (enum_end_bytes state.style.lengths state.place state.in_key json) (cbor_after_name (bare_name name) state)) (bare_own name) ∙ ends_bare name (enum_end_bytes state.style.lengths state.place state.in_key (own name)) state
same_step (Call.TaggedBegin name) state = tagged_plain (text_kind name.tag) name state
same_step (Call.TaggedEnd name) state = ends_bare name [] (record state { in_number = false })
same_step (Call.Begin Head.Seq size) state = refl
same_step (Call.Begin Head.Map size) state = refl
same_step (Call.Begin (Head.Record name) size) state = ap (unless_key state) (opens_plain name (next_head 5 state) (after_head state) state)
same_step (Call.Begin (Head.Tuple name) size) state = ap (unless_key state) (opens_plain name (next_head 4 state) (after_head state) state)
same_step (Call.Begin (Head.RecordTuple name) size) state = ap (unless_key state) (opens_plain name (next_head 5 state) (after_head state) state)
same_step (Call.End Head.Seq) state = refl
same_step (Call.End Head.Map) state = refl
same_step (Call.End (Head.Record name)) state = ends_bare name (row_end state.style.lengths) state
same_step (Call.End (Head.Tuple name)) state = ends_bare name (row_end state.style.lengths) state
same_step (Call.End (Head.RecordTuple name)) state = ends_bare name (row_end state.style.lengths) state
same_step (Call.PartBegin Slot.Item) state = refl
same_step (Call.PartBegin _) state = refl
same_step (Call.PartEnd Slot.Item) state = refl
same_step (Call.PartEnd _) state = refl
same_step _ state = refl

abbrev with_rest : List Call → Result CborStep PackRefusal → Result (List ℕ) PackRefusal
with_rest calls r = on_packed r (λ done. prepend done.bytes (written_from calls done.state))

same_rest : (calls other : List Call) → ((state : CborState) → written_from calls state ≡ written_from other state) → (r : Result CborStep PackRefusal) → with_rest calls r ≡ with_rest other r
same_rest calls other h (Ok done) = ap (prepend done.bytes) (h done.state)
same_rest calls other h (Err why) = refl

plain_one : (o : Option Call) (call : Call) (calls other : List Call) (state : CborState) → SameStep o call state → ((s : CborState) → written_from calls s ≡ written_from other s)
    → written_from (cons_option o calls) state ≡ written_from (call ∷ other) state
plain_one None call calls other state e h = h state ∙ sym (prepend_nothing (written_from other state)) ∙ ap (with_rest other) e
plain_one (Some c) call calls other state e h = same_rest calls other h (cbor_step c state) ∙ ap (with_rest other) e

pub written_plain : (calls : List Call) (state : CborState) → written_from (plain calls) state ≡ written_from calls state
written_plain [] state = refl
written_plain (call ∷ calls) state = plain_one (plain_call call) call (plain calls) calls state (same_step call state) (written_plain calls)

-- ---- whole texts

abbrev SameProgress : Option Call → Call → FragmentProgress → Type 0
SameProgress None call so_far = Some so_far ≡ fragment_progress so_far call
SameProgress (Some other) call so_far = fragment_progress so_far other ≡ fragment_progress so_far call

same_progress : (so_far : FragmentProgress) (call : Call) → SameProgress (plain_call call) call so_far
same_progress NoText (Call.TagHint _) = refl
same_progress NoText (Call.TextBegin _) = refl
same_progress NoText (Call.BinaryBegin _) = refl
same_progress NoText _ = refl
same_progress NoFragment (Call.TagHint _) = refl
same_progress NoFragment (Call.TextFragment _ _) = refl
same_progress NoFragment (Call.BinaryFragment _ _) = refl
same_progress NoFragment _ = refl
same_progress OneFragment (Call.TagHint _) = refl
same_progress OneFragment Call.TextEnd = refl
same_progress OneFragment Call.BinaryEnd = refl
same_progress OneFragment _ = refl

whole_some : (o : Option FragmentProgress) (calls other : List Call) → ((so_far : FragmentProgress) → are_whole (Some so_far) calls ≡ are_whole (Some so_far) other) → are_whole o calls ≡ are_whole o other
whole_some None calls other h = refl
whole_some (Some so_far) calls other h = h so_far

whole_one : (o : Option Call) (call : Call) (calls other : List Call) (so_far : FragmentProgress) → SameProgress o call so_far → ((p : FragmentProgress) → are_whole (Some p) calls ≡ are_whole (Some p) other)
    → are_whole (Some so_far) (cons_option o calls) ≡ are_whole (Some so_far) (call ∷ other)
whole_one None call calls other so_far e h = h so_far ∙ ap (λ o. are_whole o other) e
whole_one (Some c) call calls other so_far e h = whole_some (fragment_progress so_far c) calls other h ∙ ap (λ o. are_whole o other) e

pub whole_plain : (calls : List Call) (so_far : FragmentProgress) → are_whole (Some so_far) (plain calls) ≡ are_whole (Some so_far) calls
whole_plain [] so_far = refl
whole_plain (call ∷ calls) so_far = whole_one (plain_call call) call (plain calls) calls so_far (same_progress so_far call) (whole_plain calls)
