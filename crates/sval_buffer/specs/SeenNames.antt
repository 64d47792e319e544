-- What the calls with names are that a buffer keeps.
use Rattle.std.specs.Prelude.{◌≡◌, ℕ, ◌≤◌, ◌<◌, Bool, true, false, List, [], ◌∷◌, ◌++◌, Option, Some, None, option_map, IsSome, length, slice_range, slice_index_or, ⊤}
use Rattle.std.specs.Prelude.{IsUtf8, IsCharBoundary}
use Rattle.sval_label.specs.Calls as calls
use Rattle.sval_label.specs.Calls.{Call}
use Rattle.sval_label.specs.SeenTags.{seen_tag}
use Rattle.sval_label.specs.SeenIndex.{seen_index}
use Rattle.sval_buffer.specs.declared.kept.KeptText.{KeptText}
use Rattle.sval_buffer.specs.declared.kept.KeptText.TheVariants.{Static, Stored}
use Rattle.sval_buffer.specs.declared.kept.KeptLabel.{KeptLabel}
use Rattle.sval_buffer.specs.declared.named.NamedHead.{NamedHead}
use Rattle.sval_buffer.specs.declared.named.NamedHead.TheVariants as head
use Rattle.sval_buffer.specs.declared.named.NamedSlot.{NamedSlot}
use Rattle.sval_buffer.specs.declared.named.NamedSlot.TheVariants as slot
use Rattle.sval_buffer.specs.declared.named.NamedKind.{NamedKind}
use Rattle.sval_buffer.specs.declared.named.NamedKind.TheVariants as kind
use Rattle.sval_buffer.specs.declared.kept.NamedCall.{NamedCall}

-- the head of a container with this name
abbrev pub named_head : NamedHead → calls.Name → calls.Head
named_head head.Record name = calls.Record name
named_head head.Tuple name = calls.Tuple name
named_head head.RecordTuple name = calls.RecordTuple name

-- the name says what the place of a part says
abbrev pub HasParts : NamedSlot → calls.Name → Type 0
HasParts slot.Field name = IsSome name.label
HasParts slot.Place name = IsSome name.index
HasParts slot.FieldPlace name = IsSome name.label × IsSome name.index

-- the place of a part, by what its name says
abbrev pub named_slot : NamedSlot → calls.Name → calls.Slot
named_slot slot.Field name = elim name.label [ Some label ↦ calls.Field name.tag label | None ↦ calls.Item ]
named_slot slot.Place name = elim name.index [ Some index ↦ calls.Place name.tag index | None ↦ calls.Item ]
named_slot slot.FieldPlace name =
    elim name.label [ Some label ↦ elim name.index [ Some index ↦ calls.FieldPlace name.tag label index | None ↦ calls.Item ] | None ↦ calls.Item ]

-- the name says what the call says
abbrev pub HasName : NamedKind → calls.Name → Type 0
HasName (kind.Part part) name = HasParts part name
HasName kind.Hint name = IsSome name.tag
HasName _ name = ⊤

-- what a hint is kept as
abbrev pub hinted : NamedKind
hinted = kind.Hint

-- the begin of a container
abbrev pub IsBegin : NamedKind → Type 0
IsBegin kind.Tag = ⊥
IsBegin kind.Hint = ⊥
IsBegin _ = ⊤

-- the call of this kind with a name
abbrev pub named_call : NamedKind → calls.Name → Call
named_call kind.Tag name = calls.Standalone name
named_call kind.Hint name = elim name.tag [ Some tag ↦ calls.TagHint tag | None ↦ calls.Null ]
named_call kind.Enum name = calls.EnumBegin name
named_call kind.Tagged name = calls.TaggedBegin name
named_call (kind.Sized container size) name = calls.Begin (named_head container name) size
named_call (kind.Part part) name = calls.PartBegin (named_slot part name)

-- the text of a label, with the store of texts
abbrev pub kept_text : List ℕ → KeptText → List ℕ
kept_text texts (Static text) = text.now
kept_text texts (Stored start end) = slice_range texts start end

-- the label that has this text is static
abbrev pub kept_static : KeptText → Bool
kept_static (Static text) = true
kept_static (Stored start end) = false

-- a label, with the store of texts
abbrev pub stored_label : List ℕ → KeptLabel → calls.Label
stored_label texts label = record { text = kept_text texts label.text; tag = option_map seen_tag label.tag; is_static = kept_static label.text }

-- a name, with the store of texts
abbrev pub stored_name : List ℕ → NamedCall → calls.Name
stored_name texts call =
    record { tag = option_map seen_tag call.tag; label = option_map (stored_label texts) call.label; index = option_map seen_index call.index }

-- a call, with the store of texts
abbrev pub kept_call : List ℕ → NamedCall → Call
kept_call texts call = named_call call.kind (stored_name texts call)

-- a text between two places that stands in the store
abbrev pub TextStands : List ℕ → KeptText → Type 0
TextStands texts (Static text) = ⊤
TextStands texts (Stored start end) = (start ≤ end) × IsCharBoundary texts start × IsCharBoundary texts end

-- the same of a label's text
abbrev pub LabelStands : List ℕ → KeptLabel → Type 0
LabelStands texts label = TextStands texts label.text

-- the same of a label, if there is one
abbrev pub OptionStands : List ℕ → Option KeptLabel → Type 0
OptionStands texts (Some label) = LabelStands texts label
OptionStands texts None = ⊤

-- the label stands in the store, and the name says what the call says
pub record NameStands (texts : List ℕ) (call : NamedCall) : Type 0 where
  pub label : OptionStands texts call.label
  pub name : HasName call.kind (stored_name texts call)

-- the same of all calls that are kept
abbrev pub AllStand : List ℕ → List NamedCall → Type 0
AllStand texts [] = ⊤
AllStand texts (call ∷ calls) = NameStands texts call × AllStand texts calls

-- the store with a text more, or as it was
pub record StoreGrows (old new : List ℕ) : Type 0 where
  pub more : List ℕ
  pub utf8 : IsUtf8 more
  pub new_is : new ≡ old ++ more

-- the call at a place
abbrev pub call_at : List Call → ℕ → Call
call_at kept at = slice_index_or kept at calls.Null

-- the calls with others after them, or as they were
pub record Extends (old new : List Call) : Type 0 where
  pub more : List Call
  pub new_is : new ≡ old ++ more

-- there is a call at the place, and it is this one
pub record KeepsNamedCall (kept : List Call) (at : ℕ) (call : Call) : Type 0 where
  pub within : at < length kept
  pub is : call_at kept at ≡ call
