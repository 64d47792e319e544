-- What is asked of the innermost frame, and what becomes of it.
use Rattle.std.specs.Prelude.{ℕ, if◌then◌else◌, ◌&&◌, Bool, true, false, List, [], ◌∷◌, Option, Some, None}
use Rattle.sval_label.specs.Calls.{Name, Head, Slot}
use Rattle.sval_core.specs.Trees.{next_kind, kind_of}
use Rattle.sval_core.specs.SameNames.{same_name, same_head, same_slot}
use Rattle.sval_core.specs.Spells.{new_entries}
use Rattle.sval_core.specs.Checker as machine
use Rattle.sval_core.specs.Checker.{InText, InBinary, InTagged, InEnum, InContainer, InPart}
use Rattle.sval_core.specs.CheckerSteps as steps
use Rattle.sval_core.specs.CheckerSteps.{take_off, is_used_up, same_kind, may_end}
use Rattle.sval_check.specs.declared.frame.Frame.{Frame}
use Rattle.sval_check.specs.declared.frame.Frame.TheVariants as frame
use Rattle.sval_check.specs.declared.frame.Begin.{Begin}
use Rattle.sval_check.specs.declared.frame.Begin.TheVariants as begin
use Rattle.sval_check.specs.declared.frame.Content.{Content}
use Rattle.sval_check.specs.declared.frame.Content.TheVariants as content
use Rattle.sval_check.specs.declared.kept.NameParts.{NameParts}
use Rattle.sval_check.specs.declared.kept.NamedValue.{NamedValue}
use Rattle.sval_check.specs.declared.kept.NamedValue.TheVariants as value
use Rattle.sval_check.specs.Frames.{has_left}

-- the innermost is a tagged value, and an end's name is that of its begin
abbrev pub is_tagged : Option machine.Frame → Name → Bool
is_tagged (Some (InTagged name)) ended = same_name ended name
is_tagged top ended = false

-- the innermost is an enum, and an end's name is that of its begin
abbrev pub is_enum : Option machine.Frame → Name → Bool
is_enum (Some (InEnum name)) ended = same_name ended name
is_enum top ended = false

-- the innermost is a part, and an end says what its begin said
abbrev pub is_slot : Option machine.Frame → Slot → Bool
is_slot (Some (InPart slot)) ended = same_slot ended slot
is_slot top ended = false

-- a container may end with this head
abbrev pub may_end_with : Option machine.Frame → Head → Bool
may_end_with (Some (InContainer head kind left)) ended = same_head ended head && (may_end kind && is_used_up left)
may_end_with top ended = false

-- a text or binary may end
abbrev pub content_ends : Content → Option machine.Frame → Bool
content_ends content.Text (Some (InText left)) = is_used_up left
content_ends content.Binary (Some (InBinary left)) = is_used_up left
content_ends content top = false

-- what is still to come of a text or binary after so many bytes, if that is not too many
abbrev pub content_rest : Content → ℕ → Option machine.Frame → Option (Option ℕ)
content_rest content.Text n (Some (InText left)) = take_off left n
content_rest content.Binary n (Some (InBinary left)) = take_off left n
content_rest content n top = None

-- what is still to come of a container after a part at this place, if it may come
abbrev pub part_rest : Slot → Option machine.Frame → Option (Option ℕ)
part_rest slot (Some (InContainer head kind left)) = if same_kind (kind_of slot) kind then take_off left (new_entries slot) else None
part_rest slot top = None

-- a text or binary of which so much is still to come
abbrev pub with_left : Content → Option ℕ → List machine.Frame → List machine.Frame
with_left content.Text left (InText _ ∷ around) = InText left ∷ around
with_left content.Binary left (InBinary _ ∷ around) = InBinary left ∷ around
with_left content left frames = frames

-- a container of which so much is still to come after its next part
abbrev pub after_part : Option ℕ → List machine.Frame → List machine.Frame
after_part left (InContainer head kind _ ∷ around) = InContainer head (next_kind kind) left ∷ around
after_part left frames = frames

-- the checker's own frame of what begins without a name
abbrev pub bare_frame : Begin → Frame
bare_frame (begin.Text size) = frame.Text
bare_frame (begin.Binary size) = frame.Binary
bare_frame (begin.Seq size) = frame.Seq
bare_frame (begin.Map size) = frame.Map

-- the checker's own frame of a value with a name, which has these parts
abbrev pub named_frame : NamedValue → NameParts → Frame
named_frame value.Tagged parts = frame.Tagged parts
named_frame value.Enum parts = frame.Enum parts
named_frame value.Record parts = frame.Record parts
named_frame value.Tuple parts = frame.Tuple parts
named_frame value.RecordTuple parts = frame.RecordTuple parts

-- the size that a begin without a name gives
abbrev pub begun_size : Begin → Option ℕ
begun_size (begin.Text size) = size
begun_size (begin.Binary size) = size
begun_size (begin.Seq size) = size
begun_size (begin.Map size) = size

-- the checker's own frame is a container
abbrev pub is_container : Frame → Bool
is_container frame.Seq = true
is_container frame.Map = true
is_container frame.Entry = true
is_container (frame.Record parts) = true
is_container (frame.Tuple parts) = true
is_container (frame.RecordTuple parts) = true
is_container other = false

-- the innermost of the checker's own frames is a container
abbrev pub is_container_top : List Frame → Bool
is_container_top [] = false
is_container_top (top ∷ around) = is_container top

-- the checker's own frame of a container after its next part: in a map keys and values take turns
abbrev pub advanced : Frame → Frame
advanced frame.Map = frame.Entry
advanced frame.Entry = frame.Map
advanced kept = kept

-- a stack with its innermost changed
abbrev pub on_top : {A : Type 0} → (A → A) → List A → List A
on_top f [] = []
on_top f (top ∷ around) = f top ∷ around

-- a stack with what stands around its innermost changed
abbrev pub under_top : {A : Type 0} → (List A → List A) → List A → List A
under_top f [] = []
under_top f (top ∷ around) = top ∷ f around

-- what is still to come of each frame, where that of the innermost, if it is a container, becomes so much
abbrev pub lefts_after : Option ℕ → List Frame → List (Option ℕ) → List (Option ℕ)
lefts_after left frames lefts = if is_container_top frames then on_top (λ _. left) lefts else lefts

-- the same of the frame around the innermost
abbrev pub lefts_after_around : Option ℕ → List Frame → List (Option ℕ) → List (Option ℕ)
lefts_after_around left [] lefts = lefts
lefts_after_around left (top ∷ around) lefts =
    if has_left top then under_top (lefts_after left around) lefts else lefts_after left around lefts

-- the machine's step of a fragment of a text, or of a binary, with so many bytes
abbrev pub content_fragment : Content → ℕ → steps.Step
content_fragment content.Text = steps.text_fragment
content_fragment content.Binary = steps.binary_fragment

-- the machine's step of the end of a text, or of a binary
abbrev pub content_end : Content → steps.Step
content_end content.Text = steps.text_end
content_end content.Binary = steps.binary_end
