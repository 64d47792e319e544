-- The machine that takes the calls which can be completed, as a function: what a call makes of its state, if it takes it.
use Rattle.std.specs.Prelude.{ℕ, ◌-◌, ◌==◌, Bool, true, false, not, ◌&&◌, nat_le, if◌then◌else◌, List, [], ◌∷◌, ◌++◌, length, Option, Some, None, is_some, option_map}
use Rattle.std.specs.Bool.{then_some}
use Rattle.std.specs.Option.{unwrap_or}
use Rattle.sval_label.specs.Calls.{Call, Head, Slot, Name}
use Rattle.sval_core.specs.Trees.{Kind, Item, Key, Value, Field, Place, FieldPlace, kind_of, first_kind, next_kind, TextKind, Ordinary, text_kind, plain_name, plain_head, plain_slot}
use Rattle.sval_core.specs.Spells.{new_entries}
use Rattle.sval_core.specs.SameNames.{same_name, same_head, same_slot}
use Rattle.sval_core.specs.Stacks.{top_of, below}
use Rattle.sval_core.specs.Checker.{Frame, InText, InBinary, InTagged, InEnum, InContainer, InPart, State}
use Rattle.sval_core.specs.ManyChecker.{is_whole_value, ready, Progress}

-- what is told apart of a value that begins: it is a text, or what an enum may hold, or neither
pub data Form : Type 0 where
  OneText : Form
  Variant : Form
  Other : Form

-- the value is a text
abbrev pub is_text : Form → Bool
is_text OneText = true
is_text Variant = false
is_text Other = false

-- the value is what an enum may hold
abbrev pub is_variant : Form → Bool
is_variant OneText = false
is_variant Variant = true
is_variant Other = false

-- the form of a container: an enum may hold it unless it is a sequence or a map
abbrev pub form_of_head : Head → Form
form_of_head Head.Seq = Other
form_of_head Head.Map = Other
form_of_head (Head.Record _) = Variant
form_of_head (Head.Tuple _) = Variant
form_of_head (Head.RecordTuple _) = Variant

-- a tag under which text is meant in a way of its own holds directly one text
abbrev pub may_hold : TextKind → Form → Bool
may_hold Ordinary form = true
may_hold kind form = is_text form

-- a value of this form may begin directly in the innermost frame, or outside all
abbrev pub admits : Option Frame → Form → Bool
admits None form = true
admits (Some (InPart _)) form = true
admits (Some (InTagged name)) form = may_hold (text_kind name.tag) form
admits (Some (InEnum _)) form = is_variant form
admits (Some (InText _)) form = false
admits (Some (InBinary _)) form = false
admits (Some (InContainer _ _ _)) form = false

-- what is left of a size of which n come now, if that is not too many
abbrev pub take_off : Option ℕ → ℕ → Option (Option ℕ)
take_off None n = Some None
take_off (Some due) n = then_some (nat_le n due) (Some (due - n))

-- of a size nothing is still to come, if it was given
abbrev pub is_used_up : Option ℕ → Bool
is_used_up None = true
is_used_up (Some due) = due == 0

-- the two kinds of parts are the same
abbrev pub same_kind : Kind → Kind → Bool
same_kind Item Item = true
same_kind Key Key = true
same_kind Value Value = true
same_kind Field Field = true
same_kind Place Place = true
same_kind FieldPlace FieldPlace = true
same_kind a b = false

-- a container may end unless a key waits for its value
abbrev pub may_end : Kind → Bool
may_end Value = false
may_end kind = true

-- the state of these frames where a whole value stands directly in the innermost
abbrev pub filled : List Frame → State
filled frames = record { filled = true; frames = frames }

-- the state of these frames where no whole value stands directly in the innermost
abbrev pub unfilled : List Frame → State
unfilled frames = record { filled = false; frames = frames }

-- ---- a kind of call each

-- a value of this form may begin
abbrev pub has_room : Form → State → Bool
has_room form s = not s.filled && admits (top_of s.frames) form

-- a value that is one call
abbrev pub value : Form → State → Option State
value form s = then_some (has_room form s) (filled s.frames)

-- the begin of a value
abbrev pub begin : Form → Frame → State → Option State
begin form frame s = then_some (has_room form s) (unfilled (frame ∷ s.frames))

-- a step by whether a whole value stands in the innermost frame, that frame, and the frames around it
abbrev pub Step : Type 0
Step = Bool → Option Frame → List Frame → Option State

-- what a step makes of a state
abbrev pub at_top : Step → State → Option State
at_top step s = step s.filled (top_of s.frames) (below s.frames)

-- the step of a text's fragment, which has so many bytes
abbrev pub text_fragment : ℕ → Step
text_fragment n false (Some (InText left)) around = option_map (λ rest. unfilled (InText rest ∷ around)) (take_off left n)
text_fragment n b top around = None

-- the step of a text's end: of a size that was given nothing is still to come
abbrev pub text_end : Step
text_end false (Some (InText left)) around = then_some (is_used_up left) (filled around)
text_end b top around = None

-- the step of a binary's fragment, which has so many bytes
abbrev pub binary_fragment : ℕ → Step
binary_fragment n false (Some (InBinary left)) around = option_map (λ rest. unfilled (InBinary rest ∷ around)) (take_off left n)
binary_fragment n b top around = None

-- the step of a binary's end: of a size that was given nothing is still to come
abbrev pub binary_end : Step
binary_end false (Some (InBinary left)) around = then_some (is_used_up left) (filled around)
binary_end b top around = None

-- the step of a tagged value's end: it holds a whole value, and its end says the name of its begin
abbrev pub tagged_end : Name → Step
tagged_end ended true (Some (InTagged name)) around = then_some (same_name ended name) (filled around)
tagged_end ended b top around = None

-- the step of an enum's end, which says the name of its begin; an enum may be empty
abbrev pub enum_end : Name → Step
enum_end ended b (Some (InEnum name)) around = then_some (same_name ended name) (filled around)
enum_end ended b top around = None

-- the step of a container's end, which says what its begin said: no key waits, of a given size nothing is to come
abbrev pub end : Head → Step
end ended false (Some (InContainer head kind left)) around = then_some (same_head ended head && (may_end kind && is_used_up left)) (filled around)
end ended b top around = None

-- a part begins in its container, where one of its kind comes next
abbrev pub begun_part : Bool → Slot → Head → Kind → List Frame → Option (Option ℕ) → Option State
begun_part true slot head kind around (Some rest) = Some (unfilled (InPart (plain_slot slot) ∷ InContainer head (next_kind kind) rest ∷ around))
begun_part b slot head kind around left = None

-- the step of a part's begin: its kind comes next in its container, whose size, if it was given, has room for it
abbrev pub part_begin : Slot → Step
part_begin slot false (Some (InContainer head kind left)) around =
    begun_part (same_kind (kind_of slot) kind) slot head kind around (take_off left (new_entries slot))
part_begin slot b top around = None

-- the step of a part's end, which says what its begin said: a whole value stands in the part
abbrev pub part_end : Slot → Step
part_end ended true (Some (InPart slot)) around = then_some (same_slot ended slot) (unfilled around)
part_end ended b top around = None

-- the state after a call, if the machine takes it
abbrev pub next : State → Call → Option State
next s Call.Null = value Other s
next s (Call.Truth _) = value Other s
next s (Call.Int _ _) = value Other s
next s (Call.Standalone _) = value Variant s
next s (Call.TagHint _) = Some s
next s (Call.TextBegin size) = begin OneText (InText size) s
next s (Call.TextFragment _ bytes) = at_top (text_fragment (length bytes)) s
next s Call.TextEnd = at_top text_end s
next s (Call.BinaryBegin size) = begin Other (InBinary size) s
next s (Call.BinaryFragment _ bytes) = at_top (binary_fragment (length bytes)) s
next s Call.BinaryEnd = at_top binary_end s
next s (Call.EnumBegin name) = begin Variant (InEnum (plain_name name)) s
next s (Call.EnumEnd name) = at_top (enum_end name) s
next s (Call.TaggedBegin name) = begin Variant (InTagged (plain_name name)) s
next s (Call.TaggedEnd name) = at_top (tagged_end name) s
next s (Call.Begin head size) = begin (form_of_head head) (InContainer (plain_head head) (first_kind head) size) s
next s (Call.End head) = at_top (end head) s
next s (Call.PartBegin slot) = at_top (part_begin slot) s
next s (Call.PartEnd slot) = at_top (part_end slot) s

-- the machine takes the call
abbrev pub goes_on : State → Call → Bool
goes_on s call = is_some (next s call)

-- the state after a call; one that isn't taken leaves it
abbrev pub state_after : Call → State → State
state_after call s = unwrap_or (next s call) s

-- the calls that were taken spell a tree
abbrev pub is_whole_tree : State → Bool
is_whole_tree s = is_whole_value s.filled s.frames

-- ---- lists of trees: after a whole tree the next one may begin

-- the state in which the next call is taken: a whole tree is done with
abbrev pub before_call : Progress → State
before_call now = record { filled = ready now.filled now.frames; frames = now.frames }

-- where the machine stands after the call with this number
abbrev pub progress : ℕ → List ℕ → State → Progress
progress number ends s = record {
  filled = s.filled;
  frames = s.frames;
  ends = if is_whole_tree s then ends ++ (number ∷ []) else ends;
}

-- the same of lists, where the call has this number; a hint leaves all
abbrev pub next_of_list : ℕ → Progress → Call → Option Progress
next_of_list number now (Call.TagHint _) = Some now
next_of_list number now call = option_map (progress number now.ends) (next (before_call now) call)
