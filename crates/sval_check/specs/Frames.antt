-- The frames of the checker as those of the machine.
use Rattle.std.specs.Prelude.{ℕ, Bool, true, false, ◌&&◌, List, [], ◌∷◌, Option, None}
use Rattle.sval_label.specs.Calls as call
use Rattle.sval_core.specs.Trees as kind
use Rattle.sval_core.specs.Checker as machine
use Rattle.sval_core.specs.Checker.{InText, InBinary, InTagged, InEnum, InContainer, InPart}
use Rattle.sval_core.specs.CheckerSteps as steps
use Rattle.sval_core.specs.Stacks.{below}
use Rattle.sval_check.specs.declared.frame.Frame.{Frame}
use Rattle.sval_check.specs.declared.frame.Frame.TheVariants as frame
use Rattle.sval_check.specs.declared.frame.Begin.{Begin}
use Rattle.sval_check.specs.declared.frame.Begin.TheVariants as begin
use Rattle.sval_check.specs.declared.frame.Form.{Form}
use Rattle.sval_check.specs.declared.frame.Form.TheVariants as form
use Rattle.sval_check.specs.declared.names.Names.{Names}
use Rattle.sval_check.specs.Stacked.{top_if, below_if, label_in, index_in}
use Rattle.sval_check.specs.Kept.{innermost_name, without_name}

-- what a begin without a name opens
abbrev pub begun_frame : Begin → machine.Frame
begun_frame (begin.Text size) = InText size
begun_frame (begin.Binary size) = InBinary size
begun_frame (begin.Seq size) = InContainer call.Seq kind.Item size
begun_frame (begin.Map size) = InContainer call.Map kind.Key size

-- what is told apart of its value
abbrev pub begun_form : Begin → steps.Form
begun_form (begin.Text size) = steps.OneText
begun_form begun = steps.Other

-- the innermost frame, by what is still to come of it and the names
abbrev pub frame_in : Frame → Option ℕ → Names → machine.Frame
frame_in frame.Text left names = InText left
frame_in frame.Binary left names = InBinary left
frame_in frame.Seq left names = InContainer call.Seq kind.Item left
frame_in frame.Map left names = InContainer call.Map kind.Key left
frame_in frame.Entry left names = InContainer call.Map kind.Value left
frame_in frame.Item left names = InPart call.Item
frame_in frame.Key left names = InPart call.Key
frame_in frame.Value left names = InPart call.Value
frame_in (frame.Tagged parts) left names = InTagged (innermost_name parts names)
frame_in (frame.Enum parts) left names = InEnum (innermost_name parts names)
frame_in (frame.Record parts) left names = InContainer (call.Record (innermost_name parts names)) kind.Field left
frame_in (frame.Tuple parts) left names = InContainer (call.Tuple (innermost_name parts names)) kind.Place left
frame_in (frame.RecordTuple parts) left names = InContainer (call.RecordTuple (innermost_name parts names)) kind.FieldPlace left
frame_in (frame.Field tag) left names = InPart (call.Field (top_if tag names.tags) (label_in names.labels))
frame_in (frame.Place tag) left names = InPart (call.Place (top_if tag names.tags) (index_in names.indexes))
frame_in (frame.FieldPlace tag) left names = InPart (call.FieldPlace (top_if tag names.tags) (label_in names.labels) (index_in names.indexes))

-- it is kept what is still to come of the frame, if a size was given
abbrev pub has_left : Frame → Bool
has_left frame.Text = true
has_left frame.Binary = true
has_left frame.Seq = true
has_left frame.Map = true
has_left frame.Entry = true
has_left (frame.Record parts) = true
has_left (frame.Tuple parts) = true
has_left (frame.RecordTuple parts) = true
has_left other = false

-- the names of the frames around this one
abbrev pub names_around : Frame → Names → Names
names_around (frame.Tagged parts) names = without_name parts names
names_around (frame.Enum parts) names = without_name parts names
names_around (frame.Record parts) names = without_name parts names
names_around (frame.Tuple parts) names = without_name parts names
names_around (frame.RecordTuple parts) names = without_name parts names
names_around (frame.Field tag) names = record { tags = below_if tag names.tags; labels = below names.labels; indexes = names.indexes }
names_around (frame.Place tag) names = record { tags = below_if tag names.tags; labels = names.labels; indexes = below names.indexes }
names_around (frame.FieldPlace tag) names = record { tags = below_if tag names.tags; labels = below names.labels; indexes = below names.indexes }
names_around other names = names

-- what is still to come of the innermost frame that keeps that
abbrev pub innermost_left : List (Option ℕ) → Option ℕ
innermost_left [] = None
innermost_left (left ∷ lefts) = left

-- all that is open, with the innermost first: the frames, what is still to come of them, and their names
abbrev pub frames_of : List Frame → List (Option ℕ) → Names → List machine.Frame
frames_of [] lefts names = []
frames_of (frame ∷ frames) lefts names =
    frame_in frame (innermost_left lefts) names ∷ frames_of frames (below_if (has_left frame) lefts) (names_around frame names)

-- where one is meant, there is one
abbrev pub is_there : Bool → List (Option ℕ) → Bool
is_there false lefts = true
is_there true [] = false
is_there true (left ∷ lefts) = true

-- each frame that keeps what is still to come of it has it
abbrev pub are_counted : List Frame → List (Option ℕ) → Bool
are_counted [] lefts = true
are_counted (frame ∷ frames) lefts = is_there (has_left frame) lefts && are_counted frames (below_if (has_left frame) lefts)

-- what is told apart of a value that begins
abbrev pub seen_form : Form → steps.Form
seen_form form.Text = steps.OneText
seen_form form.Variant = steps.Variant
seen_form form.Other = steps.Other
