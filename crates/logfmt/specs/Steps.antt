-- The line call by call: what is due, and what a call writes.
use Rattle.std.specs.Prelude.{ℕ, List, [], ◌∷◌, ◌++◌, codes, Result, Ok, Err}
use Rattle.std.specs.Fmt.{signed_decimal}
use Rattle.sval_label.specs.Calls.{Call, Null, Truth, Int, TagHint, TextBegin, TextFragment, TextEnd, Begin, End, PartBegin, PartEnd, Record, RecordTuple, Field, FieldPlace}
use Rattle.sval_label.specs.Texts.{truth_text}
use Rattle.sval_json.specs.Escape.{escaped}
use Rattle.logfmt.specs.declared.LogfmtError.{LogfmtError}
use Rattle.logfmt.specs.declared.LogfmtError.TheVariants.{NotFlat}
use Rattle.logfmt.specs.declared.writer.Due.{Due}
use Rattle.logfmt.specs.declared.writer.Due.TheVariants as due
use Rattle.logfmt.specs.Pairs.{logfmt_then, a_key}

-- what is due, and the text so far
pub record Begun : Type 0 where
  pub due : Due
  pub text : List ℕ

abbrev pub LogfmtStep : Type 0
LogfmtStep = Result Begun LogfmtError

-- nothing is written, and then this is due
abbrev pub waits : List ℕ → Due → LogfmtStep
waits text next = Ok (record { due = next; text = text })

-- this text more, and then this is due
abbrev pub adds_text : List ℕ → List ℕ → Due → LogfmtStep
adds_text text more next = waits (text ++ more) next

-- a space, unless nothing stands before it
abbrev pub space_after : List ℕ → List ℕ
space_after [] = []
space_after (byte ∷ text) = codes " "

-- a label is a key
abbrev pub key_step : List ℕ → List ℕ → LogfmtStep
key_step label text = logfmt_then (a_key label) (λ key. adds_text text (space_after text ++ key ++ codes "=") due.Value)

-- what a call does where this is due, after this text; hints are passed over
abbrev pub step_at : Call → Due → List ℕ → LogfmtStep
step_at (TagHint tag) due text = waits text due
step_at (Begin (Record name) size) due.Line text = waits text due.Pair
step_at (Begin (RecordTuple name) size) due.Line text = waits text due.Pair
step_at (PartBegin (Field tag label)) due.Pair text = key_step label.text text
step_at (PartBegin (FieldPlace tag label index)) due.Pair text = key_step label.text text
step_at (End (Record name)) due.Pair text = waits text due.Nothing
step_at (End (RecordTuple name)) due.Pair text = waits text due.Nothing
step_at Null due.Value text = adds_text text (codes "null") due.ValueEnd
step_at (Truth b) due.Value text = adds_text text (truth_text b) due.ValueEnd
step_at (Int type number) due.Value text = adds_text text (signed_decimal number) due.ValueEnd
step_at (TextBegin size) due.Value text = adds_text text (codes "\"") due.Text
step_at (TextFragment borrowed bytes) due.Text text = adds_text text (escaped bytes) due.Text
step_at TextEnd due.Text text = adds_text text (codes "\"") due.ValueEnd
step_at (PartEnd (Field tag label)) due.ValueEnd text = waits text due.Pair
step_at (PartEnd (FieldPlace tag label index)) due.ValueEnd text = waits text due.Pair
step_at _ _ text = Err NotFlat

abbrev pub logfmt_step : Call → Begun → LogfmtStep
logfmt_step call begun = step_at call begun.due begun.text

-- many calls, up to the first that is refused
abbrev pub logfmt_steps : List Call → Begun → LogfmtStep
logfmt_steps [] begun = Ok begun
logfmt_steps (call ∷ calls) begun = logfmt_then (logfmt_step call begun) (logfmt_steps calls)
