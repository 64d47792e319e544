-- The script of records that is made, and what is told of serving it.
use Rattle.std.specs.Prelude.{◌≡◌, ℕ, pos, List, [], ◌∷◌, ◌++◌, length, flat_map, codes, decimal, true, false, None, Some, Result, Ok, Err}
use Rattle.std.specs.List.{range_with_len}
use Rattle.sval_label.specs.Calls.{Call, Label, Int, U64, TextBegin, TextFragment, TextEnd, Field, Seq, Record}
use Rattle.sval_core.specs.Law.{Rose}
use Rattle.sval_core.specs.Names.{ident_tag, no_name}
use Rattle.sval_core.specs.ValueCalls.{part_calls, container_calls, item_calls}
use Rattle.sval_io.specs.declared.sink.SinkError.{SinkError}
use Rattle.sval_io.specs.declared.sink.SinkError.TheVariants as sink
use Rattle.sval_io.specs.Sinks.{Told, IsSteady, NoCountFell, LacksRoom, Appends, AppendsFront}
use Rattle.sval_script.specs.Printed.{printed}
use Rattle.sval_relay.specs.declared.way.Way.TheVariants.{Buffered}
use Rattle.sval_relay.specs.declared.made.MadeError.{MadeError}
use Rattle.sval_relay.specs.declared.made.MadeError.TheVariants as answer
use Rattle.sval_program.specs.Outputs.{IsOwnWant}
use Rattle.sval_relay.specs.Verdict.{Text, one_in, IsRelayVerdict}

-- ---- the script

-- the label of a field, as a script gives it: it stands in the program's text as a name
abbrev pub made_field_label : List ℕ → Label
made_field_label text = record { text = text; tag = Some ident_tag; is_static = false }

-- the field `id`, which is a number
unfoldable pub id_calls : ℕ → List Call
id_calls i = part_calls (Field None (made_field_label (codes "id"))) (Int U64 (pos i) ∷ [])

-- the field `name`, which is `n` and the number's digits, in two fragments
unfoldable pub name_calls : ℕ → List Call
name_calls i =
    part_calls (Field None (made_field_label (codes "name")))
    (TextBegin None ∷ TextFragment true (codes "n") ∷ TextFragment false (decimal i) ∷ TextEnd ∷ [])

-- the record of a number
unfoldable pub record_calls : ℕ → List Call
record_calls i = container_calls (Record no_name) 2 (id_calls i ++ name_calls i)

-- the sequence of the records of the numbers below this one
abbrev pub made_calls : ℕ → List Call
made_calls count = container_calls Seq count (flat_map (item_calls record_calls) (range_with_len 0 count))

-- a line for each of these calls
abbrev pub made_script : ℕ → List ℕ
made_script count = printed (made_calls count)

-- ---- what is told

-- `calls C json B`
abbrev pub sizes_line : ℕ → ℕ → List ℕ
sizes_line calls bytes = codes "calls " ++ (decimal calls ++ (codes " json " ++ (decimal bytes ++ codes "\n")))

-- the line that is due: how many calls the script has, and how long the text is that is its verdict
pub record IsMadeLine (count : ℕ) (line : List ℕ) : Type 0 where
  pub text : List ℕ
  pub is : IsRelayVerdict (Text text) (made_script count) (one_in Buffered)
  pub says : line ≡ sizes_line (length (made_calls count)) (length text)

-- that line has no place in the room that the sink tells
pub record LacksRoomForLine (old : Told) (count : ℕ) : Type 0 where
  pub line : List ℕ
  pub is : IsMadeLine count line
  pub lacks : LacksRoom old line

-- the error of a sink that refused
abbrev pub made_error : SinkError → MadeError
made_error sink.Failed = answer.Write
made_error sink.NoMemory = answer.NoMemory

-- On Ok the line that is due was taken. Each error has its cause, whatever comes a first part of that line was taken, and no count falls.
pub record TellsMade {K : Type 0} (told : K → Told) (count : ℕ) (result : Result (Unit {0}) MadeError) (old new : K) : Type 0 where
  pub line : List ℕ
  pub is : IsMadeLine count line
  pub done : result ≡ Ok tt → Appends (told old) line (told new)
  pub steady : result ≡ Ok tt → IsSteady (told old) (told new)
  pub write : result ≡ Err answer.Write → Rose (told old).faults (told new).faults
  pub own_want : result ≡ Err answer.NoMemory → IsOwnWant told old new
  pub front : AppendsFront (told old) line (told new)
  pub counts : NoCountFell (told old) (told new)
