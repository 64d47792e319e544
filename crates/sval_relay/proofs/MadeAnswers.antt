-- From what printing, serving and writing answered to what is told of a made script.
use Rattle.std.specs.Prelude.{◌≡◌, ℕ, ◌<◌, ◌^◌, List, [], ◌++◌, length, Some, Result, Ok, Err, refl}
use Rattle.std.proofs.Common.{ap, ◌∙◌, sym, inl, inr}
use Rattle.sval_label.specs.Calls.{Call}
use Rattle.sval_core.specs.Law.{Streams}
use Rattle.sval_core.specs.Values.{makes}
use Rattle.sval_io.specs.declared.sink.SinkError.{SinkError}
use Rattle.sval_io.specs.declared.sink.SinkError.TheVariants.{Failed, NoMemory}
use Rattle.sval_io.specs.Sinks.{Told, WritesWhole, WritesFront}
use Rattle.sval_io.specs.Taken.{Taken, taken_told}
use Rattle.sval_io.proofs.Appending.{all_is_front, steady_counts}
use Rattle.sval_json.specs.Json.{compact}
use Rattle.sval_script.specs.declared.printer.Printer.{Printer}
use Rattle.sval_script.specs.Lines.{lines}
use Rattle.sval_script.specs.Printed.{printed}
use Rattle.sval_script.specs.Printing.{printer_law, printer_standing, printing_of, printer_sink}
use Rattle.sval_script.proofs.Printers.{prints_all}
use Rattle.sval_relay.specs.declared.way.Task.{Task}
use Rattle.sval_relay.specs.declared.way.Way.TheVariants.{Buffered}
use Rattle.sval_relay.specs.declared.made.MadeError.{MadeError}
use Rattle.sval_relay.specs.declared.made.MadeError.TheVariants as answer
use Rattle.sval_relay.specs.Relays.{WritesVerdictText}
use Rattle.sval_relay.specs.Verdict.{Text, one_in, IsRelayVerdict, asked_in}
use Rattle.sval_relay.specs.Made.{made_script, made_calls, made_error, sizes_line, IsMadeLine, LacksRoomForLine, TellsMade}
use Rattle.sval_relay.specs.MadeLaws.{made_json, OneMadeLine}
use Rattle.sval_relay.proofs.MadeScripts.{made_is_text}
use Rattle.sval_relay.proofs.Verdicts.{one_of_lines}
use Rattle.sval_program.proofs.Growing.{counts_stay, front_of_nothing}

-- a script has one text
pub one_text : (script : List ℕ) (task : Task) {text other : List ℕ} → IsRelayVerdict (Text text) script task → IsRelayVerdict (Text other) script task → text ≡ other
one_text script task {text} {other} is also =
    let verdict : Text text ≡ Text other = one_of_lines (lines script) (asked_in task.way) task.many (Text text) (Text other) is also in cc verdict

-- a printer into memory that was empty holds the lines of the calls that it took
pub printed_whole : (calls : List Call) {old new : Printer Taken} → Streams printer_law (printer_standing taken_told old) (makes calls) (printer_standing taken_told new)
    → (printer_sink old).bytes ≡ [] → (printer_sink new).bytes ≡ printed calls
printed_whole calls {old} {new} s empty =
    let (known, done) = prints_all calls (printing_of taken_told old) (printing_of taken_told new) s.ran in
    let text : Some (printer_sink new).bytes ≡ Some ((printer_sink old).bytes ++ printed calls) = ap (λ printing. printing.told.text) done in
    let same : (printer_sink new).bytes ≡ (printer_sink old).bytes ++ printed calls = cc text in
    same ∙ ap (λ bytes. bytes ++ printed calls) empty

-- and memory that was empty holds the text that is the script's verdict
pub served_whole : {old new : Taken} {script text : List ℕ} {task : Task} → WritesVerdictText (taken_told old) (taken_told new) script task → old.bytes ≡ []
    → IsRelayVerdict (Text text) script task → new.bytes ≡ text
served_whole {old} {new} {script} {text} {task} wrote empty is =
    let taken : Some new.bytes ≡ Some (old.bytes ++ wrote.text) = wrote.appends.text in
    let same : new.bytes ≡ old.bytes ++ wrote.text = cc taken in
    same ∙ ap (λ bytes. bytes ++ wrote.text) empty ∙ one_text script task wrote.is is

-- ---- the line

-- the line that is due, by its two numbers
pub made_line : (count calls bytes : ℕ) → count < 2 ^ 64 → calls ≡ length (made_calls count) → bytes ≡ length (compact (made_json count))
    → IsMadeLine count (sizes_line calls bytes)
made_line count calls bytes small e f = record {
  text = compact (made_json count);
  is = made_is_text count small;
  says = ap (λ n. sizes_line n bytes) e ∙ ap (sizes_line (length (made_calls count))) f;
}

pub one_made_line : OneMadeLine
one_made_line count small =
    let calls = length (made_calls count) in
    let text = compact (made_json count) in (
      sizes_line calls (length text),
      made_line count calls (length text) small refl refl,
      λ other is. ap (λ due. sizes_line calls (length due)) (one_text (made_script count) (one_in Buffered) (made_is_text count small) is.is) ∙ sym is.says,
    )

module _ {K : Type 0} (told : K → Told) (count : ℕ) where
  -- memory was wanting before anything was written
  pub tells_nothing : count < 2 ^ 64 → (sink : K) → TellsMade told count (Err answer.NoMemory) sink sink
  tells_nothing small sink =
      let calls = length (made_calls count) in
      let bytes = length (compact (made_json count)) in
      record {
        line = sizes_line calls bytes;
        is = made_line count calls bytes small refl refl;
        done = λ never. cc never;
        steady = λ never. cc never;
        write = λ never. cc never;
        own_want = λ _. inl refl;
        front = front_of_nothing (told sink) (sizes_line calls bytes);
        counts = counts_stay (told sink);
      }

  pub tells_front : {old new : K} {line : List ℕ} (why : SinkError) → IsMadeLine count line → WritesFront why (told old) line (told new)
      → TellsMade told count (Err (made_error why)) old new
  tells_front {line = line} Failed is f = record {
    line = line;
    is = is;
    done = λ never. cc never;
    steady = λ never. cc never;
    write = λ _. f.cause;
    own_want = λ never. cc never;
    front = f.front;
    counts = f.counts;
  }
  tells_front {line = line} NoMemory is f = record {
    line = line;
    is = is;
    done = λ never. cc never;
    steady = λ never. cc never;
    write = λ never. cc never;
    own_want = λ _. inr f.cause;
    front = f.front;
    counts = f.counts;
  }

  -- the sink failed only where there was no room for the line
  pub full_for_line : {old new : K} {line : List ℕ} (why : SinkError) → IsMadeLine count line → WritesFront why (told old) line (told new)
      → ◌≡◌ {A = Result (Unit {0}) MadeError} (Err (made_error why)) (Err answer.Write) → LacksRoomForLine (told old) count
  full_for_line {line = line} Failed is f e = record { line = line; is = is; lacks = f.full refl }
  full_for_line NoMemory is f e = cc e

  pub tells_whole : {old new : K} {line : List ℕ} → IsMadeLine count line → WritesWhole (told old) line (told new) → TellsMade told count (Ok tt) old new
  tells_whole {line = line} is w = record {
    line = line;
    is = is;
    done = λ _. w.appends;
    steady = λ _. w.steady;
    write = λ never. cc never;
    own_want = λ never. cc never;
    front = all_is_front line w.appends;
    counts = steady_counts w.steady;
  }
