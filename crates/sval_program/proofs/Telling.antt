-- What the third device is told: a line in its pieces, and then passed on.
use Rattle.std.specs.Prelude.{◌≡◌, ℕ, List, [], ◌++◌, Result, Ok, Err}
use Rattle.std.proofs.Common.{sym, ap, subst, ◌∙◌, append-nil, append_assoc, arith}
use Rattle.sval_core.specs.Law.{Rose}
use Rattle.sval_io.specs.declared.sink.SinkError.{SinkError}
use Rattle.sval_io.specs.declared.sink.SinkError.TheVariants.{Failed, NoMemory}
use Rattle.sval_io.specs.Sinks.{Told, IsSteady, IsQuiet, IsCounted, WritesWhole, WritesFront, WritesAll, Flushes}
use Rattle.sval_io.proofs.Appending.{appends_nothing, all_is_front, steady_counts, counts_since, writes_nothing, writes_both, stops_after}
use Rattle.sval_program.specs.Reports.{TellsLine}
use Rattle.sval_program.proofs.Growing.{counts_stay, front_of_nothing, appends_kept}

-- ---- a line is written in three pieces

pub stops_in_first : {old new : Told} {why : SinkError} {line : List ℕ} (before digits after : List ℕ) → line ≡ before ++ (digits ++ after) → WritesFront why old before new → WritesFront why old line new
stops_in_first {old} before digits after are f = stops_after [] before (digits ++ after) (writes_nothing old) are f

pub stops_in_number : {old mid new : Told} {why : SinkError} {line : List ℕ} (before digits after : List ℕ) → line ≡ before ++ (digits ++ after) → WritesWhole old before mid → WritesFront why mid digits new → WritesFront why old line new
stops_in_number before digits after are w f = stops_after before digits after w are f

pub ends_line : {old mid last : Told} {line : List ℕ} (new : Told) (r : Result (Unit {0}) SinkError) (before digits after : List ℕ) → line ≡ before ++ (digits ++ after) → WritesWhole old before mid → WritesWhole mid digits last
    → WritesAll r last after new → WritesAll r old line new
ends_line {old} new (Ok done) before digits after are w d f = subst (λ line. WritesWhole old line new) (sym are) (writes_both before (digits ++ after) w (writes_both digits after d f))
ends_line new (Err why) before digits after are w d f =
    stops_after (before ++ digits) after [] (writes_both before digits w d) (are ∙ sym (append_assoc before digits after) ∙ ap (λ rest. before ++ digits ++ rest) (sym (append-nil after))) f

-- ---- the whole line, passed on or not, or a first part of it

-- a count that rose after steady steps rose over all of them
rose_since : {old mid new : Told} (why : SinkError) → IsSteady old mid → IsCounted why mid new → IsQuiet old new → ⊥
rose_since {new = new} Failed s rose quiet = quiet.faults (subst (λ count. Rose count new.faults) s.faults rose)
rose_since {new = new} NoMemory s rose quiet = quiet.wants (subst (λ count. Rose count new.wants) s.wants rose)

pub tells_nothing : (told : Told) → TellsLine told [] told
tells_nothing told = record { front = front_of_nothing told []; whole = λ quiet. appends_nothing told; passed_on = λ quiet some. absurd (omega (arith, some)); counts = counts_stay told }

pub tells_whole : {old mid new : Told} {line : List ℕ} (flushed : Result (Unit {0}) SinkError) → WritesWhole old line mid → Flushes flushed mid new → TellsLine old line new
tells_whole {line = line} (Ok done) w f =
    let all = appends_kept w.appends f.text f.room in
    record { front = all_is_front line all; whole = λ quiet. all; passed_on = λ quiet some. f.flushed; counts = counts_since w.steady (steady_counts f.steady) }
tells_whole {line = line} (Err why) w f =
    let all = appends_kept w.appends f.text f.room in
    record { front = all_is_front line all; whole = λ quiet. all; passed_on = λ quiet some. absurd (rose_since why w.steady f.cause quiet); counts = counts_since w.steady f.counts }

pub tells_front : {old new : Told} {line : List ℕ} (why : SinkError) → WritesFront why old line new → TellsLine old line new
tells_front Failed f = record { front = f.front; whole = λ quiet. absurd (quiet.faults f.cause); passed_on = λ quiet some. absurd (quiet.faults f.cause); counts = f.counts }
tells_front NoMemory f = record { front = f.front; whole = λ quiet. absurd (quiet.wants f.cause); passed_on = λ quiet some. absurd (quiet.wants f.cause); counts = f.counts }
