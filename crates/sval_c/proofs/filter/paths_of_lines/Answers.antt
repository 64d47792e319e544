use Rattle.std.specs.Prelude.{Err}
use Rattle.std.specs.Borrow.{Bor}
use Rattle.std.specs.Str.Iter.{lines_steps}
use Rattle.std.specs.Str.Lines.{lines}
use Rattle.std.proofs.Common.{List, ℕ, subst}
use Rattle.std.proofs.lemmas.Iterator.{YieldsList}
use Rattle.std.proofs.lemmas.Iterator.Consumers.{YieldsList-so_far, YieldsList-turn, YieldsList-end}
use Rattle.std.proofs.lemmas.Iterator.Splits.{YieldsList-from_lines}
use Rattle.sval_filter.specs.PathErrors.{AddsWord}
use Rattle.sval_filter.specs.declared.paths.PathError.{PathError}
use Rattle.sval_c.proofs.PathsRead.{none_read, one_more_read, all_read, one_unread, no_path_never}
use Rattle.sval_c.proofs.filter.paths_of_lines.Goals as goal

pub loop-word-init : goal.loop-word-init
loop-word-init c = none_read c.new-paths.ensures

pub loop-word-preserved : goal.loop-word-preserved
loop-word-preserved c =
    one_more_read c.loop-word.paths c.push_word.new.self c.loop-word.yielded c.in-Some.word c.loop-word.invariant c.in-Ok.ensures
    c.saturating_add-line.ensures

pub of_path-requires : goal.of_path-requires
of_path-requires c = λ is.
    no_path_never c.loop-word.paths c.push_word.new.self c.in-Some.word.now
    (subst (λ (why : PathError). AddsWord c.loop-word.paths c.in-Some.word.now (Err why) c.push_word.new.self) is c.in-Err.ensures)

pub returns-in-Err : goal.returns-in-Err
returns-in-Err c =
    let list : YieldsList lines_steps (λ (word : Bor (List ℕ)). word.now) c.into_iter-word-iterator.result (lines c.args.text.now) = YieldsList-from_lines c.args.text.now (cc) in
    let turn = YieldsList-turn list c.loop-word.yielded _ c.loop-word.yielded_by c.next.result _ c.in-Some.word c.in-Some.is c.next.ensures.steps in
    one_unread c.args.text.now c.utf8.text c.loop-word.yielded c.loop-word.paths c.push_word.new.self c.loop-word.line c.saturating_add-line.result c.in-Some.word.now c.in-Err.error c.of_path.result
    turn.0 (YieldsList-so_far list c.loop-word.yielded _ c.loop-word.yielded_by) turn.1 c.loop-word.invariant c.in-Err.ensures
    c.saturating_add-line.ensures c.of_path.ensures

pub returns : goal.returns
returns c =
    let list : YieldsList lines_steps (λ (word : Bor (List ℕ)). word.now) c.into_iter-word-iterator.result (lines c.args.text.now) = YieldsList-from_lines c.args.text.now (cc) in
    let all = YieldsList-end list c.loop-word.yielded _ c.loop-word.yielded_by _ _ c.in-None.is c.next.ensures.steps in
    all_read c.args.text.now c.utf8.text all.0 c.loop-word.invariant
