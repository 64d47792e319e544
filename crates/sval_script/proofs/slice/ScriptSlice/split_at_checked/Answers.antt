use Rattle.std.proofs.Common.{arith, refl, sym, ap, ◌∙◌, ◌≡◌, ◌++◌, take, drop, length}
use Rattle.std.proofs.lemmas.List.{take-append-drop}
use Rattle.sval_script.specs.declared.line.Line.TheVariants.{Alone}
use Rattle.sval_script.specs.declared.word.Alone.TheVariants.{Null}
use Rattle.sval_script.proofs.ScriptTexts.{length-calls_with}
use Rattle.sval_script.proofs.ScriptSlices.{cut_start, cut_step, cut_holds, cut_fits, cut_done}
use Rattle.sval_script.proofs.slice.ScriptSlice.split_at_checked.Goals as goal

pub returns-then-count-self-clause-comes : goal.returns-then-count-self-clause-comes
returns-then-count-self-clause-comes c =
    let count : length c.args.self.now ≡ length c.self.inside.lines.now =
    sym (ap length c.self.view_is) ∙ length-calls_with c.self.inside.bytes.now c.self.inside.numbers.now c.self.inside.lines.now in
    (λ never. cc, λ within. absurd (omega arith))

pub returns-clause-comes : goal.returns-clause-comes
returns-clause-comes c =
    let count : length c.args.self.now ≡ length c.self.inside.lines.now =
    sym (ap length c.self.view_is) ∙ length-calls_with c.self.inside.bytes.now c.self.inside.numbers.now c.self.inside.lines.now in
    (λ some. omega arith, λ within. refl)

pub loop-line-init : goal.loop-line-init
loop-line-init c =
    let are : c.self.inside.lines.now ≡ c.split_at.result.0.now ++ c.split_at.result.1.now =
    rw (c.split_at.ensures.front, c.split_at.ensures.back) (sym (take-append-drop c.args.count c.self.inside.lines.now)) in
    cut_start c.args.self.now c.self.inside.bytes.now c.self.inside.numbers.now c.self.inside.lines.now c.split_at.result.0.now c.split_at.result.1.now
    c.self.invariant c.self.view_is are

pub skip-requires : goal.skip-requires
skip-requires c =
    (cut_holds c.split_at.result.0.now c.split_at.result.1.now c.loop-line.line-index (Alone Null) c.loop-line.invariant c.loop-line-test.true).0

pub loop-line-preserved : goal.loop-line-preserved
loop-line-preserved c =
    rw (c.skip.ensures.bytes, c.skip.ensures.numbers)
    (cut_step c.split_at.result.0.now c.split_at.result.1.now c.loop-line.line-index (Alone Null) c.loop-line.invariant c.loop-line-test.true)

pub overflow_sub-self-inside : goal.overflow_sub-self-inside
overflow_sub-self-inside c = (cut_fits c.loop-line.invariant).0

pub overflow_sub-self-inside-2 : goal.overflow_sub-self-inside-2
overflow_sub-self-inside-2 c = (cut_fits c.loop-line.invariant).1

pub invariant_of-first : goal.invariant_of-first
invariant_of-first c =
    rw (c.split_at-2.ensures.front, c.split_at-3.ensures.front)
    (cut_done c.split_at.result.0.now c.split_at.result.1.now c.loop-line.line-index c.loop-line.invariant c.loop-line-test.false).holds

pub invariant_of-behind : goal.invariant_of-behind
invariant_of-behind c =
    rw (c.split_at-2.ensures.back, c.split_at-3.ensures.back)
    (cut_done c.split_at.result.0.now c.split_at.result.1.now c.loop-line.line-index c.loop-line.invariant c.loop-line-test.false).holds_behind

pub returns-clause-first : goal.returns-clause-first
returns-clause-first c =
    let done = cut_done c.split_at.result.0.now c.split_at.result.1.now c.loop-line.line-index c.loop-line.invariant c.loop-line-test.false in
    rw (c.split_at-2.ensures.front, c.split_at-3.ensures.front) (done.first_calls ∙ ap (λ count. take count c.args.self.now) c.split_at.ensures.front_len)

pub returns-clause-behind : goal.returns-clause-behind
returns-clause-behind c =
    let done = cut_done c.split_at.result.0.now c.split_at.result.1.now c.loop-line.line-index c.loop-line.invariant c.loop-line-test.false in
    rw (c.split_at-2.ensures.back, c.split_at-3.ensures.back) (done.behind_calls ∙ ap (λ count. drop count c.args.self.now) c.split_at.ensures.front_len)
