use Rattle.std.proofs.Common.{arith}
use Rattle.sval_script.proofs.SameRuns.{same_whole, same_halves}
use Rattle.sval_script.proofs.short.same.Goals as goal

pub returns-in-0-to-3 : goal.returns-in-0-to-3
returns-in-0-to-3 c = same_whole c.args.a.now c.args.b.now c.if-a-b.false _ c.same_by_one.ensures

pub returns-then-same_four : goal.returns-then-same_four
returns-then-same_four c =
    let front = c.same_four.ensures.0 c.if-same_four.true in
    same_halves 4 c.args.a.now c.args.b.now c.if-a-b.false (omega arith) (omega arith) front _ c.same_four-then-same_four.ensures

pub returns-then-same_eight : goal.returns-then-same_eight
returns-then-same_eight c =
    let front = c.same_eight.ensures.0 c.if-same_eight.true in
    same_halves 8 c.args.a.now c.args.b.now c.if-a-b.false (omega arith) (omega arith) front _ c.same_eight-then-same_eight.ensures

pub returns-then-same_sixteen : goal.returns-then-same_sixteen
returns-then-same_sixteen c =
    let front = c.same_sixteen.ensures.0 c.if-same_sixteen.true in
    same_halves 16 c.args.a.now c.args.b.now c.if-a-b.false (omega arith) (omega arith) front _ c.same_sixteen-then-same_sixteen.ensures
