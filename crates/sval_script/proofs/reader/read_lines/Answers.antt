use Rattle.std.proofs.Common.{rules, arith, ◌≡◌, ◌+◌, ◌<◌, [], length, Err, ap, refl, ◌∙◌}
use Rattle.sval_script.specs.LineCalls.{stored}
use Rattle.sval_script.proofs.ScriptPieces.{read-start, read-step, read-shorter, read-bad, none}
use Rattle.sval_script.proofs.reader.read_lines.Goals as goal

pub loop-rest-init : goal.loop-rest-init
loop-rest-init c = read-start c.args.bytes.now (stored c.args.store.now) c.args.lines.now.items c.requires.holds c.requires.whole

pub returns-in-Err-Bad-clause-bad : goal.returns-in-Err-Bad-clause-bad
returns-in-Err-Bad-clause-bad c n more e =
    let same : c.len.result + 1 ≡ n = cc e in
    let count : n ≡ length c.loop-rest.lines.items + 1 = omega arith in
    let some : 0 < length c.loop-rest.rest.now = search rules in
    rw count (read-bad c.loop-rest.invariant (c.in-Err-Bad.ensures.bad (ap Err c.in-Err-Bad.field-0-is)) some more)

pub loop-rest-smaller : goal.loop-rest-smaller
loop-rest-smaller c = read-shorter c.loop-rest.rest.now (stored c.loop-rest.store) (stored c.read_line.new.store) c.in-Ok.read.0 c.in-Ok.read.1.now c.in-Ok.ensures.made

pub loop-rest-preserved : goal.loop-rest-preserved
loop-rest-preserved c =
    let some : 0 < length c.loop-rest.rest.now = search rules in
    rw c.in_ok-push.ensures.items (read-step (stored c.read_line.new.store) c.in-Ok.read.0 c.in-Ok.read.1.now c.loop-rest.invariant some c.in-Ok.ensures.made)

pub returns-clause-read : goal.returns-clause-read
returns-clause-read c =
    let spent : c.loop-rest.rest.now ≡ [] = none c.loop-rest.rest.now (search rules) in
    record { holds = c.loop-rest.invariant.holds; goes_on = λ more. c.loop-rest.invariant.here more ∙ rw spent refl }
