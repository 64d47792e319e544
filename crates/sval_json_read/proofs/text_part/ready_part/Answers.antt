use Rattle.std.proofs.Common.{◌≡◌, ◌+◌, ◌-◌, ◌<◌, ◌≤◌, length, refl, arith}
use Rattle.std.specs.List.{between}
use Rattle.std.proofs.lemmas.List.Edits.{length-between}
use Rattle.sval_json_read.proofs.TextParts.{ready_nothing, ready_no_escape, ready_escape, found_first, found_next}
use Rattle.sval_json_read.proofs.text_part.ready_part.Goals as goal

pub loop-from-init : goal.loop-from-init
loop-from-init c = record { ready = ready_nothing c.args.bytes.now c.args.from (omega arith); within = omega arith }

pub due_escape-length-requires : goal.due_escape-length-requires
due_escape-length-requires c = λ some.
    let at = c.loop-from.at in
    let run = c.before_backslash.result in
    let end = c.min-end.result in
    let text = c.args.bytes.now in
    let within : end ≤ length text = omega arith in
    let left : length (between (at + run) end text) ≡ end - (at + run) = length-between text (at + run) end within in
    let near : at + run < end = omega (arith, left, some) in
    found_next text at end run c.before_backslash.ensures.found within c.loop-from.invariant.within near

pub returns-then-length-eq0-clause-stop : goal.returns-then-length-eq0-clause-stop
returns-then-length-eq0-clause-stop c = λ l.
    let within : c.min-end.result ≤ length c.args.bytes.now = omega arith in
    found_first c.args.bytes.now c.loop-from.at c.min-end.result c.before_backslash.result c.before_backslash.ensures.found within c.loop-from.invariant.within (omega (arith, l))

pub returns-then-length-eq0-clause-ready : goal.returns-then-length-eq0-clause-ready
returns-then-length-eq0-clause-ready c =
    let at = c.loop-from.at in
    let end = c.min-end.result in
    let text = c.args.bytes.now in
    let order = c.loop-from.invariant.within in
    let within : end ≤ length text = omega arith in
    let size : length (between at end text) ≡ end - at = length-between text at end within in
    let run = c.before_backslash.ensures.within in
    ready_no_escape (at + c.before_backslash.result) end c.before_backslash.result c.loop-from.invariant.ready refl (omega (arith, size, run)) within c.before_backslash.ensures.before

pub loop-from-preserved : goal.loop-from-preserved
loop-from-preserved c =
    let at = c.loop-from.at in
    let run = c.before_backslash.result in
    let n = c.due_escape-length.result in
    let end = c.min-end.result in
    let text = c.args.bytes.now in
    let order = c.loop-from.invariant.within in
    let within : end ≤ length text = omega arith in
    let size : length (between at end text) ≡ end - at = length-between text at end within in
    let last : at + run ≤ end = (let w = c.before_backslash.ensures.within in omega (arith, size, w)) in
    let left : length (between (at + run) end text) ≡ end - (at + run) = length-between text (at + run) end within in
    let room : at + run + n ≤ end = (let w = c.due_escape-length.ensures.within in omega (arith, left, last, w)) in
    record {
      ready = ready_escape (at + run) end n (ready_no_escape (at + run) end run c.loop-from.invariant.ready refl last within c.before_backslash.ensures.before) within room c.due_escape-length.ensures.due;
      within = room;
    }
