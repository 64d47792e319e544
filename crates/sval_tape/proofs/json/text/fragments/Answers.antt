use Rattle.std.proofs.Common.{sym, ap, ◌∙◌, subst, ◌++◌}
use Rattle.sval_json.specs.Escape.{escaped}
use Rattle.sval_tape.specs.JsonAtFront.{FragmentsAt}
use Rattle.sval_tape.proofs.JsonTexts.{no_fragments, more_fragments}
use Rattle.sval_tape.proofs.json.text.fragments.Goals as goal

pub loop-init : goal.loop-init
loop-init c = no_fragments c.args.bytes.now c.args.out.now.bytes

pub loop-preserved : goal.loop-preserved
loop-preserved c =
    let written = c.in_ok-put_escaped.ensures ∙ ap (λ x. c.loop.out.bytes ++ escaped x) c.as_bytes.ensures.value in
    let fragment = c.in_ok-text.ensures in
    let more = more_fragments fragment.0 c.in_ok-text.text.now c.args.bytes.now c.loop.rest.now c.in_ok-text.following.now c.put_escaped.new.out.bytes c.loop.invariant fragment.1 written in
    subst (λ size. FragmentsAt c.args.bytes.now c.in_ok-text.following.now c.args.out.now.bytes c.put_escaped.new.out.bytes size) (sym c.in_ok-size.ensures.1) more
