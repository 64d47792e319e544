use Rattle.std.specs.Prelude.{Ok, refl}
use Rattle.std.proofs.Common.{ap, sym, subst, ◌≡◌, ◌∙◌, ◌++◌}
use Rattle.sval_json.specs.Number.{normal}
use Rattle.sval_tape.specs.JsonAtFront.{NumberAt}
use Rattle.sval_tape.proofs.JsonTexts.{number_at_front}
use Rattle.sval_tape.proofs.JsonFront.{if_there}
use Rattle.sval_tape.proofs.json.text.number.Goals as goal

pub returns : goal.returns
returns c =
    if_there c.behind-2.result
    (λ rest ends.
    let fragment = c.in_ok-text.ensures in
    let normal_text = subst (λ x. normal x ≡ Ok x) c.as_bytes.ensures.value (c.if-not-is_normal.ensures refl) in
    let at = number_at_front c.in_ok-given.given c.in_ok-behind.field-0.now c.in_ok-given.inner.now c.in_ok-text.following.now rest.now fragment.0 c.in_ok-text.text.now
    c.in_ok-given.ensures fragment.1 ends (c.if-not-is_size.ensures refl) normal_text (c.in_ok-put.ensures ∙ ap (λ x. c.args.out.now.bytes ++ x) c.as_bytes-2.ensures.value) in
    subst (λ x. NumberAt x rest.now c.args.out.now.bytes c.put.new.out.bytes) (sym c.in_ok-behind.ensures) at)
    c.behind-2.ensures
