use Rattle.std.proofs.Common.{◌≡◌, ◌++◌, sym, ap, ◌∙◌}
use Rattle.std.specs.List.{concat}
use Rattle.std.specs.Str.{bytes_eq}
use Rattle.sval_json.proofs.TextFronts.{behind_front}
use Rattle.sval_json_read.specs.Pointers.{reference_token}
use Rattle.sval_json_read.proofs.Pointers.{token_joined}
use Rattle.sval_cbor_read.proofs.cbor_text.CborText.has_token.Goals as goal

pub loop-text-preserved : goal.loop-text-preserved
loop-text-preserved c =
    let front = c.in-Some.text.now in
    let more = c.in-Some-token_behind.more.now in
    let left = concat c.next.new.self in
    let found : c.loop-text.rest.now ≡ reference_token front ++ more = c.in-Some-token_behind.ensures.found ∙ ap (λ row. reference_token row ++ more) c.as_bytes.ensures.value in
    sym (behind_front (reference_token front) (reference_token left) more)
    ∙ ap (λ row. bytes_eq (reference_token front ++ reference_token left) row) (sym found)
    ∙ ap (λ row. bytes_eq row c.loop-text.rest.now) (sym (token_joined front left))
    ∙ ap (λ row. bytes_eq (reference_token (concat row)) c.loop-text.rest.now) (sym c.in-Some.ensures)
    ∙ c.loop-text.invariant
