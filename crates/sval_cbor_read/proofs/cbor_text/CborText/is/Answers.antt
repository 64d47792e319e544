use Rattle.std.proofs.Common.{◌≡◌, ◌++◌, sym, ap, ◌∙◌}
use Rattle.std.specs.List.{concat}
use Rattle.std.specs.Str.{bytes_eq}
use Rattle.sval_json.proofs.TextFronts.{behind_front}
use Rattle.sval_cbor_read.proofs.cbor_text.CborText.is.Goals as goal

pub loop-text-preserved : goal.loop-text-preserved
loop-text-preserved c =
    let front = c.in-Some.text.now in
    let more = c.in-Some-behind.more.now in
    let found : c.loop-text.rest.now ≡ front ++ more = c.in-Some-behind.ensures.found ∙ ap (λ row. row ++ more) c.as_bytes.ensures.value in
    sym (behind_front front (concat c.next.new.self) more) ∙ ap (λ row. bytes_eq (front ++ concat c.next.new.self) row) (sym found) ∙ ap (λ row. bytes_eq (concat row) c.loop-text.rest.now) (sym c.in-Some.ensures)
    ∙ c.loop-text.invariant
