use Rattle.std.proofs.Common.{◌≡◌, ◌∙◌, ◌++◌, ap, sym, subst, drop, take-append-drop}
use Rattle.sval_json.specs.Escape.{escaped}
use Rattle.sval_json_read.specs.SeenValues.{text_in}
use Rattle.sval_json_read.specs.TextParts.{IsReadyPart}
use Rattle.sval_json_read.proofs.TextParts.{ready_front}
use Rattle.sval_json_read.proofs.node_text.split_ready.Goals as goal

pub returns-clause-text : goal.returns-clause-text
returns-clause-text c =
    let raw = c.args.raw.now in
    let part = c.ready_part-ready.result in
    let ready = subst (λ bytes. IsReadyPart bytes part) c.as_bytes.ensures.value c.ready_part-ready.ensures.ready in
    let front = ready_front raw c.split_at.result.0.now c.split_at.result.1.now part ready c.ready_part-ready.ensures.begin c.requires c.split_at.ensures.front c.split_at.ensures.back in
    let whole : raw ≡ c.split_at.result.0.now ++ c.split_at.result.1.now =
    sym (take-append-drop part.to raw) ∙ ap (λ row. row ++ drop part.to raw) (sym c.split_at.ensures.front) ∙ ap (λ row. c.split_at.result.0.now ++ row) (sym c.split_at.ensures.back) in
    ap (λ row. escaped (text_in row)) whole ∙ front.text

pub returns-clause-is_raw : goal.returns-clause-is_raw
returns-clause-is_raw c =
    let part = c.ready_part-ready.result in
    let ready = subst (λ bytes. IsReadyPart bytes part) c.as_bytes.ensures.value c.ready_part-ready.ensures.ready in
    (ready_front c.args.raw.now c.split_at.result.0.now c.split_at.result.1.now part ready c.ready_part-ready.ensures.begin c.requires c.split_at.ensures.front c.split_at.ensures.back).is_raw
