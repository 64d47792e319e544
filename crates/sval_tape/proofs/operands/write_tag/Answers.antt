use Rattle.std.proofs.Common.{rules, [], ◌∷◌, ap, sym, ◌∙◌}
use Rattle.sval_label.specs.SeenName.{seen_option_tag}
use Rattle.sval_tape.specs.Tapes.{block, tag_bytes}
use Rattle.sval_tape.proofs.Pieces.{goes_on, stops_first}
use Rattle.sval_tape.proofs.operands.write_tag.Goals as goal

pub returns-in_err-write_byte : goal.returns-in_err-write_byte
returns-in_err-write_byte g c =
    let stops = stops_first (1 ∷ []) (block c.in-Some.tag.now.text.now) (ap (λ tag. tag_bytes (seen_option_tag tag)) c.in-Some.is) c.in_err-write_byte.ensures in search rules

pub returns : goal.returns
returns g c =
    goes_on _ c.write_block.result (1 ∷ []) (block c.as_bytes.result.now)
    (ap (λ tag. tag_bytes (seen_option_tag tag)) c.in-Some.is ∙ ap (λ text. 1 ∷ block text) (sym c.as_bytes.ensures.value))
    c.in_ok-write_byte.ensures c.write_block.ensures
