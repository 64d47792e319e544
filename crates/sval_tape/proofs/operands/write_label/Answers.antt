use Rattle.std.proofs.Common.{rules, ◌++◌, ap, sym, ◌∙◌}
use Rattle.sval_label.specs.SeenName.{seen_option_tag}
use Rattle.sval_tape.specs.Tapes.{block, tag_bytes}
use Rattle.sval_tape.proofs.Pieces.{goes_on, stops_first}
use Rattle.sval_tape.proofs.operands.write_label.Goals as goal

pub returns-in_err-write_block : goal.returns-in_err-write_block
returns-in_err-write_block g c =
    let label = c.args.label.now in
    let text = c.as_bytes.ensures.value ∙ c.as_str.ensures in
    let stops = stops_first (block c.as_bytes.result.now) (tag_bytes label.tag) (ap (λ t. block t ++ tag_bytes label.tag) (sym text)) c.in_err-write_block.ensures in search rules

pub returns : goal.returns
returns g c =
    let label = c.args.label.now in
    let text = c.as_bytes.ensures.value ∙ c.as_str.ensures in
    let piece = c.as_bytes.result.now in
    let tag = seen_option_tag c.tag.result in
    goes_on _ c.write_tag.result (block piece) (tag_bytes tag) (ap (λ t. block t ++ tag_bytes label.tag) (sym text) ∙ ap (λ t. block piece ++ tag_bytes t) (sym c.tag.ensures))
    c.in_ok-write_block.ensures c.write_tag.ensures
