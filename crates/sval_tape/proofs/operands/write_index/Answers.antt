use Rattle.std.proofs.Common.{rules, ◌++◌, ap, sym, ◌∙◌}
use Rattle.sval_label.specs.SeenName.{seen_option_tag}
use Rattle.sval_label.specs.SeenIndex.{seen_index}
use Rattle.sval_tape.specs.Tapes.{leb128, tag_bytes}
use Rattle.sval_tape.proofs.Pieces.{goes_on, stops_first}
use Rattle.sval_tape.proofs.operands.write_index.Goals as goal

pub returns-in_err-write_number : goal.returns-in_err-write_number
returns-in_err-write_number g c =
    let index = seen_index c.args.index.now in
    let stops = stops_first (leb128 c.index_number.result) (tag_bytes index.tag) (ap (λ n. leb128 n ++ tag_bytes index.tag) (sym c.index_number.ensures)) c.in_err-write_number.ensures in search rules

pub returns : goal.returns
returns g c =
    let index = seen_index c.args.index.now in
    let tag = seen_option_tag c.tag.result in
    let n = c.index_number.result in
    goes_on _ c.write_tag.result (leb128 n) (tag_bytes tag) (ap (λ n. leb128 n ++ tag_bytes index.tag) (sym c.index_number.ensures) ∙ ap (λ t. leb128 n ++ tag_bytes t) (sym c.tag.ensures))
    c.in_ok-write_number.ensures c.write_tag.ensures
