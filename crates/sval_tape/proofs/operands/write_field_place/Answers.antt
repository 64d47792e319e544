use Rattle.std.proofs.Common.{rules, refl, ◌++◌}
use Rattle.sval_label.specs.SeenName.{seen_option_tag}
use Rattle.sval_label.specs.SeenIndex.{seen_index}
use Rattle.sval_tape.specs.Tapes.{tag_bytes, label_bytes, index_bytes}
use Rattle.sval_tape.proofs.Pieces.{goes_on, stops_first}
use Rattle.sval_tape.proofs.operands.write_field_place.Goals as goal

pub returns-in_err-write_tag : goal.returns-in_err-write_tag
returns-in_err-write_tag g c =
    let stops = stops_first (tag_bytes (seen_option_tag c.args.tag)) (label_bytes c.args.label.now ++ index_bytes (seen_index c.args.index.now)) refl c.in_err-write_tag.ensures in search rules

pub returns : goal.returns
returns g c = goes_on _ c.write_both.result (tag_bytes (seen_option_tag c.args.tag)) (label_bytes c.args.label.now ++ index_bytes (seen_index c.args.index.now)) refl c.in_ok-write_tag.ensures c.write_both.ensures
