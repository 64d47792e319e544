use Rattle.std.proofs.Common.{rules, refl, ◌++◌}
use Rattle.sval_label.specs.SeenName.{seen_name}
use Rattle.sval_tape.specs.Tapes.{optional, tag_bytes, label_bytes, index_bytes}
use Rattle.sval_tape.proofs.Pieces.{goes_on, stops_first}
use Rattle.sval_tape.proofs.operands.write_name.Goals as goal

pub returns-in_err-write_tag : goal.returns-in_err-write_tag
returns-in_err-write_tag g c =
    let stops = stops_first (tag_bytes (seen_name c.args.name).tag) (optional label_bytes (seen_name c.args.name).label ++ optional index_bytes (seen_name c.args.name).index) refl c.in_err-write_tag.ensures in search rules

pub returns : goal.returns
returns g c = goes_on _ c.write_label_and_index.result (tag_bytes (seen_name c.args.name).tag) (optional label_bytes (seen_name c.args.name).label ++ optional index_bytes (seen_name c.args.name).index) refl c.in_ok-write_tag.ensures c.write_label_and_index.ensures
