use Rattle.std.proofs.Common.{rules, refl}
use Rattle.sval_label.specs.SeenIndex.{seen_index}
use Rattle.sval_tape.specs.Tapes.{label_bytes, index_bytes}
use Rattle.sval_tape.proofs.Pieces.{goes_on, stops_first}
use Rattle.sval_tape.proofs.operands.write_both.Goals as goal

pub returns-in_err-write_label : goal.returns-in_err-write_label
returns-in_err-write_label g c =
    let stops = stops_first (label_bytes c.args.label.now) (index_bytes (seen_index c.args.index.now)) refl c.in_err-write_label.ensures in search rules

pub returns : goal.returns
returns g c = goes_on _ c.write_index.result (label_bytes c.args.label.now) (index_bytes (seen_index c.args.index.now)) refl c.in_ok-write_label.ensures c.write_index.ensures
