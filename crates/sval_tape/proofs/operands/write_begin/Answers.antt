use Rattle.std.proofs.Common.{rules, refl}
use Rattle.sval_label.specs.Grouped.{seen_head}
use Rattle.sval_tape.specs.Tapes.{size_bytes, tape_head_bytes}
use Rattle.sval_tape.proofs.Pieces.{goes_on, stops_first}
use Rattle.sval_tape.proofs.operands.write_begin.Goals as goal

pub returns-in_err-write_head : goal.returns-in_err-write_head
returns-in_err-write_head g c =
    let stops = stops_first (tape_head_bytes (seen_head c.args.head)) (size_bytes c.args.size) refl c.in_err-write_head.ensures in search rules

pub returns : goal.returns
returns g c = goes_on _ c.write_size.result (tape_head_bytes (seen_head c.args.head)) (size_bytes c.args.size) refl c.in_ok-write_head.ensures c.write_size.ensures
