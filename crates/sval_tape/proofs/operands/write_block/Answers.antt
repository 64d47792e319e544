use Rattle.std.proofs.Common.{rules, length, refl}
use Rattle.sval_tape.specs.Tapes.{leb128}
use Rattle.sval_tape.proofs.Pieces.{goes_on, stops_first}
use Rattle.sval_tape.proofs.operands.write_block.Goals as goal

pub returns-in_err-write_number : goal.returns-in_err-write_number
returns-in_err-write_number g c =
    let bytes = c.args.bytes.now in
    let stops = stops_first (leb128 (length bytes)) bytes refl c.in_err-write_number.ensures in search rules

pub returns : goal.returns
returns g c =
    let bytes = c.args.bytes.now in
    goes_on _ c.write_all.result (leb128 (length bytes)) bytes refl c.in_ok-write_number.ensures c.write_all.ensures.writes
