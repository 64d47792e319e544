use Rattle.std.proofs.Common.{rules, [], ◌∷◌, ap}
use Rattle.sval_tape.specs.Tapes.{leb128, size_bytes}
use Rattle.sval_tape.proofs.Pieces.{goes_on, stops_first}
use Rattle.sval_tape.proofs.operands.write_size.Goals as goal

pub returns-in_err-write_byte : goal.returns-in_err-write_byte
returns-in_err-write_byte g c =
    let stops = stops_first (1 ∷ []) (leb128 c.in-Some.size) (ap size_bytes c.in-Some.is) c.in_err-write_byte.ensures in search rules

pub returns : goal.returns
returns g c = goes_on _ c.write_number.result (1 ∷ []) (leb128 c.in-Some.size) (ap size_bytes c.in-Some.is) c.in_ok-write_byte.ensures c.write_number.ensures
