use Rattle.std.proofs.Common.{rules, arith, ◌≡◌, [], ◌∷◌, ◌-◌, ◌+◌, ◌/◌, ◌%◌}
use Rattle.sval_io.proofs.Appending.{writes_nothing}
use Rattle.sval_tape.specs.Tapes.{leb128_in}
use Rattle.sval_tape.proofs.Pieces.{goes_on, stops_first, last_byte, next_byte}
use Rattle.sval_tape.proofs.operands.+write_number_in.Goals as goal

pub returns-then-room-eq0 : goal.returns-then-room-eq0
returns-then-room-eq0 g t c = let none : c.args.room ≡ 0 = omega arith in rw none (writes_nothing (g.K.Sink.told c.args.sink.now))

pub returns-then-number-lt128 : goal.returns-then-number-lt128
returns-then-number-lt128 g t c = rw (last_byte c.args.room c.args.number (omega arith) (omega arith)) c.write_all.ensures.writes

pub returns-in_err-write_byte : goal.returns-in_err-write_byte
returns-in_err-write_byte g t c =
    let n = c.args.number in
    let stops = stops_first ((n % 128 + 128) ∷ []) (leb128_in (c.args.room - 1) (n / 128)) (next_byte c.args.room n (omega arith) (omega arith)) c.in_err-write_byte.ensures in search rules

pub returns : goal.returns
returns g t c =
    let n = c.args.number in
    goes_on _ c.write_number_in.result ((n % 128 + 128) ∷ []) (leb128_in (c.args.room - 1) (n / 128)) (next_byte c.args.room n (omega arith) (omega arith)) c.in_ok-write_byte.ensures c.write_number_in.ensures
