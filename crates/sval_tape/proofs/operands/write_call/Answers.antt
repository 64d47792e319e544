use Rattle.std.proofs.Common.{rules, [], ◌∷◌, ap, sym}
use Rattle.sval_label.specs.Grouped.{grouped_call}
use Rattle.sval_tape.specs.Tapes.{operands}
use Rattle.sval_tape.proofs.Pieces.{goes_on, stops_first}
use Rattle.sval_tape.proofs.operands.write_call.Goals as goal

pub returns-in_err-write_byte : goal.returns-in_err-write_byte
returns-in_err-write_byte g c =
    let said = grouped_call (λ text. text.now) (λ bytes. bytes.now) c.args.call in
    let stops = stops_first (c.call_number.result ∷ []) (operands said) (ap (λ n. n ∷ operands said) (sym c.call_number.ensures)) c.in_err-write_byte.ensures in search rules

pub returns : goal.returns
returns g c =
    let said = grouped_call (λ text. text.now) (λ bytes. bytes.now) c.args.call in
    goes_on _ c.write_operands.result (c.call_number.result ∷ []) (operands said) (ap (λ n. n ∷ operands said) (sym c.call_number.ensures)) c.in_ok-write_byte.ensures c.write_operands.ensures
