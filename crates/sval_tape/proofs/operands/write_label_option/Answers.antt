use Rattle.std.proofs.Common.{rules, [], ◌∷◌, ap, option_map}
use Rattle.sval_tape.specs.Tapes.{optional, label_bytes}
use Rattle.sval_tape.proofs.Pieces.{goes_on, stops_first}
use Rattle.sval_tape.proofs.operands.write_label_option.Goals as goal

pub returns-in_err-write_byte : goal.returns-in_err-write_byte
returns-in_err-write_byte g c =
    let stops = stops_first (1 ∷ []) (label_bytes c.in-Some.label.now) (ap (λ label. optional label_bytes (option_map (λ l. l.now) label)) c.in-Some.is) c.in_err-write_byte.ensures in search rules

pub returns : goal.returns
returns g c =
    goes_on _ c.write_label.result (1 ∷ []) (label_bytes c.in-Some.label.now) (ap (λ label. optional label_bytes (option_map (λ l. l.now) label)) c.in-Some.is)
    c.in_ok-write_byte.ensures c.write_label.ensures
