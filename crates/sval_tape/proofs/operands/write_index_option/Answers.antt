use Rattle.std.proofs.Common.{rules, [], ◌∷◌, ap, option_map}
use Rattle.sval_label.specs.SeenIndex.{seen_index}
use Rattle.sval_tape.specs.Tapes.{optional, index_bytes}
use Rattle.sval_tape.proofs.Pieces.{goes_on, stops_first}
use Rattle.sval_tape.proofs.operands.write_index_option.Goals as goal

pub returns-in_err-write_byte : goal.returns-in_err-write_byte
returns-in_err-write_byte g c =
    let stops = stops_first (1 ∷ []) (index_bytes (seen_index c.in-Some.index.now)) (ap (λ index. optional index_bytes (option_map (λ i. seen_index i.now) index)) c.in-Some.is) c.in_err-write_byte.ensures in search rules

pub returns : goal.returns
returns g c =
    goes_on _ c.write_index.result (1 ∷ []) (index_bytes (seen_index c.in-Some.index.now)) (ap (λ index. optional index_bytes (option_map (λ i. seen_index i.now) index)) c.in-Some.is)
    c.in_ok-write_byte.ensures c.write_index.ensures
