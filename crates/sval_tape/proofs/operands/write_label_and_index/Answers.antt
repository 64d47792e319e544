use Rattle.std.proofs.Common.{rules, refl, option_map}
use Rattle.sval_label.specs.SeenIndex.{seen_index}
use Rattle.sval_tape.specs.Tapes.{optional, label_bytes, index_bytes}
use Rattle.sval_tape.proofs.Pieces.{goes_on, stops_first}
use Rattle.sval_tape.proofs.operands.write_label_and_index.Goals as goal

pub returns-in_err-write_label_option : goal.returns-in_err-write_label_option
returns-in_err-write_label_option g c =
    let stops = stops_first (optional label_bytes (option_map (λ l. l.now) c.args.label)) (optional index_bytes (option_map (λ i. seen_index i.now) c.args.index)) refl c.in_err-write_label_option.ensures in search rules

pub returns : goal.returns
returns g c = goes_on _ c.write_index_option.result (optional label_bytes (option_map (λ l. l.now) c.args.label)) (optional index_bytes (option_map (λ i. seen_index i.now) c.args.index)) refl c.in_ok-write_label_option.ensures c.write_index_option.ensures
