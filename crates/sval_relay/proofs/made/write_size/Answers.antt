use Rattle.std.proofs.Common.{◌++◌, sym, ap, ◌∙◌}
use Rattle.sval_script.proofs.PrintedPieces.{goes_on}
use Rattle.sval_relay.proofs.made.write_size.Goals as goal

pub returns : goal.returns
returns g c =
    let word = c.args.word.now in
    let digits = c.as_bytes.ensures.value ∙ c.format.ensures.text in
    goes_on _ c.write_all-2.result word c.as_bytes.result.now (ap (λ piece. word ++ piece) (sym digits)) c.in_ok-write_all.ensures.writes c.write_all-2.ensures.writes
