use Rattle.std.proofs.Common.{rules, ◌++◌, Err, codes, decimal, refl}
use Rattle.sval_script.proofs.PrintedPieces.{goes_on, stops_first}
use Rattle.sval_relay.proofs.made.write_sizes.Goals as goal

pub returns-in_err-write_size : goal.returns-in_err-write_size
returns-in_err-write_size g c =
    let first = codes "calls " ++ decimal c.args.sizes.calls in
    let rest = codes " json " ++ decimal c.args.sizes.bytes ++ codes "\n" in
    let stops = stops_first first rest refl c.in_err-write_size.ensures in search rules

pub returns-in_err-write_size-2 : goal.returns-in_err-write_size-2
returns-in_err-write_size-2 g c =
    let first = codes "calls " ++ decimal c.args.sizes.calls in
    let second = codes " json " ++ decimal c.args.sizes.bytes in
    let stops = stops_first second (codes "\n") refl c.in_err-write_size-2.ensures in
    let all = goes_on _ (Err c.in_err-write_size-2.field-0.0) first (second ++ codes "\n") refl c.in_ok-write_size.ensures stops in search rules

pub returns : goal.returns
returns g c =
    let first = codes "calls " ++ decimal c.args.sizes.calls in
    let second = codes " json " ++ decimal c.args.sizes.bytes in
    let r = c.write_all.result in
    let later = goes_on _ r second (codes "\n") refl c.in_ok-write_size-2.ensures c.write_all.ensures.writes in
    goes_on _ r first (second ++ codes "\n") refl c.in_ok-write_size.ensures later
