use Rattle.std.proofs.Common.{arith, rules}
use Rattle.sval_cbor_read.specs.Serves.{IsInMemory}
use Rattle.sval_cbor_read.proofs.Heads.{all_bytes}
use Rattle.sval_c.proofs.Items.{at_once}
use Rattle.sval_c.proofs.from_cbor.to_json.Goals as goal

pub returns-in-Some : goal.returns-in-Some
returns-in-Some c =
    let m : IsInMemory c.args.input.now = record { bytes = all_bytes c.args.input.now (λ i. omega (arith, c.type_inv.input i)); few = search rules } in
    at_once c.args.input.now c.in-Some.json.items m c.in-Some.ensures
