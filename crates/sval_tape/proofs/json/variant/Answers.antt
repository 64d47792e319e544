use Rattle.std.proofs.Common.{arith}
use Rattle.sval_tape.specs.ReadCalls.{name_read}
use Rattle.sval_tape.proofs.JsonFront.{if_there, variant_at}
use Rattle.sval_tape.proofs.json.variant.Goals as goal

pub returns : goal.returns
returns c =
    if_there c.behind_end.result
    (λ behind ends. variant_at (name_read c.in_ok-_name._name) (name_read c.in_ok-own.own) c.args.bytes.now c.in_ok-_name.inner.now c.in_ok-behind.field-0.now c.in_ok-own.rest.now behind.now
    (λ i. omega (arith, c.type_inv.bytes i)) c.in_ok-_name.ensures c.in_ok-behind.ensures c.in_ok-own.ensures ends c.in_ok-put_own.ensures)
    c.behind_end.ensures
