use Rattle.std.proofs.Common.{ℕ, ◌+◌, ◌++◌, length, length-append, sym, subst}
use Rattle.sval_io.specs.Sinks.{WritesAll}
use Rattle.sval_json.proofs.Readings.{then_writes}
use Rattle.sval_cbor.specs.Cbor.{head_bytes}
use Rattle.sval_cbor.proofs.head.write_joined.Goals as goal

pub returns : goal.returns
returns g c =
    let text = c.args.first.now ++ c.args.second.now in
    let new = g.K.Sink.told c.write_both.new.sink in
    subst (λ (n : ℕ). WritesAll c.write_both.result (g.K.Sink.told c.args.sink.now) (head_bytes 3 n ++ text) new) (sym (length-append c.args.first.now c.args.second.now))
    (then_writes c.write_both.result (head_bytes 3 (length c.args.first.now + length c.args.second.now)) text new c.in_ok-write_head.ensures c.write_both.ensures)
