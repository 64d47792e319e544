use Rattle.std.proofs.Common.{sym, subst}
use Rattle.std.specs.Prelude.{[], drop}
use Rattle.sval_io.specs.Sinks.{WritesAll}
use Rattle.sval_cbor_read.specs.Reading.{body_step}
use Rattle.sval_cbor_read.specs.SeenNodes.{step_calls}
use Rattle.sval_cbor_read.specs.ItemScripts.{sized_script}
use Rattle.sval_cbor_read.proofs.node_script.print_headed.Goals as goal

pub returns-in-4 : goal.returns-in-4
returns-in-4 g c = subst (λ major. WritesAll c.write_in_place.result (g.K.Sink.told c.args.out.now) (sized_script (step_calls (body_step major c.args.head.number (drop c.args.head.next c.args.bytes.now) []))) (g.K.Sink.told c.write_in_place.new.sink)) (sym c.in-4.is) c.write_in_place.ensures.writes

pub returns-in-5 : goal.returns-in-5
returns-in-5 g c = subst (λ major. WritesAll c.write_in_place-in-5.result (g.K.Sink.told c.args.out.now) (sized_script (step_calls (body_step major c.args.head.number (drop c.args.head.next c.args.bytes.now) []))) (g.K.Sink.told c.write_in_place-in-5.new.sink)) (sym c.in-5.is) c.write_in_place-in-5.ensures.writes
