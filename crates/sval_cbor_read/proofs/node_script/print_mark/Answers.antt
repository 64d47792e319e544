use Rattle.std.proofs.Common.{sym, subst}
use Rattle.std.specs.Prelude.{[], None}
use Rattle.sval_io.specs.Sinks.{WritesAll}
use Rattle.sval_cbor_read.specs.Reading.{mark_of, first_step}
use Rattle.sval_cbor_read.specs.SeenNodes.{step_calls}
use Rattle.sval_cbor_read.specs.ItemScripts.{script_within}
use Rattle.sval_cbor_read.proofs.node_script.print_mark.Goals as goal

pub returns-in-127 : goal.returns-in-127
returns-in-127 g c = subst (λ first. WritesAll c.print_string_begin-in-127.result (g.K.Sink.told c.args.out.now) (script_within c.args.size (step_calls (first_step (mark_of first) [] None []))) (g.K.Sink.told c.print_string_begin-in-127.new.out)) (sym c.in-127.is) c.print_string_begin-in-127.ensures

pub returns-in-159 : goal.returns-in-159
returns-in-159 g c = subst (λ first. WritesAll c.write_in_place.result (g.K.Sink.told c.args.out.now) (script_within c.args.size (step_calls (first_step (mark_of first) [] None []))) (g.K.Sink.told c.write_in_place.new.sink)) (sym c.in-159.is) c.write_in_place.ensures.writes

pub returns-in-191 : goal.returns-in-191
returns-in-191 g c = subst (λ first. WritesAll c.write_in_place-in-191.result (g.K.Sink.told c.args.out.now) (script_within c.args.size (step_calls (first_step (mark_of first) [] None []))) (g.K.Sink.told c.write_in_place-in-191.new.sink)) (sym c.in-191.is) c.write_in_place-in-191.ensures.writes

pub returns-in-244 : goal.returns-in-244
returns-in-244 g c = subst (λ first. WritesAll c.write_in_place-in-244.result (g.K.Sink.told c.args.out.now) (script_within c.args.size (step_calls (first_step (mark_of first) [] None []))) (g.K.Sink.told c.write_in_place-in-244.new.sink)) (sym c.in-244.is) c.write_in_place-in-244.ensures.writes
