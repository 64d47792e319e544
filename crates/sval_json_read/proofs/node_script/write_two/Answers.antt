use Rattle.sval_json_read.proofs.NodeTexts.{both_written}
use Rattle.sval_json_read.proofs.node_script.write_two.Goals as goal

pub returns : goal.returns
returns g c =
    both_written (g.K.Sink.told c.write_in_place-2.new.sink) c.args.first.now c.args.second.now c.write_in_place-2.result c.in_ok-write_in_place.ensures.writes c.write_in_place-2.ensures.writes
