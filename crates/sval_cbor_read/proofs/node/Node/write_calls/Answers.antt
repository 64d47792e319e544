use Rattle.std.specs.Prelude.{◌++◌, []}
use Rattle.sval_cbor_read.specs.SeenNodes.{cbor_node_calls}
use Rattle.sval_cbor_read.proofs.JoinedItems.{made_stops, stops_on, taken_on}
use Rattle.sval_cbor_read.proofs.node.Node.write_calls.Goals as goal

pub returns-in_err-stream : goal.returns-in_err-stream
returns-in_err-stream g c = λ start calls style has.
    let more = cbor_node_calls c.args.bytes.now c.args.self in
    made_stops (calls ++ more) c.args.is_first.now [] c.from_residual.result c.from_residual.ensures.0 (stops_on calls more style has c.in_err-stream.ensures)

pub returns : goal.returns
returns g c = λ start calls style has. taken_on calls (cbor_node_calls c.args.bytes.now c.args.self) style has c.in_ok-stream.ensures c.is_first.ensures
