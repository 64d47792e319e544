use Rattle.std.specs.Prelude.{◌++◌, Some, true}
use Rattle.std.proofs.Common.{sym, subst}
use Rattle.sval_json.specs.WriterLaw.{writer_view}
use Rattle.sval_cbor_read.specs.JoinedNodes.{AreMade, MakesCalls, JoinsCalls}
use Rattle.sval_cbor_read.specs.SeenNodes.{cbor_node_calls}
use Rattle.sval_cbor_read.proofs.JoinedItems.{joined_on, made_at, made_stops, passed_done, passed_stop, stopped_before}
use Rattle.sval_cbor_read.proofs.node.Node.write_next.Goals as goal

pub returns-in_err-make_room : goal.returns-in_err-make_room
returns-in_err-make_room g c = λ start calls style made.
    let more = cbor_node_calls c.args.bytes.now c.args.self in
    made_stops (calls ++ more) c.args.is_first.now c.make_room.new.joined c.from_residual.result c.from_residual.ensures.0
    (stopped_before calls more (c.in_err-make_room.ensures.made start calls (made_at c.in-Some.is made)))

pub returns-then-join : goal.returns-then-join
returns-then-join g c = λ start calls style made.
    let more = cbor_node_calls c.args.bytes.now c.args.self in
    let joins = subst (λ first. JoinsCalls true more c.in-Some.first first c.make_room.new.joined c.join.new.joined) (sym c.is_begin.ensures) c.if-join.ensures in
    joined_on more (c.in_ok-make_room.ensures.made start calls (made_at c.in-Some.is made)) joins

pub returns-in_err-pass_on : goal.returns-in_err-pass_on
returns-in_err-pass_on g c = λ start calls style made.
    let more = cbor_node_calls c.args.bytes.now c.args.self in
    let room = c.in_ok-make_room.ensures.made start calls (made_at c.in-Some.is made) in
    let same = subst (λ joined. AreMade start calls (writer_view g.K.Sink.told c.make_room.new.writer) (Some c.in-Some.first) joined) (sym c.if-join.ensures) room in
    made_stops (calls ++ more) c.args.is_first.now c.pass_on.new.joined c.from_residual-in_err-pass_on.result c.from_residual-in_err-pass_on.ensures.0 (passed_stop same more c.in_err-pass_on.ensures.does)

pub returns : goal.returns
returns g c = λ start calls style made.
    let more = cbor_node_calls c.args.bytes.now c.args.self in
    let room = c.in_ok-make_room.ensures.made start calls (made_at c.in-Some.is made) in
    let same = subst (λ joined. AreMade start calls (writer_view g.K.Sink.told c.make_room.new.writer) (Some c.in-Some.first) joined) (sym c.if-join.ensures) room in
    subst (λ joined. MakesCalls c.write_calls-2.result start (calls ++ more) (writer_view g.K.Sink.told c.write_calls-2.new.writer) c.write_calls-2.new.is_first joined) (sym c.in_ok-pass_on.ensures.empty)
    (c.write_calls-2.ensures start calls style (passed_done same c.in_ok-pass_on.ensures.does))
