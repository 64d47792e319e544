use Rattle.sval_json.specs.WriterLaw.{writer_view}
use Rattle.sval_cbor_read.proofs.JoinedItems.{passed_on}
use Rattle.sval_cbor_read.proofs.node_json.make_room.Goals as goal

pub returns-clause-made : goal.returns-clause-made
returns-clause-made g c = λ start calls made.
    passed_on made (writer_view g.K.Sink.told c.pass_on.new.writer) c.pass_on.new.joined c.pass_on.result c.pass_on.ensures.does c.pass_on.ensures.empty
