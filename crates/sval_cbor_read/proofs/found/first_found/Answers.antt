use Rattle.sval_cbor_read.specs.declared.node.Place.TheVariants.{Alone}
use Rattle.sval_cbor_read.specs.declared.node.Kind.TheVariants.{Item}
use Rattle.sval_cbor_read.proofs.CborFound.{some_node, first_stands, first_is_first, value_found}
use Rattle.sval_cbor_read.proofs.found.first_found.Goals as goal

pub bounds-nodes-0 : goal.bounds-nodes-0
bounds-nodes-0 c = some_node c.args.nodes.now c.requires

pub node_found-requires-clause-stands : goal.node_found-requires-clause-stands
node_found-requires-clause-stands c = first_stands c.args.nodes.now (record { low = 0; high = 0; kind = Item; place = Alone }) c.requires

pub node_found-requires-clause-first : goal.node_found-requires-clause-first
node_found-requires-clause-first c = first_is_first c.args.nodes.now (record { low = 0; high = 0; kind = Item; place = Alone }) c.requires

pub returns : goal.returns
returns c = value_found c.args.bytes.now c.args.nodes.now (record { low = 0; high = 0; kind = Item; place = Alone }) c.node_found.result c.requires c.node_found.ensures
