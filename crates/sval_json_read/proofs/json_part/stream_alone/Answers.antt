use Rattle.std.proofs.Common.{refl, sym, subst}
use Rattle.sval_core.specs.Law.{Emits}
use Rattle.sval_core.specs.Values.{makes}
use Rattle.sval_core.proofs.Emissions.{passes_on}
use Rattle.sval_json_read.specs.declared.node.Node.TheVariants.{Null}
use Rattle.sval_json_read.specs.declared.node.Place.TheVariants.{Alone}
use Rattle.sval_json_read.proofs.FirstNodes.{some_nodes, first_kept}
use Rattle.sval_json_read.proofs.InnerNodes.{array_two, object_two}
use Rattle.sval_json_read.proofs.PartCalls.{stops-within, emits-whole, array-calls, object-calls, single-calls}
use Rattle.sval_json_read.proofs.json_part.stream_alone.Goals as goal

pub bounds-0 : goal.bounds-0
bounds-0 g c = some_nodes c.args.text.now c.args.nodes.now c.requires

pub between_ends-requires : goal.between_ends-requires
between_ends-requires g c =
    array_two c.args.text.now c.args.nodes.now c.requires c.in-BeginArray.field-0 c.in-BeginArray.field-1 c.in-BeginArray.is

pub returns-in_err-stream_nodes-in-BeginArray : goal.returns-in_err-stream_nodes-in-BeginArray
returns-in_err-stream_nodes-in-BeginArray g c =
    let whole = array-calls c.requires c.between_ends.result.now c.between_ends.ensures c.in-BeginArray.field-0 c.in-BeginArray.field-1 c.in-BeginArray.is in
    passes_on c.from_residual-in_err-stream_nodes-in-BeginArray.result c.from_residual-in_err-stream_nodes-in-BeginArray.ensures.0
    (stops-within _ _ _ whole c.in_ok-seq_begin-in-BeginArray.ensures c.in_err-stream_nodes-in-BeginArray.ensures)

pub returns-in_ok-stream_nodes-in-BeginArray : goal.returns-in_ok-stream_nodes-in-BeginArray
returns-in_ok-stream_nodes-in-BeginArray g c =
    let whole = array-calls c.requires c.between_ends.result.now c.between_ends.ensures c.in-BeginArray.field-0 c.in-BeginArray.field-1 c.in-BeginArray.is in
    emits-whole _ _ _ whole c.seq_end.result (g.S.Stream.standing c.seq_end.new.self) c.in_ok-seq_begin-in-BeginArray.ensures c.in_ok-stream_nodes-in-BeginArray.ensures c.seq_end.ensures

pub between_ends-requires-in-BeginObject : goal.between_ends-requires-in-BeginObject
between_ends-requires-in-BeginObject g c =
    object_two c.args.text.now c.args.nodes.now c.requires c.in-BeginObject.field-0 c.in-BeginObject.field-1 c.in-BeginObject.is

pub returns-in_err-stream_nodes-in-BeginObject : goal.returns-in_err-stream_nodes-in-BeginObject
returns-in_err-stream_nodes-in-BeginObject g c =
    let whole = object-calls c.requires c.between_ends-in-BeginObject.result.now c.between_ends-in-BeginObject.ensures c.in-BeginObject.field-0 c.in-BeginObject.field-1 c.in-BeginObject.is in
    passes_on c.from_residual-in_err-stream_nodes-in-BeginObject.result c.from_residual-in_err-stream_nodes-in-BeginObject.ensures.0
    (stops-within _ _ _ whole c.in_ok-map_begin-in-BeginObject.ensures c.in_err-stream_nodes-in-BeginObject.ensures)

pub returns-in_ok-stream_nodes-in-BeginObject : goal.returns-in_ok-stream_nodes-in-BeginObject
returns-in_ok-stream_nodes-in-BeginObject g c =
    let whole = object-calls c.requires c.between_ends-in-BeginObject.result.now c.between_ends-in-BeginObject.ensures c.in-BeginObject.field-0 c.in-BeginObject.field-1 c.in-BeginObject.is in
    emits-whole _ _ _ whole c.map_end.result (g.S.Stream.standing c.map_end.new.self) c.in_ok-map_begin-in-BeginObject.ensures c.in_ok-stream_nodes-in-BeginObject.ensures c.map_end.ensures

pub bounds-nodes-0 : goal.bounds-nodes-0
bounds-nodes-0 g c = some_nodes c.args.text.now c.args.nodes.now c.requires

pub make-requires : goal.make-requires
make-requires g c κs = ((refl, tt), first_kept c.args.text.now c.args.nodes.now (Null Alone) c.requires)

pub returns-in_default : goal.returns-in_default
returns-in_default g c =
    let same = single-calls c.args.text.now c.args.nodes.now (Null Alone) c.requires c.in_default.not-BeginArray c.in_default.not-BeginObject in
    subst (λ calls. Emits g.S.Stream.law c.make.result (g.S.Stream.standing c.args.stream.now) (makes calls) (g.S.Stream.standing c.make.new.stream)) (sym same) c.make.ensures
