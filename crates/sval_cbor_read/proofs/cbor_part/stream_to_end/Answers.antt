use Rattle.std.proofs.Common.{◌≡◌, ◌<◌, ◌≤◌, ◌+◌, length, get_or, arith, sym, ◌∙◌, subst}
use Rattle.sval_core.proofs.Emissions.{passes_on}
use Rattle.sval_cbor_read.specs.declared.node.Node.{Node}
use Rattle.sval_cbor_read.specs.declared.node.Place.TheVariants.{Alone}
use Rattle.sval_cbor_read.specs.declared.node.Kind.TheVariants.{Item}
use Rattle.sval_cbor_read.proofs.PartStreams.{within_start, within_step, within_stop, within_last, depth_most}
use Rattle.sval_cbor_read.proofs.cbor_part.stream_to_end.Goals as goal

pub loop-node-init : goal.loop-node-init
loop-node-init g c = record { streamed = within_start c.args.nodes.now c.requires; open_left = omega arith; few = omega arith }

pub returns-then-depth-eq0 : goal.returns-then-depth-eq0
returns-then-depth-eq0 g c =
    let l = c.loop-node in
    let within : l.node-index < length c.args.nodes.now = omega arith in
    let closed : 0 ≡ c.depth_behind-depth.result = omega arith in
    within_last c.args.nodes.now l.node-index (record { low = 0; high = 0; kind = Item; place = Alone }) l.depth l.invariant.streamed within c.make.result _ l.invariant.open_left (closed ∙ c.depth_behind-depth.ensures) c.make.ensures

pub returns-in_err-stream : goal.returns-in_err-stream
returns-in_err-stream g c =
    let l = c.loop-node in
    let within : l.node-index < length c.args.nodes.now = omega arith in
    let still : 0 < c.depth_behind-depth.result = omega arith in
    passes_on c.from_residual.result c.from_residual.ensures.0
    (within_stop c.args.nodes.now l.node-index (record { low = 0; high = 0; kind = Item; place = Alone }) l.depth l.invariant.streamed within _ c.depth_behind-depth.result l.invariant.open_left still c.depth_behind-depth.ensures
    c.in_err-stream.ensures)

pub loop-node-preserved : goal.loop-node-preserved
loop-node-preserved g c =
    let l = c.loop-node in
    let within : l.node-index < length c.args.nodes.now = omega arith in
    let still : 0 < c.depth_behind-depth.result = omega arith in
    let none : Node = record { low = 0; high = 0; kind = Item; place = Alone } in
    let few = l.invariant.few in
    let most = subst (λ depth. depth ≤ l.depth + 1) (sym c.depth_behind-depth.ensures) (depth_most (get_or c.args.nodes.now l.node-index none).kind l.depth) in
    record {
      streamed = within_step c.args.nodes.now l.node-index none l.depth l.invariant.streamed within _ c.depth_behind-depth.result l.invariant.open_left still c.depth_behind-depth.ensures c.in_ok-stream.ensures;
      open_left = still;
      few = omega arith;
    }
