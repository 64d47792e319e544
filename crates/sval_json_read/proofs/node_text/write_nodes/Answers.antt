use Rattle.std.proofs.Common.{◌<◌, ◌≤◌, drop, length, subst, arith, rules}
use Rattle.std.proofs.lemmas.List.{drop_all}
use Rattle.std.proofs.lemmas.Slice.{between_to_end}
use Rattle.sval_json_read.specs.declared.node.Place.TheVariants.{Alone}
use Rattle.sval_json_read.specs.declared.node.Node.TheVariants.{Null}
use Rattle.sval_json_read.specs.UnchangedNodes.{IsUnchanged}
use Rattle.sval_json_read.proofs.TextParts.{ready_nothing}
use Rattle.sval_json_read.proofs.NodeTexts.{nodes_begin, node_on, node_stops, nodes_end}
use Rattle.sval_json_read.proofs.UnchangedNodes.{piece_on, piece_stops}
use Rattle.sval_json_read.proofs.node_text.write_nodes.Goals as goal

pub loop-index-init : goal.loop-index-init
loop-index-init g c = record {
  ready = ready_nothing c.args.text.now 0 (omega arith);
  are = nodes_begin (g.K.Sink.told c.args.out.now) c.args.text.now c.args.nodes.now c.new-joined.result c.new-joined.ensures c.requires;
}

pub returns-in_err-write : goal.returns-in_err-write
returns-in_err-write g c =
    let nodes = c.args.nodes.now in
    let i = c.loop-index.index in
    let found = c.first_of-found.result in
    let unchanged : IsUnchanged c.args.text.now c.loop-index.is_first (drop i nodes) found =
    subst (λ row. IsUnchanged c.args.text.now c.loop-index.is_first row found) (between_to_end nodes i (length nodes) (omega arith)) c.first_of-found.ensures in
    let stops = piece_stops nodes i c.loop-index.is_first c.loop-index.joined found c.loop-index.invariant.are unchanged (g.K.Sink.told c.write.new.out) c.in_err-write.ensures.writes in search rules

pub loop-index-preserved-then-found-ge-FEW : goal.loop-index-preserved-then-found-ge-FEW
loop-index-preserved-then-found-ge-FEW g c =
    let nodes = c.args.nodes.now in
    let i = c.loop-index.index in
    let found = c.first_of-found.result in
    let unchanged : IsUnchanged c.args.text.now c.loop-index.is_first (drop i nodes) found =
    subst (λ row. IsUnchanged c.args.text.now c.loop-index.is_first row found) (between_to_end nodes i (length nodes) (omega arith)) c.first_of-found.ensures in
    record {
      ready = c.first_of-found.ensures.ready;
      are =
          piece_on nodes i c.loop-index.is_first c.loop-index.joined found c.loop-index.invariant.are unchanged (g.K.Sink.told c.write.new.out) c.write.new.joined
          c.in_ok-write.ensures.writes c.in_ok-write.ensures.empty;
    }

pub returns-in_err-write_next : goal.returns-in_err-write_next
returns-in_err-write_next g c =
    let within : c.loop-index.index < length c.args.nodes.now = omega arith in
    let stops = node_stops c.args.nodes.now c.loop-index.index (Null Alone) c.loop-index.is_first c.loop-index.joined c.loop-index.invariant.are within (g.K.Sink.told c.write_next.new.out) c.in_err-write_next.ensures.err in search rules

pub loop-index-preserved : goal.loop-index-preserved
loop-index-preserved g c =
    let within : c.loop-index.index < length c.args.nodes.now = omega arith in
    record {
      ready = c.ready_around-ready.ensures;
      are =
          node_on c.args.nodes.now c.loop-index.index (Null Alone) c.loop-index.is_first c.loop-index.joined c.loop-index.invariant.are within (g.K.Sink.told c.write_next.new.out) c.write_next.new.joined
          c.is_begin-is_first.result c.in_ok-write_next.ensures.written (c.is_begin-is_first.ensures c.args.text.now);
    }

pub returns : goal.returns
returns g c =
    let all : length c.args.nodes.now ≤ c.loop-index.index = omega arith in
    nodes_end (g.K.Sink.told c.pass_on.new.out) c.pass_on.result c.loop-index.invariant.are (drop_all c.loop-index.index c.args.nodes.now all) c.pass_on.ensures.writes
