use Rattle.std.proofs.Common.{sym, ap, ◌∙◌, ◌++◌, subst, get_or}
use Rattle.sval_core.specs.Law.{Streams}
use Rattle.sval_core.specs.Values.{makes}
use Rattle.sval_core.proofs.Emissions.{passes_on}
use Rattle.sval_cbor_read.specs.declared.node.Node.{Node}
use Rattle.sval_cbor_read.specs.declared.node.Place.TheVariants.{Alone}
use Rattle.sval_cbor_read.specs.declared.node.Kind.TheVariants.{Item}
use Rattle.sval_cbor_read.specs.CallSpans.{until_closed}
use Rattle.sval_cbor_read.specs.SeenNodes.{streamed_items}
use Rattle.sval_cbor_read.proofs.NodeStreams.{calls_at}
use Rattle.sval_cbor_read.proofs.PartStreams.{own_then, single_calls, opened_calls, stops_first_of, emits_both}
use Rattle.sval_cbor_read.proofs.cbor_part.stream_by_itself.Goals as goal

abbrev none : Node
none = record { low = 0; high = 0; kind = Item; place = Alone }

pub returns-in_err-make : goal.returns-in_err-make
returns-in_err-make g c =
    let whole = own_then c.args.bytes.now c.args.nodes.now none c.requires in
    passes_on c.from_residual.result c.from_residual.ensures.0 (stops_first_of _ whole.0 whole.1 c.in_err-make.ensures)

pub returns-in-Begin : goal.returns-in-Begin
returns-in-Begin g c =
    let bytes = c.args.bytes.now in
    let own = calls_at bytes (get_or c.args.nodes.now 0 none) in
    let whole = opened_calls bytes c.args.nodes.now none c.requires c.in-Begin.is ∙ ap (λ nodes. own ++ until_closed 1 (streamed_items bytes nodes)) (sym c.behind_first.ensures) in
    emits_both _ _ whole c.stream_to_end.result (g.S.Stream.standing c.stream_to_end.new.stream) c.in_ok-make.ensures c.stream_to_end.ensures

pub returns-in_default : goal.returns-in_default
returns-in_default g c =
    let whole = single_calls c.args.bytes.now c.args.nodes.now none c.requires c.in_default.not-Begin in
    subst (λ calls. Streams g.S.Stream.law (g.S.Stream.standing c.args.stream.now) (makes calls) (g.S.Stream.standing c.make.new.stream)) (sym whole) c.in_ok-make.ensures
