use Rattle.std.specs.Prelude.{drop, Some}
use Rattle.std.proofs.Common.{sym, ap, subst, ◌∙◌}
use Rattle.sval_io.specs.Sinks.{WritesAll}
use Rattle.sval_cbor_read.specs.Items.{head}
use Rattle.sval_cbor_read.specs.SeenNodes.{step_calls}
use Rattle.sval_cbor_read.specs.ItemScripts.{script_within}
use Rattle.sval_cbor_read.proofs.ItemCalls.{headed_step}
use Rattle.sval_cbor_read.proofs.NodeScripts.{headed_size}
use Rattle.sval_cbor_read.proofs.node_script.print_item.Goals as goal

pub returns-in-Some-read_head : goal.returns-in-Some-read_head
returns-in-Some-read_head g c =
    let h = c.in-Some-read_head.head in
    let after = drop h.next c.args.bytes.now in
    let step = headed_step c.args.bytes.now c.args.at (Some (head h.major h.number after)) c.requires.within (c.is_mark.ensures.none c.if-is_mark.false) c.in-Some-read_head.ensures.found.1.0 in
    subst (λ lines. WritesAll c.print_headed.result (g.K.Sink.told c.args.out.now) lines (g.K.Sink.told c.print_headed.new.out))
    (headed_size h.major h.number after c.args.size ∙ ap (λ step. script_within c.args.size (step_calls step)) (sym step)) c.print_headed.ensures
