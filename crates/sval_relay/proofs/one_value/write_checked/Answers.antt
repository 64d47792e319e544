use Rattle.sval_relay.proofs.AtOnce.{written_at_once}
use Rattle.sval_relay.proofs.Served.{one_printable}
use Rattle.sval_relay.proofs.one_value.write_checked.Goals as goal

-- the value was checked and captured in one pass
pub returns-in-Some-clause-written : goal.returns-in-Some-clause-written
returns-in-Some-clause-written g c =
    let (tree, s) = c.in-Some.ensures.one_value.spells in
    let printable = one_printable c.args.script.now tree c.requires s in
    let writes = c.write_json.ensures tree (c.in-Some.ensures.keeps tree s).spells printable.0 in
    record {
      tree = tree;
      spells = s;
      printable = printable;
      writes = written_at_once g.K.Sink.told tree c.args.out.now c.write_json.new.out c.args.way c.in-Some.variants c.write_json.result c.in-Some.ensures.captured c.in-Some.ensures.style writes;
    }

pub write_tree-requires : goal.write_tree-requires
write_tree-requires g c =
    let (tree, s) = c.in-Ok.ensures.ok.spells in
    (tree, rw c.as_slice.ensures s, one_printable c.args.script.now tree c.requires s)

pub returns-in-Ok-clause-written : goal.returns-in-Ok-clause-written
returns-in-Ok-clause-written g c =
    let (tree, s) = c.in-Ok.ensures.ok.spells in
    let printable = one_printable c.args.script.now tree c.requires s in
    record { tree = tree; spells = s; printable = printable; writes = c.write_tree.ensures tree (rw c.as_slice.ensures s) printable }
