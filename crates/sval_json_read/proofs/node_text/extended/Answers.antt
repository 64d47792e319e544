use Rattle.sval_json_read.proofs.ExtendedPieces.{extended_by_tests}
use Rattle.sval_json_read.proofs.node_text.extended.Goals as goal

pub returns-then-starts_with : goal.returns-then-starts_with
returns-then-starts_with c =
    extended_by_tests c.args.before.now c.args.bytes.now c.args.behind.now c.args.from c.args.to c.requires.order c.requires.within
    c.if-ends_with.ensures.value c.if-starts_with.ensures.value
