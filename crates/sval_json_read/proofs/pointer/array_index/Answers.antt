use Rattle.std.proofs.Common.{Ok, Err}
use Rattle.sval_json_read.proofs.Pointers.{index_parsed}
use Rattle.sval_json_read.proofs.pointer.array_index.Goals as goal

pub returns-in-Ok : goal.returns-in-Ok
returns-in-Ok c =
    let first = rw c.as_bytes.ensures.value at c.in_ok-first.ensures.item.3 in
    index_parsed {E = Unit {0}} c.args.token.now c.in_ok-first.field-0.now (Ok c.in-Ok.index) first c.if-first-eq48.false c.if-first-eq43.false c.in-Ok.ensures.value.0

pub returns-in-Err : goal.returns-in-Err
returns-in-Err c =
    let first = rw c.as_bytes.ensures.value at c.in_ok-first.ensures.item.3 in
    index_parsed c.args.token.now c.in_ok-first.field-0.now (Err c.in-Err.field-0) first c.if-first-eq48.false c.if-first-eq43.false c.in-Err.ensures.value.0
