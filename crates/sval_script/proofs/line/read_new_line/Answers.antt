use Rattle.std.proofs.Common.{arith}
use Rattle.sval_script.specs.LineCalls.{stored}
use Rattle.sval_script.proofs.FieldsRead.{is_made, is_not_made}
use Rattle.sval_script.proofs.KnownLines.{made_stores}
use Rattle.sval_script.proofs.line.read_new_line.Goals as goal

pub returns-in_err-rest-clause-bad : goal.returns-in_err-rest-clause-bad
returns-in_err-rest-clause-bad c =
    λ _. is_not_made c.args.script.now c.in_ok-word.word c.word.new.self c.read_fields.new.fields c.word.result c.end.result _ _ (rw (← c.new-fields.ensures) c.word.ensures) c.in_ok-word.ensures.value c.in_ok-made.ensures.made c.end.ensures
    c.in_err-rest.ensures.value

pub slice_bounds-spelled-count : goal.slice_bounds-spelled-count
slice_bounds-spelled-count c =
    let made = is_made c.args.script.now c.in_ok-word.word c.word.new.self c.read_fields.new.fields c.word.result c.end.result _ c.in_ok-rest.rest (rw (← c.new-fields.ensures) c.word.ensures) c.in_ok-word.ensures.value c.in_ok-made.ensures.made c.end.ensures
    c.in_ok-rest.ensures.value in
    (made_stores c.args.script.now c.in_ok-rest.rest.now c.len-start.result c.len-count.result (stored c.args.store.now) (stored c.read_fields.new.store) c.in_ok-made.made c.len-start.ensures (omega (arith, c.len-count.ensures, c.args.store.now.numbers.ok)) made).0

pub remember-requires : goal.remember-requires
remember-requires c =
    let made = is_made c.args.script.now c.in_ok-word.word c.word.new.self c.read_fields.new.fields c.word.result c.end.result _ c.in_ok-rest.rest (rw (← c.new-fields.ensures) c.word.ensures) c.in_ok-word.ensures.value c.in_ok-made.ensures.made c.end.ensures
    c.in_ok-rest.ensures.value in
    (made_stores c.args.script.now c.in_ok-rest.rest.now c.len-start.result c.len-count.result (stored c.args.store.now) (stored c.read_fields.new.store) c.in_ok-made.made c.len-start.ensures (omega (arith, c.len-count.ensures, c.args.store.now.numbers.ok)) made).1

pub returns-clause-made : goal.returns-clause-made
returns-clause-made c =
    is_made c.args.script.now c.in_ok-word.word c.word.new.self c.read_fields.new.fields c.word.result c.end.result _ c.in_ok-rest.rest (rw (← c.new-fields.ensures) c.word.ensures) c.in_ok-word.ensures.value c.in_ok-made.ensures.made c.end.ensures
    c.in_ok-rest.ensures.value
