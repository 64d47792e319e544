use Rattle.std.specs.Prelude.{Err}
use Rattle.std.proofs.Common.{subst}
use Rattle.sval_core.specs.Values.{makes}
use Rattle.sval_json.specs.declared.style.Variants.TheVariants.{Inside}
use Rattle.sval_json.specs.declared.error.ErrorKind.{ErrorKind}
use Rattle.sval_json.specs.Given.{GivesJson}
use Rattle.sval_c.proofs.Items.{written, fault_never, number_never, refusal_never, unwritten}
use Rattle.sval_c.proofs.from_cbor.json_of.Goals as goal

pub returns-in-Ok : goal.returns-in-Ok
returns-in-Ok c = λ input r m. written input c.args.doc.now r m c.in-Ok.json.items c.in-Ok.ensures

pub of_writing-requires-clause-unlike_fault : goal.of_writing-requires-clause-unlike_fault
of_writing-requires-clause-unlike_fault c = λ is.
    let (input, r, m) = c.requires in
    fault_never input c.args.doc.now r (subst (λ (why : ErrorKind). GivesJson Inside (makes c.args.doc.now) (Err why)) is c.in-Err.ensures)

pub of_writing-requires-clause-unlike_number : goal.of_writing-requires-clause-unlike_number
of_writing-requires-clause-unlike_number c = λ is.
    let (input, r, m) = c.requires in
    number_never input c.args.doc.now r (subst (λ (why : ErrorKind). GivesJson Inside (makes c.args.doc.now) (Err why)) is c.in-Err.ensures)

pub of_writing-requires-clause-unlike_refusal : goal.of_writing-requires-clause-unlike_refusal
of_writing-requires-clause-unlike_refusal c = λ is.
    let (input, r, m) = c.requires in
    refusal_never input c.args.doc.now r (subst (λ (why : ErrorKind). GivesJson Inside (makes c.args.doc.now) (Err why)) is c.in-Err.ensures)

pub returns-in-Err : goal.returns-in-Err
returns-in-Err c = λ input r m. unwritten input c.args.doc.now r c.in-Err.error c.of_writing.result c.of_writing.ensures c.in-Err.ensures
