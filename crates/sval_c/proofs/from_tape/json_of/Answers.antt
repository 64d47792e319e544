use Rattle.std.specs.Prelude.{Err}
use Rattle.std.proofs.Common.{subst}
use Rattle.sval_core.specs.Values.{makes}
use Rattle.sval_json.specs.declared.style.Variants.TheVariants.{Inside}
use Rattle.sval_json.specs.declared.error.ErrorKind.{ErrorKind}
use Rattle.sval_json.specs.Given.{GivesJson}
use Rattle.sval_c.proofs.TapeTexts.{written, unwritten, fault_never, refusal_never}
use Rattle.sval_c.proofs.from_tape.json_of.Goals as goal

pub returns-in-Ok : goal.returns-in-Ok
returns-in-Ok c = λ bytes is. written bytes c.args.tape.now is c.requires c.in-Ok.json.items c.in-Ok.ensures

pub of_text-requires-clause-unlike_fault : goal.of_text-requires-clause-unlike_fault
of_text-requires-clause-unlike_fault c = λ is. fault_never c.args.tape.now (subst (λ (why : ErrorKind). GivesJson Inside (makes c.args.tape.now) (Err why)) is c.in-Err.ensures)

pub of_text-requires-clause-unlike_refusal : goal.of_text-requires-clause-unlike_refusal
of_text-requires-clause-unlike_refusal c = λ is. refusal_never c.args.tape.now (subst (λ (why : ErrorKind). GivesJson Inside (makes c.args.tape.now) (Err why)) is c.in-Err.ensures)

pub returns-in-Err : goal.returns-in-Err
returns-in-Err c = λ bytes is. unwritten bytes c.args.tape.now is c.requires c.in-Err.error c.of_text.result c.of_text.ensures c.in-Err.ensures
