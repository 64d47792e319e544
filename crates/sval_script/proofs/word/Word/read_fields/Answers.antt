use Rattle.std.proofs.Common.{refl}
use Rattle.std.proofs.lemmas.Str.{IsUtf8-nil}
use Rattle.sval_script.proofs.LinesMade.{makes_all}
use Rattle.sval_script.proofs.word.Word.read_fields.Goals as goal

pub returns-in-Alone-clause-made : goal.returns-in-Alone-clause-made
returns-in-Alone-clause-made c = rw c.in-Alone.is (makes_all _ _ _ _ _ refl refl refl IsUtf8-nil)
