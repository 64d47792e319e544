-- What a value that tells a tree is answered: whoever checks a value of his own needs no more.
use Rattle.std.specs.Prelude.{◌≡◌, ◌⊎◌, Ok, Err, IsOkUnless}
use Rattle.std.proofs.Common.{inl, inr}
use Rattle.sval_core.specs.Trees.{Tree}
use Rattle.sval_core.specs.Law.{Emission}
use Rattle.sval_core.specs.ValueTrees.{Tells}
use Rattle.sval_check.specs.declared.error.CheckError.TheVariants as error
use Rattle.sval_check.specs.Checks.{IsOneValue, CheckAnswer, IsCheckDue}

pub told_is_one_value : {e : Emission} {t : Tree} → Tells e t → IsOneValue e
told_is_one_value {t = t} tells = record { willing = tells.willing; spells = (t, tells.spells) }

-- it passes, unless memory was wanting
pub told_passes : {e : Emission} {t : Tree} (r : CheckAnswer) → Tells e t → ((due : CheckAnswer) → IsCheckDue e due → (r ≡ due) ⊎ (r ≡ Err error.NoMemory)) → IsOkUnless r error.NoMemory
told_passes (Ok done) tells comes = tt
told_passes (Err e) tells comes = by_answer (comes (Ok tt) (told_is_one_value tells))
  where
    by_answer : (◌≡◌ {A = CheckAnswer} (Err e) (Ok tt)) ⊎ (◌≡◌ {A = CheckAnswer} (Err e) (Err error.NoMemory)) → e ≡ error.NoMemory
    by_answer (inl is) = cc is
    by_answer (inr is) = cc is
