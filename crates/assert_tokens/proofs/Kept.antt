-- What a buffer of tokens holds that took a value, and when that is what is expected.
use Rattle.std.specs.Prelude.{◌≡◌, ◌↔◌, Bool, false, true, IsTrue, List, [], ◌∷◌, ◌++◌, refl}
use Rattle.std.proofs.Common.{◌∙◌, subst, arith, inl, inr}
use Rattle.sval_label.specs.Calls.{Call}
use Rattle.sval_core.specs.Law.{Emission, Ran, Standing, StoppedIn}
use Rattle.sval_check.specs.Tokens.{all_compared}
use Rattle.sval_check.specs.TokenBufs.{TakenCalls, nothing_taken, token_law}
use Rattle.sval_check.proofs.Tokens.{keeps_all}
use Rattle.assert_tokens.specs.Matches.{MakesTokens}

all_kept : (old new : TakenCalls) (calls : List Call) → old ≡ nothing_taken → Ran token_law old.calls calls new.calls → new.calls ≡ calls
all_kept old new calls start ran = keeps_all old.calls calls new.calls ran ∙ rw start refl

-- a value that doesn't refuse comes to its end in a buffer whose counts stay 0
pub never_stops : (old new : Standing (List Call)) (view : List Call) (calls : List Call) → old.faults ≡ 0 → old.wants ≡ 0 → new.faults ≡ 0 → new.wants ≡ 0 → StoppedIn token_law old new view calls false → ⊥
never_stops old new view [] f w g x s = let never : false ≡ true = s.0 in cc never
never_stops old new view (call ∷ calls) f w g x (inl (inl refused, left)) = refused tt
never_stops old new view (call ∷ calls) f w g x (inl (inr (inl rose), left)) = omega arith
never_stops old new view (call ∷ calls) f w g x (inl (inr (inr rose), left)) = omega arith
never_stops old new view (call ∷ calls) f w g x (inr (taken, s)) = never_stops old new (view ++ (call ∷ [])) calls f w g x s

pub matches_made : (e : Emission) (expected : List Call) (old new : TakenCalls) (same : Bool) → old ≡ nothing_taken → Ran token_law old.calls e.calls new.calls
    → (IsTrue same ↔ (all_compared new.calls ≡ all_compared expected)) → (IsTrue same ↔ MakesTokens e expected)
matches_made e expected old new same start ran matches =
    subst (λ calls. IsTrue same ↔ (all_compared calls ≡ all_compared expected)) (all_kept old new e.calls start ran) matches
