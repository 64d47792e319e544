-- A buffer of tokens keeps all calls.
use Rattle.std.specs.Prelude.{◌≡◌, List, [], ◌∷◌, ◌++◌, refl}
use Rattle.std.proofs.Common.{append_assoc, ◌∙◌, subst}
use Rattle.std.proofs.lemmas.List.{append-nil}
use Rattle.sval_label.specs.Calls.{Call}
use Rattle.sval_core.specs.Law.{Ran}
use Rattle.sval_check.specs.TokenBufs.{token_law, KeepsAll, TakesAnyCalls}

pub keeps_all : (kept calls left : List Call) → Ran token_law kept calls left → left ≡ kept ++ calls
keeps_all kept [] left ran = rw append-nil ran
keeps_all kept (call ∷ calls) left ran = keeps_all (kept ++ (call ∷ [])) calls left ran.1 ∙ append_assoc kept (call ∷ []) calls

pub takes_all : (kept calls : List Call) → Ran token_law kept calls (kept ++ calls)
takes_all kept [] = append-nil kept
takes_all kept (call ∷ calls) =
    let next : Ran token_law (kept ++ (call ∷ [])) calls ((kept ++ (call ∷ [])) ++ calls) = takes_all (kept ++ (call ∷ [])) calls in
    (tt, subst (λ (left : List Call). Ran token_law (kept ++ (call ∷ [])) calls left) (append_assoc kept (call ∷ []) calls) next)
