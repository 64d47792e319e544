-- Calls whose fragments are computed spell what they did.
use Rattle.std.specs.Prelude.{◌≡◌, List, [], ◌∷◌, map, refl}
use Rattle.std.specs.List.{cons_option}
use Rattle.std.proofs.Common.{sym, ap, ◌∙◌, subst}
use Rattle.sval_label.specs.Calls.{Call}
use Rattle.sval_core.specs.Law.{computed}
use Rattle.sval_core.specs.Trees.{Tree}
use Rattle.sval_core.specs.Spells.{Says, Spells, plain, plain_call}

plain_same : (calls : List Call) → plain (map computed calls) ≡ plain calls
plain_same [] = refl
plain_same (c ∷ calls) = ap (λ x. cons_option x (plain (map computed calls))) (same c) ∙ ap (λ x. cons_option (plain_call c) x) (plain_same calls)
  where
    same : (c : Call) → plain_call (computed c) ≡ plain_call c
    same (Call.TextFragment borrowed bytes) = refl
    same c = refl

pub computed_spells : (calls : List Call) (tree : Tree) → Spells calls tree → Spells (map computed calls) tree
computed_spells calls tree (good, says) = (good, subst (λ cs. Says tree cs []) (sym (plain_same calls)) says)
