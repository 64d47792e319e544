-- What stands behind a `-`.
use Rattle.std.specs.Prelude.{◌≡◌, ◌≢◌, ℕ, List, [], ◌∷◌, Option, Some, None, option_map, MatchOption, refl}
use Rattle.std.specs.Borrow.{Bor}
use Rattle.std.proofs.Common.{ap, ne_eqb}
use Rattle.sval_tool.specs.Words.{behind_dash}

pub dash_stripped : (word : List ℕ) (r : Option (Bor (List ℕ))) → MatchOption r ((rest : List ℕ) → word ≢ 45 ∷ rest) (λ x. word ≡ 45 ∷ x.now) → option_map (λ x. x.now) r ≡ behind_dash word
dash_stripped [] None m = refl
dash_stripped [] (Some x) m = cc m
dash_stripped (byte ∷ bytes) None m = rw (ne_eqb byte 45 (λ e. m bytes (ap (λ b. b ∷ bytes) e))) refl
dash_stripped (byte ∷ bytes) (Some x) m =
    let first : byte ≡ 45 = cc m in
    let rest : x.now ≡ bytes = cc m in
    rw first (ap Some rest)
