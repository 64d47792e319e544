use Rattle.std.proofs.Common.{◌≡◌, ◌++◌, ℕ, List, Option, Some, None, Bor}
use Rattle.std.specs.Option.{MatchOption, IfSome}
use Rattle.std.proofs.lemmas.Bool.Decides.{Decides-eqb}
use Rattle.std.proofs.lemmas.Slice.Eq.{strip_prefix_is}
use Rattle.sval_json_read.proofs.json_text.behind.Goals as goal

-- what is found, and that nothing else is
told : (text bytes : List ℕ) (result : Option (Bor (List ℕ))) → MatchOption result ((more : List ℕ) → bytes ≡ text ++ more → ⊥) (λ x. bytes ≡ text ++ x.now)
    → IfSome result (λ more. bytes ≡ text ++ more.now) × (result ≡ None → (more : List ℕ) → bytes ≡ text ++ more → ⊥)
told text bytes None m = (tt, λ e. m)
told text bytes (Some x) m = (m, λ e. absurd (cc e))

pub returns : goal.returns
returns c =
    let both = told c.args.text.now c.args.bytes.now c.strip_prefix.result (strip_prefix_is Decides-eqb c.args.bytes.now c.args.text.now c.strip_prefix.result c.strip_prefix.ensures.cases) in
    record { found = both.0; other = both.1 }
