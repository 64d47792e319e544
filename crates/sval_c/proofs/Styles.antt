-- Numbers of styles.
use Rattle.std.specs.Prelude.{◌≡◌, ℕ, zero, suc, List, [], Some, refl}
use Rattle.sval_c.specs.declared.fault.Fault.TheVariants as fault
use Rattle.sval_c.specs.OfTapes.{JsonOfTapeDue}

-- a number names no style
pub no_style : (style : ℕ) (tape : List ℕ) → (style ≡ 0 → ⊥) → (style ≡ 1 → ⊥) → JsonOfTapeDue style tape (Some fault.BadChoice) []
no_style zero tape first second = absurd (first refl)
no_style (suc zero) tape first second = absurd (second refl)
no_style (suc (suc style)) tape first second = (refl, refl)
