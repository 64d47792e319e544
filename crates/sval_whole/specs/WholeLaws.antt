-- The law of the answers, as a fact.
use Rattle.std.specs.Prelude.{◌≡◌}
use Rattle.sval_core.specs.Law.{Emission}
use Rattle.sval_json.specs.declared.style.Variants.{Variants}
use Rattle.sval_whole.specs.Whole.{WriteAnswer, IsWriteDue}

-- a value has one answer that is due
abbrev pub OneWriteAnswer : Type 0
OneWriteAnswer = (style : Variants) (e : Emission) → (due : WriteAnswer) × IsWriteDue style e due × ((other : WriteAnswer) → IsWriteDue style e other → due ≡ other)
