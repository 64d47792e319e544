-- JSON in a text is written as it is.
use Rattle.std.specs.Prelude.{ℕ, List, [], ◌∷◌, length, Some, refl}
use Rattle.std.proofs.Common.{append-nil}
use Rattle.sval_json.specs.declared.style.Variants.{Variants}
use Rattle.sval_json.specs.Laws.{IsWrittenAsItIs}

pub written_as_it_is : (style : Variants) (text : List ℕ) → IsWrittenAsItIs style text
written_as_it_is style text = record {
  spells = ((refl, tt, tt), (_, refl, (Some (length text), text ∷ [], refl, append-nil text, refl)));
  shape = refl;
  written = refl;
}
