-- The calls of a number by whether it fits an `i64`.
use Rattle.std.specs.Prelude.{◌≡◌, ℕ, ℤ, true, false, List, [], ◌∷◌, length, Result, Some, refl}
use Rattle.std.proofs.Common.{sym, ap, subst, ◌∙◌}
use Rattle.sval_label.specs.declared.error.Error.{Error}
use Rattle.sval_label.specs.Calls.{Call, I64}
use Rattle.sval_core.specs.Law.{Standing, Law, Answers, Emits, emits}
use Rattle.sval_core.specs.Values.{makes}
use Rattle.sval_core.proofs.Emissions.{emits_one}
use Rattle.sval_json_read.specs.Trees.{number_name, fits_i64, whole_value}
use Rattle.sval_json_read.specs.Calls.{number_calls}

module _ {V : Type 0} (law : Law V) (old : Standing V) (text : List ℕ) (r : Result (Unit {0}) Error) (new : Standing V) where
  pub emits_whole : (n : ℤ) → fits_i64 text ≡ true → n ≡ whole_value text → Answers law r old (Call.Int I64 n) new → Emits law r old (makes (number_calls text)) new
  unfolding emits
  emits_whole n f e a =
      let one : Emits law r old (makes (Call.Int I64 n ∷ [])) new = emits_one law old new (Call.Int I64 n) r a in
      let whole : number_calls text ≡ Call.Int I64 (whole_value text) ∷ [] = rw f refl in
      subst (λ calls. Emits law r old (makes calls) new) (sym (whole ∙ ap (λ z. Call.Int I64 z ∷ []) (sym e))) one

  pub emits_text : fits_i64 text ≡ false
      → Emits law r old (makes (Call.TaggedBegin number_name ∷ Call.TextBegin (Some (length text)) ∷ Call.TextFragment true text ∷ Call.TextEnd ∷ Call.TaggedEnd number_name ∷ [])) new
      → Emits law r old (makes (number_calls text)) new
  emits_text f s =
      let is : number_calls text ≡ Call.TaggedBegin number_name ∷ Call.TextBegin (Some (length text)) ∷ Call.TextFragment true text ∷ Call.TextEnd ∷ Call.TaggedEnd number_name ∷ [] = rw f refl in
      subst (λ calls. Emits law r old (makes calls) new) (sym is) s
