-- Whole numbers go up to the largest type of their sign, unless one on the way is taken.
use Rattle.std.specs.Prelude.{◌≡◌, ℤ, Bool, false, [], ◌∷◌, refl}
use Rattle.std.proofs.Common.{ap, ◌∙◌, sym, append-nil}
use Rattle.sval_label.specs.Calls.{IntType, Call}
use Rattle.sval_lower.specs.Lower.{lower, wide_calls}
use Rattle.sval_lower.specs.Lowered.{lowered, lowered_call}
use Rattle.sval_lower.proofs.LoweredCalls.{replaced_alone}

-- a number of a type that goes up is lowered as one of 128 bits is
module _ (taken : Call → Bool) where
  pub one_up : (type larger : IntType) (n : ℤ) → taken (Call.Int type n) ≡ false → lower (Call.Int type n) ≡ Call.Int larger n ∷ []
      → lowered_call taken (Call.Int type n) ≡ lowered_call taken (Call.Int larger n)
  one_up type larger n t e =
      sym (append-nil (lowered_call taken (Call.Int type n))) ∙ replaced_alone taken (Call.Int type n) t ∙ ap (lowered taken) e ∙ append-nil (lowered_call taken (Call.Int larger n))

  pub at_wide : (type : IntType) (n : ℤ) → taken (Call.Int type n) ≡ false → lower (Call.Int type n) ≡ wide_calls n → lowered_call taken (Call.Int type n) ≡ lowered taken (wide_calls n)
  at_wide type n t e = sym (append-nil (lowered_call taken (Call.Int type n))) ∙ replaced_alone taken (Call.Int type n) t ∙ ap (lowered taken) e

  -- a type without a sign up to the largest one
  pub from_u128 : (n : ℤ) → taken (Call.Int IntType.U128 n) ≡ false → lowered_call taken (Call.Int IntType.U128 n) ≡ lowered taken (wide_calls n)
  from_u128 n t = at_wide IntType.U128 n t refl

  pub from_u64 : (n : ℤ) → taken (Call.Int IntType.U64 n) ≡ false → taken (Call.Int IntType.U128 n) ≡ false → lowered_call taken (Call.Int IntType.U64 n) ≡ lowered taken (wide_calls n)
  from_u64 n t u = one_up IntType.U64 IntType.U128 n t refl ∙ from_u128 n u

  pub from_u32 : (n : ℤ) → taken (Call.Int IntType.U32 n) ≡ false → taken (Call.Int IntType.U64 n) ≡ false → taken (Call.Int IntType.U128 n) ≡ false → lowered_call taken (Call.Int IntType.U32 n) ≡ lowered taken (wide_calls n)
  from_u32 n s t u = one_up IntType.U32 IntType.U64 n s refl ∙ from_u64 n t u

  pub from_u16 : (n : ℤ) → taken (Call.Int IntType.U16 n) ≡ false → taken (Call.Int IntType.U32 n) ≡ false → taken (Call.Int IntType.U64 n) ≡ false → taken (Call.Int IntType.U128 n) ≡ false → lowered_call taken (Call.Int IntType.U16 n) ≡ lowered taken (wide_calls n)
  from_u16 n r s t u = one_up IntType.U16 IntType.U32 n r refl ∙ from_u32 n s t u
