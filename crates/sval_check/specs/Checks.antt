-- What is said of a value that was checked.
use Rattle.std.specs.Prelude.{◌≡◌, ◌⊎◌, ℕ, ◌+◌, ◌-◌, ◌^◌, min, Bool, true, false, List, [], ◌∷◌, ◌++◌, length, Result, Ok, Err}
use Rattle.sval_label.specs.Calls.{Call, TextBegin, BinaryBegin, EnumBegin, TaggedBegin, Begin, PartBegin}
use Rattle.sval_core.specs.Trees.{Tree}
use Rattle.sval_core.specs.Spells.{Spells, IsViable}
use Rattle.sval_core.specs.Law.{Emission, Law, Standing, Stops}
pub use Rattle.sval_core.specs.OneValue.{IsOneValue}
use Rattle.sval_check.specs.declared.error.CheckError.{CheckError}
use Rattle.sval_check.specs.declared.error.CheckError.TheVariants as error

-- the calls before this one can be completed, and with it they cannot; its number is counted from 1 and stops at the greatest u64
pub record IsFirstBadCall (calls : List Call) (at : ℕ) : Type 0 where
  pub front : List Call
  pub call : Call
  pub rest : List Call
  pub whole : calls ≡ front ++ (call ∷ rest)
  pub before : IsViable front
  pub bad : IsViable (front ++ (call ∷ [])) → ⊥
  pub number : at ≡ min (length front + 1) (2 ^ 64 - 1)

-- all calls can be completed, and the value refuses
pub record OnlyRefuses (e : Emission) : Type 0 where
  pub viable : IsViable e.calls
  pub refuses : e.refuses ≡ true

-- all calls can be completed, the value doesn't refuse, and the calls spell no tree
pub record IsUnfinished (e : Emission) : Type 0 where
  pub viable : IsViable e.calls
  pub willing : e.refuses ≡ false
  pub no_tree : (tree : Tree) → Spells e.calls tree → ⊥

-- these calls begin what has an end of its own, and so may need memory
abbrev pub has_own_end : Call → Bool
has_own_end (TextBegin _) = true
has_own_end (BinaryBegin _) = true
has_own_end (EnumBegin _) = true
has_own_end (TaggedBegin _) = true
has_own_end (Begin _ _) = true
has_own_end (PartBegin _) = true
has_own_end _ = false

-- one of the calls may need memory, and with it and those before it the calls can be completed
pub record NeedsMemory (calls : List Call) : Type 0 where
  pub front : List Call
  pub call : Call
  pub rest : List Call
  pub whole : calls ≡ front ++ (call ∷ rest)
  pub viable : IsViable (front ++ (call ∷ []))
  pub opens : has_own_end call ≡ true

-- why a stream that stood at old isn't given back: the value isn't one whole value, or by the stream's law it may stop, or one of its calls may need memory
abbrev pub HasCauseInto : {V : Type 0} → Law V → Standing V → Emission → Type 0
HasCauseInto {V} law old e = (IsOneValue e → ⊥) ⊎ (((new : Standing V) × Stops law old e new) ⊎ NeedsMemory e.calls)

-- what checking answers
abbrev pub CheckAnswer : Type 0
CheckAnswer = Result (Unit {0}) CheckError

-- the answer that is due, where memory isn't wanting
abbrev pub IsCheckDue : Emission → CheckAnswer → Type 0
IsCheckDue e (Ok done) = IsOneValue e
IsCheckDue e (Err (error.BadCall at)) = IsFirstBadCall e.calls at
IsCheckDue e (Err error.Refused) = OnlyRefuses e
IsCheckDue e (Err error.Unfinished) = IsUnfinished e
IsCheckDue e (Err error.NoMemory) = ⊥

-- a value has one answer that is due
abbrev pub OneAnswer : Type 0
OneAnswer = (e : Emission) → (due : CheckAnswer) × IsCheckDue e due × ((other : CheckAnswer) → IsCheckDue e other → due ≡ other)
