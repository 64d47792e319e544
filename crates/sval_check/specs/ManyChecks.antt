-- What is said of a value that was checked for many trees in a row.
use Rattle.std.specs.Prelude.{◌≡◌, ◌⊎◌, ℕ, ◌+◌, ◌-◌, ◌^◌, min, true, false, List, [], ◌∷◌, ◌++◌, length, map, Result, Ok, Err}
use Rattle.sval_label.specs.Calls.{Call}
use Rattle.sval_core.specs.Trees.{Tree}
use Rattle.sval_core.specs.Many.{SpellsAll, IsViableAll, IsNoHint, AreEnds}
use Rattle.sval_core.specs.Law.{Emission}
use Rattle.sval_check.specs.Checks.{has_own_end}
use Rattle.sval_check.specs.declared.error.CheckError.{CheckError}
use Rattle.sval_check.specs.declared.error.CheckError.TheVariants as error

-- a number as it is kept, which stops at the greatest u64
abbrev pub as_kept : ℕ → ℕ
as_kept n = min n (2 ^ 64 - 1)

-- the value doesn't refuse, its calls spell trees one after another, and these are the numbers of calls up to each tree's last call
pub record AreValues (e : Emission) (kept : List ℕ) : Type 0 where
  pub willing : e.refuses ≡ false
  pub trees : List Tree
  pub ends : List ℕ
  pub spells : SpellsAll e.calls trees
  pub end_there : AreEnds e.calls trees ends
  pub are_kept : kept ≡ map as_kept ends

-- the calls before this one can be completed to a list of values, and with it they cannot; its number is counted from 1
pub record IsFirstBadOfList (calls : List Call) (at : ℕ) : Type 0 where
  pub front : List Call
  pub call : Call
  pub rest : List Call
  pub whole : calls ≡ front ++ (call ∷ rest)
  pub before : IsViableAll front
  pub bad : IsViableAll (front ++ (call ∷ [])) → ⊥
  pub number : at ≡ as_kept (length front + 1)

-- all calls can be completed, and the value refuses
pub record OnlyRefusesList (e : Emission) : Type 0 where
  pub viable : IsViableAll e.calls
  pub refuses : e.refuses ≡ true

-- all calls can be completed, the value doesn't refuse, and the calls spell no list of trees
pub record IsUnfinishedList (e : Emission) : Type 0 where
  pub viable : IsViableAll e.calls
  pub willing : e.refuses ≡ false
  pub no_trees : (trees : List Tree) → SpellsAll e.calls trees → ⊥

-- a tree of the list ends with this call: it is no hint, and the calls up to it spell trees
pub record EndsTree (front : List Call) (call : Call) : Type 0 where
  pub counts : IsNoHint call
  pub trees : List Tree
  pub spells : SpellsAll (front ++ (call ∷ [])) trees

-- one of the calls may need memory, as it begins something or ends a tree, and with it and those before it the calls can be completed
pub record NeedsMemoryOfList (calls : List Call) : Type 0 where
  pub front : List Call
  pub call : Call
  pub rest : List Call
  pub whole : calls ≡ front ++ (call ∷ rest)
  pub viable : IsViableAll (front ++ (call ∷ []))
  pub grows : (has_own_end call ≡ true) ⊎ EndsTree front call

-- what checking for many trees answers: where they end, or an error
abbrev pub ListAnswer : Type 0
ListAnswer = Result (List ℕ) CheckError

-- the answer that is due, where memory isn't wanting
abbrev pub IsDueOfList : Emission → ListAnswer → Type 0
IsDueOfList e (Ok ends) = AreValues e ends
IsDueOfList e (Err (error.BadCall at)) = IsFirstBadOfList e.calls at
IsDueOfList e (Err error.Refused) = OnlyRefusesList e
IsDueOfList e (Err error.Unfinished) = IsUnfinishedList e
IsDueOfList e (Err error.NoMemory) = ⊥

-- a value has one answer that is due
abbrev pub OneListAnswer : Type 0
OneListAnswer = (e : Emission) → (due : ListAnswer) × IsDueOfList e due × ((other : ListAnswer) → IsDueOfList e other → due ≡ other)
