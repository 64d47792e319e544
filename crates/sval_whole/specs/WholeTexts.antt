-- What writing a value to memory answers where its calls are checked first.
use Rattle.std.specs.Prelude.{◌≡◌, ◌⊎◌, ℕ, List, Result, Ok, Err, IfOk, IfErr, IsUtf8}
use Rattle.sval_core.specs.Law.{Emission}
use Rattle.sval_check.specs.Checks.{IsOneValue, IsFirstBadCall, OnlyRefuses, IsUnfinished, NeedsMemory}
use Rattle.sval_json.specs.declared.style.Variants.{Variants}
use Rattle.sval_json.specs.Number.{InvalidKey, InvalidNumber}
use Rattle.sval_json.specs.Given.{IsSpelledTextIn, IsSpelledValueIn}
use Rattle.sval_whole.specs.declared.error.WriteError.{WriteError}
use Rattle.sval_whole.specs.declared.error.WriteError.TheVariants as error
use Rattle.sval_whole.specs.Whole.{LacksJsonIn, WriteAnswer, IsWriteDue}

-- an answer by what is seen of its text
abbrev pub by_text : {T : Type 0} → Result T WriteError → (T → List ℕ) → Result (List ℕ) WriteError
by_text (Ok json) bytes = Ok (bytes json)
by_text (Err why) bytes = Err why

-- an answer without its text
abbrev pub write_answer : Result (List ℕ) WriteError → WriteAnswer
write_answer (Ok bytes) = Ok tt
write_answer (Err why) = Err why

-- the calls are one whole value, and the bytes are exactly the text of the JSON of the tree that they spell, which denotes what is meant
pub record IsTextOfOneValue (style : Variants) (e : Emission) (bytes : List ℕ) : Type 0 where
  pub value : IsOneValue e
  pub tree : IsSpelledTextIn style e.calls bytes
  pub denotes : IsSpelledValueIn style e.calls bytes
  pub utf8 : IsUtf8 bytes

-- why there is no text; no sink fails
abbrev pub IsTextCause : Variants → Emission → WriteError → Type 0
IsTextCause style e (error.BadCall at) = IsFirstBadCall e.calls at
IsTextCause style e error.Unfinished = IsUnfinished e
IsTextCause style e error.Refused = OnlyRefuses e
IsTextCause style e error.InvalidKey = LacksJsonIn style InvalidKey e
IsTextCause style e error.InvalidNumber = LacksJsonIn style InvalidNumber e
IsTextCause style e error.Write = ⊥
IsTextCause style e error.NoMemory = NeedsMemory e.calls ⊎ IsOneValue e

-- On Ok the bytes are the JSON of the one value that the calls are. Each error comes only where it is so, and the answer that is due
-- comes unless memory was wanting.
pub record GivesWholeText (style : Variants) (e : Emission) (result : Result (List ℕ) WriteError) : Type 0 where
  pub done : IfOk result (IsTextOfOneValue style e)
  pub cause : IfErr result (IsTextCause style e)
  pub comes : (due : WriteAnswer) → IsWriteDue style e due → (write_answer result ≡ due) ⊎ (result ≡ Err error.NoMemory)
