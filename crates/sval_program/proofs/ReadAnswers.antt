-- What a reader of a script answers where its input was read.
use Rattle.std.specs.Prelude.{◌≡◌, ◌⊎◌, ℕ, ◌<◌, List, [], length, Result, Ok, Err}
use Rattle.std.proofs.Common.{◌∙◌, inl, inr}
use Rattle.sval_label.specs.Calls.{Call}
use Rattle.sval_io.specs.Sources.{Supply}
use Rattle.sval_script.specs.Lines.{Lines, Good, Bad, lines}
use Rattle.sval_script.specs.Readings.{ScriptReading, answer_to, answer_with}
use Rattle.sval_script.specs.declared.script.ScriptError.{ScriptError}
use Rattle.sval_script.specs.declared.script.ScriptError.TheVariants as reading
use Rattle.sval_program.specs.Inputs.{HasRead}

module _ {reader : ScriptReading} {old new : Supply} (h : HasRead old reader new) where
  answered : (l : Lines) (a due : Result (List Call) ScriptError) → (a ≡ answer_to l) ⊎ ((a ≡ Err reading.NoMemory) × (0 < length h.script)) → due ≡ a
      → (due ≡ answer_to l) ⊎ ((due ≡ Err reading.NoMemory) × (0 < length h.script))
  answered l a due (inl is) e = inl (e ∙ is)
  answered l a due (inr (is, some)) e = inr (e ∙ is, some)

  -- a script
  pub read_good : (calls : List Call) → ◌≡◌ {A = Result (List Call) ScriptError} (Ok calls) (answer_with reader []) → lines h.script ≡ Good calls
  read_good calls e = good (lines h.script) (answered (lines h.script) (answer_with reader []) (Ok calls) h.answer e)
    where
      good : (l : Lines) → (◌≡◌ {A = Result (List Call) ScriptError} (Ok calls) (answer_to l)) ⊎ ((◌≡◌ {A = Result (List Call) ScriptError} (Ok calls) (Err reading.NoMemory)) × (0 < length h.script)) → l ≡ Good calls
      good (Good other) (inl is) = cc is
      good (Bad n) (inl is) = cc is
      good l (inr (is, some)) = cc is

  -- or the first line that is no call
  pub read_bad : (n : ℕ) → ◌≡◌ {A = Result (List Call) ScriptError} (Err (reading.BadLine n)) (answer_with reader []) → lines h.script ≡ Bad n
  read_bad n e = bad (lines h.script) (answered (lines h.script) (answer_with reader []) (Err (reading.BadLine n)) h.answer e)
    where
      bad : (l : Lines) → (◌≡◌ {A = Result (List Call) ScriptError} (Err (reading.BadLine n)) (answer_to l)) ⊎ ((◌≡◌ {A = Result (List Call) ScriptError} (Err (reading.BadLine n)) (Err reading.NoMemory)) × (0 < length h.script)) → l ≡ Bad n
      bad (Good other) (inl is) = cc is
      bad (Bad m) (inl is) = cc is
      bad l (inr (is, some)) = cc is
