-- The words that name what is written of a document.
use Rattle.std.specs.Prelude.{ℕ, List, [], ◌∷◌, codes, bytes_eq, Option, Some, None, if◌then◌else◌}
use Rattle.sval_program.specs.declared.form.ReadForm.{ReadForm}
use Rattle.sval_program.specs.declared.form.ReadForm.TheVariants.{Json, Calls}

-- the form that a word names
abbrev pub read_form_by : List ℕ → Option ReadForm
read_form_by word = if bytes_eq word (codes "json") then Some Json else if bytes_eq word (codes "calls") then Some Calls else None

-- the form that words are, if they are one
abbrev pub read_form : List (List ℕ) → Option ReadForm
read_form (word ∷ []) = read_form_by word
read_form words = None
