-- What the letters of `null`, `true` and `false` stand for that are left of them.
use Rattle.std.specs.Prelude.{◌≡◌, ℕ, List, [], ◌∷◌, Option, Some, None}
use Rattle.sval_json_read.specs.declared.word.Word.{Word}
use Rattle.sval_json_read.specs.declared.word.Word.TheVariants as word
use Rattle.sval_json_read.specs.Reader.{Expected, Letter, Next, ReaderState, step_in, expects}

-- the next letter, and those behind it
abbrev pub expected_word : Word → Expected
expected_word word.Ull = Letter 117 (108 ∷ 108 ∷ [])
expected_word word.Ll = Letter 108 (108 ∷ [])
expected_word word.L = Letter 108 []
expected_word word.Rue = Letter 114 (117 ∷ 101 ∷ [])
expected_word word.Ue = Letter 117 (101 ∷ [])
expected_word word.E = Letter 101 []
expected_word word.Alse = Letter 97 (108 ∷ 115 ∷ 101 ∷ [])
expected_word word.Lse = Letter 108 (115 ∷ 101 ∷ [])
expected_word word.Se = Letter 115 (101 ∷ [])

-- all letters that are left
abbrev pub letters_in : Expected → List ℕ
letters_in (Letter letter letters) = letter ∷ letters
letters_in _ = []

abbrev pub letters_of : Word → List ℕ
letters_of word = letters_in (expected_word word)

-- what comes next where this is left of a word
abbrev pub left_of : Option Word → Expected
left_of None = Next
left_of (Some word) = expected_word word

-- what is left of a word after this letter, or none where the machine refuses it
abbrev pub AfterLetter : Word → ℕ → Option (Option Word) → Type 0
AfterLetter word letter None = (state : ReaderState) → step_in (expected_word word) state letter ≡ None
AfterLetter word letter (Some left) = (state : ReaderState) → step_in (expected_word word) state letter ≡ Some (expects state (left_of left))
