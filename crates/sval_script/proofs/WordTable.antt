-- The table of words has the forms of the definition, and its places find each of them.
use Rattle.std.specs.Prelude.{◌≡◌, ◌==◌, ℕ, ◌<◌, nat_lt, Bool, true, false, List, [], ◌∷◌, length, get_or, map, Some, None, bytes_eq, refl}
use Rattle.std.specs.List.{list_all, list_any}
use Rattle.std.specs.Borrow.{Bor}
use Rattle.std.proofs.Common.{arith, sym, ◌∙◌}
use Rattle.std.proofs.lemmas.Bool.{ltb-true}
use Rattle.std.proofs.lemmas.List.{get_or-map}
use Rattle.std.proofs.lemmas.List.Folds.{list_all_at}
use Rattle.sval_script.specs.Lines.{LineForm, forms, find_form}
use Rattle.sval_script.specs.declared.word.Word.{Word}
use Rattle.sval_script.specs.declared.word.Word.TheVariants as word
use Rattle.sval_script.specs.declared.word.TheConstants.{SLOTS}
use Rattle.sval_script.specs.Words.{form_of_word, word_table, texts_and_words, word_place, word_text_at}
use Rattle.sval_script.proofs.Tables.{same_at, row_at, absent}

-- each word's text has its form
forms_of_words : map (λ row. find_form row.0 forms) word_table ≡ map (λ row. Some (form_of_word row.1)) word_table
unfolding forms
forms_of_words = refl

-- at each word's place stands its text
texts_at_places : map (λ text. word_text_at (word_place text)) (map (λ row. row.0) forms) ≡ map (λ row. row.0) forms
unfolding forms
texts_at_places = refl

-- each place holds a word
slots_are_words : list_all (λ slot. nat_lt slot 48) SLOTS ≡ true
slots_are_words = refl

pub slot_is_word : (place : ℕ) → place < 256 → get_or SLOTS place 0 < 48
slot_is_word place h = by_test (nat_lt (get_or SLOTS place 0) 48) refl
  where
    by_test : (b : Bool) → nat_lt (get_or SLOTS place 0) 48 ≡ b → get_or SLOTS place 0 < 48
    by_test true is = ltb-true _ _ is
    by_test false is = let found = list_all_at (λ slot. nat_lt slot 48) SLOTS place 0 h is in cc (sym slots_are_words, found)

none : List ℕ × Word
none = ([], word.Bool)

pub form_at : (rows : List (Bor (List ℕ) × Word)) (k : ℕ) (row : Bor (List ℕ) × Word) → texts_and_words rows ≡ word_table → k < 48
    → find_form (get_or rows k row).0.now forms ≡ Some (form_of_word (get_or rows k row).1)
form_at rows k row e h =
    let (text, word) = row_at rows word_table k row none e h in
    rw (text, word) (same_at (λ (r : List ℕ × Word). find_form r.0 forms) (λ (r : List ℕ × Word). Some (form_of_word r.1)) word_table k none forms_of_words h)

pub text_at_row : (rows : List (Bor (List ℕ) × Word)) (k : ℕ) (row : Bor (List ℕ) × Word) → texts_and_words rows ≡ word_table → k < 48
    → (get_or rows k row).0.now ≡ get_or (map (λ r. r.0) word_table) k []
text_at_row rows k row e h =
    let (text, word) = row_at rows word_table k row none e h in
    text ∙ sym (get_or-map (λ (r : List ℕ × Word). r.0) word_table k none [] h)

-- a text that isn't among the rows' has no form
no_form : (text : List ℕ) (rows : List (List ℕ × LineForm)) → list_any (bytes_eq text) (map (λ row. row.0) rows) ≡ false → find_form text rows ≡ None
no_form text [] h = refl
no_form text (row ∷ rows) h = by_test (bytes_eq text row.0) refl (no_form text rows)
  where
    by_test : (b : Bool) → bytes_eq text row.0 ≡ b → (list_any (bytes_eq text) (map (λ (r : List ℕ × LineForm). r.0) rows) ≡ false → find_form text rows ≡ None) → find_form text (row ∷ rows) ≡ None
    by_test true is later = let never : true ≡ false = rw is at h in cc never
    by_test false is later = rw is (later (rw is at h))

pub no_word : (text name : List ℕ) → name ≡ word_text_at (word_place text) → bytes_eq name text ≡ false → find_form text forms ≡ None
no_word text name is other = no_form text forms (absent (λ t. word_text_at (word_place t)) (map (λ row. row.0) forms) text texts_at_places (rw is at other))

pub no_text : find_form [] forms ≡ None
unfolding forms
no_text = refl

pub no_bytes : (text : List ℕ) → (length text == 0) ≡ true → text ≡ []
no_bytes [] h = refl
no_bytes (b ∷ text) h = grind arith
