-- Rows of the table of the options.
use Rattle.std.specs.Prelude.{◌≡◌, ℕ, zero, suc, ◌<◌, ◌≤◌, Bool, true, false, if◌then◌else◌, List, [], ◌∷◌, length, map, Option, Some, None, bytes_eq, refl}
use Rattle.std.proofs.Common.{ap, sym, ◌∙◌, arith, get_or, drop}
use Rattle.std.proofs.lemmas.List.{length-map}
use Rattle.sval_tool.specs.declared.switch.OptionRow.{OptionRow}
use Rattle.sval_tool.specs.Switches.{SeenRow, seen_row, option_name_at, option_rows, row_named, row_shortened}

-- how many rows there are
pub rows_counted : (rows : List OptionRow) → map seen_row rows ≡ option_rows → length rows ≡ 10
unfolding option_rows
rows_counted rows seen = sym (length-map rows seen_row) ∙ ap length seen

-- what a test chooses
chosen : (x y : Option SeenRow) (b : Bool) → true ≡ b → (if b then x else y) ≡ x
chosen x y true is = refl
chosen x y false is = cc

-- the name in a row
name_in_row : (rows : List OptionRow) (index : ℕ) (default : OptionRow) → (get_or rows index default).name.now ≡ option_name_at default.name.now index (map seen_row rows)
name_in_row [] zero default = refl
name_in_row [] (suc index) default = refl
name_in_row (first ∷ rows) zero default = refl
name_in_row (first ∷ rows) (suc index) default = name_in_row rows index default

-- and by the table of the rows
pub name_by_table : (rows : List OptionRow) (index place : ℕ) (table : List SeenRow) (default : OptionRow) → map seen_row rows ≡ table → index ≡ place
    → (get_or rows index default).name.now ≡ option_name_at default.name.now place table
name_by_table rows index place table default seen same =
    name_in_row rows index default
    ∙ (ap (λ (rows : List SeenRow). option_name_at default.name.now index rows) seen ∙ ap (λ (i : ℕ). option_name_at default.name.now i table) same)

-- the first of the rows left that has this name
pub named_found : (rows : List OptionRow) (index : ℕ) (default : OptionRow) (name : List ℕ) → index < length rows → true ≡ bytes_eq (get_or rows index default).name.now name
    → row_named name (map seen_row (drop index rows)) ≡ Some (seen_row (get_or rows index default))
named_found [] index default name less is = absurd (omega (arith, less))
named_found (first ∷ rows) zero default name less is = chosen (Some (seen_row first)) (row_named name (map seen_row rows)) (bytes_eq first.name.now name) is
named_found (first ∷ rows) (suc index) default name less is = named_found rows index default name (omega (arith, less)) is

pub named_none : (rows : List OptionRow) (index : ℕ) (name : List ℕ) → length rows ≤ index → row_named name (map seen_row (drop index rows)) ≡ None
named_none [] zero name all = refl
named_none [] (suc index) name all = refl
named_none (first ∷ rows) zero name all = absurd (omega (arith, all))
named_none (first ∷ rows) (suc index) name all = named_none rows index name (omega (arith, all))

-- the first of the rows left that has this short form
pub shortened_found : (rows : List OptionRow) (index : ℕ) (default : OptionRow) (letters : List ℕ) → index < length rows → true ≡ bytes_eq (get_or rows index default).short.now letters
    → row_shortened letters (map seen_row (drop index rows)) ≡ Some (seen_row (get_or rows index default))
shortened_found [] index default letters less is = absurd (omega (arith, less))
shortened_found (first ∷ rows) zero default letters less is = chosen (Some (seen_row first)) (row_shortened letters (map seen_row rows)) (bytes_eq first.short.now letters) is
shortened_found (first ∷ rows) (suc index) default letters less is = shortened_found rows index default letters (omega (arith, less)) is

pub shortened_none : (rows : List OptionRow) (index : ℕ) (letters : List ℕ) → length rows ≤ index → row_shortened letters (map seen_row (drop index rows)) ≡ None
shortened_none [] zero letters all = refl
shortened_none [] (suc index) letters all = refl
shortened_none (first ∷ rows) zero letters all = absurd (omega (arith, all))
shortened_none (first ∷ rows) (suc index) letters all = shortened_none rows index letters (omega (arith, all))
