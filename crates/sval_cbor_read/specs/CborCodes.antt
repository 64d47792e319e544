-- How a value of CBOR is told from others: by a list of symbols that gives it back.
use Rattle.std.specs.Prelude.{◌≡◌, ℕ, ℤ, pos, Bool, true, false, ◌==◌, if◌then◌else◌, List, [], ◌∷◌, refl}
use Rattle.std.specs.Coded.{Coded, code_by, coded×, coded_ℕ, coded_ℤ, coded_list}
use Rattle.std.proofs.Common.{ap, ◌∙◌}
use Rattle.sval_cbor_read.specs.CborValues.{CborValue, Null, Truth, Int, Text, Binary, Array, Map, CborValues, no_values, a_value, CborLevel, cbor_empty_level, cbor_innermost_level, cbor_under, cbor_puts, cbor_closes, cbor_first_value}
use Rattle.sval_cbor_read.specs.CborLookups.{Entry}

-- a number for the kind, an integer, and chunks
abbrev pub CborSymbol : Type 0
CborSymbol = ℕ × (ℤ × List (List ℕ))

abbrev mutual
  -- the symbols of a value, before others
  pub cbor_symbols_before : CborValue → List CborSymbol → List CborSymbol
  cbor_symbols_before Null more = (0, (pos 0, [])) ∷ more
  cbor_symbols_before (Truth false) more = (1, (pos 0, [])) ∷ more
  cbor_symbols_before (Truth true) more = (2, (pos 0, [])) ∷ more
  cbor_symbols_before (Int number) more = (3, (number, [])) ∷ more
  cbor_symbols_before (Text chunks) more = (4, (pos 0, chunks)) ∷ more
  cbor_symbols_before (Binary chunks) more = (5, (pos 0, chunks)) ∷ more
  cbor_symbols_before (Array values) more = (7, (pos 0, [])) ∷ cbor_values_before values ((6, (pos 0, [])) ∷ more)
  cbor_symbols_before (Map values) more = (8, (pos 0, [])) ∷ cbor_values_before values ((6, (pos 0, [])) ∷ more)

  -- those of values
  pub cbor_values_before : CborValues → List CborSymbol → List CborSymbol
  cbor_values_before no_values more = more
  cbor_values_before (a_value value values) more = cbor_symbols_before value (cbor_values_before values more)

-- what a symbol stands for
abbrev pub cbor_puts_symbol : ℕ → ℤ → List (List ℕ) → List CborLevel → List CborLevel
cbor_puts_symbol kind number chunks levels =
    if kind == 0 then cbor_puts Null levels
    else if kind == 1 then cbor_puts (Truth false) levels
    else if kind == 2 then cbor_puts (Truth true) levels
    else if kind == 3 then cbor_puts (Int number) levels
    else if kind == 4 then cbor_puts (Text chunks) levels
    else if kind == 5 then cbor_puts (Binary chunks) levels
    else if kind == 6 then cbor_empty_level ∷ levels
    else if kind == 7 then cbor_closes (λ level. Array level.values) levels
    else cbor_closes (λ level. Map level.values) levels

-- what symbols stand for, from the last to the first
abbrev pub cbor_levels_by : List CborSymbol → List CborLevel
cbor_levels_by [] = []
cbor_levels_by (symbol ∷ symbols) = cbor_puts_symbol symbol.0 symbol.1.0 symbol.1.1 (cbor_levels_by symbols)

-- the value that symbols give back
abbrev pub cbor_value_by : List CborSymbol → CborValue
cbor_value_by symbols = cbor_first_value (cbor_innermost_level (cbor_levels_by symbols)).values

-- values before what follows in the innermost level
abbrev pub cbor_puts_all : CborValues → List CborLevel → List CborLevel
cbor_puts_all no_values levels = levels
cbor_puts_all (a_value value values) levels = cbor_puts value (cbor_puts_all values levels)

pub cbor_all_values : (values : CborValues) (around : List CborLevel) → (cbor_innermost_level (cbor_puts_all values (cbor_empty_level ∷ around))).values ≡ values
cbor_all_values no_values around = refl
cbor_all_values (a_value value values) around = ap (a_value value) (cbor_all_values values around)

pub cbor_under_values : (values : CborValues) (around : List CborLevel) → cbor_under (cbor_puts_all values (cbor_empty_level ∷ around)) ≡ around
cbor_under_values no_values around = refl
cbor_under_values (a_value value values) around = cbor_under_values values around

-- a container around them
pub around_all : (made : CborValues → CborValue) (values : CborValues) (levels inner : List CborLevel) → inner ≡ cbor_puts_all values (cbor_empty_level ∷ levels)
    → cbor_closes (λ level. made level.values) inner ≡ cbor_puts (made values) levels
around_all made values levels inner e =
    ap (cbor_closes (λ level. made level.values)) e ∙ ap (λ x. cbor_puts (made x) (cbor_under (cbor_puts_all values (cbor_empty_level ∷ levels)))) (cbor_all_values values levels) ∙ ap (cbor_puts (made values)) (cbor_under_values values levels)

mutual
  pub cbor_given_back : (value : CborValue) (more : List CborSymbol) → cbor_levels_by (cbor_symbols_before value more) ≡ cbor_puts value (cbor_levels_by more)
  cbor_given_back Null more = refl
  cbor_given_back (Truth false) more = refl
  cbor_given_back (Truth true) more = refl
  cbor_given_back (Int number) more = refl
  cbor_given_back (Text chunks) more = refl
  cbor_given_back (Binary chunks) more = refl
  cbor_given_back (Array values) more = around_all Array values (cbor_levels_by more) _ (cbor_values_given_back values ((6, (pos 0, [])) ∷ more))
  cbor_given_back (Map values) more = around_all Map values (cbor_levels_by more) _ (cbor_values_given_back values ((6, (pos 0, [])) ∷ more))

  cbor_values_given_back : (values : CborValues) (more : List CborSymbol) → cbor_levels_by (cbor_values_before values more) ≡ cbor_puts_all values (cbor_levels_by more)
  cbor_values_given_back no_values more = refl
  cbor_values_given_back (a_value value values) more = cbor_given_back value (cbor_values_before values more) ∙ ap (cbor_puts value) (cbor_values_given_back values more)

-- the code of a value
abbrev pub cbor_value_code : Coded CborValue
cbor_value_code =
    code_by (List CborSymbol) (coded_list (coded× coded_ℕ (coded× coded_ℤ (coded_list (coded_list coded_ℕ))))) (λ value. cbor_symbols_before value []) cbor_value_by
    (λ value. ap (λ (levels : List CborLevel). cbor_first_value (cbor_innermost_level levels).values) (cbor_given_back value []))

-- the code of a pair of a map
abbrev pub entry_code : Coded Entry
entry_code = code_by (CborValue × CborValue) (coded× cbor_value_code cbor_value_code) (λ entry. (entry.key, entry.value)) (λ pair. record { key = pair.0; value = pair.1 }) (λ _. refl)
