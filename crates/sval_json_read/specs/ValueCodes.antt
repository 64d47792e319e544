-- How a value of JSON is told from others: by a list of numbers and texts that gives it back.
use Rattle.std.specs.Prelude.{◌≡◌, ℕ, true, false, ◌==◌, if◌then◌else◌, List, [], ◌∷◌, refl}
use Rattle.std.specs.Coded.{Coded, code_by, coded×, coded_ℕ, coded_list}
use Rattle.std.proofs.Common.{ap, ◌∙◌}
use Rattle.sval_json.specs.Grammar.{JsonValue, Null, Truth, Number, Text, Array, Object, Values, no_values, a_value, Members, no_members, a_member}
use Rattle.sval_json_read.specs.SeenValues.{Level, empty_level, innermost_level, under, puts, names, first_value}
use Rattle.sval_json_read.specs.Lookups.{Member}

-- a number and a text
abbrev pub Symbol : Type 0
Symbol = ℕ × List ℕ

abbrev mutual
  -- the symbols of a value, before others
  pub symbols_before : JsonValue → List Symbol → List Symbol
  symbols_before Null more = (0, []) ∷ more
  symbols_before (Truth false) more = (1, []) ∷ more
  symbols_before (Truth true) more = (2, []) ∷ more
  symbols_before (Number text) more = (3, text) ∷ more
  symbols_before (Text text) more = (4, text) ∷ more
  symbols_before (Array values) more = (7, []) ∷ values_before values ((6, []) ∷ more)
  symbols_before (Object members) more = (8, []) ∷ members_before members ((6, []) ∷ more)

  -- those of values
  pub values_before : Values → List Symbol → List Symbol
  values_before no_values more = more
  values_before (a_value value values) more = symbols_before value (values_before values more)

  -- those of pairs
  pub members_before : Members → List Symbol → List Symbol
  members_before no_members more = more
  members_before (a_member text value members) more = (5, text) ∷ symbols_before value (members_before members more)

-- what a symbol stands for
abbrev pub puts_symbol : ℕ → List ℕ → List Level → List Level
puts_symbol kind text levels =
    if kind == 0 then puts Null levels
    else if kind == 1 then puts (Truth false) levels
    else if kind == 2 then puts (Truth true) levels
    else if kind == 3 then puts (Number text) levels
    else if kind == 4 then puts (Text text) levels
    else if kind == 5 then names text levels
    else if kind == 6 then empty_level ∷ levels
    else if kind == 7 then puts (Array (innermost_level levels).values) (under levels)
    else puts (Object (innermost_level levels).members) (under levels)

-- what symbols stand for, from the last to the first
abbrev pub levels_by : List Symbol → List Level
levels_by [] = []
levels_by (symbol ∷ symbols) = puts_symbol symbol.0 symbol.1 (levels_by symbols)

-- the value that symbols give back
abbrev pub value_by : List Symbol → JsonValue
value_by symbols = first_value (innermost_level (levels_by symbols)).values

-- values before what stands in the innermost level
abbrev pub puts_all : Values → List Level → List Level
puts_all no_values levels = levels
puts_all (a_value value values) levels = puts value (puts_all values levels)

-- and pairs
abbrev pub pairs_all : Members → List Level → List Level
pairs_all no_members levels = levels
pairs_all (a_member text value members) levels = names text (puts value (pairs_all members levels))

pub all_values : (values : Values) (around : List Level) → (innermost_level (puts_all values (empty_level ∷ around))).values ≡ values
all_values no_values around = refl
all_values (a_value value values) around = ap (a_value value) (all_values values around)

pub under_values : (values : Values) (around : List Level) → under (puts_all values (empty_level ∷ around)) ≡ around
under_values no_values around = refl
under_values (a_value value values) around = under_values values around

pub all_members : (members : Members) (around : List Level) → (innermost_level (pairs_all members (empty_level ∷ around))).members ≡ members
all_members no_members around = refl
all_members (a_member text value members) around = ap (a_member text value) (all_members members around)

pub under_members : (members : Members) (around : List Level) → under (pairs_all members (empty_level ∷ around)) ≡ around
under_members no_members around = refl
under_members (a_member text value members) around = under_members members around

pub array_puts : (values : Values) (levels inner : List Level) → inner ≡ puts_all values (empty_level ∷ levels) → puts (Array (innermost_level inner).values) (under inner) ≡ puts (Array values) levels
array_puts values levels inner e =
    ap (λ x. puts (Array (innermost_level x).values) (under x)) e ∙ ap (λ x. puts (Array x) (under (puts_all values (empty_level ∷ levels)))) (all_values values levels)
    ∙ ap (puts (Array values)) (under_values values levels)

pub object_puts : (members : Members) (levels inner : List Level) → inner ≡ pairs_all members (empty_level ∷ levels)
    → puts (Object (innermost_level inner).members) (under inner) ≡ puts (Object members) levels
object_puts members levels inner e =
    ap (λ x. puts (Object (innermost_level x).members) (under x)) e ∙ ap (λ x. puts (Object x) (under (pairs_all members (empty_level ∷ levels)))) (all_members members levels)
    ∙ ap (puts (Object members)) (under_members members levels)

mutual
  pub given_back : (value : JsonValue) (more : List Symbol) → levels_by (symbols_before value more) ≡ puts value (levels_by more)
  given_back Null more = refl
  given_back (Truth false) more = refl
  given_back (Truth true) more = refl
  given_back (Number text) more = refl
  given_back (Text text) more = refl
  given_back (Array values) more = array_puts values (levels_by more) _ (values_given_back values ((6, []) ∷ more))
  given_back (Object members) more = object_puts members (levels_by more) _ (members_given_back members ((6, []) ∷ more))

  values_given_back : (values : Values) (more : List Symbol) → levels_by (values_before values more) ≡ puts_all values (levels_by more)
  values_given_back no_values more = refl
  values_given_back (a_value value values) more = given_back value (values_before values more) ∙ ap (puts value) (values_given_back values more)

  members_given_back : (members : Members) (more : List Symbol) → levels_by (members_before members more) ≡ pairs_all members (levels_by more)
  members_given_back no_members more = refl
  members_given_back (a_member text value members) more =
      ap (names text) (given_back value (members_before members more) ∙ ap (puts value) (members_given_back members more))

-- the code of a value
abbrev pub value_code : Coded JsonValue
value_code =
    code_by (List Symbol) (coded_list (coded× coded_ℕ (coded_list coded_ℕ))) (λ value. symbols_before value []) value_by
    (λ value. ap (λ (levels : List Level). first_value (innermost_level levels).values) (given_back value []))

-- the code of a pair of an object
abbrev pub member_code : Coded Member
member_code = code_by (List ℕ × JsonValue) (coded× (coded_list coded_ℕ) value_code) (λ member. (member.name, member.value)) (λ pair. record { name = pair.0; value = pair.1 }) (λ _. refl)
