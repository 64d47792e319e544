-- The machine takes only what a text that denotes a value goes on with.
use Rattle.std.specs.Prelude.{◌≡◌, ℕ, true, false, List, [], ◌∷◌, ◌++◌}
use Rattle.sval_json.specs.Digits.{front, after_front, is_number_byte}
use Rattle.sval_json.specs.Grammar.{JsonValue, Values, Members, after_space, IsString, IsValue, empty_array, array, empty_object, object, AreJsonValues, last_value, more_values, AreMembers, last_member, more_members}
use Rattle.sval_json_read.specs.Numbers.{NumberPhase}
use Rattle.sval_json_read.specs.Strings.{Within}
use Rattle.sval_json_read.specs.Reader.{Opened, Array, Object, Expected, AValue, FirstItem, FirstKey, NextKey, Colon, Next, Letter, InNumber, InString}
use Rattle.sval_json_read.proofs.NumberPhases.{completes}
use Rattle.sval_json_read.proofs.StringSteps.{Completes}

-- ---- what completes a text, from each state

-- after a value: what goes on with all that is open, to its end
pub data Ends : List Opened → List ℕ → Type 0 where
  whole : {bytes : List ℕ} → after_space bytes ≡ [] → Ends [] bytes
  array_ends : {bytes rest : List ℕ} {around : List Opened} → after_space bytes ≡ 93 ∷ rest → Ends around rest → Ends (Array ∷ around) bytes
  array_goes_on : {bytes next after : List ℕ} {value : JsonValue} {around : List Opened} → after_space bytes ≡ 44 ∷ next
      → IsValue (after_space next) value after → Ends (Array ∷ around) after → Ends (Array ∷ around) bytes
  object_ends : {bytes rest : List ℕ} {around : List Opened} → after_space bytes ≡ 125 ∷ rest → Ends around rest → Ends (Object ∷ around) bytes
  object_goes_on : {bytes key quoted text colon next after : List ℕ} {value : JsonValue} {around : List Opened} → after_space bytes ≡ 44 ∷ key
      → after_space key ≡ 34 ∷ quoted → IsString quoted text colon → after_space colon ≡ 58 ∷ next
      → IsValue (after_space next) value after → Ends (Object ∷ around) after → Ends (Object ∷ around) bytes

-- a value, a colon and a value, or a pair, and then the ends
pub data ValueThen : List Opened → List ℕ → Type 0 where
  value_then : {bytes after : List ℕ} {value : JsonValue} {opened : List Opened} → IsValue bytes value after → Ends opened after → ValueThen opened bytes

pub data ColonThen : List Opened → List ℕ → Type 0 where
  colon_then : {bytes next : List ℕ} {opened : List Opened} → after_space bytes ≡ 58 ∷ next → ValueThen opened (after_space next) → ColonThen opened bytes

pub data KeyThen : List Opened → List ℕ → Type 0 where
  key_then : {bytes quoted text colon : List ℕ} {opened : List Opened} → bytes ≡ 34 ∷ quoted → IsString quoted text colon → ColonThen opened colon → KeyThen opened bytes

pub data Fits : Expected → List Opened → List ℕ → Type 0 where
  value : {bytes : List ℕ} {opened : List Opened} → ValueThen opened (after_space bytes) → Fits AValue opened bytes
  first_item : {bytes : List ℕ} {opened : List Opened} → ValueThen opened (after_space bytes) → Fits FirstItem opened bytes
  no_item : {bytes rest : List ℕ} {around : List Opened} → after_space bytes ≡ 93 ∷ rest → Ends around rest → Fits FirstItem (Array ∷ around) bytes
  first_key : {bytes : List ℕ} {opened : List Opened} → KeyThen opened (after_space bytes) → Fits FirstKey opened bytes
  no_key : {bytes rest : List ℕ} {around : List Opened} → after_space bytes ≡ 125 ∷ rest → Ends around rest → Fits FirstKey (Object ∷ around) bytes
  next_key : {bytes : List ℕ} {opened : List Opened} → KeyThen opened (after_space bytes) → Fits NextKey opened bytes
  colon : {bytes : List ℕ} {opened : List Opened} → ColonThen opened bytes → Fits Colon opened bytes
  after_it : {bytes : List ℕ} {opened : List Opened} → Ends opened bytes → Fits Next opened bytes
  letter : {bytes rest : List ℕ} {opened : List Opened} {first : ℕ} {letters : List ℕ} → bytes ≡ first ∷ (letters ++ rest) → Ends opened rest → Fits (Letter first letters) opened bytes
  in_number : {bytes read : List ℕ} {opened : List Opened} {phase : NumberPhase} → completes phase (front is_number_byte bytes) ≡ true
      → Ends opened (after_front is_number_byte bytes) → Fits (InNumber phase read) opened bytes
  in_key : {bytes read : List ℕ} {opened : List Opened} {within : Within} (rest : List ℕ) → Completes within bytes rest → ColonThen opened rest → Fits (InString true within read) opened bytes
  in_text : {bytes read : List ℕ} {opened : List Opened} {within : Within} (rest : List ℕ) → Completes within bytes rest → Ends opened rest → Fits (InString false within read) opened bytes

-- ---- rows

pub record Items (around : List Opened) (bytes : List ℕ) : Type 0 where
  pub values : Values
  pub rest : List ℕ
  pub are : AreJsonValues bytes values rest
  pub then_ends : Ends around rest

pub record Pairs (around : List Opened) (bytes : List ℕ) : Type 0 where
  pub members : Members
  pub rest : List ℕ
  pub are : AreMembers bytes members rest
  pub then_ends : Ends around rest

items : {bytes after : List ℕ} {value : JsonValue} {around : List Opened} → IsValue bytes value after → Ends (Array ∷ around) after → Items around bytes
items v (array_ends e s) = record { values = _; rest = _; are = last_value v e; then_ends = s }
items {bytes = bytes} v (array_goes_on {next = n} {after = a} {value = x} e w s) = let i = items {bytes = after_space n} {after = a} {value = x} w s in record { values = _; rest = i.rest; are = more_values v e i.are; then_ends = i.then_ends }

moved_members : {next bytes last : List ℕ} {members : Members} → next ≡ 34 ∷ bytes → AreMembers (34 ∷ bytes) members last → AreMembers next members last
moved_members e v = rw e v

pairs : {quoted text colon next after : List ℕ} {value : JsonValue} {around : List Opened} → IsString quoted text colon → after_space colon ≡ 58 ∷ next
    → IsValue (after_space next) value after → Ends (Object ∷ around) after → Pairs around (34 ∷ quoted)
pairs k c v (object_ends e s) = record { members = _; rest = _; are = last_member k c v e; then_ends = s }
pairs {quoted = quoted} k c v (object_goes_on {quoted = others} {text = t} {colon = b} {next = n} {after = a} {value = x} e q l d w s) =
    let i = pairs {quoted = others} {text = t} {colon = b} {next = n} {after = a} {value = x} l d w s in record { members = _; rest = i.rest; are = more_members k c v e (moved_members q i.are); then_ends = i.then_ends }

pub array_begun : {bytes : List ℕ} {around : List Opened} → Fits FirstItem (Array ∷ around) bytes → ValueThen around (91 ∷ bytes)
array_begun (first_item (value_then v s)) = let i = items v s in value_then (array i.are) i.then_ends
array_begun (no_item e s) = value_then (empty_array e) s

pub object_begun : {bytes : List ℕ} {around : List Opened} → Fits FirstKey (Object ∷ around) bytes → ValueThen around (123 ∷ bytes)
object_begun (first_key (key_then q k (colon_then c (value_then v s)))) = let i = pairs k c v s in value_then (object (moved_members q i.are)) i.then_ends
object_begun (no_key e s) = value_then (empty_object e) s
