-- The JSON of values at the front of a tape.
use Rattle.std.specs.Prelude.{◌≡◌, ℕ, ◌+◌, Bool, true, false, ⊤, List, [], ◌∷◌, ◌++◌, length, codes, None, Some, Ok}
use Rattle.std.specs.Char.{is_ascii_digit}
use Rattle.sval_label.specs.Calls as call
use Rattle.sval_label.specs.Calls.{Call, Label, Slot, Head, Name}
use Rattle.sval_core.specs.Trees.{Tree, Text, Parts, part, Kind, Item, Field, FieldPlace, kind_of, plain_name, plain_slot, AreInOrder}
use Rattle.sval_core.specs.Names.{some_name, none_name}
use Rattle.sval_core.specs.Spells.{Spells, entries, new_entries}
use Rattle.sval_core.specs.Values.{makes}
use Rattle.sval_core.specs.ValueTrees.{TellsParts}
use Rattle.sval_core.specs.Real.{IsReal}
use Rattle.sval_json.specs.declared.style.Variants.TheVariants.{Inside}
use Rattle.sval_json.specs.Escape.{escaped}
use Rattle.sval_json.specs.Json.{Json, Items, Pairs, pair, compact, compact_items, compact_pairs}
use Rattle.sval_json.specs.Digits.{after_digits}
use Rattle.sval_json.specs.Number.{normal}
use Rattle.sval_json.specs.Shape.{field_key, items, json_of, map_ok, on_ok, pairs, shape}
use Rattle.sval_tape.specs.Reading.{ReadsAtFront, call_at_front}
use Rattle.sval_tape.specs.Taped.{IsTape}
use Rattle.sval_tape.specs.declared.json.FieldKind.{FieldKind}
use Rattle.sval_tape.specs.declared.json.FieldKind.TheVariants as fields

-- ---- a whole tape

-- the bytes are the tape of calls that spell a real tree, and the text is its JSON without white space
pub record IsJsonOf (tape text : List ℕ) : Type 0 where
  pub tree : Tree
  pub calls : List Call
  pub is : IsTape tape calls
  pub spells : Spells calls tree
  pub real : IsReal tree
  pub json : Json
  pub shape_is : json_of tree ≡ Ok json
  pub text_is : text ≡ compact json

-- ---- calls at the front

-- a call that gives no bytes of a binary
abbrev pub IsNoBinary : Call → Type 0
IsNoBinary (call.BinaryFragment _ _) = ⊥
IsNoBinary _ = ⊤

-- these calls stand at the front of bytes, and the rest follows
abbrev pub StandAtFront : List Call → List ℕ → List ℕ → Type 0
StandAtFront [] bytes rest = bytes ≡ rest
StandAtFront (call ∷ calls) bytes rest = (behind : List ℕ) × (call_at_front bytes ≡ Some (call, behind)) × IsNoBinary call × StandAtFront calls behind rest

-- an operand at the front of bytes, which is read wherever its bytes stand
pub record OperandAt {A : Type 0} (read : ReadsAtFront A) (value : A) (bytes rest : List ℕ) : Type 0 where
  pub operand : List ℕ
  pub parts : bytes ≡ operand ++ rest
  pub again : (more : List ℕ) → read (operand ++ more) ≡ Some (value, more)

-- ---- values

-- the calls at the front of bytes spell a tree
pub record SpelledAt (tree : Tree) (bytes rest : List ℕ) : Type 0 where
  pub calls : List Call
  pub stand : StandAtFront calls bytes rest
  pub spells : Spells calls tree

-- a value stands at the front of bytes, and its JSON was appended
pub record ValueAt (bytes rest old new : List ℕ) : Type 0 where
  pub tree : Tree
  pub spelled : SpelledAt tree bytes rest
  pub json : Json
  pub shape_is : shape Inside tree false ≡ Ok json
  pub written : new ≡ old ++ compact json

-- ---- fields

-- the kind of the parts of such a container
abbrev pub kind_for : FieldKind → Kind
kind_for fields.Labels = Field
kind_for fields.LabelsAndIndexes = FieldPlace

-- the numbers of the calls that begin and end such a container, and a part of it
abbrev pub begin_number : FieldKind → ℕ
begin_number fields.Labels = 28
begin_number fields.LabelsAndIndexes = 30

abbrev pub end_number : FieldKind → ℕ
end_number fields.Labels = 33
end_number fields.LabelsAndIndexes = 35

abbrev pub part_begin_number : FieldKind → ℕ
part_begin_number fields.Labels = 39
part_begin_number fields.LabelsAndIndexes = 41

abbrev pub part_end_number : FieldKind → ℕ
part_end_number fields.Labels = 45
part_end_number fields.LabelsAndIndexes = 47

-- the container of this name
abbrev pub head_for : FieldKind → Name → Head
head_for fields.Labels name = call.Record name
head_for fields.LabelsAndIndexes name = call.RecordTuple name

-- what a part's begin and its end say stands at the front of bytes
pub record SlotAt (kind : FieldKind) (bytes : List ℕ) (label : Label) (rest : List ℕ) : Type 0 where
  pub slot : Slot
  pub operand : List ℕ
  pub parts : bytes ≡ operand ++ rest
  pub begins : (more : List ℕ) → call_at_front (part_begin_number kind ∷ operand ++ more) ≡ Some (call.PartBegin slot, more)
  pub ends : (more : List ℕ) → call_at_front (part_end_number kind ∷ operand ++ more) ≡ Some (call.PartEnd slot, more)
  pub kind_is : kind_of (plain_slot slot) ≡ kind_for kind
  pub is_entry : new_entries (plain_slot slot) ≡ 1
  pub paired : (tree : Tree) (parts : Parts) → pairs Inside (part (plain_slot slot) tree parts) ≡ on_ok (shape Inside tree false) (λ json. map_ok (pair (field_key label) json) (pairs Inside parts))

-- so many fields stand at the front of bytes, and their pairs were appended; the flag says that the first is the object's first
pub record FieldsAt (kind : FieldKind) (first : Bool) (bytes rest old new : List ℕ) (count : ℕ) : Type 0 where
  pub parts : Parts
  pub calls : List Call
  pub stand : StandAtFront calls bytes rest
  pub tells : TellsParts (makes calls) parts
  pub in_order : AreInOrder (kind_for kind) parts
  pub counted : entries parts ≡ count
  pub shaped : Pairs
  pub shape_is : pairs Inside parts ≡ Ok shaped
  pub written : new ≡ old ++ compact_pairs first shaped

-- one field stands at the front of bytes: with the fields behind it there is one more
abbrev pub FieldAt : FieldKind → Bool → List ℕ → List ℕ → List ℕ → List ℕ → Type 0
FieldAt kind first bytes behind old mid =
    (rest new : List ℕ) (count : ℕ) → FieldsAt kind false behind rest mid new count → FieldsAt kind first bytes rest old new (count + 1)

-- ---- items

-- so many items stand at the front of bytes, and were appended; the flag says that the first is the array's first
pub record ItemsAt (first : Bool) (bytes rest old new : List ℕ) (count : ℕ) : Type 0 where
  pub parts : Parts
  pub calls : List Call
  pub stand : StandAtFront calls bytes rest
  pub tells : TellsParts (makes calls) parts
  pub in_order : AreInOrder Item parts
  pub counted : entries parts ≡ count
  pub shaped : Items
  pub shape_is : items Inside parts ≡ Ok shaped
  pub written : new ≡ old ++ compact_items first shaped

-- one item stands at the front of bytes: with the items behind it there is one more
abbrev pub ItemAt : Bool → List ℕ → List ℕ → List ℕ → List ℕ → Type 0
ItemAt first bytes behind old mid =
    (rest new : List ℕ) (count : ℕ) → ItemsAt false behind rest mid new count → ItemsAt first bytes rest old new (count + 1)

-- ---- texts

-- fragments of a text, each borrowed or not
abbrev pub fragment_calls : List (Bool × List ℕ) → List Call
fragment_calls [] = []
fragment_calls (fragment ∷ fragments) = call.TextFragment fragment.0 fragment.1 ∷ fragment_calls fragments

-- their bytes
abbrev pub fragments_text : List (Bool × List ℕ) → List ℕ
fragments_text [] = []
fragments_text (fragment ∷ fragments) = fragment.1 ++ fragments_text fragments

-- a fragment of this text stands at the front of bytes
abbrev pub FragmentAt : List ℕ → List ℕ → List ℕ → Type 0
FragmentAt bytes text rest = (borrowed : Bool) × (call_at_front bytes ≡ Some (call.TextFragment borrowed text, rest))

-- fragments of a text of so many bytes stand at the front of bytes, and were appended with their escapes
pub record FragmentsAt (bytes rest old new : List ℕ) (size : ℕ) : Type 0 where
  pub fragments : List (Bool × List ℕ)
  pub stand : StandAtFront (fragment_calls fragments) bytes rest
  pub counted : length (fragments_text fragments) ≡ size
  pub written : new ≡ old ++ escaped (fragments_text fragments)

-- ---- numbers

-- the name of numbers: their tag alone
abbrev pub number_name : Name
number_name = record { tag = Some (codes "NUMBER"); label = None; index = None }

-- the names of an option with and without a value, as a tape gives them back
abbrev pub some_taped : Name
some_taped = plain_name some_name

abbrev pub none_taped : Name
none_taped = plain_name none_name

-- digits without a zero in front of others, a point, and digits
pub record IsFraction (text : List ℕ) : Type 0 where
  pub first : ℕ
  pub next : ℕ
  pub rest : List ℕ
  pub last : List ℕ
  pub text_is : text ≡ first ∷ rest
  pub first_digit : is_ascii_digit first ≡ true
  pub tail_is : after_digits rest ≡ 46 ∷ next ∷ last
  pub no_zero : first ≡ 48 → length (after_digits rest) ≡ length rest
  pub next_digit : is_ascii_digit next ≡ true
  pub ended : after_digits last ≡ []

-- a number in its normal form stands at the front of bytes as a text, and was appended
pub record NumberAt (bytes rest old new : List ℕ) : Type 0 where
  pub text : List ℕ
  pub spelled : SpelledAt (Text text) bytes rest
  pub is_normal : normal text ≡ Ok text
  pub written : new ≡ old ++ text
