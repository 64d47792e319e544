-- The line of a tree: its pairs, with one space between each two.
use Rattle.std.specs.Prelude.{ℕ, Bool, false, not, ◌&&◌, ◌==◌, nat_lt, List, [], ◌∷◌, ◌++◌, flat_map, codes, if◌then◌else◌, Result, Ok, Err}
use Rattle.std.specs.List.{list_all}
use Rattle.std.specs.Fmt.{signed_decimal}
use Rattle.sval_label.specs.Calls.{Head, Slot}
use Rattle.sval_label.specs.Texts.{truth_text}
use Rattle.sval_core.specs.Trees.{Tree, Null, Truth, Int, Text, Container, Parts, none, part}
use Rattle.sval_json.specs.Escape.{escaped, in_quotes}
use Rattle.logfmt.specs.declared.LogfmtError.{LogfmtError}
use Rattle.logfmt.specs.declared.LogfmtError.TheVariants.{NotFlat, InvalidKey}

-- what comes next, unless there was an error
abbrev pub logfmt_then : {T U : Type 0} → Result T LogfmtError → (T → Result U LogfmtError) → Result U LogfmtError
logfmt_then (Ok x) next = next x
logfmt_then (Err why) next = Err why

-- a key's bytes: no space, and nothing below it, no quote and no `=`
abbrev pub is_key_byte : ℕ → Bool
is_key_byte byte = nat_lt 32 byte && not (byte == 34) && not (byte == 61)

-- a key has one byte at least
abbrev pub is_key : List ℕ → Bool
is_key [] = false
is_key key = list_all is_key_byte key

-- this text as a key
abbrev pub a_key : List ℕ → Result (List ℕ) LogfmtError
a_key text = if is_key text then Ok text else Err InvalidKey

-- the text of a leaf: a text between quotes, escaped as in JSON, and all else plainly
abbrev pub leaf : Tree → Result (List ℕ) LogfmtError
leaf Null = Ok (codes "null")
leaf (Truth b) = Ok (truth_text b)
leaf (Int type number) = Ok (signed_decimal number)
leaf (Text text) = Ok (in_quotes (escaped text))
leaf _ = Err NotFlat

-- a pair: the field's label as the key, `=` and the value
abbrev pub pair : List ℕ → Tree → Result (List ℕ) LogfmtError
pair label value = logfmt_then (a_key label) (λ key. logfmt_then (leaf value) (λ text. Ok (key ++ codes "=" ++ text)))

-- this pair in front of those
abbrev pub and_pairs : Result (List ℕ) LogfmtError → Result (List (List ℕ)) LogfmtError → Result (List (List ℕ)) LogfmtError
and_pairs first rest = logfmt_then first (λ pair. logfmt_then rest (λ others. Ok (pair ∷ others)))

-- the pairs of the fields of a record or a struct
abbrev pub field_pairs : Parts → Result (List (List ℕ)) LogfmtError
field_pairs none = Ok []
field_pairs (part (Slot.Field tag label) value parts) = and_pairs (pair label.text value) (field_pairs parts)
field_pairs (part (Slot.FieldPlace tag label index) value parts) = and_pairs (pair label.text value) (field_pairs parts)
field_pairs (part _ _ _) = Err NotFlat

-- one space between each two
abbrev pub logfmt_line : List (List ℕ) → List ℕ
logfmt_line [] = []
logfmt_line (pair ∷ field_pairs) = pair ++ flat_map (λ next. codes " " ++ next) field_pairs

-- the line of a record or a struct of leaves
abbrev pub record_line : Tree → Result (List ℕ) LogfmtError
record_line (Container (Head.Record name) parts) = logfmt_then (field_pairs parts) (λ all. Ok (logfmt_line all))
record_line (Container (Head.RecordTuple name) parts) = logfmt_then (field_pairs parts) (λ all. Ok (logfmt_line all))
record_line _ = Err NotFlat
