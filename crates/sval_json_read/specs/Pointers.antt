-- What a JSON Pointer references in a value (RFC 6901).
use Rattle.std.specs.Prelude.{ℕ, ◌^◌, ◌==◌, ◌&&◌, nat_lt, if◌then◌else◌, List, [], ◌∷◌, ◌++◌, slice_get, Option, Some, None, option_and_then}
use Rattle.std.specs.Str.{bytes_eq}
use Rattle.std.specs.Option.{option_or}
use Rattle.std.specs.Str.Parse.{digits_value}
use Rattle.sval_label.specs.Texts.{is_decimal}
use Rattle.sval_json.specs.Grammar.{JsonValue, Array, Object}
use Rattle.sval_json_read.specs.Lookups.{Member, values_listed, paired}

-- a byte of a name in a reference token: `~` is encoded as `~0`, and `/` as `~1`
abbrev pub encoded_byte : ℕ → List ℕ
encoded_byte byte = if byte == 126 then 126 ∷ 48 ∷ [] else if byte == 47 then 126 ∷ 49 ∷ [] else byte ∷ []

-- the reference token of a name. Each has one, so none has a token in which `~` stands before another character
abbrev pub reference_token : List ℕ → List ℕ
reference_token [] = []
reference_token (byte ∷ bytes) = encoded_byte byte ++ reference_token bytes

-- the value of the last member whose name has this reference token
abbrev pub last_referenced : List ℕ → List Member → Option JsonValue
last_referenced token [] = None
last_referenced token (member ∷ members) =
    option_or (last_referenced token members) (if bytes_eq (reference_token member.name) token then Some member.value else None)

-- an array index: `0`, or digits without a leading zero, of a number below 2 ^ 64
abbrev pub array_index : List ℕ → Option ℕ
array_index token = if is_decimal token && nat_lt (digits_value 10 token) (2 ^ 64) then Some (digits_value 10 token) else None

-- the value that a reference token references: the item of an array at its index, or the value of the last member of an object with its name
abbrev pub referenced : List ℕ → JsonValue → Option JsonValue
referenced token (Array values) = option_and_then (λ index. slice_get (values_listed values) index) (array_index token)
referenced token (Object members) = last_referenced token (paired members)
referenced token _ = None

-- what the rest of a pointer references, where `step` says what one reference token does; `token` has the bytes so far of the current one, which a `/` ends
abbrev pub evaluated : {V : Type 0} → (List ℕ → V → Option V) → List ℕ → List ℕ → V → Option V
evaluated step token [] value = step token value
evaluated step token (byte ∷ bytes) value =
    if byte == 47 then option_and_then (evaluated step [] bytes) (step token value) else evaluated step (token ++ (byte ∷ [])) bytes value

-- what a pointer references, where `step` says what one reference token does. The empty pointer references the whole, and one that begins with another byte than `/` references nothing
abbrev pub pointed_by : {V : Type 0} → (List ℕ → V → Option V) → List ℕ → V → Option V
pointed_by step [] value = Some value
pointed_by step (byte ∷ bytes) value = if byte == 47 then evaluated step [] bytes value else None

-- the value that a pointer references
abbrev pub pointed : List ℕ → JsonValue → Option JsonValue
pointed pointer value = pointed_by referenced pointer value
