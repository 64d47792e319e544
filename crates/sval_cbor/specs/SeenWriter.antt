-- What the writer in code is seen as.
use Rattle.std.specs.Prelude.{ℕ, ℤ, pos, negsuc, List, ◌++◌, codes, Option, Some, None, Result, Ok, Err}
use Rattle.sval_json.specs.Number as json
use Rattle.sval_json.specs.Number.{sign}
use Rattle.sval_cbor.specs.declared.error.Refusal as program_refusal
use Rattle.sval_cbor.specs.declared.error.Refusal.TheVariants as refusal
use Rattle.sval_cbor.specs.declared.integer.Integer as program_integer
use Rattle.sval_cbor.specs.declared.integer.Integer.TheVariants.{Unsigned, Negative}
use Rattle.sval_cbor.specs.declared.number.NormalForm as program_normal
use Rattle.sval_cbor.specs.declared.number.NormalForm.TheVariants as normal
use Rattle.sval_cbor.specs.declared.writer.Place as program_place
use Rattle.sval_cbor.specs.declared.writer.Place.TheVariants as place
use Rattle.sval_cbor.specs.Packs.{PackRefusal, BadKey, BadNumber, RawJson, NotInteger}
use Rattle.sval_cbor.specs.Writing.{EnumPlace, Elsewhere, Begun, Ended}

-- a refusal of the code, as the steps say it
abbrev pub seen_pack_refusal : program_refusal.Refusal → PackRefusal
seen_pack_refusal refusal.Key = BadKey
seen_pack_refusal refusal.Number = BadNumber
seen_pack_refusal refusal.Raw = RawJson
seen_pack_refusal refusal.NotInteger = NotInteger

-- the place of the steps that a place of the code is
abbrev pub seen_place : program_place.Place → EnumPlace
seen_place place.Elsewhere = Elsewhere
seen_place place.Begun = Begun
seen_place place.Ended = Ended

-- a whole number
abbrev pub seen_integer : program_integer.Integer → ℤ
seen_integer (Unsigned n) = pos n
seen_integer (Negative n) = negsuc n

-- a number in normal form
abbrev pub seen_normal : program_normal.NormalForm → List ℕ
seen_normal (normal.Number negative unsigned) = sign negative ++ unsigned.now
seen_normal normal.Null = codes "null"

-- the answer of what finds the normal form
abbrev pub seen_answer : Option program_normal.NormalForm → Result (List ℕ) json.Refusal
seen_answer (Some found) = Ok (seen_normal found)
seen_answer None = Err json.InvalidNumber
