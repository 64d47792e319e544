-- How a number of 128 bits is streamed: as one of 64 bits where it fits, and else as a text.
use Rattle.std.specs.Prelude.{◌≡◌, ℤ, Bool, true, false, List, [], ◌∷◌, Some, None, if◌then◌else◌, refl, Result, Ok, Err}
use Rattle.std.specs.Fmt.{signed_decimal}
use Rattle.sval_label.specs.declared.error.Error.{Error}
use Rattle.sval_label.specs.Calls.{IntType, Call}
use Rattle.sval_label.specs.Ranges.{is_signed}
use Rattle.sval_label.specs.SeenIndex.{in_signed}
use Rattle.sval_core.specs.Law.{Law, Standing, emits, Answers, Emits}
use Rattle.sval_core.specs.Names.{number_tag}
use Rattle.sval_core.specs.Values.{makes}
use Rattle.sval_core.proofs.Emissions.{streams_one, stops_one}
use Rattle.sval_lower.specs.Lower.{wide_calls, text_under}

small_by : (fits : Bool) (n z : ℤ) (text : List Call) → Some n ≡ (if fits then Some z else None) → (if fits then Call.Int IntType.I64 z ∷ [] else text) ≡ Call.Int IntType.I64 n ∷ []
small_by true n z text e = cc
small_by false n z text e = cc

large_by : (fits : Bool) (z : ℤ) (text : List Call) → None ≡ (if fits then Some z else None) → (if fits then Call.Int IntType.I64 z ∷ [] else text) ≡ text
large_by true z text e = cc
large_by false z text e = refl

pub emits_small : {V : Type 0} (law : Law V) (old new : Standing V) (r : Result (Unit {0}) Error) (n z : ℤ)
    → Some n ≡ in_signed 63 z → Answers law r old (Call.Int IntType.I64 n) new → Emits law r old (makes (wide_calls z)) new
unfolding emits
emits_small law old new (Ok done) n z e t = rw (small_by (is_signed 63 z) n z (text_under number_tag (signed_decimal z)) e) (streams_one t)
emits_small law old new (Err refusal) n z e t = rw (small_by (is_signed 63 z) n z (text_under number_tag (signed_decimal z)) e) (stops_one t)

pub emits_large : {V : Type 0} (law : Law V) (old new : Standing V) (r : Result (Unit {0}) Error) (z : ℤ)
    → None ≡ in_signed 63 z → Emits law r old (makes (text_under number_tag (signed_decimal z))) new → Emits law r old (makes (wide_calls z)) new
emits_large law old new r z e t = rw (large_by (is_signed 63 z) z (text_under number_tag (signed_decimal z)) e) t
