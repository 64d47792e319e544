-- Numbers by the cases of the grammar, and texts that are none.
use Rattle.std.specs.Prelude.{List, [], ℕ, codes, refl}
use Rattle.sval_json.specs.Grammar.{Number, IsInt, nonzero, IsFrac, no_frac, frac, IsExp, no_exp, exp, signed_exp, IsNumber, unsigned, signed, IsValue, number}
use Rattle.sval_json.specs.Grammar as grammar
use Rattle.sval_json.proofs.NumberGrammar.{number_tested}

-- ---- accepted

lone_zeros : IsNumber (codes "0") × IsNumber (codes "-0")
lone_zeros = (unsigned grammar.zero no_frac no_exp, signed grammar.zero no_frac no_exp)

twelve : IsInt (codes "12")
twelve = nonzero refl refl

half : IsFrac (codes ".50")
half = frac refl

third_power : IsExp (codes "E3")
third_power = exp refl refl

same_power : IsExp (codes "e+03")
same_power = signed_exp refl refl refl

with_tails : IsNumber (codes "12") × IsNumber (codes "-12.50") × IsNumber (codes "12E3") × IsNumber (codes "-12.50e+03") × IsNumber (codes "0.50e+03")
with_tails = (
  unsigned twelve no_frac no_exp,
  signed twelve half no_exp,
  unsigned twelve no_frac third_power,
  signed twelve half same_power,
  unsigned grammar.zero half same_power,
)

-- a number in front of a comma
before_comma : IsValue (codes "-12.50,0") (Number (codes "-12.50")) (codes ",0")
before_comma = number refl (signed twelve half no_exp)

-- ---- refused

abbrev NoNumber : List ℕ → Type 0
NoNumber text = IsNumber text → ⊥

nothing_there : NoNumber []
nothing_there n = cc (number_tested n)

-- a zero in front, a sign that is no minus, nothing before or after the point, no digit in the exponent, a word
none :
    NoNumber (codes "012")
    × NoNumber (codes "+1")
    × NoNumber (codes ".5")
    × NoNumber (codes "1.")
    × NoNumber (codes "1.e3")
    × NoNumber (codes "1e")
    × NoNumber (codes "1e+")
    × NoNumber (codes "-")
    × NoNumber (codes "nan")
    × NoNumber (codes "0x10")
none = (
  λ n. cc (number_tested n),
  λ n. cc (number_tested n),
  λ n. cc (number_tested n),
  λ n. cc (number_tested n),
  λ n. cc (number_tested n),
  λ n. cc (number_tested n),
  λ n. cc (number_tested n),
  λ n. cc (number_tested n),
  λ n. cc (number_tested n),
  λ n. cc (number_tested n),
)
