-- Whole numbers of each type, as they are read of decimals.
use Rattle.std.specs.Prelude.{◌≡◌, ◌≢◌, ◌==◌, ℕ, zero, suc, ◌-◌, ◌^◌, ◌<◌, ◌≤◌, ℤ, pos, negsuc, ◌-ℤ◌, Bool, true, false, nat_lt, if◌then◌else◌, List, [], ◌∷◌, length, get_or, take, drop, Option, SomeIff, Some, None, option_map, option_and_then, Result, Ok, Err, refl}
use Rattle.std.specs.Result.{OkIff, result_ok}
use Rattle.std.proofs.Common.{arith, ap, sym, subst, ◌∙◌, inl, inr}
use Rattle.std.proofs.lemmas.Bool.{lt-ltb, le-ltb, cases_lt, false_from_ne_true}
use Rattle.std.proofs.lemmas.Bool.Decides.{Decides-eqb}
use Rattle.std.proofs.lemmas.Int.{ints}
use Rattle.std.proofs.lemmas.List.{take_rest}
use lib.Signed.{mag}
use mir.Syntax.{Width, w64}
use mir.Val.{SFits, hbits, to_z, of_z}
use mir.ValLaws.{to_z-of_z}
use Rattle.sval_label.specs.Ranges.{is_unsigned, is_signed}
use Rattle.sval_script.specs.Lines.{keep, natural, negative, signed_integer}

-- a number, if it has so many bits
abbrev within : ℕ → Option ℕ → Option ℕ
within bits = option_and_then (keep (λ n. nat_lt n (2 ^ bits)))

-- the number of a field in the type of so many bits without a sign
abbrev pub unsigned : ℕ → List ℕ → Option ℤ
unsigned bits field = option_and_then (keep (is_unsigned bits)) (signed_integer field)

no_decimal : (rest : List ℕ) → natural (45 ∷ rest) ≡ None
no_decimal [] = refl
no_decimal (next ∷ rest) = refl

none_below : (bits : ℕ) (n : Option ℕ) → option_and_then (keep (is_unsigned bits)) (option_and_then negative n) ≡ None
none_below bits None = refl
none_below bits (Some zero) = refl
none_below bits (Some (suc n)) = refl

kept_pos : (n : ℕ) (test : Bool) → (if test then Some (pos n) else None) ≡ option_map pos (if test then Some n else None)
kept_pos n true = refl
kept_pos n false = refl

unsigned_pos : (bits : ℕ) (n : Option ℕ) → option_and_then (keep (is_unsigned bits)) (option_map pos n) ≡ option_map pos (within bits n)
unsigned_pos bits None = refl
unsigned_pos bits (Some n) = kept_pos n (nat_lt n (2 ^ bits))

by_minus : (bits first : ℕ) (rest : List ℕ) (minus : Bool) → (first == 45) ≡ minus → unsigned bits (first ∷ rest) ≡ option_map pos (within bits (natural (first ∷ rest)))
by_minus bits first rest true is =
    let same : first ≡ 45 = (Decides-eqb first 45).0 is in
    let none : natural (first ∷ rest) ≡ None = ap (λ f. natural (f ∷ rest)) same ∙ no_decimal rest in
    rw is (none_below bits (natural rest) ∙ sym (ap (λ n. option_map pos (within bits n)) none))
by_minus bits first rest false is = rw is (unsigned_pos bits (natural (first ∷ rest)))

-- it is the field's decimal
unsigned_is : (bits : ℕ) (field : List ℕ) → unsigned bits field ≡ option_map pos (within bits (natural field))
unsigned_is bits [] = refl
unsigned_is bits (first ∷ rest) = by_minus bits first rest (first == 45) refl

-- what has few bits has more
fewer : (bits more : ℕ) (n : Option ℕ) → 2 ^ bits ≤ 2 ^ more → within bits n ≡ within bits (within more n)
fewer bits more None le = refl
fewer bits more (Some n) le =
    elim (cases_lt n (2 ^ more)) [ inl low ↦ rw (lt-ltb n (2 ^ more) low) refl | inr high ↦ rw (le-ltb n (2 ^ more) high, le-ltb n (2 ^ bits) (omega arith)) refl ]

-- no decimal of more bits was read
pub no_number_read : (bits more : ℕ) (field : List ℕ) (read : Option ℕ) → 2 ^ bits ≤ 2 ^ more → read ≡ within more (natural field) → read ≡ None → unsigned bits field ≡ None
no_number_read bits more field read le is none =
    unsigned_is bits field ∙ ap (option_map pos) (fewer bits more (natural field) le ∙ ap (within bits) (sym is ∙ none))

-- one was read, in the type itself
pub own_number_read : (bits : ℕ) (field : List ℕ) (read : Option ℕ) (n : ℕ) → read ≡ within bits (natural field) → read ≡ Some n → unsigned bits field ≡ Some (pos n)
own_number_read bits field read n is some = unsigned_is bits field ∙ ap (option_map pos) (sym is ∙ some)

tried : {E : Type 0} (bits n : ℕ) (r : Result ℕ E) → OkIff r (n < 2 ^ bits) n → result_ok r ≡ within bits (Some n)
tried bits n (Ok m) (fits, is) = rw (lt-ltb n (2 ^ bits) fits) (ap Some is)
tried bits n (Err e) never = elim (cases_lt n (2 ^ bits)) [ inl fits ↦ absurd (never fits) | inr above ↦ rw (le-ltb n (2 ^ bits) above) refl ]

-- one was read of more bits, and tried in the type
pub tried_number_read : {E : Type 0} (bits more : ℕ) (field : List ℕ) (read : Option ℕ) (n : ℕ) (r : Result ℕ E) (fit : Option ℕ) → 2 ^ bits ≤ 2 ^ more → read ≡ within more (natural field) → read ≡ Some n
    → OkIff r (n < 2 ^ bits) n → fit ≡ result_ok r → unsigned bits field ≡ option_map pos fit
tried_number_read bits more field read n r fit le is some fits said =
    unsigned_is bits field
    ∙ ap (option_map pos) (fewer bits more (natural field) le ∙ (ap (within bits) (sym is ∙ some) ∙ sym (said ∙ tried bits n r fits)))

-- ---- with a sign

-- the number of a field in the type of so many bits beside its sign
abbrev pub signed : ℕ → List ℕ → Option ℤ
signed bits field = option_and_then (keep (is_signed bits)) (signed_integer field)

is_kept : (bits : ℕ) (z : ℤ) → mag z < 2 ^ bits → keep (is_signed bits) z ≡ Some z
is_kept bits (pos n) low = rw (lt-ltb n (2 ^ bits) low) refl
is_kept bits (negsuc n) low = rw (lt-ltb n (2 ^ bits) low) refl

is_left : (bits : ℕ) (z : ℤ) → 2 ^ bits ≤ mag z → keep (is_signed bits) z ≡ None
is_left bits (pos n) high = rw (le-ltb n (2 ^ bits) high) refl
is_left bits (negsuc n) high = rw (le-ltb n (2 ^ bits) high) refl

fewer_signed : (bits more : ℕ) (z : Option ℤ) → 2 ^ bits ≤ 2 ^ more → option_and_then (keep (is_signed bits)) z ≡ option_and_then (keep (is_signed bits)) (option_and_then (keep (is_signed more)) z)
fewer_signed bits more None le = refl
fewer_signed bits more (Some z) le =
    elim (cases_lt (mag z) (2 ^ more)) [
      | inl low ↦ ap (option_and_then (keep (is_signed bits))) (sym (is_kept more z low))
      | inr high ↦ is_left bits z (omega arith) ∙ sym (ap (option_and_then (keep (is_signed bits))) (is_left more z high))
    ]

pub no_integer_read : (bits more : ℕ) (field : List ℕ) (read : Option ℤ) → 2 ^ bits ≤ 2 ^ more → read ≡ signed more field → read ≡ None → signed bits field ≡ None
no_integer_read bits more field read le is none = fewer_signed bits more (signed_integer field) le ∙ ap (option_and_then (keep (is_signed bits))) (sym is ∙ none)

tried_signed : {E : Type 0} (w : Width) (z : ℤ) (r : Result ℤ E) → OkIff r (SFits w z) z → result_ok r ≡ keep (is_signed (hbits w)) z
tried_signed w z (Ok m) (fits, is) = ap Some is ∙ sym (is_kept (hbits w) z fits.sfits)
tried_signed w z (Err e) never = elim (cases_lt (mag z) (2 ^ hbits w)) [ inl low ↦ absurd (never (record { sfits = low })) | inr high ↦ sym (is_left (hbits w) z high) ]

fits_kept : (bits : ℕ) (given : Option ℤ) (z : ℤ) → option_and_then (keep (is_signed bits)) given ≡ Some z → mag z < 2 ^ bits
fits_kept bits None z is = cc is
fits_kept bits (Some other) z is =
    elim (cases_lt (mag other) (2 ^ bits)) [
      | inl low ↦ let same : other ≡ z = cc (sym (is_kept bits other low) ∙ is) in subst (λ (y : ℤ). mag y < 2 ^ bits) same low
      | inr high ↦ cc (sym (is_left bits other high) ∙ is)
    ]

-- one was read of 64 bits, and tried in the type
pub tried_integer_read : {E : Type 0} (w : Width) (field : List ℕ) (read : Option ℤ) (z : ℤ) (r : Result ℤ E) (fit : Option ℤ) → 2 ^ hbits w ≤ 2 ^ 63 → read ≡ signed 63 field → read ≡ Some z
    → OkIff r (SFits w (to_z w64 (of_z w64 z))) (to_z w64 (of_z w64 z)) → fit ≡ result_ok r → signed (hbits w) field ≡ fit
tried_integer_read w field read z r fit le is some fits said =
    let same : to_z w64 (of_z w64 z) ≡ z = to_z-of_z w64 z (record { sfits = fits_kept 63 (signed_integer field) z (sym is ∙ some) }) in
    let here : OkIff r (SFits w z) z = subst (λ (v : ℤ). OkIff r (SFits w v) v) same fits in
    fewer_signed (hbits w) 63 (signed_integer field) le ∙ (ap (option_and_then (keep (is_signed (hbits w)))) (sym is ∙ some) ∙ sym (said ∙ tried_signed w z r here))

-- the number that was read, as its bits are
pub as_bits : (w : Width) (field : List ℕ) (z : ℤ) → signed (hbits w) field ≡ Some z → signed (hbits w) field ≡ Some (to_z w (of_z w z))
as_bits w field z is = is ∙ sym (ap Some (to_z-of_z w z (record { sfits = fits_kept (hbits w) (signed_integer field) z is })))

-- ---- of a decimal, with `-` before it or without

behind_minus : (field digits : List ℕ) → get_or field 0 0 ≡ 45 → digits ≡ take (length field - 1) (drop 1 field) → signed_integer field ≡ option_and_then negative (natural digits)
behind_minus [] digits minus is = cc minus
behind_minus (first ∷ rest) digits minus is =
    let whole : digits ≡ rest = is ∙ take_rest (first ∷ rest) 1 in
    let same : first ≡ 45 = minus in
    rw (same, whole) refl

without_minus : (field : List ℕ) → get_or field 0 0 ≢ 45 → signed_integer field ≡ option_map pos (natural field)
without_minus [] other = refl
without_minus (first ∷ rest) other =
    let none : (first == 45) ≡ false = false_from_ne_true (first == 45) (λ is. other ((Decides-eqb first 45).0 is)) in
    rw none refl

too_low : (bits n : ℕ) → 2 ^ bits < n → option_and_then (keep (is_signed bits)) (negative n) ≡ None
too_low bits zero low = absurd (omega arith)
too_low bits (suc n) low = rw (le-ltb n (2 ^ bits) (omega arith)) refl

fewer_below : (bits more : ℕ) (n : Option ℕ) → 2 ^ bits < 2 ^ more → option_and_then (keep (is_signed bits)) (option_and_then negative n) ≡ option_and_then (keep (is_signed bits)) (option_and_then negative (within more n))
fewer_below bits more None less = refl
fewer_below bits more (Some n) less =
    elim (cases_lt n (2 ^ more)) [ inl low ↦ rw (lt-ltb n (2 ^ more) low) refl | inr high ↦ rw (le-ltb n (2 ^ more) high) (too_low bits n (omega arith)) ]

fewer_above : (bits more : ℕ) (n : Option ℕ) → 2 ^ bits < 2 ^ more → option_and_then (keep (is_signed bits)) (option_map pos n) ≡ option_and_then (keep (is_signed bits)) (option_map pos (within more n))
fewer_above bits more None less = refl
fewer_above bits more (Some n) less =
    elim (cases_lt n (2 ^ more)) [ inl low ↦ rw (lt-ltb n (2 ^ more) low) refl | inr high ↦ rw (le-ltb n (2 ^ more) high) (is_left bits (pos n) (omega arith)) ]

some_signed : (w : Width) (z : ℤ) (r : Option ℤ) → SomeIff r (SFits w z) z → r ≡ keep (is_signed (hbits w)) z
some_signed w z (Some m) (fits, is) = ap Some is ∙ sym (is_kept (hbits w) z fits.sfits)
some_signed w z None never = elim (cases_lt (mag z) (2 ^ hbits w)) [ inl low ↦ absurd (never (record { sfits = low })) | inr high ↦ sym (is_left (hbits w) z high) ]

tried_below : (w : Width) (n : ℕ) (r : Option ℤ) → n ≢ 0 → SomeIff r (SFits w (pos 0 -ℤ pos n)) (pos 0 -ℤ pos n) → r ≡ option_and_then (keep (is_signed (hbits w))) (negative n)
tried_below w zero r other fits = absurd (other refl)
tried_below w (suc n) r other fits =
    let same : pos 0 -ℤ pos (suc n) ≡ negsuc n = omega (arith, ints) in
    some_signed w (negsuc n) r (subst (λ (z : ℤ). SomeIff r (SFits w z) z) same fits)

-- what was read behind `-`
module _ (bits more : ℕ) (field digits : List ℕ) (read : Option ℕ) (minus : get_or field 0 0 ≡ 45) (is : digits ≡ take (length field - 1) (drop 1 field)) (said : read ≡ within more (natural digits)) where
  abbrev below : Option ℕ → Option ℤ
  below n = option_and_then (keep (is_signed bits)) (option_and_then negative n)

  read_below : 2 ^ bits < 2 ^ more → signed bits field ≡ below read
  read_below less = ap (option_and_then (keep (is_signed bits))) (behind_minus field digits minus is) ∙ fewer_below bits more (natural digits) less ∙ ap below (sym said)

  pub no_size_read : 2 ^ bits < 2 ^ more → read ≡ None → signed bits field ≡ None
  no_size_read less none = read_below less ∙ ap below none

  pub zero_read : 2 ^ bits < 2 ^ more → read ≡ Some 0 → signed bits field ≡ None
  zero_read less some = read_below less ∙ ap below some

pub size_read : (w : Width) (more : ℕ) (field digits : List ℕ) (read : Option ℕ) (n : ℕ) (made : Option ℤ) → get_or field 0 0 ≡ 45 → digits ≡ take (length field - 1) (drop 1 field) → read ≡ within more (natural digits)
    → 2 ^ hbits w < 2 ^ more → read ≡ Some n → n ≢ 0 → SomeIff made (SFits w (pos 0 -ℤ pos n)) (pos 0 -ℤ pos n) → made ≡ signed (hbits w) field
size_read w more field digits read n made minus is said less some other fits =
    tried_below w n made other fits ∙ sym (read_below (hbits w) more field digits read minus is said less ∙ ap (below (hbits w) more field digits read minus is said) some)

-- what was read where no `-` begins the field
pub short_is_other : (field : List ℕ) → length field < 1 → get_or field 0 0 ≢ 45
short_is_other [] short = λ is. cc is
short_is_other (first ∷ rest) short = absurd (omega arith)

read_above : (bits more : ℕ) (field : List ℕ) (read : Option ℕ) → get_or field 0 0 ≢ 45 → read ≡ within more (natural field) → 2 ^ bits < 2 ^ more
    → signed bits field ≡ option_and_then (keep (is_signed bits)) (option_map pos read)
read_above bits more field read other said less =
    ap (option_and_then (keep (is_signed bits))) (without_minus field other) ∙ fewer_above bits more (natural field) less ∙ ap (λ n. option_and_then (keep (is_signed bits)) (option_map pos n)) (sym said)

pub no_natural_read : (bits more : ℕ) (field : List ℕ) (read : Option ℕ) → get_or field 0 0 ≢ 45 → read ≡ within more (natural field) → 2 ^ bits < 2 ^ more → read ≡ None → signed bits field ≡ None
no_natural_read bits more field read other said less none =
    read_above bits more field read other said less ∙ ap (λ n. option_and_then (keep (is_signed bits)) (option_map pos n)) none

pub natural_read : {E : Type 0} (w : Width) (more : ℕ) (field : List ℕ) (read : Option ℕ) (n : ℕ) (r : Result ℤ E) (fit : Option ℤ) → get_or field 0 0 ≢ 45 → read ≡ within more (natural field) → 2 ^ hbits w < 2 ^ more
    → read ≡ Some n → OkIff r (SFits w (pos n)) (pos n) → fit ≡ result_ok r → fit ≡ signed (hbits w) field
natural_read w more field read n r fit other said less some fits made =
    made ∙ tried_signed w (pos n) r fits ∙ sym (read_above (hbits w) more field read other said less ∙ ap (λ n. option_and_then (keep (is_signed (hbits w))) (option_map pos n)) some)
