-- A printed field reads back as itself.
use Rattle.std.proofs.Common.{sym, ap, ◌∙◌, arith, inl, inr}
use mathlib.Core.List.{append-nil}
use Rattle.std.proofs.lemmas.Bool.{and_parts}
use Rattle.std.proofs.lemmas.Bool.Decides.{nat_tests}
use Rattle.std.proofs.lemmas.Slice.Eq.{bytes_eq-Decides}
use Rattle.std.proofs.lemmas.List.Folds.{list_all-append}
use Rattle.std.proofs.lemmas.Fmt.{decimal_is_IsNumeral_wide}
use Rattle.std.specs.Prelude.{IfSome, ◌≡◌, ℕ, zero, suc, ◌+◌, ◌/◌, ◌%◌, ◌^◌, ◌<◌, ℤ, pos, negsuc, Bool, true, false, not, ◌&&◌, ◌||◌, ◌==◌, nat_lt, cond, List, [], ◌∷◌, ◌++◌, Option, Some, None, option_map, option_and_then, codes, bytes_eq, decimal, refl, slice_index}
use Rattle.std.specs.Fmt.{signed_decimal}
use Rattle.std.specs.List.{list_any, list_all, join_with_byte}
use Rattle.std.specs.Int.{is_in_range}
use Rattle.std.specs.Char.{is_ascii_digit}
use Rattle.std.specs.Str.{is_utf8, all_ascii_digits, all_scalars, encode_utf8_all}
use Rattle.std.specs.Char.{IsScalar, encode_utf8}
use Rattle.std.proofs.lemmas.Str.{IsUtf8-from_is_utf8}
use lib.Utf8.{scalar, scalar_cases}
use Rattle.hex.specs.Hex.{encode_lower, encode_with, lower_digits, IsBytes}
use Rattle.hex.proofs.HexLemmas.{decode_of-encode_lower}
use Rattle.sval_label.specs.Calls.{Label, Index, Tag}
use Rattle.sval_label.specs.Tags.{tag_names, is_tag_name}
use Rattle.sval_label.specs.Ranges.{is_index}
use Rattle.sval_label.proofs.Decimals.{IsPlain, decimal_plain, is_decimal-plain, IsShort, short_index}
use Rattle.sval_script.specs.Printed.{IsPrintableLabel, IsPrintableIndex, or_dash_field, size_field, hex_field, tag_field, hint_text, label_field, index_field}
use Rattle.sval_script.specs.Lines.{keep, natural, negative, signed_integer, or_dash, size, bytes, text, cut_at, tag_named, tagged_parts, label, index}
use Rattle.sval_script.proofs.Cut.{not_true, is_not, cut_none, cut_first}

-- ---- decimals

pub natural-decimal : (n : ℕ) → n < 10 ^ 64 → natural (decimal n) ≡ Some n
natural-decimal n h =
    let e = is_decimal-plain n (decimal n) (decimal_plain n h) in
    let (f, g) = decimal_is_IsNumeral_wide n h in
    rw e (ap Some g)

-- a byte that ends no line, no field and no part of a field
abbrev pub is_clean : ℕ → Bool
is_clean byte = not (byte == 10) && not (byte == 32) && not (byte == 58)

pub clean_digit : (digit : ℕ) → is_ascii_digit digit ≡ true → is_clean digit ≡ true
clean_digit digit h = grind (arith, nat_tests)

pub clean_digits : (digits : List ℕ) → all_ascii_digits digits ≡ true → list_all is_clean digits ≡ true
clean_digits [] h = refl
clean_digits (digit ∷ digits) h =
    let (a, b) = and_parts (is_ascii_digit digit) (all_ascii_digits digits) h in
    rw (clean_digit digit a, clean_digits digits b) refl

pub digit-above : (digit : ℕ) → is_in_range 49 57 digit ≡ true → (is_ascii_digit digit ≡ true) × ((digit == 45) ≡ false)
digit-above digit h = (grind (arith, nat_tests), grind (arith, nat_tests))

-- what is needed of a decimal: its first byte is no minus, and all are clean
pub record IsSplitDecimal (digits : List ℕ) : Type 0 where
  pub first : ℕ
  pub rest : List ℕ
  pub is : digits ≡ first ∷ rest
  pub no_minus : (first == 45) ≡ false
  pub clean : list_all is_clean digits ≡ true

pub split-plain : (n : ℕ) (digits : List ℕ) → IsPlain n digits → IsSplitDecimal digits
split-plain n digits (inl (e, f)) = record { first = 48; rest = []; is = f; no_minus = refl; clean = rw f refl }
split-plain n [] (inr h) = cc h
split-plain n (digit ∷ digits) (inr h) =
    let (a, b) = and_parts (is_in_range 49 57 digit) (all_ascii_digits digits) h in
    let (c, d) = digit-above digit a in
    record { first = digit; rest = digits; is = refl; no_minus = d; clean = clean_digits (digit ∷ digits) (rw (c, b) refl) }

pub split_decimal : (n : ℕ) → n < 10 ^ 64 → IsSplitDecimal (decimal n)
split_decimal n h = split-plain n (decimal n) (decimal_plain n h)

-- ---- whole numbers with a sign

pub integer-split : (digits : List ℕ) → IsSplitDecimal digits → signed_integer digits ≡ option_map pos (natural digits)
integer-split [] s = cc s.is
integer-split (first ∷ rest) s =
    let e : (first == 45) ≡ false = let f : first ≡ s.first = cc s.is in rw f s.no_minus in
    rw e refl

pub integer-signed : (z : ℤ) → IsShort z → signed_integer (signed_decimal z) ≡ Some z
integer-signed (pos n) h = integer-split (decimal n) (split_decimal n h) ∙ ap (option_map pos) (natural-decimal n h)
integer-signed (negsuc n) h = ap (option_and_then negative) (natural-decimal (suc n) h)

pub clean-signed : (z : ℤ) → IsShort z → list_all is_clean (signed_decimal z) ≡ true
clean-signed (pos n) h = (split_decimal n h).clean
clean-signed (negsuc n) h = (split_decimal (suc n) h).clean

-- ---- hex and tags

pub at_each : (test : ℕ → Bool) (xs : List ℕ) (i : ℕ) → list_all test xs ≡ true → test 0 ≡ true → test (slice_index xs i) ≡ true
at_each test [] i h k = k
at_each test (x ∷ xs) zero h k = (and_parts (test x) (list_all test xs) h).0
at_each test (x ∷ xs) (suc i) h k = at_each test xs i (and_parts (test x) (list_all test xs) h).1 k

pub clean-hex : (xs : List ℕ) → list_all is_clean (encode_with lower_digits xs) ≡ true
unfolding encode_with
clean-hex [] = refl
clean-hex (x ∷ xs) =
    rw (at_each is_clean lower_digits (x / 16) refl refl, at_each is_clean lower_digits (x % 16) refl refl, clean-hex xs) refl

-- what each of the names passes, a tag among them passes
pub of_names : (test : List ℕ → Bool) (name : Tag) (names : List Tag) → list_any (bytes_eq name) names ≡ true → list_all test names ≡ true → test name ≡ true
of_names test name [] h k = cc h
of_names test name (first ∷ names) h k =
    let (a, b) = and_parts (test first) (list_all test names) k in
    by_first (bytes_eq name first) (λ e. let f = bytes_eq_same e in rw f a) (λ m. of_names test name names m b) h
  where
    bytes_eq_same : bytes_eq name first ≡ true → name ≡ first
    bytes_eq_same e = (bytes_eq-Decides name first).0 e

    by_first : (b : Bool) → (b ≡ true → test name ≡ true) → (list_any (bytes_eq name) names ≡ true → test name ≡ true) → (b || list_any (bytes_eq name) names) ≡ true → test name ≡ true
    by_first true f g e = f refl
    by_first false f g e = g e

-- ---- cutting at a byte

pub all_weaker : (p q : ℕ → Bool) → ((byte : ℕ) → p byte ≡ true → q byte ≡ true) → (xs : List ℕ) → list_all p xs ≡ true → list_all q xs ≡ true
all_weaker p q weaker [] h = refl
all_weaker p q weaker (x ∷ xs) h =
    let (a, b) = and_parts (p x) (list_all p xs) h in
    rw (weaker x a, all_weaker p q weaker xs b) refl

-- parts that have no such byte, joined by it, are cut into themselves
pub cut_joined : (cut : ℕ) (first : List ℕ) (parts : List (List ℕ)) → list_all (list_all (is_not cut)) (first ∷ parts) ≡ true
    → cut_at cut (join_with_byte cut (first ∷ parts)) ≡ first ∷ parts
cut_joined cut first [] h = cut_none cut first (and_parts (list_all (is_not cut) first) true h).0
cut_joined cut first (next ∷ parts) h =
    let (a, b) = and_parts (list_all (is_not cut) first) (list_all (list_all (is_not cut)) (next ∷ parts)) h in
    cut_first cut first (join_with_byte cut (next ∷ parts)) a ∙ ap (λ rest. first ∷ rest) (cut_joined cut next parts b)

-- ---- the bytes of UTF-8 are bytes

abbrev pub is_byte : ℕ → Bool
is_byte b = nat_lt b 256

abbrev pub AllBytes : List ℕ → Type 0
AllBytes xs = list_all is_byte xs ≡ true

pub byte_test : (b : ℕ) → b < 256 → is_byte b ≡ true
byte_test b h = grind (arith, nat_tests)

pub encode_bytes : (c : ℕ) → IsScalar c → AllBytes (encode_utf8 c)
unfolding encode_utf8
encode_bytes c h =
    let bound : c < 1114112 = elim (scalar_cases c h) [ inl low ↦ omega arith | inr high ↦ high.1 ] in
    go bound (nat_lt c 128) (nat_lt c 2048) (nat_lt c 65536) refl refl refl
  where
    go : c < 1114112 → (a b d : Bool) → nat_lt c 128 ≡ a → nat_lt c 2048 ≡ b → nat_lt c 65536 ≡ d
        → AllBytes (cond a (c ∷ []) (cond b ((192 + c / 64) ∷ (128 + c % 64) ∷ []) (cond d ((224 + c / 4096) ∷ (128 + c / 64 % 64) ∷ (128 + c % 64) ∷ []) ((240 + c / 262144) ∷ (128 + c / 4096 % 64) ∷ (128 + c / 64 % 64) ∷ (128 + c % 64) ∷ []))))
    go bound true b d e f g = let l : c < 128 = grind (arith, nat_tests) in rw (byte_test c (omega arith)) refl
    go bound false true d e f g = let l : c < 2048 = grind (arith, nat_tests) in rw (byte_test (192 + c / 64) (omega arith), byte_test (128 + c % 64) (omega arith)) refl
    go bound false false true e f g =
        let l : c < 65536 = grind (arith, nat_tests) in
        rw (byte_test (224 + c / 4096) (omega arith), byte_test (128 + c / 64 % 64) (omega arith), byte_test (128 + c % 64) (omega arith)) refl
    go bound false false false e f g =
        rw (byte_test (240 + c / 262144) (omega arith), byte_test (128 + c / 4096 % 64) (omega arith), byte_test (128 + c / 64 % 64) (omega arith), byte_test (128 + c % 64) (omega arith)) refl

pub encodes_bytes : (cs : List ℕ) → all_scalars cs ≡ true → AllBytes (encode_utf8_all cs)
encodes_bytes [] h = refl
encodes_bytes (c ∷ cs) h =
    let (a, b) = and_parts (scalar c) (all_scalars cs) h in
    list_all-append is_byte (encode_utf8 c) (encode_utf8_all cs) ∙ rw (encode_bytes c a, encodes_bytes cs b) refl

pub bytes_at : (xs : List ℕ) (i : ℕ) → AllBytes xs → slice_index xs i < 256
bytes_at [] i h = omega arith
bytes_at (x ∷ xs) zero h = let a = (and_parts (is_byte x) (list_all is_byte xs) h).0 in grind (arith, nat_tests)
bytes_at (x ∷ xs) (suc i) h = bytes_at xs i (and_parts (is_byte x) (list_all is_byte xs) h).1

pub bytes_of_text : (xs : List ℕ) → is_utf8 xs ≡ true → IsBytes xs
bytes_of_text xs h i =
    let (cs, se) = IsUtf8-from_is_utf8 xs h in
    bytes_at xs i (rw (sym se.1) (encodes_bytes cs se.0))

-- ---- one field

-- a byte that ends no line and no field
abbrev pub is_inner : ℕ → Bool
is_inner byte = not (byte == 10) && not (byte == 32)

pub clean_inner : (byte : ℕ) → is_clean byte ≡ true → is_inner byte ≡ true
clean_inner byte h = grind (arith, nat_tests)

pub clean_colon : (byte : ℕ) → is_clean byte ≡ true → is_not 58 byte ≡ true
clean_colon byte h = grind (arith, nat_tests)

pub inner_space : (byte : ℕ) → is_inner byte ≡ true → is_not 32 byte ≡ true
inner_space byte h = grind (arith, nat_tests)

pub inner_feed : (byte : ℕ) → is_inner byte ≡ true → is_not 10 byte ≡ true
inner_feed byte h = grind (arith, nat_tests)

-- the field reads as this value, and ends no field
pub record ReadsField {A : Type 0} (read : List ℕ → Option A) (part : List ℕ) (x : A) : Type 0 where
  pub as_value : read part ≡ Some x
  pub inner : list_all is_inner part ≡ true

-- of a value that may be absent
pub record ReadsApart {A : Type 0} (read : List ℕ → Option A) (part : List ℕ) (x : A) : Type 0 where
  pub reads : ReadsField read part x
  pub no_dash : bytes_eq part (codes "-") ≡ false

pub or_dash-none : {A : Type 0} (read : List ℕ → Option A) → ReadsField (or_dash read) (codes "-") None
or_dash-none read = record { as_value = refl; inner = refl }

pub or_dash-some : {A : Type 0} (read : List ℕ → Option A) (part : List ℕ) (x : A) → ReadsApart read part x → ReadsField (or_dash read) part (Some x)
or_dash-some read part x h = record { as_value = rw h.no_dash (ap (option_map Some) h.reads.as_value); inner = h.reads.inner }

pub split-no_dash : (digits : List ℕ) → IsSplitDecimal digits → bytes_eq digits (codes "-") ≡ false
split-no_dash digits s = rw (s.is, s.no_minus) refl

pub size-reads : (n : Option ℕ) → IfSome n (λ k. k < 2 ^ 64) → ReadsField size (size_field n) n
size-reads None h = or_dash-none _
size-reads (Some n) h =
    let short : n < 10 ^ 64 = omega arith in
    let e : nat_lt n (2 ^ 64) ≡ true = grind (arith, nat_tests) in
    let digits = split_decimal n short in
    or_dash-some _ (decimal n) n (record {
      reads = record {
        as_value = ap (option_and_then (keep (λ k. nat_lt k (2 ^ 64)))) (natural-decimal n short) ∙ rw e refl;
        inner = all_weaker is_clean is_inner clean_inner (decimal n) digits.clean;
      };
      no_dash = split-no_dash (decimal n) digits;
    })

pub bytes-reads : (xs : List ℕ) → IsBytes xs → ReadsField bytes (hex_field xs) xs
bytes-reads xs h = record {
  as_value = let e = decode_of-encode_lower xs h in rw e refl;
  inner = all_weaker is_clean is_inner clean_inner (encode_lower xs) (clean-hex xs);
}

pub text-reads : (xs : List ℕ) → is_utf8 xs ≡ true → ReadsField text (hex_field xs) xs
text-reads xs u = let h = bytes_of_text xs u in record {
  as_value = ap (option_and_then (keep is_utf8)) (bytes-reads xs h).as_value ∙ rw u refl;
  inner = (bytes-reads xs h).inner;
}

pub tag-reads : (t : Tag) → is_tag_name t ≡ true → ReadsApart tag_named t t
tag-reads t h = record {
  reads = record { as_value = rw h refl; inner = of_names (list_all is_inner) t tag_names h refl };
  no_dash = not_true (bytes_eq t (codes "-")) (of_names (λ name. not (bytes_eq name (codes "-"))) t tag_names h refl);
}

pub or_dash_tag-reads : (t : Option Tag) → IfSome t (λ name. is_tag_name name ≡ true) → ReadsField (or_dash tag_named) (tag_field t) t
or_dash_tag-reads None h = or_dash-none tag_named
or_dash_tag-reads (Some t) h = or_dash-some tag_named t t (tag-reads t h)

-- ---- labels, indexes and names

pub tagged-reads : {A B : Type 0} (read : List ℕ → Option A) (make : A → Option Tag → B) (part : List ℕ) (x : A) (hint : Option Tag)
    → read part ≡ Some x → list_all is_clean part ≡ true → IfSome hint (λ t. is_tag_name t ≡ true)
    → tagged_parts read make (cut_at 58 (part ++ hint_text hint)) ≡ Some (make x hint)
tagged-reads read make part x None e c h =
    ap (tagged_parts read make) (ap (cut_at 58) (append-nil part) ∙ cut_none 58 part (all_weaker is_clean (is_not 58) clean_colon part c))
    ∙ ap (option_map (λ y. make y None)) e
tagged-reads read make part x (Some t) e c h =
    let own = cut_none 58 t (of_names (list_all (is_not 58)) t tag_names h refl) in
    ap (tagged_parts read make) (cut_first 58 part t (all_weaker is_clean (is_not 58) clean_colon part c) ∙ ap (λ rest. part ∷ rest) own)
    ∙ ap (option_and_then (λ y. option_map (λ name. make y (Some name)) (tag_named t))) e
    ∙ ap (option_map (λ name. make x (Some name))) (tag-reads t h).reads.as_value

pub hint_inner : (hint : Option Tag) → IfSome hint (λ t. is_tag_name t ≡ true) → list_all is_inner (hint_text hint) ≡ true
hint_inner None h = refl
hint_inner (Some t) h = of_names (list_all is_inner) t tag_names h refl

pub both_inner : (xs ys : List ℕ) → list_all is_clean xs ≡ true → list_all is_inner ys ≡ true → list_all is_inner (xs ++ ys) ≡ true
both_inner xs ys h k =
    list_all-append is_inner xs ys ∙ ap (λ b. b && list_all is_inner ys) (all_weaker is_clean is_inner clean_inner xs h) ∙ k

pub label-reads : (l : Label) → IsPrintableLabel l → ReadsApart label (label_field l) l
label-reads l h = record {
  reads = record {
    as_value = tagged-reads text (λ t hint. record { text = t; tag = hint; is_static = false }) (hex_field l.text) l.text l.tag
        (text-reads l.text h.utf8).as_value (clean-hex l.text) h.hint
        ∙ ap (λ b. let m : Label = record { text = l.text; tag = l.tag; is_static = b } in Some m) (sym h.not_static);
    inner = both_inner (hex_field l.text) (hint_text l.tag) (clean-hex l.text) (hint_inner l.tag h.hint);
  };
  no_dash = refl;
}

pub index-no_dash : (z : ℤ) (rest : List ℕ) → IsShort z → bytes_eq (signed_decimal z ++ rest) (codes "-") ≡ false
index-no_dash (pos n) rest h = let s = split_decimal n h in rw (s.is, s.no_minus) refl
index-no_dash (negsuc n) rest h = let s = split_decimal (suc n) h in rw s.is refl

pub index-reads : (i : Index) → IsPrintableIndex i → ReadsApart index (index_field i) i
index-reads i h =
    let short = short_index i.number h.range in
    let e : option_and_then (keep is_index) (signed_integer (signed_decimal i.number)) ≡ Some i.number =
    ap (option_and_then (keep is_index)) (integer-signed i.number short) ∙ rw h.range refl in
    record {
      reads = record {
        as_value = tagged-reads (λ part. option_and_then (keep is_index) (signed_integer part)) (λ z hint. record { number = z; tag = hint })
            (signed_decimal i.number) i.number i.tag e (clean-signed i.number short) h.hint;
        inner = both_inner (signed_decimal i.number) (hint_text i.tag) (clean-signed i.number short) (hint_inner i.tag h.hint);
      };
      no_dash = index-no_dash i.number (hint_text i.tag) short;
    }

pub or_dash_label-reads : (l : Option Label) → IfSome l IsPrintableLabel → ReadsField (or_dash label) (or_dash_field label_field l) l
or_dash_label-reads None h = or_dash-none label
or_dash_label-reads (Some l) h = or_dash-some label (label_field l) l (label-reads l h)

pub or_dash_index-reads : (i : Option Index) → IfSome i IsPrintableIndex → ReadsField (or_dash index) (or_dash_field index_field i) i
or_dash_index-reads None h = or_dash-none index
or_dash_index-reads (Some i) h = or_dash-some index (index_field i) i (index-reads i h)
