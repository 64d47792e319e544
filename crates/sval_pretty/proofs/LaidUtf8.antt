-- The layout of UTF-8 is UTF-8.
use Rattle.std.specs.Prelude.{◌≡◌, ℕ, zero, suc, ◌+◌, ◌/◌, ◌%◌, ◌<◌, ◌≤◌, Bool, true, false, cond, ◌||◌, ◌&&◌, ◌==◌, nat_lt, nat_le, List, [], ◌∷◌, ◌++◌, IsUtf8, refl}
use Rattle.std.specs.List.{list_all}
use Rattle.std.specs.Char.{encode_utf8, IsScalar}
use Rattle.std.specs.Str.{all_scalars, encode_utf8_all}
use Rattle.std.proofs.Common.{sym, ap, ◌∙◌, subst, arith, inl, inr, append_assoc}
use Rattle.std.proofs.lemmas.Bool.{and_parts, cases_lt}
use Rattle.std.proofs.lemmas.Bool.Decides.{nat_tests}
use Rattle.std.proofs.lemmas.Str.{IsUtf8-append, IsUtf8-encode, IsUtf8-nil, encode_ascii}
use lib.Utf8.{scalar}
use Rattle.sval_json.specs.Grammar.{is_space}
use Rattle.sval_json.proofs.NumberTexts.{ascii_utf8}
use Rattle.sval_pretty.specs.declared.layout.Mark.{Mark}
use Rattle.sval_pretty.specs.declared.layout.Mark.TheVariants.{Space, Quote, Begin, End, Comma, Colon, Other}
use Rattle.sval_pretty.specs.declared.layout.Gap.{Gap}
use Rattle.sval_pretty.specs.declared.layout.Gap.TheVariants.{Nothing, First, Line, Blank}
use Rattle.sval_pretty.specs.declared.layout.Place.{Place}
use Rattle.sval_pretty.specs.declared.layout.Place.TheVariants.{Outside, Inside, Escaped}
use Rattle.sval_pretty.specs.Layout.{indent, new_line, one_less, mark_of_byte, next_place, next_depth, gap_text, gap_at_end, laid_outside, laid_byte, laid_out}
use Rattle.sval_pretty.proofs.Laying.{inside_kept}

-- ---- ASCII

indent_ascii : (depth : ℕ) → list_all (λ b. nat_lt b 128) (indent depth) ≡ true
indent_ascii zero = refl
indent_ascii (suc depth) = indent_ascii depth

line_utf8 : (depth : ℕ) → IsUtf8 (new_line depth)
line_utf8 depth = ascii_utf8 (new_line depth) (indent_ascii depth)

gap_utf8 : (gap : Gap) (depth : ℕ) → IsUtf8 (gap_text gap depth)
gap_utf8 Nothing depth = IsUtf8-nil
gap_utf8 First depth = line_utf8 depth
gap_utf8 Line depth = line_utf8 depth
gap_utf8 Blank depth = ascii_utf8 (32 ∷ []) refl

end_utf8 : (gap : Gap) (depth : ℕ) → IsUtf8 (gap_at_end gap depth)
end_utf8 First depth = IsUtf8-nil
end_utf8 Nothing depth = line_utf8 (one_less depth)
end_utf8 Line depth = line_utf8 (one_less depth)
end_utf8 Blank depth = line_utf8 (one_less depth)

laid_mark_utf8 : (gap : Gap) (depth byte : ℕ) (m : Mark) → IsUtf8 (byte ∷ []) → IsUtf8 (laid_outside gap depth byte m)
laid_mark_utf8 gap depth byte Space u = IsUtf8-nil
laid_mark_utf8 gap depth byte End u = IsUtf8-append (gap_at_end gap depth) (byte ∷ []) (end_utf8 gap depth) u
laid_mark_utf8 gap depth byte Quote u = IsUtf8-append (gap_text gap depth) (byte ∷ []) (gap_utf8 gap depth) u
laid_mark_utf8 gap depth byte Begin u = IsUtf8-append (gap_text gap depth) (byte ∷ []) (gap_utf8 gap depth) u
laid_mark_utf8 gap depth byte Comma u = IsUtf8-append (gap_text gap depth) (byte ∷ []) (gap_utf8 gap depth) u
laid_mark_utf8 gap depth byte Colon u = IsUtf8-append (gap_text gap depth) (byte ∷ []) (gap_utf8 gap depth) u
laid_mark_utf8 gap depth byte Other u = IsUtf8-append (gap_text gap depth) (byte ∷ []) (gap_utf8 gap depth) u

byte_utf8 : (place : Place) (depth byte : ℕ) → IsUtf8 (byte ∷ []) → IsUtf8 (laid_byte place depth byte)
byte_utf8 (Outside gap) depth byte u = laid_mark_utf8 gap depth byte (mark_of_byte byte) u
byte_utf8 Inside depth byte u = u
byte_utf8 Escaped depth byte u = u

-- ---- beyond ASCII

-- the place behind a byte beyond ASCII
abbrev behind : Place → Place
behind (Outside gap) = Outside Nothing
behind Inside = Inside
behind Escaped = Inside

-- the white space before one
abbrev lead : Place → ℕ → List ℕ
lead (Outside gap) depth = gap_text gap depth
lead Inside depth = []
lead Escaped depth = []

lead_utf8 : (place : Place) (depth : ℕ) → IsUtf8 (lead place depth)
lead_utf8 (Outside gap) depth = gap_utf8 gap depth
lead_utf8 Inside depth = IsUtf8-nil
lead_utf8 Escaped depth = IsUtf8-nil

outside_high : (gap : Gap) (depth byte : ℕ) (bytes : List ℕ) → 128 ≤ byte → laid_out (Outside gap) depth (byte ∷ bytes) ≡ gap_text gap depth ++ (byte ∷ laid_out (Outside Nothing) depth bytes)
outside_high gap depth byte bytes h =
    let a : is_space byte ≡ false = grind (arith, nat_tests) in
    let b : (byte == 34) ≡ false = grind (arith, nat_tests) in
    let c : ((byte == 91) || (byte == 123)) ≡ false = grind (arith, nat_tests) in
    let d : ((byte == 93) || (byte == 125)) ≡ false = grind (arith, nat_tests) in
    let e : (byte == 44) ≡ false = grind (arith, nat_tests) in
    let f : (byte == 58) ≡ false = grind (arith, nat_tests) in
    rw (a, b, c, d, e, f) (append_assoc (gap_text gap depth) (byte ∷ []) (laid_out (Outside Nothing) depth bytes))

inside_high : (depth byte : ℕ) (bytes : List ℕ) → 128 ≤ byte → laid_out Inside depth (byte ∷ bytes) ≡ byte ∷ laid_out Inside depth bytes
inside_high depth byte bytes h =
    let q : (byte == 34) ≡ false = grind (arith, nat_tests) in
    let b : (byte == 92) ≡ false = grind (arith, nat_tests) in
    inside_kept depth byte bytes q b

high : (place : Place) (depth byte : ℕ) (bytes : List ℕ) → 128 ≤ byte → laid_out place depth (byte ∷ bytes) ≡ lead place depth ++ (byte ∷ laid_out (behind place) depth bytes)
high (Outside gap) depth byte bytes h = outside_high gap depth byte bytes h
high Inside depth byte bytes h = inside_high depth byte bytes h
high Escaped depth byte bytes h = refl

-- behind one, further ones are kept
further : (place : Place) (depth byte : ℕ) (bytes : List ℕ) → 128 ≤ byte → laid_out (behind place) depth (byte ∷ bytes) ≡ byte ∷ laid_out (behind place) depth bytes
further (Outside gap) depth byte bytes h = high (Outside Nothing) depth byte bytes h
further Inside depth byte bytes h = high Inside depth byte bytes h
further Escaped depth byte bytes h = high Inside depth byte bytes h

-- how bytes are laid out before others
record LaysFront (place : Place) (depth : ℕ) (text rest : List ℕ) : Type 0 where
  before : List ℕ
  onto : Place
  deep : ℕ
  utf8 : IsUtf8 before
  same : laid_out place depth (text ++ rest) ≡ before ++ laid_out onto deep rest

high_test : (byte : ℕ) → nat_le 128 byte ≡ true → 128 ≤ byte
high_test byte h = grind (arith, nat_tests)

all_further : (place : Place) (depth : ℕ) (text rest : List ℕ) → list_all (λ b. nat_le 128 b) text ≡ true → laid_out (behind place) depth (text ++ rest) ≡ text ++ laid_out (behind place) depth rest
all_further place depth [] rest h = refl
all_further place depth (byte ∷ text) rest h =
    let (one, more) = and_parts (nat_le 128 byte) (list_all (λ b. nat_le 128 b) text) h in
    further place depth byte (text ++ rest) (high_test byte one) ∙ ap (λ x. byte ∷ x) (all_further place depth text rest more)

high_laid : (place : Place) (depth : ℕ) (text rest : List ℕ) → IsUtf8 text → list_all (λ b. nat_le 128 b) text ≡ true → LaysFront place depth text rest
high_laid place depth [] rest u h = record { before = []; onto = place; deep = depth; utf8 = IsUtf8-nil; same = refl }
high_laid place depth (byte ∷ text) rest u h =
    let (one, more) = and_parts (nat_le 128 byte) (list_all (λ b. nat_le 128 b) text) h in
    record {
      before = lead place depth ++ (byte ∷ text);
      onto = behind place;
      deep = depth;
      utf8 = IsUtf8-append (lead place depth) (byte ∷ text) (lead_utf8 place depth) u;
      same = high place depth byte (text ++ rest) (high_test byte one) ∙ ap (λ x. lead place depth ++ (byte ∷ x)) (all_further place depth text rest more)
          ∙ sym (append_assoc (lead place depth) (byte ∷ text) (laid_out (behind place) depth rest));
    }

passes : (b : ℕ) → 128 ≤ b → nat_le 128 b ≡ true
passes b h = grind (arith, nat_tests)

-- the bytes of a character beyond ASCII
high_encoded : (c : ℕ) → 128 ≤ c → list_all (λ b. nat_le 128 b) (encode_utf8 c) ≡ true
unfolding encode_utf8
high_encoded c h = go (nat_lt c 128) (nat_lt c 2048) (nat_lt c 65536) refl refl refl
  where
    go : (a b d : Bool) → nat_lt c 128 ≡ a → nat_lt c 2048 ≡ b → nat_lt c 65536 ≡ d
        → list_all (λ b. nat_le 128 b) (cond a (c ∷ []) (cond b ((192 + c / 64) ∷ (128 + c % 64) ∷ []) (cond d ((224 + c / 4096) ∷ (128 + c / 64 % 64) ∷ (128 + c % 64) ∷ []) ((240 + c / 262144) ∷ (128 + c / 4096 % 64) ∷ (128 + c / 64 % 64) ∷ (128 + c % 64) ∷ [])))) ≡ true
    go true b d e f g = let l : c < 128 = grind (arith, nat_tests) in absurd (omega arith)
    go false true d e f g = rw (passes (192 + c / 64) (omega arith), passes (128 + c % 64) (omega arith)) refl
    go false false true e f g = rw (passes (224 + c / 4096) (omega arith), passes (128 + c / 64 % 64) (omega arith), passes (128 + c % 64) (omega arith)) refl
    go false false false e f g =
        rw (passes (240 + c / 262144) (omega arith), passes (128 + c / 4096 % 64) (omega arith), passes (128 + c / 64 % 64) (omega arith), passes (128 + c % 64) (omega arith)) refl

low_laid : (place : Place) (depth c : ℕ) (rest : List ℕ) → IsUtf8 (encode_utf8 c) → encode_utf8 c ≡ c ∷ [] → LaysFront place depth (encode_utf8 c) rest
low_laid place depth c rest u e = record {
  before = laid_byte place depth c;
  onto = next_place place c;
  deep = next_depth place depth c;
  utf8 = byte_utf8 place depth c (subst IsUtf8 e u);
  same = ap (λ x. laid_out place depth (x ++ rest)) e;
}

char_laid : (place : Place) (depth c : ℕ) (rest : List ℕ) → IsScalar c → LaysFront place depth (encode_utf8 c) rest
char_laid place depth c rest s =
    elim (cases_lt c 128) [
      | inl low ↦ low_laid place depth c rest (IsUtf8-encode c s) (encode_ascii c low)
      | inr above ↦ high_laid place depth (encode_utf8 c) rest (IsUtf8-encode c s) (high_encoded c above)
    ]

chars_utf8 : (place : Place) (depth : ℕ) (cs : List ℕ) → all_scalars cs ≡ true → IsUtf8 (laid_out place depth (encode_utf8_all cs))
chars_utf8 place depth [] s = IsUtf8-nil
chars_utf8 place depth (c ∷ cs) s =
    let (one, more) = and_parts (scalar c) (all_scalars cs) s in
    let k = char_laid place depth c (encode_utf8_all cs) one in
    subst IsUtf8 (sym k.same) (IsUtf8-append k.before (laid_out k.onto k.deep (encode_utf8_all cs)) k.utf8 (chars_utf8 k.onto k.deep cs more))

pub laid_utf8 : (place : Place) (depth : ℕ) (text : List ℕ) → IsUtf8 text → IsUtf8 (laid_out place depth text)
laid_utf8 place depth text u = subst (λ x. IsUtf8 (laid_out place depth x)) u.1.1 (chars_utf8 place depth u.0 u.1.0)
