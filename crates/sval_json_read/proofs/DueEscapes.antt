-- A string whose escapes are those that the writer has is written as it was read.
use Rattle.std.specs.Prelude.{◌≡◌, ℕ, ◌/◌, ◌%◌, ◌<◌, ◌≤◌, Bool, true, false, cond, not, ◌||◌, ◌&&◌, ◌==◌, nat_lt, List, [], ◌∷◌, ◌++◌, codes, get_or, length, take, Option, Some, None, is_some, unwrap_or, refl}
use Rattle.std.specs.Char.{digit_char}
use Rattle.std.specs.List.{list_all}
use Rattle.std.proofs.Common.{sym, ap, subst, ◌∙◌, arith}
use Rattle.std.proofs.lemmas.Bool.{and_parts, eqb-true, ltb-true}
use Rattle.std.proofs.lemmas.Bool.Decides.{nat_tests}
use Rattle.std.proofs.lemmas.Str.{encode_ascii}
use Rattle.sval_json.specs.Escape.{short_escape, escape, escape_text, escaped, low_byte}
use Rattle.sval_json.specs.Grammar.{is_unescaped, escaped_byte, code_unit, is_high_surrogate, is_surrogate}
use Rattle.sval_json.proofs.EscapedPieces.{escape-plain}
use Rattle.sval_json.proofs.EscapedString.{below}
use Rattle.sval_json_read.specs.DueEscapes.{is_due_letter, is_due_unit, HasDueEscapes}
use Rattle.sval_json_read.specs.DueEscapes as has
use Rattle.sval_json_read.specs.RawStrings.{IsRaw, is_no_backslash}
use Rattle.sval_json_read.specs.RawStrings as raw
use Rattle.sval_json_read.specs.Calls.{pieces}
use Rattle.sval_json_read.specs.SeenValues.{text_in}
use Rattle.sval_json_read.proofs.PieceTexts.{pieces_text, before_text, plain_byte, unit_piece, short_escape as short_piece}
use Rattle.sval_json_read.proofs.Utf8Texts.{are_hex, letter_low}

-- ---- parts

pub due_joined : {xs ys : List ℕ} → HasDueEscapes xs → HasDueEscapes ys → HasDueEscapes (xs ++ ys)
due_joined has.done q = q
due_joined (has.plain h p) q = has.plain h (due_joined p q)
due_joined (has.due h p) q = has.due h (due_joined p q)
due_joined (has.unit h p) q = has.unit h (due_joined p q)

pub due_plain : (xs : List ℕ) → list_all is_no_backslash xs ≡ true → HasDueEscapes xs
due_plain [] h = has.done
due_plain (x ∷ xs) h =
    let (a, b) = and_parts (is_no_backslash x) (list_all is_no_backslash xs) h in has.plain a (due_plain xs b)

-- an escape at the front of bytes
pub due_short_front : (bytes : List ℕ) → 2 ≤ length bytes → get_or bytes 0 0 ≡ 92 → is_due_letter (get_or bytes 1 0) ≡ true → HasDueEscapes (take 2 bytes)
due_short_front [] l p h = absurd (omega arith)
due_short_front (a ∷ []) l p h = absurd (omega arith)
due_short_front (a ∷ b ∷ bytes) l p h = rw p (has.due h has.done)

pub due_unit_front : (bytes : List ℕ) → 6 ≤ length bytes → get_or bytes 0 0 ≡ 92 → get_or bytes 1 0 ≡ 117 → get_or bytes 2 0 ≡ 48 → get_or bytes 3 0 ≡ 48 → is_due_unit (get_or bytes 4 0) (get_or bytes 5 0) ≡ true
    → HasDueEscapes (take 6 bytes)
due_unit_front [] l p q r s h = absurd (omega arith)
due_unit_front (a ∷ []) l p q r s h = absurd (omega arith)
due_unit_front (a ∷ b ∷ []) l p q r s h = absurd (omega arith)
due_unit_front (a ∷ b ∷ c ∷ []) l p q r s h = absurd (omega arith)
due_unit_front (a ∷ b ∷ c ∷ d ∷ []) l p q r s h = absurd (omega arith)
due_unit_front (a ∷ b ∷ c ∷ d ∷ e ∷ []) l p q r s h = absurd (omega arith)
due_unit_front (a ∷ b ∷ c ∷ d ∷ e ∷ f ∷ bytes) l p q r s h =
    subst (λ x. HasDueEscapes (x ∷ b ∷ c ∷ d ∷ e ∷ f ∷ [])) (sym p)
    (subst (λ x. HasDueEscapes (92 ∷ x ∷ c ∷ d ∷ e ∷ f ∷ [])) (sym q)
    (subst (λ x. HasDueEscapes (92 ∷ 117 ∷ x ∷ d ∷ e ∷ f ∷ [])) (sym r)
    (subst (λ x. HasDueEscapes (92 ∷ 117 ∷ 48 ∷ x ∷ e ∷ f ∷ [])) (sym s) (has.unit h has.done))))

no_quote_high : (low : ℕ) → is_due_unit 34 low ≡ true → ⊥
no_quote_high low h = cc h

no_quote_low : (high : ℕ) → is_due_unit high 34 ≡ true → ⊥
no_quote_low high h = go (high == 48) (high == 49) h
  where
    go : (a b : Bool) → ((a && false) || (b && false)) ≡ true → ⊥
    go true true e = cc e
    go true false e = cc e
    go false true e = cc e
    go false false e = cc e

-- a quote and these bytes are the last of them
record EndsWith (bytes ys : List ℕ) : Type 0 where
  front : List ℕ
  same : bytes ≡ front ++ (34 ∷ ys)

-- so they are behind a first byte that is no quote
behind_first : (byte : ℕ) (bytes ys front : List ℕ) → (byte ≡ 34 → ⊥) → byte ∷ bytes ≡ front ++ (34 ∷ ys) → EndsWith bytes ys
behind_first byte bytes ys [] n e = absurd (n (cc e))
behind_first byte bytes ys (x ∷ front) n e = record { front = front; same = cc e }

behind_other : (byte : ℕ) (bytes ys : List ℕ) → (byte ≡ 34 → ⊥) → EndsWith (byte ∷ bytes) ys → EndsWith bytes ys
behind_other byte bytes ys n e = behind_first byte bytes ys e.front n e.same

behind_unit : (high low : ℕ) (bytes ys : List ℕ) → is_due_unit high low ≡ true → EndsWith (92 ∷ 117 ∷ 48 ∷ 48 ∷ high ∷ low ∷ bytes) ys → EndsWith bytes ys
behind_unit high low bytes ys h e =
    behind_other low bytes ys (λ f. no_quote_low high (subst (λ y. is_due_unit high y ≡ true) f h))
    (behind_other high (low ∷ bytes) ys (λ f. no_quote_high low (subst (λ x. is_due_unit x low ≡ true) f h))
    (behind_other 48 (high ∷ low ∷ bytes) ys (λ f. cc f)
    (behind_other 48 (48 ∷ high ∷ low ∷ bytes) ys (λ f. cc f)
    (behind_other 117 (48 ∷ 48 ∷ high ∷ low ∷ bytes) ys (λ f. cc f)
    (behind_other 92 (117 ∷ 48 ∷ 48 ∷ high ∷ low ∷ bytes) ys (λ f. cc f) e)))))

-- what stands behind a quote in these bytes has such escapes alone
record IsDueBehind (bytes : List ℕ) : Type 0 where
  rest : (ys : List ℕ) → EndsWith bytes ys → HasDueEscapes ys

behind_nothing : IsDueBehind []
behind_nothing = record { rest = λ ys e. nothing ys e.front e.same }
  where
    nothing : (ys front : List ℕ) → [] ≡ front ++ (34 ∷ ys) → HasDueEscapes ys
    nothing ys [] f = cc f
    nothing ys (x ∷ front) f = cc f

behind_byte : (byte : ℕ) (bytes : List ℕ) → HasDueEscapes bytes → IsDueBehind bytes → IsDueBehind (byte ∷ bytes)
behind_byte byte bytes p q = record { rest = λ ys e. first ys e.front e.same }
  where
    first : (ys front : List ℕ) → byte ∷ bytes ≡ front ++ (34 ∷ ys) → HasDueEscapes ys
    first ys [] f = subst HasDueEscapes (cc f) p
    first ys (x ∷ front) f = q.rest ys (record { front = front; same = cc f })

behind_short : (letter : ℕ) (bytes : List ℕ) → IsDueBehind (letter ∷ bytes) → IsDueBehind (92 ∷ letter ∷ bytes)
behind_short letter bytes q = record { rest = λ ys e. q.rest ys (behind_other 92 (letter ∷ bytes) ys (λ f. cc f) e) }

behind_long : (high low : ℕ) (bytes : List ℕ) → is_due_unit high low ≡ true → IsDueBehind bytes → IsDueBehind (92 ∷ 117 ∷ 48 ∷ 48 ∷ high ∷ low ∷ bytes)
behind_long high low bytes h q = record { rest = λ ys e. q.rest ys (behind_unit high low bytes ys h e) }

-- what stands behind a quote
behind_quote : {bytes : List ℕ} → HasDueEscapes bytes → IsDueBehind bytes
behind_quote has.done = behind_nothing
behind_quote (has.plain {byte = byte} {bytes = bytes} h p) = behind_byte byte bytes p (behind_quote p)
behind_quote (has.due {letter = letter} {bytes = bytes} h p) = behind_short letter bytes (behind_byte letter bytes p (behind_quote p))
behind_quote (has.unit {high = high} {low = low} {bytes = bytes} h p) = behind_long high low bytes h (behind_quote p)

pub due_behind_quote : (xs ys : List ℕ) → HasDueEscapes (xs ++ (34 ∷ ys)) → HasDueEscapes ys
due_behind_quote xs ys p = (behind_quote p).rest ys (record { front = xs; same = refl })

due_behind_byte : (byte : ℕ) (bytes : List ℕ) → is_no_backslash byte ≡ true → HasDueEscapes (byte ∷ bytes) → HasDueEscapes bytes
due_behind_byte byte bytes h (has.plain k p) = p
due_behind_byte byte bytes h (has.due k p) = cc h
due_behind_byte byte bytes h (has.unit k p) = cc h

due_behind_short : (letter byte : ℕ) (bytes : List ℕ) → escaped_byte letter ≡ Some byte → HasDueEscapes (92 ∷ letter ∷ bytes) → (is_due_letter letter ≡ true) × HasDueEscapes bytes
due_behind_short letter byte bytes e (has.plain h p) = cc h
due_behind_short letter byte bytes e (has.due h p) = (h, p)
due_behind_short letter byte bytes e (has.unit h p) = cc e

-- ---- one byte or escape

-- the byte of such a letter has that letter again
letter_again : (letter : ℕ) → letter < 128 → (not (is_due_letter letter) || (unwrap_or (short_escape (unwrap_or (escaped_byte letter) 256)) 256 == letter)) ≡ true
letter_again letter h = below 128 letter (λ l. not (is_due_letter l) || (unwrap_or (short_escape (unwrap_or (escaped_byte l) 256)) 256 == l)) refl h

unwrapped : (o : Option ℕ) (letter : ℕ) → letter < 128 → unwrap_or o 256 ≡ letter → o ≡ Some letter
unwrapped None letter h e = absurd (omega arith)
unwrapped (Some l) letter h e = ap Some e

due_short : (letter byte : ℕ) → escaped_byte letter ≡ Some byte → is_due_letter letter ≡ true → short_escape byte ≡ Some letter
due_short letter byte e h =
    let low : letter < 128 = letter_low letter byte e in
    let test = rw (e, h) at (letter_again letter low) in
    unwrapped (short_escape byte) letter low (eqb-true (unwrap_or (short_escape byte) 256) letter test)

-- the byte of such a unit
record IsDueUnit (high low byte : ℕ) : Type 0 where
  small : nat_lt byte 32 ≡ true
  long : short_escape byte ≡ None
  first : digit_char (byte / 16) ≡ high
  second : digit_char (byte % 16) ≡ low

abbrev unit_again : ℕ → ℕ → Option ℕ → Bool
unit_again high low None = false
unit_again high low (Some byte) = nat_lt byte 32 && (not (is_some (short_escape byte)) && ((digit_char (byte / 16) == high) && (digit_char (byte % 16) == low)))

zero_again : (low : ℕ) → low < 128 → (not (is_due_unit 48 low) || unit_again 48 low (code_unit 48 48 48 low)) ≡ true
zero_again low h = below 128 low (λ l. not (is_due_unit 48 l) || unit_again 48 l (code_unit 48 48 48 l)) refl h

one_again : (low : ℕ) → low < 128 → (not (is_due_unit 49 low) || unit_again 49 low (code_unit 48 48 49 low)) ≡ true
one_again low h = below 128 low (λ l. not (is_due_unit 49 l) || unit_again 49 l (code_unit 48 48 49 l)) refl h

is_none : (o : Option ℕ) → not (is_some o) ≡ true → o ≡ None
is_none None h = refl
is_none (Some byte) h = cc h

unit_from_test : (high low byte : ℕ) → unit_again high low (Some byte) ≡ true → IsDueUnit high low byte
unit_from_test high low byte h =
    let (a, b) = and_parts (nat_lt byte 32) (not (is_some (short_escape byte)) && ((digit_char (byte / 16) == high) && (digit_char (byte % 16) == low))) h in
    let (c, d) = and_parts (not (is_some (short_escape byte))) ((digit_char (byte / 16) == high) && (digit_char (byte % 16) == low)) b in
    let (e, f) = and_parts (digit_char (byte / 16) == high) (digit_char (byte % 16) == low) d in
    record { small = a; long = is_none (short_escape byte) c; first = eqb-true (digit_char (byte / 16)) high e; second = eqb-true (digit_char (byte % 16)) low f }

unit_parts : (high low byte : ℕ) → is_due_unit high low ≡ true → code_unit 48 48 high low ≡ Some byte → IsDueUnit high low byte
unit_parts high low byte h e = go (high == 48) (high == 49) refl refl
  where
    few : low < 128
    few = (are_hex 48 48 high low byte e).fourth

    from_zero : 48 ≡ high → IsDueUnit high low byte
    from_zero same =
        let due : is_due_unit 48 low ≡ true = subst (λ x. is_due_unit x low ≡ true) (sym same) h in
        let unit : code_unit 48 48 48 low ≡ Some byte = subst (λ x. code_unit 48 48 x low ≡ Some byte) (sym same) e in
        subst (λ x. IsDueUnit x low byte) same (unit_from_test 48 low byte (rw (due, unit) at (zero_again low few)))

    from_one : 49 ≡ high → IsDueUnit high low byte
    from_one same =
        let due : is_due_unit 49 low ≡ true = subst (λ x. is_due_unit x low ≡ true) (sym same) h in
        let unit : code_unit 48 48 49 low ≡ Some byte = subst (λ x. code_unit 48 48 x low ≡ Some byte) (sym same) e in
        subst (λ x. IsDueUnit x low byte) same (unit_from_test 49 low byte (rw (due, unit) at (one_again low few)))

    go : (a b : Bool) → (high == 48) ≡ a → (high == 49) ≡ b → IsDueUnit high low byte
    go true b f g = from_zero (sym (eqb-true high 48 f))
    go false true f g = from_one (sym (eqb-true high 49 g))
    go false false f g = let none : is_due_unit high low ≡ false = rw (f, g) refl in cc

plain_tests : (a b c : Bool) → (not a && not b && not c) ≡ true → not (a || b || c) ≡ true
plain_tests true b c h = cc h
plain_tests false true c h = cc h
plain_tests false false true h = cc h
plain_tests false false false h = refl

no_backslash : (a b c : Bool) → (not a && not b && not c) ≡ true → not c ≡ true
no_backslash true b c h = cc h
no_backslash false true c h = cc h
no_backslash false false c h = h

plain_text : (byte : ℕ) (bytes : List ℕ) → is_unescaped byte ≡ true → text_in (byte ∷ bytes) ≡ byte ∷ text_in bytes
plain_text byte bytes h = ap pieces_text (plain_byte byte bytes h) ∙ before_text byte (pieces bytes)

short_text : (letter byte : ℕ) (bytes : List ℕ) → escaped_byte letter ≡ Some byte → text_in (92 ∷ letter ∷ bytes) ≡ byte ∷ text_in bytes
short_text letter byte bytes e = ap pieces_text (short_piece letter byte bytes e)

plain_escaped : (byte : ℕ) (bytes : List ℕ) → is_unescaped byte ≡ true → escaped (text_in (byte ∷ bytes)) ≡ byte ∷ escaped (text_in bytes)
plain_escaped byte bytes u =
    ap escaped (plain_text byte bytes u) ∙ ap (λ row. row ++ escaped (text_in bytes)) (escape-plain byte (plain_tests (nat_lt byte 32) (byte == 34) (byte == 92) u))

short_escaped : (letter byte : ℕ) (bytes : List ℕ) → escaped_byte letter ≡ Some byte → is_due_letter letter ≡ true → escaped (text_in (92 ∷ letter ∷ bytes)) ≡ 92 ∷ letter ∷ escaped (text_in bytes)
short_escaped letter byte bytes e h =
    ap escaped (short_text letter byte bytes e) ∙ ap (λ row. row ++ escaped (text_in bytes)) (ap (escape_text byte) (due_short letter byte e h))

unit_escaped : (high low byte : ℕ) (bytes : List ℕ) → is_due_unit high low ≡ true → code_unit 48 48 high low ≡ Some byte → is_surrogate byte ≡ false
    → escaped (text_in (92 ∷ 117 ∷ 48 ∷ 48 ∷ high ∷ low ∷ bytes)) ≡ 92 ∷ 117 ∷ 48 ∷ 48 ∷ high ∷ low ∷ escaped (text_in bytes)
unit_escaped high low byte bytes h e f =
    let parts = unit_parts high low byte h e in
    let small : byte < 32 = ltb-true byte 32 parts.small in
    let one : text_in (92 ∷ 117 ∷ 48 ∷ 48 ∷ high ∷ low ∷ bytes) ≡ byte ∷ text_in bytes =
    ap pieces_text (unit_piece 48 48 high low byte bytes e f) ∙ ap (λ row. row ++ text_in bytes) (encode_ascii byte (omega (arith, small))) in
    let again : escape byte ≡ 92 ∷ 117 ∷ 48 ∷ 48 ∷ high ∷ low ∷ [] =
    ap (escape_text byte) parts.long ∙ ap (λ b. cond b (codes "\\u00" ++ low_byte byte) (byte ∷ [])) parts.small
    ∙ ap (λ x. 92 ∷ 117 ∷ 48 ∷ 48 ∷ x ∷ digit_char (byte % 16) ∷ []) parts.first ∙ ap (λ x. 92 ∷ 117 ∷ 48 ∷ 48 ∷ high ∷ x ∷ []) parts.second in
    ap escaped one ∙ ap (λ row. row ++ escaped (text_in bytes)) again

-- such a unit is no surrogate
no_high_unit : (high low byte : ℕ) → is_due_unit high low ≡ true → code_unit 48 48 high low ≡ Some byte → is_high_surrogate byte ≡ true → ⊥
no_high_unit high low byte h e f =
    let small : byte < 32 = ltb-true byte 32 (unit_parts high low byte h e).small in
    let none : is_high_surrogate byte ≡ false = grind (arith, nat_tests) in cc

-- ---- strings

-- a string in front of other bytes is written as it was read
pub due_string : {raw : List ℕ} (more : List ℕ) → IsRaw raw → HasDueEscapes (raw ++ more) → raw ≡ escaped (text_in raw)
due_string more raw.done p = refl
due_string more (raw.plain {byte = byte} {bytes = bytes} u r) p =
    let rest : HasDueEscapes (bytes ++ more) = due_behind_byte byte (bytes ++ more) (no_backslash (nat_lt byte 32) (byte == 34) (byte == 92) u) p in
    ap (λ row. byte ∷ row) (due_string more r rest) ∙ sym (plain_escaped byte bytes u)
due_string more (raw.short {letter = letter} {byte = byte} {bytes = bytes} e r) p =
    let (h, rest) = due_behind_short letter byte (bytes ++ more) e p in
    ap (λ row. 92 ∷ letter ∷ row) (due_string more r rest) ∙ sym (short_escaped letter byte bytes e h)
due_string more (raw.unit e f r) (has.plain h p) = cc h
due_string more (raw.unit e f r) (has.due h p) = cc h
due_string more (raw.unit {u = byte} {bytes = bytes} e f r) (has.unit {high = high} {low = low} h p) =
    ap (λ row. 92 ∷ 117 ∷ 48 ∷ 48 ∷ high ∷ low ∷ row) (due_string more r p) ∙ sym (unit_escaped high low byte bytes h e f)
due_string more (raw.pair e f g k r) (has.plain h p) = cc h
due_string more (raw.pair e f g k r) (has.due h p) = cc h
due_string more (raw.pair {high = byte} e f g k r) (has.unit {high = high} {low = low} h p) = absurd (no_high_unit high low byte h e f)

-- what stands in front of the rest of a string, and is written as it was read
pub record IsDueFront (front rest : List ℕ) : Type 0 where
  pub is_raw : IsRaw rest
  pub text : escaped (text_in (front ++ rest)) ≡ front ++ escaped (text_in rest)

unescaped_first : (byte : ℕ) (bytes : List ℕ) → is_no_backslash byte ≡ true → IsRaw (byte ∷ bytes) → (is_unescaped byte ≡ true) × IsRaw bytes
unescaped_first byte bytes h (raw.plain u r) = (u, r)
unescaped_first byte bytes h (raw.short e r) = cc h
unescaped_first byte bytes h (raw.unit e f r) = cc h
unescaped_first byte bytes h (raw.pair e f g k r) = cc h

short_first : (letter : ℕ) (bytes : List ℕ) → is_due_letter letter ≡ true → IsRaw (92 ∷ letter ∷ bytes) → (byte : ℕ) × (escaped_byte letter ≡ Some byte) × IsRaw bytes
short_first letter bytes h (raw.plain u r) = cc u
short_first letter bytes h (raw.short {byte = byte} e r) = (byte, e, r)
short_first letter bytes h (raw.unit e f r) = cc h
short_first letter bytes h (raw.pair e f g k r) = cc h

unit_first : (high low : ℕ) (bytes : List ℕ) → is_due_unit high low ≡ true → IsRaw (92 ∷ 117 ∷ 48 ∷ 48 ∷ high ∷ low ∷ bytes) → (byte : ℕ) × (code_unit 48 48 high low ≡ Some byte) × (is_surrogate byte ≡ false) × IsRaw bytes
unit_first high low bytes h (raw.plain u r) = cc u
unit_first high low bytes h (raw.short e r) = cc e
unit_first high low bytes h (raw.unit {u = byte} e f r) = (byte, e, f, r)
unit_first high low bytes h (raw.pair {high = byte} e f g k r) = absurd (no_high_unit high low byte h e f)

pub due_front : {front : List ℕ} (rest : List ℕ) → HasDueEscapes front → IsRaw (front ++ rest) → IsDueFront front rest
due_front rest has.done r = record { is_raw = r; text = refl }
due_front rest (has.plain {byte = byte} {bytes = bytes} h p) r =
    let (u, s) = unescaped_first byte (bytes ++ rest) h r in
    let more = due_front rest p s in
    record { is_raw = more.is_raw; text = plain_escaped byte (bytes ++ rest) u ∙ ap (λ row. byte ∷ row) more.text }
due_front rest (has.due {letter = letter} {bytes = bytes} h p) r =
    let (byte, e, s) = short_first letter (bytes ++ rest) h r in
    let more = due_front rest p s in
    record { is_raw = more.is_raw; text = short_escaped letter byte (bytes ++ rest) e h ∙ ap (λ row. 92 ∷ letter ∷ row) more.text }
due_front rest (has.unit {high = high} {low = low} {bytes = bytes} h p) r =
    let (byte, e, f, s) = unit_first high low (bytes ++ rest) h r in
    let more = due_front rest p s in
    record { is_raw = more.is_raw; text = unit_escaped high low byte (bytes ++ rest) h e f ∙ ap (λ row. 92 ∷ 117 ∷ 48 ∷ 48 ∷ high ∷ low ∷ row) more.text }
