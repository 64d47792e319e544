-- The pieces of a string are its text.
use Rattle.std.specs.Prelude.{◌≡◌, ℕ, Bool, true, false, cond, ◌||◌, ◌==◌, List, [], ◌∷◌, ◌++◌, map, drop, Option, Some, None, refl}
use Rattle.std.specs.Char.{encode_utf8}
use Rattle.std.specs.List.{concat}
use Rattle.std.proofs.Common.{ap, ◌∙◌, arith}
use Rattle.std.proofs.lemmas.Bool.Decides.{nat_tests}
use Rattle.sval_json.specs.Grammar.{is_unescaped, escaped_byte, code_unit, is_high_surrogate, is_low_surrogate, is_surrogate, pair_of, IsString, close, unescaped, escape, unit, pair}
use Rattle.sval_json_read.specs.Tokens.{between_quotes}
use Rattle.sval_json_read.specs.Calls as part
use Rattle.sval_json_read.specs.Calls.{Piece, run, piece_bytes, byte_before, unit_after, Escape, unit_escape, escape_after, pieces_after, pieces}

abbrev pub pieces_text : List Piece → List ℕ
pieces_text row = concat (map piece_bytes row)

pub before_text : (byte : ℕ) (row : List Piece) → pieces_text (byte_before byte row) ≡ byte ∷ pieces_text row
before_text byte [] = refl
before_text byte (run bytes ∷ row) = refl
before_text byte (part.escape bytes ∷ row) = refl

pub plain_byte : (byte : ℕ) (bytes : List ℕ) → is_unescaped byte ≡ true → pieces (byte ∷ bytes) ≡ byte_before byte (pieces bytes)
plain_byte byte bytes h = let e : (byte == 92) ≡ false = grind (arith, nat_tests) in rw e refl

pub short_escape : (letter byte : ℕ) (bytes : List ℕ) → escaped_byte letter ≡ Some byte → pieces (92 ∷ letter ∷ bytes) ≡ part.escape (byte ∷ []) ∷ pieces bytes
short_escape letter byte bytes e = rw e refl

no_high : (a b : Bool) → (a || b) ≡ false → a ≡ false
no_high false b e = refl
no_high true b e = cc e

pub alone : (u : ℕ) (next : Option ℕ) → is_high_surrogate u ≡ false → unit_escape (Some u) next ≡ record { stands_for = encode_utf8 u; follow = 5 }
alone u None h = refl
alone u (Some low) h = rw h refl

pub unit_after_is : (a b c d u : ℕ) (bytes : List ℕ) → code_unit a b c d ≡ Some u → is_surrogate u ≡ false
    → escape_after (117 ∷ a ∷ b ∷ c ∷ d ∷ bytes) ≡ record { stands_for = encode_utf8 u; follow = 5 }
unit_after_is a b c d u bytes e s =
    ap (λ o. unit_escape o (unit_after (drop 6 (117 ∷ a ∷ b ∷ c ∷ d ∷ bytes)))) e ∙ alone u (unit_after (drop 6 (117 ∷ a ∷ b ∷ c ∷ d ∷ bytes))) (no_high (is_high_surrogate u) (is_low_surrogate u) s)

pub pair_after_is : (a b c d e f g h high low : ℕ) (bytes : List ℕ) → code_unit a b c d ≡ Some high → is_high_surrogate high ≡ true → code_unit e f g h ≡ Some low
    → escape_after (117 ∷ a ∷ b ∷ c ∷ d ∷ 92 ∷ 117 ∷ e ∷ f ∷ g ∷ h ∷ bytes) ≡ record { stands_for = encode_utf8 (pair_of high low); follow = 11 }
pair_after_is a b c d e f g h high low bytes p q r =
    ap (λ o. unit_escape o (code_unit e f g h)) p ∙ ap (λ o. unit_escape (Some high) o) r
    ∙ ap (λ b. cond b (let y : Escape = record { stands_for = encode_utf8 (pair_of high low); follow = 11 } in y) (record { stands_for = encode_utf8 high; follow = 5 })) q

pub unit_piece : (a b c d u : ℕ) (bytes : List ℕ) → code_unit a b c d ≡ Some u → is_surrogate u ≡ false
    → pieces (92 ∷ 117 ∷ a ∷ b ∷ c ∷ d ∷ bytes) ≡ part.escape (encode_utf8 u) ∷ pieces bytes
unit_piece a b c d u bytes e s = ap (λ (x : Escape). part.escape x.stands_for ∷ pieces_after x.follow (117 ∷ a ∷ b ∷ c ∷ d ∷ bytes)) (unit_after_is a b c d u bytes e s)

pub pair_piece : (a b c d e f g h high low : ℕ) (bytes : List ℕ) → code_unit a b c d ≡ Some high → is_high_surrogate high ≡ true → code_unit e f g h ≡ Some low
    → pieces (92 ∷ 117 ∷ a ∷ b ∷ c ∷ d ∷ 92 ∷ 117 ∷ e ∷ f ∷ g ∷ h ∷ bytes) ≡ part.escape (encode_utf8 (pair_of high low)) ∷ pieces bytes
pair_piece a b c d e f g h high low bytes p q r =
    ap (λ (x : Escape). part.escape x.stands_for ∷ pieces_after x.follow (117 ∷ a ∷ b ∷ c ∷ d ∷ 92 ∷ 117 ∷ e ∷ f ∷ g ∷ h ∷ bytes)) (pair_after_is a b c d e f g h high low bytes p q r)

pub pieces-text : {bytes text rest : List ℕ} (s : IsString bytes text rest) → pieces_text (pieces (between_quotes s)) ≡ text
pieces-text close = refl
pieces-text (unescaped {byte = byte} h s) =
    ap pieces_text (plain_byte byte (between_quotes s) h) ∙ before_text byte (pieces (between_quotes s)) ∙ ap (λ x. byte ∷ x) (pieces-text s)
pieces-text (escape {letter = letter} {byte = byte} e s) = ap pieces_text (short_escape letter byte (between_quotes s) e) ∙ ap (λ x. byte ∷ x) (pieces-text s)
pieces-text (unit {a = a} {b = b} {c = c} {d = d} {u = u} e f s) =
    ap pieces_text (unit_piece a b c d u (between_quotes s) e f) ∙ ap (λ x. encode_utf8 u ++ x) (pieces-text s)
pieces-text (pair {a = a} {b = b} {c = c} {d = d} {e = e} {f = f} {g = g} {h = h} {high = high} {low = low} p q r t s) =
    ap pieces_text (pair_piece a b c d e f g h high low (between_quotes s) p q r) ∙ ap (λ x. encode_utf8 (pair_of high low) ++ x) (pieces-text s)
