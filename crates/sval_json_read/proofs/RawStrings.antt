-- What stands between the quotes of a string: for a loop that makes its calls piece by piece.
use Rattle.std.specs.Prelude.{◌≡◌, ℕ, zero, suc, ◌<◌, ◌≤◌, Bool, true, false, ◌==◌, List, [], ◌∷◌, ◌++◌, length, drop, Some, refl, IsUtf8}
use Rattle.std.specs.List.{list_all}
use Rattle.std.proofs.Common.{sym, ap, subst, ◌∙◌, arith}
use Rattle.std.proofs.lemmas.Bool.{and_parts}
use Rattle.std.proofs.lemmas.Bool.Decides.{nat_tests}
use Rattle.std.proofs.lemmas.Str.{IsUtf8-encode}
use Rattle.sval_json.specs.Grammar as json
use Rattle.sval_json.specs.Grammar.{JsonValue, Values, Members, is_unescaped, escaped_byte, code_unit, is_high_surrogate, is_low_surrogate, is_surrogate, pair_of, IsString, IsValue, AreJsonValues, AreMembers, last_value, more_values, last_member, more_members}
use Rattle.sval_json.proofs.NumberGrammar.{number_tested}
use Rattle.sval_json_read.specs.Tokens as token
use Rattle.sval_json_read.specs.Tokens.{Place, Alone, Item, Value, Token, Placed, placed_at, between_quotes, tokens_of, item_tokens, pair_tokens}
use Rattle.sval_json_read.specs.Documents.{IsDocument}
use Rattle.sval_json_read.specs.RawStrings.{IsRaw, done, plain, short, unit, pair, AreProperTokens, is_no_backslash}
use Rattle.sval_json_read.specs.Calls.{run, escape, byte_before, escape_after, pieces_after, pieces}
use Rattle.sval_json_read.proofs.PieceTexts.{unit_after_is, pair_after_is}
use Rattle.sval_json_read.proofs.Utf8Texts.{are_hex, unit_scalar, pair_scalar, low_byte, escaped_low}

pub between-raw : {bytes text rest : List ℕ} (s : IsString bytes text rest) → IsRaw (between_quotes s)
between-raw json.close = done
between-raw (json.unescaped h s) = plain h (between-raw s)
between-raw (json.escape e s) = short e (between-raw s)
between-raw (json.unit e f s) = unit e f (between-raw s)
between-raw (json.pair p q r t s) = pair p q r t (between-raw s)

-- ---- the tokens of a document

all_append : (xs ys : List Placed) → AreProperTokens xs → AreProperTokens ys → AreProperTokens (xs ++ ys)
all_append [] ys h k = k
all_append (x ∷ xs) ys h k = (h.0, all_append xs ys h.1 k)

mutual
  value_tokens : {bytes rest : List ℕ} {v : JsonValue} (place : Place) (d : IsValue bytes v rest) → AreProperTokens (tokens_of place d)
  value_tokens place json.null = (tt, tt)
  value_tokens place json.truth = (tt, tt)
  value_tokens place json.falsehood = (tt, tt)
  value_tokens place (json.number e n) = (number_tested n, tt)
  value_tokens place (json.string s) = (between-raw s, tt)
  value_tokens place (json.empty_array e) = (tt, (tt, tt))
  value_tokens place (json.array vs) = (tt, all_append (item_tokens vs) (placed_at place token.EndArray ∷ []) (items_tokens vs) (tt, tt))
  value_tokens place (json.empty_object e) = (tt, (tt, tt))
  value_tokens place (json.object vs) = (tt, all_append (pair_tokens vs) (placed_at place token.EndObject ∷ []) (pairs_tokens vs) (tt, tt))

  items_tokens : {bytes rest : List ℕ} {row : Values} (vs : AreJsonValues bytes row rest) → AreProperTokens (item_tokens vs)
  items_tokens (last_value v e) = value_tokens Item v
  items_tokens (more_values v e vs) = all_append (tokens_of Item v) (item_tokens vs) (value_tokens Item v) (items_tokens vs)

  pairs_tokens : {bytes rest : List ℕ} {row : Members} (vs : AreMembers bytes row rest) → AreProperTokens (pair_tokens vs)
  pairs_tokens (last_member k c v e) = (between-raw k, value_tokens Value v)
  pairs_tokens (more_members k c v e vs) = (between-raw k, all_append (tokens_of Value v) (pair_tokens vs) (value_tokens Value v) (pairs_tokens vs))

pub document-tokens : (bytes : List ℕ) (tokens : List Placed) → IsDocument bytes tokens → AreProperTokens tokens
document-tokens bytes tokens d = subst AreProperTokens (sym d.same) (value_tokens Alone d.denotes.is_value)

-- ---- the next piece

pub pieces_after-drop : (n : ℕ) (bytes : List ℕ) → pieces_after n bytes ≡ pieces (drop n bytes)
pieces_after-drop zero bytes = refl
pieces_after-drop (suc n) [] = refl
pieces_after-drop (suc n) (byte ∷ bytes) = pieces_after-drop n bytes

pub pieces-escape : (bytes : List ℕ) → pieces (92 ∷ bytes) ≡ escape (escape_after bytes).stands_for ∷ pieces (drop (escape_after bytes).follow bytes)
pieces-escape bytes = ap (λ x. escape (escape_after bytes).stands_for ∷ x) (pieces_after-drop (escape_after bytes).follow bytes)

-- nothing, or a backslash first
abbrev pub ends_run : List ℕ → Bool
ends_run [] = true
ends_run (byte ∷ _) = byte == 92

no_backslash : (byte : ℕ) (bytes : List ℕ) → is_no_backslash byte ≡ true → pieces (byte ∷ bytes) ≡ byte_before byte (pieces bytes)
no_backslash byte bytes h = let e : (byte == 92) ≡ false = grind (arith, nat_tests) in rw e refl

one_byte_run : (byte : ℕ) (bytes : List ℕ) → ends_run bytes ≡ true → byte_before byte (pieces bytes) ≡ run (byte ∷ []) ∷ pieces bytes
one_byte_run byte [] h = refl
one_byte_run byte (next ∷ bytes) h = let e : 92 ≡ next = grind (arith, nat_tests) in subst (λ n. byte_before byte (pieces (n ∷ bytes)) ≡ run (byte ∷ []) ∷ pieces (n ∷ bytes)) e refl

pub pieces-run : (byte : ℕ) (bytes more : List ℕ) → list_all is_no_backslash (byte ∷ bytes) ≡ true → ends_run more ≡ true → pieces ((byte ∷ bytes) ++ more) ≡ run (byte ∷ bytes) ∷ pieces more
pieces-run byte [] more h e = no_backslash byte more (and_parts (is_no_backslash byte) true h).0 ∙ one_byte_run byte more e
pieces-run byte (next ∷ bytes) more h e =
    let (a, b) = and_parts (is_no_backslash byte) (list_all is_no_backslash (next ∷ bytes)) h in
    no_backslash byte ((next ∷ bytes) ++ more) a ∙ ap (byte_before byte) (pieces-run next bytes more b e)

-- ---- what is left is raw

raw_plain : (byte : ℕ) (bytes : List ℕ) → is_no_backslash byte ≡ true → IsRaw (byte ∷ bytes) → IsRaw bytes
raw_plain byte bytes h (plain k r) = r
raw_plain byte bytes h (short e r) = cc h
raw_plain byte bytes h (unit e f r) = cc h
raw_plain byte bytes h (pair e f g k r) = cc h

pub raw-run : (bytes more : List ℕ) → list_all is_no_backslash bytes ≡ true → IsRaw (bytes ++ more) → IsRaw more
raw-run [] more h r = r
raw-run (byte ∷ bytes) more h r =
    let (a, b) = and_parts (is_no_backslash byte) (list_all is_no_backslash bytes) h in raw-run bytes more b (raw_plain byte (bytes ++ more) a r)

-- an escape stands for UTF-8, and is whole
pub record IsEscape (bytes : List ℕ) : Type 0 where
  pub within : (escape_after bytes).follow ≤ length bytes
  pub some : 0 < (escape_after bytes).follow
  pub utf8 : IsUtf8 (escape_after bytes).stands_for
  pub rest : IsRaw (drop (escape_after bytes).follow bytes)

short_is : (letter byte : ℕ) (bytes : List ℕ) → escaped_byte letter ≡ Some byte → IsRaw bytes → IsEscape (letter ∷ bytes)
short_is letter byte bytes e r =
    let f : escape_after (letter ∷ bytes) ≡ record { stands_for = byte ∷ []; follow = 1 } = rw e refl in record {
      within = rw f (omega arith);
      some = rw f (omega arith);
      utf8 = rw f (low_byte byte (escaped_low letter byte e));
      rest = rw f r;
    }

pub raw-escape : (bytes : List ℕ) → IsRaw (92 ∷ bytes) → IsEscape bytes
raw-escape bytes (plain h r) = cc h
raw-escape bytes (short {letter = letter} {byte = byte} {bytes = more} e r) = short_is letter byte more e r
raw-escape bytes (unit {a = a} {b = b} {c = c} {d = d} {u = u} {bytes = more} e f r) =
    let g = unit_after_is a b c d u more e f in record {
      within = rw g (omega arith);
      some = rw g (omega arith);
      utf8 = rw g (IsUtf8-encode u (unit_scalar u (are_hex a b c d u e).small f));
      rest = rw g r;
    }
raw-escape bytes (pair {a = a} {b = b} {c = c} {d = d} {e = e} {f = f} {g = g} {h = h} {high = high} {low = low} {bytes = more} p q r t s) =
    let x = pair_after_is a b c d e f g h high low more p q r in record {
      within = rw x (omega arith);
      some = rw x (omega arith);
      utf8 = rw x (IsUtf8-encode (pair_of high low) (pair_scalar high low q t));
      rest = rw x s;
    }
