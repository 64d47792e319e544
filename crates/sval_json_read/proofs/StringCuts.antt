-- Where a string is cut into its pieces.
use Rattle.std.specs.Prelude.{◌≡◌, ℕ, zero, suc, ◌+◌, ◌-◌, ◌<◌, ◌≤◌, Bool, true, false, not, ◌==◌, List, [], ◌∷◌, ◌++◌, length, take, drop, get_or, Option, Some, None, is_some, refl, IsUtf8, IsCharBoundary}
use Rattle.std.specs.List.{list_all}
use Rattle.std.specs.Char.{encode_utf8}
use Rattle.std.proofs.Common.{sym, ap, subst, ◌∙◌, arith, take-append-drop, drop-cons, length-drop, length-take-le, append-nil, take_all}
use Rattle.std.proofs.lemmas.Bool.{and_from}
use Rattle.std.proofs.lemmas.Bool.Decides.{nat_tests}
use Rattle.std.proofs.lemmas.Str.{IsCharBoundary-after_ascii}
use Rattle.memchr.specs.Find.{IsFirstByte, Nowhere, Passes, is_byte}
use Rattle.sval_json_read.specs.RawStrings.{IsRaw, plain, short, unit, pair, is_no_backslash}
use Rattle.sval_json_read.specs.Calls.{run, escape, escape_after, pieces}
use Rattle.sval_json_read.proofs.RawStrings.{ends_run, pieces-run, pieces-escape, raw-run, raw-escape}
use Rattle.sval_json_read.proofs.PieceTexts.{unit_after_is, pair_after_is}
use Rattle.sval_json_read.proofs.Utf8Texts.{letter_low, are_hex}

not_backslash : (byte : ℕ) → ((byte == 92) ≡ true → ⊥) → is_no_backslash byte ≡ true
not_backslash byte f = go (byte == 92) refl
  where
    go : (b : Bool) → (byte == 92) ≡ b → not b ≡ true
    go true e = absurd (f e)
    go false e = refl

-- no backslash stands in front of the first one
pub no_backslashes : (raw : List ℕ) (n : ℕ) → Nowhere (Passes (is_byte 92) raw) 0 n → list_all is_no_backslash (take n raw) ≡ true
no_backslashes raw zero h = refl
no_backslashes [] (suc n) h = refl
no_backslashes (byte ∷ raw) (suc n) h =
    and_from (is_no_backslash byte) (list_all is_no_backslash (take n raw)) (not_backslash byte (λ e. h 0 (omega arith) (omega arith) e))
    (no_backslashes raw n (λ k l m e. h (suc k) (omega arith) (omega arith) e))

nonempty_run : (bytes more : List ℕ) → 0 < length bytes → list_all is_no_backslash bytes ≡ true → ends_run more ≡ true → pieces (bytes ++ more) ≡ run bytes ∷ pieces more
nonempty_run [] more l h e = absurd (omega arith)
nonempty_run (byte ∷ bytes) more l h e = pieces-run byte bytes more h e

-- the run in front of a backslash, or the whole string
pub first_run : (raw : List ℕ) (n : ℕ) → 0 < n → n ≤ length raw → list_all is_no_backslash (take n raw) ≡ true → ends_run (drop n raw) ≡ true → pieces raw ≡ run (take n raw) ∷ pieces (drop n raw)
first_run raw n l m h e =
    ap pieces (sym (take-append-drop n raw)) ∙ nonempty_run (take n raw) (drop n raw) (let k = length-take-le n raw m in omega (arith, k)) h e

pub whole_run : (raw : List ℕ) → 0 < length raw → Nowhere (Passes (is_byte 92) raw) 0 (length raw) → pieces raw ≡ run raw ∷ []
whole_run raw l h =
    ap pieces (sym (append-nil raw))
    ∙ nonempty_run raw [] l (subst (λ x. list_all is_no_backslash x ≡ true) (take_all (length raw) raw (omega arith)) (no_backslashes raw (length raw) h)) refl

-- a string in which no backslash was found is one run
pub one_run : (raw : List ℕ) (found : Option ℕ) → 0 < length raw → IsFirstByte (is_byte 92) raw found → is_some found ≡ false → pieces raw ≡ run raw ∷ []
one_run raw None some first none = whole_run raw some first
one_run raw (Some place) some first none = absurd (cc none)

pub run_ends : (raw : List ℕ) (n : ℕ) → n < length raw → get_or raw n 0 ≡ 92 → ends_run (drop n raw) ≡ true
run_ends raw n l e = ap ends_run (drop-cons raw n 0 l) ∙ (let t : (get_or raw n 0 == 92) ≡ true = grind (arith, nat_tests) in t)

pub rest_is_raw : (raw : List ℕ) (n : ℕ) → list_all is_no_backslash (take n raw) ≡ true → IsRaw raw → IsRaw (drop n raw)
rest_is_raw raw n h r = raw-run (take n raw) (drop n raw) h (subst IsRaw (sym (take-append-drop n raw)) r)

-- ---- an escape

pub begins_escape : (raw : List ℕ) → 0 < length raw → get_or raw 0 0 ≡ 92 → raw ≡ 92 ∷ drop 1 raw
begins_escape [] l e = absurd (omega arith)
begins_escape (byte ∷ raw) l e = ap (λ b. b ∷ raw) e

last_low : (bytes : List ℕ) → IsRaw (92 ∷ bytes) → get_or (92 ∷ bytes) (escape_after bytes).follow 0 < 128
last_low bytes (plain h r) = absurd (cc h)
last_low bytes (short {letter = letter} {byte = byte} {bytes = more} e r) =
    let f : escape_after (letter ∷ more) ≡ record { stands_for = byte ∷ []; follow = 1 } = rw e refl in rw f (letter_low letter byte e)
last_low bytes (unit {a = a} {b = b} {c = c} {d = d} {u = u} {bytes = more} e f r) = rw (unit_after_is a b c d u more e f) (are_hex a b c d u e).fourth
last_low bytes (pair {a = a} {b = b} {c = c} {d = d} {e = e} {f = f} {g = g} {h = h} {high = high} {low = low} {bytes = more} p q r t s) =
    rw (pair_after_is a b c d e f g h high low more p q r) (are_hex e f g h low r).fourth

-- what follows an escape: where it is cut, and what it is
pub record IsBehindEscape (raw : List ℕ) (follow : ℕ) : Type 0 where
  pub within : 1 + follow ≤ length raw
  pub boundary : IsCharBoundary raw (1 + follow)
  pub is_raw : IsRaw (drop (1 + follow) raw)

behind_backslash : (bytes : List ℕ) → IsUtf8 (92 ∷ bytes) → IsRaw (92 ∷ bytes) → IsBehindEscape (92 ∷ bytes) (escape_after bytes).follow
behind_backslash bytes u r =
    let e = raw-escape bytes r in
    let w = e.within in
    let boundary = IsCharBoundary-after_ascii (92 ∷ bytes) (escape_after bytes).follow u (omega (arith, w)) (last_low bytes r) in
    record {
      within = omega (arith, w);
      boundary = subst (IsCharBoundary (92 ∷ bytes)) (let c : (escape_after bytes).follow + 1 ≡ 1 + (escape_after bytes).follow = omega arith in c) boundary;
      is_raw = subst (λ n. IsRaw (drop n (92 ∷ bytes))) (let c : suc (escape_after bytes).follow ≡ 1 + (escape_after bytes).follow = omega arith in c) e.rest;
    }

pub behind_escape : (raw : List ℕ) → 0 < length raw → get_or raw 0 0 ≡ 92 → IsUtf8 raw → IsRaw raw → IsBehindEscape raw (escape_after (drop 1 raw)).follow
behind_escape raw l e u r =
    let b = begins_escape raw l e in
    subst (λ x. IsBehindEscape x (escape_after (drop 1 raw)).follow) (sym b) (behind_backslash (drop 1 raw) (subst IsUtf8 b u) (subst IsRaw b r))

pub first_escape : (raw : List ℕ) → 0 < length raw → get_or raw 0 0 ≡ 92
    → pieces raw ≡ escape (escape_after (drop 1 raw)).stands_for ∷ pieces (drop (1 + (escape_after (drop 1 raw)).follow) raw)
first_escape raw l e =
    let b = begins_escape raw l e in
    let f = (escape_after (drop 1 raw)).follow in
    let c : drop f (drop 1 raw) ≡ drop (1 + f) (92 ∷ drop 1 raw) = ap (λ n. drop n (92 ∷ drop 1 raw)) (let s : suc f ≡ 1 + f = omega arith in s) in
    ap pieces b ∙ pieces-escape (drop 1 raw) ∙ ap (λ x. escape (escape_after (drop 1 raw)).stands_for ∷ pieces x) (c ∙ ap (drop (1 + f)) (sym b))

-- ---- an escape of which the bytes behind the backslash were decoded

behind_first : (raw bytes : List ℕ) → bytes ≡ raw → take (length bytes - 1) (drop 1 bytes) ≡ drop 1 raw
behind_first raw bytes same = take_all (length bytes - 1) (drop 1 bytes) (let l = length-drop 1 bytes in omega (arith, l)) ∙ ap (drop 1) same

module _ (raw bytes : List ℕ) (l : 0 < length raw) (e : get_or raw 0 0 ≡ 92) (same : bytes ≡ raw) (character follow : ℕ)
    (s : encode_utf8 character ≡ (escape_after (take (length bytes - 1) (drop 1 bytes))).stands_for)
    (f : follow ≡ (escape_after (take (length bytes - 1) (drop 1 bytes))).follow) where
  stands : (escape_after (drop 1 raw)).stands_for ≡ encode_utf8 character
  stands = sym (s ∙ ap (λ x. (escape_after x).stands_for) (behind_first raw bytes same))

  follows : (escape_after (drop 1 raw)).follow ≡ follow
  follows = sym (f ∙ ap (λ x. (escape_after x).follow) (behind_first raw bytes same))

  pub decoded_piece : pieces raw ≡ escape (encode_utf8 character) ∷ pieces (drop (1 + follow) raw)
  decoded_piece =
      first_escape raw l e ∙ ap (λ x. escape x ∷ pieces (drop (1 + (escape_after (drop 1 raw)).follow) raw)) stands
      ∙ ap (λ n. escape (encode_utf8 character) ∷ pieces (drop (1 + n) raw)) follows

  pub behind_decoded : IsUtf8 raw → IsRaw raw → IsBehindEscape raw follow
  behind_decoded u r = subst (IsBehindEscape raw) follows (behind_escape raw l e u r)
