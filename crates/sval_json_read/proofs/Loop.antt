-- What a loop over the bytes knows, from its first byte to its last.
use Rattle.std.specs.Prelude.{◌≡◌, ℕ, zero, suc, ◌+◌, ◌<◌, List, [], ◌∷◌, ◌++◌, length, take, drop, get_or, Option, Some, None, option_and_then, refl, IsUtf8}
use Rattle.std.specs.Option.{option_map_or}
use Rattle.std.proofs.Common.{sym, ap, subst, ◌∙◌, arith, take-suc, take-append-drop, drop-cons, length-take-le, append-nil}
use Rattle.sval_json_read.specs.Tokens.{Placed}
use Rattle.sval_json_read.specs.Documents.{IsDocument, IsBadJson}
use Rattle.sval_json_read.specs.Reader.{ReaderState, reader_start, reader_step, after_bytes, tokens_at_end, tokens_read, taken_from, bytes_taken}
use Rattle.sval_json_read.proofs.Documents.{read-document, refused-bad}

pub after-append : (xs ys : List ℕ) (state : ReaderState) → after_bytes state (xs ++ ys) ≡ option_and_then (λ next. after_bytes next ys) (after_bytes state xs)
after-append [] ys state = refl
after-append (byte ∷ xs) ys state = go (reader_step state byte) (λ next. after-append xs ys next)
  where
    go : (o : Option ReaderState) → ((next : ReaderState) → after_bytes next (xs ++ ys) ≡ option_and_then (λ next. after_bytes next ys) (after_bytes next xs))
        → option_and_then (λ next. after_bytes next (xs ++ ys)) o ≡ option_and_then (λ next. after_bytes next ys) (option_and_then (λ next. after_bytes next xs) o)
    go None f = refl
    go (Some next) f = f next

some_of : {x y : ReaderState} → (let o : Option ReaderState = Some x in o) ≡ Some y → x ≡ y
some_of e = cc e

one_more : (o : Option ReaderState) → option_and_then (λ next. Some next) o ≡ o
one_more None = refl
one_more (Some state) = refl

-- one byte more
pub after-byte : (bytes : List ℕ) (n : ℕ) (state : ReaderState) → n < length bytes → after_bytes reader_start (take n bytes) ≡ Some state
    → after_bytes reader_start (take (n + 1) bytes) ≡ reader_step state (get_or bytes n 0)
after-byte bytes n state l e =
    ap (λ m. after_bytes reader_start (take m bytes)) (let s : n + 1 ≡ suc n = omega arith in s)
    ∙ ap (after_bytes reader_start) (take-suc bytes n 0 l) ∙ after-append (take n bytes) (get_or bytes n 0 ∷ []) reader_start
    ∙ ap (option_and_then (λ next. after_bytes next (get_or bytes n 0 ∷ []))) e ∙ one_more (reader_step state (get_or bytes n 0))

-- what is taken where the bytes are, and where one is refused
taken_all : (xs ys : List ℕ) (state last : ReaderState) → after_bytes state xs ≡ Some last → taken_from state (xs ++ ys) ≡ length xs + taken_from last ys
taken_all [] ys state last e = ap (λ s. taken_from s ys) (some_of e) ∙ (let s : taken_from last ys ≡ 0 + taken_from last ys = omega arith in s)
taken_all (byte ∷ xs) ys state last e = go (reader_step state byte) e (λ next f. taken_all xs ys next last f)
  where
    go : (o : Option ReaderState) → option_and_then (λ next. after_bytes next xs) o ≡ Some last → ((next : ReaderState) → after_bytes next xs ≡ Some last → taken_from next (xs ++ ys) ≡ length xs + taken_from last ys)
        → option_map_or (λ next. suc (taken_from next (xs ++ ys))) o zero ≡ length (byte ∷ xs) + taken_from last ys
    go None e f = cc e
    go (Some next) e f = let h = f next e in omega (arith, h)

split_at : (bytes : List ℕ) (n : ℕ) → n < length bytes → take n bytes ++ (get_or bytes n 0 ∷ drop (suc n) bytes) ≡ bytes
split_at bytes n l = ap (λ x. take n bytes ++ x) (sym (drop-cons bytes n 0 l)) ∙ take-append-drop n bytes

refused_rest : (state : ReaderState) (byte : ℕ) (bytes : List ℕ) → reader_step state byte ≡ None → (after_bytes state (byte ∷ bytes) ≡ None) × (taken_from state (byte ∷ bytes) ≡ 0)
refused_rest state byte bytes e = (ap (option_and_then (λ next. after_bytes next bytes)) e, ap (λ o. option_map_or (λ next. suc (taken_from next bytes)) o zero) e)

-- the bytes in front of n are taken, and the one at n is refused
module _ (bytes : List ℕ) (n : ℕ) (state : ReaderState) (l : n < length bytes) (e : after_bytes reader_start (take n bytes) ≡ Some state) (r : reader_step state (get_or bytes n 0) ≡ None) where
  refused_read : tokens_read bytes ≡ None
  refused_read =
      ap tokens_read (sym (split_at bytes n l)) ∙ ap (option_and_then tokens_at_end) (after-append (take n bytes) (get_or bytes n 0 ∷ drop (suc n) bytes) reader_start
      ∙ ap (option_and_then (λ next. after_bytes next (get_or bytes n 0 ∷ drop (suc n) bytes))) e ∙ (refused_rest state (get_or bytes n 0) (drop (suc n) bytes) r).0)

  pub refused-taken : bytes_taken bytes ≡ n
  refused-taken =
      let t = taken_all (take n bytes) (get_or bytes n 0 ∷ drop (suc n) bytes) reader_start state e in
      let z = (refused_rest state (get_or bytes n 0) (drop (suc n) bytes) r).1 in
      let k = length-take-le n bytes (omega arith) in
      ap bytes_taken (sym (split_at bytes n l)) ∙ omega (arith, t, z, k)

  pub refused-at : IsUtf8 bytes → IsBadJson bytes n
  refused-at u = subst (IsBadJson bytes) refused-taken (refused-bad bytes u refused_read)

-- all bytes are taken
module _ (bytes : List ℕ) (state : ReaderState) (u : IsUtf8 bytes) (e : after_bytes reader_start bytes ≡ Some state) where
  ended_read : tokens_read bytes ≡ tokens_at_end state
  ended_read = ap (option_and_then tokens_at_end) e

  pub ended-taken : bytes_taken bytes ≡ length bytes
  ended-taken =
      let t = taken_all bytes [] reader_start state e in
      ap bytes_taken (sym (append-nil bytes)) ∙ omega (arith, t)

  pub ended-bad : tokens_at_end state ≡ None → IsBadJson bytes (length bytes)
  ended-bad k = subst (IsBadJson bytes) ended-taken (refused-bad bytes u (ended_read ∙ k))

  pub ended-document : (tokens : List Placed) → tokens_at_end state ≡ Some tokens → IsDocument bytes tokens
  ended-document tokens k = read-document bytes tokens u (ended_read ∙ k)
