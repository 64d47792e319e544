-- Numbers as byte strings, byte by byte and piece by piece.
use Rattle.std.specs.Prelude.{◌≡◌, ◌≢◌, ℕ, suc, ◌+◌, ◌*◌, ◌^◌, ◌<◌, ◌≤◌, List, [], ◌∷◌, ◌++◌, length, drop, get_or, refl}
use Rattle.std.specs.Int.Digits.{number_from_digits_after}
use Rattle.std.proofs.Common.{sym, ap, ◌∙◌, subst, arith, drop-cons, append_assoc, append-nil}
use Rattle.std.proofs.lemmas.List.{length-drop}
use Rattle.std.proofs.lemmas.Int.Digits.{number_after_append, number_after_ge}
use Rattle.sval_cbor_read.specs.declared.bignum.Bignum.{Bignum}
use Rattle.sval_cbor_read.specs.Items.{big_endian, IsDefiniteString, string, ArePieces, break, piece, IsByteString, definite, in_pieces}
use Rattle.sval_cbor_read.specs.SeenStrings.{IsStringAt, HasNoString}
use Rattle.sval_cbor_read.specs.SeenBignums.{IsNumberAt, HasNoNumber, ArePiecesAt, HasNoPieces}
use Rattle.sval_cbor_read.proofs.OneTree.{no_string_95, no_string_255, one_string}
use Rattle.sval_cbor_read.proofs.Strings.{no_head}

-- ---- byte by byte

-- the next byte of what is left
pub number_goes : (bytes : List ℕ) (i n : ℕ) → i < length bytes → number_from_digits_after 256 n (drop i bytes) ≡ number_from_digits_after 256 (n * 256 + get_or bytes i 0) (drop (i + 1) bytes)
number_goes bytes i n l =
    ap (number_from_digits_after 256 n) (drop-cons bytes i 0 l)
    ∙ ap (λ k. number_from_digits_after 256 (n * 256 + get_or bytes i 0) (drop k bytes)) (let e : suc i ≡ i + 1 = omega arith in e)

-- a byte more makes the number too large
pub number_grows : (bytes : List ℕ) (i n : ℕ) → i < length bytes → 2 ^ 120 ≤ n → 2 ^ 128 ≤ number_from_digits_after 256 n (drop i bytes)
number_grows bytes i n l h =
    let e = number_goes bytes i n l in
    let g = number_after_ge 256 (n * 256 + get_or bytes i 0) (drop (i + 1) bytes) (omega arith) in
    omega (arith, e, g)

-- ---- the bytes at a place

pub bytes_at : (bytes : List ℕ) (at : ℕ) → at < length bytes → drop at bytes ≡ get_or bytes at 0 ∷ drop (at + 1) bytes
bytes_at bytes at l = drop-cons bytes at 0 l ∙ ap (λ k. get_or bytes at 0 ∷ drop k bytes) (let e : suc at ≡ at + 1 = omega arith in e)

pub nothing_at : (bytes : List ℕ) (at : ℕ) → length bytes ≤ at → drop at bytes ≡ []
nothing_at bytes at l = go (drop at bytes) refl
  where
    go : (left : List ℕ) → drop at bytes ≡ left → drop at bytes ≡ []
    go [] e = e
    go (byte ∷ left) e = absurd (let m = ap length e in omega (arith, m, length-drop at bytes))

-- ---- piece by piece

pub no_pieces_left : {major : ℕ} {content rest : List ℕ} → ArePieces major [] content rest → ⊥
no_pieces_left (piece (string e l k) p) = no_head e

pieces_behind : {bytes content left more rest : List ℕ} → IsDefiniteString 2 bytes content left → ArePieces 2 bytes more rest → (last : List ℕ) × (more ≡ content ++ last) × ArePieces 2 left last rest
pieces_behind s break = absurd (no_string_255 s)
pieces_behind s (piece {more = last} t p) = let (same, behind) = one_string s t in (last, ap (λ x. x ++ last) (sym same), rw behind p)

pub no_first_piece : {major : ℕ} {bytes left content rest : List ℕ} {first : ℕ} → bytes ≡ first ∷ left → first ≢ 255 → HasNoString major bytes → ArePieces major bytes content rest → ⊥
no_first_piece e n h break = n (cc e)
no_first_piece e n h (piece s p) = h _ _ s

-- the pieces between two places are a number
pub record AreReadUpTo (bytes : List ℕ) (from at number : ℕ) : Type 0 where
  pub front : List ℕ
  pub value : number ≡ big_endian front
  pub small : number < 2 ^ 128
  pub joins : (content rest : List ℕ) → ArePieces 2 (drop at bytes) content rest → ArePieces 2 (drop from bytes) (front ++ content) rest
  pub parts : (content rest : List ℕ) → ArePieces 2 (drop from bytes) content rest → (more : List ℕ) × (content ≡ front ++ more) × ArePieces 2 (drop at bytes) more rest
  pub before : from ≤ at
  pub within : at ≤ length bytes

pub pieces_start : (bytes : List ℕ) (from : ℕ) → from ≤ length bytes → AreReadUpTo bytes from from 0
pieces_start bytes from l = record { front = []; value = refl; small = omega arith; joins = λ content rest p. p; parts = λ content rest p. (content, refl, p); before = omega arith; within = l }

module _ {bytes : List ℕ} {from at number : ℕ} (r : AreReadUpTo bytes from at number) where
  pub pieces_go_on : (content : List ℕ) (next whole : ℕ) → IsStringAt 2 bytes at content next → whole ≡ number_from_digits_after 256 number content → whole < 2 ^ 128 → AreReadUpTo bytes from next whole
  pieces_go_on content next whole s w m = record {
    front = r.front ++ content;
    value = w ∙ ap (λ n. number_from_digits_after 256 n content) r.value ∙ sym (number_after_append 256 0 r.front content);
    small = m;
    joins = λ more rest p. subst (λ x. ArePieces 2 (drop from bytes) x rest) (sym (append_assoc r.front content more)) (r.joins (content ++ more) rest (piece s.stands p));
    parts = λ all rest p.
        let (more, e, q) = r.parts all rest p in
        let (last, f, t) = pieces_behind s.stands q in
        (last, e ∙ ap (λ x. r.front ++ x) f ∙ sym (append_assoc r.front content last), t);
    before = let b = r.before in let l = s.later in omega arith;
    within = s.within;
  }

  pub pieces_end : at < length bytes → get_or bytes at 0 ≡ 255 → ArePiecesAt bytes from (record { number = number; next = at + 1 })
  pieces_end l e =
      let here : drop at bytes ≡ 255 ∷ drop (at + 1) bytes = bytes_at bytes at l ∙ ap (λ x. x ∷ drop (at + 1) bytes) e in
      let p : ArePieces 2 (drop at bytes) [] (drop (at + 1) bytes) = rw here break in
      record {
        content = r.front;
        stands = subst (λ x. ArePieces 2 (drop from bytes) x (drop (at + 1) bytes)) (append-nil r.front) (r.joins [] (drop (at + 1) bytes) p);
        value = r.value;
        small = r.small;
        later = let b = r.before in omega arith;
        within = omega arith;
      }

  pub pieces_lack : length bytes ≤ at → HasNoPieces (drop from bytes)
  pieces_lack l content rest p = let (more, e, q) = r.parts content rest p in absurd (no_pieces_left (subst (λ x. ArePieces 2 x more rest) (nothing_at bytes at l) q))

  pub pieces_stop : at < length bytes → get_or bytes at 0 ≢ 255 → HasNoString 2 (drop at bytes) → HasNoPieces (drop from bytes)
  pieces_stop l n h content rest p = let (more, e, q) = r.parts content rest p in absurd (no_first_piece (bytes_at bytes at l) n h q)

  pub pieces_too_large : (content : List ℕ) (next : ℕ) → IsStringAt 2 bytes at content next → 2 ^ 128 ≤ number_from_digits_after 256 number content → HasNoPieces (drop from bytes)
  pieces_too_large content next s large all rest p =
      let (more, e, q) = r.parts all rest p in
      let (last, f, t) = pieces_behind s.stands q in
      let whole : big_endian all ≡ number_from_digits_after 256 (number_from_digits_after 256 number content) last =
      ap big_endian (e ∙ ap (λ x. r.front ++ x) f) ∙ number_after_append 256 0 r.front (content ++ last) ∙ ap (λ n. number_from_digits_after 256 n (content ++ last)) (sym r.value)
      ∙ number_after_append 256 number content last in
      omega (arith, whole, large, number_after_ge 256 (number_from_digits_after 256 number content) last (omega arith))

-- ---- definite or in pieces

pub number_in_pieces : (bytes : List ℕ) (at : ℕ) (bignum : Bignum) → at < length bytes → get_or bytes at 0 ≡ 95 → ArePiecesAt bytes (at + 1) bignum → IsNumberAt bytes at bignum
number_in_pieces bytes at bignum l e p =
    let here : drop at bytes ≡ 95 ∷ drop (at + 1) bytes = bytes_at bytes at l ∙ ap (λ x. x ∷ drop (at + 1) bytes) e in
    record {
      content = p.content;
      stands = rw here (in_pieces p.stands);
      value = p.value;
      small = p.small;
      later = let k = p.later in omega arith;
      within = p.within;
    }

no_number_95 : {bytes content rest : List ℕ} → HasNoPieces bytes → IsByteString (95 ∷ bytes) content rest → 2 ^ 128 ≤ big_endian content
no_number_95 h (definite s) = absurd (no_string_95 s)
no_number_95 h (in_pieces p) = h _ _ p

pub no_number_in_pieces : (bytes : List ℕ) (at : ℕ) → at < length bytes → get_or bytes at 0 ≡ 95 → HasNoPieces (drop (at + 1) bytes) → HasNoNumber (drop at bytes)
no_number_in_pieces bytes at l e h content rest s =
    let here : drop at bytes ≡ 95 ∷ drop (at + 1) bytes = bytes_at bytes at l ∙ ap (λ x. x ∷ drop (at + 1) bytes) e in
    no_number_95 h (rw here at s)

pub number_stands : (bytes : List ℕ) (at : ℕ) (content : List ℕ) (number next : ℕ) → IsStringAt 2 bytes at content next → number ≡ number_from_digits_after 256 0 content → number < 2 ^ 128
    → IsNumberAt bytes at (record { number = number; next = next })
number_stands bytes at content number next s e m = record { content = content; stands = definite s.stands; value = e; small = m; later = s.later; within = s.within }

-- what begins with another byte than pieces do is definite
not_95 : {bytes content rest : List ℕ} → ((left : List ℕ) → bytes ≡ 95 ∷ left → ⊥) → IsByteString bytes content rest → IsDefiniteString 2 bytes content rest
not_95 n (definite s) = s
not_95 n (in_pieces {bytes = bytes} p) = absurd (n bytes refl)

-- the bytes at a place begin with no 95
pub not_pieces : (bytes : List ℕ) (at : ℕ) → (at < length bytes → get_or bytes at 0 ≢ 95) → (left : List ℕ) → drop at bytes ≡ 95 ∷ left → ⊥
not_pieces bytes at n left e =
    let m = ap length e in
    let l : at < length bytes = omega (arith, m, length-drop at bytes) in
    n l (let f = sym (bytes_at bytes at l) ∙ e in cc f)

pub no_definite_number : (bytes : List ℕ) (at : ℕ) → ((left : List ℕ) → drop at bytes ≡ 95 ∷ left → ⊥) → HasNoString 2 (drop at bytes) → HasNoNumber (drop at bytes)
no_definite_number bytes at n h content rest s = absurd (h content rest (not_95 n s))

pub definite_too_large : (bytes : List ℕ) (at : ℕ) (content : List ℕ) (next : ℕ) → ((left : List ℕ) → drop at bytes ≡ 95 ∷ left → ⊥) → IsStringAt 2 bytes at content next
    → 2 ^ 128 ≤ number_from_digits_after 256 0 content → HasNoNumber (drop at bytes)
definite_too_large bytes at content next n s large all rest t = let (same, behind) = one_string s.stands (not_95 n t) in omega (arith, large, ap big_endian same)

no_number_in_nothing : {bytes content rest : List ℕ} → bytes ≡ [] → IsByteString bytes content rest → ⊥
no_number_in_nothing e (definite (string f l k)) = no_head (rw e at f)
no_number_in_nothing e (in_pieces p) = cc e

pub no_number_left : (bytes : List ℕ) (at : ℕ) → length bytes ≤ at → HasNoNumber (drop at bytes)
no_number_left bytes at l content rest s = absurd (no_number_in_nothing (nothing_at bytes at l) s)
