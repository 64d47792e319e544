-- What stands at the place of a node, as the bytes that are read there again.
use Rattle.std.specs.Prelude.{◌≡◌, ◌≢◌, ℕ, ◌+◌, ◌^◌, ◌<◌, ◌≤◌, Bool, true, false, ◌&&◌, ◌==◌, nat_le, if◌then◌else◌, List, [], ◌∷◌, length, take, drop, get_or, Option, Some, None, IsTrue, IsUtf8, refl}
use Rattle.std.proofs.Common.{sym, ap, ◌∙◌, subst, arith}
use Rattle.std.proofs.lemmas.Bool.Decides.{nat_tests}
use Rattle.std.proofs.lemmas.List.{length-drop}
use Rattle.std.proofs.lemmas.Str.{IsUtf8-from_is_utf8}
use Rattle.sval_cbor_read.specs.declared.head.Head as made_head
use Rattle.sval_cbor_read.specs.declared.bignum.Bignum.{Bignum}
use Rattle.sval_cbor_read.specs.Items.{ItemHead, head, head_at_front, is_piece, big_endian, string, IsByteString, definite, in_pieces}
use Rattle.sval_cbor_read.specs.Reading.{Mark, BinaryPieces, TextPieces, SeqToBreak, MapToBreak, Falsehood, Truth, Null, Move, mark_of, first_step, item_step, head_step, string_step, string_calls, fragment_call, with_piece, moves, Ended}
use Rattle.sval_cbor_read.specs.SeenHeads.{IsHead}
use Rattle.sval_cbor_read.specs.SeenBignums.{IsNumberAt, HasNoNumber}
use Rattle.sval_cbor_read.specs.SeenNodes.{byte_string, step_calls, piece_calls, IsBignum}
use Rattle.sval_cbor_read.proofs.Bignums.{bytes_at}
use Rattle.sval_cbor_read.proofs.ByteStrings.{byte_string_is}
use Rattle.sval_cbor_read.proofs.Strings.{no_head}
use Rattle.sval_cbor_read.proofs.Sound as sound

no_call : {A : Type 0} → 0 < length (step_calls None) → A
no_call l = absurd (omega arith)

-- ---- marks

any_mark : (o : Option Mark) (all bytes : List ℕ) (begun : Option ItemHead) → o ≢ None → step_calls (first_step o bytes begun []) ≡ step_calls (first_step o all None [])
any_mark None all bytes begun n = absurd (n refl)
any_mark (Some BinaryPieces) all bytes begun n = refl
any_mark (Some TextPieces) all bytes begun n = refl
any_mark (Some SeqToBreak) all bytes begun n = refl
any_mark (Some MapToBreak) all bytes begun n = refl
any_mark (Some Falsehood) all bytes begun n = refl
any_mark (Some Truth) all bytes begun n = refl
any_mark (Some Null) all bytes begun n = refl

-- a byte that stands by itself makes the calls of the item there
pub mark_calls : (bytes : List ℕ) (at : ℕ) → at < length bytes → mark_of (get_or bytes at 0) ≢ None
    → step_calls (first_step (mark_of (get_or bytes at 0)) [] None []) ≡ step_calls (item_step (drop at bytes) [])
mark_calls bytes at l n =
    sym (ap (λ x. step_calls (item_step x [])) (bytes_at bytes at l) ∙ any_mark (mark_of (get_or bytes at 0)) [] (drop (at + 1) bytes) (head_at_front (get_or bytes at 0 ∷ drop (at + 1) bytes)) n)

-- ---- heads

-- the item of a head is its step
pub headed_step : (bytes : List ℕ) (at : ℕ) (o : Option ItemHead) → at < length bytes → mark_of (get_or bytes at 0) ≡ None → head_at_front (drop at bytes) ≡ o → item_step (drop at bytes) [] ≡ head_step o []
headed_step bytes at o l e h =
    let here = bytes_at bytes at l in
    ap (λ x. item_step x []) here ∙ ap (λ m. first_step m (drop (at + 1) bytes) (head_at_front (get_or bytes at 0 ∷ drop (at + 1) bytes)) []) e ∙ ap (λ x. head_step (head_at_front x) []) (sym here) ∙ ap (λ x. head_step x []) h

-- ---- strings

-- a definite string that makes a call fits, and is UTF-8 where it is a text
pub record IsWhole (major n : ℕ) (after : List ℕ) : Type 0 where
  pub within : n ≤ length after
  pub utf8 : IsTrue (is_piece major (take n after))

both : (a b : Bool) (o : Option Move) → 0 < length (step_calls (if a && b then o else None)) → (a ≡ true) × (b ≡ true)
both true true o l = (refl, refl)
both true false o l = no_call l
both false b o l = no_call l

pub whole_string : (major n : ℕ) (after : List ℕ) → 0 < length (step_calls (string_step major n after [])) → IsWhole major n after
whole_string major n after l =
    let (a, b) = both (nat_le n (length after)) (is_piece major (take n after)) (moves (string_calls major n (take n after)) (drop n after) (Ended [])) l in
    record { within = grind (arith, nat_tests); utf8 = b }

whole_calls : (major n : ℕ) (after : List ℕ) → IsWhole major n after → step_calls (string_step major n after []) ≡ string_calls major n (take n after)
whole_calls major n after w =
    let l = w.within in
    let a : nat_le n (length after) ≡ true = grind (arith, nat_tests) in
    rw (a, w.utf8) refl

pub string_calls_are : (major n : ℕ) (after content : List ℕ) → 0 < length (step_calls (string_step major n after [])) → content ≡ take n after → string_calls major n content ≡ step_calls (string_step major n after [])
string_calls_are major n after content l e = ap (string_calls major n) e ∙ sym (whole_calls major n after (whole_string major n after l))

-- a whole string behind a head ends within the bytes
pub ends_within : (major : ℕ) (bytes : List ℕ) (h : made_head.Head) → h.next ≤ length bytes → IsWhole major h.number (drop h.next bytes) → h.next + h.number ≤ length bytes
ends_within major bytes h l w = let f = w.within in omega (arith, length-drop h.next bytes)

-- ---- pieces

with_all : (a b c : Bool) (o : Option Move) → 0 < length (step_calls (if a && b && c then o else None)) → (a ≡ true) × (b ≡ true) × (c ≡ true)
with_all true true true o l = (refl, refl, refl)
with_all true true false o l = no_call l
with_all true false c o l = no_call l
with_all false b c o l = no_call l

module _ (major : ℕ) (bytes : List ℕ) (at : ℕ) where
  pub no_piece_head : 0 < length (piece_calls major (drop at bytes)) → head_at_front (drop at bytes) ≡ None → ⊥
  no_piece_head l e = no_call (subst (λ o. 0 < length (step_calls (with_piece major o (λ piece left. moves (fragment_call major piece ∷ []) left (Ended []))))) e l)

  piece_at : (h : made_head.Head) → 0 < length (piece_calls major (drop at bytes)) → IsHead bytes at h (head_at_front (drop at bytes))
      → 0 < length (step_calls (with_piece major (Some (head h.major h.number (drop h.next bytes))) (λ piece left. moves (fragment_call major piece ∷ []) left (Ended []))))
  piece_at h l is = subst (λ o. 0 < length (step_calls (with_piece major o (λ piece left. moves (fragment_call major piece ∷ []) left (Ended []))))) is.0 l

  pub whole_piece : (h : made_head.Head) → 0 < length (piece_calls major (drop at bytes)) → IsHead bytes at h (head_at_front (drop at bytes)) → IsWhole major h.number (drop h.next bytes)
  whole_piece h l is =
      let after = drop h.next bytes in
      let (a, b, c) = with_all (h.major == major) (nat_le h.number (length after)) (is_piece major (take h.number after)) (moves (fragment_call major (take h.number after) ∷ []) (drop h.number after) (Ended [])) (piece_at h l is) in
      record { within = grind (arith, nat_tests); utf8 = c }

  pub piece_calls_are : (h : made_head.Head) (content : List ℕ) → 0 < length (piece_calls major (drop at bytes)) → IsHead bytes at h (head_at_front (drop at bytes)) → content ≡ take h.number (drop h.next bytes)
      → fragment_call major content ∷ [] ≡ piece_calls major (drop at bytes)
  piece_calls_are h content l is e =
      let after = drop h.next bytes in
      let (a, b, c) = with_all (h.major == major) (nat_le h.number (length after)) (is_piece major (take h.number after)) (moves (fragment_call major (take h.number after) ∷ []) (drop h.number after) (Ended [])) (piece_at h l is) in
      let go : step_calls (with_piece major (Some (head h.major h.number after)) (λ piece left. moves (fragment_call major piece ∷ []) left (Ended []))) ≡ fragment_call major (take h.number after) ∷ [] = rw (a, b, c) refl in
      ap (λ x. fragment_call major x ∷ []) e ∙ sym go ∙ ap (λ o. step_calls (with_piece major o (λ piece left. moves (fragment_call major piece ∷ []) left (Ended [])))) (sym is.0)

-- ---- numbers as byte strings

number_some : (tag : ℕ) (left : List ℕ) → IsBignum tag left → 0 < length left
number_some tag [] b = string_some b.stands refl
  where
    string_some : {bytes content rest : List ℕ} → IsByteString bytes content rest → bytes ≡ [] → 0 < length (let none : List ℕ = [] in none)
    string_some (definite (string {number = n} {after = after} e l u)) f = absurd (no_head (subst (λ x. head_at_front x ≡ Some (head 2 n after)) f e))
    string_some (in_pieces p) f = cc f
number_some tag (first ∷ left) b = omega arith

pub number_within : (tag : ℕ) (bytes : List ℕ) (at : ℕ) → IsBignum tag (drop at bytes) → at < length bytes
number_within tag bytes at b = let some = number_some tag (drop at bytes) b in omega (arith, some, length-drop at bytes)

piece_some : (major : ℕ) (left : List ℕ) → 0 < length (piece_calls major left) → 0 < length left
unfolding head_at_front
piece_some major [] l = no_call l
piece_some major (first ∷ left) l = omega arith

pub piece_within : (major : ℕ) (bytes : List ℕ) (at : ℕ) → 0 < length (piece_calls major (drop at bytes)) → at < length bytes
piece_within major bytes at l = let some = piece_some major (drop at bytes) l in omega (arith, some, length-drop at bytes)

-- the number that is read again is that of the byte string
pub number_again : (bytes : List ℕ) (at : ℕ) (bignum : Bignum) → IsNumberAt bytes at bignum → bignum.number ≡ big_endian (byte_string (drop at bytes))
number_again bytes at bignum n = n.value ∙ ap big_endian (sym (byte_string_is n.stands))

pub number_there_2 : (bytes : List ℕ) (at : ℕ) {A : Type 0} → IsBignum 2 (drop at bytes) → HasNoNumber (drop at bytes) → A
number_there_2 bytes at b h = let large = h b.content b.rest b.stands in let small = sound.fits_2 b.content b.small in absurd (omega arith)

pub number_there_3 : (bytes : List ℕ) (at : ℕ) {A : Type 0} → IsBignum 3 (drop at bytes) → HasNoNumber (drop at bytes) → A
number_there_3 bytes at b h = let large = h b.content b.rest b.stands in let small = sound.fits_3 b.content b.small in absurd (omega arith)

pub number_small : (bytes : List ℕ) (at : ℕ) (bignum : Bignum) → IsBignum 3 (drop at bytes) → IsNumberAt bytes at bignum → bignum.number < 2 ^ 127
number_small bytes at bignum b n =
    let same : big_endian b.content ≡ bignum.number = ap big_endian (sym (byte_string_is b.stands)) ∙ sym (number_again bytes at bignum n) in
    let small = sound.fits_3 b.content b.small in
    omega arith

pub utf8_content : (n : ℕ) (after content : List ℕ) → IsWhole 3 n after → content ≡ take n after → IsUtf8 content
utf8_content n after content w e = subst IsUtf8 (sym e) (IsUtf8-from_is_utf8 (take n after) w.utf8)
