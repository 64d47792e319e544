-- What a well-formed item begins with is known by its head or its first byte.
use Rattle.std.specs.Prelude.{◌≡◌, ◌≢◌, ℕ, ◌+◌, ◌<◌, ◌≤◌, ◌⊎◌, List, [], ◌∷◌, length, drop, get_or, Some, None, refl}
use Rattle.std.proofs.Common.{sym, ap, ◌∙◌, subst, arith, inl, inr}
use Rattle.std.proofs.lemmas.List.{length-drop, drop-drop}
use Rattle.sval_cbor_read.specs.declared.head.Head.{Head}
use Rattle.sval_cbor_read.specs.declared.stack.Frame.TheVariants as frame
use Rattle.sval_cbor_read.specs.declared.well_formed.Front.TheVariants as front
use Rattle.sval_cbor_read.specs.Items.{head, head_at_front}
use Rattle.sval_cbor_read.specs.HeadFronts as fronts
use Rattle.sval_cbor_read.specs.SeenHeads.{IsHead}
use Rattle.sval_cbor_read.specs.SeenStrings.{IsBehind}
use Rattle.sval_cbor_read.specs.SeenWellFormed.{SameRests, HasNoRest, IsFurther, EndsAt, BeginsChunksOf, FrontIs}
use Rattle.sval_cbor_read.specs.WellFormed.{IsStringOf, string_bytes, AreChunksOf, chunks_break, chunk_before, IsWellFormed, headed, simple_or_float, byte_chunks, text_chunks, array_to_break, IsContent, unsigned_integer, negative_integer, byte_string, text_string, array_of, map_of, tagged_item, HasItems, HasPairs, HoldsItems, holds_here, holds_under_tag}
use Rattle.sval_cbor_read.specs.WellFormed as well
use Rattle.sval_cbor_read.proofs.Bignums.{bytes_at, nothing_at}
use Rattle.sval_cbor_read.proofs.OneTree.{no_head_95, no_head_127, no_head_159, no_head_191, same_heads}
use Rattle.sval_cbor_read.proofs.ReadStrings.{same_head}
use Rattle.sval_cbor_read.proofs.Strings.{no_head}
use Rattle.sval_cbor_read.proofs.WellFormed.{simple_content, moved_content, one_string_rest, no_string_begins_255, moved_chunks}

-- a head that the code has read
abbrev IsHeadAt : List ℕ → ℕ → Head → Type 0
IsHeadAt bytes at h = (at < h.next) × IsHead bytes at h (head_at_front (drop at bytes))

further : (bytes : List ℕ) (at : ℕ) (h : Head) → IsHeadAt bytes at h → IsFurther bytes at h.next
further bytes at h (later, (is, before, within)) = record { later = later; within = within }

head_by : (bytes : List ℕ) (at : ℕ) (h : Head) (major : ℕ) → IsHeadAt bytes at h → h.major ≡ major → head_at_front (drop at bytes) ≡ Some (head major h.number (drop h.next bytes))
head_by bytes at h major (later, (is, before, within)) m = subst (λ x. head_at_front (drop at bytes) ≡ Some (head x h.number (drop h.next bytes))) m is

-- ---- definite strings

pub string_ends : (major : ℕ) (bytes : List ℕ) (at : ℕ) (h : Head) (content : List ℕ) (next : ℕ) → IsHeadAt bytes at h → h.major ≡ major → IsBehind bytes h content next
    → EndsAt (IsStringOf major) bytes at (Some next)
string_ends major bytes at h content next i m b =
    let after = drop h.next bytes in
    let fits : h.number ≤ length after = let n = b.next_is in let w = b.within in omega (arith, length-drop h.next bytes) in
    let rest : drop h.number after ≡ drop next bytes = drop-drop h.number h.next bytes ∙ ap (λ n. drop n bytes) (sym b.next_is) in
    let l = i.0 in (
      subst (IsStringOf major (drop at bytes)) rest (string_bytes (head_by bytes at h major i m) fits),
      record { later = let n = b.next_is in omega arith; within = b.within },
    )

pub string_lacks : (major : ℕ) (bytes : List ℕ) (at : ℕ) (h : Head) → IsHeadAt bytes at h → length bytes < h.next + h.number → HasNoRest (IsStringOf major (drop at bytes))
string_lacks major bytes at h (later, (is, before, within)) l rest (string_bytes {number = n} {after = after} e k) =
    let (m, number, same) = same_head is e in
    let fits : h.number ≤ length (drop h.next bytes) = rw (number, same) k in
    omega (arith, length-drop h.next bytes)

-- ---- chunks

-- the chunks between two places are passed over
pub record ChunksPass (major : ℕ) (bytes : List ℕ) (from at : ℕ) : Type 0 where
  pub same : SameRests (AreChunksOf major (drop from bytes)) (AreChunksOf major (drop at bytes))
  pub before : from ≤ at
  pub within : at ≤ length bytes

chunks_behind : {major : ℕ} {bytes after rest : List ℕ} → IsStringOf major bytes after → AreChunksOf major bytes rest → AreChunksOf major after rest
chunks_behind s chunks_break = absurd (no_string_begins_255 s)
chunks_behind s (chunk_before t p) = moved_chunks (one_string_rest s t) p

no_first_chunk : {major : ℕ} {bytes left rest : List ℕ} {first : ℕ} → bytes ≡ first ∷ left → first ≢ 255 → HasNoRest (IsStringOf major bytes) → AreChunksOf major bytes rest → ⊥
no_first_chunk e n h chunks_break = n (cc e)
no_first_chunk e n h (chunk_before s p) = h _ s

no_chunks_of_nothing : {major : ℕ} {rest : List ℕ} → AreChunksOf major [] rest → ⊥
no_chunks_of_nothing (chunk_before (string_bytes e h) p) = no_head e

chunk_rests : {major : ℕ} {bytes left rest : List ℕ} → bytes ≡ 255 ∷ left → left ≡ rest → AreChunksOf major bytes rest
chunk_rests e f = rw (e, f) chunks_break

module _ {major : ℕ} {bytes : List ℕ} {from at : ℕ} (r : ChunksPass major bytes from at) where
  pub one_chunk_passes : (next : ℕ) → EndsAt (IsStringOf major) bytes at (Some next) → ChunksPass major bytes from next
  one_chunk_passes next (s, further) = record {
    same = record { there = λ rest p. chunks_behind s (r.same.there rest p); back = λ rest p. r.same.back rest (chunk_before s p) };
    before = let b = r.before in let l = further.later in omega arith;
    within = further.within;
  }

  pub chunks_end_here : at < length bytes → get_or bytes at 0 ≡ 255 → EndsAt (AreChunksOf major) bytes from (Some (at + 1))
  chunks_end_here l e =
      let here : drop at bytes ≡ 255 ∷ drop (at + 1) bytes = bytes_at bytes at l ∙ ap (λ x. x ∷ drop (at + 1) bytes) e in
      (r.same.back (drop (at + 1) bytes) (chunk_rests here refl), record { later = let b = r.before in omega arith; within = omega arith })

  pub no_chunk_passes : at < length bytes → get_or bytes at 0 ≢ 255 → HasNoRest (IsStringOf major (drop at bytes)) → HasNoRest (AreChunksOf major (drop from bytes))
  no_chunk_passes l n h rest p = no_first_chunk (bytes_at bytes at l) n h (r.same.there rest p)

  pub chunks_lack : length bytes ≤ at → HasNoRest (AreChunksOf major (drop from bytes))
  chunks_lack l rest p =
      let q : AreChunksOf major [] rest = subst (λ x. AreChunksOf major x rest) (nothing_at bytes at l) (r.same.there rest p) in
      no_chunks_of_nothing q

-- ---- what follows a head

content_of : {bytes after rest : List ℕ} {major n : ℕ} → head_at_front bytes ≡ Some (head major n after) → major ≢ 7 → IsWellFormed bytes rest → IsContent major n after rest
content_of e s (headed f c) = moved_content (same_heads e f) c
content_of e s (simple_or_float f t) = absurd (s (sym (same_heads e f).0))
content_of e s (byte_chunks p) = absurd (no_head_95 _ e)
content_of e s (text_chunks p) = absurd (no_head_127 _ e)
content_of e s (array_to_break p) = absurd (no_head_159 _ e)
content_of e s (well.map_to_break p) = absurd (no_head_191 _ e)

moved_bound : {first m n : ℕ} → m ≡ n → (first ≡ 0xf8 → 32 ≤ m) → first ≡ 0xf8 → 32 ≤ n
moved_bound e s f = let k = s f in omega arith

pub simple_value_of : {first n : ℕ} {bytes after rest : List ℕ} → head_at_front (first ∷ bytes) ≡ Some (head 7 n after) → IsWellFormed (first ∷ bytes) rest → first ≡ 0xf8 → 32 ≤ n
simple_value_of e (headed f c) = absurd (simple_content e f c)
simple_value_of e (simple_or_float f s) = moved_bound (same_heads e f).1 s
simple_value_of e (byte_chunks p) = absurd (no_head_95 _ e)
simple_value_of e (text_chunks p) = absurd (no_head_127 _ e)
simple_value_of e (array_to_break p) = absurd (no_head_159 _ e)
simple_value_of e (well.map_to_break p) = absurd (no_head_191 _ e)

content_major : {major n : ℕ} {after rest : List ℕ} → IsContent major n after rest → major ≤ 7
content_major unsigned_integer = omega arith
content_major negative_integer = omega arith
content_major (byte_string h) = omega arith
content_major (text_string h) = omega arith
content_major (array_of p) = omega arith
content_major (map_of p) = omega arith
content_major (tagged_item p) = omega arith

string_by_2 : {n : ℕ} {bytes after rest : List ℕ} → head_at_front bytes ≡ Some (head 2 n after) → IsContent 2 n after rest → IsStringOf 2 bytes rest
string_by_2 e (byte_string h) = string_bytes e h

string_by_3 : {n : ℕ} {bytes after rest : List ℕ} → head_at_front bytes ≡ Some (head 3 n after) → IsContent 3 n after rest → IsStringOf 3 bytes rest
string_by_3 e (text_string h) = string_bytes e h

items_by : {n : ℕ} {after rest : List ℕ} → IsContent 4 n after rest → HasItems (Some n) after rest
items_by (array_of p) = p

pairs_by : {n : ℕ} {after rest : List ℕ} → IsContent 5 n after rest → HasPairs (Some n) after rest
pairs_by (map_of p) = p

item_by : {n : ℕ} {after rest : List ℕ} → IsContent 6 n after rest → IsWellFormed after rest
item_by (tagged_item p) = p

well_by_string : {major : ℕ} {bytes rest : List ℕ} → (major ≡ 2) ⊎ (major ≡ 3) → IsStringOf major bytes rest → IsWellFormed bytes rest
well_by_string (inl m) (string_bytes e h) = headed e (rw m (byte_string h))
well_by_string (inr m) (string_bytes e h) = headed e (rw m (text_string h))

-- ---- by the head

pub string_is_front : (bytes : List ℕ) (at : ℕ) (h : Head) (next : ℕ) → (h.major ≡ 2) ⊎ (h.major ≡ 3) → EndsAt (IsStringOf h.major) bytes at (Some next) → FrontIs bytes at (Some (front.Whole next))
string_is_front bytes at h next k (s, l) = (well_by_string k s, l)

pub string_is_none : (bytes : List ℕ) (at : ℕ) (h : Head) → IsHead bytes at h (head_at_front (drop at bytes)) → (h.major ≡ 2) ⊎ (h.major ≡ 3) → HasNoRest (IsStringOf h.major (drop at bytes))
    → FrontIs bytes at None
string_is_none bytes at h (is, before, within) (inl m) n rest w =
    let e : head_at_front (drop at bytes) ≡ Some (head 2 h.number (drop h.next bytes)) = subst (λ x. head_at_front (drop at bytes) ≡ Some (head x h.number (drop h.next bytes))) m is in
    n rest (rw m (string_by_2 e (content_of e (λ f. omega arith) w)))
string_is_none bytes at h (is, before, within) (inr m) n rest w =
    let e : head_at_front (drop at bytes) ≡ Some (head 3 h.number (drop h.next bytes)) = subst (λ x. head_at_front (drop at bytes) ≡ Some (head x h.number (drop h.next bytes))) m is in
    n rest (rw m (string_by_3 e (content_of e (λ f. omega arith) w)))

-- the first byte is there
first_of : (bytes : List ℕ) (at : ℕ) (h : Head) → at < length bytes → IsHeadAt bytes at h → h.major ≡ 7 → head_at_front (get_or bytes at 0 ∷ drop (at + 1) bytes) ≡ Some (head 7 h.number (drop h.next bytes))
first_of bytes at h l i m = subst (λ x. head_at_front x ≡ Some (head 7 h.number (drop h.next bytes))) (bytes_at bytes at l) (head_by bytes at h 7 i m)

pub simple_is_front : (bytes : List ℕ) (at : ℕ) (h : Head) → at < length bytes → IsHeadAt bytes at h → h.major ≡ 7 → (get_or bytes at 0 ≡ 0xf8 → 32 ≤ h.number) → FrontIs bytes at (Some (front.Whole h.next))
simple_is_front bytes at h l i m s =
    (subst (λ x. IsWellFormed x (drop h.next bytes)) (sym (bytes_at bytes at l)) (simple_or_float (first_of bytes at h l i m) s), further bytes at h i)

pub simple_is_none : (bytes : List ℕ) (at : ℕ) (h : Head) → at < length bytes → IsHeadAt bytes at h → h.major ≡ 7 → get_or bytes at 0 ≡ 0xf8 → h.number < 32 → FrontIs bytes at None
simple_is_none bytes at h l i m f n rest w =
    let v : IsWellFormed (get_or bytes at 0 ∷ drop (at + 1) bytes) rest = subst (λ x. IsWellFormed x rest) (bytes_at bytes at l) w in
    let k = simple_value_of (first_of bytes at h l i m) v f in omega arith

pub unsigned_is_front : (bytes : List ℕ) (at : ℕ) (h : Head) → IsHeadAt bytes at h → h.major ≡ 0 → FrontIs bytes at (Some (front.Whole h.next))
unsigned_is_front bytes at h i m = (headed (head_by bytes at h 0 i m) unsigned_integer, further bytes at h i)

pub negative_is_front : (bytes : List ℕ) (at : ℕ) (h : Head) → IsHeadAt bytes at h → h.major ≡ 1 → FrontIs bytes at (Some (front.Whole h.next))
negative_is_front bytes at h i m = (headed (head_by bytes at h 1 i m) negative_integer, further bytes at h i)

pub array_is_front : (bytes : List ℕ) (at : ℕ) (h : Head) → IsHeadAt bytes at h → h.major ≡ 4 → FrontIs bytes at (Some (front.Opens (frame.Items (Some h.number)) h.next))
array_is_front bytes at h i m =
    let e = head_by bytes at h 4 i m in (
      record { there = λ rest w. items_by (content_of e (λ f. omega arith) w); back = λ rest p. headed e (array_of p) },
      further bytes at h i,
      holds_here (fronts.array e),
    )

pub map_is_front : (bytes : List ℕ) (at : ℕ) (h : Head) → IsHeadAt bytes at h → h.major ≡ 5 → FrontIs bytes at (Some (front.Opens (frame.Keys (Some h.number)) h.next))
map_is_front bytes at h i m =
    let e = head_by bytes at h 5 i m in (
      record { there = λ rest w. pairs_by (content_of e (λ f. omega arith) w); back = λ rest p. headed e (map_of p) },
      further bytes at h i,
      holds_here (fronts.map e),
    )

pub tag_is_front : (bytes : List ℕ) (at : ℕ) (h : Head) → IsHeadAt bytes at h → h.major ≡ 6 → FrontIs bytes at (Some (front.Tag h.next))
tag_is_front bytes at h i m =
    let e = head_by bytes at h 6 i m in (
      record { there = λ rest w. item_by (content_of e (λ f. omega arith) w); back = λ rest p. headed e (tagged_item p) },
      further bytes at h i,
      λ p. holds_under_tag e p,
    )

-- major types have three bits
pub no_major_is_front : (bytes : List ℕ) (at : ℕ) (h : Head) → IsHeadAt bytes at h → 7 < h.major → FrontIs bytes at None
no_major_is_front bytes at h i m rest w =
    let e = head_by bytes at h h.major i refl in
    let k = content_major (content_of e (λ f. omega arith) w) in omega arith

-- ---- by the first byte

by_159 : {bytes rest : List ℕ} → IsWellFormed (159 ∷ bytes) rest → HasItems None bytes rest
by_159 (headed e c) = absurd (no_head_159 _ e)
by_159 (simple_or_float e s) = absurd (no_head_159 _ e)
by_159 (array_to_break p) = p

pub by_191 : {bytes rest : List ℕ} → IsWellFormed (191 ∷ bytes) rest → HasPairs None bytes rest
by_191 (headed e c) = absurd (no_head_191 _ e)
by_191 (simple_or_float e s) = absurd (no_head_191 _ e)
by_191 (well.map_to_break p) = p

pub by_95 : {bytes rest : List ℕ} → IsWellFormed (95 ∷ bytes) rest → AreChunksOf 2 bytes rest
by_95 (headed e c) = absurd (no_head_95 _ e)
by_95 (simple_or_float e s) = absurd (no_head_95 _ e)
by_95 (byte_chunks p) = p

by_127 : {bytes rest : List ℕ} → IsWellFormed (127 ∷ bytes) rest → AreChunksOf 3 bytes rest
by_127 (headed e c) = absurd (no_head_127 _ e)
by_127 (simple_or_float e s) = absurd (no_head_127 _ e)
by_127 (text_chunks p) = p

no_well_formed_nothing : {rest : List ℕ} → IsWellFormed [] rest → ⊥
no_well_formed_nothing (headed e c) = no_head e

byte_is : (bytes : List ℕ) (at first : ℕ) → at < length bytes → get_or bytes at 0 ≡ first → drop at bytes ≡ first ∷ drop (at + 1) bytes
byte_is bytes at first l e = bytes_at bytes at l ∙ ap (λ x. x ∷ drop (at + 1) bytes) e

opens_by : {here left : List ℕ} {inside : fronts.DueItems} {first : ℕ} → here ≡ first ∷ left → fronts.OpensLevel (first ∷ left) inside left → HoldsItems here
opens_by e o = subst HoldsItems (sym e) (holds_here o)

pub array_to_break_is_front : (bytes : List ℕ) (at : ℕ) → at < length bytes → get_or bytes at 0 ≡ 0x9f → FrontIs bytes at (Some (front.Opens (frame.Items None) (at + 1)))
array_to_break_is_front bytes at l f =
    let e = byte_is bytes at 159 l f in (
      record { there = λ rest w. by_159 (subst (λ x. IsWellFormed x rest) e w); back = λ rest p. subst (λ x. IsWellFormed x rest) (sym e) (array_to_break p) },
      record { later = omega arith; within = omega arith },
      opens_by e fronts.array_up_to_break,
    )

pub map_to_break_is_front : (bytes : List ℕ) (at : ℕ) → at < length bytes → get_or bytes at 0 ≡ 0xbf → FrontIs bytes at (Some (front.Opens (frame.Keys None) (at + 1)))
map_to_break_is_front bytes at l f =
    let e = byte_is bytes at 191 l f in (
      record { there = λ rest w. by_191 (subst (λ x. IsWellFormed x rest) e w); back = λ rest p. subst (λ x. IsWellFormed x rest) (sym e) (well.map_to_break p) },
      record { later = omega arith; within = omega arith },
      opens_by e fronts.map_up_to_break,
    )

well_by_chunks : {first major : ℕ} {here left rest : List ℕ} → here ≡ first ∷ left → BeginsChunksOf first major → AreChunksOf major left rest → IsWellFormed here rest
well_by_chunks e (inl (f, m)) p = rw (e, f) (byte_chunks (rw m at p))
well_by_chunks e (inr (f, m)) p = rw (e, f) (text_chunks (rw m at p))

chunks_by_well : {first major : ℕ} {here left rest : List ℕ} → here ≡ first ∷ left → BeginsChunksOf first major → IsWellFormed here rest → AreChunksOf major left rest
chunks_by_well {left = left} {rest = rest} e (inl (f, m)) w =
    let v : IsWellFormed (95 ∷ left) rest = subst (λ x. IsWellFormed x rest) (e ∙ ap (λ x. x ∷ left) f) w in rw m (by_95 v)
chunks_by_well {left = left} {rest = rest} e (inr (f, m)) w =
    let v : IsWellFormed (127 ∷ left) rest = subst (λ x. IsWellFormed x rest) (e ∙ ap (λ x. x ∷ left) f) w in rw m (by_127 v)

pub chunks_are_front : (bytes : List ℕ) (at major next : ℕ) → at < length bytes → BeginsChunksOf (get_or bytes at 0) major → EndsAt (AreChunksOf major) bytes (at + 1) (Some next) → FrontIs bytes at (Some (front.Whole next))
chunks_are_front bytes at major next l k (p, further) = (well_by_chunks (bytes_at bytes at l) k p, record { later = let f = further.later in omega arith; within = further.within })

pub chunks_are_none : (bytes : List ℕ) (at major : ℕ) → at < length bytes → BeginsChunksOf (get_or bytes at 0) major → HasNoRest (AreChunksOf major (drop (at + 1) bytes)) → FrontIs bytes at None
chunks_are_none bytes at major l k n rest w = n rest (chunks_by_well (bytes_at bytes at l) k w)

pub no_byte_is_front : (bytes : List ℕ) (at : ℕ) → length bytes ≤ at → FrontIs bytes at None
no_byte_is_front bytes at l rest w = let v : IsWellFormed [] rest = subst (λ x. IsWellFormed x rest) (nothing_at bytes at l) w in no_well_formed_nothing v

no_front_by : {first : ℕ} {here left rest : List ℕ} → here ≡ first ∷ left → first ≢ 0x5f → first ≢ 0x7f → first ≢ 0x9f → first ≢ 0xbf → head_at_front here ≡ None → IsWellFormed here rest → ⊥
no_front_by e a b c d n (headed f p) = cc (sym n ∙ f)
no_front_by e a b c d n (simple_or_float f p) = cc (sym n ∙ f)
no_front_by e a b c d n (byte_chunks p) = a (sym (cc e))
no_front_by e a b c d n (text_chunks p) = b (sym (cc e))
no_front_by e a b c d n (array_to_break p) = c (sym (cc e))
no_front_by e a b c d n (well.map_to_break p) = d (sym (cc e))

pub no_head_is_front : (bytes : List ℕ) (at : ℕ) → at < length bytes → get_or bytes at 0 ≢ 0x5f → get_or bytes at 0 ≢ 0x7f → get_or bytes at 0 ≢ 0x9f → get_or bytes at 0 ≢ 0xbf
    → head_at_front (drop at bytes) ≡ None → FrontIs bytes at None
no_head_is_front bytes at l a b c d n rest w = no_front_by (bytes_at bytes at l) a b c d n w
