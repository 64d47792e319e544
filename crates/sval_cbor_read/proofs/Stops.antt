-- Where the reader's steps stop in bytes that no item begins.
use Rattle.std.specs.Prelude.{◌≡◌, ◌≢◌, ℕ, ◌+◌, ◌≤◌, ◌<◌, Bool, true, false, ◌&&◌, ◌==◌, nat_le, if◌then◌else◌, List, [], ◌∷◌, ◌++◌, length, take, drop, get_or, Option, Some, None, refl}
use Rattle.std.proofs.Common.{sym, ap, ◌∙◌, subst, arith, append_assoc, append-nil}
use Rattle.std.proofs.lemmas.Bool.{and_parts}
use Rattle.std.proofs.lemmas.Bool.Decides.{nat_tests}
use Rattle.sval_label.specs.Calls.{Call}
use Rattle.sval_cbor_read.specs.declared.head.Head as made_head
use Rattle.sval_cbor_read.specs.Items.{ItemHead, head, head_at_front, is_piece, IsDefiniteString, string, ArePieces, break, piece, definite, in_pieces}
use Rattle.sval_cbor_read.specs.Reading.{OpenItem, ItemState, Ended, Pieces, Bignum, BignumPieces, Move, moves, fragment_call, string_end, with_piece, piece_step, fits, number_call, bignum_step, bignum_begins, bignum_piece}
use Rattle.sval_cbor_read.specs.HeadFronts.{FailsFrom, at_its_head, in_big, in_negative_big}
use Rattle.sval_cbor_read.specs.Steps.{spot, one_step, StopsWith, at_once, after_steps}
use Rattle.sval_cbor_read.specs.SeenHeads.{IsHead}
use Rattle.sval_cbor_read.specs.SeenItems.{BeginsNoItem, no_step, no_number, BeginsNothing}
use Rattle.sval_cbor_read.specs.SeenStops.{IsNumberTag, LacksNumber, LacksChunks, ChunksStop, NumberStops, ItemStops}
use Rattle.sval_cbor_read.specs.SeenStrings.{IsStringAt, HasNoString}
use Rattle.sval_cbor_read.proofs.Bignums.{bytes_at, nothing_at}
use Rattle.sval_cbor_read.proofs.Complete.{item_goes, other_tag}
use Rattle.sval_cbor_read.proofs.ReadStrings.{same_head}
use Rattle.sval_cbor_read.proofs.Strings.{bignum_piece_read}

-- ---- definite strings

lacks_by : (major m n : ℕ) (bytes after : List ℕ) (next : List ℕ → List ℕ → Option Move) (b : Bool)
    → (m == major && nat_le n (length after) && is_piece major (take n after)) ≡ b → head_at_front bytes ≡ Some (head m n after)
    → ((content rest : List ℕ) → IsDefiniteString major bytes content rest → next content rest ≡ None)
    → (let o : Option Move = if b then next (take n after) (drop n after) else None in o) ≡ None
lacks_by major m n bytes after next true f h none =
    let (ab, c) = and_parts (m == major && nat_le n (length after)) (is_piece major (take n after)) f in
    let (a, b) = and_parts (m == major) (nat_le n (length after)) ab in
    let same : m ≡ major = grind (arith, nat_tests) in
    let l : n ≤ length after = grind (arith, nat_tests) in
    let g : head_at_front bytes ≡ Some (head major n after) = subst (λ x. head_at_front bytes ≡ Some (head x n after)) same h in
    none (take n after) (drop n after) (string g l c)
lacks_by major m n bytes after next false f h none = refl

lacks_from : (major : ℕ) (bytes : List ℕ) (next : List ℕ → List ℕ → Option Move) (h : Option ItemHead) → head_at_front bytes ≡ h
    → ((content rest : List ℕ) → IsDefiniteString major bytes content rest → next content rest ≡ None) → with_piece major h next ≡ None
lacks_from major bytes next None h none = refl
lacks_from major bytes next (Some (head m n after)) h none = lacks_by major m n bytes after next (m == major && nat_le n (length after) && is_piece major (take n after)) refl h none

-- where nothing is made of a definite string, no step is made
pub nothing_goes : (major : ℕ) (bytes : List ℕ) (next : List ℕ → List ℕ → Option Move)
    → ((content rest : List ℕ) → IsDefiniteString major bytes content rest → next content rest ≡ None) → with_piece major (head_at_front bytes) next ≡ None
nothing_goes major bytes next none = lacks_from major bytes next (head_at_front bytes) refl none

-- neither a chunk nor the break
pub no_piece_step : (major : ℕ) (bytes : List ℕ) (frames : List OpenItem) → ((left : List ℕ) → bytes ≡ 255 ∷ left → ⊥) → HasNoString major bytes → piece_step major bytes frames ≡ None
no_piece_step major [] frames n h = refl
no_piece_step major (first ∷ bytes) frames n h = go (first == 0xff) refl
  where
    go : (b : Bool) → (first == 0xff) ≡ b
        → (if b then moves (string_end major ∷ []) bytes (Ended frames) else with_piece major (head_at_front (first ∷ bytes)) (λ piece left. moves (fragment_call major piece ∷ []) left (Pieces major frames))) ≡ None
    go true f = let is : first ≡ 0xff = grind (arith, nat_tests) in absurd (n bytes (ap (λ x. x ∷ bytes) is))
    go false f = nothing_goes major (first ∷ bytes) (λ piece left. moves (fragment_call major piece ∷ []) left (Pieces major frames)) (λ content rest s. absurd (h content rest s))

-- ---- numbers as byte strings

unfit_by : (b : Bool) (tag : ℕ) (content left : List ℕ) (frames : List OpenItem) → (b ≡ true → ⊥) → (if b then moves (number_call tag content ∷ []) left (Ended frames) else None) ≡ None
unfit_by true tag content left frames n = absurd (n refl)
unfit_by false tag content left frames n = refl

unfit : (tag : ℕ) (content left : List ℕ) (frames : List OpenItem) → (fits tag content ≡ true → ⊥) → bignum_step tag content left frames ≡ None
unfit tag content left frames n = unfit_by (fits tag content) tag content left frames n

no_chunk : (tag : ℕ) (front bytes : List ℕ) (frames : List OpenItem) → HasNoString 2 bytes → LacksChunks tag front bytes → bignum_piece tag front bytes frames ≡ None
no_chunk tag front [] frames n l = refl
no_chunk tag front (first ∷ bytes) frames n l = go (first == 0xff) refl
  where
    go : (b : Bool) → (first == 0xff) ≡ b
        → (if b then bignum_step tag front bytes frames else with_piece 2 (head_at_front (first ∷ bytes)) (λ piece left. moves [] left (BignumPieces tag (front ++ piece) frames))) ≡ None
    go true f =
        let is : first ≡ 0xff = grind (arith, nat_tests) in
        unfit tag front bytes frames (λ k. l [] bytes (subst (λ x. ArePieces 2 (x ∷ bytes) [] bytes) (sym is) break) (ap (fits tag) (append-nil front) ∙ k))
    go false f = nothing_goes 2 (first ∷ bytes) (λ piece left. moves [] left (BignumPieces tag (front ++ piece) frames)) (λ content rest s. absurd (n content rest s))

no_definite : (tag : ℕ) (bytes : List ℕ) (frames : List OpenItem) → ((left : List ℕ) → bytes ≡ 95 ∷ left → ⊥) → LacksNumber tag bytes → bignum_begins tag bytes frames ≡ None
no_definite tag [] frames n l = refl
no_definite tag (first ∷ bytes) frames n l = go (first == 0x5f) refl
  where
    go : (b : Bool) → (first == 0x5f) ≡ b
        → (if b then moves [] bytes (BignumPieces tag [] frames) else with_piece 2 (head_at_front (first ∷ bytes)) (λ piece left. bignum_step tag piece left frames)) ≡ None
    go true f = let is : first ≡ 0x5f = grind (arith, nat_tests) in absurd (n bytes (ap (λ x. x ∷ bytes) is))
    go false f = nothing_goes 2 (first ∷ bytes) (λ piece left. bignum_step tag piece left frames) (λ content rest s. unfit tag content rest frames (l content rest (definite s)))

-- ---- chunks

-- the chunks between two places are passed over
pub record ArePassedUpTo (bytes : List ℕ) (from at : ℕ) : Type 0 where
  pub joined : List ℕ
  pub goes : (tag : ℕ) (front : List ℕ) (frames : List OpenItem) (made : List Call) (left : List ℕ) → StopsWith (spot (BignumPieces tag (front ++ joined) frames) (drop at bytes) made) left
      → StopsWith (spot (BignumPieces tag front frames) (drop from bytes) made) left
  pub lacks : (tag : ℕ) (front : List ℕ) → LacksChunks tag front (drop from bytes) → LacksChunks tag (front ++ joined) (drop at bytes)
  pub later : from ≤ at
  pub within : at ≤ length bytes

pub none_passed : (bytes : List ℕ) (from : ℕ) → from ≤ length bytes → ArePassedUpTo bytes from from
none_passed bytes from w = record {
  joined = [];
  goes = λ tag front frames made left s. subst (λ x. StopsWith (spot (BignumPieces tag x frames) (drop from bytes) made) left) (append-nil front) s;
  lacks = λ tag front l. subst (λ x. LacksChunks tag x (drop from bytes)) (sym (append-nil front)) l;
  later = omega arith;
  within = w;
}

module _ {bytes : List ℕ} {from at : ℕ} (r : ArePassedUpTo bytes from at) where
  pub one_passed : (content : List ℕ) (next : ℕ) → IsStringAt 2 bytes at content next → ArePassedUpTo bytes from next
  one_passed content next s = record {
    joined = r.joined ++ content;
    goes = λ tag front frames made left t.
        let assoc = append_assoc front r.joined content in
        r.goes tag front frames made left
        (after_steps (one_step (bignum_piece_read tag (front ++ r.joined) (drop at bytes) content (drop next bytes) frames s.stands))
        (subst (λ x. StopsWith (spot (BignumPieces tag x frames) (drop next bytes) (made ++ [])) left) (sym assoc)
        (subst (λ x. StopsWith (spot (BignumPieces tag (front ++ (r.joined ++ content)) frames) (drop next bytes) x) left) (sym (append-nil made)) t)));
    lacks = λ tag front l more rest p f.
        r.lacks tag front l (content ++ more) rest (piece s.stands p)
        (ap (fits tag) (append_assoc front r.joined (content ++ more) ∙ ap (λ x. front ++ x) (sym (append_assoc r.joined content more)) ∙ sym (append_assoc front (r.joined ++ content) more)) ∙ f);
    later = let l = r.later in let k = s.later in omega arith;
    within = s.within;
  }

  stops_here : HasNoString 2 (drop at bytes) → ChunksStop bytes from at
  stops_here n = record {
    stops = λ tag front frames made l. r.goes tag front frames made (drop at bytes) (at_once (no_chunk tag (front ++ r.joined) (drop at bytes) frames n (r.lacks tag front l)));
    later = r.later;
    within = r.within;
  }

  pub no_chunk_stops : HasNoString 2 (drop at bytes) → ChunksStop bytes from at
  no_chunk_stops n = stops_here n

  pub end_stops : length bytes ≤ at → ChunksStop bytes from at
  end_stops l = record {
    stops = λ tag front frames made k.
        r.goes tag front frames made (drop at bytes) (at_once (ap (λ x. bignum_piece tag (front ++ r.joined) x frames) (nothing_at bytes at l)));
    later = r.later;
    within = r.within;
  }

-- ---- numbers under a tag

pub number_stops_here : (bytes : List ℕ) (at : ℕ) → at ≤ length bytes → ((left : List ℕ) → drop at bytes ≡ 95 ∷ left → ⊥) → NumberStops bytes at at
number_stops_here bytes at w n = record { stops = λ tag frames made l. at_once (no_definite tag (drop at bytes) frames n l); later = omega arith; within = w }

pub number_stops_behind : (bytes : List ℕ) (at stop : ℕ) → at < length bytes → get_or bytes at 0 ≡ 95 → ChunksStop bytes (at + 1) stop → NumberStops bytes at stop
number_stops_behind bytes at stop l e c =
    let here : drop at bytes ≡ 95 ∷ drop (at + 1) bytes = bytes_at bytes at l ∙ ap (λ x. x ∷ drop (at + 1) bytes) e in
    record {
      stops = λ tag frames made k.
          let lacks_number : LacksNumber tag (95 ∷ drop (at + 1) bytes) = subst (LacksNumber tag) here k in
          let lacks : LacksChunks tag [] (drop (at + 1) bytes) = λ content rest p f. lacks_number content rest (in_pieces p) f in
          subst (λ x. StopsWith (spot (Bignum tag frames) x made) (drop stop bytes)) (sym here) (after_steps (one_step refl) (c.stops tag [] frames (made ++ []) lacks));
      later = let l = c.later in omega arith;
      within = c.within;
    }

-- ---- items

lacks_behind : (bytes : List ℕ) (tag : ℕ) (after : List ℕ) → head_at_front bytes ≡ Some (head 6 tag after) → IsNumberTag tag → BeginsNoItem bytes → LacksNumber tag after
lacks_behind bytes tag after e t (no_step n) = let f = sym (n []) ∙ item_goes bytes 6 tag after [] e refl ∙ t after [] in absurd (cc f)
lacks_behind bytes tag after e t (no_number {tag = other} f s l) = let (a, b, c) = same_head f e in subst (λ x. LacksNumber x after) b (subst (λ x. LacksNumber other x) c l)

-- what comes next, where there is a step
abbrev next_in : Option Move → ItemState
next_in None = Ended []
next_in (Some move) = move.next

no_number_tag : (tag : ℕ) → tag ≢ 2 → tag ≢ 3 → IsNumberTag tag → ⊥
no_number_tag tag a b t = let e = ap next_in (sym (other_tag tag [] [] a b) ∙ t [] []) in cc e

-- a number under a tag fails behind its tag
fails_behind : (bytes : List ℕ) (at stop tag : ℕ) (after : List ℕ) → head_at_front (drop at bytes) ≡ Some (head 6 tag after) → IsNumberTag tag → at ≤ stop → FailsFrom bytes at stop
fails_behind bytes at stop tag after e t l = go (tag == 2) (tag == 3) refl refl
  where
    go : (a b : Bool) → (tag == 2) ≡ a → (tag == 3) ≡ b → FailsFrom bytes at stop
    go true b f g = let is : tag ≡ 2 = grind (arith, nat_tests) in in_big (subst (λ x. head_at_front (drop at bytes) ≡ Some (head 6 x after)) is e) l
    go false true f g = let is : tag ≡ 3 = grind (arith, nat_tests) in in_negative_big (subst (λ x. head_at_front (drop at bytes) ≡ Some (head 6 x after)) is e) l
    go false false f g = absurd (no_number_tag tag (grind (arith, nat_tests)) (grind (arith, nat_tests)) t)

pub item_stops_behind : (bytes : List ℕ) (at stop tag : ℕ) (h : made_head.Head) → (at < h.next) × IsHead bytes at h (head_at_front (drop at bytes)) → h.major ≡ 6 → h.number ≡ tag → IsNumberTag tag
    → BeginsNothing bytes at → NumberStops bytes h.next stop → ItemStops bytes at stop
item_stops_behind bytes at stop tag h (later, (is, before, within)) m n t b s =
    let e : head_at_front (drop at bytes) ≡ Some (head 6 tag (drop h.next bytes)) = is ∙ ap (λ x. Some (head x h.number (drop h.next bytes))) m ∙ ap (λ x. Some (head 6 x (drop h.next bytes))) n in
    record {
      stops = λ frames made.
          after_steps (one_step (item_goes (drop at bytes) 6 tag (drop h.next bytes) frames e refl ∙ t (drop h.next bytes) frames))
          (s.stops tag frames (made ++ []) (lacks_behind (drop at bytes) tag (drop h.next bytes) e t b));
      fails = fails_behind bytes at stop tag (drop h.next bytes) e t (let l = s.later in omega arith);
      within = s.within;
    }

item_stops_by : (bytes : List ℕ) (at : ℕ) → at ≤ length bytes → ((tag : ℕ) (after : List ℕ) → head_at_front (drop at bytes) ≡ Some (head 6 tag after) → IsNumberTag tag → ⊥) → BeginsNothing bytes at → ItemStops bytes at at
item_stops_by bytes at w n (no_step e) = record { stops = λ frames made. at_once (e frames); fails = at_its_head; within = w }
item_stops_by bytes at w n (no_number {tag = tag} {after = after} e t l) = absurd (n tag after e t)

pub item_stops_at_tag : (bytes : List ℕ) (at : ℕ) (h : made_head.Head) → at ≤ length bytes → (at < h.next) × IsHead bytes at h (head_at_front (drop at bytes)) → h.number ≢ 2 → h.number ≢ 3
    → BeginsNothing bytes at → ItemStops bytes at at
item_stops_at_tag bytes at h w (later, (is, before, within)) a b n =
    item_stops_by bytes at w (λ tag after e t. let (c, d, f) = same_head is e in no_number_tag h.number a b (subst IsNumberTag (sym d) t)) n

pub item_stops_at_head : (bytes : List ℕ) (at : ℕ) (h : made_head.Head) → at ≤ length bytes → (at < h.next) × IsHead bytes at h (head_at_front (drop at bytes)) → h.major ≢ 6
    → BeginsNothing bytes at → ItemStops bytes at at
item_stops_at_head bytes at h w (later, (is, before, within)) m n = item_stops_by bytes at w (λ tag after e t. let (c, d, f) = same_head is e in m c) n

pub item_stops_at_none : (bytes : List ℕ) (at : ℕ) → at ≤ length bytes → head_at_front (drop at bytes) ≡ None → BeginsNothing bytes at → ItemStops bytes at at
item_stops_at_none bytes at w is n = item_stops_by bytes at w (λ tag after e t. let f = sym is ∙ e in cc f) n
