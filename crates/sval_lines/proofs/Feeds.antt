-- Where the first line feed stands.
use Rattle.std.specs.Prelude.{◌≡◌, ℕ, zero, suc, ◌+◌, ◌-◌, ◌<◌, ◌≤◌, Bool, true, false, not, ◌==◌, List, [], ◌∷◌, ◌++◌, Option, Some, None, take, drop, length, refl}
use Rattle.std.proofs.Common.{sym, ap, ◌∙◌, arith, get_or}
use Rattle.std.proofs.lemmas.Bool.{eqb-true}
use Rattle.std.proofs.lemmas.List.{drop-take, drop-drop}
use Rattle.memchr.specs.Find.{IsFirstByte, is_byte}
use Rattle.sval_lines.specs.SourceLines.{has_no_feed, unread}
use Rattle.sval_lines.specs.LineParts.{IsFeedAt, IsFirstFeed, MovesUpToFeed}

other : (byte : ℕ) → ((byte == 10) ≡ true → ⊥) → not (byte == 10) ≡ true
other byte f = go (byte == 10) refl
  where
    go : (b : Bool) → (byte == 10) ≡ b → not b ≡ true
    go true e = absurd (f e)
    go false e = refl

feed_at : (bytes : List ℕ) (place : ℕ) → place < length bytes → ((k : ℕ) → k < place → (get_or bytes k 0 == 10) ≡ true → ⊥) → (get_or bytes place 0 == 10) ≡ true → IsFeedAt bytes place
feed_at [] place lt none e = absurd (omega arith)
feed_at (byte ∷ bytes) zero lt none e = record { within = lt; no_feed = refl; same = ap (λ x. x ∷ bytes) (eqb-true byte 10 e) }
feed_at (byte ∷ bytes) (suc place) lt none e =
    let later = feed_at bytes place (omega arith) (λ k l. none (suc k) (omega arith)) e in
    record { within = lt; no_feed = rw (other byte (none 0 (omega arith))) later.no_feed; same = ap (λ x. byte ∷ x) later.same }

none_at_all : (bytes : List ℕ) → ((k : ℕ) → k < length bytes → (get_or bytes k 0 == 10) ≡ true → ⊥) → has_no_feed bytes ≡ true
none_at_all [] none = refl
none_at_all (byte ∷ bytes) none = rw (other byte (none 0 (omega arith))) (none_at_all bytes (λ k l. none (suc k) (omega arith)))

pub first_feed : (bytes : List ℕ) (place : ℕ) → IsFirstByte (is_byte 10) bytes (Some place) → IsFeedAt bytes place
first_feed bytes place h = feed_at bytes place h.0.high (λ k l. h.0.before k (omega arith) l) h.1

pub no_first_feed : (bytes : List ℕ) → IsFirstByte (is_byte 10) bytes None → has_no_feed bytes ≡ true
no_first_feed bytes h = none_at_all bytes (λ k l. h k (omega arith) l)

-- what is unread behind a place
pub unread_behind : (chunk : List ℕ) (from upto count : ℕ) → from + count ≤ upto → unread chunk (from + count) upto ≡ drop count (unread chunk from upto)
unread_behind chunk from upto count h =
    let split : upto - from ≡ count + (upto - (from + count)) = omega arith in
    sym (ap (λ n. drop count (take n (drop from chunk))) split ∙ drop-take count (upto - (from + count)) (drop from chunk) ∙ ap (take (upto - (from + count))) (drop-drop count from chunk))

pub unread_none : (chunk : List ℕ) (place : ℕ) → unread chunk place place ≡ []
unread_none chunk place = let none : place - place ≡ 0 = omega arith in rw none refl

next : (n : ℕ) → suc n ≡ n + 1
next n = omega arith

pub moves_up_to_feed : (chunk line : List ℕ) (from upto feed : ℕ) → IsFeedAt (unread chunk from upto) feed → from + (feed + 1) ≤ upto
    → MovesUpToFeed (unread chunk from upto) line (unread chunk (from + (feed + 1)) upto) (line ++ take feed (unread chunk from upto))
moves_up_to_feed chunk line from upto feed h within = record {
  part = take feed (unread chunk from upto);
  no_feed = h.no_feed;
  same = h.same ∙ ap (λ x. take feed (unread chunk from upto) ++ (10 ∷ x)) (ap (λ n. drop n (unread chunk from upto)) (next feed) ∙ sym (unread_behind chunk from upto (feed + 1) within));
  moved = refl;
}

pub is_first_feed : (bytes : List ℕ) (place : Option ℕ) → IsFirstByte (is_byte 10) bytes place → IsFirstFeed bytes place
is_first_feed bytes None h = no_first_feed bytes h
is_first_feed bytes (Some place) h = first_feed bytes place h

take_short : (count : ℕ) (xs : List ℕ) → length (take count xs) ≤ count
take_short zero xs = omega arith
take_short (suc count) [] = omega arith
take_short (suc count) (x ∷ xs) = let later = take_short count xs in omega arith

pub feed_within : (chunk : List ℕ) (from upto feed : ℕ) → feed < length (unread chunk from upto) → from + (feed + 1) ≤ upto
feed_within chunk from upto feed h = let short = take_short (upto - from) (drop from chunk) in omega arith

pub moves_to : (chunk line next : List ℕ) (from upto feed : ℕ) → IsFeedAt (unread chunk from upto) feed → next ≡ line ++ take feed (unread chunk from upto)
    → MovesUpToFeed (unread chunk from upto) line (unread chunk (from + (feed + 1)) upto) next
unfolding moves_up_to_feed
moves_to chunk line other_line from upto feed h e =
    let m = moves_up_to_feed chunk line from upto feed h (feed_within chunk from upto feed h.within) in
    record { part = m.part; no_feed = m.no_feed; same = m.same; moved = e }
