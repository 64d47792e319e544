-- The begin of an item as steps of the reader.
use Rattle.std.specs.Prelude.{◌≡◌, ◌≢◌, ℕ, ◌+◌, ◌<◌, ◌≤◌, Bool, true, false, ◌&&◌, ◌==◌, nat_le, if◌then◌else◌, List, [], ◌∷◌, ◌++◌, length, take, drop, get_or, Option, Some, None, IsTrue, ⊤, refl}
use Rattle.std.proofs.Common.{sym, ap, ◌∙◌, subst, arith, append_assoc, append-nil}
use Rattle.std.proofs.lemmas.Bool.Decides.{nat_tests}
use Rattle.std.proofs.lemmas.List.{length-drop, length-take-le, drop-drop}
use Rattle.sval_label.specs.Calls.{Call, Seq, Map}
use Rattle.std.specs.Prelude.{IsUtf8}
use Rattle.std.proofs.lemmas.Str.{IsUtf8-from_is_utf8, is_utf8-from_IsUtf8}
use Rattle.sval_cbor_read.specs.declared.head.Head as made_head
use Rattle.sval_cbor_read.specs.declared.bignum.Bignum.{Bignum as MadeBignum}
use Rattle.sval_cbor_read.specs.declared.item.Item as made_item
use Rattle.sval_cbor_read.specs.declared.item.Item.TheVariants as item
use Rattle.sval_cbor_read.specs.declared.item.Begun.{Begun}
use Rattle.sval_cbor_read.specs.Items.{head, head_at_front, is_piece, big_endian, IsDefiniteString, string, ArePieces, break, piece, IsByteString, definite, in_pieces}
use Rattle.sval_cbor_read.specs.HeadFronts as single
use Rattle.sval_cbor_read.specs.Reading.{OpenItem, ItemState, Item, Ended, Bignum, BignumPieces, Move, moves, mark_of, first_step, item_step, head_step, body_step, string_step, string_calls, tag_step, fits, number_call, reading_step, Reached, onward}
use Rattle.sval_cbor_read.specs.Steps.{Spot, spot, ItemSteps, one_step, more_steps, IsStuck}
use Rattle.sval_cbor_read.specs.SeenHeads.{IsHead}
use Rattle.sval_cbor_read.specs.SeenStrings.{IsBehind}
use Rattle.sval_cbor_read.specs.SeenBignums.{IsNumberAt}
use Rattle.sval_cbor_read.specs.SeenNodes.{byte_string, step_calls, AreWhole, AreBegin}
use Rattle.sval_cbor_read.specs.CborValues as value
use Rattle.sval_cbor_read.proofs.ByteStrings.{byte_string_is}
use Rattle.sval_cbor_read.specs.SeenItems.{state_behind, item_begin_calls, IsBegun, HeadIs, IsMarked, BeginsBehind, BeginsNothingBehind, no_step_behind, no_number_behind, Begins, BeginsNoItem, no_step, no_number, BeginsNothing}
use Rattle.sval_cbor_read.specs.SeenStops.{IsNumberTag, LacksNumber}
use Rattle.sval_cbor_read.proofs.Bignums.{bytes_at, nothing_at}
use Rattle.sval_cbor_read.proofs.OneTree.{one_byte_string}
use Rattle.sval_cbor_read.proofs.Strings.{string_goes, bignum_read, bignum_piece_read, bignum_goes}
use Rattle.sval_cbor_read.proofs.Sound.{number_needs, fits_2, fits_3}
use Rattle.sval_cbor_read.proofs.Complete.{front_is_read, item_goes, other_tag}
use Rattle.sval_cbor_read.proofs.OneReading.{reads_after, stops_in_front}

-- ---- steps

-- a step that makes no call, and then others
pub after_nothing : {state next : ItemState} {left behind : List ℕ} {calls : List Call} {last : Spot} → ItemSteps (spot state left calls) (spot next behind (calls ++ [])) → ItemSteps (spot next behind calls) last
    → ItemSteps (spot state left calls) last
after_nothing {next = next} {behind = behind} {calls = calls} {last = last} first more = more_steps first (subst (λ x. ItemSteps (spot next behind x) last) (sym (append-nil calls)) more)

-- where there is no step, the reader is stuck
pub no_item_step : {frames : List OpenItem} {left : List ℕ} {made : List Call} → reading_step (Item frames) left ≡ None → IsStuck (spot (Item frames) left made)
no_item_step e bytes reached tree rest is_item = stops_in_front reached e (λ f. cc f) is_item

-- ---- heads

-- an item that is begun by its first step, which makes these calls
abbrev pub IsOfStep : made_item.Item → List Call → Type 0
IsOfStep item.Whole made = AreWhole made
IsOfStep (item.Big from) made = ⊥
IsOfStep (item.NegativeBig from) made = ⊥
IsOfStep (item.Container frame) made = AreBegin made
IsOfStep (item.Pieces medium) made = AreBegin made
IsOfStep item.Tag made = ⊥

pub of_step_calls : (found : made_item.Item) (bytes : List ℕ) (move : Option Move) (made : List Call) → IsOfStep found made → item_begin_calls found bytes move ≡ step_calls move
of_step_calls item.Whole bytes move made o = refl
of_step_calls (item.Big from) bytes move made o = absurd o
of_step_calls (item.NegativeBig from) bytes move made o = absurd o
of_step_calls (item.Container frame) bytes move made o = refl
of_step_calls (item.Pieces medium) bytes move made o = refl
of_step_calls item.Tag bytes move made o = absurd o

pub of_step_begun : (found : made_item.Item) (bytes : List ℕ) (move : Option Move) → IsOfStep found (step_calls move) → IsBegun found bytes move
of_step_begun item.Whole bytes move o = o
of_step_begun (item.Big from) bytes move o = absurd o
of_step_begun (item.NegativeBig from) bytes move o = absurd o
of_step_begun (item.Container frame) bytes move o = o
of_step_begun (item.Pieces medium) bytes move o = o
of_step_begun item.Tag bytes move o = absurd o

pub begins_behind : (bytes : List ℕ) (h : made_head.Head) (found : made_item.Item) (calls : List Call) (next : ℕ)
    → ((frames : List OpenItem) → body_step h.major h.number (drop h.next bytes) frames ≡ moves calls (drop next bytes) (state_behind found frames)) → IsOfStep found calls
    → ((here : List ℕ) → head_at_front here ≡ Some (head h.major h.number (drop h.next bytes)) → HeadIs found here (drop next bytes)) → h.next ≤ next → next ≤ length bytes
    → BeginsBehind bytes h (record { item = found; next = next })
begins_behind bytes h found calls next e o is l k =
    let same : step_calls (body_step h.major h.number (drop h.next bytes) []) ≡ calls = ap step_calls (e []) in
    let begun : item_begin_calls found bytes (body_step h.major h.number (drop h.next bytes) []) ≡ calls = of_step_calls found bytes (body_step h.major h.number (drop h.next bytes) []) calls o ∙ same in
    record {
      leads = λ frames left made f. subst (λ x. ItemSteps (spot (Item frames) left made) (spot (state_behind found frames) (drop next bytes) (made ++ x))) (sym begun) (one_step (f ∙ e frames));
      is = of_step_begun found bytes (body_step h.major h.number (drop h.next bytes) []) (subst (IsOfStep found) (sym same) o);
      head_is = is;
      later = l;
      within = k;
    }

pub begins_nothing_behind : (bytes : List ℕ) (h : made_head.Head) → ((frames : List OpenItem) → body_step h.major h.number (drop h.next bytes) frames ≡ None) → BeginsNothingBehind bytes h
begins_nothing_behind bytes h e = no_step_behind e

-- a head with this major type
pub major_is : (h : made_head.Head) (major : ℕ) (after : List ℕ) (frames : List OpenItem) → h.major ≡ major → body_step h.major h.number after frames ≡ body_step major h.number after frames
major_is h major after frames e = ap (λ m. body_step m h.number after frames) e

-- ---- strings

-- a string behind its head, with its calls
pub string_goes_behind : (major : ℕ) (n : ℕ) (after content rest : List ℕ) (frames : List OpenItem) → n ≤ length after → IsTrue (is_piece major (take n after)) → content ≡ take n after → rest ≡ drop n after
    → string_step major n after frames ≡ moves (string_calls major (length content) content) rest (Ended frames)
string_goes_behind major n after content rest frames l k c r =
    let size : length content ≡ n = ap length c ∙ length-take-le n after l in
    string_goes major n after frames l k ∙ ap (λ x. moves (string_calls major n x) (drop n after) (Ended frames)) (sym c) ∙ ap (λ x. moves (string_calls major n content) x (Ended frames)) (sym r)
    ∙ ap (λ m. moves (string_calls major m content) rest (Ended frames)) (sym size)

no_string_by : (a b : Bool) (o : Option Move) → (a ≡ true → b ≡ true → ⊥) → (if a && b then o else None) ≡ None
no_string_by true true o h = absurd (h refl refl)
no_string_by true false o h = refl
no_string_by false b o h = refl

pub no_string_step : (major n : ℕ) (after : List ℕ) (frames : List OpenItem) → (n ≤ length after → IsTrue (is_piece major (take n after)) → ⊥) → string_step major n after frames ≡ None
no_string_step major n after frames h =
    no_string_by (nat_le n (length after)) (is_piece major (take n after)) (moves (string_calls major n (take n after)) (drop n after) (Ended frames))
    (λ a b. let l : n ≤ length after = grind (arith, nat_tests) in h l b)

-- ---- numbers as byte strings

pieces_steps : (tag : ℕ) (front : List ℕ) {bytes content rest : List ℕ} → ArePieces 2 bytes content rest → fits tag (front ++ content) ≡ true → (frames : List OpenItem) (made : List Call)
    → ItemSteps (spot (BignumPieces tag front frames) bytes made) (spot (Ended frames) rest (made ++ (number_call tag (front ++ content) ∷ [])))
pieces_steps tag front (break {rest = rest}) h frames made =
    let e = append-nil front in
    subst (λ x. ItemSteps (spot (BignumPieces tag front frames) (255 ∷ rest) made) (spot (Ended frames) rest (made ++ (number_call tag x ∷ [])))) (sym e) (one_step (bignum_goes tag front rest frames (rw e at h)))
pieces_steps tag front (piece {bytes = bytes} {after = after} {content = content} {more = last} {rest = rest} s p) h frames made =
    let e = append_assoc front content last in
    subst (λ x. ItemSteps (spot (BignumPieces tag front frames) bytes made) (spot (Ended frames) rest (made ++ (number_call tag x ∷ [])))) e
    (after_nothing (one_step (bignum_piece_read tag front bytes content after frames s)) (pieces_steps tag (front ++ content) p (rw e h) frames made))

byte_string_steps : (tag : ℕ) {bytes content rest : List ℕ} → IsByteString bytes content rest → fits tag content ≡ true → (frames : List OpenItem) (made : List Call)
    → ItemSteps (spot (Bignum tag frames) bytes made) (spot (Ended frames) rest (made ++ (number_call tag content ∷ [])))
byte_string_steps tag (definite {bytes = bytes} {content = content} {rest = rest} s) h frames made = one_step (bignum_read tag bytes content rest frames s ∙ bignum_goes tag content rest frames h)
byte_string_steps tag (in_pieces p) h frames made = after_nothing (one_step refl) (pieces_steps tag [] p h frames made)

-- a number under its tag leads on
pub number_leads : (tag : ℕ) {bytes content rest : List ℕ} (frames : List OpenItem) (move : Option Move) → IsByteString bytes content rest → fits tag content ≡ true → move ≡ moves [] bytes (Bignum tag frames)
    → (left : List ℕ) (made : List Call) → reading_step (Item frames) left ≡ move → ItemSteps (spot (Item frames) left made) (spot (Ended frames) rest (made ++ (number_call tag content ∷ [])))
number_leads tag frames move s h m left made e = after_nothing (one_step (e ∙ m)) (byte_string_steps tag s h frames made)

-- without one the reader is stuck
pub number_lacks : (tag : ℕ) (bytes : List ℕ) (frames : List OpenItem) (move : Option Move) → ((content rest : List ℕ) → IsByteString bytes content rest → fits tag content ≡ true → ⊥) → move ≡ moves [] bytes (Bignum tag frames)
    → (left : List ℕ) (made : List Call) → reading_step (Item frames) left ≡ move → IsStuck (spot (Item frames) left made)
number_lacks tag bytes frames move h m left made e start reached tree rest is_item =
    let behind : Reached start (Bignum tag frames) bytes (made ++ []) = onward reached (e ∙ m) in
    let (content, behind_it, s, f) = number_needs (reads_after behind (front_is_read rest start tree is_item).0).1 in
    h content behind_it s f

-- where no item begins, the reader is stuck
pub begins_nothing_stuck : {bytes : List ℕ} (frames : List OpenItem) (made : List Call) → BeginsNoItem bytes → IsStuck (spot (Item frames) bytes made)
begins_nothing_stuck frames made (no_step e) = no_item_step (e frames)
begins_nothing_stuck {bytes = bytes} frames made (no_number {tag = tag} {after = after} e t n) =
    number_lacks tag after frames (item_step bytes frames) n (item_goes bytes 6 tag after frames e refl ∙ t after frames) bytes made refl

-- ---- marks

-- the calls of simple values are whole, and those of what a break ends begin it
pub truth_is_whole : (b : Bool) → AreWhole (Call.Truth b ∷ [])
truth_is_whole b = (omega arith, record { value = value.Truth b; puts_it = λ levels. refl; begins = tt; closed = λ depth more. refl })

pub null_is_whole : AreWhole (Call.Null ∷ [])
null_is_whole = (omega arith, record { value = value.Null; puts_it = λ levels. refl; begins = tt; closed = λ depth more. refl })

pub seq_begins : AreBegin (Call.Begin Seq None ∷ [])
seq_begins = (omega arith, record { of = λ level. value.Array level.values; closes_it = λ levels. refl; begins = tt; opens = λ depth more. refl })

pub map_begins : AreBegin (Call.Begin Map None ∷ [])
map_begins = (omega arith, record { of = λ level. value.Map level.values; closes_it = λ levels. refl; begins = tt; opens = λ depth more. refl })

pub text_chunks_begin : AreBegin (Call.TextBegin None ∷ [])
text_chunks_begin = (omega arith, record { of = λ level. value.Text level.texts; closes_it = λ levels. refl; begins = tt; opens = λ depth more. refl })

pub byte_chunks_begin : AreBegin (Call.BinaryBegin None ∷ [])
byte_chunks_begin = (omega arith, record { of = λ level. value.Binary level.binaries; closes_it = λ levels. refl; begins = tt; opens = λ depth more. refl })

pub marked_begins : (bytes : List ℕ) (at : ℕ) (found : made_item.Item) → at < length bytes → IsMarked (get_or bytes at 0) found → Begins bytes at (record { item = found; next = at + 1 })
marked_begins bytes at found l m =
    let first = get_or bytes at 0 in
    let behind = drop (at + 1) bytes in
    let here : item_step (drop at bytes) [] ≡ first_step (mark_of first) behind (head_at_front (first ∷ behind)) [] = ap (λ x. item_step x []) (bytes_at bytes at l) in
    record {
      leads = λ frames made.
          let e : reading_step (Item frames) (drop at bytes) ≡ moves (item_begin_calls found bytes (item_step (drop at bytes) [])) behind (state_behind found frames) =
          ap (λ x. item_step x frames) (bytes_at bytes at l) ∙ m.moves bytes behind (head_at_front (first ∷ behind)) frames ∙ ap (λ x. moves (item_begin_calls found bytes x) behind (state_behind found frames)) (sym here) in
          one_step e;
      is = subst (IsBegun found bytes) (sym here) (m.is bytes behind (head_at_front (first ∷ behind)));
      head_is = subst (λ x. HeadIs found x behind) (sym (bytes_at bytes at l)) (m.head_is behind);
      later = omega arith;
      within = omega arith;
    }

-- a first byte that is no mark begins a head
unmarked_step : (bytes : List ℕ) (at : ℕ) (frames : List OpenItem) → at < length bytes → mark_of (get_or bytes at 0) ≡ None → reading_step (Item frames) (drop at bytes) ≡ head_step (head_at_front (drop at bytes)) frames
unmarked_step bytes at frames l e =
    let here = bytes_at bytes at l in
    ap (λ x. item_step x frames) here ∙ ap (λ o. first_step o (drop (at + 1) bytes) (head_at_front (get_or bytes at 0 ∷ drop (at + 1) bytes)) frames) e ∙ ap (λ x. head_step (head_at_front x) frames) (sym here)

pub headed_begins : (bytes : List ℕ) (at : ℕ) (h : made_head.Head) (begun : Begun) → at < length bytes → mark_of (get_or bytes at 0) ≡ None → (at < h.next) × IsHead bytes at h (head_at_front (drop at bytes))
    → BeginsBehind bytes h begun → Begins bytes at begun
headed_begins bytes at h begun l e (later, (is, before, within)) b =
    let here : item_step (drop at bytes) [] ≡ body_step h.major h.number (drop h.next bytes) [] = unmarked_step bytes at [] l e ∙ ap (λ x. head_step x []) is in
    record {
      leads = λ frames made.
          subst (λ x. ItemSteps (spot (Item frames) (drop at bytes) made) (spot (state_behind begun.item frames) (drop begun.next bytes) (made ++ item_begin_calls begun.item bytes x))) (sym here)
          (b.leads frames (drop at bytes) made (unmarked_step bytes at frames l e ∙ ap (λ x. head_step x frames) is));
      is = subst (IsBegun begun.item bytes) (sym here) b.is;
      head_is = b.head_is (drop at bytes) is;
      later = let k = b.later in omega arith;
      within = b.within;
    }

pub headed_begins_nothing : (bytes : List ℕ) (at : ℕ) (h : made_head.Head) → at < length bytes → mark_of (get_or bytes at 0) ≡ None → (at < h.next) × IsHead bytes at h (head_at_front (drop at bytes))
    → BeginsNothingBehind bytes h → BeginsNothing bytes at
headed_begins_nothing bytes at h l e (later, (is, before, within)) (no_step_behind n) = no_step (λ frames. unmarked_step bytes at frames l e ∙ ap (λ x. head_step x frames) is ∙ n frames)
headed_begins_nothing bytes at h l e (later, (is, before, within)) (no_number_behind m t n) = no_number (is ∙ ap (λ x. Some (head x h.number (drop h.next bytes))) m) t n

pub no_head_begins_nothing : (bytes : List ℕ) (at : ℕ) → at < length bytes → mark_of (get_or bytes at 0) ≡ None → head_at_front (drop at bytes) ≡ None → BeginsNothing bytes at
no_head_begins_nothing bytes at l e h = no_step (λ frames. unmarked_step bytes at frames l e ∙ ap (λ x. head_step x frames) h)

pub end_begins_nothing : (bytes : List ℕ) (at : ℕ) → length bytes ≤ at → BeginsNothing bytes at
end_begins_nothing bytes at l = no_step (λ frames. ap (λ x. item_step x frames) (nothing_at bytes at l))

-- no other byte is a mark
pub no_mark : (first : ℕ) → first ≢ 0x5f → first ≢ 0x7f → first ≢ 0x9f → first ≢ 0xbf → first ≢ 0xf4 → first ≢ 0xf5 → first ≢ 0xf6 → mark_of first ≡ None
no_mark first a b c d e f g =
    let is_a : (first == 0x5f) ≡ false = grind (arith, nat_tests) in
    let is_b : (first == 0x7f) ≡ false = grind (arith, nat_tests) in
    let is_c : (first == 0x9f) ≡ false = grind (arith, nat_tests) in
    let is_d : (first == 0xbf) ≡ false = grind (arith, nat_tests) in
    let is_e : (first == 0xf4) ≡ false = grind (arith, nat_tests) in
    let is_f : (first == 0xf5) ≡ false = grind (arith, nat_tests) in
    let is_g : (first == 0xf6) ≡ false = grind (arith, nat_tests) in
    rw (is_a, is_b, is_c, is_d, is_e, is_f, is_g) refl

-- ---- by the major type

-- a head by its major type
pub headed_by : (bytes : List ℕ) (h : made_head.Head) (major : ℕ) (here : List ℕ) → h.major ≡ major → head_at_front here ≡ Some (head h.major h.number (drop h.next bytes)) → head_at_front here ≡ Some (head major h.number (drop h.next bytes))
headed_by bytes h major here m e = e ∙ ap (λ x. Some (head x h.number (drop h.next bytes))) m

-- and by its number
numbered_by : (bytes : List ℕ) (h : made_head.Head) (tag : ℕ) (here : List ℕ) → h.major ≡ 6 → h.number ≡ tag → head_at_front here ≡ Some (head h.major h.number (drop h.next bytes)) → head_at_front here ≡ Some (head 6 tag (drop h.next bytes))
numbered_by bytes h tag here m n e = headed_by bytes h 6 here m e ∙ ap (λ x. Some (head 6 x (drop h.next bytes))) n

-- a definite string by its head
string_by : (bytes here rest : List ℕ) (h : made_head.Head) (major : ℕ) → h.major ≡ major → h.number ≤ length (drop h.next bytes) → IsTrue (is_piece major (take h.number (drop h.next bytes))) → rest ≡ drop h.number (drop h.next bytes)
    → head_at_front here ≡ Some (head h.major h.number (drop h.next bytes)) → IsDefiniteString major here (take h.number (drop h.next bytes)) rest
string_by bytes here rest h major m l u r e = subst (IsDefiniteString major here (take h.number (drop h.next bytes))) (sym r) (string (headed_by bytes h major here m e) l u)

-- a byte string behind its head
pub binary_begins : (bytes : List ℕ) (h : made_head.Head) (content : List ℕ) (next : ℕ) → h.major ≡ 2 → IsBehind bytes h content next → BeginsBehind bytes h (record { item = item.Whole; next = next })
binary_begins bytes h content next m b =
    let after = drop h.next bytes in
    let fits : h.number ≤ length after = let n = b.next_is in let w = b.within in omega (arith, length-drop h.next bytes) in
    let rest : drop next bytes ≡ drop h.number after = ap (λ n. drop n bytes) b.next_is ∙ sym (drop-drop h.number h.next bytes) in
    begins_behind bytes h item.Whole (string_calls 2 (length content) content) next
    (λ frames. major_is h 2 after frames m ∙ string_goes_behind 2 h.number after content (drop next bytes) frames fits refl b.content_is rest)
    (omega arith, record { value = value.Binary (content ∷ []); puts_it = λ levels. refl; begins = tt; closed = λ depth more. refl }) (λ here e. single.binary (string_by bytes here (drop next bytes) h 2 m fits refl rest e)) (let n = b.next_is in omega arith) b.within

-- a text behind its head
pub text_begins : (bytes : List ℕ) (h : made_head.Head) (content : List ℕ) (next : ℕ) → h.major ≡ 3 → IsBehind bytes h content next → IsUtf8 content → BeginsBehind bytes h (record { item = item.Whole; next = next })
text_begins bytes h content next m b u =
    let after = drop h.next bytes in
    let fits : h.number ≤ length after = let n = b.next_is in let w = b.within in omega (arith, length-drop h.next bytes) in
    let rest : drop next bytes ≡ drop h.number after = ap (λ n. drop n bytes) b.next_is ∙ sym (drop-drop h.number h.next bytes) in
    let utf8 : IsTrue (is_piece 3 (take h.number after)) = subst (λ x. IsTrue (is_piece 3 x)) b.content_is (is_utf8-from_IsUtf8 content u) in
    begins_behind bytes h item.Whole (string_calls 3 (length content) content) next
    (λ frames. major_is h 3 after frames m ∙ string_goes_behind 3 h.number after content (drop next bytes) frames fits utf8 b.content_is rest)
    (omega arith, record { value = value.Text (content ∷ []); puts_it = λ levels. refl; begins = tt; closed = λ depth more. refl }) (λ here e. single.text (string_by bytes here (drop next bytes) h 3 m fits utf8 rest e)) (let n = b.next_is in omega arith) b.within

pub no_binary : (bytes : List ℕ) (h : made_head.Head) → h.major ≡ 2 → h.next ≤ length bytes → length bytes < h.next + h.number → BeginsNothingBehind bytes h
no_binary bytes h m w l = begins_nothing_behind bytes h (λ frames. major_is h 2 (drop h.next bytes) frames m ∙ no_string_step 2 h.number (drop h.next bytes) frames (λ k u. omega (arith, length-drop h.next bytes)))

pub no_text : (bytes : List ℕ) (h : made_head.Head) → h.major ≡ 3 → h.next ≤ length bytes → (h.next + h.number ≤ length bytes → IsUtf8 (take h.number (drop h.next bytes)) → ⊥) → BeginsNothingBehind bytes h
no_text bytes h m w n =
    begins_nothing_behind bytes h
    (λ frames. major_is h 3 (drop h.next bytes) frames m
    ∙ no_string_step 3 h.number (drop h.next bytes) frames (λ k u. n (omega (arith, length-drop h.next bytes)) (IsUtf8-from_is_utf8 (take h.number (drop h.next bytes)) u)))

-- a tag that is passed over
pub tag_begins : (bytes : List ℕ) (h : made_head.Head) → h.major ≡ 6 → h.number ≢ 2 → h.number ≢ 3 → h.next ≤ length bytes → BeginsBehind bytes h (record { item = item.Tag; next = h.next })
tag_begins bytes h m a b w = record {
  leads = λ frames left made f. one_step (f ∙ major_is h 6 (drop h.next bytes) frames m ∙ other_tag h.number (drop h.next bytes) frames a b);
  is = tt;
  head_is = λ here e. single.other_tag (headed_by bytes h 6 here m e) a b;
  later = omega arith;
  within = w;
}

-- the move of a tag for numbers
number_move : (tag : ℕ) (h : made_head.Head) (after : List ℕ) (frames : List OpenItem) → h.major ≡ 6 → h.number ≡ tag → (tag_step tag after frames ≡ moves [] after (Bignum tag frames))
    → body_step h.major h.number after frames ≡ moves [] after (Bignum tag frames)
number_move tag h after frames m n e = major_is h 6 after frames m ∙ ap (λ k. body_step 6 k after frames) n ∙ e

-- a number under its tag, by what its byte string is
number_behind : (tag : ℕ) (bytes : List ℕ) (h : made_head.Head) (bignum : MadeBignum) → h.major ≡ 6 → h.number ≡ tag
    → ((after : List ℕ) (frames : List OpenItem) → tag_step tag after frames ≡ moves [] after (Bignum tag frames)) → (number : IsNumberAt bytes h.next bignum) → fits tag number.content ≡ true
    → (frames : List OpenItem) (left : List ℕ) (made : List Call) → reading_step (Item frames) left ≡ body_step h.major h.number (drop h.next bytes) frames
    → ItemSteps (spot (Item frames) left made) (spot (Ended frames) (drop bignum.next bytes) (made ++ (number_call tag (byte_string (drop h.next bytes)) ∷ [])))
number_behind tag bytes h bignum m k e number f frames left made step_is =
    subst (λ x. ItemSteps (spot (Item frames) left made) (spot (Ended frames) (drop bignum.next bytes) (made ++ (number_call tag x ∷ [])))) (sym (byte_string_is number.stands))
    (number_leads tag frames (body_step h.major h.number (drop h.next bytes) frames) number.stands f (number_move tag h (drop h.next bytes) frames m k (e (drop h.next bytes) frames)) left made step_is)

pub big_begins : (bytes : List ℕ) (h : made_head.Head) (bignum : MadeBignum) → h.major ≡ 6 → h.number ≡ 2 → (number : IsNumberAt bytes h.next bignum) → fits 2 number.content ≡ true
    → BeginsBehind bytes h (record { item = item.Big h.next; next = bignum.next })
big_begins bytes h bignum m k number f = record {
  leads = number_behind 2 bytes h bignum m k (λ after frames. refl) number f;
  is = record { content = number.content; rest = _; stands = number.stands; small = f };
  head_is = λ here e. single.big (numbered_by bytes h 2 here m k e) number.stands (fits_2 number.content f);
  later = let l = number.later in omega arith;
  within = number.within;
}

pub negative_big_begins : (bytes : List ℕ) (h : made_head.Head) (bignum : MadeBignum) → h.major ≡ 6 → h.number ≡ 3 → (number : IsNumberAt bytes h.next bignum) → fits 3 number.content ≡ true
    → BeginsBehind bytes h (record { item = item.NegativeBig h.next; next = bignum.next })
negative_big_begins bytes h bignum m k number f = record {
  leads = number_behind 3 bytes h bignum m k (λ after frames. refl) number f;
  is = record { content = number.content; rest = _; stands = number.stands; small = f };
  head_is = λ here e. single.negative_big (numbered_by bytes h 3 here m k e) number.stands (fits_3 number.content f);
  later = let l = number.later in omega arith;
  within = number.within;
}

pub lacks_number : (tag : ℕ) (bytes : List ℕ) (h : made_head.Head) → h.major ≡ 6 → h.number ≡ tag → IsNumberTag tag → LacksNumber tag (drop h.next bytes) → BeginsNothingBehind bytes h
lacks_number tag bytes h m k t n = no_number_behind m (subst IsNumberTag (sym k) t) (subst (λ x. LacksNumber x (drop h.next bytes)) (sym k) n)

-- there are no items with other major types
pub no_major : (h : made_head.Head) (after : List ℕ) (frames : List OpenItem) → h.major ≢ 0 → h.major ≢ 1 → h.major ≢ 2 → h.major ≢ 3 → h.major ≢ 4 → h.major ≢ 5 → h.major ≢ 6 → body_step h.major h.number after frames ≡ None
no_major h after frames a b c d e f g =
    let is_a : (h.major == 0) ≡ false = grind (arith, nat_tests) in
    let is_b : (h.major == 1) ≡ false = grind (arith, nat_tests) in
    let is_c : (h.major == 2) ≡ false = grind (arith, nat_tests) in
    let is_d : (h.major == 3) ≡ false = grind (arith, nat_tests) in
    let is_e : (h.major == 4) ≡ false = grind (arith, nat_tests) in
    let is_f : (h.major == 5) ≡ false = grind (arith, nat_tests) in
    let is_g : (h.major == 6) ≡ false = grind (arith, nat_tests) in
    rw (is_a, is_b, is_c, is_d, is_e, is_f, is_g) refl

-- a byte string is one number
pub same_number : {bytes content rest other last : List ℕ} → IsByteString bytes content rest → IsByteString bytes other last → big_endian content ≡ big_endian other
same_number s t = ap big_endian (one_byte_string s t).0
