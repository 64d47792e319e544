-- Each step of the reader brings its end nearer.
use Rattle.std.specs.Prelude.{◌≡◌, ℕ, zero, suc, ◌+◌, ◌*◌, ◌/◌, ◌%◌, ◌<◌, ◌≤◌, pos, negsuc, Bool, true, false, ◌&&◌, ◌==◌, nat_lt, nat_le, if◌then◌else◌, List, [], ◌∷◌, ◌++◌, length, take, drop, Option, Some, None, ⊤}
use Rattle.std.specs.Int.Digits.{number_from_digits}
use Rattle.std.proofs.Common.{sym, subst, arith}
use Rattle.std.proofs.lemmas.List.{length-drop}
use Rattle.sval_label.specs.Calls.{Call, U64, U128, I128}
use Rattle.sval_label.specs.Calls as calls
use Rattle.sval_cbor_read.specs.Items.{ItemHead, head, wide_head, head_at_front, is_piece, negative_type}
use Rattle.sval_cbor_read.specs.Reading.{OpenItem, Items, Keys, Values, ItemState, Item, Part, Ended, Pieces, Bignum, BignumPieces, Move, moves, Mark, BinaryPieces, TextPieces, SeqToBreak, MapToBreak, Falsehood, mark_of, marked, string_calls, string_step, tag_step, body_step, head_step, first_step, item_step, fragment_call, string_end, with_piece, piece_step, fits, number_call, bignum_step, bignum_begins, bignum_piece, part_or_end, part_step, ended_step, reading_step, distance}
use Rattle.sval_cbor_read.specs.Reading as reading

near : {made : List Call} {left : List ℕ} {next : ItemState} {m : Move} {k : ℕ} → moves made left next ≡ Some m → distance next left < k → distance m.next m.left < k
near {made = made} {left = left} {next = next} {m = m} {k = k} e h =
    let one : Move = record { calls = made; left = left; next = next } in
    let f : m ≡ one = cc e in subst (λ x. distance x.next x.left < k) (sym f) h

pub no_move : {m : Move} → (let o : Option Move = None in o) ≡ Some m → ⊥
no_move e = cc e

-- what follows a head is shorter
abbrev pub IsShorter : List ℕ → Option ItemHead → Type 0
IsShorter bytes None = ⊤
IsShorter bytes (Some (head major n after)) = length after < length bytes

wide_by : (b : Bool) (first major n width : ℕ) (bytes : List ℕ) → IsShorter (first ∷ bytes) (let o : Option ItemHead = if b then Some (head major n (drop width bytes)) else None in o)
wide_by true first major n width bytes = omega (arith, length-drop width bytes)
wide_by false first major n width bytes = tt

wide_shorter : (first major width : ℕ) (bytes : List ℕ) → IsShorter (first ∷ bytes) (wide_head major width bytes)
wide_shorter first major width bytes = wide_by (nat_le width (length bytes)) first major (number_from_digits 256 (take width bytes)) width bytes

pub head_shorter : (bytes : List ℕ) → IsShorter bytes (head_at_front bytes)
unfolding head_at_front
head_shorter [] = tt
head_shorter (first ∷ bytes) = go (nat_lt (first % 32) 24) (first % 32 == 24) (first % 32 == 25) (first % 32 == 26) (first % 32 == 27)
  where
    go : (a b c d f : Bool) → IsShorter (first ∷ bytes) (let o : Option ItemHead = if a then Some (head (first / 32) (first % 32) bytes) else if b then wide_head (first / 32) 1 bytes else if c then wide_head (first / 32) 2 bytes else if d then wide_head (first / 32) 4 bytes else if f then wide_head (first / 32) 8 bytes else None in o)
    go true b c d f = omega arith
    go false true c d f = wide_shorter first (first / 32) 1 bytes
    go false false true d f = wide_shorter first (first / 32) 2 bytes
    go false false false true f = wide_shorter first (first / 32) 4 bytes
    go false false false false true = wide_shorter first (first / 32) 8 bytes
    go false false false false false = tt

dropped : (n : ℕ) (after : List ℕ) → length (drop n after) ≤ length after
dropped n after = omega (arith, length-drop n after)

-- a piece that is taken leaves fewer bytes
piece_nearer : (major : ℕ) (bytes : List ℕ) (k : ℕ) (next : List ℕ → List ℕ → Option Move) (m : Move) (h : Option ItemHead) → IsShorter bytes h
    → ((content left : List ℕ) → length left < length bytes → next content left ≡ Some m → distance m.next m.left < k) → with_piece major h next ≡ Some m → distance m.next m.left < k
piece_nearer major bytes k next m None s goes e = absurd (no_move e)
piece_nearer major bytes k next m (Some (head kind n after)) s goes e = go (kind == major && nat_le n (length after) && is_piece major (take n after)) e
  where
    go : (b : Bool) → (let o : Option Move = if b then next (take n after) (drop n after) else None in o) ≡ Some m → distance m.next m.left < k
    go true f = goes (take n after) (drop n after) (omega (arith, dropped n after)) f
    go false f = absurd (no_move f)

string_nearer : (major n : ℕ) (after : List ℕ) (frames : List OpenItem) (k : ℕ) (m : Move) → 6 * length after + 3 * length frames + 2 < k → string_step major n after frames ≡ Some m → distance m.next m.left < k
string_nearer major n after frames k m h e = go (nat_le n (length after) && is_piece major (take n after)) e
  where
    go : (b : Bool) → (let o : Option Move = if b then moves (string_calls major n (take n after)) (drop n after) (Ended frames) else None in o) ≡ Some m → distance m.next m.left < k
    go true f = near f (omega (arith, dropped n after))
    go false f = absurd (no_move f)

tag_nearer : (tag : ℕ) (after : List ℕ) (frames : List OpenItem) (k : ℕ) (m : Move) → 6 * length after + 3 * length frames < k → tag_step tag after frames ≡ Some m → distance m.next m.left < k
tag_nearer tag after frames k m h e = go (tag == 2) (tag == 3) e
  where
    go : (a b : Bool) → (if a then moves [] after (Bignum 2 frames) else if b then moves [] after (Bignum 3 frames) else moves [] after (Item frames)) ≡ Some m → distance m.next m.left < k
    go true b f = near f h
    go false true f = near f h
    go false false f = near f h

body_nearer : (major n : ℕ) (after : List ℕ) (frames : List OpenItem) (k : ℕ) (m : Move) → 6 * length after + 3 * length frames + 5 < k → body_step major n after frames ≡ Some m → distance m.next m.left < k
body_nearer major n after frames k m h e = go (major == 0) (major == 1) (major == 2) (major == 3) (major == 4) (major == 5) (major == 6) e
  where
    go : (a b c d f g i : Bool)
        → (if a then moves (Call.Int U64 (pos n) ∷ []) after (Ended frames)
        else if b then moves (Call.Int (negative_type n) (negsuc n) ∷ []) after (Ended frames)
        else if c then string_step 2 n after frames
        else if d then string_step 3 n after frames
        else if f then moves (Call.Begin calls.Seq (Some n) ∷ []) after (Part (Items (Some n) ∷ frames))
        else if g then moves (Call.Begin calls.Map (Some n) ∷ []) after (Part (Keys (Some n) ∷ frames))
        else if i then tag_step n after frames
        else None) ≡ Some m → distance m.next m.left < k
    go true b c d f g i j = near j (omega arith)
    go false true c d f g i j = near j (omega arith)
    go false false true d f g i j = string_nearer 2 n after frames k m (omega arith) j
    go false false false true f g i j = string_nearer 3 n after frames k m (omega arith) j
    go false false false false true g i j = near j (omega arith)
    go false false false false false true i j = near j (omega arith)
    go false false false false false false true j = tag_nearer n after frames k m (omega arith) j
    go false false false false false false false j = absurd (no_move j)

head_nearer : (bytes : List ℕ) (frames : List OpenItem) (m : Move) (h : Option ItemHead) → IsShorter bytes h → head_step h frames ≡ Some m → distance m.next m.left < distance (Item frames) bytes
head_nearer bytes frames m None s e = absurd (no_move e)
head_nearer bytes frames m (Some (head major n after)) s e = body_nearer major n after frames (distance (Item frames) bytes) m (omega arith) e

marked_nearer : (mark : Mark) (first : ℕ) (bytes : List ℕ) (frames : List OpenItem) (m : Move) → marked mark bytes frames ≡ Some m → distance m.next m.left < distance (Item frames) (first ∷ bytes)
marked_nearer BinaryPieces first bytes frames m e = near e (omega arith)
marked_nearer TextPieces first bytes frames m e = near e (omega arith)
marked_nearer SeqToBreak first bytes frames m e = near e (omega arith)
marked_nearer MapToBreak first bytes frames m e = near e (omega arith)
marked_nearer Falsehood first bytes frames m e = near e (omega arith)
marked_nearer reading.Truth first bytes frames m e = near e (omega arith)
marked_nearer reading.Null first bytes frames m e = near e (omega arith)

first_nearer : (first : ℕ) (bytes : List ℕ) (frames : List OpenItem) (m : Move) (o : Option Mark) → first_step o bytes (head_at_front (first ∷ bytes)) frames ≡ Some m → distance m.next m.left < distance (Item frames) (first ∷ bytes)
first_nearer first bytes frames m (Some mark) e = marked_nearer mark first bytes frames m e
first_nearer first bytes frames m None e = head_nearer (first ∷ bytes) frames m (head_at_front (first ∷ bytes)) (head_shorter (first ∷ bytes)) e

bignum_nearer : (tag : ℕ) (content left : List ℕ) (frames : List OpenItem) (k : ℕ) (m : Move) → 6 * length left + 3 * length frames + 2 < k → bignum_step tag content left frames ≡ Some m
    → distance m.next m.left < k
bignum_nearer tag content left frames k m h e = go (fits tag content) e
  where
    go : (b : Bool) → (if b then moves (number_call tag content ∷ []) left (Ended frames) else None) ≡ Some m → distance m.next m.left < k
    go true f = near f h
    go false f = absurd (no_move f)

or_end_nearer : (left : Option ℕ) (bytes : List ℕ) (k : ℕ) (ends : Option Move) (next : Option ℕ → Option Move) (broken : List ℕ → Option Move) (m : Move)
    → (ends ≡ Some m → distance m.next m.left < k) → ((more : Option ℕ) → next more ≡ Some m → distance m.next m.left < k)
    → ((after : List ℕ) → length after < length bytes → broken after ≡ Some m → distance m.next m.left < k) → part_or_end left bytes ends next broken ≡ Some m → distance m.next m.left < k
or_end_nearer (Some zero) bytes k ends next broken m f g h e = f e
or_end_nearer (Some (suc n)) bytes k ends next broken m f g h e = g (Some n) e
or_end_nearer None [] k ends next broken m f g h e = absurd (no_move e)
or_end_nearer None (first ∷ bytes) k ends next broken m f g h e = go (first == 0xff) e
  where
    go : (b : Bool) → (if b then broken bytes else next None) ≡ Some m → distance m.next m.left < k
    go true i = h bytes (omega arith) i
    go false i = g None i

part_nearer : (bytes : List ℕ) (frames : List OpenItem) (m : Move) → part_step bytes frames ≡ Some m → distance m.next m.left < distance (Part frames) bytes
part_nearer bytes [] m e = absurd (no_move e)
part_nearer bytes (Items left ∷ frames) m e =
    or_end_nearer left bytes (distance (Part (Items left ∷ frames)) bytes) (moves (Call.End calls.Seq ∷ []) bytes (Ended frames)) (λ more. moves (Call.PartBegin calls.Item ∷ []) bytes (Item (Items more ∷ frames)))
    (λ after. moves (Call.End calls.Seq ∷ []) after (Ended frames)) m (λ f. near f (omega arith)) (λ more f. near f (omega arith)) (λ after l f. near f (omega arith)) e
part_nearer bytes (Keys left ∷ frames) m e =
    or_end_nearer left bytes (distance (Part (Keys left ∷ frames)) bytes) (moves (Call.End calls.Map ∷ []) bytes (Ended frames)) (λ more. moves (Call.PartBegin calls.Key ∷ []) bytes (Item (Keys more ∷ frames)))
    (λ after. moves (Call.End calls.Map ∷ []) after (Ended frames)) m (λ f. near f (omega arith)) (λ more f. near f (omega arith)) (λ after l f. near f (omega arith)) e
part_nearer bytes (Values left ∷ frames) m e = absurd (no_move e)

-- each step brings the end nearer
pub step_nearer : (state : ItemState) (bytes : List ℕ) (m : Move) → reading_step state bytes ≡ Some m → distance m.next m.left < distance state bytes
step_nearer (Item frames) [] m e = absurd (no_move e)
step_nearer (Item frames) (first ∷ bytes) m e = first_nearer first bytes frames m (mark_of first) e
step_nearer (Part frames) bytes m e = part_nearer bytes frames m e
step_nearer (Ended []) bytes m e = absurd (no_move e)
step_nearer (Ended (Items left ∷ frames)) bytes m e = near e (omega arith)
step_nearer (Ended (Keys left ∷ frames)) bytes m e = near e (omega arith)
step_nearer (Ended (Values left ∷ frames)) bytes m e = near e (omega arith)
step_nearer (Pieces major frames) [] m e = absurd (no_move e)
step_nearer (Pieces major frames) (first ∷ bytes) m e = go (first == 0xff) e
  where
    go : (b : Bool) → (if b then moves (string_end major ∷ []) bytes (Ended frames) else with_piece major (head_at_front (first ∷ bytes)) (λ piece left. moves (fragment_call major piece ∷ []) left (Pieces major frames))) ≡ Some m
        → distance m.next m.left < distance (Pieces major frames) (first ∷ bytes)
    go true f = near f (omega arith)
    go false f = piece_nearer major (first ∷ bytes) (distance (Pieces major frames) (first ∷ bytes)) (λ piece left. moves (fragment_call major piece ∷ []) left (Pieces major frames)) m (head_at_front (first ∷ bytes)) (head_shorter (first ∷ bytes))
        (λ content left l g. near g (omega arith)) f
step_nearer (Bignum tag frames) [] m e = absurd (no_move e)
step_nearer (Bignum tag frames) (first ∷ bytes) m e = go (first == 0x5f) e
  where
    go : (b : Bool) → (if b then moves [] bytes (BignumPieces tag [] frames) else with_piece 2 (head_at_front (first ∷ bytes)) (λ piece left. bignum_step tag piece left frames)) ≡ Some m
        → distance m.next m.left < distance (Bignum tag frames) (first ∷ bytes)
    go true f = near f (omega arith)
    go false f = piece_nearer 2 (first ∷ bytes) (distance (Bignum tag frames) (first ∷ bytes)) (λ piece left. bignum_step tag piece left frames) m (head_at_front (first ∷ bytes)) (head_shorter (first ∷ bytes))
        (λ content left l g. bignum_nearer tag content left frames (distance (Bignum tag frames) (first ∷ bytes)) m (omega arith) g) f
step_nearer (BignumPieces tag front frames) [] m e = absurd (no_move e)
step_nearer (BignumPieces tag front frames) (first ∷ bytes) m e = go (first == 0xff) e
  where
    go : (b : Bool) → (if b then bignum_step tag front bytes frames else with_piece 2 (head_at_front (first ∷ bytes)) (λ piece left. moves [] left (BignumPieces tag (front ++ piece) frames))) ≡ Some m
        → distance m.next m.left < distance (BignumPieces tag front frames) (first ∷ bytes)
    go true f = bignum_nearer tag front bytes frames (distance (BignumPieces tag front frames) (first ∷ bytes)) m (omega arith) f
    go false f = piece_nearer 2 (first ∷ bytes) (distance (BignumPieces tag front frames) (first ∷ bytes)) (λ piece left. moves [] left (BignumPieces tag (front ++ piece) frames)) m (head_at_front (first ∷ bytes)) (head_shorter (first ∷ bytes))
        (λ content left l g. near g (omega arith)) f
