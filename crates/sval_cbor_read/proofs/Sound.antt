-- Where the reader's steps end well, the bytes are an item.
use Rattle.std.specs.Prelude.{◌≡◌, ◌≢◌, ℕ, zero, suc, ◌^◌, ◌<◌, ◌≤◌, pos, negsuc, Bool, true, false, ◌&&◌, ◌==◌, nat_lt, nat_le, if◌then◌else◌, List, [], ◌∷◌, ◌++◌, length, take, drop, Option, Some, None, IsTrue, refl}
use Rattle.std.proofs.Common.{sym, ap, ◌∙◌, subst, arith, append_assoc, append-nil}
use Rattle.std.proofs.lemmas.Bool.{and_parts}
use Rattle.std.proofs.lemmas.Bool.Decides.{nat_tests}
use Rattle.std.proofs.lemmas.Int.Digits.{number_after_append, number_after_ge}
use Rattle.sval_label.specs.Calls.{Call, U64, U128, I128}
use Rattle.sval_label.specs.Calls as calls
use Rattle.sval_core.specs.Trees.{Tree, Null, Truth, Int, Text, Binary, Container, Parts, none, part}
use Rattle.sval_cbor_read.specs.Items.{ItemHead, head, head_at_front, is_piece, negative_type, big_endian, IsDefiniteString, string, ArePieces, break, piece, IsByteString, definite, in_pieces, IsItem, by_head, bytes_in_pieces, texts_in_pieces, seq_to_break, map_to_break, falsehood, truth, null, IsBody, unsigned, negative, binary, text, seq, map, big, negative_big, tagged, AreItems, no_items, an_item, AreEntries, no_pairs, a_pair, ItemsToBreak, items_end, items_go_on, EntriesToBreak, entries_end, entries_go_on}
use Rattle.sval_cbor_read.specs.Reading.{OpenItem, Items, Keys, Values, ItemState, Item, Part, Ended, Pieces, Bignum, BignumPieces, Move, moves, Mark, BinaryPieces, TextPieces, SeqToBreak, MapToBreak, Falsehood, mark_of, marked, string_calls, string_step, tag_step, body_step, head_step, first_step, item_step, fragment_call, string_end, with_piece, piece_step, fits, number_call, bignum_step, bignum_begins, bignum_piece, part_or_end, part_step, ended_step, reading_step, ReadsTo, at_end, goes_on}
use Rattle.sval_cbor_read.specs.Reading as reading
use Rattle.sval_cbor_read.proofs.Nearer.{no_move}

-- ---- what the bytes have to be for the steps to end well

abbrev HaveItems : Option ℕ → List ℕ → List ℕ → Type 0
HaveItems (Some n) bytes rest = (trees : Parts) × AreItems n bytes trees rest
HaveItems None bytes rest = (trees : Parts) × ItemsToBreak bytes trees rest

abbrev HaveEntries : Option ℕ → List ℕ → List ℕ → Type 0
HaveEntries (Some n) bytes rest = (entries : Parts) × AreEntries n bytes entries rest
HaveEntries None bytes rest = (entries : Parts) × EntriesToBreak bytes entries rest

-- ---- marks

abbrev pub byte_of : Mark → ℕ
byte_of BinaryPieces = 0x5f
byte_of TextPieces = 0x7f
byte_of SeqToBreak = 0x9f
byte_of MapToBreak = 0xbf
byte_of Falsehood = 0xf4
byte_of reading.Truth = 0xf5
byte_of reading.Null = 0xf6

same_mark : {a b : Mark} → Some a ≡ Some b → a ≡ b
same_mark e = cc e

pub mark_is : (first : ℕ) (mark : Mark) → mark_of first ≡ Some mark → first ≡ byte_of mark
mark_is first mark e = go (first == 0x5f) (first == 0x7f) (first == 0x9f) (first == 0xbf) (first == 0xf4) (first == 0xf5) (first == 0xf6) refl refl refl refl refl refl refl e
  where
    go : (a b c d f g h : Bool) → (first == 0x5f) ≡ a → (first == 0x7f) ≡ b → (first == 0x9f) ≡ c → (first == 0xbf) ≡ d → (first == 0xf4) ≡ f → (first == 0xf5) ≡ g → (first == 0xf6) ≡ h
        → (let o : Option Mark = if a then Some BinaryPieces else if b then Some TextPieces else if c then Some SeqToBreak else if d then Some MapToBreak else if f then Some Falsehood else if g then Some reading.Truth else if h then Some reading.Null else None in o) ≡ Some mark
        → first ≡ byte_of mark
    go true b c d f g h ea eb ec ed ef eg eh k = subst (λ x. first ≡ byte_of x) (same_mark k) (grind (arith, nat_tests))
    go false true c d f g h ea eb ec ed ef eg eh k = subst (λ x. first ≡ byte_of x) (same_mark k) (grind (arith, nat_tests))
    go false false true d f g h ea eb ec ed ef eg eh k = subst (λ x. first ≡ byte_of x) (same_mark k) (grind (arith, nat_tests))
    go false false false true f g h ea eb ec ed ef eg eh k = subst (λ x. first ≡ byte_of x) (same_mark k) (grind (arith, nat_tests))
    go false false false false true g h ea eb ec ed ef eg eh k = subst (λ x. first ≡ byte_of x) (same_mark k) (grind (arith, nat_tests))
    go false false false false false true h ea eb ec ed ef eg eh k = subst (λ x. first ≡ byte_of x) (same_mark k) (grind (arith, nat_tests))
    go false false false false false false true ea eb ec ed ef eg eh k = subst (λ x. first ≡ byte_of x) (same_mark k) (grind (arith, nat_tests))
    go false false false false false false false ea eb ec ed ef eg eh k = absurd (cc k)

-- ---- strings

fitting : ℕ → ℕ → List ℕ → Bool
fitting major n after = nat_le n (length after) && is_piece major (take n after)

-- a piece that is read is a definite string
abbrev IsRead : ℕ → List ℕ → (List ℕ → List ℕ → Option Move) → Move → Type 0
IsRead major bytes next m = (content : List ℕ) × (left : List ℕ) × IsDefiniteString major bytes content left × (next content left ≡ Some m)

piece_by : (major m n : ℕ) (bytes after : List ℕ) (next : List ℕ → List ℕ → Option Move) (move : Move) (b : Bool)
    → (m == major && nat_le n (length after) && is_piece major (take n after)) ≡ b → head_at_front bytes ≡ Some (head m n after)
    → (let o : Option Move = if b then next (take n after) (drop n after) else None in o) ≡ Some move → IsRead major bytes next move
piece_by major m n bytes after next move true f h e =
    let (ab, c) = and_parts (m == major && nat_le n (length after)) (is_piece major (take n after)) f in
    let (a, b) = and_parts (m == major) (nat_le n (length after)) ab in
    let same : m ≡ major = grind (arith, nat_tests) in
    let l : n ≤ length after = grind (arith, nat_tests) in
    let g : head_at_front bytes ≡ Some (head major n after) = subst (λ x. head_at_front bytes ≡ Some (head x n after)) same h in
    (take n after, drop n after, string g l c, e)
piece_by major m n bytes after next move false f h e = absurd (no_move e)

piece_from : (major : ℕ) (bytes : List ℕ) (next : List ℕ → List ℕ → Option Move) (move : Move) (h : Option ItemHead) → head_at_front bytes ≡ h → with_piece major h next ≡ Some move → IsRead major bytes next move
piece_from major bytes next move None h e = absurd (no_move e)
piece_from major bytes next move (Some (head m n after)) h e = piece_by major m n bytes after next move (m == major && nat_le n (length after) && is_piece major (take n after)) refl h e

-- ---- heads

pub fits_2 : (content : List ℕ) → fits 2 content ≡ true → big_endian content < 2 ^ 128
fits_2 content h = let e : nat_lt (big_endian content) (2 ^ 128) ≡ true = h in grind (arith, nat_tests)

pub fits_3 : (content : List ℕ) → fits 3 content ≡ true → big_endian content < 2 ^ 127
fits_3 content h = let e : nat_lt (big_endian content) (2 ^ 127) ≡ true = h in grind (arith, nat_tests)

-- ---- what the bytes have to be for the steps to end with these bytes left

module _ (last : List ℕ) where
  abbrev After : List OpenItem → List ℕ → Type 0
  After [] bytes = bytes ≡ last
  After (Items left ∷ frames) bytes = (rest : List ℕ) × HaveItems left bytes rest × After frames rest
  After (Keys left ∷ frames) bytes = (value : Tree) × (between : List ℕ) × (rest : List ℕ) × IsItem bytes value between × HaveEntries left between rest × After frames rest
  After (Values left ∷ frames) bytes = (rest : List ℕ) × HaveEntries left bytes rest × After frames rest

  abbrev InPart : List OpenItem → List ℕ → Type 0
  InPart [] bytes = ⊥
  InPart (Items left ∷ frames) bytes = (rest : List ℕ) × HaveItems left bytes rest × After frames rest
  InPart (Keys left ∷ frames) bytes = (rest : List ℕ) × HaveEntries left bytes rest × After frames rest
  InPart (Values left ∷ frames) bytes = ⊥

  abbrev Rest : ItemState → List ℕ → Type 0
  Rest (Item frames) bytes = (tree : Tree) × (rest : List ℕ) × IsItem bytes tree rest × After frames rest
  Rest (Part frames) bytes = InPart frames bytes
  Rest (Ended frames) bytes = After frames bytes
  Rest (Pieces major frames) bytes = (content : List ℕ) × (rest : List ℕ) × ArePieces major bytes content rest × After frames rest
  Rest (Bignum tag frames) bytes = (content : List ℕ) × (rest : List ℕ) × IsByteString bytes content rest × (fits tag content ≡ true) × After frames rest
  Rest (BignumPieces tag front frames) bytes = (content : List ℕ) × (rest : List ℕ) × ArePieces 2 bytes content rest × (fits tag (front ++ content) ≡ true) × After frames rest

  moved : {made : List Call} {left : List ℕ} {next : ItemState} {m : Move} → moves made left next ≡ Some m → Rest m.next m.left → Rest next left
  moved {made = made} {left = left} {next = next} {m = m} e r =
      let one : Move = record { calls = made; left = left; next = next } in
      let f : m ≡ one = cc e in subst (λ x. Rest x.next x.left) f r

  marked_back : (mark : Mark) (bytes : List ℕ) (frames : List OpenItem) (m : Move) → marked mark bytes frames ≡ Some m → Rest m.next m.left → Rest (Item frames) (byte_of mark ∷ bytes)
  marked_back BinaryPieces bytes frames m e r = let (content, rest, p, a) = moved e r in (Binary content, rest, bytes_in_pieces p, a)
  marked_back TextPieces bytes frames m e r = let (content, rest, p, a) = moved e r in (Text content, rest, texts_in_pieces p, a)
  marked_back SeqToBreak bytes frames m e r = let (rest, h, a) = moved e r in (Container calls.Seq h.0, rest, seq_to_break h.1, a)
  marked_back MapToBreak bytes frames m e r = let (rest, h, a) = moved e r in (Container calls.Map h.0, rest, map_to_break h.1, a)
  marked_back Falsehood bytes frames m e r = (Truth false, bytes, falsehood, moved e r)
  marked_back reading.Truth bytes frames m e r = (Truth true, bytes, truth, moved e r)
  marked_back reading.Null bytes frames m e r = (Null, bytes, null, moved e r)

  string_by : (major n : ℕ) (after : List ℕ) (frames : List OpenItem) (m : Move) (b : Bool) → (nat_le n (length after) && is_piece major (take n after)) ≡ b
      → (let o : Option Move = if b then moves (string_calls major n (take n after)) (drop n after) (Ended frames) else None in o) ≡ Some m → Rest m.next m.left
      → (n ≤ length after) × IsTrue (is_piece major (take n after)) × After frames (drop n after)
  string_by major n after frames m true f e r =
      let (a, b) = and_parts (nat_le n (length after)) (is_piece major (take n after)) f in
      let l : n ≤ length after = grind (arith, nat_tests) in
      (l, b, moved e r)
  string_by major n after frames m false f e r = absurd (no_move e)

  string_back : (major n : ℕ) (after : List ℕ) (frames : List OpenItem) (m : Move) → string_step major n after frames ≡ Some m → Rest m.next m.left
      → (n ≤ length after) × IsTrue (is_piece major (take n after)) × After frames (drop n after)
  string_back major n after frames m e r = string_by major n after frames m (nat_le n (length after) && is_piece major (take n after)) refl e r

  piece_back : (major : ℕ) (bytes : List ℕ) (frames : List OpenItem) (m : Move) → piece_step major bytes frames ≡ Some m → Rest m.next m.left → Rest (Pieces major frames) bytes
  piece_back major [] frames m e r = absurd (no_move e)
  piece_back major (first ∷ bytes) frames m e r = go (first == 0xff) refl e
    where
      go : (b : Bool) → (first == 0xff) ≡ b
          → (if b then moves (string_end major ∷ []) bytes (Ended frames) else with_piece major (head_at_front (first ∷ bytes)) (λ piece left. moves (fragment_call major piece ∷ []) left (Pieces major frames))) ≡ Some m
          → Rest (Pieces major frames) (first ∷ bytes)
      go true f k = let is : first ≡ 0xff = grind (arith, nat_tests) in ([], bytes, subst (λ x. ArePieces major (x ∷ bytes) [] bytes) (sym is) break, moved k r)
      go false f k =
          let (content, left, s, g) = piece_from major (first ∷ bytes) (λ piece left. moves (fragment_call major piece ∷ []) left (Pieces major frames)) m (head_at_front (first ∷ bytes)) refl k in
          let (more, rest, p, a) = moved g r in
          (content ++ more, rest, piece s p, a)

  -- ---- numbers as byte strings

  fits_by : (b : Bool) (tag : ℕ) (content left : List ℕ) (frames : List OpenItem) (m : Move) → fits tag content ≡ b
      → (if b then moves (number_call tag content ∷ []) left (Ended frames) else None) ≡ Some m → Rest m.next m.left → (fits tag content ≡ true) × After frames left
  fits_by true tag content left frames m f e r = (f, moved e r)
  fits_by false tag content left frames m f e r = absurd (no_move e)

  fits_back : (tag : ℕ) (content left : List ℕ) (frames : List OpenItem) (m : Move) → bignum_step tag content left frames ≡ Some m → Rest m.next m.left
      → (fits tag content ≡ true) × After frames left
  fits_back tag content left frames m e r = fits_by (fits tag content) tag content left frames m refl e r

  bignum_back : (tag : ℕ) (bytes : List ℕ) (frames : List OpenItem) (m : Move) → bignum_begins tag bytes frames ≡ Some m → Rest m.next m.left → Rest (Bignum tag frames) bytes
  bignum_back tag [] frames m e r = absurd (no_move e)
  bignum_back tag (first ∷ bytes) frames m e r = go (first == 0x5f) refl e
    where
      go : (b : Bool) → (first == 0x5f) ≡ b
          → (if b then moves [] bytes (BignumPieces tag [] frames) else with_piece 2 (head_at_front (first ∷ bytes)) (λ piece left. bignum_step tag piece left frames)) ≡ Some m
          → Rest (Bignum tag frames) (first ∷ bytes)
      go true f k =
          let is : first ≡ 0x5f = grind (arith, nat_tests) in
          let (content, rest, p, h, a) = moved k r in
          (content, rest, subst (λ x. IsByteString (x ∷ bytes) content rest) (sym is) (in_pieces p), h, a)
      go false f k =
          let (content, left, s, g) = piece_from 2 (first ∷ bytes) (λ piece left. bignum_step tag piece left frames) m (head_at_front (first ∷ bytes)) refl k in
          let (h, a) = fits_back tag content left frames m g r in
          (content, left, definite s, h, a)

  bignum_piece_back : (tag : ℕ) (front bytes : List ℕ) (frames : List OpenItem) (m : Move) → bignum_piece tag front bytes frames ≡ Some m → Rest m.next m.left → Rest (BignumPieces tag front frames) bytes
  bignum_piece_back tag front [] frames m e r = absurd (no_move e)
  bignum_piece_back tag front (first ∷ bytes) frames m e r = go (first == 0xff) refl e
    where
      go : (b : Bool) → (first == 0xff) ≡ b
          → (if b then bignum_step tag front bytes frames else with_piece 2 (head_at_front (first ∷ bytes)) (λ piece left. moves [] left (BignumPieces tag (front ++ piece) frames))) ≡ Some m
          → Rest (BignumPieces tag front frames) (first ∷ bytes)
      go true f k =
          let is : first ≡ 0xff = grind (arith, nat_tests) in
          let (h, a) = fits_back tag front bytes frames m k r in
          ([], bytes, subst (λ x. ArePieces 2 (x ∷ bytes) [] bytes) (sym is) break, ap (fits tag) (append-nil front) ∙ h, a)
      go false f k =
          let (content, left, s, g) = piece_from 2 (first ∷ bytes) (λ piece left. moves [] left (BignumPieces tag (front ++ piece) frames)) m (head_at_front (first ∷ bytes)) refl k in
          let (more, rest, p, h, a) = moved g r in
          (content ++ more, rest, piece s p, ap (fits tag) (sym (append_assoc front content more)) ∙ h, a)

  tag_back : (tag : ℕ) (after : List ℕ) (frames : List OpenItem) (m : Move) → tag_step tag after frames ≡ Some m → Rest m.next m.left
      → (tree : Tree) × (rest : List ℕ) × IsBody 6 tag after tree rest × After frames rest
  tag_back tag after frames m e r = go (tag == 2) (tag == 3) refl refl e
    where
      go : (a b : Bool) → (tag == 2) ≡ a → (tag == 3) ≡ b
          → (if a then moves [] after (Bignum 2 frames) else if b then moves [] after (Bignum 3 frames) else moves [] after (Item frames)) ≡ Some m
          → (tree : Tree) × (rest : List ℕ) × IsBody 6 tag after tree rest × After frames rest
      go true b f g k =
          let is : tag ≡ 2 = grind (arith, nat_tests) in
          let (content, rest, s, h, a) = moved k r in
          (Int U128 (pos (big_endian content)), rest, subst (λ x. IsBody 6 x after (Int U128 (pos (big_endian content))) rest) (sym is) (big s (fits_2 content h)), a)
      go false true f g k =
          let is : tag ≡ 3 = grind (arith, nat_tests) in
          let (content, rest, s, h, a) = moved k r in
          (Int I128 (negsuc (big_endian content)), rest, subst (λ x. IsBody 6 x after (Int I128 (negsuc (big_endian content))) rest) (sym is) (negative_big s (fits_3 content h)), a)
      go false false f g k =
          let not_2 : tag ≢ 2 = grind (arith, nat_tests) in
          let not_3 : tag ≢ 3 = grind (arith, nat_tests) in
          let (tree, rest, i, a) = moved k r in
          (tree, rest, tagged not_2 not_3 i, a)

  -- an item that begins with this head
  abbrev HasBody : ℕ → ℕ → List ℕ → List OpenItem → Type 0
  HasBody major n after frames = (tree : Tree) × (rest : List ℕ) × IsBody major n after tree rest × After frames rest

  body_is : (k major n : ℕ) (after : List ℕ) (frames : List OpenItem) → (major == k) ≡ true → HasBody k n after frames → HasBody major n after frames
  body_is k major n after frames e h = let is : k ≡ major = grind (arith, nat_tests) in subst (λ x. HasBody x n after frames) is h

  body_back : (major n : ℕ) (after : List ℕ) (frames : List OpenItem) (m : Move) → body_step major n after frames ≡ Some m → Rest m.next m.left → HasBody major n after frames
  body_back major n after frames m e r = go (major == 0) (major == 1) (major == 2) (major == 3) (major == 4) (major == 5) (major == 6) refl refl refl refl refl refl refl e
    where
      go : (a b c d f g h : Bool) → (major == 0) ≡ a → (major == 1) ≡ b → (major == 2) ≡ c → (major == 3) ≡ d → (major == 4) ≡ f → (major == 5) ≡ g → (major == 6) ≡ h
          → (if a then moves (Call.Int U64 (pos n) ∷ []) after (Ended frames)
          else if b then moves (Call.Int (negative_type n) (negsuc n) ∷ []) after (Ended frames)
          else if c then string_step 2 n after frames
          else if d then string_step 3 n after frames
          else if f then moves (Call.Begin calls.Seq (Some n) ∷ []) after (Part (Items (Some n) ∷ frames))
          else if g then moves (Call.Begin calls.Map (Some n) ∷ []) after (Part (Keys (Some n) ∷ frames))
          else if h then tag_step n after frames
          else None) ≡ Some m
          → HasBody major n after frames
      go true b c d f g h ea eb ec ed ef eg eh k = body_is 0 major n after frames ea (Int U64 (pos n), after, unsigned, moved k r)
      go false true c d f g h ea eb ec ed ef eg eh k = body_is 1 major n after frames eb (Int (negative_type n) (negsuc n), after, negative, moved k r)
      go false false true d f g h ea eb ec ed ef eg eh k = let (l, u, a) = string_back 2 n after frames m k r in body_is 2 major n after frames ec (Binary (take n after), drop n after, binary l, a)
      go false false false true f g h ea eb ec ed ef eg eh k = let (l, u, a) = string_back 3 n after frames m k r in body_is 3 major n after frames ed (Text (take n after), drop n after, text l u, a)
      go false false false false true g h ea eb ec ed ef eg eh k = let (rest, i, a) = moved k r in body_is 4 major n after frames ef (Container calls.Seq i.0, rest, seq i.1, a)
      go false false false false false true h ea eb ec ed ef eg eh k = let (rest, i, a) = moved k r in body_is 5 major n after frames eg (Container calls.Map i.0, rest, map i.1, a)
      go false false false false false false true ea eb ec ed ef eg eh k = body_is 6 major n after frames eh (tag_back n after frames m k r)
      go false false false false false false false ea eb ec ed ef eg eh k = absurd (no_move k)

  head_back : (bytes : List ℕ) (frames : List OpenItem) (m : Move) (h : Option ItemHead) → head_at_front bytes ≡ h → head_step h frames ≡ Some m → Rest m.next m.left → Rest (Item frames) bytes
  head_back bytes frames m None h e r = absurd (no_move e)
  head_back bytes frames m (Some (head major n after)) h e r = let (tree, rest, b, a) = body_back major n after frames m e r in (tree, rest, by_head h b, a)

  first_back : (first : ℕ) (bytes : List ℕ) (frames : List OpenItem) (m : Move) (o : Option Mark) → mark_of first ≡ o → first_step o bytes (head_at_front (first ∷ bytes)) frames ≡ Some m → Rest m.next m.left
      → Rest (Item frames) (first ∷ bytes)
  first_back first bytes frames m (Some mark) f e r = subst (λ x. Rest (Item frames) (x ∷ bytes)) (sym (mark_is first mark f)) (marked_back mark bytes frames m e r)
  first_back first bytes frames m None f e r = head_back (first ∷ bytes) frames m (head_at_front (first ∷ bytes)) refl e r

  item_back : (bytes : List ℕ) (frames : List OpenItem) (m : Move) → item_step bytes frames ≡ Some m → Rest m.next m.left → Rest (Item frames) bytes
  item_back [] frames m e r = absurd (no_move e)
  item_back (first ∷ bytes) frames m e r = first_back first bytes frames m (mark_of first) refl e r

  -- ---- parts

  items_back : (left : Option ℕ) (bytes : List ℕ) (frames : List OpenItem) (m : Move) → part_step bytes (Items left ∷ frames) ≡ Some m → Rest m.next m.left → InPart (Items left ∷ frames) bytes
  items_back (Some zero) bytes frames m e r = (bytes, (none, no_items), moved e r)
  items_back (Some (suc n)) bytes frames m e r = let (tree, between, i, (rest, s, a)) = moved e r in (rest, (part calls.Item tree s.0, an_item i s.1), a)
  items_back None [] frames m e r = absurd (no_move e)
  items_back None (first ∷ bytes) frames m e r = go (first == 0xff) refl e
    where
      go : (b : Bool) → (first == 0xff) ≡ b
          → (if b then moves (Call.End calls.Seq ∷ []) bytes (Ended frames) else moves (Call.PartBegin calls.Item ∷ []) (first ∷ bytes) (Item (Items None ∷ frames))) ≡ Some m
          → InPart (Items None ∷ frames) (first ∷ bytes)
      go true f k = let is : first ≡ 0xff = grind (arith, nat_tests) in (bytes, (none, subst (λ x. ItemsToBreak (x ∷ bytes) none bytes) (sym is) items_end), moved k r)
      go false f k = let (tree, between, i, (rest, s, a)) = moved k r in (rest, (part calls.Item tree s.0, items_go_on i s.1), a)

  entries_back : (left : Option ℕ) (bytes : List ℕ) (frames : List OpenItem) (m : Move) → part_step bytes (Keys left ∷ frames) ≡ Some m → Rest m.next m.left → InPart (Keys left ∷ frames) bytes
  entries_back (Some zero) bytes frames m e r = (bytes, (none, no_pairs), moved e r)
  entries_back (Some (suc n)) bytes frames m e r =
      let (key, between, i, (value, after, rest, v, s, a)) = moved e r in (rest, (part calls.Key key (part calls.Value value s.0), a_pair i v s.1), a)
  entries_back None [] frames m e r = absurd (no_move e)
  entries_back None (first ∷ bytes) frames m e r = go (first == 0xff) refl e
    where
      go : (b : Bool) → (first == 0xff) ≡ b
          → (if b then moves (Call.End calls.Map ∷ []) bytes (Ended frames) else moves (Call.PartBegin calls.Key ∷ []) (first ∷ bytes) (Item (Keys None ∷ frames))) ≡ Some m
          → InPart (Keys None ∷ frames) (first ∷ bytes)
      go true f k = let is : first ≡ 0xff = grind (arith, nat_tests) in (bytes, (none, subst (λ x. EntriesToBreak (x ∷ bytes) none bytes) (sym is) entries_end), moved k r)
      go false f k =
          let (key, between, i, (value, after, rest, v, s, a)) = moved k r in (rest, (part calls.Key key (part calls.Value value s.0), entries_go_on i v s.1), a)

  part_back : (frames : List OpenItem) (bytes : List ℕ) (m : Move) → part_step bytes frames ≡ Some m → Rest m.next m.left → InPart frames bytes
  part_back [] bytes m e r = absurd (no_move e)
  part_back (Items left ∷ frames) bytes m e r = items_back left bytes frames m e r
  part_back (Keys left ∷ frames) bytes m e r = entries_back left bytes frames m e r
  part_back (Values left ∷ frames) bytes m e r = absurd (no_move e)

  ended_back : (frames : List OpenItem) (bytes : List ℕ) (m : Move) → ended_step bytes frames ≡ Some m → Rest m.next m.left → After frames bytes
  ended_back [] bytes m e r = absurd (no_move e)
  ended_back (Items left ∷ frames) bytes m e r = moved e r
  ended_back (Keys left ∷ frames) bytes m e r = let (value, between, v, (rest, s, a)) = moved e r in (value, between, rest, v, s, a)
  ended_back (Values left ∷ frames) bytes m e r = moved e r

  step_back : (state : ItemState) (bytes : List ℕ) (m : Move) → reading_step state bytes ≡ Some m → Rest m.next m.left → Rest state bytes
  step_back (Item frames) bytes m e r = item_back bytes frames m e r
  step_back (Part frames) bytes m e r = part_back frames bytes m e r
  step_back (Ended frames) bytes m e r = ended_back frames bytes m e r
  step_back (Pieces major frames) bytes m e r = piece_back major bytes frames m e r
  step_back (Bignum tag frames) bytes m e r = bignum_back tag bytes frames m e r
  step_back (BignumPieces tag front frames) bytes m e r = bignum_piece_back tag front bytes frames m e r

  reads_back : {state : ItemState} {bytes : List ℕ} {made : List Call} → ReadsTo last state bytes made → Rest state bytes
  reads_back (at_end e) = e
  reads_back (goes_on {state = state} {bytes = bytes} {move = m} e r) = step_back state bytes m e (reads_back r)

  -- what is read is an item of a tree, and then the end
  pub read_is_item : {bytes : List ℕ} {made : List Call} → ReadsTo last (Item []) bytes made → (tree : Tree) × IsItem bytes tree last
  read_is_item {bytes = bytes} r = let (tree, rest, i, a) = reads_back r in (tree, subst (λ x. IsItem bytes tree x) a i)

-- ---- numbers that are too large

grows : (front content : List ℕ) → big_endian front ≤ big_endian (front ++ content)
grows front content = omega (arith, number_after_append 256 0 front content, number_after_ge 256 (big_endian front) content (omega arith))

fits_before : (a : Bool) (front content : List ℕ) → (if a then nat_lt (big_endian (front ++ content)) (2 ^ 128) else nat_lt (big_endian (front ++ content)) (2 ^ 127)) ≡ true
    → (if a then nat_lt (big_endian front) (2 ^ 128) else nat_lt (big_endian front) (2 ^ 127)) ≡ true
fits_before true front content h = let g = grows front content in let l : big_endian (front ++ content) < 2 ^ 128 = grind (arith, nat_tests) in let k : big_endian front < 2 ^ 128 = omega arith in grind (arith, nat_tests)
fits_before false front content h = let g = grows front content in let l : big_endian (front ++ content) < 2 ^ 127 = grind (arith, nat_tests) in let k : big_endian front < 2 ^ 127 = omega arith in grind (arith, nat_tests)

-- further pieces make no number fit
pub too_large : {tag : ℕ} {front bytes : List ℕ} {frames : List OpenItem} {made : List Call} {last : List ℕ} → ReadsTo last (BignumPieces tag front frames) bytes made → fits tag front ≡ true
too_large {tag = tag} {front = front} r = let (content, rest, p, h, a) = reads_back _ r in fits_before (tag == 2) front content h

-- ---- what is read in the middle of an item

-- where the pieces of a string are read, they stand
pub pieces_need : {major : ℕ} {bytes : List ℕ} {frames : List OpenItem} {made : List Call} {last : List ℕ} → ReadsTo last (Pieces major frames) bytes made → (content : List ℕ) × (rest : List ℕ) × ArePieces major bytes content rest
pieces_need r = let (content, rest, p, a) = reads_back _ r in (content, rest, p)

-- where a number as a byte string is read, it stands
pub number_needs : {tag : ℕ} {bytes : List ℕ} {frames : List OpenItem} {made : List Call} {last : List ℕ} → ReadsTo last (Bignum tag frames) bytes made
    → (content : List ℕ) × (rest : List ℕ) × IsByteString bytes content rest × (fits tag content ≡ true)
number_needs r = let (content, rest, s, h, a) = reads_back _ r in (content, rest, s, h)
