-- The reader reads each item, and makes calls that spell its tree.
use Rattle.std.specs.Prelude.{◌≡◌, ◌≢◌, ℕ, suc, ◌^◌, ◌<◌, ◌≤◌, pos, negsuc, Bool, true, false, ◌==◌, nat_lt, if◌then◌else◌, List, [], ◌∷◌, ◌++◌, map, length, take, drop, Option, Some, None, IsTrue, refl}
use Rattle.std.specs.Str.{is_utf8}
use Rattle.std.proofs.Common.{sym, ap, ◌∙◌, subst, arith, append-nil}
use Rattle.std.proofs.lemmas.Bool.Decides.{nat_tests}
use Rattle.std.proofs.lemmas.List.{length-take-le}
use Rattle.sval_label.specs.Calls.{Call, U64, U128, I128}
use Rattle.sval_label.specs.Calls as calls
use Rattle.sval_core.specs.Trees.{Tree, Null, Truth, Int, Text, Binary, Container, Parts, none, part, Kind, AreInOrder, IsGood, AreGood}
use Rattle.sval_core.specs.Trees as trees
use Rattle.sval_core.specs.Spells.{plain, entries, Says, SayParts, Spells}
use Rattle.sval_cbor_read.specs.Items.{ItemHead, head, head_at_front, negative_type, big_endian, IsByteString, IsItem, by_head, bytes_in_pieces, texts_in_pieces, seq_to_break, map_to_break, falsehood, truth, null, IsBody, unsigned, negative, binary, text, seq, map as map_body, big, negative_big, tagged, AreItems, no_items, an_item, AreEntries, no_pairs, a_pair, ItemsToBreak, items_end, items_go_on, EntriesToBreak, entries_end, entries_go_on, IsItemOf}
use Rattle.sval_cbor_read.specs.Reading.{OpenItem, Items, Keys, Values, ItemState, Item, Part, Ended, Pieces, Bignum, BignumPieces, Move, moves, Mark, BinaryPieces, TextPieces, SeqToBreak, MapToBreak, Falsehood, mark_of, string_calls, string_step, tag_step, body_step, head_step, first_step, item_step, fragment_call, string_end, with_piece, piece_step, fits, bignum_step, bignum_begins, bignum_piece, part_or_end, part_step, ended_step, reading_step, ReadsTo, at_end, goes_on, IsReadAs}
use Rattle.sval_cbor_read.specs.Reading as reading
use Rattle.sval_cbor_read.specs.Document.{pieces_of, item_part_calls, cbor_calls, body_calls, items_calls, entries_calls, items_to_break_calls, entries_to_break_calls, cbor_document_calls}
use Rattle.sval_cbor_read.proofs.OneTree.{break_item, no_head_95, no_head_127, no_head_159, no_head_191, head_244, head_245, head_246}
use Rattle.sval_cbor_read.proofs.Sound.{byte_of, mark_is}
use Rattle.sval_cbor_read.proofs.Strings.{string_goes, no_head, byte_string_read, ArePiecesRead, pieces_read}

-- ---- strings in pieces

plain_texts : (pieces : List (List ℕ)) (more : List Call) → plain (map (Call.TextFragment true) pieces ++ more) ≡ map (Call.TextFragment false) pieces ++ plain more
plain_texts [] more = refl
plain_texts (bytes ∷ pieces) more = ap (λ x. Call.TextFragment false bytes ∷ x) (plain_texts pieces more)

plain_binaries : (pieces : List (List ℕ)) (more : List Call) → plain (map (Call.BinaryFragment true) pieces ++ more) ≡ map (Call.BinaryFragment false) pieces ++ plain more
plain_binaries [] more = refl
plain_binaries (bytes ∷ pieces) more = ap (λ x. Call.BinaryFragment false bytes ∷ x) (plain_binaries pieces more)

-- ---- heads

no_simple : (major n m : ℕ) (after other : List ℕ) (o : Option ItemHead) → o ≡ Some (head 7 m other) → o ≡ Some (head major n after) → (major == 7) ≡ false → ⊥
no_simple major n m after other o e f h = let g : major ≡ 7 = cc in let k : (7 == 7) ≡ false = rw g at h in cc k

no_marked : (mark : Mark) (bytes : List ℕ) (major n : ℕ) (after : List ℕ) → head_at_front (byte_of mark ∷ bytes) ≡ Some (head major n after) → (major == 7) ≡ false → ⊥
no_marked BinaryPieces bytes major n after e h = no_head_95 bytes e
no_marked TextPieces bytes major n after e h = no_head_127 bytes e
no_marked SeqToBreak bytes major n after e h = no_head_159 bytes e
no_marked MapToBreak bytes major n after e h = no_head_191 bytes e
no_marked Falsehood bytes major n after e h = no_simple major n 20 after bytes (head_at_front (244 ∷ bytes)) (head_244 bytes) e h
no_marked reading.Truth bytes major n after e h = no_simple major n 21 after bytes (head_at_front (245 ∷ bytes)) (head_245 bytes) e h
no_marked reading.Null bytes major n after e h = no_simple major n 22 after bytes (head_at_front (246 ∷ bytes)) (head_246 bytes) e h

first_goes : (first : ℕ) (bytes : List ℕ) (major n : ℕ) (after : List ℕ) (frames : List OpenItem) (o : Option Mark) → mark_of first ≡ o → head_at_front (first ∷ bytes) ≡ Some (head major n after) → (major == 7) ≡ false
    → first_step o bytes (head_at_front (first ∷ bytes)) frames ≡ body_step major n after frames
first_goes first bytes major n after frames (Some mark) f e h = absurd (no_marked mark bytes major n after (subst (λ x. head_at_front (x ∷ bytes) ≡ Some (head major n after)) (mark_is first mark f) e) h)
first_goes first bytes major n after frames None f e h = ap (λ x. head_step x frames) e

pub item_goes : (bytes : List ℕ) (major n : ℕ) (after : List ℕ) (frames : List OpenItem) → head_at_front bytes ≡ Some (head major n after) → (major == 7) ≡ false → item_step bytes frames ≡ body_step major n after frames
item_goes [] major n after frames e h = absurd (no_head e)
item_goes (first ∷ bytes) major n after frames e h = first_goes first bytes major n after frames (mark_of first) refl e h

pub fits_2 : (content : List ℕ) → big_endian content < 2 ^ 128 → fits 2 content ≡ true
fits_2 content h = let e : nat_lt (big_endian content) (2 ^ 128) ≡ true = grind (arith, nat_tests) in e

pub fits_3 : (content : List ℕ) → big_endian content < 2 ^ 127 → fits 3 content ≡ true
fits_3 content h = let e : nat_lt (big_endian content) (2 ^ 127) ≡ true = grind (arith, nat_tests) in e

pub other_tag : (n : ℕ) (after : List ℕ) (frames : List OpenItem) → n ≢ 2 → n ≢ 3 → tag_step n after frames ≡ moves [] after (Item frames)
other_tag n after frames h k =
    let e : (n == 2) ≡ false = grind (arith, nat_tests) in
    let f : (n == 3) ≡ false = grind (arith, nat_tests) in
    rw (e, f) refl

items_count : {n : ℕ} {bytes rest : List ℕ} {parts : Parts} → AreItems n bytes parts rest → n ≡ entries parts
items_count no_items = refl
items_count (an_item i s) = omega (arith, items_count s)

entries_count : {n : ℕ} {bytes rest : List ℕ} {parts : Parts} → AreEntries n bytes parts rest → n ≡ entries parts
entries_count no_pairs = refl
entries_count (a_pair i v s) = omega (arith, entries_count s)

-- up to a break, an item is no break
goes_on_by : (first : ℕ) (bytes rest : List ℕ) (tree : Tree) (ends : Option Move) (next : Option ℕ → Option Move) (broken : List ℕ → Option Move) (b : Bool) → (first == 0xff) ≡ b → IsItem (first ∷ bytes) tree rest
    → (if b then broken bytes else next None) ≡ next None
goes_on_by first bytes rest tree ends next broken true e i = let is : first ≡ 0xff = grind (arith, nat_tests) in absurd (break_item (subst (λ x. IsItem (x ∷ bytes) tree rest) is i))
goes_on_by first bytes rest tree ends next broken false e i = refl

no_item : (tree : Tree) (rest : List ℕ) → IsItem [] tree rest → ⊥
no_item tree rest (by_head e b) = no_head e

part_goes : (bytes rest : List ℕ) (tree : Tree) (ends : Option Move) (next : Option ℕ → Option Move) (broken : List ℕ → Option Move) → IsItem bytes tree rest → part_or_end None bytes ends next broken ≡ next None
part_goes [] rest tree ends next broken i = absurd (no_item tree rest i)
part_goes (first ∷ bytes) rest tree ends next broken i = goes_on_by first bytes rest tree ends next broken (first == 0xff) refl i

item_begins : (bytes rest : List ℕ) (tree : Tree) (frames : List OpenItem) → IsItem bytes tree rest
    → part_step bytes (Items None ∷ frames) ≡ moves (Call.PartBegin calls.Item ∷ []) bytes (Item (Items None ∷ frames))
item_begins bytes rest tree frames i =
    part_goes bytes rest tree (moves (Call.End calls.Seq ∷ []) bytes (Ended frames)) (λ more. moves (Call.PartBegin calls.Item ∷ []) bytes (Item (Items more ∷ frames)))
    (λ after. moves (Call.End calls.Seq ∷ []) after (Ended frames)) i

key_begins : (bytes rest : List ℕ) (tree : Tree) (frames : List OpenItem) → IsItem bytes tree rest
    → part_step bytes (Keys None ∷ frames) ≡ moves (Call.PartBegin calls.Key ∷ []) bytes (Item (Keys None ∷ frames))
key_begins bytes rest tree frames i =
    part_goes bytes rest tree (moves (Call.End calls.Map ∷ []) bytes (Ended frames)) (λ more. moves (Call.PartBegin calls.Key ∷ []) bytes (Item (Keys more ∷ frames)))
    (λ after. moves (Call.End calls.Map ∷ []) after (Ended frames)) i

module _ (last : List ℕ) where
  -- the reader takes the item and makes these calls in front of others, which spell its tree
  record IsRead (made : List Call → List Call) (bytes : List ℕ) (tree : Tree) (rest : List ℕ) : Type 0 where
    reads : (frames : List OpenItem) (more : List Call) → ReadsTo last (Ended frames) rest more → ReadsTo last (Item frames) bytes (made more)
    says : (more : List Call) → Says tree (plain (made more)) (plain more)
    good : IsGood tree

  -- from a state over the frames on, parts to their container's end
  record AreRead (made : List Call → List Call) (first : List OpenItem → ItemState) (end : Call) (kind : Kind) (bytes : List ℕ) (parts : Parts) (rest : List ℕ) : Type 0 where
    reads : (frames : List OpenItem) (more : List Call) → ReadsTo last (Ended frames) rest more → ReadsTo last (first frames) bytes (made (end ∷ more))
    says : (more : List Call) → SayParts parts (plain (made more)) (plain more)
    in_order : AreInOrder kind parts
    good : AreGood parts

  text_pieces_read : (pieces : List (List ℕ)) {bytes content rest : List ℕ} → ArePiecesRead last pieces 3 bytes content rest
      → IsRead (λ more. Call.TextBegin None ∷ map (Call.TextFragment true) pieces ++ Call.TextEnd ∷ more) (127 ∷ bytes) (Text content) rest
  text_pieces_read pieces p = record {
    reads = λ frames more r. goes_on refl (p.reads frames more r);
    says = λ more. (None, pieces, tt, p.joined, ap (λ x. Call.TextBegin None ∷ x) (plain_texts pieces (Call.TextEnd ∷ more)));
    good = tt;
  }

  binary_pieces_read : (pieces : List (List ℕ)) {bytes content rest : List ℕ} → ArePiecesRead last pieces 2 bytes content rest
      → IsRead (λ more. Call.BinaryBegin None ∷ map (Call.BinaryFragment true) pieces ++ Call.BinaryEnd ∷ more) (95 ∷ bytes) (Binary content) rest
  binary_pieces_read pieces p = record {
    reads = λ frames more r. goes_on refl (p.reads frames more r);
    says = λ more. (None, pieces, tt, p.joined, ap (λ x. Call.BinaryBegin None ∷ x) (plain_binaries pieces (Call.BinaryEnd ∷ more)));
    good = tt;
  }

  unsigned_read : (bytes : List ℕ) (n : ℕ) (after : List ℕ) → head_at_front bytes ≡ Some (head 0 n after) → IsRead (λ more. Call.Int U64 (pos n) ∷ more) bytes (Int U64 (pos n)) after
  unsigned_read bytes n after e = record {
    reads = λ frames more r. goes_on (item_goes bytes 0 n after frames e refl) r;
    says = λ more. refl;
    good = tt;
  }

  negative_read : (bytes : List ℕ) (n : ℕ) (after : List ℕ) → head_at_front bytes ≡ Some (head 1 n after) → IsRead (λ more. Call.Int (negative_type n) (negsuc n) ∷ more) bytes (Int (negative_type n) (negsuc n)) after
  negative_read bytes n after e = record {
    reads = λ frames more r. goes_on (item_goes bytes 1 n after frames e refl) r;
    says = λ more. refl;
    good = tt;
  }

  binary_read : (bytes : List ℕ) (n : ℕ) (after : List ℕ) → head_at_front bytes ≡ Some (head 2 n after) → n ≤ length after → IsRead (λ more. Call.BinaryBegin (Some n) ∷ Call.BinaryFragment true (take n after) ∷ Call.BinaryEnd ∷ more) bytes (Binary (take n after)) (drop n after)
  binary_read bytes n after e l = record {
    reads = λ frames more r. goes_on (item_goes bytes 2 n after frames e refl ∙ string_goes 2 n after frames l refl) r;
    says = λ more. (Some n, take n after ∷ [], sym (length-take-le n after l), append-nil (take n after), refl);
    good = tt;
  }

  text_read : (bytes : List ℕ) (n : ℕ) (after : List ℕ) → head_at_front bytes ≡ Some (head 3 n after) → n ≤ length after → IsTrue (is_utf8 (take n after)) → IsRead (λ more. Call.TextBegin (Some n) ∷ Call.TextFragment true (take n after) ∷ Call.TextEnd ∷ more) bytes (Text (take n after)) (drop n after)
  text_read bytes n after e l u = record {
    reads = λ frames more r. goes_on (item_goes bytes 3 n after frames e refl ∙ string_goes 3 n after frames l u) r;
    says = λ more. (Some n, take n after ∷ [], sym (length-take-le n after l), append-nil (take n after), refl);
    good = tt;
  }

  big_read : (bytes after content rest : List ℕ) → head_at_front bytes ≡ Some (head 6 2 after) → IsByteString after content rest → big_endian content < 2 ^ 128 → IsRead (λ more. Call.Int U128 (pos (big_endian content)) ∷ more) bytes (Int U128 (pos (big_endian content))) rest
  big_read bytes after content rest e s h = record {
    reads = λ frames more r. goes_on (item_goes bytes 6 2 after frames e refl) (byte_string_read 2 s (fits_2 content h) frames more r);
    says = λ more. refl;
    good = tt;
  }

  negative_big_read : (bytes after content rest : List ℕ) → head_at_front bytes ≡ Some (head 6 3 after) → IsByteString after content rest → big_endian content < 2 ^ 127 → IsRead (λ more. Call.Int I128 (negsuc (big_endian content)) ∷ more) bytes (Int I128 (negsuc (big_endian content))) rest
  negative_big_read bytes after content rest e s h = record {
    reads = λ frames more r. goes_on (item_goes bytes 6 3 after frames e refl) (byte_string_read 3 s (fits_3 content h) frames more r);
    says = λ more. refl;
    good = tt;
  }

  tagged_read : (made : List Call → List Call) (bytes : List ℕ) (n : ℕ) (after rest : List ℕ) (tree : Tree) → head_at_front bytes ≡ Some (head 6 n after) → n ≢ 2 → n ≢ 3 → IsRead made after tree rest → IsRead made bytes tree rest
  tagged_read made bytes n after rest tree e h k i = record {
    reads = λ frames more r. goes_on (item_goes bytes 6 n after frames e refl ∙ other_tag n after frames h k) (i.reads frames more r);
    says = i.says;
    good = i.good;
  }

  -- ---- arrays and maps

  abbrev ItemsAreRead : (List Call → List Call) → Option ℕ → List ℕ → Parts → List ℕ → Type 0
  ItemsAreRead made left bytes parts rest = AreRead made (λ frames. Part (Items left ∷ frames)) (Call.End calls.Seq) trees.Item bytes parts rest

  abbrev EntriesAreRead : (List Call → List Call) → Option ℕ → List ℕ → Parts → List ℕ → Type 0
  EntriesAreRead made left bytes parts rest = AreRead made (λ frames. Part (Keys left ∷ frames)) (Call.End calls.Map) trees.Key bytes parts rest

  seq_read : (made : List Call → List Call) (bytes : List ℕ) (n : ℕ) (after rest : List ℕ) (parts : Parts) → head_at_front bytes ≡ Some (head 4 n after) → n ≡ entries parts → ItemsAreRead made (Some n) after parts rest
      → IsRead (λ more. Call.Begin calls.Seq (Some n) ∷ made (Call.End calls.Seq ∷ more)) bytes (Container calls.Seq parts) rest
  seq_read made bytes n after rest parts e c s = record {
    reads = λ frames more r. goes_on (item_goes bytes 4 n after frames e refl) (s.reads frames more r);
    says = λ more. (Some n, plain (made (Call.End calls.Seq ∷ more)), c, refl, s.says (Call.End calls.Seq ∷ more));
    good = (refl, s.in_order, s.good);
  }

  map_read : (made : List Call → List Call) (bytes : List ℕ) (n : ℕ) (after rest : List ℕ) (parts : Parts) → head_at_front bytes ≡ Some (head 5 n after) → n ≡ entries parts → EntriesAreRead made (Some n) after parts rest
      → IsRead (λ more. Call.Begin calls.Map (Some n) ∷ made (Call.End calls.Map ∷ more)) bytes (Container calls.Map parts) rest
  map_read made bytes n after rest parts e c s = record {
    reads = λ frames more r. goes_on (item_goes bytes 5 n after frames e refl) (s.reads frames more r);
    says = λ more. (Some n, plain (made (Call.End calls.Map ∷ more)), c, refl, s.says (Call.End calls.Map ∷ more));
    good = (refl, s.in_order, s.good);
  }

  seq_to_break_read : (made : List Call → List Call) (bytes rest : List ℕ) (parts : Parts) → ItemsAreRead made None bytes parts rest
      → IsRead (λ more. Call.Begin calls.Seq None ∷ made (Call.End calls.Seq ∷ more)) (159 ∷ bytes) (Container calls.Seq parts) rest
  seq_to_break_read made bytes rest parts s = record {
    reads = λ frames more r. goes_on refl (s.reads frames more r);
    says = λ more. (None, plain (made (Call.End calls.Seq ∷ more)), tt, refl, s.says (Call.End calls.Seq ∷ more));
    good = (refl, s.in_order, s.good);
  }

  map_to_break_read : (made : List Call → List Call) (bytes rest : List ℕ) (parts : Parts) → EntriesAreRead made None bytes parts rest
      → IsRead (λ more. Call.Begin calls.Map None ∷ made (Call.End calls.Map ∷ more)) (191 ∷ bytes) (Container calls.Map parts) rest
  map_to_break_read made bytes rest parts s = record {
    reads = λ frames more r. goes_on refl (s.reads frames more r);
    says = λ more. (None, plain (made (Call.End calls.Map ∷ more)), tt, refl, s.says (Call.End calls.Map ∷ more));
    good = (refl, s.in_order, s.good);
  }

  no_items_read : (rest : List ℕ) → ItemsAreRead (λ more. more) (Some 0) rest none rest
  no_items_read rest = record { reads = λ frames more r. goes_on refl r; says = λ more. refl; in_order = tt; good = tt }

  items_end_read : (rest : List ℕ) → ItemsAreRead (λ more. more) None (255 ∷ rest) none rest
  items_end_read rest = record { reads = λ frames more r. goes_on refl r; says = λ more. refl; in_order = tt; good = tt }

  no_entries_read : (rest : List ℕ) → EntriesAreRead (λ more. more) (Some 0) rest none rest
  no_entries_read rest = record { reads = λ frames more r. goes_on refl r; says = λ more. refl; in_order = tt; good = tt }

  entries_end_read : (rest : List ℕ) → EntriesAreRead (λ more. more) None (255 ∷ rest) none rest
  entries_end_read rest = record { reads = λ frames more r. goes_on refl r; says = λ more. refl; in_order = tt; good = tt }

  -- an item in front of others, which its array goes on with
  item_in_front : (left next : Option ℕ) (first others : List Call → List Call) (bytes after rest : List ℕ) (tree : Tree) (parts : Parts)
      → ((frames : List OpenItem) → part_step bytes (Items left ∷ frames) ≡ moves (Call.PartBegin calls.Item ∷ []) bytes (Item (Items next ∷ frames)))
      → IsRead first bytes tree after → ItemsAreRead others next after parts rest
      → ItemsAreRead (λ more. item_part_calls calls.Item first (others more)) left bytes (part calls.Item tree parts) rest
  item_in_front left next first others bytes after rest tree parts begins i s = record {
    reads = λ frames more r. goes_on (begins frames) (i.reads (Items next ∷ frames) (Call.PartEnd calls.Item ∷ others (Call.End calls.Seq ∷ more)) (goes_on refl (s.reads frames more r)));
    says = λ more. (plain (first (Call.PartEnd calls.Item ∷ others more)), plain (others more), refl, i.says (Call.PartEnd calls.Item ∷ others more), s.says more);
    in_order = (refl, s.in_order);
    good = (refl, i.good, s.good);
  }

  entry_in_front : (left next : Option ℕ) (first second others : List Call → List Call) (bytes between after rest : List ℕ) (key value : Tree) (parts : Parts)
      → ((frames : List OpenItem) → part_step bytes (Keys left ∷ frames) ≡ moves (Call.PartBegin calls.Key ∷ []) bytes (Item (Keys next ∷ frames)))
      → IsRead first bytes key between → IsRead second between value after → EntriesAreRead others next after parts rest
      → EntriesAreRead (λ more. item_part_calls calls.Key first (item_part_calls calls.Value second (others more))) left bytes (part calls.Key key (part calls.Value value parts)) rest
  entry_in_front left next first second others bytes between after rest key value parts begins i v s = record {
    reads = λ frames more r. goes_on (begins frames) (i.reads (Keys next ∷ frames) _ (goes_on refl (v.reads (Values next ∷ frames) _ (goes_on refl (s.reads frames more r)))));
    says = λ more.
        let last : List Call = others more in
        let held : List Call = second (Call.PartEnd calls.Value ∷ last) in (
          plain (first (Call.PartEnd calls.Key ∷ Call.PartBegin calls.Value ∷ held)),
          plain (Call.PartBegin calls.Value ∷ held),
          refl,
          i.says (Call.PartEnd calls.Key ∷ Call.PartBegin calls.Value ∷ held),
          (plain held, plain last, refl, v.says (Call.PartEnd calls.Value ∷ last), s.says more),
        );
    in_order = (refl, (refl, s.in_order));
    good = (refl, i.good, (refl, v.good, s.good));
  }

  simple_read : (mark : ℕ) (call : Call) (tree : Tree) (rest : List ℕ) → ((frames : List OpenItem) → item_step (mark ∷ rest) frames ≡ moves (call ∷ []) rest (Ended frames))
      → ((more : List Call) → Says tree (plain (call ∷ more)) (plain more)) → IsGood tree → IsRead (λ more. call ∷ more) (mark ∷ rest) tree rest
  simple_read mark call tree rest s c g = record { reads = λ frames more r. goes_on (s frames) r; says = c; good = g }

  mutual
    item_read : {bytes rest : List ℕ} {tree : Tree} (i : IsItem bytes tree rest) → IsRead (cbor_calls i) bytes tree rest
    item_read (by_head {bytes = bytes} e b) = body_read bytes e b
    item_read (bytes_in_pieces p) = binary_pieces_read (pieces_of p) (pieces_read last p)
    item_read (texts_in_pieces p) = text_pieces_read (pieces_of p) (pieces_read last p)
    item_read (seq_to_break {bytes = bytes} {rest = rest} {trees = parts} s) = seq_to_break_read (items_to_break_calls s) bytes rest parts (items_to_break_read s)
    item_read (map_to_break {bytes = bytes} {rest = rest} {entries = parts} s) = map_to_break_read (entries_to_break_calls s) bytes rest parts (entries_to_break_read s)
    item_read (falsehood {rest = rest}) = simple_read 244 (Call.Truth false) (Truth false) rest (λ frames. refl) (λ more. refl) tt
    item_read (truth {rest = rest}) = simple_read 245 (Call.Truth true) (Truth true) rest (λ frames. refl) (λ more. refl) tt
    item_read (null {rest = rest}) = simple_read 246 Call.Null Null rest (λ frames. refl) (λ more. refl) tt

    body_read : (bytes : List ℕ) {major n : ℕ} {after rest : List ℕ} {tree : Tree} → head_at_front bytes ≡ Some (head major n after) → (b : IsBody major n after tree rest) → IsRead (body_calls b) bytes tree rest
    body_read bytes e (unsigned {n = n} {rest = rest}) = unsigned_read bytes n rest e
    body_read bytes e (negative {n = n} {rest = rest}) = negative_read bytes n rest e
    body_read bytes e (binary {n = n} {after = after} l) = binary_read bytes n after e l
    body_read bytes e (text {n = n} {after = after} l u) = text_read bytes n after e l u
    body_read bytes e (seq {n = n} {after = after} {rest = rest} {trees = parts} s) = seq_read (items_calls s) bytes n after rest parts e (items_count s) (items_read s)
    body_read bytes e (map_body {n = n} {after = after} {rest = rest} {entries = parts} s) = map_read (entries_calls s) bytes n after rest parts e (entries_count s) (entries_read s)
    body_read bytes e (big {after = after} {content = content} {rest = rest} s h) = big_read bytes after content rest e s h
    body_read bytes e (negative_big {after = after} {content = content} {rest = rest} s h) = negative_big_read bytes after content rest e s h
    body_read bytes e (tagged {n = n} {after = after} {rest = rest} {tree = tree} h k i) = tagged_read (cbor_calls i) bytes n after rest tree e h k (item_read i)

    items_read : {n : ℕ} {bytes rest : List ℕ} {parts : Parts} (s : AreItems n bytes parts rest) → ItemsAreRead (items_calls s) (Some n) bytes parts rest
    items_read (no_items {rest = rest}) = no_items_read rest
    items_read (an_item {n = n} {bytes = bytes} {after = after} {rest = rest} {tree = tree} {trees = parts} i s) =
        item_in_front (Some (suc n)) (Some n) (cbor_calls i) (items_calls s) bytes after rest tree parts (λ frames. refl) (item_read i) (items_read s)

    entries_read : {n : ℕ} {bytes rest : List ℕ} {parts : Parts} (s : AreEntries n bytes parts rest) → EntriesAreRead (entries_calls s) (Some n) bytes parts rest
    entries_read (no_pairs {rest = rest}) = no_entries_read rest
    entries_read (a_pair {n = n} {bytes = bytes} {between = between} {after = after} {rest = rest} {key = key} {value = value} {entries = parts} i v s) =
        entry_in_front (Some (suc n)) (Some n) (cbor_calls i) (cbor_calls v) (entries_calls s) bytes between after rest key value parts (λ frames. refl) (item_read i) (item_read v) (entries_read s)

    items_to_break_read : {bytes rest : List ℕ} {parts : Parts} (s : ItemsToBreak bytes parts rest) → ItemsAreRead (items_to_break_calls s) None bytes parts rest
    items_to_break_read (items_end {rest = rest}) = items_end_read rest
    items_to_break_read (items_go_on {bytes = bytes} {after = after} {rest = rest} {tree = tree} {trees = parts} i s) =
        item_in_front None None (cbor_calls i) (items_to_break_calls s) bytes after rest tree parts (λ frames. item_begins bytes after tree frames i) (item_read i) (items_to_break_read s)

    entries_to_break_read : {bytes rest : List ℕ} {parts : Parts} (s : EntriesToBreak bytes parts rest) → EntriesAreRead (entries_to_break_calls s) None bytes parts rest
    entries_to_break_read (entries_end {rest = rest}) = entries_end_read rest
    entries_to_break_read (entries_go_on {bytes = bytes} {between = between} {after = after} {rest = rest} {key = key} {value = value} {entries = parts} i v s) =
        entry_in_front None None (cbor_calls i) (cbor_calls v) (entries_to_break_calls s) bytes between after rest key value parts (λ frames. key_begins bytes between key frames i) (item_read i) (item_read v) (entries_to_break_read s)

  -- an item up to this end is read, and its calls spell its tree
  pub front_is_read : (bytes : List ℕ) (tree : Tree) (i : IsItem bytes tree last) → ReadsTo last (Item []) bytes (cbor_calls i []) × Spells (cbor_calls i []) tree
  front_is_read bytes tree i = let d = item_read i in (d.reads [] [] (at_end refl), (d.good, d.says []))

-- each item is read, and the document's calls spell its tree
pub item_is_read : (bytes : List ℕ) (tree : Tree) (i : IsItemOf bytes tree) → IsReadAs bytes (cbor_document_calls i) × Spells (cbor_document_calls i) tree
item_is_read bytes tree i = front_is_read [] bytes tree i
