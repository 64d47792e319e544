-- The bytes of a packed shape are an item, and that item's tree packs to the same shape in the same style.
use Rattle.std.specs.Prelude.{◌≡◌, ℕ, suc, ◌^◌, ◌<◌, ◌≤◌, ℤ, pos, negsuc, Bool, true, false, nat_lt, if◌then◌else◌, List, [], ◌∷◌, ◌++◌, length, take, drop, IsTrue, Some, Ok, refl}
use Rattle.std.specs.Str.{is_utf8}
use Rattle.std.specs.Str.Parse.{signed_digits_value}
use Rattle.std.proofs.Common.{sym, ap, ◌∙◌, subst, arith, append_assoc, append-nil, length-append}
use Rattle.std.proofs.lemmas.Bool.Decides.{nat_tests}
use Rattle.std.proofs.lemmas.List.{take_at, drop_at}
use Rattle.std.proofs.lemmas.Str.{is_utf8-from_IsUtf8}
use Rattle.sval_label.specs.Calls.{IntType, U64, U128, I128, Seq, Map, Item, Key, Value}
use Rattle.sval_core.specs.Trees.{Tree, Null, Truth, Int, Text, Binary, Container, Parts, none, part}
use Rattle.sval_core.specs.Real.{IsReal}
use Rattle.sval_json.specs.Json as shape
use Rattle.sval_json.specs.Json.{escaped_key, raw_key, Json, Items, no_item, item, Pairs, no_pair, pair}
use Rattle.sval_json.specs.declared.style.Variants.TheVariants.{Inside}
use Rattle.sval_json.specs.Shape.{shape as shape_of, items, pairs, json_of}
use Rattle.sval_cbor.specs.declared.style.Binaries.{Binaries}
use Rattle.sval_cbor.specs.declared.style.Binaries.TheVariants.{Numbers, ByteStrings}
use Rattle.sval_cbor.specs.declared.style.Lengths.{Lengths}
use Rattle.sval_cbor.specs.declared.style.Lengths.TheVariants.{Indefinite, Definite}
use Rattle.sval_cbor.specs.declared.style.Style.{Style}
use Rattle.sval_cbor.specs.declared.style.TheConstants.Style.{DEFAULT}
use Rattle.sval_cbor.specs.Packs.{has_128_bits, binary_shape, packs, packed_items, packed_pairs, pack_as, pack_of}
use Rattle.sval_cbor.specs.Cbor.{head_bytes, short_bytes, string as string_bytes, bignum, integer, item_count, pair_count, held_count, row_head, row_end, cbor_as, cbor_items_as, cbor_pairs_as, cbor}
use Rattle.sval_cbor.specs.Premises.{IsShortText, IsShortTreeAs, IsShortTree}
use Rattle.sval_cbor.proofs.Numbers.{value_of_decimal, short_of_128}
use Rattle.sval_cbor.proofs.Packed.{IsPackedText, IsPackedNumber, IsPackedBinary, HasShortCount, IsPacked, ArePacked, PairsArePacked, packed}
use Rattle.sval_cbor_read.specs.Items.{head, head_at_front, negative_type, is_piece, IsDefiniteString, string, definite, IsItem, by_head, seq_to_break, map_to_break, falsehood, truth, null, IsBody, unsigned, negative, binary, text, seq, map, big, negative_big, AreItems, no_items, an_item, AreEntries, no_pairs, a_pair, ItemsToBreak, items_end, items_go_on, EntriesToBreak, entries_end, entries_go_on, IsItemOf}
use Rattle.sval_cbor_read.proofs.Heads.{head_read, short_length, short_value}
use Rattle.sval_cbor_read.proofs.OneTree.{one_item}

-- ---- strings

string_at : (major n : ℕ) (bytes after content rest : List ℕ) → head_at_front bytes ≡ Some (head major n after) → n ≤ length after → IsTrue (is_piece major content)
    → take n after ≡ content → drop n after ≡ rest → IsDefiniteString major bytes content rest
string_at major n bytes after content rest e h k f g = subst (λ x. IsDefiniteString major bytes x rest) f (subst (λ x. IsDefiniteString major bytes (take n after) x) g (string e h (rw f k)))

string_read : (major : ℕ) (content rest : List ℕ) → length content < 2 ^ 64 → IsTrue (is_piece major content) → IsDefiniteString major (string_bytes major content ++ rest) content rest
string_read major content rest h k =
    let n = length content in
    let e : head_at_front (string_bytes major content ++ rest) ≡ Some (head major n (content ++ rest)) = ap head_at_front (append_assoc (head_bytes major n) content rest) ∙ head_read major n (content ++ rest) h in
    string_at major n (string_bytes major content ++ rest) (content ++ rest) content rest e (omega (arith, length-append content rest)) k (take_at content rest n refl) (drop_at content rest n refl)

text_body : (n : ℕ) (after content rest : List ℕ) → n ≤ length after → IsTrue (is_utf8 content) → take n after ≡ content → drop n after ≡ rest → IsBody 3 n after (Text content) rest
text_body n after content rest h k f g = subst (λ x. IsBody 3 n after (Text x) rest) f (subst (λ x. IsBody 3 n after (Text (take n after)) x) g (text h (rw f k)))

text_read : (content rest : List ℕ) → IsPackedText content → IsItem (string_bytes 3 content ++ rest) (Text content) rest
text_read content rest h =
    let n = length content in
    let e : head_at_front (string_bytes 3 content ++ rest) ≡ Some (head 3 n (content ++ rest)) = ap head_at_front (append_assoc (head_bytes 3 n) content rest) ∙ head_read 3 n (content ++ rest) h.1 in
    by_head e (text_body n (content ++ rest) content rest (omega (arith, length-append content rest)) (is_utf8-from_IsUtf8 content h.0) (take_at content rest n refl) (drop_at content rest n refl))

binary_body : (n : ℕ) (after content rest : List ℕ) → n ≤ length after → take n after ≡ content → drop n after ≡ rest → IsBody 2 n after (Binary content) rest
binary_body n after content rest h f g = subst (λ x. IsBody 2 n after (Binary x) rest) f (subst (λ x. IsBody 2 n after (Binary (take n after)) x) g (binary h))

binary_read : (content rest : List ℕ) → IsShortText content → IsItem (string_bytes 2 content ++ rest) (Binary content) rest
binary_read content rest h =
    let n = length content in
    let e : head_at_front (string_bytes 2 content ++ rest) ≡ Some (head 2 n (content ++ rest)) = ap head_at_front (append_assoc (head_bytes 2 n) content rest) ∙ head_read 2 n (content ++ rest) h in
    by_head e (binary_body n (content ++ rest) content rest (omega (arith, length-append content rest)) (take_at content rest n refl) (drop_at content rest n refl))

-- ---- numbers

big_body : (n : ℕ) (rest : List ℕ) → n < 2 ^ 128 → IsBody 6 2 (string_bytes 2 (short_bytes n) ++ rest) (Int U128 (pos n)) rest
big_body n rest h =
    let e = short_value n h in
    subst (λ m. IsBody 6 2 (string_bytes 2 (short_bytes n) ++ rest) (Int U128 (pos m)) rest) e
    (big (definite (string_read 2 (short_bytes n) rest (omega (arith, short_length n)) refl)) (rw e h))

negative_big_body : (n : ℕ) (rest : List ℕ) → n < 2 ^ 127 → IsBody 6 3 (string_bytes 2 (short_bytes n) ++ rest) (Int I128 (negsuc n)) rest
negative_big_body n rest h =
    let e = short_value n (omega arith) in
    subst (λ m. IsBody 6 3 (string_bytes 2 (short_bytes n) ++ rest) (Int I128 (negsuc m)) rest) e
    (negative_big (definite (string_read 2 (short_bytes n) rest (omega (arith, short_length n)) refl)) (rw e h))

big_read : (tag n : ℕ) (rest : List ℕ) (tree : Tree) → tag < 24 → IsBody 6 tag (string_bytes 2 (short_bytes n) ++ rest) tree rest → IsItem (bignum tag n ++ rest) tree rest
big_read tag n rest tree h b =
    by_head (ap head_at_front (append_assoc (head_bytes 6 tag) (string_bytes 2 (short_bytes n)) rest) ∙ head_read 6 tag (string_bytes 2 (short_bytes n) ++ rest) (omega arith)) b

unsigned_bound : (n : ℕ) → has_128_bits (pos n) ≡ true → n < 2 ^ 128
unsigned_bound n h = grind (arith, nat_tests)

signed_bound : (n : ℕ) → has_128_bits (negsuc n) ≡ true → n < 2 ^ 127
signed_bound n h = grind (arith, nat_tests)

-- some type of whole numbers, with which the number is read
abbrev IsReadAs : List ℕ → ℤ → Type 0
IsReadAs bytes z = (type : IntType) × ((rest : List ℕ) → IsItem (bytes ++ rest) (Int type z) rest)

integer_read : (z : ℤ) → has_128_bits z ≡ true → IsReadAs (integer z) z
integer_read (pos n) h = go (nat_lt n (2 ^ 64)) refl
  where
    go : (b : Bool) → nat_lt n (2 ^ 64) ≡ b → IsReadAs (if b then head_bytes 0 n else bignum 2 n) (pos n)
    go true e = let less : n < 2 ^ 64 = grind (arith, nat_tests) in (U64, λ rest. by_head (head_read 0 n rest less) unsigned)
    go false e = (U128, λ rest. big_read 2 n rest (Int U128 (pos n)) (omega arith) (big_body n rest (unsigned_bound n h)))
integer_read (negsuc n) h = go (nat_lt n (2 ^ 64)) refl
  where
    go : (b : Bool) → nat_lt n (2 ^ 64) ≡ b → IsReadAs (if b then head_bytes 1 n else bignum 3 n) (negsuc n)
    go true e = let less : n < 2 ^ 64 = grind (arith, nat_tests) in (negative_type n, λ rest. by_head (head_read 1 n rest less) negative)
    go false e = (I128, λ rest. big_read 3 n rest (Int I128 (negsuc n)) (omega arith) (negative_big_body n rest (signed_bound n h)))

-- ---- shapes

-- a style in which a binary is an array of numbers
abbrev WritesNumbers : Style → Type 0
WritesNumbers style = style.binaries ≡ Numbers

-- the items of an array are read: up to the break, or so many
abbrev RowIsRead : Lengths → ℕ → List ℕ → Parts → List ℕ → Type 0
RowIsRead Indefinite n bytes parts rest = ItemsToBreak (bytes ++ 0xff ∷ rest) parts rest
RowIsRead Definite n bytes parts rest = AreItems n (bytes ++ rest) parts rest

-- the same of the pairs of a map
abbrev EntriesAreRead : Lengths → ℕ → List ℕ → Parts → List ℕ → Type 0
EntriesAreRead Indefinite n bytes parts rest = EntriesToBreak (bytes ++ 0xff ∷ rest) parts rest
EntriesAreRead Definite n bytes parts rest = AreEntries n (bytes ++ rest) parts rest

-- the bytes are an item, whose tree packs to this shape again, and has it as its JSON where binaries are numbers
record IsReadBack (style : Style) (json : Json) : Type 0 where
  tree : Tree
  is_item : (rest : List ℕ) → IsItem (cbor_as style.lengths json ++ rest) tree rest
  has_shape : WritesNumbers style → shape_of Inside tree false ≡ Ok json
  repacks : packs style tree false ≡ Ok json

record AreReadBack (style : Style) (row : Items) : Type 0 where
  parts : Parts
  are_items : (rest : List ℕ) → RowIsRead style.lengths (item_count row) (cbor_items_as style.lengths row) parts rest
  have_shape : WritesNumbers style → items Inside parts ≡ Ok row
  repack : packed_items style parts ≡ Ok row

record EntriesAreReadBack (style : Style) (row : Pairs) : Type 0 where
  parts : Parts
  are_entries : (rest : List ℕ) → EntriesAreRead style.lengths (pair_count row) (cbor_pairs_as style.lengths row) parts rest
  have_shape : WritesNumbers style → pairs Inside parts ≡ Ok row
  repack : packed_pairs style parts ≡ Ok row

joined : (xs rest : List ℕ) → xs ++ (0xff ∷ []) ++ rest ≡ xs ++ 0xff ∷ rest
joined xs rest = append_assoc xs (0xff ∷ []) rest

-- ---- arrays and maps by their lengths

held_alike : (n : ℕ) → n < 2 ^ 64 → held_count n ≡ n
held_alike n h = omega (arith, h)

definite_head : (major n : ℕ) (bytes rest : List ℕ) → n < 2 ^ 64 → head_at_front (head_bytes major (held_count n) ++ bytes ++ [] ++ rest) ≡ Some (head major n (bytes ++ rest))
definite_head major n bytes rest h =
    ap (λ x. head_at_front (x ++ rest)) (append-nil (head_bytes major (held_count n) ++ bytes))
    ∙ ap head_at_front (append_assoc (head_bytes major (held_count n)) bytes rest)
    ∙ ap (λ k. head_at_front (head_bytes major k ++ (bytes ++ rest))) (held_alike n h)
    ∙ head_read major n (bytes ++ rest) h

seq_back : (lengths : Lengths) (n : ℕ) (bytes : List ℕ) (parts : Parts) (rest : List ℕ) → HasShortCount lengths n → RowIsRead lengths n bytes parts rest
    → IsItem (row_head lengths 4 (held_count n) ++ bytes ++ row_end lengths ++ rest) (Container Seq parts) rest
seq_back Indefinite n bytes parts rest h r = subst (λ x. IsItem (0x9f ∷ x) (Container Seq parts) rest) (sym (joined bytes rest)) (seq_to_break r)
seq_back Definite n bytes parts rest h r = by_head (definite_head 4 n bytes rest h) (seq r)

map_back : (lengths : Lengths) (n : ℕ) (bytes : List ℕ) (parts : Parts) (rest : List ℕ) → HasShortCount lengths n → EntriesAreRead lengths n bytes parts rest
    → IsItem (row_head lengths 5 (held_count n) ++ bytes ++ row_end lengths ++ rest) (Container Map parts) rest
map_back Indefinite n bytes parts rest h r = subst (λ x. IsItem (0xbf ∷ x) (Container Map parts) rest) (sym (joined bytes rest)) (map_to_break r)
map_back Definite n bytes parts rest h r = by_head (definite_head 5 n bytes rest h) (map r)

no_items_read : (lengths : Lengths) (rest : List ℕ) → RowIsRead lengths 0 [] none rest
no_items_read Indefinite rest = items_end
no_items_read Definite rest = no_items

item_read : (lengths : Lengths) (n : ℕ) (one bytes : List ℕ) (tree : Tree) (parts : Parts) (rest : List ℕ) → ((after : List ℕ) → IsItem (one ++ after) tree after) → RowIsRead lengths n bytes parts rest
    → RowIsRead lengths (suc n) (one ++ bytes) (part Item tree parts) rest
item_read Indefinite n one bytes tree parts rest h r =
    subst (λ x. ItemsToBreak x (part Item tree parts) rest) (sym (append_assoc one bytes (0xff ∷ rest))) (items_go_on (h (bytes ++ 0xff ∷ rest)) r)
item_read Definite n one bytes tree parts rest h r =
    subst (λ x. AreItems (suc n) x (part Item tree parts) rest) (sym (append_assoc one bytes rest)) (an_item (h (bytes ++ rest)) r)

no_pairs_read : (lengths : Lengths) (rest : List ℕ) → EntriesAreRead lengths 0 [] none rest
no_pairs_read Indefinite rest = entries_end
no_pairs_read Definite rest = no_pairs

pair_joined : (key one bytes rest : List ℕ) → key ++ (one ++ (bytes ++ rest)) ≡ key ++ one ++ bytes ++ rest
pair_joined key one bytes rest = sym (append_assoc (key ++ one) bytes rest ∙ append_assoc key one (bytes ++ rest))

pair_read : (lengths : Lengths) (n : ℕ) (key one bytes : List ℕ) (name tree : Tree) (parts : Parts) (rest : List ℕ) → ((after : List ℕ) → IsItem (key ++ after) name after) → ((after : List ℕ) → IsItem (one ++ after) tree after)
    → EntriesAreRead lengths n bytes parts rest → EntriesAreRead lengths (suc n) (key ++ one ++ bytes) (part Key name (part Value tree parts)) rest
pair_read Indefinite n key one bytes name tree parts rest k h r =
    subst (λ x. EntriesToBreak x (part Key name (part Value tree parts)) rest) (pair_joined key one bytes (0xff ∷ rest)) (entries_go_on (k (one ++ (bytes ++ 0xff ∷ rest))) (h (bytes ++ 0xff ∷ rest)) r)
pair_read Definite n key one bytes name tree parts rest k h r =
    subst (λ x. AreEntries (suc n) x (part Key name (part Value tree parts)) rest) (pair_joined key one bytes rest) (a_pair (k (one ++ (bytes ++ rest))) (h (bytes ++ rest)) r)

module _ (style : Style) where
  number_back : (bytes : List ℕ) → IsPackedNumber bytes → IsReadBack style (shape.number bytes)
  number_back bytes (z, e, h) =
      let i = integer_read z h in
      let v : signed_digits_value 10 bytes ≡ z = ap (signed_digits_value 10) e ∙ value_of_decimal z (short_of_128 z h) in
      record {
        tree = Int i.0 z;
        is_item = λ rest. subst (λ x. IsItem (integer x ++ rest) (Int i.0 z) rest) (sym v) (i.1 rest);
        has_shape = λ n. ap (λ x. Ok (shape.number x)) (sym e);
        repacks = ap (λ x. Ok (shape.number x)) (sym e);
      }

  truth_back : (b : Bool) → IsReadBack style (shape.truth b)
  truth_back true = record { tree = Truth true; is_item = λ rest. truth; has_shape = λ n. refl; repacks = refl }
  truth_back false = record { tree = Truth false; is_item = λ rest. falsehood; has_shape = λ n. refl; repacks = refl }

  binary_back : (bytes : List ℕ) (binaries : Binaries) → style.binaries ≡ binaries → IsPackedBinary binaries bytes → IsReadBack style (shape.quoted bytes)
  binary_back bytes Numbers e h = absurd h
  binary_back bytes ByteStrings e h = record {
    tree = Binary bytes;
    is_item = λ rest. binary_read bytes rest h.1;
    has_shape = λ n. let never : ByteStrings ≡ Numbers = sym e ∙ n in cc never;
    repacks = ap (λ binaries. Ok (binary_shape binaries bytes)) e;
  }

  array_back : (row : Items) → AreReadBack style row → HasShortCount style.lengths (item_count row) → IsReadBack style (shape.array row)
  array_back row r h = record {
    tree = Container Seq r.parts;
    is_item = λ rest. seq_back style.lengths (item_count row) (cbor_items_as style.lengths row) r.parts rest h (r.are_items rest);
    has_shape = λ n. rw (r.have_shape n) refl;
    repacks = rw r.repack refl;
  }

  object_back : (row : Pairs) → EntriesAreReadBack style row → HasShortCount style.lengths (pair_count row) → IsReadBack style (shape.object row)
  object_back row r h = record {
    tree = Container Map r.parts;
    is_item = λ rest. map_back style.lengths (pair_count row) (cbor_pairs_as style.lengths row) r.parts rest h (r.are_entries rest);
    has_shape = λ n. rw (r.have_shape n) refl;
    repacks = rw r.repack refl;
  }

  item_back : (json : Json) (row : Items) → IsReadBack style json → AreReadBack style row → AreReadBack style (item json row)
  item_back json row r s = record {
    parts = part Item r.tree s.parts;
    are_items = λ rest. item_read style.lengths (item_count row) (cbor_as style.lengths json) (cbor_items_as style.lengths row) r.tree s.parts rest r.is_item (s.are_items rest);
    have_shape = λ n. rw (r.has_shape n, s.have_shape n) refl;
    repack = rw (r.repacks, s.repack) refl;
  }

  pair_back : (bytes : List ℕ) (json : Json) (row : Pairs) → IsPackedText bytes → IsReadBack style json → EntriesAreReadBack style row → EntriesAreReadBack style (pair (escaped_key bytes) json row)
  pair_back bytes json row k r s = record {
    parts = part Key (Text bytes) (part Value r.tree s.parts);
    are_entries = λ rest. pair_read style.lengths (pair_count row) (string_bytes 3 bytes) (cbor_as style.lengths json) (cbor_pairs_as style.lengths row) (Text bytes) r.tree s.parts rest
        (λ after. text_read bytes after k) r.is_item (s.are_entries rest);
    have_shape = λ n. rw (r.has_shape n, s.have_shape n) refl;
    repack = rw (r.repacks, s.repack) refl;
  }

  mutual
    read_back : (json : Json) → IsPacked style json → IsReadBack style json
    read_back shape.null h = record { tree = Null; is_item = λ rest. null; has_shape = λ n. refl; repacks = refl }
    read_back (shape.truth b) h = truth_back b
    read_back (shape.number bytes) h = number_back bytes h
    read_back (shape.text bytes) h = record { tree = Text bytes; is_item = λ rest. text_read bytes rest h; has_shape = λ n. refl; repacks = refl }
    read_back (shape.quoted bytes) h = binary_back bytes style.binaries refl h
    read_back (shape.raw bytes) h = absurd h
    read_back (shape.array row) h = array_back row (items_back row h.0) h.1
    read_back (shape.object row) h = object_back row (pairs_back row h.0) h.1

    items_back : (row : Items) → ArePacked style row → AreReadBack style row
    items_back no_item h = record { parts = none; are_items = no_items_read style.lengths; have_shape = λ n. refl; repack = refl }
    items_back (item json row) h = item_back json row (read_back json h.0) (items_back row h.1)

    pairs_back : (row : Pairs) → PairsArePacked style row → EntriesAreReadBack style row
    pairs_back no_pair h = record { parts = none; are_entries = no_pairs_read style.lengths; have_shape = λ n. refl; repack = refl }
    pairs_back (pair (escaped_key bytes) json row) h = pair_back bytes json row h.0 (read_back json h.1) (pairs_back row h.2)
    pairs_back (pair (raw_key bytes) json row) h = absurd h.0

  -- what a real tree with short texts is written as in a style is an item of one tree, which packs to the same shape in that style
  pub styles_are_read_back : (tree : Tree) (json : Json) → IsReal tree → IsShortTreeAs style tree → pack_as style tree ≡ Ok json
      → (read : Tree) × IsItemOf (cbor_as style.lengths json) read × ((other : Tree) → IsItemOf (cbor_as style.lengths json) other → other ≡ read) × (pack_as style read ≡ Ok json)
  styles_are_read_back tree json r s e =
      let back = read_back json (packed style tree json r s e) in
      let i : IsItemOf (cbor_as style.lengths json) back.tree = subst (λ x. IsItem x back.tree []) (append-nil (cbor_as style.lengths json)) (back.is_item []) in
      (back.tree, i, (λ other j. (one_item j i).0), back.repacks)

-- what a real tree with short texts is written as is an item of one tree, whose shape is what the tree packs to
pub written_is_read_back : (tree : Tree) (json : Json) → IsReal tree → IsShortTree tree → pack_of tree ≡ Ok json
    → (read : Tree) × IsItemOf (cbor json) read × ((other : Tree) → IsItemOf (cbor json) other → other ≡ read) × (json_of read ≡ Ok json)
written_is_read_back tree json r s e =
    let back = read_back DEFAULT json (packed DEFAULT tree json r s e) in
    let i : IsItemOf (cbor json) back.tree = subst (λ x. IsItem x back.tree []) (append-nil (cbor json)) (back.is_item []) in
    (back.tree, i, (λ other j. (one_item j i).0), back.has_shape refl)
