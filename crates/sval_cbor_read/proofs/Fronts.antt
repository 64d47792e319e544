-- An item ends where it ends, whatever bytes come behind it: its own bytes alone are an item of the same tree.
use Rattle.std.specs.Prelude.{◌≡◌, ℕ, ◌/◌, ◌%◌, ◌≤◌, Bool, true, false, ◌==◌, nat_lt, nat_le, if◌then◌else◌, List, [], ◌∷◌, ◌++◌, length, take, drop, Option, Some, None, IsTrue, refl}
use Rattle.std.specs.Int.Digits.{number_from_digits}
use Rattle.std.proofs.Common.{sym, ap, ◌∙◌, subst, arith, append_assoc, append-nil, length-append, length-take-le, take-append-drop}
use Rattle.std.proofs.Math.Seq.{take-append_seam, drop-append_seam}
use Rattle.std.proofs.lemmas.Bool.Decides.{nat_tests}
use Rattle.std.proofs.lemmas.List.{length-drop}
use Rattle.sval_core.specs.Trees.{Tree, Text, Binary, Parts}
use Rattle.sval_cbor_read.specs.Items.{ItemHead, head, wide_head, head_at_front, is_piece, IsDefiniteString, string, ArePieces, break, piece, IsByteString, definite, in_pieces, IsItem, by_head, bytes_in_pieces, texts_in_pieces, seq_to_break, map_to_break, falsehood, truth, null, IsBody, unsigned, negative, binary, text, seq, map, big, negative_big, tagged, AreItems, no_items, an_item, AreEntries, no_pairs, a_pair, ItemsToBreak, items_end, items_go_on, EntriesToBreak, entries_end, entries_go_on, IsItemOf}
use Rattle.sval_cbor_read.proofs.Strings.{no_head}

-- the bytes begin with a front of which this holds whatever comes behind it
record Front (holds : List ℕ → List ℕ → Type 0) (bytes rest : List ℕ) : Type 0 where
  front : List ℕ
  joins : bytes ≡ front ++ rest
  goes : (other : List ℕ) → holds (front ++ other) other

two_fronts : {bytes after : List ℕ} (f g rest : List ℕ) → bytes ≡ f ++ after → after ≡ g ++ rest → bytes ≡ (f ++ g) ++ rest
two_fronts f g rest e h = e ∙ ap (λ x. f ++ x) h ∙ sym (append_assoc f g rest)

-- ---- heads

-- the head by the first byte, with these answers to what the low five bits are
abbrev chosen : ℕ → Bool → Bool → Bool → Bool → Bool → List ℕ → Option ItemHead
chosen first a b c d f bytes =
    if a then Some (head (first / 32) (first % 32) bytes)
    else if b then wide_head (first / 32) 1 bytes
    else if c then wide_head (first / 32) 2 bytes
    else if d then wide_head (first / 32) 4 bytes
    else if f then wide_head (first / 32) 8 bytes
    else None

abbrev IsRead : (List ℕ → Option ItemHead) → ℕ → ℕ → List ℕ → List ℕ → Type 0
IsRead reads major n bytes after = Front (λ x y. reads x ≡ Some (head major n y)) bytes after

is_here : {major n : ℕ} {bytes : List ℕ} (k low : ℕ) {after : List ℕ} → (let o : Option ItemHead = Some (head k low bytes) in o) ≡ Some (head major n after) → (k ≡ major) × (low ≡ n) × (bytes ≡ after)
is_here k low e = (cc e, cc e, cc e)

wide_front : (k width : ℕ) (bytes : List ℕ) (major n : ℕ) (after : List ℕ) → wide_head k width bytes ≡ Some (head major n after) → IsRead (wide_head k width) major n bytes after
wide_front k width bytes major n after e = go (nat_le width (length bytes)) refl e
  where
    go : (b : Bool) → nat_le width (length bytes) ≡ b → (let o : Option ItemHead = if b then Some (head k (number_from_digits 256 (take width bytes)) (drop width bytes)) else None in o) ≡ Some (head major n after)
        → IsRead (wide_head k width) major n bytes after
    go true w f =
        let (same_k, same_n, same) = is_here k (number_from_digits 256 (take width bytes)) f in
        let l : width ≤ length bytes = grind (arith, nat_tests) in
        let size : length (take width bytes) ≡ width = length-take-le width bytes l in
        record {
          front = take width bytes;
          joins = sym (take-append-drop width bytes) ∙ ap (λ x. take width bytes ++ x) same;
          goes = λ other.
              let all = take width bytes ++ other in
              let fits : nat_le width (length all) ≡ true = grind (arith, nat_tests, size, length-append (take width bytes) other) in
              let taken : take width all ≡ take width bytes = subst (λ x. take x all ≡ take width bytes) size (take-append_seam (take width bytes) other) in
              let left : drop width all ≡ other = subst (λ x. drop x all ≡ other) size (drop-append_seam (take width bytes) other) in
              ap (λ b. if b then Some (head k (number_from_digits 256 (take width all)) (drop width all)) else None) fits
              ∙ ap (λ x. Some (head k (number_from_digits 256 x) (drop width all))) taken ∙ ap (λ x. Some (head k (number_from_digits 256 (take width bytes)) x)) left
              ∙ ap (λ x. Some (head x (number_from_digits 256 (take width bytes)) other)) same_k ∙ ap (λ x. Some (head major x other)) same_n;
        }
    go false w f = absurd (cc f)

first_front : (first : ℕ) (bytes : List ℕ) (major n : ℕ) (after : List ℕ) (a b c d f : Bool) → chosen first a b c d f bytes ≡ Some (head major n after) → IsRead (chosen first a b c d f) major n bytes after
first_front first bytes major n after true b c d f e =
    let (same_k, same_n, same) = is_here (first / 32) (first % 32) e in
    record { front = []; joins = same; goes = λ other. ap (λ x. Some (head x (first % 32) other)) same_k ∙ ap (λ x. Some (head major x other)) same_n }
first_front first bytes major n after false true c d f e = wide_front (first / 32) 1 bytes major n after e
first_front first bytes major n after false false true d f e = wide_front (first / 32) 2 bytes major n after e
first_front first bytes major n after false false false true f e = wide_front (first / 32) 4 bytes major n after e
first_front first bytes major n after false false false false true e = wide_front (first / 32) 8 bytes major n after e
first_front first bytes major n after false false false false false e = absurd (cc e)

head_front : {bytes : List ℕ} {major n : ℕ} {after : List ℕ} → head_at_front bytes ≡ Some (head major n after) → IsRead head_at_front major n bytes after
unfolding head_at_front
head_front {bytes = []} e = absurd (no_head e)
head_front {bytes = first ∷ bytes} {major = major} {n = n} {after = after} e =
    let low = first % 32 in
    let r = first_front first bytes major n after (nat_lt low 24) (low == 24) (low == 25) (low == 26) (low == 27) e in
    record { front = first ∷ r.front; joins = ap (λ x. first ∷ x) r.joins; goes = λ other. r.goes other }

-- ---- strings

-- a front of so many bytes, behind which others come
module _ (n : ℕ) (after : List ℕ) (l : n ≤ length after) (other : List ℕ) where
  size : length (take n after) ≡ n
  size = length-take-le n after l

  taken : take n (take n after ++ other) ≡ take n after
  taken = subst (λ x. take x (take n after ++ other) ≡ take n after) size (take-append_seam (take n after) other)

  left : drop n (take n after ++ other) ≡ other
  left = subst (λ x. drop x (take n after ++ other) ≡ other) size (drop-append_seam (take n after) other)

  fits : n ≤ length (take n after ++ other)
  fits = omega (arith, size, length-append (take n after) other)

string_front : {major : ℕ} {bytes content rest : List ℕ} → IsDefiniteString major bytes content rest → Front (λ x y. IsDefiniteString major x content y) bytes rest
string_front {major = major} (string {number = n} {after = after} e l k) =
    let h = head_front e in
    record {
      front = h.front ++ take n after;
      joins = two_fronts h.front (take n after) (drop n after) h.joins (sym (take-append-drop n after));
      goes = λ other.
          let all = take n after ++ other in
          let whole : IsTrue (is_piece major (take n all)) = subst (λ x. IsTrue (is_piece major x)) (sym (taken n after l other)) k in
          let s : IsDefiniteString major (h.front ++ all) (take n all) (drop n all) = string (h.goes all) (fits n after l other) whole in
          subst (λ x. IsDefiniteString major x (take n after) other) (sym (append_assoc h.front (take n after) other))
          (subst (λ x. IsDefiniteString major (h.front ++ all) (take n after) x) (left n after l other)
          (subst (λ x. IsDefiniteString major (h.front ++ all) x (drop n all)) (taken n after l other) s));
    }

pieces_front : {major : ℕ} {bytes content rest : List ℕ} → ArePieces major bytes content rest → Front (λ x y. ArePieces major x content y) bytes rest
pieces_front break = record { front = 255 ∷ []; joins = refl; goes = λ other. break }
pieces_front {major = major} (piece {content = content} {more = more} {rest = rest} s p) =
    let a = string_front s in
    let b = pieces_front p in
    record {
      front = a.front ++ b.front;
      joins = two_fronts a.front b.front rest a.joins b.joins;
      goes = λ other. subst (λ x. ArePieces major x (content ++ more) other) (sym (append_assoc a.front b.front other)) (piece (a.goes (b.front ++ other)) (b.goes other));
    }

byte_string_front : {bytes content rest : List ℕ} → IsByteString bytes content rest → Front (λ x y. IsByteString x content y) bytes rest
byte_string_front (definite s) = let a = string_front s in record { front = a.front; joins = a.joins; goes = λ other. definite (a.goes other) }
byte_string_front (in_pieces p) = let a = pieces_front p in record { front = 95 ∷ a.front; joins = ap (λ x. 95 ∷ x) a.joins; goes = λ other. in_pieces (a.goes other) }

-- ---- items

-- a first byte before a front
begun_by : {bytes rest : List ℕ} (first : ℕ) (holds within : List ℕ → List ℕ → Type 0) → Front within bytes rest → ((x y : List ℕ) → within x y → holds (first ∷ x) y) → Front holds (first ∷ bytes) rest
begun_by first holds within a f = record { front = first ∷ a.front; joins = ap (λ x. first ∷ x) a.joins; goes = λ other. f (a.front ++ other) other (a.goes other) }

-- a byte by itself
one_byte : (first : ℕ) (rest : List ℕ) (holds : List ℕ → List ℕ → Type 0) → ((other : List ℕ) → holds (first ∷ other) other) → Front holds (first ∷ rest) rest
one_byte first rest holds f = record { front = first ∷ []; joins = refl; goes = f }

-- no byte
no_byte : (rest : List ℕ) (holds : List ℕ → List ℕ → Type 0) → ((other : List ℕ) → holds other other) → Front holds rest rest
no_byte rest holds f = record { front = []; joins = refl; goes = f }

-- a front behind another
both_fronts : {bytes after rest : List ℕ} (holds first second : List ℕ → List ℕ → Type 0) → Front first bytes after → Front second after rest → ((x y z : List ℕ) → first x y → second y z → holds x z) → Front holds bytes rest
both_fronts {rest = rest} holds first second a b f = record {
  front = a.front ++ b.front;
  joins = two_fronts a.front b.front rest a.joins b.joins;
  goes = λ other. subst (λ x. holds x other) (sym (append_assoc a.front b.front other)) (f (a.front ++ (b.front ++ other)) (b.front ++ other) other (a.goes (b.front ++ other)) (b.goes other));
}

abbrev ItemFront : Tree → List ℕ → List ℕ → Type 0
ItemFront tree bytes rest = Front (λ x y. IsItem x tree y) bytes rest

binary_front : (n : ℕ) (after : List ℕ) (holds : List ℕ → List ℕ → Type 0) → n ≤ length after → ((other : List ℕ) → holds (take n after ++ other) other) → Front holds after (drop n after)
binary_front n after holds l f = record { front = take n after; joins = sym (take-append-drop n after); goes = f }

mutual
  item_front : {bytes rest : List ℕ} {tree : Tree} → IsItem bytes tree rest → ItemFront tree bytes rest
  item_front (by_head {major = major} {number = n} {tree = tree} e b) =
      both_fronts (λ x y. IsItem x tree y) (λ x y. head_at_front x ≡ Some (head major n y)) (λ x y. IsBody major n x tree y) (head_front e) (body_front b) (λ x y z h k. by_head h k)
  item_front (bytes_in_pieces p) = begun_by 95 _ _ (pieces_front p) (λ x y q. bytes_in_pieces q)
  item_front (texts_in_pieces p) = begun_by 127 _ _ (pieces_front p) (λ x y q. texts_in_pieces q)
  item_front (seq_to_break s) = begun_by 159 _ _ (to_break_front s) (λ x y q. seq_to_break q)
  item_front (map_to_break s) = begun_by 191 _ _ (pairs_to_break_front s) (λ x y q. map_to_break q)
  item_front (falsehood {rest = rest}) = one_byte 244 rest _ (λ other. falsehood)
  item_front (truth {rest = rest}) = one_byte 245 rest _ (λ other. truth)
  item_front (null {rest = rest}) = one_byte 246 rest _ (λ other. null)

  body_front : {major n : ℕ} {after rest : List ℕ} {tree : Tree} → IsBody major n after tree rest → Front (λ x y. IsBody major n x tree y) after rest
  body_front (unsigned {rest = rest}) = no_byte rest _ (λ other. unsigned)
  body_front (negative {rest = rest}) = no_byte rest _ (λ other. negative)
  body_front (binary {n = n} {after = after} l) =
      binary_front n after _ l
      (λ other. subst (λ x. IsBody 2 n (take n after ++ other) (Binary (take n after)) x) (left n after l other)
      (subst (λ x. IsBody 2 n (take n after ++ other) (Binary x) (drop n (take n after ++ other))) (taken n after l other) (binary (fits n after l other))))
  body_front (text {n = n} {after = after} l u) =
      binary_front n after _ l
      (λ other. subst (λ x. IsBody 3 n (take n after ++ other) (Text (take n after)) x) (left n after l other)
      (subst (λ x. IsBody 3 n (take n after ++ other) (Text x) (drop n (take n after ++ other))) (taken n after l other)
      (text (fits n after l other) (subst (λ x. IsTrue (is_piece 3 x)) (sym (taken n after l other)) u))))
  body_front (seq s) = let a = items_front s in record { front = a.front; joins = a.joins; goes = λ other. seq (a.goes other) }
  body_front (map s) = let a = pairs_front s in record { front = a.front; joins = a.joins; goes = λ other. map (a.goes other) }
  body_front (big s h) = let a = byte_string_front s in record { front = a.front; joins = a.joins; goes = λ other. big (a.goes other) h }
  body_front (negative_big s h) = let a = byte_string_front s in record { front = a.front; joins = a.joins; goes = λ other. negative_big (a.goes other) h }
  body_front (tagged h k i) = let a = item_front i in record { front = a.front; joins = a.joins; goes = λ other. tagged h k (a.goes other) }

  items_front : {n : ℕ} {bytes rest : List ℕ} {parts : Parts} → AreItems n bytes parts rest → Front (λ x y. AreItems n x parts y) bytes rest
  items_front (no_items {rest = rest}) = no_byte rest _ (λ other. no_items)
  items_front (an_item i s) = both_fronts _ _ _ (item_front i) (items_front s) (λ x y z j t. an_item j t)

  pairs_front : {n : ℕ} {bytes rest : List ℕ} {parts : Parts} → AreEntries n bytes parts rest → Front (λ x y. AreEntries n x parts y) bytes rest
  pairs_front (no_pairs {rest = rest}) = no_byte rest _ (λ other. no_pairs)
  pairs_front (a_pair {n = n} {value = value} {entries = entries} i v s) =
      both_fronts _ _ (λ x y. (between : List ℕ) × IsItem x value between × AreEntries n between entries y) (item_front i)
      (both_fronts _ _ _ (item_front v) (pairs_front s) (λ x y z j t. (y, j, t))) (λ x y z j t. a_pair j t.1 t.2)

  to_break_front : {bytes rest : List ℕ} {parts : Parts} → ItemsToBreak bytes parts rest → Front (λ x y. ItemsToBreak x parts y) bytes rest
  to_break_front (items_end {rest = rest}) = one_byte 255 rest _ (λ other. items_end)
  to_break_front (items_go_on i s) = both_fronts _ _ _ (item_front i) (to_break_front s) (λ x y z j t. items_go_on j t)

  pairs_to_break_front : {bytes rest : List ℕ} {parts : Parts} → EntriesToBreak bytes parts rest → Front (λ x y. EntriesToBreak x parts y) bytes rest
  pairs_to_break_front (entries_end {rest = rest}) = one_byte 255 rest _ (λ other. entries_end)
  pairs_to_break_front (entries_go_on {value = value} {entries = entries} i v s) =
      both_fronts _ _ (λ x y. (between : List ℕ) × IsItem x value between × EntriesToBreak between entries y) (item_front i)
      (both_fronts _ _ _ (item_front v) (pairs_to_break_front s) (λ x y z j t. (y, j, t))) (λ x y z j t. entries_go_on j t.1 t.2)

-- the bytes of an item alone
pub item_alone : (bytes : List ℕ) (tree : Tree) (used : ℕ) → used ≤ length bytes → IsItem bytes tree (drop used bytes) → IsItemOf (take used bytes) tree
item_alone bytes tree used w i =
    let a = item_front i in
    let alone : IsItemOf a.front tree = subst (λ x. IsItem x tree []) (append-nil a.front) (a.goes []) in
    let size : length a.front ≡ used = let e = ap length a.joins in omega (arith, e, length-append a.front (drop used bytes), length-drop used bytes) in
    let same : take used bytes ≡ a.front = ap (take used) a.joins ∙ subst (λ x. take x (a.front ++ drop used bytes) ≡ a.front) size (take-append_seam a.front (drop used bytes)) in
    subst (λ x. IsItemOf x tree) (sym same) alone
