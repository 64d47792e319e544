-- The calls of an item are of the value of its tree, whatever calls follow.
use Rattle.std.specs.Prelude.{◌≡◌, ℕ, pos, negsuc, true, false, List, [], ◌∷◌, ◌++◌, map, take, refl}
use Rattle.std.specs.List.{concat}
use Rattle.std.proofs.Common.{ap, ◌∙◌, append-nil}
use Rattle.sval_label.specs.Calls.{Call}
use Rattle.sval_label.specs.Calls as calls
use Rattle.sval_core.specs.Trees.{Tree, Parts}
use Rattle.sval_core.specs.Trees as trees
use Rattle.sval_cbor_read.specs.Items.{big_endian, IsItem, by_head, bytes_in_pieces, texts_in_pieces, seq_to_break, map_to_break, falsehood, truth, null, IsBody, unsigned, negative, binary, text, seq, map as map_body, big, negative_big, tagged, AreItems, no_items, an_item, AreEntries, no_pairs, a_pair, ItemsToBreak, items_end, items_go_on, EntriesToBreak, entries_end, entries_go_on}
use Rattle.sval_cbor_read.specs.Document.{pieces_of, cbor_calls, body_calls, items_calls, entries_calls, items_to_break_calls, entries_to_break_calls}
use Rattle.sval_cbor_read.specs.CborValues.{CborValue, Null, Truth, Int, Text, Binary, Array, Map, CborValues, no_values, a_value, cbor_joined, all_joined, cbor_value_of, cbor_values_of, CborLevel, cbor_empty_level, cbor_innermost_level, cbor_under, cbor_puts, cbor_puts_text, puts_binary, cbor_closes, puts_call, puts_calls, cbor_levels_of, cbor_first_value, cbor_value_in}
use Rattle.sval_cbor_read.specs.CborCodes.{cbor_puts_all, around_all}
use Rattle.sval_cbor_read.proofs.Strings.{pieces_read}

-- ---- strings in chunks

abbrev text_level : List (List ℕ) → CborLevel
text_level chunks = record { texts = chunks; binaries = []; values = no_values }

abbrev binary_level : List (List ℕ) → CborLevel
binary_level chunks = record { texts = []; binaries = chunks; values = no_values }

text_chunks : (pieces : List (List ℕ)) (more : List Call) → cbor_levels_of (map (Call.TextFragment true) pieces ++ Call.TextEnd ∷ more) ≡ text_level pieces ∷ cbor_levels_of more
text_chunks [] more = refl
text_chunks (bytes ∷ pieces) more = ap (cbor_puts_text bytes) (text_chunks pieces more)

binary_chunks : (pieces : List (List ℕ)) (more : List Call) → cbor_levels_of (map (Call.BinaryFragment true) pieces ++ Call.BinaryEnd ∷ more) ≡ binary_level pieces ∷ cbor_levels_of more
binary_chunks [] more = refl
binary_chunks (bytes ∷ pieces) more = ap (puts_binary bytes) (binary_chunks pieces more)

-- ---- items

-- calls that are one value of this tree before those that follow
pub record Means (all : List Call) (tree : Tree) (more : List Call) : Type 0 where
  pub value : CborValue
  pub same : cbor_joined value ≡ cbor_value_of tree
  pub levels : cbor_levels_of all ≡ cbor_puts value (cbor_levels_of more)

-- and those of parts
record MeanAll (all : List Call) (parts : Parts) (more : List Call) : Type 0 where
  values : CborValues
  same : all_joined values ≡ cbor_values_of parts
  levels : cbor_levels_of all ≡ cbor_puts_all values (cbor_levels_of more)

-- a value in a part of a container
part_means : {all more : List Call} {tree : Tree} (slot : calls.Slot) → Means all tree (Call.PartEnd slot ∷ more) → Means (Call.PartBegin slot ∷ all) tree more
part_means slot m = record { value = m.value; same = m.same; levels = m.levels }

-- one part, and then others
then_all : {first all more : List Call} {tree : Tree} {parts : Parts} (slot : calls.Slot) → Means first tree all → MeanAll all parts more → MeanAll first (trees.part slot tree parts) more
then_all {tree = tree} slot m a = record {
  values = a_value m.value a.values;
  same = ap (λ x. a_value x (all_joined a.values)) m.same ∙ ap (a_value (cbor_value_of tree)) a.same;
  levels = m.levels ∙ ap (cbor_puts m.value) a.levels;
}

mutual
  pub item_means : {bytes rest : List ℕ} {tree : Tree} (i : IsItem bytes tree rest) (more : List Call) → Means (cbor_calls i more) tree more
  item_means (by_head e b) more = body_means b more
  item_means (bytes_in_pieces p) more = record {
    value = Binary (pieces_of p);
    same = ap (λ x. Binary (x ∷ [])) (pieces_read [] p).joined;
    levels = ap (cbor_closes (λ level. Binary level.binaries)) (binary_chunks (pieces_of p) more);
  }
  item_means (texts_in_pieces p) more = record {
    value = Text (pieces_of p);
    same = ap (λ x. Text (x ∷ [])) (pieces_read [] p).joined;
    levels = ap (cbor_closes (λ level. Text level.texts)) (text_chunks (pieces_of p) more);
  }
  item_means (seq_to_break s) more = let m = to_break_mean s (Call.End calls.Seq ∷ more) in record { value = Array m.values; same = ap Array m.same; levels = around_all Array m.values (cbor_levels_of more) _ m.levels }
  item_means (map_to_break s) more = let m = pairs_to_break_mean s (Call.End calls.Map ∷ more) in record { value = Map m.values; same = ap Map m.same; levels = around_all Map m.values (cbor_levels_of more) _ m.levels }
  item_means falsehood more = record { value = Truth false; same = refl; levels = refl }
  item_means truth more = record { value = Truth true; same = refl; levels = refl }
  item_means null more = record { value = Null; same = refl; levels = refl }

  body_means : {major n : ℕ} {after rest : List ℕ} {tree : Tree} (b : IsBody major n after tree rest) (more : List Call) → Means (body_calls b more) tree more
  body_means (unsigned {n = n}) more = record { value = Int (pos n); same = refl; levels = refl }
  body_means (negative {n = n}) more = record { value = Int (negsuc n); same = refl; levels = refl }
  body_means (binary {n = n} {after = after} l) more = record { value = Binary (take n after ∷ []); same = ap (λ x. Binary (x ∷ [])) (append-nil (take n after)); levels = refl }
  body_means (text {n = n} {after = after} l u) more = record { value = Text (take n after ∷ []); same = ap (λ x. Text (x ∷ [])) (append-nil (take n after)); levels = refl }
  body_means (seq s) more = let m = items_mean s (Call.End calls.Seq ∷ more) in record { value = Array m.values; same = ap Array m.same; levels = around_all Array m.values (cbor_levels_of more) _ m.levels }
  body_means (map_body s) more = let m = pairs_mean s (Call.End calls.Map ∷ more) in record { value = Map m.values; same = ap Map m.same; levels = around_all Map m.values (cbor_levels_of more) _ m.levels }
  body_means (big {content = content} s h) more = record { value = Int (pos (big_endian content)); same = refl; levels = refl }
  body_means (negative_big {content = content} s h) more = record { value = Int (negsuc (big_endian content)); same = refl; levels = refl }
  body_means (tagged h k i) more = item_means i more

  items_mean : {n : ℕ} {bytes rest : List ℕ} {parts : Parts} (s : AreItems n bytes parts rest) (more : List Call) → MeanAll (items_calls s more) parts more
  items_mean no_items more = record { values = no_values; same = refl; levels = refl }
  items_mean (an_item i s) more = then_all calls.Item (part_means calls.Item (item_means i (Call.PartEnd calls.Item ∷ items_calls s more))) (items_mean s more)

  pairs_mean : {n : ℕ} {bytes rest : List ℕ} {parts : Parts} (s : AreEntries n bytes parts rest) (more : List Call) → MeanAll (entries_calls s more) parts more
  pairs_mean no_pairs more = record { values = no_values; same = refl; levels = refl }
  pairs_mean (a_pair i v s) more =
      let values : List Call = Call.PartBegin calls.Value ∷ cbor_calls v (Call.PartEnd calls.Value ∷ entries_calls s more) in
      then_all calls.Key (part_means calls.Key (item_means i (Call.PartEnd calls.Key ∷ values))) (then_all calls.Value (part_means calls.Value (item_means v (Call.PartEnd calls.Value ∷ entries_calls s more))) (pairs_mean s more))

  to_break_mean : {bytes rest : List ℕ} {parts : Parts} (s : ItemsToBreak bytes parts rest) (more : List Call) → MeanAll (items_to_break_calls s more) parts more
  to_break_mean items_end more = record { values = no_values; same = refl; levels = refl }
  to_break_mean (items_go_on i s) more = then_all calls.Item (part_means calls.Item (item_means i (Call.PartEnd calls.Item ∷ items_to_break_calls s more))) (to_break_mean s more)

  pairs_to_break_mean : {bytes rest : List ℕ} {parts : Parts} (s : EntriesToBreak bytes parts rest) (more : List Call) → MeanAll (entries_to_break_calls s more) parts more
  pairs_to_break_mean entries_end more = record { values = no_values; same = refl; levels = refl }
  pairs_to_break_mean (entries_go_on i v s) more =
      let values : List Call = Call.PartBegin calls.Value ∷ cbor_calls v (Call.PartEnd calls.Value ∷ entries_to_break_calls s more) in
      then_all calls.Key (part_means calls.Key (item_means i (Call.PartEnd calls.Key ∷ values))) (then_all calls.Value (part_means calls.Value (item_means v (Call.PartEnd calls.Value ∷ entries_to_break_calls s more))) (pairs_to_break_mean s more))

-- the calls of the whole item
pub documents_mean : (bytes rest : List ℕ) (tree : Tree) (item : IsItem bytes tree rest) → cbor_joined (cbor_value_in (cbor_calls item [])) ≡ cbor_value_of tree
documents_mean bytes rest tree item = let m = item_means item [] in ap (λ levels. cbor_joined (cbor_first_value (cbor_innermost_level levels).values)) m.levels ∙ m.same

-- ---- the value of an item, whatever calls follow

both : {first another : CborValue} {values others : CborValues} → first ≡ another → values ≡ others → a_value first values ≡ a_value another others
both {another = another} {values = values} e f = ap (λ x. a_value x values) e ∙ ap (a_value another) f

mutual
  unfolding item_means body_means items_mean pairs_mean to_break_mean pairs_to_break_mean then_all part_means

  pub one_value : {bytes rest : List ℕ} {tree : Tree} (i : IsItem bytes tree rest) (more other : List Call) → (item_means i more).value ≡ (item_means i other).value
  one_value (by_head e b) more other = one_body b more other
  one_value (bytes_in_pieces p) more other = refl
  one_value (texts_in_pieces p) more other = refl
  one_value (seq_to_break s) more other = ap Array (one_to_break s (Call.End calls.Seq ∷ more) (Call.End calls.Seq ∷ other))
  one_value (map_to_break s) more other = ap Map (one_pairs_to_break s (Call.End calls.Map ∷ more) (Call.End calls.Map ∷ other))
  one_value falsehood more other = refl
  one_value truth more other = refl
  one_value null more other = refl

  one_body : {major n : ℕ} {after rest : List ℕ} {tree : Tree} (b : IsBody major n after tree rest) (more other : List Call) → (body_means b more).value ≡ (body_means b other).value
  one_body unsigned more other = refl
  one_body negative more other = refl
  one_body (binary l) more other = refl
  one_body (text l u) more other = refl
  one_body (seq s) more other = ap Array (one_items s (Call.End calls.Seq ∷ more) (Call.End calls.Seq ∷ other))
  one_body (map_body s) more other = ap Map (one_pairs s (Call.End calls.Map ∷ more) (Call.End calls.Map ∷ other))
  one_body (big s h) more other = refl
  one_body (negative_big s h) more other = refl
  one_body (tagged h k i) more other = one_value i more other

  one_items : {n : ℕ} {bytes rest : List ℕ} {parts : Parts} (s : AreItems n bytes parts rest) (more other : List Call) → (items_mean s more).values ≡ (items_mean s other).values
  one_items no_items more other = refl
  one_items (an_item i s) more other = both (one_value i (Call.PartEnd calls.Item ∷ items_calls s more) (Call.PartEnd calls.Item ∷ items_calls s other)) (one_items s more other)

  one_pairs : {n : ℕ} {bytes rest : List ℕ} {parts : Parts} (s : AreEntries n bytes parts rest) (more other : List Call) → (pairs_mean s more).values ≡ (pairs_mean s other).values
  one_pairs no_pairs more other = refl
  one_pairs (a_pair i v s) more other =
      let values : List Call → List Call = λ row. Call.PartBegin calls.Value ∷ cbor_calls v (Call.PartEnd calls.Value ∷ entries_calls s row) in
      both (one_value i (Call.PartEnd calls.Key ∷ values more) (Call.PartEnd calls.Key ∷ values other))
      (both (one_value v (Call.PartEnd calls.Value ∷ entries_calls s more) (Call.PartEnd calls.Value ∷ entries_calls s other)) (one_pairs s more other))

  one_to_break : {bytes rest : List ℕ} {parts : Parts} (s : ItemsToBreak bytes parts rest) (more other : List Call) → (to_break_mean s more).values ≡ (to_break_mean s other).values
  one_to_break items_end more other = refl
  one_to_break (items_go_on i s) more other = both (one_value i (Call.PartEnd calls.Item ∷ items_to_break_calls s more) (Call.PartEnd calls.Item ∷ items_to_break_calls s other)) (one_to_break s more other)

  one_pairs_to_break : {bytes rest : List ℕ} {parts : Parts} (s : EntriesToBreak bytes parts rest) (more other : List Call) → (pairs_to_break_mean s more).values ≡ (pairs_to_break_mean s other).values
  one_pairs_to_break entries_end more other = refl
  one_pairs_to_break (entries_go_on i v s) more other =
      let values : List Call → List Call = λ row. Call.PartBegin calls.Value ∷ cbor_calls v (Call.PartEnd calls.Value ∷ entries_to_break_calls s row) in
      both (one_value i (Call.PartEnd calls.Key ∷ values more) (Call.PartEnd calls.Key ∷ values other))
      (both (one_value v (Call.PartEnd calls.Value ∷ entries_to_break_calls s more) (Call.PartEnd calls.Value ∷ entries_to_break_calls s other)) (one_pairs_to_break s more other))
