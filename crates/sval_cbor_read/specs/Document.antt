-- The calls that the document of an item makes: sizes where the bytes are definite, and each piece of a string as one borrowed fragment.
use Rattle.std.specs.Prelude.{ℕ, pos, negsuc, true, false, List, [], ◌∷◌, ◌++◌, map, take, Some, None}
use Rattle.sval_label.specs.Calls.{Call, U64, U128, I128}
use Rattle.sval_label.specs.Calls as calls
use Rattle.sval_core.specs.Trees.{Tree, Parts}
use Rattle.sval_cbor_read.specs.Items.{negative_type, big_endian, ArePieces, break, piece, IsItem, by_head, bytes_in_pieces, texts_in_pieces, seq_to_break, map_to_break, falsehood, truth, null, IsBody, unsigned, negative, binary, text, seq, map as map_body, big, negative_big, tagged, AreItems, no_items, an_item, AreEntries, no_pairs, a_pair, ItemsToBreak, items_end, items_go_on, EntriesToBreak, entries_end, entries_go_on, IsItemOf}

-- the contents of the pieces
abbrev pub pieces_of : {major : ℕ} {bytes content rest : List ℕ} → ArePieces major bytes content rest → List (List ℕ)
pieces_of break = []
pieces_of (piece {content = content} s p) = content ∷ pieces_of p

-- a part with its value's calls, in front of others
abbrev pub item_part_calls : calls.Slot → (List Call → List Call) → List Call → List Call
item_part_calls slot value more = Call.PartBegin slot ∷ value (Call.PartEnd slot ∷ more)

abbrev mutual
  -- the calls of an item, in front of others
  pub cbor_calls : {bytes rest : List ℕ} {tree : Tree} → IsItem bytes tree rest → List Call → List Call
  cbor_calls (by_head e b) more = body_calls b more
  cbor_calls (bytes_in_pieces p) more = Call.BinaryBegin None ∷ map (Call.BinaryFragment true) (pieces_of p) ++ Call.BinaryEnd ∷ more
  cbor_calls (texts_in_pieces p) more = Call.TextBegin None ∷ map (Call.TextFragment true) (pieces_of p) ++ Call.TextEnd ∷ more
  cbor_calls (seq_to_break s) more = Call.Begin calls.Seq None ∷ items_to_break_calls s (Call.End calls.Seq ∷ more)
  cbor_calls (map_to_break s) more = Call.Begin calls.Map None ∷ entries_to_break_calls s (Call.End calls.Map ∷ more)
  cbor_calls falsehood more = Call.Truth false ∷ more
  cbor_calls truth more = Call.Truth true ∷ more
  cbor_calls null more = Call.Null ∷ more

  -- the calls of what a head stands for, in front of others
  pub body_calls : {major n : ℕ} {after rest : List ℕ} {tree : Tree} → IsBody major n after tree rest → List Call → List Call
  body_calls (unsigned {n = n}) more = Call.Int U64 (pos n) ∷ more
  body_calls (negative {n = n}) more = Call.Int (negative_type n) (negsuc n) ∷ more
  body_calls (binary {n = n} {after = after} l) more = Call.BinaryBegin (Some n) ∷ Call.BinaryFragment true (take n after) ∷ Call.BinaryEnd ∷ more
  body_calls (text {n = n} {after = after} l u) more = Call.TextBegin (Some n) ∷ Call.TextFragment true (take n after) ∷ Call.TextEnd ∷ more
  body_calls (seq {n = n} s) more = Call.Begin calls.Seq (Some n) ∷ items_calls s (Call.End calls.Seq ∷ more)
  body_calls (map_body {n = n} s) more = Call.Begin calls.Map (Some n) ∷ entries_calls s (Call.End calls.Map ∷ more)
  body_calls (big {content = content} s h) more = Call.Int U128 (pos (big_endian content)) ∷ more
  body_calls (negative_big {content = content} s h) more = Call.Int I128 (negsuc (big_endian content)) ∷ more
  body_calls (tagged h k i) more = cbor_calls i more

  -- the calls of as many items as a head says, each as a part, in front of others
  pub items_calls : {n : ℕ} {bytes rest : List ℕ} {parts : Parts} → AreItems n bytes parts rest → List Call → List Call
  items_calls no_items more = more
  items_calls (an_item i s) more = item_part_calls calls.Item (cbor_calls i) (items_calls s more)

  -- the calls of as many pairs as a head says, each as a key and a value, in front of others
  pub entries_calls : {n : ℕ} {bytes rest : List ℕ} {parts : Parts} → AreEntries n bytes parts rest → List Call → List Call
  entries_calls no_pairs more = more
  entries_calls (a_pair i v s) more = item_part_calls calls.Key (cbor_calls i) (item_part_calls calls.Value (cbor_calls v) (entries_calls s more))

  -- the calls of the items up to a break, each as a part, in front of others
  pub items_to_break_calls : {bytes rest : List ℕ} {parts : Parts} → ItemsToBreak bytes parts rest → List Call → List Call
  items_to_break_calls items_end more = more
  items_to_break_calls (items_go_on i s) more = item_part_calls calls.Item (cbor_calls i) (items_to_break_calls s more)

  -- the calls of the pairs up to a break, each as a key and a value, in front of others
  pub entries_to_break_calls : {bytes rest : List ℕ} {parts : Parts} → EntriesToBreak bytes parts rest → List Call → List Call
  entries_to_break_calls entries_end more = more
  entries_to_break_calls (entries_go_on i v s) more = item_part_calls calls.Key (cbor_calls i) (item_part_calls calls.Value (cbor_calls v) (entries_to_break_calls s more))

-- the calls of the whole document
abbrev pub cbor_document_calls : {bytes : List ℕ} {tree : Tree} → IsItemOf bytes tree → List Call
cbor_document_calls i = cbor_calls i []
