-- The calls of an item end where nothing that they opened is open.
use Rattle.std.specs.Prelude.{◌≡◌, ℕ, suc, true, List, [], ◌∷◌, ◌++◌, map, Some, None, refl}
use Rattle.std.proofs.Common.{ap, ◌∙◌}
use Rattle.sval_label.specs.Calls.{Call}
use Rattle.sval_label.specs.Calls as calls
use Rattle.sval_core.specs.Trees.{Tree, Parts}
use Rattle.sval_cbor_read.specs.Items.{IsItem, by_head, bytes_in_pieces, texts_in_pieces, seq_to_break, map_to_break, falsehood, truth, null, IsBody, unsigned, negative, binary, text, seq, map as map_body, big, negative_big, tagged, AreItems, no_items, an_item, AreEntries, no_pairs, a_pair, ItemsToBreak, items_end, items_go_on, EntriesToBreak, entries_end, entries_go_on}
use Rattle.sval_cbor_read.specs.Document.{pieces_of, cbor_calls, body_calls, items_calls, entries_calls, items_to_break_calls, entries_to_break_calls}
use Rattle.sval_cbor_read.specs.CallSpans.{calls_while_open, until_closed}

text_chunks_close : (pieces : List (List ℕ)) (more : List Call) (depth : ℕ)
    → until_closed (suc depth) (map (Call.TextFragment true) pieces ++ (Call.TextEnd ∷ more)) ≡ map (Call.TextFragment true) pieces ++ (Call.TextEnd ∷ calls_while_open depth (until_closed depth more))
text_chunks_close [] more depth = refl
text_chunks_close (piece ∷ pieces) more depth = ap (λ x. Call.TextFragment true piece ∷ x) (text_chunks_close pieces more depth)

byte_chunks_close : (pieces : List (List ℕ)) (more : List Call) (depth : ℕ)
    → until_closed (suc depth) (map (Call.BinaryFragment true) pieces ++ (Call.BinaryEnd ∷ more)) ≡ map (Call.BinaryFragment true) pieces ++ (Call.BinaryEnd ∷ calls_while_open depth (until_closed depth more))
byte_chunks_close [] more depth = refl
byte_chunks_close (piece ∷ pieces) more depth = ap (λ x. Call.BinaryFragment true piece ∷ x) (byte_chunks_close pieces more depth)

-- the calls up to where nothing is open are an item's, and further ones where something was open before it
mutual
  pub item_closes : {bytes rest : List ℕ} {tree : Tree} (i : IsItem bytes tree rest) (more : List Call) (depth : ℕ) → until_closed depth (cbor_calls i more) ≡ cbor_calls i (calls_while_open depth (until_closed depth more))
  item_closes (by_head e b) more depth = body_closes b more depth
  item_closes (bytes_in_pieces p) more depth = ap (λ x. Call.BinaryBegin None ∷ x) (byte_chunks_close (pieces_of p) more depth)
  item_closes (texts_in_pieces p) more depth = ap (λ x. Call.TextBegin None ∷ x) (text_chunks_close (pieces_of p) more depth)
  item_closes (seq_to_break s) more depth = ap (λ x. Call.Begin calls.Seq None ∷ x) (to_break_closes s (Call.End calls.Seq ∷ more) depth)
  item_closes (map_to_break s) more depth = ap (λ x. Call.Begin calls.Map None ∷ x) (pairs_to_break_close s (Call.End calls.Map ∷ more) depth)
  item_closes falsehood more depth = refl
  item_closes truth more depth = refl
  item_closes null more depth = refl

  body_closes : {major n : ℕ} {after rest : List ℕ} {tree : Tree} (b : IsBody major n after tree rest) (more : List Call) (depth : ℕ) → until_closed depth (body_calls b more) ≡ body_calls b (calls_while_open depth (until_closed depth more))
  body_closes unsigned more depth = refl
  body_closes negative more depth = refl
  body_closes (binary l) more depth = refl
  body_closes (text l u) more depth = refl
  body_closes (seq {n = n} s) more depth = ap (λ x. Call.Begin calls.Seq (Some n) ∷ x) (items_close s (Call.End calls.Seq ∷ more) depth)
  body_closes (map_body {n = n} s) more depth = ap (λ x. Call.Begin calls.Map (Some n) ∷ x) (pairs_close s (Call.End calls.Map ∷ more) depth)
  body_closes (big s h) more depth = refl
  body_closes (negative_big s h) more depth = refl
  body_closes (tagged h k i) more depth = item_closes i more depth

  items_close : {n : ℕ} {bytes rest : List ℕ} {parts : Parts} (s : AreItems n bytes parts rest) (more : List Call) (depth : ℕ) → until_closed (suc depth) (items_calls s more) ≡ items_calls s (until_closed (suc depth) more)
  items_close no_items more depth = refl
  items_close (an_item i s) more depth =
      ap (λ x. Call.PartBegin calls.Item ∷ x) (item_closes i (Call.PartEnd calls.Item ∷ items_calls s more) (suc depth)) ∙ ap (λ x. Call.PartBegin calls.Item ∷ cbor_calls i (Call.PartEnd calls.Item ∷ x)) (items_close s more depth)

  pairs_close : {n : ℕ} {bytes rest : List ℕ} {parts : Parts} (s : AreEntries n bytes parts rest) (more : List Call) (depth : ℕ) → until_closed (suc depth) (entries_calls s more) ≡ entries_calls s (until_closed (suc depth) more)
  pairs_close no_pairs more depth = refl
  pairs_close (a_pair i v s) more depth =
      let last : List Call = Call.PartEnd calls.Value ∷ entries_calls s more in
      ap (λ x. Call.PartBegin calls.Key ∷ x) (item_closes i (Call.PartEnd calls.Key ∷ (Call.PartBegin calls.Value ∷ cbor_calls v last)) (suc depth))
      ∙ ap (λ x. Call.PartBegin calls.Key ∷ cbor_calls i (Call.PartEnd calls.Key ∷ (Call.PartBegin calls.Value ∷ x))) (item_closes v last (suc depth))
      ∙ ap (λ x. Call.PartBegin calls.Key ∷ cbor_calls i (Call.PartEnd calls.Key ∷ (Call.PartBegin calls.Value ∷ cbor_calls v (Call.PartEnd calls.Value ∷ x)))) (pairs_close s more depth)

  to_break_closes : {bytes rest : List ℕ} {parts : Parts} (s : ItemsToBreak bytes parts rest) (more : List Call) (depth : ℕ) → until_closed (suc depth) (items_to_break_calls s more) ≡ items_to_break_calls s (until_closed (suc depth) more)
  to_break_closes items_end more depth = refl
  to_break_closes (items_go_on i s) more depth =
      ap (λ x. Call.PartBegin calls.Item ∷ x) (item_closes i (Call.PartEnd calls.Item ∷ items_to_break_calls s more) (suc depth))
      ∙ ap (λ x. Call.PartBegin calls.Item ∷ cbor_calls i (Call.PartEnd calls.Item ∷ x)) (to_break_closes s more depth)

  pairs_to_break_close : {bytes rest : List ℕ} {parts : Parts} (s : EntriesToBreak bytes parts rest) (more : List Call) (depth : ℕ)
      → until_closed (suc depth) (entries_to_break_calls s more) ≡ entries_to_break_calls s (until_closed (suc depth) more)
  pairs_to_break_close entries_end more depth = refl
  pairs_to_break_close (entries_go_on i v s) more depth =
      let last : List Call = Call.PartEnd calls.Value ∷ entries_to_break_calls s more in
      ap (λ x. Call.PartBegin calls.Key ∷ x) (item_closes i (Call.PartEnd calls.Key ∷ (Call.PartBegin calls.Value ∷ cbor_calls v last)) (suc depth))
      ∙ ap (λ x. Call.PartBegin calls.Key ∷ cbor_calls i (Call.PartEnd calls.Key ∷ (Call.PartBegin calls.Value ∷ x))) (item_closes v last (suc depth))
      ∙ ap (λ x. Call.PartBegin calls.Key ∷ cbor_calls i (Call.PartEnd calls.Key ∷ (Call.PartBegin calls.Value ∷ cbor_calls v (Call.PartEnd calls.Value ∷ x)))) (pairs_to_break_close s more depth)
