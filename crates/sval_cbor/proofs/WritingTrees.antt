-- Calls that spell a tree in whole texts are written as the bytes of what the tree packs to, or refused as the tree is.
use Rattle.std.specs.Prelude.{◌≡◌, ℕ, Bool, true, false, List, [], ◌∷◌, ◌++◌, Option, Result, Ok, Err, refl}
use Rattle.std.proofs.Common.{sym, ap, ◌∙◌, append_assoc, append-nil}
use Rattle.sval_label.specs.Calls.{Call, Head, Slot, Name}
use Rattle.sval_core.specs.Trees.{Tree, Null, Truth, Int, Text, Binary, Standalone, Tagged, EmptyEnum, Enum, Container, Parts, none, part, text_kind, IsGood, AreGood}
use Rattle.sval_core.specs.Spells.{Says, SayParts, bare_name, bare_slot, entries, plain, Spells}
use Rattle.sval_json.specs.Json.{escaped_key, array, object, item, pair}
use Rattle.sval_json.specs.Shape.{handle}
use Rattle.sval_cbor.specs.declared.style.Style.{Style}
use Rattle.sval_cbor.specs.Packs.{PackRefusal, on_packed, map_packed, pack_key, packs, packed_items, packed_pairs, pack_as}
use Rattle.sval_cbor.specs.Cbor.{string, held_count, row_head, row_end, cbor_as, cbor_items_as, cbor_pairs_as}
use Rattle.sval_cbor.specs.Writing.{EnumPlace, Elsewhere, Begun, CborState, first_count, later_counts, cbor_state, cbor_start, after_handle, written_from, written_as, NoText, HaveWholeTexts}
use Rattle.sval_cbor.proofs.WritingPlain.{prepend, prepend_nothing, and_then, written_plain, whole_plain}
use Rattle.sval_cbor.proofs.WholeTexts.{whole_text, whole_binary, whole_inside, whole_after}
use Rattle.sval_cbor.proofs.AlikeBytes.{own_count, head_counted, counts_left}
use Rattle.sval_cbor.proofs.CountedCalls.{counts_spelled}
use Rattle.sval_cbor.proofs.WritingKeys.{is_begun, tree_counts, part_counts, key_result, key_keeps, after, key_written}
use Rattle.sval_cbor.proofs.WritingFrames.{in_value, front, unclosed, unclosed_plain, array_framed, object_framed, items_joined, pairs_joined}
use Rattle.sval_cbor.proofs.WritingValues.{IsWritten, opened, text_value, binary_value, standalone_value, tagged_written, empty_enum, enum_written, AreQuiet, quiet_items, quiet_places, ArePairs, map_pairs, field_pairs, field_place_pairs, items_counted, pairs_counted}

module _ (style : Style) where
  abbrev ItemsAreWritten : List ℕ → Parts → List Call → List Call → Type 0
  ItemsAreWritten more parts calls rest =
      written_from calls (in_value style Elsewhere (part_counts style.lengths parts ++ more))
      ≡ and_then (map_packed (cbor_items_as style.lengths) (packed_items style parts)) (written_from rest (in_value style Elsewhere more))

  abbrev PairsAreWritten : List ℕ → Parts → List Call → List Call → Type 0
  PairsAreWritten more parts calls rest =
      written_from calls (in_value style Elsewhere (part_counts style.lengths parts ++ more))
      ≡ and_then (map_packed (cbor_pairs_as style.lengths) (packed_pairs style parts)) (written_from rest (in_value style Elsewhere more))

  -- calls by equal counts
  counts_alike : (calls : List Call) (in_key : Bool) {counts other : List ℕ} → counts ≡ other → written_from calls (cbor_state style Elsewhere in_key false counts) ≡ written_from calls (cbor_state style Elsewhere in_key false other)
  counts_alike calls in_key e = ap (λ counts. written_from calls (cbor_state style Elsewhere in_key false counts)) e

  -- a value, its part's end, and then others
  value_part : (more : List ℕ) (tree : Tree) (inner ended last : List Call) (q : Result (List ℕ) PackRefusal) → IsWritten style more tree inner ended Elsewhere
      → written_from ended (in_value style (after tree) more) ≡ prepend [] (written_from last (in_value style Elsewhere more)) → written_from last (in_value style Elsewhere more) ≡ q
      → written_from inner (in_value style Elsewhere (tree_counts style.lengths tree ++ more)) ≡ and_then (map_packed (cbor_as style.lengths) (packs style tree false)) q
  value_part more tree inner ended last q h e r =
      h ∙ ap (and_then (unclosed style tree false)) (e ∙ prepend_nothing (written_from last (in_value style Elsewhere more)) ∙ r) ∙ ap (λ x. and_then x q) (unclosed_plain style tree)

  -- the same with the counts of the parts after it
  part_value : (more : List ℕ) (tree : Tree) (parts : Parts) (inner ended last : List Call) (q : Result (List ℕ) PackRefusal) → IsWritten style (part_counts style.lengths parts ++ more) tree inner ended Elsewhere
      → written_from ended (in_value style (after tree) (part_counts style.lengths parts ++ more)) ≡ prepend [] (written_from last (in_value style Elsewhere (part_counts style.lengths parts ++ more)))
      → written_from last (in_value style Elsewhere (part_counts style.lengths parts ++ more)) ≡ q
      → written_from inner (in_value style Elsewhere (tree_counts style.lengths tree ++ part_counts style.lengths parts ++ more)) ≡ and_then (map_packed (cbor_as style.lengths) (packs style tree false)) q
  part_value more tree parts inner ended last q h e r =
      counts_alike inner false (append_assoc (tree_counts style.lengths tree) (part_counts style.lengths parts) more) ∙ value_part (part_counts style.lengths parts ++ more) tree inner ended last q h e r

  item_part : (more : List ℕ) (tree : Tree) (parts : Parts) (inner ended last rest : List Call) → IsWritten style (part_counts style.lengths parts ++ more) tree inner ended Elsewhere
      → written_from ended (in_value style (after tree) (part_counts style.lengths parts ++ more)) ≡ prepend [] (written_from last (in_value style Elsewhere (part_counts style.lengths parts ++ more)))
      → ItemsAreWritten more parts last rest
      → prepend [] (written_from inner (in_value style Elsewhere (tree_counts style.lengths tree ++ part_counts style.lengths parts ++ more)))
      ≡ and_then (map_packed (cbor_items_as style.lengths) (on_packed (packs style tree false) (λ json. map_packed (item json) (packed_items style parts)))) (written_from rest (in_value style Elsewhere more))
  item_part more tree parts inner ended last rest h e r =
      let q = written_from rest (in_value style Elsewhere more) in
      prepend_nothing (written_from inner (in_value style Elsewhere (tree_counts style.lengths tree ++ part_counts style.lengths parts ++ more)))
      ∙ part_value more tree parts inner ended last (and_then (map_packed (cbor_items_as style.lengths) (packed_items style parts)) q) h e r
      ∙ items_joined style.lengths (packs style tree false) (packed_items style parts) q

  field_part : (more : List ℕ) (bytes : List ℕ) (tree : Tree) (parts : Parts) (inner ended last rest : List Call) → IsWritten style (part_counts style.lengths parts ++ more) tree inner ended Elsewhere
      → written_from ended (in_value style (after tree) (part_counts style.lengths parts ++ more)) ≡ prepend [] (written_from last (in_value style Elsewhere (part_counts style.lengths parts ++ more)))
      → PairsAreWritten more parts last rest
      → prepend (string 3 bytes) (written_from inner (in_value style Elsewhere (tree_counts style.lengths tree ++ part_counts style.lengths parts ++ more)))
      ≡ and_then (map_packed (cbor_pairs_as style.lengths) (on_packed (packs style tree false) (λ json. map_packed (pair (escaped_key bytes) json) (packed_pairs style parts)))) (written_from rest (in_value style Elsewhere more))
  field_part more bytes tree parts inner ended last rest h e r =
      let q = written_from rest (in_value style Elsewhere more) in
      ap (prepend (string 3 bytes)) (part_value more tree parts inner ended last (and_then (map_packed (cbor_pairs_as style.lengths) (packed_pairs style parts)) q) h e r)
      ∙ pairs_joined style.lengths (Ok (escaped_key bytes)) (packs style tree false) (packed_pairs style parts) q

  entry_part : (more : List ℕ) (key value : Tree) (parts : Parts) (inner between held ended last rest : List Call)
      → ((counts : List ℕ) → written_from inner (cbor_state style Elsewhere true false counts) ≡ and_then (key_result key false) (written_from (Call.PartEnd Slot.Key ∷ between) (cbor_state style (after key) true false counts)))
      → between ≡ Call.PartBegin Slot.Value ∷ held → IsWritten style (part_counts style.lengths parts ++ more) value held ended Elsewhere
      → written_from ended (in_value style (after value) (part_counts style.lengths parts ++ more)) ≡ prepend [] (written_from last (in_value style Elsewhere (part_counts style.lengths parts ++ more)))
      → PairsAreWritten more parts last rest
      → prepend [] (written_from inner (cbor_state style Elsewhere true false (tree_counts style.lengths key ++ (tree_counts style.lengths value ++ part_counts style.lengths parts) ++ more)))
      ≡ and_then (map_packed (cbor_pairs_as style.lengths) (on_packed (pack_key key) (λ k. on_packed (packs style value false) (λ json. map_packed (pair k json) (packed_pairs style parts))))) (written_from rest (in_value style Elsewhere more))
  entry_part more key value parts inner between held ended last rest k b h e r =
      let q = written_from rest (in_value style Elsewhere more) in
      let later = tree_counts style.lengths value ++ part_counts style.lengths parts ++ more in
      let v = part_value more value parts held ended last (and_then (map_packed (cbor_pairs_as style.lengths) (packed_pairs style parts)) q) h e r in
      let i : written_from between (in_value style Elsewhere later) ≡ and_then (map_packed (cbor_as style.lengths) (packs style value false)) (and_then (map_packed (cbor_pairs_as style.lengths) (packed_pairs style parts)) q) =
      ap (λ cs. written_from cs (in_value style Elsewhere later)) b ∙ prepend_nothing (written_from held (in_value style Elsewhere later)) ∙ v in
      prepend_nothing (written_from inner (cbor_state style Elsewhere true false (tree_counts style.lengths key ++ (tree_counts style.lengths value ++ part_counts style.lengths parts) ++ more)))
      ∙ counts_alike inner true (append_assoc (tree_counts style.lengths key) (tree_counts style.lengths value ++ part_counts style.lengths parts) more)
      ∙ k (tree_counts style.lengths key ++ later)
      ∙ key_keeps style.lengths key later (λ counts. written_from (Call.PartEnd Slot.Key ∷ between) (cbor_state style (after key) true false counts))
      ∙ ap (and_then (key_result key false)) (prepend_nothing (written_from between (in_value style Elsewhere later)) ∙ i)
      ∙ pairs_joined style.lengths (pack_key key) (packs style value false) (packed_pairs style parts) q

  -- ---- containers

  -- the head of a container, and its parts with the counts that are left
  begun : (major n : ℕ) (made inner_counts more : List ℕ) (calls : List Call)
      → (let counts = own_count style.lengths n ++ inner_counts ++ more in
      prepend (made ++ row_head style.lengths major (first_count counts)) (written_from calls (in_value style Elsewhere (later_counts style.lengths counts)))
      ≡ prepend (made ++ row_head style.lengths major (held_count n)) (written_from calls (in_value style Elsewhere (inner_counts ++ more))))
  begun major n made inner_counts more calls =
      let counts = own_count style.lengths n ++ inner_counts ++ more in
      ap (λ head. prepend (made ++ head) (written_from calls (in_value style Elsewhere (later_counts style.lengths counts)))) (head_counted style.lengths major n inner_counts more)
      ∙ ap (prepend (made ++ row_head style.lengths major (held_count n))) (counts_alike calls false (counts_left style.lengths n inner_counts more))

  items_framed : (more made : List ℕ) (parts : Parts) (inner ended : List Call) (q : Result (List ℕ) PackRefusal) → AreQuiet parts → ItemsAreWritten more parts inner ended
      → written_from ended (in_value style Elsewhere more) ≡ prepend (row_end style.lengths) q
      → (let counts = own_count style.lengths (entries parts) ++ part_counts style.lengths parts ++ more in
      prepend (made ++ row_head style.lengths 4 (first_count counts)) (written_from inner (in_value style Elsewhere (later_counts style.lengths counts)))
      ≡ and_then (map_packed (λ json. made ++ cbor_as style.lengths json) (map_packed array (packed_items style parts))) q)
  items_framed more made parts inner ended q quiet h e =
      begun 4 (entries parts) made (part_counts style.lengths parts) more inner
      ∙ ap (prepend (made ++ row_head style.lengths 4 (held_count (entries parts)))) (h ∙ ap (and_then (map_packed (cbor_items_as style.lengths) (packed_items style parts))) e)
      ∙ array_framed style.lengths (entries parts) made (packed_items style parts) q (items_counted style parts quiet)

  pairs_framed : (more made : List ℕ) (parts : Parts) (inner ended : List Call) (q : Result (List ℕ) PackRefusal) → ArePairs parts → PairsAreWritten more parts inner ended
      → written_from ended (in_value style Elsewhere more) ≡ prepend (row_end style.lengths) q
      → (let counts = own_count style.lengths (entries parts) ++ part_counts style.lengths parts ++ more in
      prepend (made ++ row_head style.lengths 5 (first_count counts)) (written_from inner (in_value style Elsewhere (later_counts style.lengths counts)))
      ≡ and_then (map_packed (λ json. made ++ cbor_as style.lengths json) (map_packed object (packed_pairs style parts))) q)
  pairs_framed more made parts inner ended q pairs h e =
      begun 5 (entries parts) made (part_counts style.lengths parts) more inner
      ∙ ap (prepend (made ++ row_head style.lengths 5 (held_count (entries parts)))) (h ∙ ap (and_then (map_packed (cbor_pairs_as style.lengths) (packed_pairs style parts))) e)
      ∙ object_framed style.lengths (entries parts) made (packed_pairs style parts) q (pairs_counted style parts pairs)

  -- the state in a container with these parts
  abbrev in_container : List ℕ → Parts → CborState
  in_container more parts = in_value style Elsewhere (later_counts style.lengths (own_count style.lengths (entries parts) ++ part_counts style.lengths parts ++ more))

  -- its head
  abbrev head_of : ℕ → List ℕ → Parts → List ℕ
  head_of major more parts = row_head style.lengths major (first_count (own_count style.lengths (entries parts) ++ part_counts style.lengths parts ++ more))

  seq_written : (more : List ℕ) (size : Option ℕ) (parts : Parts) (inner rest : List Call) (place : EnumPlace) → AreQuiet parts → ItemsAreWritten more parts inner (Call.End Head.Seq ∷ rest)
      → IsWritten style more (Container Head.Seq parts) (Call.Begin Head.Seq size ∷ inner) rest place
  seq_written more size parts inner rest place q h = items_framed more [] parts inner (Call.End Head.Seq ∷ rest) (written_from rest (in_value style Elsewhere more)) q h refl

  map_written : (more : List ℕ) (size : Option ℕ) (parts : Parts) (inner rest : List Call) (place : EnumPlace) → ArePairs parts → PairsAreWritten more parts inner (Call.End Head.Map ∷ rest)
      → IsWritten style more (Container Head.Map parts) (Call.Begin Head.Map size ∷ inner) rest place
  map_written more size parts inner rest place q h = pairs_framed more [] parts inner (Call.End Head.Map ∷ rest) (written_from rest (in_value style Elsewhere more)) q h refl

  record_written : (more : List ℕ) (name : Name) (size : Option ℕ) (parts : Parts) (inner rest : List Call) (place : EnumPlace) → ArePairs parts → PairsAreWritten more parts inner (Call.End (Head.Record (bare_name name)) ∷ rest)
      → IsWritten style more (Container (Head.Record name) parts) (Call.Begin (Head.Record name) size ∷ inner) rest place
  record_written more name size parts inner rest place q h =
      opened style more name (head_of 5 more parts) (in_container more parts) place inner
      ∙ pairs_framed more (front style.lengths (handle name) (is_begun place)) parts inner (Call.End (Head.Record (bare_name name)) ∷ rest) (written_from rest (in_value style (after_handle (handle (bare_name name))) more)) q h refl

  tuple_written : (more : List ℕ) (name : Name) (size : Option ℕ) (parts : Parts) (inner rest : List Call) (place : EnumPlace) → AreQuiet parts → ItemsAreWritten more parts inner (Call.End (Head.Tuple (bare_name name)) ∷ rest)
      → IsWritten style more (Container (Head.Tuple name) parts) (Call.Begin (Head.Tuple name) size ∷ inner) rest place
  tuple_written more name size parts inner rest place q h =
      opened style more name (head_of 4 more parts) (in_container more parts) place inner
      ∙ items_framed more (front style.lengths (handle name) (is_begun place)) parts inner (Call.End (Head.Tuple (bare_name name)) ∷ rest) (written_from rest (in_value style (after_handle (handle (bare_name name))) more)) q h refl

  record_tuple_written : (more : List ℕ) (name : Name) (size : Option ℕ) (parts : Parts) (inner rest : List Call) (place : EnumPlace) → ArePairs parts → PairsAreWritten more parts inner (Call.End (Head.RecordTuple (bare_name name)) ∷ rest)
      → IsWritten style more (Container (Head.RecordTuple name) parts) (Call.Begin (Head.RecordTuple name) size ∷ inner) rest place
  record_tuple_written more name size parts inner rest place q h =
      opened style more name (head_of 5 more parts) (in_container more parts) place inner
      ∙ pairs_framed more (front style.lengths (handle name) (is_begun place)) parts inner (Call.End (Head.RecordTuple (bare_name name)) ∷ rest) (written_from rest (in_value style (after_handle (handle (bare_name name))) more)) q h refl

  -- from the begin of a part to the begin of its value, and to the part after it
  inside_part : (slot : Slot) (tree : Tree) (parts : Parts) (calls rest : List Call) (s : SayParts (part slot tree parts) calls rest) → HaveWholeTexts calls → HaveWholeTexts s.0
  inside_part slot tree parts calls rest s w = whole_inside (Call.PartBegin slot) calls s.0 s.2 refl w

  after_part : (slot : Slot) (tree : Tree) (parts : Parts) (calls rest : List Call) (s : SayParts (part slot tree parts) calls rest) → HaveWholeTexts calls → HaveWholeTexts s.1
  after_part slot tree parts calls rest s w =
      whole_inside (Call.PartEnd (bare_slot slot)) (Call.PartEnd (bare_slot slot) ∷ s.1) s.1 refl refl (whole_after tree s.0 (Call.PartEnd (bare_slot slot) ∷ s.1) s.3 (inside_part slot tree parts calls rest s w))

  abbrev from_start : (calls other : List Call) (state : CborState) → calls ≡ other → written_from calls state ≡ written_from other state
  from_start calls other state e = ap (λ cs. written_from cs state) e

  mutual
    pub value_written : (more : List ℕ) (t : Tree) (calls rest : List Call) (place : EnumPlace) → Says t calls rest → HaveWholeTexts calls → IsGood t → IsWritten style more t calls rest place
    value_written more Null calls rest place s w g = ap (λ cs. written_from cs (in_value style place (tree_counts style.lengths Null ++ more))) s
    value_written more (Truth b) calls rest place s w g = ap (λ cs. written_from cs (in_value style place (tree_counts style.lengths (Truth b) ++ more))) s
    value_written more (Int type n) calls rest place s w g = ap (λ cs. written_from cs (in_value style place (tree_counts style.lengths (Int type n) ++ more))) s
    value_written more (Text bytes) calls rest place s w g = text_value style more bytes calls rest place (whole_text bytes calls rest s w)
    value_written more (Binary bytes) calls rest place s w g = binary_value style more bytes calls rest place (whole_binary bytes calls rest s w)
    value_written more (Standalone name) calls rest place s w g = ap (λ cs. written_from cs (in_value style place more)) s ∙ standalone_value style more name rest place
    value_written more (Tagged name tree) calls rest place s w g =
        ap (λ cs. written_from cs (in_value style place (tree_counts style.lengths (Tagged name tree) ++ more))) s.1
        ∙ tagged_written style more (text_kind name.tag) name tree s.0 rest place g.1 s.2 (whole_inside (Call.TaggedBegin name) calls s.0 s.1 refl w)
        (value_written more tree s.0 (Call.TaggedEnd (bare_name name) ∷ rest) Elsewhere s.2 (whole_inside (Call.TaggedBegin name) calls s.0 s.1 refl w) g.2)
    value_written more (EmptyEnum name) calls rest place s w g = ap (λ cs. written_from cs (in_value style place more)) s ∙ empty_enum style more name rest place
    value_written more (Enum name tree) calls rest place s w g =
        ap (λ cs. written_from cs (in_value style place (tree_counts style.lengths (Enum name tree) ++ more))) s.1
        ∙ enum_written style more name tree s.0 rest place (value_written more tree s.0 (Call.EnumEnd (bare_name name) ∷ rest) Begun s.2 (whole_inside (Call.EnumBegin name) calls s.0 s.1 refl w) g.2)
    value_written more (Container Head.Seq parts) calls rest place s w g =
        ap (λ cs. written_from cs (in_value style place (tree_counts style.lengths (Container Head.Seq parts) ++ more))) s.3
        ∙ seq_written more s.0 parts s.1 rest place (quiet_items parts g.1) (items_written more parts s.1 (Call.End Head.Seq ∷ rest) s.4 (whole_inside (Call.Begin Head.Seq s.0) calls s.1 s.3 refl w) g.2 (quiet_items parts g.1))
    value_written more (Container Head.Map parts) calls rest place s w g =
        ap (λ cs. written_from cs (in_value style place (tree_counts style.lengths (Container Head.Map parts) ++ more))) s.3
        ∙ map_written more s.0 parts s.1 rest place (map_pairs parts g.1) (pairs_written more parts s.1 (Call.End Head.Map ∷ rest) s.4 (whole_inside (Call.Begin Head.Map s.0) calls s.1 s.3 refl w) g.2 (map_pairs parts g.1))
    value_written more (Container (Head.Record name) parts) calls rest place s w g =
        ap (λ cs. written_from cs (in_value style place (tree_counts style.lengths (Container (Head.Record name) parts) ++ more))) s.3
        ∙ record_written more name s.0 parts s.1 rest place (field_pairs parts g.1) (pairs_written more parts s.1 (Call.End (Head.Record (bare_name name)) ∷ rest) s.4 (whole_inside (Call.Begin (Head.Record name) s.0) calls s.1 s.3 refl w) g.2 (field_pairs parts g.1))
    value_written more (Container (Head.Tuple name) parts) calls rest place s w g =
        ap (λ cs. written_from cs (in_value style place (tree_counts style.lengths (Container (Head.Tuple name) parts) ++ more))) s.3
        ∙ tuple_written more name s.0 parts s.1 rest place (quiet_places parts g.1) (items_written more parts s.1 (Call.End (Head.Tuple (bare_name name)) ∷ rest) s.4 (whole_inside (Call.Begin (Head.Tuple name) s.0) calls s.1 s.3 refl w) g.2 (quiet_places parts g.1))
    value_written more (Container (Head.RecordTuple name) parts) calls rest place s w g =
        ap (λ cs. written_from cs (in_value style place (tree_counts style.lengths (Container (Head.RecordTuple name) parts) ++ more))) s.3
        ∙ record_tuple_written more name s.0 parts s.1 rest place (field_place_pairs parts g.1) (pairs_written more parts s.1 (Call.End (Head.RecordTuple (bare_name name)) ∷ rest) s.4 (whole_inside (Call.Begin (Head.RecordTuple name) s.0) calls s.1 s.3 refl w) g.2 (field_place_pairs parts g.1))

    items_written : (more : List ℕ) (parts : Parts) (calls rest : List Call) → SayParts parts calls rest → HaveWholeTexts calls → AreGood parts → AreQuiet parts → ItemsAreWritten more parts calls rest
    items_written more none calls rest s w g q = from_start calls rest (in_value style Elsewhere more) s ∙ sym (prepend_nothing (written_from rest (in_value style Elsewhere more)))
    items_written more (part Slot.Item tree parts) calls rest s w g q =
        from_start calls (Call.PartBegin Slot.Item ∷ s.0) (in_value style Elsewhere (part_counts style.lengths (part Slot.Item tree parts) ++ more)) s.2
        ∙ item_part more tree parts s.0 (Call.PartEnd Slot.Item ∷ s.1) s.1 rest (value_written (part_counts style.lengths parts ++ more) tree s.0 (Call.PartEnd Slot.Item ∷ s.1) Elsewhere s.3 (inside_part Slot.Item tree parts calls rest s w) g.1) refl
        (items_written more parts s.1 rest s.4 (after_part Slot.Item tree parts calls rest s w) g.2 q)
    items_written more (part (Slot.Place tag index) tree parts) calls rest s w g q =
        from_start calls (Call.PartBegin (Slot.Place tag index) ∷ s.0) (in_value style Elsewhere (part_counts style.lengths (part (Slot.Place tag index) tree parts) ++ more)) s.2
        ∙ item_part more tree parts s.0 (Call.PartEnd (bare_slot (Slot.Place tag index)) ∷ s.1) s.1 rest
        (value_written (part_counts style.lengths parts ++ more) tree s.0 (Call.PartEnd (bare_slot (Slot.Place tag index)) ∷ s.1) Elsewhere s.3 (inside_part (Slot.Place tag index) tree parts calls rest s w) g.1) refl
        (items_written more parts s.1 rest s.4 (after_part (Slot.Place tag index) tree parts calls rest s w) g.2 q)
    items_written more parts calls rest s w g q = absurd q

    pairs_written : (more : List ℕ) (parts : Parts) (calls rest : List Call) → SayParts parts calls rest → HaveWholeTexts calls → AreGood parts → ArePairs parts → PairsAreWritten more parts calls rest
    pairs_written more none calls rest s w g q = from_start calls rest (in_value style Elsewhere more) s ∙ sym (prepend_nothing (written_from rest (in_value style Elsewhere more)))
    pairs_written more (part Slot.Key key (part Slot.Value value parts)) calls rest s w g q =
        let between = after_part Slot.Key key (part Slot.Value value parts) calls rest s w in
        from_start calls (Call.PartBegin Slot.Key ∷ s.0) (in_value style Elsewhere (part_counts style.lengths (part Slot.Key key (part Slot.Value value parts)) ++ more)) s.2
        ∙ entry_part more key value parts s.0 s.1 s.4.0 (Call.PartEnd Slot.Value ∷ s.4.1) s.4.1 rest
        (λ counts. key_written style counts key s.0 (Call.PartEnd Slot.Key ∷ s.1) Elsewhere s.3 (inside_part Slot.Key key (part Slot.Value value parts) calls rest s w) g.1) s.4.2
        (value_written (part_counts style.lengths parts ++ more) value s.4.0 (Call.PartEnd Slot.Value ∷ s.4.1) Elsewhere s.4.3 (inside_part Slot.Value value parts s.1 rest s.4 between) g.2.1) refl
        (pairs_written more parts s.4.1 rest s.4.4 (after_part Slot.Value value parts s.1 rest s.4 between) g.2.2 q)
    pairs_written more (part (Slot.Field tag label) tree parts) calls rest s w g q =
        from_start calls (Call.PartBegin (Slot.Field tag label) ∷ s.0) (in_value style Elsewhere (part_counts style.lengths (part (Slot.Field tag label) tree parts) ++ more)) s.2
        ∙ field_part more label.text tree parts s.0 (Call.PartEnd (bare_slot (Slot.Field tag label)) ∷ s.1) s.1 rest
        (value_written (part_counts style.lengths parts ++ more) tree s.0 (Call.PartEnd (bare_slot (Slot.Field tag label)) ∷ s.1) Elsewhere s.3 (inside_part (Slot.Field tag label) tree parts calls rest s w) g.1) refl
        (pairs_written more parts s.1 rest s.4 (after_part (Slot.Field tag label) tree parts calls rest s w) g.2 q)
    pairs_written more (part (Slot.FieldPlace tag label index) tree parts) calls rest s w g q =
        from_start calls (Call.PartBegin (Slot.FieldPlace tag label index) ∷ s.0) (in_value style Elsewhere (part_counts style.lengths (part (Slot.FieldPlace tag label index) tree parts) ++ more)) s.2
        ∙ field_part more label.text tree parts s.0 (Call.PartEnd (bare_slot (Slot.FieldPlace tag label index)) ∷ s.1) s.1 rest
        (value_written (part_counts style.lengths parts ++ more) tree s.0 (Call.PartEnd (bare_slot (Slot.FieldPlace tag label index)) ∷ s.1) Elsewhere s.3 (inside_part (Slot.FieldPlace tag label index) tree parts calls rest s w) g.1) refl
        (pairs_written more parts s.1 rest s.4 (after_part (Slot.FieldPlace tag label index) tree parts calls rest s w) g.2 q)
    pairs_written more parts calls rest s w g q = absurd q

  -- with nothing after it
  alone : (r : Result (List ℕ) PackRefusal) → and_then r (Ok []) ≡ r
  alone (Ok bytes) = ap Ok (append-nil bytes)
  alone (Err why) = refl

  pub spelling_written : (calls : List Call) (tree : Tree) → Spells calls tree → HaveWholeTexts calls → written_as style calls ≡ map_packed (cbor_as style.lengths) (pack_as style tree)
  spelling_written calls tree s w =
      ap (λ counts. written_from calls (cbor_start style counts)) (counts_spelled style.lengths calls tree s.1)
      ∙ sym (written_plain calls (cbor_start style (tree_counts style.lengths tree ++ []))) ∙ value_written [] tree (plain calls) [] Elsewhere s.1 (whole_plain calls NoText ∙ w) s.0 ∙ alone (unclosed style tree false) ∙ unclosed_plain style tree
