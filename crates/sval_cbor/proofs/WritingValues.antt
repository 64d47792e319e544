-- What the writer writes for calls that spell a tree in whole texts is the bytes of what the tree packs to, or it is refused as the tree is.
use Rattle.std.specs.Prelude.{◌≡◌, ℕ, ◌+◌, true, false, List, [], ◌∷◌, ◌++◌, Result, Ok, Err, ⊤, refl}
use Rattle.std.proofs.Common.{sym, ap, arith, ◌∙◌, append-nil}
use Rattle.sval_label.specs.Calls.{Call, Slot, Name}
use Rattle.sval_core.specs.Trees.{Tree, Null, Truth, Int, Text, Binary, Standalone, Tagged, EmptyEnum, Enum, Container, Parts, none, part, Kind, TextKind, Ordinary, Number, JsonValue, JsonText, JsonNumber, text_kind, MayHold, AreInOrder, IsGood, AreGood}
use Rattle.sval_core.specs.Trees as trees
use Rattle.sval_core.specs.Spells.{Says, bare_name, entries}
use Rattle.sval_json.specs.Json.{escaped_key, Json}
use Rattle.sval_json.specs.Number.{normal}
use Rattle.sval_json.specs.Shape.{handle, own}
use Rattle.sval_cbor.specs.declared.style.Style.{Style}
use Rattle.sval_cbor.specs.Packs.{PackRefusal, RawJson, on_packed, map_packed, number_pack, tagged_pack, pack_key, packs, packed_items, packed_pairs}
use Rattle.sval_cbor.specs.Cbor.{string, item_count, pair_count, cbor_as, cbor}
use Rattle.sval_cbor.specs.Writing.{EnumPlace, Elsewhere, Begun, CborState, binary_bytes, cbor_state, writes, opening, after_handle, tagged_begins, written_from, HaveWholeTexts}
use Rattle.sval_cbor.proofs.Packed.{IfOk}
use Rattle.sval_cbor.proofs.AlikeBytes.{own_alike, number_alike}
use Rattle.sval_cbor.proofs.WritingPlain.{prepend, prepend_nothing, prepend_twice, and_then, bare_own}
use Rattle.sval_cbor.proofs.WholeTexts.{IsWholeText, IsWholeBinary, whole_text}
use Rattle.sval_cbor.proofs.WritingKeys.{is_begun, tree_counts, after, rest_of, and_nothing}
use Rattle.sval_cbor.proofs.WritingFrames.{in_value, name_of, body, front, unclosed, packs_body, unclosed_plain, value_opening, item_counted, pair_counted, enum_closed, enum_closes}

module _ (style : Style) (more : List ℕ) where
  -- the calls of a tree, and then the rest
  abbrev pub IsWritten : Tree → List Call → List Call → EnumPlace → Type 0
  IsWritten t calls rest place =
      written_from calls (in_value style place (tree_counts style.lengths t ++ more)) ≡ and_then (unclosed style t (is_begun place)) (written_from rest (in_value style (after t) more))

  -- after the name's front
  pub opened : (name : Name) (bytes : List ℕ) (next : CborState) (place : EnumPlace) (calls : List Call)
      → rest_of calls (on_packed (opening style.lengths (handle name) place false) (λ made. writes (made ++ bytes) next)) ≡ prepend (front style.lengths (handle name) (is_begun place) ++ bytes) (written_from calls next)
  opened name bytes next place calls = ap (λ r. rest_of calls (on_packed r (λ made. writes (made ++ bytes) next))) (value_opening style.lengths (handle name) place)

  -- ---- leaves

  pub text_value : (bytes : List ℕ) (calls rest : List Call) (place : EnumPlace) → IsWholeText calls bytes rest → written_from calls (in_value style place more) ≡ prepend (string 3 bytes) (written_from rest (in_value style Elsewhere more))
  text_value bytes calls rest place w =
      ap (λ cs. written_from cs (in_value style place more)) w.is ∙ prepend_nothing (prepend (string 3 bytes) (prepend [] (written_from rest (in_value style Elsewhere more))))
      ∙ ap (prepend (string 3 bytes)) (prepend_nothing (written_from rest (in_value style Elsewhere more)))

  pub binary_value : (bytes : List ℕ) (calls rest : List Call) (place : EnumPlace) → IsWholeBinary calls bytes rest
      → written_from calls (in_value style place more) ≡ prepend (binary_bytes style bytes) (written_from rest (in_value style Elsewhere more))
  binary_value bytes calls rest place w =
      ap (λ cs. written_from cs (in_value style place more)) w.is ∙ prepend_nothing (prepend (binary_bytes style bytes) (prepend [] (written_from rest (in_value style Elsewhere more))))
      ∙ ap (prepend (binary_bytes style bytes)) (prepend_nothing (written_from rest (in_value style Elsewhere more)))

  pub standalone_value : (name : Name) (rest : List Call) (place : EnumPlace)
      → written_from (Call.Standalone name ∷ rest) (in_value style place more) ≡ prepend (cbor_as style.lengths (own name)) (written_from rest (in_value style Elsewhere more))
  standalone_value name rest place = ap (λ bytes. prepend bytes (written_from rest (in_value style Elsewhere more))) (own_alike style.lengths name)

  -- ---- tagged values

  number_ended : (r : Result (List ℕ) PackRefusal) (name : Name) (rest : List Call)
      → rest_of (Call.TextEnd ∷ Call.TaggedEnd name ∷ rest) (on_packed r (λ made. writes made (cbor_state style Elsewhere false true more))) ≡ and_then r (written_from rest (in_value style (after_handle (handle name)) more))
  number_ended (Ok made) name rest = let q = written_from rest (in_value style (after_handle (handle name)) more) in ap (prepend made) (prepend_nothing (prepend [] q) ∙ prepend_nothing q)
  number_ended (Err why) name rest = refl

  number_calls : (text : List ℕ) (calls : List Call) (name : Name) (rest : List Call) → IsWholeText calls text (Call.TaggedEnd name ∷ rest)
      → written_from calls (cbor_state style Elsewhere false true more) ≡ and_then (map_packed (cbor_as style.lengths) (number_pack (normal text))) (written_from rest (in_value style (after_handle (handle name)) more))
  number_calls text calls name rest w =
      ap (λ cs. written_from cs (cbor_state style Elsewhere false true more)) w.is ∙ prepend_nothing (rest_of (Call.TextEnd ∷ Call.TaggedEnd name ∷ rest) (on_packed (map_packed cbor (number_pack (normal text))) (λ made. writes made (cbor_state style Elsewhere false true more))))
      ∙ number_ended (map_packed cbor (number_pack (normal text))) name rest
      ∙ ap (λ r. and_then r (written_from rest (in_value style (after_handle (handle name)) more))) (number_alike style.lengths (normal text))

  -- bytes in front of what a shape is written as
  fronted : (made : List ℕ) (r : Result Json PackRefusal) (q : Result (List ℕ) PackRefusal) → prepend (made ++ []) (and_then (map_packed (cbor_as style.lengths) r) q) ≡ and_then (map_packed (λ json. made ++ cbor_as style.lengths json) r) q
  fronted made (Ok json) q = prepend_twice (made ++ []) (cbor_as style.lengths json) q ∙ ap (λ x. prepend (x ++ cbor_as style.lengths json) q) (append-nil made)
  fronted made (Err why) q = refl

  abbrev TaggedIsWritten : TextKind → Name → Tree → List Call → List Call → EnumPlace → Type 0
  TaggedIsWritten kind name tree inner rest place =
      rest_of inner (tagged_begins kind name (in_value style place (tree_counts style.lengths tree ++ more)))
      ≡ and_then (map_packed (λ json. front style.lengths (handle name) (is_begun place) ++ cbor_as style.lengths json) (tagged_pack kind tree (packs style tree false))) (written_from rest (in_value style (after_handle (handle (bare_name name))) more))

  raw_refused : (name : Name) (inner : List Call) (place : EnumPlace) → rest_of inner (on_packed (opening style.lengths (handle name) place false) (λ made. Err RawJson)) ≡ (let r : Result (List ℕ) PackRefusal = Err RawJson in r)
  raw_refused name inner place = ap (λ r. rest_of inner (on_packed r (λ made. Err RawJson))) (value_opening style.lengths (handle name) place)

  pub tagged_written : (kind : TextKind) (name : Name) (tree : Tree) (inner rest : List Call) (place : EnumPlace) → MayHold kind tree → Says tree inner (Call.TaggedEnd (bare_name name) ∷ rest) → HaveWholeTexts inner
      → IsWritten tree inner (Call.TaggedEnd (bare_name name) ∷ rest) Elsewhere → TaggedIsWritten kind name tree inner rest place
  tagged_written Ordinary name tree inner rest place m s w h =
      let q = written_from rest (in_value style (after_handle (handle (bare_name name))) more) in
      let made = front style.lengths (handle name) (is_begun place) in
      opened name [] (in_value style Elsewhere (tree_counts style.lengths tree ++ more)) place inner
      ∙ ap (prepend (made ++ [])) (h ∙ and_nothing (unclosed style tree false) q ∙ ap (λ r. and_then r q) (unclosed_plain style tree))
      ∙ fronted made (packs style tree false) q
  tagged_written Number name (Text text) inner rest place m s w h =
      let q = written_from rest (in_value style (after_handle (handle (bare_name name))) more) in
      let made = front style.lengths (handle name) (is_begun place) in
      opened name [] (cbor_state style Elsewhere false true more) place inner
      ∙ ap (prepend (made ++ [])) (number_calls text inner (bare_name name) rest (whole_text text inner (Call.TaggedEnd (bare_name name) ∷ rest) s w))
      ∙ fronted made (number_pack (normal text)) q
  tagged_written JsonText name (Text text) inner rest place m s w h = raw_refused name inner place
  tagged_written JsonNumber name (Text text) inner rest place m s w h = raw_refused name inner place
  tagged_written JsonValue name (Text text) inner rest place m s w h = refl
  tagged_written kind name tree inner rest place m s w h = absurd m

  -- ---- enums

  pub empty_enum : (name : Name) (rest : List Call) (place : EnumPlace)
      → rest_of (Call.EnumEnd (bare_name name) ∷ rest) (on_packed (opening style.lengths (handle name) place false) (λ made. writes (made ++ []) (in_value style Begun more)))
      ≡ prepend (front style.lengths (handle name) (is_begun place) ++ cbor_as style.lengths (own name)) (written_from rest (in_value style (after_handle (handle (bare_name name))) more))
  empty_enum name rest place =
      let q = written_from rest (in_value style (after_handle (handle (bare_name name))) more) in
      let made = front style.lengths (handle name) (is_begun place) in
      opened name [] (in_value style Begun more) place (Call.EnumEnd (bare_name name) ∷ rest) ∙ prepend_twice (made ++ []) (cbor (own (bare_name name))) q
      ∙ ap (λ x. prepend (x ++ cbor (own (bare_name name))) q) (append-nil made) ∙ ap (λ bytes. prepend (made ++ bytes) q) (ap cbor (bare_own name) ∙ own_alike style.lengths name)

  pub enum_written : (name : Name) (tree : Tree) (inner rest : List Call) (place : EnumPlace) → IsWritten tree inner (Call.EnumEnd (bare_name name) ∷ rest) Begun
      → rest_of inner (on_packed (opening style.lengths (handle name) place false) (λ made. writes (made ++ []) (in_value style Begun (tree_counts style.lengths tree ++ more))))
      ≡ and_then (map_packed (λ json. front style.lengths (handle name) (is_begun place) ++ cbor_as style.lengths json) (packs style tree true)) (written_from rest (in_value style (after_handle (handle (bare_name name))) more))
  enum_written name tree inner rest place h =
      let q = written_from rest (in_value style (after_handle (handle (bare_name name))) more) in
      let made = front style.lengths (handle name) (is_begun place) in
      opened name [] (in_value style Begun (tree_counts style.lengths tree ++ more)) place inner
      ∙ ap (prepend (made ++ [])) (h ∙ ap (λ bytes. and_then (unclosed style tree true) (prepend bytes q)) (enum_closes style.lengths tree (own (bare_name name))))
      ∙ enum_closed style.lengths made (handle (name_of tree)) (body style tree) q
      ∙ ap (λ r. and_then (map_packed (λ json. made ++ cbor_as style.lengths json) r) q) (sym (packs_body style tree true))

-- ---- parts

-- parts that begin and end without a byte
abbrev pub AreQuiet : Parts → Type 0
AreQuiet none = ⊤
AreQuiet (part Slot.Item tree parts) = AreQuiet parts
AreQuiet (part (Slot.Place tag index) tree parts) = AreQuiet parts
AreQuiet _ = ⊥

pub quiet_items : (parts : Parts) → AreInOrder trees.Item parts → AreQuiet parts
quiet_items none h = tt
quiet_items (part Slot.Item tree parts) h = quiet_items parts h.1
quiet_items (part Slot.Key tree parts) h = absurd (cc (h.0))
quiet_items (part Slot.Value tree parts) h = absurd (cc (h.0))
quiet_items (part (Slot.Field tag label) tree parts) h = absurd (cc (h.0))
quiet_items (part (Slot.Place tag index) tree parts) h = absurd (cc (h.0))
quiet_items (part (Slot.FieldPlace tag label index) tree parts) h = absurd (cc (h.0))

pub quiet_places : (parts : Parts) → AreInOrder trees.Place parts → AreQuiet parts
quiet_places none h = tt
quiet_places (part Slot.Item tree parts) h = absurd (cc (h.0))
quiet_places (part Slot.Key tree parts) h = absurd (cc (h.0))
quiet_places (part Slot.Value tree parts) h = absurd (cc (h.0))
quiet_places (part (Slot.Field tag label) tree parts) h = absurd (cc (h.0))
quiet_places (part (Slot.Place tag index) tree parts) h = quiet_places parts h.1
quiet_places (part (Slot.FieldPlace tag label index) tree parts) h = absurd (cc (h.0))

-- parts that are pairs
abbrev pub ArePairs : Parts → Type 0
ArePairs none = ⊤
ArePairs (part Slot.Key key (part Slot.Value value parts)) = ArePairs parts
ArePairs (part (Slot.Field tag label) tree parts) = ArePairs parts
ArePairs (part (Slot.FieldPlace tag label index) tree parts) = ArePairs parts
ArePairs _ = ⊥

pub map_pairs : (parts : Parts) → AreInOrder trees.Key parts → ArePairs parts
map_pairs none h = tt
map_pairs (part Slot.Key key none) h = absurd h.1
map_pairs (part Slot.Key key (part Slot.Item value parts)) h = absurd (cc (h.1.0))
map_pairs (part Slot.Key key (part Slot.Key value parts)) h = absurd (cc (h.1.0))
map_pairs (part Slot.Key key (part Slot.Value value parts)) h = map_pairs parts h.1.1
map_pairs (part Slot.Key key (part (Slot.Field tag label) value parts)) h = absurd (cc (h.1.0))
map_pairs (part Slot.Key key (part (Slot.Place tag index) value parts)) h = absurd (cc (h.1.0))
map_pairs (part Slot.Key key (part (Slot.FieldPlace tag label index) value parts)) h = absurd (cc (h.1.0))
map_pairs (part Slot.Item tree parts) h = absurd (cc (h.0))
map_pairs (part Slot.Value tree parts) h = absurd (cc (h.0))
map_pairs (part (Slot.Field tag label) tree parts) h = absurd (cc (h.0))
map_pairs (part (Slot.Place tag index) tree parts) h = absurd (cc (h.0))
map_pairs (part (Slot.FieldPlace tag label index) tree parts) h = absurd (cc (h.0))

pub field_pairs : (parts : Parts) → AreInOrder trees.Field parts → ArePairs parts
field_pairs none h = tt
field_pairs (part Slot.Item tree parts) h = absurd (cc (h.0))
field_pairs (part Slot.Key tree parts) h = absurd (cc (h.0))
field_pairs (part Slot.Value tree parts) h = absurd (cc (h.0))
field_pairs (part (Slot.Field tag label) tree parts) h = field_pairs parts h.1
field_pairs (part (Slot.Place tag index) tree parts) h = absurd (cc (h.0))
field_pairs (part (Slot.FieldPlace tag label index) tree parts) h = absurd (cc (h.0))

pub field_place_pairs : (parts : Parts) → AreInOrder trees.FieldPlace parts → ArePairs parts
field_place_pairs none h = tt
field_place_pairs (part Slot.Item tree parts) h = absurd (cc (h.0))
field_place_pairs (part Slot.Key tree parts) h = absurd (cc (h.0))
field_place_pairs (part Slot.Value tree parts) h = absurd (cc (h.0))
field_place_pairs (part (Slot.Field tag label) tree parts) h = absurd (cc (h.0))
field_place_pairs (part (Slot.Place tag index) tree parts) h = absurd (cc (h.0))
field_place_pairs (part (Slot.FieldPlace tag label index) tree parts) h = field_place_pairs parts h.1

-- ---- how many items or pairs parts are

pub items_counted : (style : Style) (parts : Parts) → AreQuiet parts → IfOk (λ row. item_count row ≡ entries parts) (packed_items style parts)
items_counted style none q = refl
items_counted style (part Slot.Item tree parts) q = item_counted (packs style tree false) (packed_items style parts) (entries parts) (items_counted style parts q)
items_counted style (part (Slot.Place tag index) tree parts) q = item_counted (packs style tree false) (packed_items style parts) (entries parts) (items_counted style parts q)
items_counted style parts q = absurd q

pub pairs_counted : (style : Style) (parts : Parts) → ArePairs parts → IfOk (λ row. pair_count row ≡ entries parts) (packed_pairs style parts)
pairs_counted style none q = refl
pairs_counted style (part Slot.Key key (part Slot.Value value parts)) q = pair_counted (pack_key key) (packs style value false) (packed_pairs style parts) (entries parts) (1 + (0 + entries parts)) (omega arith) (pairs_counted style parts q)
pairs_counted style (part (Slot.Field tag label) tree parts) q = pair_counted (Ok (escaped_key label.text)) (packs style tree false) (packed_pairs style parts) (entries parts) (1 + entries parts) refl (pairs_counted style parts q)
pairs_counted style (part (Slot.FieldPlace tag label index) tree parts) q = pair_counted (Ok (escaped_key label.text)) (packs style tree false) (packed_pairs style parts) (entries parts) (1 + entries parts) refl (pairs_counted style parts q)
pairs_counted style parts q = absurd q
