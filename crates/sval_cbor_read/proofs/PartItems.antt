-- The calls of an item of a document by itself.
use Rattle.std.specs.Prelude.{◌≡◌, ℕ, true, List, [], ◌∷◌, ◌++◌, drop, refl}
use Rattle.std.proofs.Common.{sym, ap, subst, ◌∙◌, append_assoc}
use Rattle.std.proofs.lemmas.Bool.{false≢true}
use Rattle.sval_label.specs.Calls.{Call}
use Rattle.sval_core.specs.OneValue.{IsOneValue}
use Rattle.sval_core.specs.Spells.{Spells}
use Rattle.sval_core.specs.Trees.{Tree}
use Rattle.sval_core.specs.Values.{makes}
use Rattle.sval_cbor_read.specs.declared.node.Place as made_place
use Rattle.sval_cbor_read.specs.declared.node.Place.TheVariants as place
use Rattle.sval_cbor_read.specs.declared.node.Kind as made_kind
use Rattle.sval_cbor_read.specs.declared.node.Kind.TheVariants as kind
use Rattle.sval_cbor_read.specs.declared.node.Node.{Node}
use Rattle.sval_cbor_read.specs.Items.{IsItem}
use Rattle.sval_cbor_read.specs.Document.{cbor_calls}
use Rattle.sval_cbor_read.specs.CallSpans.{until_closed, item_by_itself, begins_item, FirstBeginsItem}
use Rattle.sval_cbor_read.specs.CborParts.{IsCborPart, EndDocument}
use Rattle.sval_cbor_read.specs.CborValues.{cbor_joined, cbor_innermost_level, cbor_levels_of, cbor_first_value, cbor_value_in}
use Rattle.sval_cbor_read.specs.SeenNodes.{node_offset, item_place_begins, item_begins_before, node_own_calls, item_ends_behind, streamed_items, NodeBegins}
use Rattle.sval_cbor_read.specs.NodeSpans.{is_first}
use Rattle.sval_cbor_read.specs.SeenFound.{value_at, AreOfItem}
use Rattle.sval_cbor_read.proofs.CborValues.{item_means, one_value}
use Rattle.sval_cbor_read.proofs.ClosedItems.{item_closes}
use Rattle.sval_cbor_read.proofs.Complete.{front_is_read}
use Rattle.sval_cbor_read.proofs.InnerItems.{starts_item, end_behind}
use Rattle.sval_cbor_read.proofs.NodeStreams.{calls_at}

-- ---- the first node

first_own : (k : made_kind.Kind) (bytes : List ℕ) → NodeBegins k bytes → is_first k ≡ true → FirstBeginsItem (node_own_calls k bytes)
first_own kind.Item bytes s f = s.1.begins
first_own kind.Big bytes s f = tt
first_own kind.NegativeBig bytes s f = tt
first_own kind.Begin bytes s f = s.1.begins
first_own kind.TextPiece bytes s f = absurd (false≢true f)
first_own kind.BinaryPiece bytes s f = absurd (false≢true f)
first_own kind.EndText bytes s f = absurd (false≢true f)
first_own kind.EndBinary bytes s f = absurd (false≢true f)
first_own kind.EndSeq bytes s f = absurd (false≢true f)
first_own kind.EndMap bytes s f = absurd (false≢true f)

first_before : (k : made_kind.Kind) (p : made_place.Place) → is_first k ≡ true → item_begins_before k p ≡ item_place_begins p
first_before kind.Item p f = refl
first_before kind.Big p f = refl
first_before kind.NegativeBig p f = refl
first_before kind.Begin p f = refl
first_before kind.TextPiece p f = absurd (false≢true f)
first_before kind.BinaryPiece p f = absurd (false≢true f)
first_before kind.EndText p f = absurd (false≢true f)
first_before kind.EndBinary p f = absurd (false≢true f)
first_before kind.EndSeq p f = absurd (false≢true f)
first_before kind.EndMap p f = absurd (false≢true f)

-- calls that begin an item begin no part
begun_alone : (call : Call) (more : List Call) → begins_item call → item_by_itself (call ∷ more) ≡ until_closed 0 (call ∷ more)
begun_alone Call.Null more f = refl
begun_alone (Call.Truth _) more f = refl
begun_alone (Call.Int _ _) more f = refl
begun_alone (Call.Standalone _) more f = refl
begun_alone (Call.TagHint _) more f = refl
begun_alone (Call.TextBegin _) more f = refl
begun_alone (Call.TextFragment _ _) more f = refl
begun_alone Call.TextEnd more f = refl
begun_alone (Call.BinaryBegin _) more f = refl
begun_alone (Call.BinaryFragment _ _) more f = refl
begun_alone Call.BinaryEnd more f = refl
begun_alone (Call.EnumBegin _) more f = refl
begun_alone (Call.EnumEnd _) more f = refl
begun_alone (Call.TaggedBegin _) more f = refl
begun_alone (Call.TaggedEnd _) more f = refl
begun_alone (Call.Begin _ _) more f = refl
begun_alone (Call.End _) more f = refl
begun_alone (Call.PartBegin _) more f = absurd f
begun_alone (Call.PartEnd _) more f = refl

begun_by_itself : (made : List Call) → FirstBeginsItem made → item_by_itself made ≡ until_closed 0 made
begun_by_itself [] f = absurd f
begun_by_itself (call ∷ more) f = begun_alone call more f

-- the begin of the part around an item is left out
placed_by_itself : (p : made_place.Place) (made : List Call) → FirstBeginsItem made → item_by_itself (item_place_begins p ++ made) ≡ until_closed 0 made
placed_by_itself place.Alone made f = begun_by_itself made f
placed_by_itself place.Item made f = refl
placed_by_itself place.Key made f = refl
placed_by_itself place.Value made f = refl

placed_levels : (p : made_place.Place) (made : List Call) → cbor_levels_of (item_place_begins p ++ made) ≡ cbor_levels_of made
placed_levels place.Alone made = refl
placed_levels place.Item made = refl
placed_levels place.Key made = refl
placed_levels place.Value made = refl

first_of_all : (made more : List Call) → FirstBeginsItem made → FirstBeginsItem (made ++ more)
first_of_all [] more f = absurd f
first_of_all (call ∷ made) more f = f

-- what the first node of an item begins, and what follows it
abbrev own_and_behind : List ℕ → Node → List Node → List Call
own_and_behind bytes n nodes = calls_at bytes n ++ (item_ends_behind n.kind n.place ++ streamed_items bytes nodes)

first_calls : (bytes : List ℕ) (n : Node) (nodes : List Node) → is_first n.kind ≡ true → streamed_items bytes (n ∷ nodes) ≡ item_place_begins n.place ++ own_and_behind bytes n nodes
first_calls bytes n nodes f =
    let own : List Call = calls_at bytes n in
    let ends : List Call = item_ends_behind n.kind n.place in
    let more : List Call = streamed_items bytes nodes in
    append_assoc (item_begins_before n.kind n.place) (own ++ ends) more ∙ ap (λ x. item_begins_before n.kind n.place ++ x) (append_assoc own ends more) ∙ ap (λ x. x ++ (own ++ (ends ++ more))) (first_before n.kind n.place f)

own_begins : (bytes : List ℕ) (n : Node) (nodes : List Node) → AreOfItem bytes (n ∷ nodes) → FirstBeginsItem (own_and_behind bytes n nodes)
own_begins bytes n nodes a = first_of_all (calls_at bytes n) (item_ends_behind n.kind n.place ++ streamed_items bytes nodes) (first_own n.kind (drop (node_offset n) bytes) a.stand.0 a.begins)

pub by_itself_from : (bytes : List ℕ) (n : Node) (nodes : List Node) → AreOfItem bytes (n ∷ nodes) → item_by_itself (streamed_items bytes (n ∷ nodes)) ≡ until_closed 0 (own_and_behind bytes n nodes)
by_itself_from bytes n nodes a = ap item_by_itself (first_calls bytes n nodes a.begins) ∙ placed_by_itself n.place (own_and_behind bytes n nodes) (own_begins bytes n nodes a)

-- ---- the item

-- the calls by themselves are those of this item, and the value is its
record AreItsCalls (bytes : List ℕ) (nodes : List Node) : Type 0 where
  front : List ℕ
  rest : List ℕ
  tree : Tree
  item : IsItem front tree rest
  more : List Call
  same : item_by_itself (streamed_items bytes nodes) ≡ cbor_calls item []
  value : value_at bytes nodes ≡ (item_means item more).value

calls_of_item : (bytes : List ℕ) (nodes : List Node) → AreOfItem bytes nodes → AreItsCalls bytes nodes
calls_of_item bytes [] a = absurd a.begins
calls_of_item bytes (n ∷ nodes) a =
    let made : List Call = own_and_behind bytes n nodes in
    let all = first_calls bytes n nodes a.begins in
    let s = starts_item made (own_begins bytes n nodes a) (end_behind (item_place_begins n.place) made (subst EndDocument all a.ends)) in
    record {
      front = s.bytes;
      rest = s.rest;
      tree = s.tree;
      item = s.item;
      more = s.more;
      same = by_itself_from bytes n nodes a ∙ ap (until_closed 0) s.same ∙ item_closes s.item s.more 0;
      value = ap (λ levels. cbor_first_value (cbor_innermost_level levels).values) (ap cbor_levels_of all ∙ placed_levels n.place made ∙ ap cbor_levels_of s.same ∙ (item_means s.item s.more).levels);
    }

module _ (bytes : List ℕ) (nodes : List Node) (a : AreOfItem bytes nodes) where
  pub part_of_item : IsCborPart (item_by_itself (streamed_items bytes nodes)) (value_at bytes nodes)
  part_of_item =
      let c = calls_of_item bytes nodes a in
      record {
        bytes = c.front;
        rest = c.rest;
        tree = c.tree;
        item = c.item;
        same = c.same;
        spells = subst (λ calls. Spells calls c.tree) (sym c.same) (front_is_read c.rest c.front c.tree c.item).1;
        joined = ap cbor_joined c.value ∙ (item_means c.item c.more).same;
      }

  pub part_value : cbor_value_in (item_by_itself (streamed_items bytes nodes)) ≡ value_at bytes nodes
  part_value =
      let c = calls_of_item bytes nodes a in
      ap cbor_value_in c.same ∙ ap (λ levels. cbor_first_value (cbor_innermost_level levels).values) (item_means c.item []).levels ∙ one_value c.item [] c.more ∙ sym c.value

  pub item_is_whole : IsOneValue (makes (item_by_itself (streamed_items bytes nodes)))
  item_is_whole = let p = part_of_item in record { willing = refl; spells = (p.tree, p.spells) }
