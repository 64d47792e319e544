-- Exact calls that spell a tree with tags of scripts have such tags alone.
use Rattle.std.specs.Prelude.{ℕ, false, List, [], ◌∷◌, ◌++◌, map, Option, Some, None, option_map, IfSome}
use Rattle.std.proofs.Common.{sym, subst}
use Rattle.sval_label.specs.Calls.{Call, Head, Slot, Name, Label}
use Rattle.sval_label.specs.Tags.{IsTagName}
use Rattle.sval_core.specs.ExactCalls.{AreExactFrom, AreExact}
use Rattle.sval_core.specs.Trees.{Tree, Null, Truth, Int, Text, Binary, Standalone, Tagged, EmptyEnum, Enum, Container, Parts, none, part, plain_label, plain_name, plain_head, plain_slot}
use Rattle.sval_core.specs.Spells.{Says, SayParts, Spells, plain}
use Rattle.sval_core.specs.Real.{head_name, HasScriptTags, SlotHasScriptTags, IsWritable, AreWritable, IsPrintable}
use Rattle.sval_script.specs.Printed.{canonical_calls}
use Rattle.sval_script.specs.PrintedValues.{HaveKnownTags}
use Rattle.sval_script.proofs.PrintableTrees.{AreTagged}

-- ---- the begins of what a tree keeps have its tags

text_tagged : (pieces : List (List ℕ)) (rest : List Call) → AreTagged rest → AreTagged (map (Call.TextFragment false) pieces ++ Call.TextEnd ∷ rest)
text_tagged [] rest h = (tt, h)
text_tagged (piece ∷ pieces) rest h = (tt, text_tagged pieces rest h)

binary_tagged : (pieces : List (List ℕ)) (rest : List Call) → AreTagged rest → AreTagged (map (Call.BinaryFragment false) pieces ++ Call.BinaryEnd ∷ rest)
binary_tagged [] rest h = (tt, h)
binary_tagged (piece ∷ pieces) rest h = (tt, binary_tagged pieces rest h)

mutual
  tree_tagged : (tree : Tree) (calls rest : List Call) → Says tree calls rest → IsWritable tree → AreTagged rest → AreTagged calls
  tree_tagged Null calls rest s w h = subst AreTagged (sym s) (tt, h)
  tree_tagged (Truth b) calls rest s w h = subst AreTagged (sym s) (tt, h)
  tree_tagged (Int type number) calls rest s w h = subst AreTagged (sym s) (tt, h)
  tree_tagged (Text bytes) calls rest s w h = subst AreTagged (sym s.4) (tt, text_tagged s.1 rest h)
  tree_tagged (Binary bytes) calls rest s w h = subst AreTagged (sym s.4) (tt, binary_tagged s.1 rest h)
  tree_tagged (Standalone name) calls rest s w h = subst AreTagged (sym s) (w, h)
  tree_tagged (Tagged name tree) calls rest s w h = subst AreTagged (sym s.1) (w.0, tree_tagged tree s.0 _ s.2 w.1 (tt, h))
  tree_tagged (EmptyEnum name) calls rest s w h = subst AreTagged (sym s) (w, (tt, h))
  tree_tagged (Enum name tree) calls rest s w h = subst AreTagged (sym s.1) (w.0, tree_tagged tree s.0 _ s.2 w.1 (tt, h))
  tree_tagged (Container head parts) calls rest s w h = subst AreTagged (sym s.3) (w.0, parts_tagged parts s.1 _ s.4 w.1 (tt, h))

  parts_tagged : (parts : Parts) (calls rest : List Call) → SayParts parts calls rest → AreWritable parts → AreTagged rest → AreTagged calls
  parts_tagged none calls rest s w h = subst AreTagged (sym s) h
  parts_tagged (part slot tree parts) calls rest s w h =
      subst AreTagged (sym s.2) (w.0, tree_tagged tree s.0 _ s.3 w.1 (tt, parts_tagged parts s.1 rest s.4 w.2 h))

-- ---- and so have the calls of which it keeps them

label_tagged : (o : Option Label) → IfSome (option_map plain_label o) (λ label. IsTagName label.tag) → IfSome o (λ label. IsTagName label.tag)
label_tagged None h = tt
label_tagged (Some label) h = h

name_tagged : (name : Name) → HasScriptTags (plain_name name) → HasScriptTags name
name_tagged name h = (h.0, label_tagged name.label h.1, h.2)

head_tagged : (head : Head) → HasScriptTags (head_name (plain_head head)) → HasScriptTags (head_name head)
head_tagged Head.Seq h = h
head_tagged Head.Map h = h
head_tagged (Head.Record name) h = name_tagged name h
head_tagged (Head.Tuple name) h = name_tagged name h
head_tagged (Head.RecordTuple name) h = name_tagged name h

slot_tagged : (slot : Slot) → SlotHasScriptTags (plain_slot slot) → SlotHasScriptTags slot
slot_tagged Slot.Item h = h
slot_tagged Slot.Key h = h
slot_tagged Slot.Value h = h
slot_tagged (Slot.Field tag label) h = h
slot_tagged (Slot.Place tag index) h = h
slot_tagged (Slot.FieldPlace tag label index) h = h

calls_tagged : (calls : List Call) → AreTagged (plain calls) → AreTagged calls
calls_tagged [] h = tt
calls_tagged (Call.Null ∷ calls) h = (tt, calls_tagged calls h.1)
calls_tagged (Call.Truth b ∷ calls) h = (tt, calls_tagged calls h.1)
calls_tagged (Call.Int type number ∷ calls) h = (tt, calls_tagged calls h.1)
calls_tagged (Call.Standalone name ∷ calls) h = (name_tagged name h.0, calls_tagged calls h.1)
calls_tagged (Call.TagHint tag ∷ calls) h = (tt, calls_tagged calls h)
calls_tagged (Call.TextBegin size ∷ calls) h = (tt, calls_tagged calls h.1)
calls_tagged (Call.TextFragment borrowed text ∷ calls) h = (tt, calls_tagged calls h.1)
calls_tagged (Call.TextEnd ∷ calls) h = (tt, calls_tagged calls h.1)
calls_tagged (Call.BinaryBegin size ∷ calls) h = (tt, calls_tagged calls h.1)
calls_tagged (Call.BinaryFragment borrowed bytes ∷ calls) h = (tt, calls_tagged calls h.1)
calls_tagged (Call.BinaryEnd ∷ calls) h = (tt, calls_tagged calls h.1)
calls_tagged (Call.EnumBegin name ∷ calls) h = (name_tagged name h.0, calls_tagged calls h.1)
calls_tagged (Call.EnumEnd name ∷ calls) h = (tt, calls_tagged calls h.1)
calls_tagged (Call.TaggedBegin name ∷ calls) h = (name_tagged name h.0, calls_tagged calls h.1)
calls_tagged (Call.TaggedEnd name ∷ calls) h = (tt, calls_tagged calls h.1)
calls_tagged (Call.Begin head size ∷ calls) h = (head_tagged head h.0, calls_tagged calls h.1)
calls_tagged (Call.End head ∷ calls) h = (tt, calls_tagged calls h.1)
calls_tagged (Call.PartBegin slot ∷ calls) h = (slot_tagged slot h.0, calls_tagged calls h.1)
calls_tagged (Call.PartEnd slot ∷ calls) h = (tt, calls_tagged calls h.1)

-- ---- and each end has those of its begin

known_from : (due calls : List Call) → AreExactFrom due calls → AreTagged calls → HaveKnownTags due → HaveKnownTags (canonical_calls calls)
known_from due [] e t k = tt
known_from due (Call.Null ∷ calls) e t k = (tt, known_from due calls e t.1 k)
known_from due (Call.Truth b ∷ calls) e t k = (tt, known_from due calls e t.1 k)
known_from due (Call.Int type number ∷ calls) e t k = (tt, known_from due calls e t.1 k)
known_from due (Call.Standalone name ∷ calls) e t k = (t.0, known_from due calls e t.1 k)
known_from due (Call.TagHint tag ∷ calls) e t k = known_from due calls e t.1 k
known_from due (Call.TextBegin size ∷ calls) e t k = (tt, known_from due calls e.1 t.1 k)
known_from due (Call.TextFragment borrowed text ∷ calls) e t k = (tt, known_from due calls e t.1 k)
known_from due (Call.TextEnd ∷ calls) e t k = (tt, known_from due calls e t.1 k)
known_from due (Call.BinaryBegin size ∷ calls) e t k = (tt, known_from due calls e.1 t.1 k)
known_from due (Call.BinaryFragment borrowed bytes ∷ calls) e t k = (tt, known_from due calls e t.1 k)
known_from due (Call.BinaryEnd ∷ calls) e t k = (tt, known_from due calls e t.1 k)
known_from due (Call.EnumBegin name ∷ calls) e t k = (t.0, known_from (Call.EnumEnd name ∷ due) calls e t.1 (t.0, k))
known_from due (Call.TaggedBegin name ∷ calls) e t k = (t.0, known_from (Call.TaggedEnd name ∷ due) calls e t.1 (t.0, k))
known_from due (Call.Begin head size ∷ calls) e t k = (t.0, known_from (Call.End head ∷ due) calls e t.1 (t.0, k))
known_from due (Call.PartBegin slot ∷ calls) e t k = (t.0, known_from (Call.PartEnd slot ∷ due) calls e t.1 (t.0, k))
known_from due (Call.EnumEnd name ∷ calls) (outer, same, e) t k = let known = subst HaveKnownTags same k in (known.0, known_from outer calls e t.1 known.1)
known_from due (Call.TaggedEnd name ∷ calls) (outer, same, e) t k = let known = subst HaveKnownTags same k in (known.0, known_from outer calls e t.1 known.1)
known_from due (Call.End head ∷ calls) (outer, same, e) t k = let known = subst HaveKnownTags same k in (known.0, known_from outer calls e t.1 known.1)
known_from due (Call.PartEnd slot ∷ calls) (outer, same, e) t k = let known = subst HaveKnownTags same k in (known.0, known_from outer calls e t.1 known.1)

-- exact calls that spell a printable tree have tags of scripts alone
pub exact_known : (calls : List Call) (tree : Tree) → Spells calls tree → IsPrintable tree → AreExact calls → HaveKnownTags (canonical_calls calls)
exact_known calls tree s p exact = known_from [] calls exact (calls_tagged calls (tree_tagged tree (plain calls) [] s.1 p.1 tt)) tt
