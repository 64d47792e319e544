-- Real calls spell real trees.
use Rattle.std.specs.Prelude.{ℕ, false, List, [], ◌∷◌, ◌++◌, map, IfSome, Option, Some, None, option_map, IsUtf8}
use Rattle.std.specs.List.{AllByRecursion, concat, cons_option}
use Rattle.std.proofs.Common.{subst}
use Rattle.std.proofs.lemmas.Str.{IsUtf8-append, IsUtf8-nil}
use Rattle.sval_label.specs.Calls.{Call, Head, Slot, Name, Label}
use Rattle.sval_core.specs.Trees.{Tree, Null, Truth, Int, Text, Binary, Standalone, Tagged, EmptyEnum, Enum, Container, Parts, none, part, plain_label, plain_name, plain_head, plain_slot}
use Rattle.sval_core.specs.Spells.{Says, SayParts, Spells, plain_call, plain}
use Rattle.sval_core.specs.Real.{AreBytes, IsRealLabel, IsRealName, head_name, IsRealSlot, IsRealCall, IsInRange, AreInRange, IsReal}

abbrev AreReal : List Call → Type 0
AreReal calls = AllByRecursion IsRealCall calls

-- ---- what counts of real calls is real

plain_label_real : (label : Option Label) → IfSome label IsRealLabel → IfSome (option_map plain_label label) IsRealLabel
plain_label_real None h = tt
plain_label_real (Some label) h = h

plain_name_real : (name : Name) → IsRealName name → IsRealName (plain_name name)
plain_name_real name h = (plain_label_real name.label h.0, h.1)

plain_head_real : (head : Head) → IsRealName (head_name head) → IsRealName (head_name (plain_head head))
plain_head_real Head.Seq h = h
plain_head_real Head.Map h = h
plain_head_real (Head.Record name) h = plain_name_real name h
plain_head_real (Head.Tuple name) h = plain_name_real name h
plain_head_real (Head.RecordTuple name) h = plain_name_real name h

plain_slot_real : (slot : Slot) → IsRealSlot slot → IsRealSlot (plain_slot slot)
plain_slot_real Slot.Item h = h
plain_slot_real Slot.Key h = h
plain_slot_real Slot.Value h = h
plain_slot_real (Slot.Field tag label) h = h
plain_slot_real (Slot.Place tag index) h = h
plain_slot_real (Slot.FieldPlace tag label index) h = h

plain_call_real : (call : Call) → IsRealCall call → IfSome (plain_call call) IsRealCall
plain_call_real (Call.Standalone name) h = plain_name_real name h
plain_call_real (Call.TaggedBegin name) h = plain_name_real name h
plain_call_real (Call.EnumBegin name) h = plain_name_real name h
plain_call_real (Call.Begin head size) h = plain_head_real head h
plain_call_real (Call.PartBegin slot) h = plain_slot_real slot h
plain_call_real (Call.TagHint tag) h = tt
plain_call_real (Call.TextFragment borrowed text) h = h
plain_call_real (Call.BinaryFragment borrowed bytes) h = h
plain_call_real call h = h

in_front : (call : Option Call) (calls : List Call) → IfSome call IsRealCall → AreReal calls → AreReal (cons_option call calls)
in_front None calls h k = k
in_front (Some call) calls h k = (h, k)

plain_real : (calls : List Call) → AreReal calls → AreReal (plain calls)
plain_real [] h = tt
plain_real (call ∷ calls) h = in_front (plain_call call) (plain calls) (plain_call_real call h.0) (plain_real calls h.1)

-- ---- pieces of a text and of a binary

pub bytes_joined : (xs ys : List ℕ) → AreBytes xs → AreBytes ys → AreBytes (xs ++ ys)
bytes_joined [] ys h k = k
bytes_joined (x ∷ xs) ys h k = (h.0, bytes_joined xs ys h.1 k)

text_real : (pieces : List (List ℕ)) (rest : List Call) → AreReal (map (Call.TextFragment false) pieces ++ Call.TextEnd ∷ rest)
    → IsUtf8 (concat pieces) × AreReal rest
text_real [] rest h = (IsUtf8-nil, h.1)
text_real (piece ∷ pieces) rest h =
    let more = text_real pieces rest h.1 in
    (IsUtf8-append piece (concat pieces) h.0 more.0, more.1)

binary_real : (pieces : List (List ℕ)) (rest : List Call) → AreReal (map (Call.BinaryFragment false) pieces ++ Call.BinaryEnd ∷ rest)
    → AreBytes (concat pieces) × AreReal rest
binary_real [] rest h = (tt, h.1)
binary_real (piece ∷ pieces) rest h =
    let more = binary_real pieces rest h.1 in
    (bytes_joined piece (concat pieces) h.0 more.0, more.1)

-- ---- the tree, and what follows it

mutual
  tree_real : (tree : Tree) (calls rest : List Call) → Says tree calls rest → AreReal calls → IsInRange tree × AreReal rest
  tree_real Null calls rest s h = (tt, (subst AreReal s h).1)
  tree_real (Truth b) calls rest s h = (tt, (subst AreReal s h).1)
  tree_real (Int type number) calls rest s h = subst AreReal s h
  tree_real (Text bytes) calls rest s h =
      let pieces = text_real s.1 rest (subst AreReal s.4 h).1 in
      (subst IsUtf8 s.3 pieces.0, pieces.1)
  tree_real (Binary bytes) calls rest s h =
      let pieces = binary_real s.1 rest (subst AreReal s.4 h).1 in
      (subst AreBytes s.3 pieces.0, pieces.1)
  tree_real (Standalone name) calls rest s h = subst AreReal s h
  tree_real (Tagged name tree) calls rest s h =
      let here = subst AreReal s.1 h in
      let held = tree_real tree s.0 _ s.2 here.1 in
      ((here.0, held.0), held.1.1)
  tree_real (EmptyEnum name) calls rest s h = let here = subst AreReal s h in (here.0, here.1.1)
  tree_real (Enum name tree) calls rest s h =
      let here = subst AreReal s.1 h in
      let held = tree_real tree s.0 _ s.2 here.1 in
      ((here.0, held.0), held.1.1)
  tree_real (Container head parts) calls rest s h =
      let here = subst AreReal s.3 h in
      let held = parts_real parts s.1 _ s.4 here.1 in
      ((here.0, held.0), held.1.1)

  parts_real : (parts : Parts) (calls rest : List Call) → SayParts parts calls rest → AreReal calls → AreInRange parts × AreReal rest
  parts_real none calls rest s h = (tt, subst AreReal s h)
  parts_real (part slot tree parts) calls rest s h =
      let here = subst AreReal s.2 h in
      let held = tree_real tree s.0 _ s.3 here.1 in
      let more = parts_real parts s.1 rest s.4 held.1.1 in
      ((here.0, held.0, more.0), more.1)

-- a tree that real calls spell is real
pub real_calls-real_tree : (calls : List Call) (tree : Tree) → AreReal calls → Spells calls tree → IsReal tree
real_calls-real_tree calls tree h s = (s.0, (tree_real tree (plain calls) [] s.1 (plain_real calls h)).0)
