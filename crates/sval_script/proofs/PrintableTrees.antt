-- Calls that can be printed are real, and if they hold fewer than 2 ^ 64 bytes they spell printable trees.
use Rattle.std.specs.Prelude.{◌≡◌, ℕ, suc, ◌+◌, ◌<◌, ◌≤◌, ◌^◌, false, List, [], ◌∷◌, ◌++◌, length, map, IfSome, Option, Some, None, option_map, ⊤}
use Rattle.std.specs.List.{AllByRecursion, concat, cons_option}
use Rattle.std.proofs.Common.{arith, subst, ap, refl, ◌∙◌}
use Rattle.std.proofs.lemmas.List.{length-append}
use Rattle.std.proofs.lemmas.Str.{IsUtf8-from_is_utf8}
use Rattle.hex.specs.Hex.{IsBytes}
use Rattle.sval_label.specs.Calls.{Call, Head, Slot, Name, Label}
use Rattle.sval_label.specs.Tags.{IsTagName}
use Rattle.sval_core.specs.Trees.{Tree, Null, Truth, Int, Text, Binary, Standalone, Tagged, EmptyEnum, Enum, Container, Parts, none, part, plain_label, plain_name, plain_head, plain_slot}
use Rattle.sval_core.specs.Spells.{Says, SayParts, Spells, plain_call, plain}
use Rattle.sval_core.specs.Many.{SpellsAll}
use Rattle.sval_core.specs.Real.{AreBytes, IsRealLabel, IsRealIndex, IsRealName, IsRealSlot, IsRealCall, head_name, HasScriptTags, SlotHasScriptTags, IsWritable, AreWritable, IsPrintable}
use Rattle.sval_core.proofs.RealTrees.{real_calls-real_tree}
use Rattle.sval_script.specs.Lines.{lines, Good}
use Rattle.sval_script.specs.Printed.{IsPrintableLabel, IsPrintableIndex, IsPrintableName, IsPrintableHead, IsPrintableSlot, IsPrintableCall, ArePrintable}
use Rattle.sval_script.specs.Canon.{canon, canon_all}
use Rattle.sval_script.specs.Laws.{IsScriptOf, ScriptsSpellPrintableTrees, OneCanonIfOneTree, OneCanonIfOneList}
use Rattle.sval_script.proofs.PrintableScripts.{held, all_held, script_calls}
use Rattle.sval_script.proofs.CanonicalScripts.{canon-one_tree, canons-one_list}

-- ---- what can be printed is real

if_both : {A : Type 0} (P Q : A → Type 0) (o : Option A) → IfSome o P → ((x : A) → P x → Q x) → IfSome o Q
if_both P Q None h k = tt
if_both P Q (Some x) h k = k x h

real_label : (label : Label) → IsPrintableLabel label → IsRealLabel label
real_label label h = IsUtf8-from_is_utf8 label.text h.utf8

real_name : (name : Name) → IsPrintableName name → IsRealName name
real_name name h = (if_both IsPrintableLabel IsRealLabel name.label h.label real_label, if_both IsPrintableIndex IsRealIndex name.index h.index (λ index k. k.range))

real_head : (head : Head) → IsPrintableHead head → IsRealName (head_name head)
real_head Head.Seq h = (tt, tt)
real_head Head.Map h = (tt, tt)
real_head (Head.Record name) h = real_name name h
real_head (Head.Tuple name) h = real_name name h
real_head (Head.RecordTuple name) h = real_name name h

real_slot : (slot : Slot) → IsPrintableSlot slot → IsRealSlot slot
real_slot Slot.Item h = tt
real_slot Slot.Key h = tt
real_slot Slot.Value h = tt
real_slot (Slot.Field tag label) h = real_label label h.1
real_slot (Slot.Place tag index) h = h.1.range
real_slot (Slot.FieldPlace tag label index) h = (real_label label h.1, h.2.range)

all_bytes : (xs : List ℕ) → IsBytes xs → AreBytes xs
all_bytes [] h = tt
all_bytes (x ∷ xs) h = (h 0, all_bytes xs (λ i. h (suc i)))

real_call : (call : Call) → IsPrintableCall call → IsRealCall call
real_call (Call.Int type number) h = h
real_call (Call.TextFragment borrowed text) h = IsUtf8-from_is_utf8 text h
real_call (Call.BinaryFragment borrowed bytes) h = all_bytes bytes h
real_call (Call.Standalone name) h = real_name name h
real_call (Call.TaggedBegin name) h = real_name name h
real_call (Call.EnumBegin name) h = real_name name h
real_call (Call.Begin head size) h = real_head head h.0
real_call (Call.PartBegin slot) h = real_slot slot h
real_call call h = tt

real_calls : (calls : List Call) → ArePrintable calls → AllByRecursion IsRealCall calls
real_calls [] h = tt
real_calls (call ∷ calls) h = (real_call call h.0, real_calls calls h.1)

-- ---- the tags of what begins

-- what begins, and a value that is one call, has tags of scripts
abbrev pub IsTagged : Call → Type 0
IsTagged (Call.Standalone name) = HasScriptTags name
IsTagged (Call.TaggedBegin name) = HasScriptTags name
IsTagged (Call.EnumBegin name) = HasScriptTags name
IsTagged (Call.Begin head size) = HasScriptTags (head_name head)
IsTagged (Call.PartBegin slot) = SlotHasScriptTags slot
IsTagged call = ⊤

abbrev pub AreTagged : List Call → Type 0
AreTagged calls = AllByRecursion IsTagged calls

tags_of_label : (o : Option Label) → IfSome o IsPrintableLabel → IfSome (option_map plain_label o) (λ label. IsTagName label.tag)
tags_of_label None h = tt
tags_of_label (Some label) h = h.hint

tags_of_name : (name : Name) → IsPrintableName name → HasScriptTags (plain_name name)
tags_of_name name h = (h.tag, tags_of_label name.label h.label, if_both IsPrintableIndex (λ index. IsTagName index.tag) name.index h.index (λ index k. k.hint))

tags_of_head : (head : Head) → IsPrintableHead head → HasScriptTags (head_name (plain_head head))
tags_of_head Head.Seq h = (tt, tt, tt)
tags_of_head Head.Map h = (tt, tt, tt)
tags_of_head (Head.Record name) h = tags_of_name name h
tags_of_head (Head.Tuple name) h = tags_of_name name h
tags_of_head (Head.RecordTuple name) h = tags_of_name name h

tags_of_slot : (slot : Slot) → IsPrintableSlot slot → SlotHasScriptTags (plain_slot slot)
tags_of_slot Slot.Item h = tt
tags_of_slot Slot.Key h = tt
tags_of_slot Slot.Value h = tt
tags_of_slot (Slot.Field tag label) h = (h.0, h.1.hint)
tags_of_slot (Slot.Place tag index) h = (h.0, h.1.hint)
tags_of_slot (Slot.FieldPlace tag label index) h = (h.0, h.1.hint, h.2.hint)

-- what counts of a call that can be printed has tags of scripts, and holds what the call holds
record IsCounted (call counted : Call) : Type 0 where
  tags : IsTagged counted
  same : held counted ≡ held call

counted_call : (call : Call) → IsPrintableCall call → IfSome (plain_call call) (IsCounted call)
counted_call Call.Null h = record { tags = tt; same = refl }
counted_call (Call.Truth b) h = record { tags = tt; same = refl }
counted_call (Call.Int type number) h = record { tags = tt; same = refl }
counted_call (Call.Standalone name) h = record { tags = tags_of_name name h; same = refl }
counted_call (Call.TagHint tag) h = tt
counted_call (Call.TextBegin size) h = record { tags = tt; same = refl }
counted_call (Call.TextFragment borrowed text) h = record { tags = tt; same = refl }
counted_call Call.TextEnd h = record { tags = tt; same = refl }
counted_call (Call.BinaryBegin size) h = record { tags = tt; same = refl }
counted_call (Call.BinaryFragment borrowed bytes) h = record { tags = tt; same = refl }
counted_call Call.BinaryEnd h = record { tags = tt; same = refl }
counted_call (Call.EnumBegin name) h = record { tags = tags_of_name name h; same = refl }
counted_call (Call.EnumEnd name) h = record { tags = tt; same = refl }
counted_call (Call.TaggedBegin name) h = record { tags = tags_of_name name h; same = refl }
counted_call (Call.TaggedEnd name) h = record { tags = tt; same = refl }
counted_call (Call.Begin head size) h = record { tags = tags_of_head head h.0; same = refl }
counted_call (Call.End head) h = record { tags = tt; same = refl }
counted_call (Call.PartBegin slot) h = record { tags = tags_of_slot slot h; same = refl }
counted_call (Call.PartEnd slot) h = record { tags = tt; same = refl }

-- calls with tags of scripts that hold at most so many bytes
abbrev AreTaggedWithin : ℕ → List Call → Type 0
AreTaggedWithin bytes calls = AreTagged calls × (all_held calls ≤ bytes)

in_front : (call : Call) (counted : Option Call) (bytes : ℕ) (calls : List Call) → IfSome counted (IsCounted call) → AreTaggedWithin bytes calls
    → AreTaggedWithin (held call + bytes) (cons_option counted calls)
in_front call None bytes calls h k = (k.0, omega (arith, k.1))
in_front call (Some counted) bytes calls h k = ((h.tags, k.0), omega (arith, h.same, k.1))

plain_tagged : (calls : List Call) → ArePrintable calls → AreTaggedWithin (all_held calls) (plain calls)
plain_tagged [] h = (tt, omega arith)
plain_tagged (call ∷ calls) h = in_front call (plain_call call) (all_held calls) (plain calls) (counted_call call h.0) (plain_tagged calls h.1)

-- ---- the tree, and what follows it

-- what follows calls with tags of scripts: calls of that kind, which hold no more
abbrev Follows : List Call → List Call → Type 0
Follows calls rest = AreTagged rest × (all_held rest ≤ all_held calls)

text_pieces : (pieces : List (List ℕ)) (rest : List Call) → let calls = map (Call.TextFragment false) pieces ++ Call.TextEnd ∷ rest in
    AreTagged calls → (length (concat pieces) + all_held rest ≡ all_held calls) × AreTagged rest
text_pieces [] rest h = (refl, h.1)
text_pieces (piece ∷ pieces) rest h =
    let more = text_pieces pieces rest h.1 in
    (omega (arith, length-append piece (concat pieces), more.0), more.1)

binary_pieces : (pieces : List (List ℕ)) (rest : List Call) → let calls = map (Call.BinaryFragment false) pieces ++ Call.BinaryEnd ∷ rest in
    AreTagged calls → (length (concat pieces) + all_held rest ≡ all_held calls) × AreTagged rest
binary_pieces [] rest h = (refl, h.1)
binary_pieces (piece ∷ pieces) rest h =
    let more = binary_pieces pieces rest h.1 in
    (omega (arith, length-append piece (concat pieces), more.0), more.1)

-- the same calls hold the same
holds : (calls others : List Call) → calls ≡ others → all_held calls ≡ all_held others
holds calls others e = ap all_held e

mutual
  tree_writable : (tree : Tree) (calls rest : List Call) → Says tree calls rest → AreTagged calls → all_held calls < 2 ^ 64 → IsWritable tree × Follows calls rest
  tree_writable Null calls rest s h few = (tt, ((subst AreTagged s h).1, omega (arith, holds calls _ s)))
  tree_writable (Truth b) calls rest s h few = (tt, ((subst AreTagged s h).1, omega (arith, holds calls _ s)))
  tree_writable (Int type number) calls rest s h few = (tt, ((subst AreTagged s h).1, omega (arith, holds calls _ s)))
  tree_writable (Text bytes) calls rest s h few =
      let pieces = text_pieces s.1 rest (subst AreTagged s.4 h).1 in
      (omega (arith, few, holds calls _ s.4, pieces.0, ap length s.3), (pieces.1, omega (arith, holds calls _ s.4, pieces.0)))
  tree_writable (Binary bytes) calls rest s h few =
      let pieces = binary_pieces s.1 rest (subst AreTagged s.4 h).1 in
      (omega (arith, few, holds calls _ s.4, pieces.0, ap length s.3), (pieces.1, omega (arith, holds calls _ s.4, pieces.0)))
  tree_writable (Standalone name) calls rest s h few = let here = subst AreTagged s h in (here.0, (here.1, omega (arith, holds calls _ s)))
  tree_writable (Tagged name tree) calls rest s h few =
      let here = subst AreTagged s.1 h in
      let same = holds calls _ s.1 in
      let inside = tree_writable tree s.0 _ s.2 here.1 (omega (arith, few, same)) in
      ((here.0, inside.0), (inside.1.0.1, omega (arith, same, inside.1.1)))
  tree_writable (EmptyEnum name) calls rest s h few = let here = subst AreTagged s h in (here.0, (here.1.1, omega (arith, holds calls _ s)))
  tree_writable (Enum name tree) calls rest s h few =
      let here = subst AreTagged s.1 h in
      let same = holds calls _ s.1 in
      let inside = tree_writable tree s.0 _ s.2 here.1 (omega (arith, few, same)) in
      ((here.0, inside.0), (inside.1.0.1, omega (arith, same, inside.1.1)))
  tree_writable (Container head parts) calls rest s h few =
      let here = subst AreTagged s.3 h in
      let same = holds calls _ s.3 in
      let inside = parts_writable parts s.1 _ s.4 here.1 (omega (arith, few, same)) in
      ((here.0, inside.0), (inside.1.0.1, omega (arith, same, inside.1.1)))

  parts_writable : (parts : Parts) (calls rest : List Call) → SayParts parts calls rest → AreTagged calls → all_held calls < 2 ^ 64 → AreWritable parts × Follows calls rest
  parts_writable none calls rest s h few = (tt, (subst AreTagged s h, omega (arith, holds calls _ s)))
  parts_writable (part slot tree parts) calls rest s h few =
      let here = subst AreTagged s.2 h in
      let same = holds calls _ s.2 in
      let inside = tree_writable tree s.0 _ s.3 here.1 (omega (arith, few, same)) in
      let more = parts_writable parts s.1 rest s.4 inside.1.0.1 (omega (arith, few, same, inside.1.1)) in
      ((here.0, inside.0, more.0), (more.1.0, omega (arith, same, inside.1.1, more.1.1)))

-- ---- scripts

spelled_printable : (calls : List Call) (tree : Tree) → ArePrintable calls → all_held calls < 2 ^ 64 → Spells calls tree → IsPrintable tree
spelled_printable calls tree h few s =
    let counted = plain_tagged calls h in
    (real_calls-real_tree calls tree (real_calls calls h) s, (tree_writable tree (plain calls) [] s.1 counted.0 (omega (arith, few, counted.1))).0)

printable_front : (first rest : List Call) → ArePrintable (first ++ rest) → ArePrintable first × ArePrintable rest
printable_front [] rest h = (tt, h)
printable_front (call ∷ first) rest h = let more = printable_front first rest h.1 in ((h.0, more.0), more.1)

held_parts : (first rest : List Call) → all_held (first ++ rest) ≡ all_held first + all_held rest
held_parts [] rest = omega arith
held_parts (call ∷ first) rest = omega (arith, held_parts first rest)

all_spelled_printable : (calls : List Call) (trees : List Tree) → ArePrintable calls → all_held calls < 2 ^ 64 → SpellsAll calls trees → AllByRecursion IsPrintable trees
all_spelled_printable calls [] h few s = tt
all_spelled_printable calls (tree ∷ trees) h few s =
    let parts = printable_front s.0 s.1 (subst ArePrintable s.2 h) in
    let sum : all_held calls ≡ all_held s.0 + all_held s.1 = ap all_held s.2 ∙ held_parts s.0 s.1 in
    (spelled_printable s.0 tree parts.0 (omega (arith, few, sum)) s.3, all_spelled_printable s.1 trees parts.1 (omega (arith, few, sum)) s.4)

-- the calls of a script are real
pub scripts-real : (script : List ℕ) (calls : List Call) → lines script ≡ Good calls → AllByRecursion IsRealCall calls
scripts-real script calls e = real_calls calls (script_calls script calls e).0

-- the trees of a script are printable
pub script_trees : ScriptsSpellPrintableTrees
script_trees script trees (few, calls, e, s) = let read = script_calls script calls e in all_spelled_printable calls trees read.0 (omega (arith, few, read.1)) s

pub script_tree : (script : List ℕ) (tree : Tree) → IsScriptOf tree script → IsPrintable tree
script_tree script tree (few, calls, e, s) = let read = script_calls script calls e in spelled_printable calls tree read.0 (omega (arith, few, read.1)) s

pub one_canon : OneCanonIfOneTree
one_canon script another tree other h k = (canon-one_tree tree other (script_tree script tree h) (script_tree another other k), ap canon)

pub one_canon_all : OneCanonIfOneList
one_canon_all script another trees others h k = (canons-one_list trees others (script_trees script trees h) (script_trees another others k), ap canon_all)
