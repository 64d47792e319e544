-- The canonical script of a tree reads back as its canonical calls, and so do those of a list of trees.
use Rattle.std.specs.Prelude.{◌≡◌, ℕ, zero, suc, ◌<◌, List, [], ◌∷◌, ◌++◌, Option, Some, None, option_map, IfSome, flat_map, refl}
use Rattle.std.specs.List.{AllByRecursion}
use Rattle.std.proofs.Common.{sym, ap, ◌∙◌, arith, append_assoc}
use Rattle.std.proofs.lemmas.Str.{is_utf8-from_IsUtf8}
use Rattle.hex.specs.Hex.{IsBytes}
use Rattle.sval_label.specs.Calls.{Call, Head, Slot, Name, Label, Index}
use Rattle.sval_label.specs.Tags.{IsTagName}
use Rattle.sval_core.specs.Trees.{Tree, Null, Truth, Int, Text, Binary, Standalone, Tagged, EmptyEnum, Enum, Container, Parts, none, part, plain_label, plain_name, plain_head, plain_slot, IsGood, AreGood, calls_then, part_calls_then, calls_of}
use Rattle.sval_core.specs.Real.{IsRealLabel, IsRealIndex, IsRealName, IsRealSlot, head_name, IsInRange, AreInRange, HasScriptTags, SlotHasScriptTags, IsWritable, AreWritable, IsPrintable}
use Rattle.sval_core.specs.Many.{SpellsAll}
use Rattle.sval_core.proofs.Spellings.{calls_of-spells, spells_one}
use Rattle.sval_core.proofs.ManySpellings.{one_list}
use Rattle.sval_script.specs.Lines.{Good, lines}
use Rattle.sval_script.specs.Printed.{printed, line, IsPrintableLabel, IsPrintableIndex, IsPrintableName, IsPrintableHead, IsPrintableSlot, ArePrintable}
use Rattle.sval_script.specs.Canon.{canon, canon_all}
use Rattle.sval_script.proofs.PrintedLines.{lines-printed}

printable_label : (l : Label) → plain_label l ≡ l → IsRealLabel l → IsTagName l.tag → IsPrintableLabel l
printable_label l p r t = record { utf8 = is_utf8-from_IsUtf8 l.text r; hint = t; not_static = sym (ap (λ x. x.is_static) p) }

printable_index : (i : Index) → IsRealIndex i → IsTagName i.tag → IsPrintableIndex i
printable_index i r t = record { range = r; hint = t }

some_label : (l : Option Label) → option_map plain_label l ≡ l → IfSome l IsRealLabel → IfSome l (λ x. IsTagName x.tag) → IfSome l IsPrintableLabel
some_label None p r t = tt
some_label (Some l) p r t = let same : plain_label l ≡ l = cc p in printable_label l same r t

some_index : (i : Option Index) → IfSome i IsRealIndex → IfSome i (λ x. IsTagName x.tag) → IfSome i IsPrintableIndex
some_index None r t = tt
some_index (Some i) r t = printable_index i r t

printable_name : (n : Name) → plain_name n ≡ n → IsRealName n → HasScriptTags n → IsPrintableName n
printable_name n p r t = record { tag = t.0; label = some_label n.label (ap (λ x. x.label) p) r.0 t.1; index = some_index n.index r.1 t.2 }

printable_head : (head : Head) → plain_head head ≡ head → IsRealName (head_name head) → HasScriptTags (head_name head) → IsPrintableHead head
printable_head Head.Seq p r t = tt
printable_head Head.Map p r t = tt
printable_head (Head.Record n) p r t = let same : plain_name n ≡ n = cc p in printable_name n same r t
printable_head (Head.Tuple n) p r t = let same : plain_name n ≡ n = cc p in printable_name n same r t
printable_head (Head.RecordTuple n) p r t = let same : plain_name n ≡ n = cc p in printable_name n same r t

printable_slot : (slot : Slot) → plain_slot slot ≡ slot → IsRealSlot slot → SlotHasScriptTags slot → IsPrintableSlot slot
printable_slot Slot.Item p r t = tt
printable_slot Slot.Key p r t = tt
printable_slot Slot.Value p r t = tt
printable_slot (Slot.Field tag l) p r t = let same : plain_label l ≡ l = cc p in (t.0, printable_label l same r t.1)
printable_slot (Slot.Place tag i) p r t = (t.0, printable_index i r t.1)
printable_slot (Slot.FieldPlace tag l i) p r t = let same : plain_label l ≡ l = cc p in (t.0, printable_label l same r.0 t.1, printable_index i r.1 t.2)

are_bytes : (xs : List ℕ) → AllByRecursion (λ byte. byte < 256) xs → IsBytes xs
are_bytes [] h i = omega arith
are_bytes (x ∷ xs) h zero = h.0
are_bytes (x ∷ xs) h (suc i) = are_bytes xs h.1 i

mutual
  printable_then : (t : Tree) (rest : List Call) → IsGood t → IsInRange t → IsWritable t → ArePrintable rest → ArePrintable (calls_then t rest)
  printable_then Null rest g r w m = (tt, m)
  printable_then (Truth b) rest g r w m = (tt, m)
  printable_then (Int type number) rest g r w m = (r, m)
  printable_then (Text bytes) rest g r w m = (w, (is_utf8-from_IsUtf8 bytes r, (tt, m)))
  printable_then (Binary bytes) rest g r w m = (w, (are_bytes bytes r, (tt, m)))
  printable_then (Standalone name) rest g r w m = (printable_name name g r w, m)
  printable_then (Tagged name tree) rest g r w m =
      let n = printable_name name g.0 r.0 w.0 in (n, printable_then tree (Call.TaggedEnd name ∷ rest) g.2 r.1 w.1 (n, m))
  printable_then (EmptyEnum name) rest g r w m = let n = printable_name name g r w in (n, (n, m))
  printable_then (Enum name tree) rest g r w m =
      let n = printable_name name g.0 r.0 w.0 in (n, printable_then tree (Call.EnumEnd name ∷ rest) g.2 r.1 w.1 (n, m))
  printable_then (Container head parts) rest g r w m =
      let h = printable_head head g.0 r.0 w.0 in ((h, tt), parts_printable parts (Call.End head ∷ rest) g.2 r.1 w.1 (h, m))

  parts_printable : (p : Parts) (rest : List Call) → AreGood p → AreInRange p → AreWritable p → ArePrintable rest → ArePrintable (part_calls_then p rest)
  parts_printable none rest g r w m = m
  parts_printable (part slot tree parts) rest g r w m =
      let s = printable_slot slot g.0 r.0 w.0 in
      (s, printable_then tree (Call.PartEnd slot ∷ part_calls_then parts rest) g.1 r.1 w.1 (s, parts_printable parts rest g.2 r.2 w.2 m))

pub canon-reads_back : (t : Tree) → IsPrintable t → lines (canon t) ≡ Good (calls_of t)
canon-reads_back t p = lines-printed (calls_of t) (printable_then t [] p.0.0 p.0.1 p.1 tt)

same_calls : (a b : List Call) → Good a ≡ Good b → a ≡ b
same_calls a b e = cc e

pub canon-one_tree : (t u : Tree) → IsPrintable t → IsPrintable u → canon t ≡ canon u → t ≡ u
canon-one_tree t u p q e =
    let same = same_calls (calls_of t) (calls_of u) (sym (canon-reads_back t p) ∙ ap lines e ∙ canon-reads_back u q) in
    spells_one (calls_of t) t u (calls_of-spells t p.0.0) (rw same (calls_of-spells u q.0.0))

-- ---- lists of trees

abbrev all_calls : List Tree → List Call
all_calls trees = flat_map calls_of trees

pub printed-append : (cs ds : List Call) → printed (cs ++ ds) ≡ printed cs ++ printed ds
unfolding printed
printed-append [] ds = refl
printed-append (c ∷ cs) ds =
    ap (λ x. (line c ++ (10 ∷ [])) ++ x) (printed-append cs ds) ∙ sym (append_assoc (line c ++ (10 ∷ [])) (printed cs) (printed ds))

canon_all-printed : (trees : List Tree) → canon_all trees ≡ printed (all_calls trees)
unfolding printed
canon_all-printed [] = refl
canon_all-printed (t ∷ ts) = ap (λ x. canon t ++ x) (canon_all-printed ts) ∙ sym (printed-append (calls_of t) (all_calls ts))

printable-append : (cs ds : List Call) → ArePrintable cs → ArePrintable ds → ArePrintable (cs ++ ds)
printable-append [] ds p q = q
printable-append (c ∷ cs) ds p q = (p.0, printable-append cs ds p.1 q)

all_printable : (trees : List Tree) → AllByRecursion IsPrintable trees → ArePrintable (all_calls trees)
all_printable [] p = tt
all_printable (t ∷ ts) p = printable-append (calls_of t) (all_calls ts) (printable_then t [] p.0.0.0 p.0.0.1 p.0.1 tt) (all_printable ts p.1)

all_calls-spell : (trees : List Tree) → AllByRecursion IsPrintable trees → SpellsAll (all_calls trees) trees
all_calls-spell [] p = refl
all_calls-spell (t ∷ ts) p = (calls_of t, all_calls ts, refl, calls_of-spells t p.0.0.0, all_calls-spell ts p.1)

pub canons-read_back : (trees : List Tree) → AllByRecursion IsPrintable trees → lines (canon_all trees) ≡ Good (all_calls trees)
canons-read_back trees p = ap lines (canon_all-printed trees) ∙ lines-printed (all_calls trees) (all_printable trees p)

pub canons-one_list : (trees others : List Tree) → AllByRecursion IsPrintable trees → AllByRecursion IsPrintable others → canon_all trees ≡ canon_all others → trees ≡ others
canons-one_list trees others p q e =
    let same = same_calls (all_calls trees) (all_calls others) (sym (canons-read_back trees p) ∙ ap lines e ∙ canons-read_back others q) in
    one_list (all_calls trees) trees others (all_calls-spell trees p) (rw same (all_calls-spell others q))
