-- What is counted of calls that spell a tree is what each of its containers has.
use Rattle.std.specs.Prelude.{◌≡◌, ℕ, ◌+◌, false, List, [], ◌∷◌, ◌++◌, map, length, set, Option, Some, None, refl}
use Rattle.std.specs.List.{cons_option}
use Rattle.std.proofs.Common.{sym, ap, ◌∙◌, arith, append_assoc, append-nil}
use Rattle.std.proofs.Math.Seq.{set-append_seam}
use Rattle.sval_label.specs.Calls.{Call, Slot}
use Rattle.sval_core.specs.Law.{one_more}
use Rattle.sval_core.specs.Trees.{Tree, Null, Truth, Int, Text, Binary, Standalone, Tagged, EmptyEnum, Enum, Container, Parts, none, part, plain_slot}
use Rattle.sval_core.specs.Spells.{Says, SayParts, bare_name, bare_head, bare_slot, new_entries, entries, plain, plain_call}
use Rattle.sval_cbor.specs.declared.style.Lengths.{Lengths}
use Rattle.sval_cbor.specs.declared.style.Lengths.TheVariants.{Indefinite, Definite}
use Rattle.sval_cbor.specs.declared.open_rows.OpenRow.{OpenRow}
use Rattle.sval_cbor.specs.Cbor.{held_count}
use Rattle.sval_cbor.specs.Counting.{Counting, nothing_counted, one_entry_more, part_begun, count_step, counting, counts_due}
use Rattle.sval_cbor.proofs.WritingKeys.{tree_counts, part_counts}

-- ---- calls

part_plain : (slot : Slot) (rows : List OpenRow) → part_begun (plain_slot slot) rows ≡ part_begun slot rows
part_plain Slot.Value rows = refl
part_plain Slot.Item rows = refl
part_plain Slot.Key rows = refl
part_plain (Slot.Field tag label) rows = refl
part_plain (Slot.Place tag index) rows = refl
part_plain (Slot.FieldPlace tag label index) rows = refl

abbrev SameCount : Option Call → Call → Counting → Type 0
SameCount None call c = c ≡ count_step call c
SameCount (Some other) call c = count_step other c ≡ count_step call c

same_count : (call : Call) (c : Counting) → SameCount (plain_call call) call c
same_count (Call.PartBegin slot) c = ap (λ rows. let counted : Counting = record c { rows = rows } in counted) (part_plain slot c.rows)
same_count _ c = refl

plain_one : (o : Option Call) (call : Call) (calls other : List Call) (c : Counting) → SameCount o call c → ((d : Counting) → counting calls d ≡ counting other d) → counting (cons_option o calls) c ≡ counting (call ∷ other) c
plain_one None call calls other c e h = h c ∙ ap (counting other) e
plain_one (Some found) call calls other c e h = h (count_step found c) ∙ ap (counting other) e

counting_plain : (calls : List Call) (c : Counting) → counting (plain calls) c ≡ counting calls c
counting_plain [] c = refl
counting_plain (call ∷ calls) c = plain_one (plain_call call) call (plain calls) calls c (same_count call c) (counting_plain calls)

-- ---- numbers

abbrev so_far : List ℕ → List OpenRow → Counting
so_far counts rows = record { counts = counts; rows = rows }

abbrev open_row : ℕ → ℕ → OpenRow
open_row at n = record { at = at; entries = held_count n }

one_held : (n : ℕ) → one_more (held_count n) ≡ held_count (n + 1)
one_held n = omega arith

zero_held : 0 ≡ held_count 0
zero_held = omega arith

same_row : (at : ℕ) (rows : List OpenRow) {n m : ℕ} → n ≡ m → open_row at n ∷ rows ≡ open_row at m ∷ rows
same_row at rows e = ap (λ n. open_row at n ∷ rows) e

entry_row : (at n : ℕ) (rows : List OpenRow) → one_entry_more (open_row at n ∷ rows) ≡ open_row at (n + 1) ∷ rows
entry_row at n rows = ap (λ k. let row : OpenRow = record { at = at; entries = k } in row ∷ rows) (one_held n)

part_row : (slot : Slot) (at n : ℕ) (rows : List OpenRow) → part_begun slot (open_row at n ∷ rows) ≡ open_row at (n + new_entries slot) ∷ rows
part_row Slot.Value at n rows = same_row at rows (omega arith)
part_row Slot.Item at n rows = entry_row at n rows
part_row Slot.Key at n rows = entry_row at n rows
part_row (Slot.Field tag label) at n rows = entry_row at n rows
part_row (Slot.Place tag index) at n rows = entry_row at n rows
part_row (Slot.FieldPlace tag label index) at n rows = entry_row at n rows

-- ---- trees

-- calls by equal counts
alike : (calls : List Call) {counts other : List ℕ} (rows : List OpenRow) → counts ≡ other → counting calls (so_far counts rows) ≡ counting calls (so_far other rows)
alike calls rows e = ap (λ counts. counting calls (so_far counts rows)) e

alike_open : (calls : List Call) (counts : List ℕ) {rows other : List OpenRow} → rows ≡ other → counting calls (so_far counts rows) ≡ counting calls (so_far counts other)
alike_open calls counts e = ap (λ rows. counting calls (so_far counts rows)) e

no_more : (calls : List Call) (counts : List ℕ) (rows : List OpenRow) → counting calls (so_far counts rows) ≡ counting calls (so_far (counts ++ []) rows)
no_more calls counts rows = alike calls rows (sym (append-nil counts))

text_skipped : (pieces : List (List ℕ)) (rest : List Call) (c : Counting) → counting (map (Call.TextFragment false) pieces ++ rest) c ≡ counting rest c
text_skipped [] rest c = refl
text_skipped (piece ∷ pieces) rest c = text_skipped pieces rest c

binary_skipped : (pieces : List (List ℕ)) (rest : List Call) (c : Counting) → counting (map (Call.BinaryFragment false) pieces ++ rest) c ≡ counting rest c
binary_skipped [] rest c = refl
binary_skipped (piece ∷ pieces) rest c = binary_skipped pieces rest c

-- the count of a container that ends stands where it began
ended : (counts inner : List ℕ) (n : ℕ) → set (counts ++ (0 ∷ []) ++ inner) (length counts) n ≡ counts ++ n ∷ inner
ended counts inner n = ap (λ all. set all (length counts) n) (append_assoc counts (0 ∷ []) inner) ∙ set-append_seam counts 0 inner n

mutual
  value_counted : (t : Tree) (calls rest : List Call) (counts : List ℕ) (rows : List OpenRow) → Says t calls rest
      → counting calls (so_far counts rows) ≡ counting rest (so_far (counts ++ tree_counts Definite t) rows)
  value_counted Null calls rest counts rows s = ap (λ cs. counting cs (so_far counts rows)) s ∙ no_more rest counts rows
  value_counted (Truth b) calls rest counts rows s = ap (λ cs. counting cs (so_far counts rows)) s ∙ no_more rest counts rows
  value_counted (Int type n) calls rest counts rows s = ap (λ cs. counting cs (so_far counts rows)) s ∙ no_more rest counts rows
  value_counted (Text bytes) calls rest counts rows s =
      ap (λ cs. counting cs (so_far counts rows)) s.4 ∙ text_skipped s.1 (Call.TextEnd ∷ rest) (so_far counts rows) ∙ no_more rest counts rows
  value_counted (Binary bytes) calls rest counts rows s =
      ap (λ cs. counting cs (so_far counts rows)) s.4 ∙ binary_skipped s.1 (Call.BinaryEnd ∷ rest) (so_far counts rows) ∙ no_more rest counts rows
  value_counted (Standalone name) calls rest counts rows s = ap (λ cs. counting cs (so_far counts rows)) s ∙ no_more rest counts rows
  value_counted (Tagged name tree) calls rest counts rows s =
      ap (λ cs. counting cs (so_far counts rows)) s.1 ∙ value_counted tree s.0 (Call.TaggedEnd (bare_name name) ∷ rest) counts rows s.2
  value_counted (EmptyEnum name) calls rest counts rows s = ap (λ cs. counting cs (so_far counts rows)) s ∙ no_more rest counts rows
  value_counted (Enum name tree) calls rest counts rows s =
      ap (λ cs. counting cs (so_far counts rows)) s.1 ∙ value_counted tree s.0 (Call.EnumEnd (bare_name name) ∷ rest) counts rows s.2
  value_counted (Container head parts) calls rest counts rows s =
      ap (λ cs. counting cs (so_far counts rows)) s.3
      ∙ ap (λ n. let row : OpenRow = record { at = length counts; entries = n } in counting s.1 (so_far (counts ++ (0 ∷ [])) (row ∷ rows))) zero_held
      ∙ parts_counted parts s.1 (Call.End (bare_head head) ∷ rest) (counts ++ (0 ∷ [])) (length counts) 0 rows s.4
      ∙ alike rest rows (ended counts (part_counts Definite parts) (held_count (0 + entries parts)))
      ∙ alike rest rows (ap (λ n. counts ++ held_count n ∷ part_counts Definite parts) (omega arith))

  parts_counted : (parts : Parts) (calls rest : List Call) (counts : List ℕ) (at n : ℕ) (rows : List OpenRow) → SayParts parts calls rest
      → counting calls (so_far counts (open_row at n ∷ rows)) ≡ counting rest (so_far (counts ++ part_counts Definite parts) (open_row at (n + entries parts) ∷ rows))
  parts_counted none calls rest counts at n rows s =
      ap (λ cs. counting cs (so_far counts (open_row at n ∷ rows))) s ∙ no_more rest counts (open_row at n ∷ rows) ∙ alike_open rest (counts ++ []) (same_row at rows (omega arith))
  parts_counted (part slot tree parts) calls rest counts at n rows s =
      let more = n + new_entries slot in
      ap (λ cs. counting cs (so_far counts (open_row at n ∷ rows))) s.2
      ∙ alike_open s.0 counts (part_row slot at n rows)
      ∙ value_counted tree s.0 (Call.PartEnd (bare_slot slot) ∷ s.1) counts (open_row at more ∷ rows) s.3
      ∙ parts_counted parts s.1 rest (counts ++ tree_counts Definite tree) at more rows s.4
      ∙ alike rest (open_row at (more + entries parts) ∷ rows) (append_assoc counts (tree_counts Definite tree) (part_counts Definite parts))
      ∙ alike_open rest (counts ++ (tree_counts Definite tree ++ part_counts Definite parts)) (same_row at rows (omega arith))

mutual
  none_counted : (t : Tree) → tree_counts Indefinite t ≡ []
  none_counted (Tagged name tree) = none_counted tree
  none_counted (Enum name tree) = none_counted tree
  none_counted (Container head parts) = parts_uncounted parts
  none_counted _ = refl

  parts_uncounted : (parts : Parts) → part_counts Indefinite parts ≡ []
  parts_uncounted none = refl
  parts_uncounted (part slot tree parts) = ap (λ counts. counts ++ part_counts Indefinite parts) (none_counted tree) ∙ parts_uncounted parts

-- whatever calls spell a tree, the counts that are due of them are those of the tree
pub counts_spelled : (lengths : Lengths) (calls : List Call) (tree : Tree) → Says tree (plain calls) [] → counts_due lengths calls ≡ tree_counts lengths tree ++ []
counts_spelled Indefinite calls tree s = sym (append-nil (tree_counts Indefinite tree) ∙ none_counted tree)
counts_spelled Definite calls tree s =
    ap (λ c. c.counts) (sym (counting_plain calls nothing_counted) ∙ value_counted tree (plain calls) [] [] [] s) ∙ sym (append-nil (tree_counts Definite tree))
