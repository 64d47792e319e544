-- A made script reads back as its calls, which spell a tree that has a JSON.
use Rattle.std.specs.Prelude.{◌≡◌, ℕ, zero, suc, ◌+◌, ◌<◌, ◌≤◌, ◌^◌, ◌==◌, nat_lt, pos, true, false, List, [], ◌∷◌, ◌++◌, length, flat_map, codes, decimal, None, Some, Option, Ok, refl}
use Rattle.std.specs.List.{range_with_len, count_by, list_all}
use Rattle.std.specs.Str.{is_utf8}
use Rattle.std.proofs.Common.{ap, subst, arith, append-nil}
use Rattle.std.proofs.lemmas.Bool.Decides.{nat_tests}
use Rattle.std.proofs.lemmas.List.FromFn.{length-range_with_len}
use Rattle.std.proofs.lemmas.List.Splits.{length-slice_split}
use Rattle.std.proofs.lemmas.Fmt.{IsAscii-decimal}
use Rattle.std.proofs.lemmas.Str.{IsUtf8-from_ascii, is_utf8-from_IsUtf8}
use Rattle.sval_label.specs.Ranges.{is_of_type}
use Rattle.sval_label.specs.Calls.{Call, Field, Record, U64, TextBegin, TextFragment, TextEnd, End, Seq}
use Rattle.sval_core.specs.Names.{no_name}
use Rattle.sval_core.specs.Trees as tree
use Rattle.sval_core.specs.Values.{makes}
use Rattle.sval_core.specs.ValueCalls.{container_calls, item_calls}
use Rattle.sval_core.specs.ValueTrees.{Tells, item_parts}
use Rattle.sval_core.proofs.ValueProofs.{int_call_tells, part_calls_tell, last_part_tells, container_calls_tell, seq_calls_tell}
use Rattle.sval_json.specs.Json.{compact}
use Rattle.sval_json.specs.Shape.{items, json_in}
use Rattle.sval_json.proofs.NumberTexts.{ascii_utf8}
use Rattle.sval_json.specs.declared.style.Variants.TheVariants.{Inside}
use Rattle.sval_script.specs.Lines.{Lines, Good, Bad, lines, lines_from, line_of, cut_at, with_call, after_last}
use Rattle.sval_script.specs.Printed.{ArePrintable, IsPrintableName, IsPrintableLabel}
use Rattle.sval_script.proofs.PrintedLines.{lines-printed}
use Rattle.sval_relay.specs.declared.way.Way.TheVariants.{Buffered}
use Rattle.sval_relay.specs.Verdict.{Text, JsonIn, IsRelayVerdict, one_in, tree_written}
use Rattle.sval_relay.proofs.Verdicts.{verdict_in}
use Rattle.sval_relay.specs.Made.{made_field_label, id_calls, name_calls, record_calls, made_calls, made_script}
use Rattle.sval_relay.specs.Laws.{json_verdict}
use Rattle.sval_relay.specs.MadeLaws.{record_tree, made_tree, record_items, made_json}

-- ---- the tree

name_tells : (i : ℕ) → Tells (makes (TextBegin None ∷ TextFragment true (codes "n") ∷ TextFragment false (decimal i) ∷ TextEnd ∷ [])) (tree.Text (codes "n" ++ decimal i))
name_tells i = record { willing = refl; spells = (tt, (None, codes "n" ∷ decimal i ∷ [], tt, ap (λ rest. codes "n" ++ rest) (append-nil (decimal i)), refl)) }

record_tells : (i : ℕ) → Tells (makes (record_calls i)) (record_tree i)
unfolding record_calls id_calls name_calls
record_tells i =
    let name = last_part_tells (Field None (made_field_label (codes "name"))) (name_tells i) in
    let fields = part_calls_tell (Field None (made_field_label (codes "id"))) (int_call_tells U64 (pos i)) name in
    container_calls_tell (Record no_name) 2 fields (refl, (refl, tt)) refl

pub made_tells : (count : ℕ) → Tells (makes (made_calls count)) (made_tree count)
made_tells count =
    let numbers = range_with_len 0 count in
    subst (λ size. Tells (makes (container_calls Seq size (flat_map (item_calls record_calls) numbers))) (made_tree count)) (length-range_with_len 0 count)
    (seq_calls_tell record_calls record_tree record_tells numbers)

-- ---- its JSON

items_are : (is : List ℕ) → items Inside (item_parts record_tree is) ≡ Ok (record_items is)
items_are [] = refl
items_are (i ∷ is) = rw (items_are is) refl

pub made_shape : (count : ℕ) → json_in Inside (made_tree count) ≡ Ok (made_json count)
made_shape count = rw (items_are (range_with_len 0 count)) refl

-- ---- its lines

printable-append : (calls more : List Call) → ArePrintable calls → ArePrintable more → ArePrintable (calls ++ more)
printable-append [] more h k = k
printable-append (call ∷ calls) more h k = (h.0, printable-append calls more h.1 k)

digits_are_text : (i : ℕ) → i < 2 ^ 64 → is_utf8 (decimal i) ≡ true
digits_are_text i small = is_utf8-from_IsUtf8 (decimal i) (IsUtf8-from_ascii (decimal i) (IsAscii-decimal i small))

is_u64 : (i : ℕ) → i < 2 ^ 64 → is_of_type U64 (pos i) ≡ true
is_u64 i small = grind (arith, nat_tests)

word_is_text : (word : List ℕ) → list_all (λ byte. nat_lt byte 128) word ≡ true → is_utf8 word ≡ true
word_is_text word ascii = is_utf8-from_IsUtf8 word (ascii_utf8 word ascii)

id_printable : IsPrintableLabel (made_field_label (codes "id"))
id_printable = record { utf8 = word_is_text (codes "id") refl; hint = refl; not_static = refl }

name_printable : IsPrintableLabel (made_field_label (codes "name"))
name_printable = record { utf8 = word_is_text (codes "name") refl; hint = refl; not_static = refl }

no_name_printable : IsPrintableName no_name
no_name_printable = record { tag = tt; label = tt; index = tt }

record_printable : (i : ℕ) → i < 2 ^ 64 → ArePrintable (item_calls record_calls i)
unfolding record_calls id_calls name_calls
record_printable i small = (
  tt,
  (
    (no_name_printable, omega arith),
    (
      (tt, id_printable),
      (
        is_u64 i small,
        (
          (tt, id_printable),
          (
            (tt, name_printable),
            (
              tt,
              (
                word_is_text (codes "n") refl,
                (
                  digits_are_text i small,
                  (
                    tt,
                    (
                      (tt, name_printable),
                      (no_name_printable, (tt, tt)),
                    ),
                  ),
                ),
              ),
            ),
          ),
        ),
      ),
    ),
  ),
)

items_printable : (first count : ℕ) → first + count ≤ 2 ^ 64 → ArePrintable (flat_map (item_calls record_calls) (range_with_len first count))
items_printable first zero within = tt
items_printable first (suc count) within =
    printable-append (item_calls record_calls first) (flat_map (item_calls record_calls) (range_with_len (first + 1) count)) (record_printable first (omega (arith, within)))
    (items_printable (first + 1) count (omega (arith, within)))

made_printable : (count : ℕ) → count < 2 ^ 64 → ArePrintable (made_calls count)
made_printable count small =
    ((tt, small), printable-append (flat_map (item_calls record_calls) (range_with_len 0 count)) (End Seq ∷ []) (items_printable 0 count (omega (arith, small))) (tt, tt))

pub made_reads_back : (count : ℕ) → count < 2 ^ 64 → lines (made_script count) ≡ Good (made_calls count)
made_reads_back count small = lines-printed (made_calls count) (made_printable count small)

pub made_is_text : (count : ℕ) → count < 2 ^ 64 → IsRelayVerdict (Text (compact (made_json count))) (made_script count) (one_in Buffered)
made_is_text count small =
    subst (λ found. IsRelayVerdict (json_verdict found (tree_written (JsonIn Inside) (made_tree count))) (made_script count) (one_in Buffered)) (made_shape count)
    (verdict_in (made_script count) Inside (made_calls count) (made_tree count) (made_reads_back count small) (made_tells count).spells)

-- ---- how many lines a script has

with_one : (parts : List (List ℕ)) (n : ℕ) (first : Option Call) (later : Lines) (calls : List Call)
    → ((rest : List Call) → later ≡ Good rest → length parts ≡ length rest + 1) → with_call n first later ≡ Good calls → length parts ≡ length calls
with_one parts n None later calls count e = cc e
with_one parts n (Some call) (Bad m) calls count e = cc e
with_one parts n (Some call) (Good rest) calls count e =
    let same : call ∷ rest ≡ calls = let both : Good (call ∷ rest) ≡ Good calls = e in cc both in
    let some = count rest refl in
    omega (arith, some, ap length same)

after_one : (n : ℕ) (rest : List ℕ) (calls : List Call) → after_last n rest ≡ Good calls → length calls ≡ 0
after_one n [] calls e = let same : [] ≡ calls = let both : Good [] ≡ Good calls = e in cc both in omega (arith, ap length same)
after_one n (byte ∷ rest) calls e = cc e

lines_are_parts : (read : List ℕ → Option Call) (n : ℕ) (parts : List (List ℕ)) (calls : List Call) → 0 < length parts → lines_from read n parts ≡ Good calls → length parts ≡ length calls + 1
lines_are_parts read n [] calls some e = absurd (omega (arith, some))
lines_are_parts read n (rest ∷ []) calls some e = let none = after_one n rest calls e in omega (arith, none)
lines_are_parts read n (line ∷ next ∷ more) calls some e =
    let later = with_one (next ∷ more) n (read line) (lines_from read (n + 1) (next ∷ more)) calls (λ rest is. lines_are_parts read (n + 1) (next ∷ more) rest (omega arith) is) e in
    omega (arith, later)

-- the line feeds are as many as the calls
pub feeds_are_calls : (script : List ℕ) (calls : List Call) → lines script ≡ Good calls → count_by (λ byte. byte == 10) script ≡ length calls
unfolding lines
feeds_are_calls script calls e =
    let cut = length-slice_split (λ byte. byte == 10) script in
    let parts = lines_are_parts line_of 1 (cut_at 10 script) calls (omega (arith, cut)) e in
    omega (arith, cut, parts)
