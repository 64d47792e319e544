-- What is left on the sink of a script that spells one value, or many.
use Rattle.std.specs.Prelude.{◌≡◌, ℕ, Bool, List, [], ◌∷◌, ◌++◌, Result, Ok, Err, refl}
use Rattle.std.proofs.Common.{sym, ap, ◌∙◌, subst, append-nil}
use Rattle.sval_label.specs.Calls.{Call}
use Rattle.sval_core.specs.Trees.{Tree, calls_of}
use Rattle.sval_core.specs.Spells.{Spells}
use Rattle.sval_core.specs.Many.{AreEnds, slice, SlicesSpell}
use Rattle.sval_core.proofs.ManySlices.{ends_cut_trees}
use Rattle.sval_core.proofs.Spellings.{calls_of-spells}
use Rattle.sval_json.specs.Json.{Json, compact}
use Rattle.sval_json.specs.Number.{Refusal, InvalidKey, InvalidNumber}
use Rattle.sval_json.specs.declared.style.Variants.{Variants}
use Rattle.sval_json.specs.Shape.{json_in, on_ok, map_ok}
use Rattle.sval_json.specs.Laws.{IsWrittenAs}
use Rattle.sval_json.specs.Actions.{Outcome}
use Rattle.sval_json.specs.Steps.{written_in}
use Rattle.sval_json.proofs.WrittenOnce.{written_once}
use Rattle.sval_json.proofs.WritingPlain.{spelling_written}
use Rattle.sval_script.specs.Lines.{Lines, Good, Bad, lines}
use Rattle.sval_relay.specs.Verdict.{RelayVerdict, BadLine, BadCall, Unfinished, Key, Number, Text, TreeFormat, JsonIn, tree_text, tree_written, with_text, left, ending, texts, text_verdict, SpellTrees, IsOfRelayCalls, bad_call, unfinished, whole, IsOfLines, IsVerdictOn}
use Rattle.sval_relay.specs.Leavings.{with_rest, written_slices, IsLeftByCalls, IsLeftByLines, IsLeft}
use Rattle.sval_relay.proofs.Verdicts.{Found, found_bad, found_open, found_whole, found, one_spelled, not_whole}

-- ---- the texts of trees that are not refused are what they leave

pub texts_left : (asked : TreeFormat) (end : List ℕ) (trees : List Tree) (text : List ℕ) → texts asked end trees ≡ Ok text → left asked end trees ≡ text
texts_left asked end [] text e = let same : [] ≡ text = cc e in same
texts_left asked end (tree ∷ trees) text e = by_tree (λ more h. texts_left asked end trees more h) (tree_text asked tree) (texts asked end trees) refl e
  where
    by_tree : ((more : List ℕ) → texts asked end trees ≡ Ok more → left asked end trees ≡ more) → (first later : Result (List ℕ) Refusal) → texts asked end trees ≡ later
        → on_ok first (λ t. map_ok (λ more. t ++ (end ++ more)) later) ≡ Ok text → with_text first end (left asked end trees) (tree_written asked tree) ≡ text
    by_tree next (Ok first) (Ok more) h k = let same : first ++ (end ++ more) ≡ text = cc k in ap (λ x. first ++ (end ++ x)) (next more h) ∙ same
    by_tree next (Ok first) (Err why) h k = cc k
    by_tree next (Err why) later h k = cc k

-- ---- one text is left

left_by_whole : (asked : TreeFormat) (many : Bool) (calls : List Call) (trees : List Tree) → SpellTrees many calls trees → IsLeftByCalls asked many calls (left asked (ending asked many) trees)
left_by_whole asked many calls trees s = ((λ others t. ap (left asked (ending asked many)) (one_spelled many calls trees others s t)), (λ none. absurd (none trees s)))

left_by_none : (asked : TreeFormat) (many : Bool) (calls : List Call) → ((trees : List Tree) → SpellTrees many calls trees → ⊥) → IsLeftByCalls asked many calls []
left_by_none asked many calls none = ((λ trees s. absurd (none trees s)), (λ n. refl))

left_by_found : (asked : TreeFormat) (many : Bool) (calls : List Call) → Found many calls
    → (bytes : List ℕ) × IsLeftByCalls asked many calls bytes × ((other : List ℕ) → IsLeftByCalls asked many calls other → bytes ≡ other)
left_by_found asked many calls (found_bad front call rest e v n) =
    let none = not_whole many calls front rest call e n in ([], left_by_none asked many calls none, λ other h. sym (h.1 none))
left_by_found asked many calls (found_open v none) = ([], left_by_none asked many calls none, λ other h. sym (h.1 none))
left_by_found asked many calls (found_whole trees s) = (left asked (ending asked many) trees, left_by_whole asked many calls trees s, λ other h. sym (h.0 trees s))

left_by_lines : (asked : TreeFormat) (many : Bool) (read : Lines)
    → (bytes : List ℕ) × IsLeftByLines asked many read bytes × ((other : List ℕ) → IsLeftByLines asked many read other → bytes ≡ other)
left_by_lines asked many (Bad n) = ([], refl, λ other h. sym h)
left_by_lines asked many (Good calls) = left_by_found asked many calls (found many calls)

pub one_text_left : (script : List ℕ) (asked : TreeFormat) (many : Bool)
    → (bytes : List ℕ) × IsLeft asked many script bytes × ((other : List ℕ) → IsLeft asked many script other → bytes ≡ other)
one_text_left script asked many = left_by_lines asked many (lines script)

-- ---- it is the verdict's

-- what is left by a verdict: its bytes, and nothing where values are not whole
abbrev MayBeLeft : RelayVerdict → List ℕ → Type 0
MayBeLeft (Text text) bytes = bytes ≡ text
MayBeLeft (BadLine n) bytes = bytes ≡ []
MayBeLeft (BadCall n) bytes = bytes ≡ []
MayBeLeft Unfinished bytes = bytes ≡ []
MayBeLeft (Key written) bytes = bytes ≡ written
MayBeLeft (Number written) bytes = bytes ≡ written

left_by_trees : (found : Result (List ℕ) Refusal) (written bytes : List ℕ) → bytes ≡ written → ((text : List ℕ) → found ≡ Ok text → written ≡ text) → MayBeLeft (text_verdict found written) bytes
left_by_trees (Ok text) written bytes e h = e ∙ h text refl
left_by_trees (Err InvalidKey) written bytes e h = e
left_by_trees (Err InvalidNumber) written bytes e h = e

left_by_calls : {calls : List Call} {asked : TreeFormat} {many : Bool} {answer : RelayVerdict} (bytes : List ℕ) → IsOfRelayCalls calls asked many answer → IsLeftByCalls asked many calls bytes → MayBeLeft answer bytes
left_by_calls {calls} {many = many} bytes (bad_call front call rest e v n) h = h.1 (not_whole many calls front rest call e n)
left_by_calls bytes (unfinished v none) h = h.1 none
left_by_calls {asked = asked} {many = many} bytes (whole trees s) h =
    left_by_trees (texts asked (ending asked many) trees) (left asked (ending asked many) trees) bytes (h.0 trees s) (λ text e. texts_left asked (ending asked many) trees text e)

left_by_answer : (read : Lines) (asked : TreeFormat) (many : Bool) (answer : RelayVerdict) (bytes : List ℕ) → IsOfLines read asked many answer → IsLeftByLines asked many read bytes → MayBeLeft answer bytes
left_by_answer (Bad n) asked many answer bytes v h = subst (λ x. MayBeLeft x bytes) (sym v) h
left_by_answer (Good calls) asked many answer bytes v h = left_by_calls bytes v h

pub left_by_verdict : (script bytes : List ℕ) (asked : TreeFormat) (many : Bool) → IsLeft asked many script bytes
    → ((text : List ℕ) → IsVerdictOn (Text text) script asked many → bytes ≡ text) × ((written : List ℕ) → IsVerdictOn (Key written) script asked many → bytes ≡ written)
    × ((written : List ℕ) → IsVerdictOn (Number written) script asked many → bytes ≡ written) × ((n : ℕ) → IsVerdictOn (BadLine n) script asked many → bytes ≡ [])
    × ((n : ℕ) → IsVerdictOn (BadCall n) script asked many → bytes ≡ []) × (IsVerdictOn Unfinished script asked many → bytes ≡ [])
left_by_verdict script bytes asked many h = (
  λ text v. left_by_answer (lines script) asked many (Text text) bytes v h,
  λ written v. left_by_answer (lines script) asked many (Key written) bytes v h,
  λ written v. left_by_answer (lines script) asked many (Number written) bytes v h,
  λ n v. left_by_answer (lines script) asked many (BadLine n) bytes v h,
  λ n v. left_by_answer (lines script) asked many (BadCall n) bytes v h,
  λ v. left_by_answer (lines script) asked many Unfinished bytes v h,
)

-- ---- and what the writer writes for any spelling

left_of_json : (json : Result Json Refusal) (done other : Outcome) → IsWrittenAs json done → done ≡ other
    → with_text (map_ok compact json) [] [] other.written ≡ done.written
left_of_json (Ok json) done other w e = append-nil (compact json) ∙ sym w.0
left_of_json (Err why) done other w e = sym (ap (λ (o : Outcome). o.written) e)

pub left_is_written : (style : Variants) (calls : List Call) (tree : Tree) → Spells calls tree → left (JsonIn style) [] (tree ∷ []) ≡ (written_in style calls).written
left_is_written style calls tree s =
    left_of_json (json_in style tree) (written_in style calls) (written_in style (calls_of tree)) (spelling_written style calls tree s)
    (written_once style calls (calls_of tree) tree s (calls_of-spells tree s.0))

-- ---- tree by tree

slice_left : (json : Result Json Refusal) (done other : Outcome) (end later trees_later : List ℕ) → IsWrittenAs json done → done ≡ other → later ≡ trees_later
    → with_rest done.refusal done.written end later ≡ with_text (map_ok compact json) end trees_later other.written
slice_left (Ok json) done other end later trees_later w e h =
    ap (λ r. with_rest r done.written end later) w.1 ∙ ap (λ x. x ++ (end ++ later)) w.0 ∙ ap (λ x. compact json ++ (end ++ x)) h
slice_left (Err why) done other end later trees_later w e h = ap (λ r. with_rest r done.written end later) w ∙ ap (λ (o : Outcome). o.written) e

slices_left : (style : Variants) (trees : List Tree) (from : ℕ) (ends : List ℕ) (calls : List Call) (end : List ℕ) → SlicesSpell from ends calls trees
    → written_slices style end from ends calls ≡ left (JsonIn style) end trees
slices_left style [] from [] calls end s = refl
slices_left style [] from (to ∷ ends) calls end s = absurd s
slices_left style (tree ∷ trees) from [] calls end s = absurd s
slices_left style (tree ∷ trees) from (to ∷ ends) calls end s =
    slice_left (json_in style tree) (written_in style (slice from to calls)) (written_in style (calls_of tree)) end (written_slices style end to ends calls) (left (JsonIn style) end trees)
    (spelling_written style (slice from to calls) tree s.0) (written_once style (slice from to calls) (calls_of tree) tree s.0 (calls_of-spells tree s.0.0))
    (slices_left style trees to ends calls end s.1)

pub slices_leave_trees : (style : Variants) (calls : List Call) (trees : List Tree) (ends end : List ℕ) → AreEnds calls trees ends
    → written_slices style end 0 ends calls ≡ left (JsonIn style) end trees
slices_leave_trees style calls trees ends end h = slices_left style trees 0 ends calls end (ends_cut_trees calls trees ends h)
