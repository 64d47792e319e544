-- Each script has one verdict, where one value and where many values may come.
use Rattle.std.specs.Prelude.{◌≡◌, ℕ, ◌+◌, ◌<◌, ◌⊎◌, Bool, true, false, List, [], ◌∷◌, ◌++◌, length, Result, Ok, Err, refl}
use Rattle.std.proofs.Common.{sym, ap, ◌∙◌, subst, inl, inr, append-nil, arith}
use Rattle.sval_label.specs.Calls.{Call}
use Rattle.sval_core.specs.Trees.{Tree}
use Rattle.sval_core.specs.Spells.{Spells, plain}
use Rattle.sval_core.specs.Checker.{Frame, Runs}
use Rattle.sval_core.specs.ManyChecker.{RunsAll, Progress}
use Rattle.sval_core.proofs.Completions.{viable_is_taken, taken_is_viable, spelling_is_run, run_is_spelling}
use Rattle.sval_core.proofs.Spellings.{spells_one, spelling_is_viable}
use Rattle.sval_core.proofs.FirstBad.{one_first_bad, none_bad}
use Rattle.sval_core.proofs.Determined.{runs_determined}
use Rattle.sval_core.proofs.Decided.{Ran, Stopped, scanned}
use Rattle.sval_core.proofs.ManySpellings.{one_list, list_spelling_is_viable}
use Rattle.sval_core.proofs.ManyTaken.{viable_list_is_taken, taken_list_is_viable, ends_with_trees, trees_end}
use Rattle.sval_core.proofs.ManyScanned.{RanAll, StoppedAll, scanned_all, one_first_bad_of_lists, none_bad_of_lists}
use Rattle.sval_json.specs.Json.{Json, compact}
use Rattle.sval_json.specs.Number.{Refusal, InvalidKey, InvalidNumber}
use Rattle.sval_json.specs.declared.style.Variants.{Variants}
use Rattle.sval_json.specs.declared.style.Variants.TheVariants.{Inside, Beside}
use Rattle.sval_json.specs.Shape.{json_in, on_ok, map_ok}
use Rattle.sval_script.specs.Lines.{Lines, Good, Bad, lines}
use Rattle.sval_script.specs.Canon.{canon, canon_all}
use Rattle.sval_relay.specs.declared.way.Task.{Task}
use Rattle.sval_relay.specs.Verdict.{RelayVerdict, BadLine, BadCall, Unfinished, Text, TreeFormat, JsonIn, Script, asked_in, texts, tree_written, with_text, left, text_verdict, trees_verdict, CanGoOn, SpellTrees, IsOfRelayCalls, bad_call, unfinished, whole, IsOfLines, IsVerdictOn, IsRelayVerdict, OnVerdict}
use Rattle.sval_relay.specs.Laws.{BothJsonWaysAgree, json_verdict}

-- ---- there is a verdict

-- calls have a first bad one, or are unfinished, or whole
pub data Found (many : Bool) (calls : List Call) : Type 0 where
  found_bad : (front : List Call) (call : Call) (rest : List Call) → calls ≡ front ++ (call ∷ rest) → CanGoOn many front → (CanGoOn many (front ++ (call ∷ [])) → ⊥) → Found many calls
  found_open : CanGoOn many calls → ((trees : List Tree) → SpellTrees many calls trees → ⊥) → Found many calls
  found_whole : (trees : List Tree) → SpellTrees many calls trees → Found many calls

one_by_state : (calls : List Call) (b : Bool) (fs : List Frame) → Runs false [] (plain calls) b fs → Found false calls
one_by_state calls true [] r = let s = run_is_spelling calls r in found_whole (s.0 ∷ []) (s.0, refl, s.1)
one_by_state calls true (f ∷ fs) r =
    found_open (taken_is_viable calls (true, (f ∷ fs), r)) (λ trees s. let e = runs_determined (plain calls) r (spelling_is_run calls s.0 s.2) in cc (e.1))
one_by_state calls false fs r =
    found_open (taken_is_viable calls (false, fs, r)) (λ trees s. let e = runs_determined (plain calls) r (spelling_is_run calls s.0 s.2) in cc (e.0))

one_by_scan : (calls : List Call) → Ran false [] calls ⊎ Stopped false [] calls → Found false calls
one_by_scan calls (inl r) = one_by_state calls r.0 r.1 r.2
one_by_scan calls (inr s) =
    found_bad s.front s.call s.rest s.whole (taken_is_viable s.front (s.filled, s.frames, s.runs)) (λ v. let k = viable_is_taken (s.front ++ (s.call ∷ [])) v in s.stops k.0 k.1 k.2)

many_by_state : (calls : List Call) (b : Bool) (fs : List Frame) (ends : List ℕ) → RunsAll 0 false [] calls ends b fs → Found true calls
many_by_state calls b [] ends r =
    let now : Progress = record { filled = b; frames = []; ends = ends } in
    let t = ends_with_trees calls now r refl in found_whole t.0 t.1
many_by_state calls b (f ∷ fs) ends r =
    let now : Progress = record { filled = b; frames = f ∷ fs; ends = ends } in
    found_open (taken_list_is_viable calls now r) (λ trees s. let e : (f ∷ fs) ≡ [] = trees_end calls now r trees s in cc e)

many_by_scan : (calls : List Call) → RanAll 0 false [] calls ⊎ StoppedAll 0 false [] calls → Found true calls
many_by_scan calls (inl r) = many_by_state calls r.0 r.1 r.2 r.3
many_by_scan calls (inr s) =
    let now : Progress = record { filled = s.filled; frames = s.frames; ends = s.ends } in
    found_bad s.front s.call s.rest s.whole (taken_list_is_viable s.front now s.runs)
    (λ v. let k = viable_list_is_taken (s.front ++ (s.call ∷ [])) v in s.stops k.0.ends k.0.filled k.0.frames k.1)

pub found : (many : Bool) (calls : List Call) → Found many calls
found false calls = one_by_scan calls (scanned calls false [])
found true calls = many_by_scan calls (scanned_all calls 0 false [])

of_found : (asked : TreeFormat) (many : Bool) (calls : List Call) → Found many calls → (answer : RelayVerdict) × IsOfRelayCalls calls asked many answer
of_found asked many calls (found_bad front call rest e v n) = (BadCall (length front + 1), bad_call front call rest e v n)
of_found asked many calls (found_open v n) = (Unfinished, unfinished v n)
of_found asked many calls (found_whole trees s) = (trees_verdict asked many trees, whole trees s)

some_verdict : (asked : TreeFormat) (many : Bool) (read : Lines) → (answer : RelayVerdict) × IsOfLines read asked many answer
some_verdict asked many (Bad n) = (BadLine n, refl)
some_verdict asked many (Good calls) = of_found asked many calls (found many calls)

-- ---- and no second one

one_front : (many : Bool) {calls : List Call} (front other : List Call) (call next : Call) (rest last : List Call) → calls ≡ front ++ (call ∷ rest) → calls ≡ other ++ (next ∷ last)
    → CanGoOn many front → (CanGoOn many (front ++ (call ∷ [])) → ⊥) → CanGoOn many other → (CanGoOn many (other ++ (next ∷ [])) → ⊥) → front ≡ other
one_front false front other call next rest last e f v n w m = one_first_bad front other call next rest last e f v n w m
one_front true front other call next rest last e f v n w m = one_first_bad_of_lists front other call next rest last e f v n w m

not_bad : (many : Bool) (calls front rest : List Call) (call : Call) → calls ≡ front ++ (call ∷ rest) → CanGoOn many calls → (CanGoOn many (front ++ (call ∷ [])) → ⊥) → ⊥
not_bad false calls front rest call e v n = none_bad calls front rest call e v n
not_bad true calls front rest call e v n = none_bad_of_lists calls front rest call e v n

goes_on : (many : Bool) (calls : List Call) (trees : List Tree) → SpellTrees many calls trees → CanGoOn many calls
goes_on false calls trees s = spelling_is_viable calls s.0 s.2
goes_on true calls trees s = list_spelling_is_viable calls trees s

pub one_spelled : (many : Bool) (calls : List Call) (trees others : List Tree) → SpellTrees many calls trees → SpellTrees many calls others → trees ≡ others
one_spelled false calls trees others s t = s.1 ∙ ap (λ x. x ∷ []) (spells_one calls s.0 t.0 s.2 t.2) ∙ sym t.1
one_spelled true calls trees others s t = one_list calls trees others s t

-- calls with a bad one spell no trees
pub not_whole : (many : Bool) (calls front rest : List Call) (call : Call) → calls ≡ front ++ (call ∷ rest) → (CanGoOn many (front ++ (call ∷ [])) → ⊥) → (trees : List Tree) → SpellTrees many calls trees → ⊥
not_whole many calls front rest call e n trees s = not_bad many calls front rest call e (goes_on many calls trees s) n

one_of_calls : {calls : List Call} {asked : TreeFormat} {many : Bool} {answer other : RelayVerdict} → IsOfRelayCalls calls asked many answer → IsOfRelayCalls calls asked many other → answer ≡ other
one_of_calls {many = many} (bad_call front call rest e v n) (bad_call other next last f w m) = ap (λ x. BadCall (length x + 1)) (one_front many front other call next rest last e f v n w m)
one_of_calls {calls} {many = many} (bad_call front call rest e v n) (unfinished w u) = absurd (not_bad many calls front rest call e w n)
one_of_calls {calls} {many = many} (bad_call front call rest e v n) (whole trees s) = absurd (not_bad many calls front rest call e (goes_on many calls trees s) n)
one_of_calls {calls} {many = many} (unfinished w u) (bad_call front call rest e v n) = absurd (not_bad many calls front rest call e w n)
one_of_calls (unfinished w u) (unfinished w' u') = refl
one_of_calls (unfinished w u) (whole trees s) = absurd (u trees s)
one_of_calls {calls} {many = many} (whole trees s) (bad_call front call rest e v n) = absurd (not_bad many calls front rest call e (goes_on many calls trees s) n)
one_of_calls (whole trees s) (unfinished w u) = absurd (u trees s)
one_of_calls {calls} {asked} {many} (whole trees s) (whole others t) = ap (trees_verdict asked many) (one_spelled many calls trees others s t)

pub one_of_lines : (read : Lines) (asked : TreeFormat) (many : Bool) (answer other : RelayVerdict) → IsOfLines read asked many answer → IsOfLines read asked many other → answer ≡ other
one_of_lines (Bad n) asked many answer other e f = e ∙ sym f
one_of_lines (Good calls) asked many answer other i j = one_of_calls i j

pub one_verdict : (script : List ℕ) (asked : TreeFormat) (many : Bool)
    → (answer : RelayVerdict) × IsVerdictOn answer script asked many × ((other : RelayVerdict) → IsVerdictOn other script asked many → answer ≡ other)
one_verdict script asked many =
    let found = some_verdict asked many (lines script) in (found.0, found.1, λ other v. one_of_lines (lines script) asked many found.0 other found.1 v)

-- what holds of the verdict found holds of each
pub of_each : (script : List ℕ) (task : Task) (found : RelayVerdict) (P : RelayVerdict → Type 0) → IsRelayVerdict found script task → P found → OnVerdict P script task
of_each script task found P v p answer w = subst P (one_of_lines (lines script) (asked_in task.way) task.many found answer v w) p

pub both_json_ways_agree : BothJsonWaysAgree
both_json_ways_agree = (
  λ script many answer other v w. one_of_lines (lines script) (JsonIn Inside) many answer other v w,
  λ script many answer other v w. one_of_lines (lines script) (JsonIn Beside) many answer other v w,
)

-- ---- one value's JSON

one_json : (json : Result Json Refusal) (written : List ℕ)
    → text_verdict (on_ok (map_ok compact json) (λ text. map_ok (λ more. text ++ ([] ++ more)) (Ok []))) (with_text (map_ok compact json) [] [] written) ≡ json_verdict json written
one_json (Ok json) written = ap Text (append-nil (compact json))
one_json (Err InvalidKey) written = refl
one_json (Err InvalidNumber) written = refl

pub verdict_bad_line : (script : List ℕ) (task : Task) (n : ℕ) → lines script ≡ Bad n → IsRelayVerdict (BadLine n) script task
verdict_bad_line script task n e = subst (λ found. IsOfLines found (asked_in task.way) task.many (BadLine n)) (sym e) refl

verdict_of_calls : (script : List ℕ) (task : Task) (calls : List Call) (answer : RelayVerdict) → lines script ≡ Good calls → IsOfRelayCalls calls (asked_in task.way) task.many answer → IsRelayVerdict answer script task
verdict_of_calls script task calls answer e v = subst (λ found. IsOfLines found (asked_in task.way) task.many answer) (sym e) v

pub verdict_bad_call : (script : List ℕ) (task : Task) (front rest : List Call) (call : Call) → lines script ≡ Good (front ++ (call ∷ rest)) → CanGoOn task.many front
    → (CanGoOn task.many (front ++ (call ∷ [])) → ⊥) → IsRelayVerdict (BadCall (length front + 1)) script task
verdict_bad_call script task front rest call e v n = verdict_of_calls script task _ _ e (bad_call front call rest refl v n)

pub verdict_unfinished : (script : List ℕ) (task : Task) (calls : List Call) → lines script ≡ Good calls → CanGoOn task.many calls → ((trees : List Tree) → SpellTrees task.many calls trees → ⊥)
    → IsRelayVerdict Unfinished script task
verdict_unfinished script task calls e viable none = verdict_of_calls script task calls Unfinished e (unfinished viable none)

pub verdict_trees : (script : List ℕ) (task : Task) (calls : List Call) (trees : List Tree) → lines script ≡ Good calls → SpellTrees task.many calls trees
    → IsRelayVerdict (trees_verdict (asked_in task.way) task.many trees) script task
verdict_trees script task calls trees e s = verdict_of_calls script task calls _ e (whole trees s)

pub verdict_in : (script : List ℕ) (style : Variants) (calls : List Call) (tree : Tree) → lines script ≡ Good calls → Spells calls tree
    → IsVerdictOn (json_verdict (json_in style tree) (tree_written (JsonIn style) tree)) script (JsonIn style) false
verdict_in script style calls tree e spells =
    subst (λ answer. IsVerdictOn answer script (JsonIn style) false) (one_json (json_in style tree) (tree_written (JsonIn style) tree))
    (subst (λ found. IsOfLines found (JsonIn style) false (trees_verdict (JsonIn style) false (tree ∷ []))) (sym e) (whole (tree ∷ []) (tree, refl, spells)))

-- ---- a script with some line

-- one with some call has a line
pub has_a_call : (script : List ℕ) (calls : List Call) → lines script ≡ Good calls → 0 < length calls → 0 < length script
unfolding lines
has_a_call [] calls e some = let none : [] ≡ calls = let both : Good [] ≡ Good calls = e in cc both in absurd (omega (arith, some, ap length none))
has_a_call (byte ∷ bytes) calls e some = omega arith

-- ---- scripts

script_texts : (trees : List Tree) → texts Script [] trees ≡ Ok (canon_all trees)
script_texts [] = refl
script_texts (t ∷ ts) = ap (map_ok (λ more. canon t ++ more)) (script_texts ts)

pub scripts_are_canonical : (many : Bool) (trees : List Tree) → trees_verdict Script many trees ≡ Text (canon_all trees)
scripts_are_canonical many trees = ap (λ found. text_verdict found (left Script [] trees)) (script_texts trees)
