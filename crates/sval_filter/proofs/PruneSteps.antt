-- What a value streamed through a filter leaves, and what a buffer behind it replays.
use Rattle.std.specs.Prelude.{◌≡◌, ℕ, false, List, [], ◌∷◌, Option, None, refl}
use Rattle.std.proofs.Common.{sym, ap, subst, ◌∙◌}
use Rattle.sval_label.specs.Calls.{Call}
use Rattle.sval_core.specs.Trees.{Tree}
use Rattle.sval_core.specs.Spells.{Spells}
use Rattle.sval_core.specs.Law.{Law, Standing, Emission, Ran, Streams}
use Rattle.sval_core.specs.Values.{makes}
use Rattle.sval_buffer.specs.Forest.{replayed}
use Rattle.sval_buffer.specs.Capture.{Capture, no_calls, capture_law, capture_standing}
use Rattle.sval_buffer.proofs.Collecting.{collected, keeps_tree}
use Rattle.sval_filter.specs.Paths.{Path, Rule}
use Rattle.sval_core.specs.Checker.{State}
use Rattle.sval_core.specs.CheckerSteps.{unfilled}
use Rattle.sval_filter.specs.Pruned.{pruned}
use Rattle.sval_filter.specs.Filtering.{Filtering, fresh}
use Rattle.sval_filter.specs.FilterLaw.{Why, new_filter, Took, none, takes, Ruled, ruled_law, ruled_standing}
use Rattle.sval_filter.proofs.Filtered.{inner_takes_pruned}

-- calls that were all taken
took : {V : Type 0} (law : Law V) (calls : List Call) (first last : Ruled V) → Ran (ruled_law law) first calls last → Took law first.rule first.paths first.view calls last.view
took law [] first last ran = subst (λ (r : Ruled _). Took law first.rule first.paths first.view [] r.view) (sym ran) none
took law (call ∷ calls) first last ran = takes ran.0 (took law calls ((ruled_law law).after first call) last ran.1)

-- a new filter that takes a value passes on what is left of the tree
pub left_inside : {V : Type 0} (law : Law V) (e : Emission) (tree : Tree) (rule : Rule) (paths : List Path) (first last : Ruled V) (inner now : Standing V)
    → first ≡ record { rule = rule; paths = paths; view = new_filter inner } → now ≡ last.view.inner
    → Streams (ruled_law law) (ruled_standing first) e (ruled_standing last) → Spells e.calls tree
    → (e.refuses ≡ false) × ((taken : List Call) × Streams law inner (makes taken) now × Spells taken (pruned rule paths tree))
left_inside {V} law e tree rule paths first last inner now new is s spells =
    let all = subst (λ (r : Ruled V). Took law r.rule r.paths r.view e.calls last.view) new (took law e.calls first last s.ran) in
    let t = inner_takes_pruned law rule paths e.calls tree inner last.view spells all in
    (s.willing, (t.0, subst (λ (x : Standing V). Streams law inner (makes t.0) x) (sym is) t.1, t.2))

-- a buffer that took calls which spell a tree replays as it
pub replays_left : (taken : List Call) (tree : Tree) (buffer old : Capture) → old ≡ no_calls 0 → Streams capture_law (capture_standing old) (makes taken) (capture_standing buffer)
    → Spells taken tree → Spells (replayed buffer.forest) tree
replays_left taken tree buffer old new s spells =
    let held = collected (makes taken) (no_calls 0) buffer refl (subst (λ (c : Capture). Streams capture_law (capture_standing c) (makes taken) (capture_standing buffer)) new s) in
    (keeps_tree (makes taken) buffer.forest held.taken tree spells).spells

-- a new filter, by what its parts are
pub new_ruled : {V : Type 0} (filter : Ruled V) (rule : Rule) (paths : List Path) (inner : Standing V) → filter.rule ≡ rule → filter.paths ≡ paths → filter.view.state ≡ unfilled [] → filter.view.kept ≡ fresh
    → filter.view.inner ≡ inner → filter.view.why ≡ None → filter.view.wants ≡ 0 → filter ≡ record { rule = rule; paths = paths; view = new_filter inner }
new_ruled {V} filter rule paths inner r p s k i w n =
    ap (λ x. made x filter.paths filter.view.state filter.view.kept filter.view.inner filter.view.why filter.view.wants) r
    ∙ ap (λ x. made rule x filter.view.state filter.view.kept filter.view.inner filter.view.why filter.view.wants) p
    ∙ ap (λ x. made rule paths x filter.view.kept filter.view.inner filter.view.why filter.view.wants) s
    ∙ ap (λ x. made rule paths (unfilled []) x filter.view.inner filter.view.why filter.view.wants) k
    ∙ ap (λ x. made rule paths (unfilled []) fresh x filter.view.why filter.view.wants) i
    ∙ ap (λ x. made rule paths (unfilled []) fresh inner x filter.view.wants) w
    ∙ ap (λ x. made rule paths (unfilled []) fresh inner None x) n
  where
    made : Rule → List Path → State → Filtering → Standing V → Option Why → ℕ → Ruled V
    made rule paths state kept inner why wants = record { rule = rule; paths = paths; view = record { state = state; kept = kept; inner = inner; why = why; wants = wants } }
