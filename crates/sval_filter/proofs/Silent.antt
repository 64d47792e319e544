-- Inside a key, and inside what is left out, nothing is passed on of the calls of a tree.
use Rattle.std.specs.Prelude.{◌≡◌, ℕ, ◌+◌, Bool, true, false, List, [], ◌∷◌, ◌++◌, map, Option, Some, None, refl}
use Rattle.std.proofs.Common.{sym, ap, ◌∙◌, subst}
use Rattle.sval_label.specs.Calls.{Call, Slot}
use Rattle.sval_core.specs.Law.{computed}
use Rattle.sval_core.specs.Trees.{next_kind, plain_slot}
use Rattle.sval_core.specs.Spells.{plain, plain_call, bare_slot}
use Rattle.sval_core.specs.Checker.{Frame, InContainer, InPart, Steps, null, truth, int, standalone, text_begin, text_fragment, text_end, binary_begin, binary_fragment, binary_end, tagged_begin, tagged_end, enum_begin, enum_end, begin, end, part_begin, part_end, Runs, done}
use Rattle.sval_core.proofs.ManyRuns.{plain_none, plain_some}
use Rattle.sval_buffer.specs.Forest.{Forest, empty_forest, CaptureAnswer, Becomes, Rejects, take, forest_from, forest, Holds, RefusedAt}
use Rattle.sval_buffer.specs.Capture.{forest_by}
use Rattle.sval_filter.specs.Paths.{Path, Rule, Fate, LeftOut, Stays, Within}
use Rattle.sval_filter.specs.Filtering.{with_entry, hint_due, Mode, Holding, By, Layer, layer, mode_in, entry_in, passed, without_size, held_after, layers_after, mode_of_part, due_at_end, kept_after_end, kept_after_in, kept_after, due_in, due, all_due}
use Rattle.sval_filter.proofs.Turns.{at, is_part, part_plain, layers_plain, after_other, due_other, after_hint, due_hint}
use Rattle.sval_core.proofs.Determined.{first_step}

-- nothing is passed on where calls are treated so
pub data Silent : Mode → Type 0 where
  holding : Silent Holding
  left_out : Silent (By LeftOut)

-- a layer for each frame
abbrev pub above : Mode → List Frame → List Layer → List Layer
above m [] base = base
above m (frame ∷ frames) base = layer m ∷ above m frames base

-- the key that is held after these calls
abbrev pub held_all : Mode → Forest → List Call → Forest
held_all m held [] = held
held_all m held (call ∷ calls) = held_all m (held_after m held call) calls

passed_none : (m : Mode) → Silent m → (calls : List Call) → passed m calls ≡ []
passed_none Holding holding calls = refl
passed_none (By LeftOut) left_out calls = refl
passed_none (By Stays) s calls = elim s [ ]
passed_none (By (Within paths)) s calls = elim s [ ]

hint_none : (m : Mode) → Silent m → (entry : Fate) (c : Call) → hint_due m entry c ≡ []
hint_none m s LeftOut c = refl
hint_none m s Stays c = passed_none m s (c ∷ [])
hint_none m s (Within rests) c = passed_none m s (c ∷ [])

part_silent : (rule : Rule) (m : Mode) → Silent m → (entry : Fate) (slot : Slot) → mode_of_part rule m entry slot ≡ m
part_silent rule Holding holding entry slot = refl
part_silent rule (By LeftOut) left_out entry slot = refl
part_silent rule (By Stays) s entry slot = elim s [ ]
part_silent rule (By (Within paths)) s entry slot = elim s [ ]

end_silent : (rule : Rule) (m : Mode) → Silent m → (layers : List Layer) (held : Forest) (slot : Slot) → kept_after_end rule m m layers held slot ≡ at (with_entry Stays layers) (held_after m held (Call.PartEnd slot))
end_silent rule Holding holding layers held slot = refl
end_silent rule (By LeftOut) left_out layers held slot = refl
end_silent rule (By Stays) s layers held slot = elim s [ ]
end_silent rule (By (Within paths)) s layers held slot = elim s [ ]

end_passes_none : (rule : Rule) (m : Mode) → Silent m → (held : Forest) (slot : Slot) → due_at_end rule m m held slot ≡ []
end_passes_none rule Holding holding held slot = refl
end_passes_none rule (By LeftOut) left_out held slot = refl
end_passes_none rule (By Stays) s held slot = elim s [ ]
end_passes_none rule (By (Within paths)) s held slot = elim s [ ]

mode_above : (paths : List Path) (m : Mode) (fs : List Frame) (base : List Layer) → mode_in paths base ≡ m → mode_in paths (above m fs base) ≡ m
mode_above paths m [] base e = e
mode_above paths m (f ∷ fs) base e = refl

entry_above : (m : Mode) (fs : List Frame) (base : List Layer) → with_entry Stays base ≡ base → with_entry Stays (above m fs base) ≡ above m fs base
entry_above m [] base e = e
entry_above m (f ∷ fs) base e = refl

-- the frames after a call are layered as the frames before it
layered : {b : Bool} {fs : List Frame} {p : Call} {b' : Bool} {fs' : List Frame} (m : Mode) (base : List Layer) → Steps b fs p b' fs' → is_part p ≡ false
    → layers_after m (above m fs base) p ≡ above m fs' base
layered m base (null _) e = refl
layered m base (truth _) e = refl
layered m base (int _) e = refl
layered m base (standalone _ _) e = refl
layered m base (text_begin _) e = refl
layered m base (text_fragment _) e = refl
layered m base (text_end _) e = refl
layered m base (binary_begin _) e = refl
layered m base (binary_fragment _) e = refl
layered m base (binary_end _) e = refl
layered m base (tagged_begin _ _) e = refl
layered m base (tagged_end _) e = refl
layered m base (enum_begin _ _) e = refl
layered m base (enum_end _) e = refl
layered m base (begin _ _) e = refl
layered m base (end _ _ _) e = refl
layered m base (part_begin _ _ _) e = cc e
layered m base (part_end _) e = cc e

pub part_begin_is : (c : Call) (s : Slot) → plain_call c ≡ Some (Call.PartBegin s) → (slot : Slot) × (c ≡ Call.PartBegin slot) × (plain_slot slot ≡ s)
part_begin_is (Call.PartBegin slot) s e = let f : plain_slot slot ≡ s = cc e in (slot, refl, f)
part_begin_is c s e = cc e

pub part_end_is : (c : Call) (s : Slot) → plain_call c ≡ Some (Call.PartEnd s) → (slot : Slot) × (c ≡ Call.PartEnd slot) × (bare_slot slot ≡ s)
part_end_is (Call.PartEnd slot) s e = let f : bare_slot slot ≡ s = cc e in (slot, refl, f)
part_end_is c s e = cc e

module _ (rule : Rule) (paths : List Path) (m : Mode) (silent : Silent m) (base : List Layer) (is : mode_in paths base ≡ m) (no_entry : with_entry Stays base ≡ base) where
  -- after a call there are the layers of the frames after it, and nothing was passed on
  abbrev Quiet : List Frame → List Frame → Forest → Call → Type 0
  Quiet fs fs' h c = (kept_after rule paths (at (above m fs base) h) c ≡ at (above m fs' base) (held_after m h c)) × (due rule paths (at (above m fs base) h) c ≡ [])

  quiet_other : {b b' : Bool} (fs fs' : List Frame) (h : Forest) (c p : Call) → plain_call c ≡ Some p → Steps b fs p b' fs' → is_part p ≡ false → Quiet fs fs' h c
  quiet_other fs fs' h c p e s other =
      let here = mode_above paths m fs base is in
      let no_part : is_part c ≡ false = part_plain c p e ∙ other in (
        ap (λ x. kept_after_in rule paths x (above m fs base) h c) here ∙ after_other rule paths m (above m fs base) h c no_part
            ∙ ap (λ x. at x (held_after m h c)) (layers_plain m (above m fs base) c p e ∙ layered m base s other),
        ap (λ x. due_in rule paths x (above m fs base) h c) here ∙ due_other rule paths m (above m fs base) h c p e no_part ∙ passed_none m silent (without_size c ∷ []),
      )

  quiet_begin : (fs gs hs : List Frame) (h : Forest) (slot : Slot) (f g i : Frame) → fs ≡ f ∷ hs → gs ≡ g ∷ i ∷ hs → Quiet fs gs h (Call.PartBegin slot)
  quiet_begin fs gs hs h slot f g i e k =
      let here = mode_above paths m fs base is in
      let inner = part_silent rule m silent (entry_in (above m fs base)) slot in
      let same : layer m ∷ above m fs base ≡ above m gs base = ap (λ x. layer m ∷ above m x base) e ∙ sym (ap (λ x. above m x base) k) in (
        ap (λ x. kept_after_in rule paths x (above m fs base) h (Call.PartBegin slot)) here
            ∙ ap (λ x. at (layer x ∷ above m fs base) (held_after m h (Call.PartBegin slot))) inner ∙ ap (λ x. at x (held_after m h (Call.PartBegin slot))) same,
        ap (λ x. due_in rule paths x (above m fs base) h (Call.PartBegin slot)) here ∙ ap (λ x. passed x (Call.PartBegin slot ∷ [])) inner ∙ passed_none m silent (Call.PartBegin slot ∷ []),
      )

  quiet_end : (f : Frame) (fs : List Frame) (h : Forest) (slot : Slot) → Quiet (f ∷ fs) fs h (Call.PartEnd slot)
  quiet_end f fs h slot =
      let below = mode_above paths m fs base is in (
        ap (λ x. kept_after_end rule m x (above m fs base) h slot) below ∙ end_silent rule m silent (above m fs base) h slot
            ∙ ap (λ x. at x (held_after m h (Call.PartEnd slot))) (entry_above m fs base no_entry),
        ap (λ x. due_at_end rule m x h slot) below ∙ end_passes_none rule m silent h slot,
      )

  quiet_part : {b b' : Bool} {fs fs' : List Frame} {p : Call} (h : Forest) (c : Call) → plain_call c ≡ Some p → Steps b fs p b' fs' → is_part p ≡ true → Quiet fs fs' h c
  quiet_part h c e (part_begin {fs} {head} {kind} {left} {rest} {slot} g o t) k =
      let i = part_begin_is c slot e in
      subst (λ x. Quiet (InContainer head kind left ∷ fs) (InPart slot ∷ InContainer head (next_kind kind) rest ∷ fs) h x) (sym i.1)
      (quiet_begin (InContainer head kind left ∷ fs) (InPart slot ∷ InContainer head (next_kind kind) rest ∷ fs) fs h i.0 (InContainer head kind left) (InPart slot) (InContainer head (next_kind kind) rest) refl refl)
  quiet_part h c e (part_end {fs} {slot} {ended} g) k =
      let i = part_end_is c ended e in subst (λ x. Quiet (InPart slot ∷ fs) fs h x) (sym i.1) (quiet_end (InPart slot) fs h i.0)
  quiet_part h c e s k = cc k

  quiet : {b b' : Bool} (fs fs' : List Frame) (h : Forest) (c p : Call) → plain_call c ≡ Some p → Steps b fs p b' fs' → Quiet fs fs' h c
  quiet fs fs' h c p e s = by_part (is_part p) refl
    where
      by_part : (part : Bool) → is_part p ≡ part → Quiet fs fs' h c
      by_part true k = quiet_part h c e s k
      by_part false k = quiet_other fs fs' h c p e s k

  -- ---- calls that the machine takes

  taken_silently : (raw : List Call) (fs gs : List Frame) (h held : Forest) (c : Call) → kept_after rule paths (at (above m fs base) h) c ≡ at (above m gs base) held
      → due rule paths (at (above m fs base) h) c ≡ []
      → all_due rule paths (at (above m fs base) h) (c ∷ raw) ≡ all_due rule paths (at (above m gs base) held) raw
  taken_silently raw fs gs h held c e d =
      ap (λ x. x ++ all_due rule paths (kept_after rule paths (at (above m fs base) h) c) raw) d ∙ ap (λ x. all_due rule paths x raw) e

  pub silent_run : (calls : List Call) {b b' : Bool} {fs fs' : List Frame} (h : Forest) (raw : List Call) → Runs b fs (plain calls) b' fs'
      → all_due rule paths (at (above m fs base) h) (calls ++ raw) ≡ all_due rule paths (at (above m fs' base) (held_all m h calls)) raw
  silent_run [] h raw done = refl
  silent_run (c ∷ calls) {b} {b'} {fs} {fs'} h raw r = by_call (λ n gs hs q. silent_run calls {b = n} {fs = gs} hs raw q) (plain_call c) refl
    where
      by_call : ((n : Bool) (gs : List Frame) (hs : Forest) → Runs n gs (plain calls) b' fs'
          → all_due rule paths (at (above m gs base) hs) (calls ++ raw) ≡ all_due rule paths (at (above m fs' base) (held_all m hs calls)) raw)
          → (o : Option Call) → plain_call c ≡ o
          → all_due rule paths (at (above m fs base) h) (c ∷ (calls ++ raw)) ≡ all_due rule paths (at (above m fs' base) (held_all m (held_after m h c) calls)) raw
      by_call next None e =
          let here = mode_above paths m fs base is in
          taken_silently (calls ++ raw) fs fs h (held_after m h c) c (after_hint rule paths m (above m fs base) h c e here)
          (due_hint rule paths m (above m fs base) h c e here ∙ hint_none m silent (entry_in (above m fs base)) c)
          ∙ next b fs (held_after m h c) (subst (λ x. Runs b fs x b' fs') (plain_none c calls e) r)
      by_call next (Some p) e =
          let s = first_step (subst (λ x. Runs b fs x b' fs') (plain_some c p calls e) r) in
          let q = quiet fs s.1 h c p e s.2 in
          taken_silently (calls ++ raw) fs s.1 h (held_after m h c) c q.0 q.1 ∙ next s.0 s.1 (held_after m h c) s.3

-- ---- the key that is held is what was captured

holds_that : (held g : Forest) (calls : List Call) (n : ℕ) → forest_from held n (map computed calls) ≡ Holds g → held_all Holding held calls ≡ g
unfolding forest_from
holds_that held g [] n e = let same : held ≡ g = cc e in same
holds_that held g (c ∷ calls) n e = by_answer (λ f k. holds_that f g calls (n + 1) k) (take held (computed c)) e
  where
    by_answer : ((f : Forest) → forest_from f (n + 1) (map computed calls) ≡ Holds g → held_all Holding f calls ≡ g) → (answer : CaptureAnswer)
        → elim answer [ Becomes f ↦ forest_from f (n + 1) (map computed calls) | Rejects misfit ↦ RefusedAt n misfit ] ≡ Holds g → held_all Holding (forest_by answer held) calls ≡ g
    by_answer next (Becomes f) k = next f k
    by_answer next (Rejects misfit) k = cc k

pub held_is : (calls : List Call) (g : Forest) → forest (map computed calls) ≡ Holds g → held_all Holding empty_forest calls ≡ g
held_is calls g e = holds_that empty_forest g calls 1 e
