-- A sieve's step, by kind of call.
use Rattle.std.specs.Prelude.{◌≡◌, ℕ, Bool, true, false, not, ◌&&◌, ◌||◌, List, [], ◌∷◌, is_some, Result, Ok, Err, refl}
use Rattle.std.proofs.Common.{sym, ap, subst}
use Rattle.sval_label.specs.Calls as calls
use Rattle.sval_label.specs.Calls.{Call, Head, Slot}
use Rattle.std.specs.Borrow.{Bor}
use Rattle.sval_label.specs.Grouped.{text_call, binary_call}
use Rattle.sval_label.specs.declared.grouped.Fragment.{Fragment}
use Rattle.sval_label.specs.declared.grouped.Fragment.TheVariants.{Borrowed, Computed}
use Rattle.sval_core.specs.Law.{Law}
use Rattle.sval_core.specs.Stacks.{below}
use Rattle.sval_buffer.specs.Forest.{Forest, empty_forest}
use Rattle.sval_filter.specs.Paths as path
use Rattle.sval_filter.specs.Paths.{Path, Rule, Fate}
use Rattle.sval_filter.specs.Filtering.{Filtering, Mode, Holding, By, layer, mode_in, entry_in, with_entry, mode_of_part, passed, hint_due, without_size, held_after, held_label, key_may_grow, label_may_grow, due_at_end, kept_after_end, key_due, fate_in, may_take_memory}
use Rattle.sval_filter.specs.SeenLayers.{is_holding, entry_by}
use Rattle.sval_filter.specs.Sieves.{SieveView, Moves, due_at, next_kept, key_and_end}
use Rattle.sval_filter.specs.declared.sieve.Hindrance.{Hindrance}
use Rattle.sval_filter.specs.declared.sieve.Hindrance.TheVariants.{NoMemory, Inside}

-- what may take memory for one cause may take it for that or another one
for_either : {V : Type 0} (law : Law V) (old new : SieveView V) (due : List Call) (after : Filtering) (one other : Bool) (result : Result (Unit {0}) Hindrance)
    → Moves law old due after one result new → Moves law old due after (one || other) result new
for_either law old new due after one other (Ok done) m = m
for_either law old new due after one other (Err NoMemory) m = (ap (λ b. b || other) m.0, m.1)
for_either law old new due after one other (Err Inside) m = m

-- the call begins and ends nothing, and is no hint
abbrev pub is_single : Call → Bool
is_single calls.Null = true
is_single (calls.Truth value) = true
is_single (calls.Int type number) = true
is_single (calls.Standalone name) = true
is_single (calls.TextFragment borrowed bytes) = true
is_single (calls.BinaryFragment borrowed bytes) = true
is_single call = false

pub text_single : {T : Type 0} (text : T → List ℕ) (fragment : Fragment T (Bor (List ℕ))) → is_single (text_call text fragment) ≡ true
text_single text (Borrowed fragment) = refl
text_single text (Computed fragment) = refl

pub binary_single : {B : Type 0} (bytes : B → List ℕ) (fragment : Fragment B (Bor (List ℕ))) → is_single (binary_call bytes fragment) ≡ true
binary_single bytes (Borrowed fragment) = refl
binary_single bytes (Computed fragment) = refl

-- the call begins a value
abbrev pub is_begin : Call → Bool
is_begin (calls.TextBegin size) = true
is_begin (calls.BinaryBegin size) = true
is_begin (calls.EnumBegin name) = true
is_begin (calls.TaggedBegin name) = true
is_begin (calls.Begin head size) = true
is_begin call = false

-- the call begins a value that is no container
abbrev pub is_own_begin : Call → Bool
is_own_begin (calls.TextBegin size) = true
is_own_begin (calls.BinaryBegin size) = true
is_own_begin (calls.EnumBegin name) = true
is_own_begin (calls.TaggedBegin name) = true
is_own_begin call = false

-- the call ends a value
abbrev pub is_value_end : Call → Bool
is_value_end calls.TextEnd = true
is_value_end calls.BinaryEnd = true
is_value_end (calls.EnumEnd name) = true
is_value_end (calls.TaggedEnd name) = true
is_value_end (calls.End head) = true
is_value_end call = false

module _ {V : Type 0} (law : Law V) (old new : SieveView V) (result : Result (Unit {0}) Hindrance) where
  abbrev mode : Mode
  mode = mode_in old.paths old.kept.layers

  abbrev Steps : Call → Type 0
  Steps call = Moves law old (due_at old call) (next_kept old call) (may_take_memory old.paths old.kept call) result new

  abbrev held : Call → Forest
  held call = held_after mode old.kept.held call

  pub steps_single : (call : Call) → is_single call ≡ true
      → Moves law old (passed (mode_in old.paths old.kept.layers) (call ∷ [])) (record old.kept { held = held_after (mode_in old.paths old.kept.layers) old.kept.held call })
      (key_may_grow (mode_in old.paths old.kept.layers) old.kept.held call) result new
      → Moves law old (due_at old call) (next_kept old call) (may_take_memory old.paths old.kept call) result new
  steps_single calls.Null e m = m
  steps_single (calls.Truth value) e m = m
  steps_single (calls.Int type number) e m = m
  steps_single (calls.Standalone name) e m = m
  steps_single (calls.TextFragment borrowed bytes) e m = m
  steps_single (calls.BinaryFragment borrowed bytes) e m = m
  steps_single call e m = absurd (cc e)

  pub steps_hint : (call : Call) {tag : _} → call ≡ calls.TagHint tag
      → Moves law old (hint_due (mode_in old.paths old.kept.layers) (entry_in old.kept.layers) call) (record old.kept { held = held_after (mode_in old.paths old.kept.layers) old.kept.held call })
      (key_may_grow (mode_in old.paths old.kept.layers) old.kept.held call) result new
      → Moves law old (due_at old call) (next_kept old call) (may_take_memory old.paths old.kept call) result new
  steps_hint (calls.TagHint tag) e m = m
  steps_hint call e m = absurd (cc e)

  pub steps_begin : (call p : Call) → is_begin call ≡ true → p ≡ without_size call
      → Moves law old (passed (mode_in old.paths old.kept.layers) (p ∷ []))
      (record { layers = layer (mode_in old.paths old.kept.layers) ∷ old.kept.layers; held = held_after (mode_in old.paths old.kept.layers) old.kept.held call }) true result new
      → Moves law old (due_at old call) (next_kept old call) (may_take_memory old.paths old.kept call) result new
  steps_begin call p e is m = by_call call e (subst (λ (q : Call). Moves law old (passed mode (q ∷ [])) (record { layers = layer mode ∷ old.kept.layers; held = held call }) true result new) is m)
    where
      by_call : (call : Call) → is_begin call ≡ true → Moves law old (passed mode (without_size call ∷ [])) (record { layers = layer mode ∷ old.kept.layers; held = held call }) true result new
          → Steps call
      by_call (calls.TextBegin size) e m = m
      by_call (calls.BinaryBegin size) e m = m
      by_call (calls.EnumBegin name) e m = m
      by_call (calls.TaggedBegin name) e m = m
      by_call (calls.Begin head size) e m = m
      by_call call e m = absurd (cc e)

  pub steps_own_begin : (call : Call) → is_own_begin call ≡ true
      → Moves law old (passed (mode_in old.paths old.kept.layers) (call ∷ []))
      (record { layers = layer (mode_in old.paths old.kept.layers) ∷ old.kept.layers; held = held_after (mode_in old.paths old.kept.layers) old.kept.held call }) true result new
      → Moves law old (due_at old call) (next_kept old call) (may_take_memory old.paths old.kept call) result new
  steps_own_begin (calls.TextBegin size) e m = m
  steps_own_begin (calls.BinaryBegin size) e m = m
  steps_own_begin (calls.EnumBegin name) e m = m
  steps_own_begin (calls.TaggedBegin name) e m = m
  steps_own_begin call e m = absurd (cc e)

  pub steps_end : (call : Call) → is_value_end call ≡ true
      → Moves law old (passed (mode_in old.paths old.kept.layers) (call ∷ [])) (record { layers = below old.kept.layers; held = held_after (mode_in old.paths old.kept.layers) old.kept.held call })
      (key_may_grow (mode_in old.paths old.kept.layers) old.kept.held call) result new
      → Moves law old (due_at old call) (next_kept old call) (may_take_memory old.paths old.kept call) result new
  steps_end calls.TextEnd e m = m
  steps_end calls.BinaryEnd e m = m
  steps_end (calls.EnumEnd name) e m = m
  steps_end (calls.TaggedEnd name) e m = m
  steps_end (calls.End head) e m = m
  steps_end call e m = absurd (cc e)

  pub steps_part_begin : (call : Call) (slot : Slot) → call ≡ calls.PartBegin slot
      → Moves law old (passed (mode_of_part old.rule (mode_in old.paths old.kept.layers) (entry_in old.kept.layers) slot) (call ∷ []))
      (record { layers = layer (mode_of_part old.rule (mode_in old.paths old.kept.layers) (entry_in old.kept.layers) slot) ∷ old.kept.layers; held = held_after (mode_in old.paths old.kept.layers) old.kept.held call }) true result new
      → Moves law old (due_at old call) (next_kept old call) (may_take_memory old.paths old.kept call) result new
  steps_part_begin call slot e m =
      subst (λ (c : Call). Steps c) (sym e) (subst (λ (c : Call). Moves law old (passed (mode_of_part old.rule mode (entry_in old.kept.layers) slot) (c ∷ [])) (record { layers = layer (mode_of_part old.rule mode (entry_in old.kept.layers) slot) ∷ old.kept.layers; held = held c }) true result new) e m)

  -- a part's end, by how calls are treated in it and around it
  abbrev EndsBy : Mode → Mode → Slot → Type 0
  EndsBy inside around slot =
      Moves law old (due_at_end old.rule inside around old.kept.held slot) (kept_after_end old.rule inside around (below old.kept.layers) old.kept.held slot)
      (label_may_grow (calls.PartEnd slot) inside around old.kept.held || key_may_grow inside old.kept.held (calls.PartEnd slot)) result new

  -- the end of a key that is in no other key
  abbrev KeyEnds : Mode → Call → Type 0
  KeyEnds around end =
      Moves law old (key_and_end (entry_by old.rule around (held_label old.kept.held)) old.kept.held end)
      (record { layers = with_entry (entry_by old.rule around (held_label old.kept.held)) (below old.kept.layers); held = empty_forest }) (is_some (held_label old.kept.held)) result new

  -- any other end of a part
  abbrev PartEnds : Mode → Call → Type 0
  PartEnds inside end =
      Moves law old (passed inside (end ∷ [])) (record { layers = with_entry path.Stays (below old.kept.layers); held = held_after inside old.kept.held end })
      (key_may_grow inside old.kept.held end) result new

  by_fate : (fate : Fate) (grows : Bool) (slot : Slot) → Moves law old (key_and_end fate old.kept.held (calls.PartEnd slot)) (record { layers = with_entry fate (below old.kept.layers); held = empty_forest }) grows result new
      → Moves law old (key_due fate old.kept.held slot) (record { layers = with_entry fate (below old.kept.layers); held = empty_forest }) grows result new
  by_fate path.LeftOut grows slot m = m
  by_fate path.Stays grows slot m = m
  by_fate (path.Within paths) grows slot m = m

  key_by : (inside around : Mode) (slot : Slot) → true ≡ (is_holding inside && not (is_holding around)) → KeyEnds around (calls.PartEnd slot) → EndsBy inside around slot
  key_by Holding (By fate) slot h m =
      let entry = fate_in old.rule fate (held_label old.kept.held) in
      let grows = is_some (held_label old.kept.held) in
      for_either law old new (key_due entry old.kept.held slot) (record { layers = with_entry entry (below old.kept.layers); held = empty_forest })
      grows (key_may_grow Holding old.kept.held (calls.PartEnd slot)) result (by_fate entry grows slot m)
  key_by Holding Holding slot h m = absurd (cc h)
  key_by (By fate) around slot h m = absurd (cc h)

  part_by : (inside around : Mode) (slot : Slot) → false ≡ (is_holding inside && not (is_holding around)) → PartEnds inside (calls.PartEnd slot) → EndsBy inside around slot
  part_by Holding Holding slot h m = m
  part_by Holding (By fate) slot h m = absurd (cc h)
  part_by (By fate) around slot h m = m

  pub steps_key_end : (call : Call) (slot : Slot) → call ≡ calls.PartEnd slot
      → true ≡ (is_holding (mode_in old.paths old.kept.layers) && not (is_holding (mode_in old.paths (below old.kept.layers))))
      → KeyEnds (mode_in old.paths (below old.kept.layers)) call → Moves law old (due_at old call) (next_kept old call) (may_take_memory old.paths old.kept call) result new
  steps_key_end call slot e h m =
      subst (λ (c : Call). Steps c) (sym e) (key_by mode (mode_in old.paths (below old.kept.layers)) slot h (subst (λ (c : Call). KeyEnds (mode_in old.paths (below old.kept.layers)) c) e m))

  pub steps_part_end : (call : Call) (slot : Slot) → call ≡ calls.PartEnd slot
      → false ≡ (is_holding (mode_in old.paths old.kept.layers) && not (is_holding (mode_in old.paths (below old.kept.layers))))
      → PartEnds (mode_in old.paths old.kept.layers) call → Moves law old (due_at old call) (next_kept old call) (may_take_memory old.paths old.kept call) result new
  steps_part_end call slot e h m =
      subst (λ (c : Call). Steps c) (sym e) (part_by mode (mode_in old.paths (below old.kept.layers)) slot h (subst (λ (c : Call). PartEnds mode c) e m))
