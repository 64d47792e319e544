-- The steps of a sieve: what settling a call, opening a layer and closing one come to.
use Rattle.std.specs.Prelude.{◌≡◌, Bool, true, false, ◌&&◌, not, if◌then◌else◌, List, [], ◌∷◌, ◌++◌, map, Result, Ok, Err, is_ok, is_err, IfOk, refl}
use Rattle.std.proofs.Common.{inl, sym, ap, subst, ◌∙◌}
use Rattle.sval_label.specs.Calls.{Call, PartBegin, Key, Slot}
use Rattle.sval_core.specs.Law.{Law, Standing, Emission, Ran, Streams, Stops, Takes, Refuses, computed, as_computed}
use Rattle.sval_core.specs.Values.{makes, between}
use Rattle.sval_core.proofs.Joining.{between_is}
use Rattle.sval_core.specs.Stacks.{below}
use Rattle.sval_buffer.specs.Forest.{Forest, take, replayed, empty_forest}
use Rattle.sval_buffer.specs.Capture.{forest_by}
use Rattle.sval_filter.specs.Paths.{Rule, Fate, LeftOut, Stays, Within}
use Rattle.sval_filter.specs.Filtering.{Filtering, Mode, Holding, By, Layer, layer, mode_in, entry_in, with_entry, mode_of_part, passed, hint_due, held_after, key_may_grow}
use Rattle.sval_filter.specs.SeenLayers.{Layered, is_left_out, is_holding, passes}
use Rattle.sval_filter.specs.FilterLaw.{all_taken, AcceptsAll, inner_after}
use Rattle.sval_filter.specs.Sieves.{SieveView, PassesCalls, Moves, Settles, OpensLayer, one_if, key_and_end}
use Rattle.sval_filter.specs.declared.sieve.Hindrance.{Hindrance}
use Rattle.sval_filter.specs.declared.sieve.Hindrance.TheVariants.{NoMemory, Inside}

-- ---- lists of calls that a stream takes

module _ {V : Type 0} {law : Law V} where
  pub took_none : {old : Standing V} → Streams law old (makes []) old
  took_none = record { willing = refl; ran = refl; faults = refl; wants = refl }

  pub took_one : {old new : Standing V} {call : Call} → Takes law old call new → Streams law old (makes (call ∷ [])) new
  took_one t = record { willing = refl; ran = (t.accepted, t.view); faults = t.faults; wants = t.wants }

  pub stopped_one : {old new : Standing V} {call : Call} → Refuses law old call new → Stops law old (makes (call ∷ [])) new
  stopped_one r = record { stopped = inl (r.cause, r.left); faults = r.faults; wants = r.wants }

ran_all : {V : Type 0} (law : Law V) (calls : List Call) (old last : V) → Ran law old calls last → (last ≡ all_taken law old calls) × AcceptsAll law old calls
ran_all law [] old last r = (r, refl)
ran_all law (call ∷ calls) old last r = let later = ran_all law calls (law.after old call) last r.1 in (later.0, (r.0, later.1))

standing_is : {V : Type 0} (s t : Standing V) → s.view ≡ t.view → s.faults ≡ t.faults → s.wants ≡ t.wants → s ≡ t
standing_is {V} s t v f w =
    ap (λ (view : V). let x : Standing V = record { view = view; faults = s.faults; wants = s.wants } in x) v
    ∙ ap (λ faults. let x : Standing V = record { view = t.view; faults = faults; wants = s.wants } in x) f
    ∙ ap (λ wants. let x : Standing V = record { view = t.view; faults = t.faults; wants = wants } in x) w

-- a stream that took calls accepts them, and stands where that leads
pub accepts_taken : {V : Type 0} (law : Law V) (calls : List Call) (old new : Standing V) → Streams law old (makes calls) new
    → AcceptsAll law old.view calls × (new ≡ inner_after law old calls)
accepts_taken law calls old new s = let all = ran_all law calls old.view new.view s.ran in (all.1, standing_is new (inner_after law old calls) all.0 s.faults s.wants)

-- ---- calls that a sieve passes on

module _ {V : Type 0} (law : Law V) (old new : Standing V) (call : Call) where
  pub none_passed : (passing : Bool) → passing ≡ false → PassesCalls law old (one_if passing call) (Ok tt) old
  none_passed passing e = subst (λ b. PassesCalls law old (one_if b call) (Ok tt) old) (sym e) took_none

  pub one_taken : (passing : Bool) → passing ≡ true → Takes law old call new → PassesCalls law old (one_if passing call) (Ok tt) new
  one_taken passing e t = subst (λ b. PassesCalls law old (one_if b call) (Ok tt) new) (sym e) (took_one t)

  pub one_refused : (passing : Bool) → passing ≡ true → Refuses law old call new → PassesCalls law old (one_if passing call) (Err Inside) new
  one_refused passing e r = subst (λ b. PassesCalls law old (one_if b call) (Err Inside) new) (sym e) (stopped_one r)

-- a key between its begin and its end
key_calls : (calls : List Call) (end : Call) → between (PartBegin Key) end (as_computed (makes calls)) ≡ makes (PartBegin Key ∷ (map computed calls ++ (end ∷ [])))
unfolding as_computed
key_calls calls end = between_is (PartBegin Key) end (makes (map computed calls)) refl

module _ {V : Type 0} (law : Law V) (old new : Standing V) (held : Forest) (end : Call) where
  abbrev between_key : Emission
  between_key = between (PartBegin Key) end (as_computed (makes (replayed held)))

  pub key_left_out : (fate : Fate) → is_left_out fate ≡ true → PassesCalls law old (key_and_end fate held end) (Ok tt) old
  key_left_out LeftOut e = took_none
  key_left_out Stays e = absurd (cc e)
  key_left_out (Within paths) e = absurd (cc e)

  pub key_taken : (fate : Fate) → is_left_out fate ≡ false → Streams law old between_key new → PassesCalls law old (key_and_end fate held end) (Ok tt) new
  key_taken LeftOut e s = absurd (cc e)
  key_taken Stays e s = subst (λ e. Streams law old e new) (key_calls (replayed held) end) s
  key_taken (Within paths) e s = subst (λ e. Streams law old e new) (key_calls (replayed held) end) s

  pub key_stopped : (fate : Fate) → is_left_out fate ≡ false → Stops law old between_key new → PassesCalls law old (key_and_end fate held end) (Err Inside) new
  key_stopped LeftOut e s = absurd (cc e)
  key_stopped Stays e s = subst (λ e. Stops law old e new) (key_calls (replayed held) end) s
  key_stopped (Within paths) e s = subst (λ e. Stops law old e new) (key_calls (replayed held) end) s

-- ---- calls that are held, and calls that are passed on in their place

-- what passing calls on says of the sieve
pub passes_moves : {V : Type 0} (law : Law V) (old : SieveView V) (inner : Standing V) (calls : List Call) (result : Result (Unit {0}) Hindrance)
    → PassesCalls law old.inner calls result inner → Moves law old calls old.kept false result (record old { inner = inner })
passes_moves law old inner calls (Ok done) p = (p, refl)
passes_moves law old inner calls (Err NoMemory) p = absurd p
passes_moves law old inner calls (Err Inside) p = (p, refl)

module _ {V : Type 0} (law : Law V) (old : SieveView V) (call p : Call) (holds passing : Bool) where
  pub settles_passed : (inner : Standing V) (result : Result (Unit {0}) Hindrance) → holds ≡ false → PassesCalls law old.inner (one_if passing p) result inner
      → Settles law holds passing call p old result (record old { inner = inner })
  settles_passed inner result e passes = subst (λ b. Settles law b passing call p old result (record old { inner = inner })) (sym e) (passes_moves law old inner (one_if passing p) result passes)

  abbrev held_now : Forest → SieveView V
  held_now held = record old { kept = record old.kept { held = held } }

  pub settles_held : (held : Forest) → holds ≡ true → held ≡ forest_by (take old.kept.held (computed call)) old.kept.held
      → Settles law holds passing call p old (Ok tt) (held_now held)
  settles_held held e is = subst (λ b. Settles law b passing call p old (Ok tt) (held_now held)) (sym e) (took_none, ap held_now is)

  pub settles_wanting : (held : Forest) → holds ≡ true → (held ≡ old.kept.held) × (key_may_grow Holding old.kept.held call ≡ true)
      → Settles law holds passing call p old (Err NoMemory) (held_now held)
  settles_wanting held e want = subst (λ b. Settles law b passing call p old (Err NoMemory) (held_now held)) (sym e) (want.1, ap held_now want.0)

-- ---- calls by how they are treated

pub one_passed : (mode : Mode) (call : Call) → one_if (passes mode) call ≡ passed mode (call ∷ [])
one_passed Holding call = refl
one_passed (By LeftOut) call = refl
one_passed (By Stays) call = refl
one_passed (By (Within paths)) call = refl

-- a part that begins in a key is held
pub part_in_key : (rule : Rule) (mode : Mode) (entry : Fate) (slot : Slot) (call : Call)
    → (if is_holding mode then [] else one_if (passes (mode_of_part rule mode entry slot)) call) ≡ passed (mode_of_part rule mode entry slot) (call ∷ [])
part_in_key rule Holding entry slot call = refl
part_in_key rule (By fate) entry slot call = one_passed (mode_of_part rule (By fate) entry slot) call

-- so is a value
pub value_in_key : (mode : Mode) (call : Call) → (if is_holding mode then [] else one_if (passes mode) call) ≡ passed mode (call ∷ [])
value_in_key Holding call = refl
value_in_key (By fate) call = one_passed (By fate) call

module _ {V : Type 0} (law : Law V) (call p : Call) (old new : SieveView V) (result : Result (Unit {0}) Hindrance) where
  -- a call is held in a key, and elsewhere passed on where calls are
  pub settled : (mode : Mode) (holds passing : Bool) → holds ≡ is_holding mode → passing ≡ passes mode → Settles law holds passing call p old result new
      → Moves law old (passed mode (p ∷ [])) (record old.kept { held = held_after mode old.kept.held call }) (key_may_grow mode old.kept.held call) result new
  settled Holding holds passing h e s = subst (λ b. Settles law b passing call p old result new) h s
  settled (By LeftOut) holds passing h e s = subst (λ b. Settles law false b call p old result new) e (subst (λ b. Settles law b passing call p old result new) h s)
  settled (By Stays) holds passing h e s = subst (λ b. Settles law false b call p old result new) e (subst (λ b. Settles law b passing call p old result new) h s)
  settled (By (Within paths)) holds passing h e s = subst (λ b. Settles law false b call p old result new) e (subst (λ b. Settles law b passing call p old result new) h s)

  -- a hint is passed on where calls are, unless the entry that comes next is left out
  pub settled_hint : (mode : Mode) (entry : Fate) (holds passing : Bool) → holds ≡ is_holding mode → passing ≡ (passes mode && not (is_left_out entry))
      → Settles law holds passing call p old result new
      → Moves law old (hint_due mode entry p) (record old.kept { held = held_after mode old.kept.held call }) (key_may_grow mode old.kept.held call) result new
  settled_hint Holding LeftOut holds passing h e s = subst (λ b. Settles law b passing call p old result new) h s
  settled_hint Holding Stays holds passing h e s = subst (λ b. Settles law b passing call p old result new) h s
  settled_hint Holding (Within rests) holds passing h e s = subst (λ b. Settles law b passing call p old result new) h s
  settled_hint (By LeftOut) LeftOut holds passing h e s = subst (λ b. Settles law false b call p old result new) e (subst (λ b. Settles law b passing call p old result new) h s)
  settled_hint (By LeftOut) Stays holds passing h e s = subst (λ b. Settles law false b call p old result new) e (subst (λ b. Settles law b passing call p old result new) h s)
  settled_hint (By LeftOut) (Within rests) holds passing h e s = subst (λ b. Settles law false b call p old result new) e (subst (λ b. Settles law b passing call p old result new) h s)
  settled_hint (By Stays) LeftOut holds passing h e s = subst (λ b. Settles law false b call p old result new) e (subst (λ b. Settles law b passing call p old result new) h s)
  settled_hint (By Stays) Stays holds passing h e s = subst (λ b. Settles law false b call p old result new) e (subst (λ b. Settles law b passing call p old result new) h s)
  settled_hint (By Stays) (Within rests) holds passing h e s = subst (λ b. Settles law false b call p old result new) e (subst (λ b. Settles law b passing call p old result new) h s)
  settled_hint (By (Within paths)) LeftOut holds passing h e s = subst (λ b. Settles law false b call p old result new) e (subst (λ b. Settles law b passing call p old result new) h s)
  settled_hint (By (Within paths)) Stays holds passing h e s = subst (λ b. Settles law false b call p old result new) e (subst (λ b. Settles law b passing call p old result new) h s)
  settled_hint (By (Within paths)) (Within rests) holds passing h e s = subst (λ b. Settles law false b call p old result new) e (subst (λ b. Settles law b passing call p old result new) h s)

-- ---- layers that open and close

-- the same view with other layers
abbrev pub with_layers : {V : Type 0} → List Layer → SieveView V → SieveView V
with_layers layers view = record view { kept = record view.kept { layers = layers } }

module _ {V : Type 0} (law : Law V) (mode around : Mode) (call p : Call) (old mid : SieveView V) (holds passing : Bool)
    (is_around : around ≡ mode_in old.paths old.kept.layers) (opened : mid ≡ with_layers (layer mode ∷ old.kept.layers) old)
    (h : holds ≡ is_holding around) (e : passing ≡ passes mode) where
  abbrev due_by : (a : Mode) → List Call
  due_by a = if is_holding a then [] else one_if (passes mode) p

  abbrev kept_by : (a : Mode) → Filtering
  kept_by a = record { layers = layer mode ∷ old.kept.layers; held = held_after a old.kept.held call }

  pub opens_ok : (new : SieveView V) → Settles law holds passing call p mid (Ok tt) new → OpensLayer law mode call p old (Ok tt) new
  opens_ok new s =
      subst (λ (a : Mode). Moves law old (due_by a) (kept_by a) true (Ok tt) new) is_around
      (by_mode around (subst (λ b. Settles law b (passes mode) call p (with_layers (layer mode ∷ old.kept.layers) old) (Ok tt) new) h
      (subst (λ b. Settles law holds b call p (with_layers (layer mode ∷ old.kept.layers) old) (Ok tt) new) e
      (subst (λ (m : SieveView V). Settles law holds passing call p m (Ok tt) new) opened s))))
    where
      by_mode : (a : Mode) → Settles law (is_holding a) (passes mode) call p (with_layers (layer mode ∷ old.kept.layers) old) (Ok tt) new
          → Moves law old (due_by a) (kept_by a) true (Ok tt) new
      by_mode Holding m = m
      by_mode (By fate) m = m

  pub opens_err : (why : Hindrance) (new' new : SieveView V) → Settles law holds passing call p mid (Err why) new' → new ≡ with_layers (below new'.kept.layers) new'
      → OpensLayer law mode call p old (Err why) new
  opens_err why new' new s closed =
      subst (λ (a : Mode). Moves law old (due_by a) (kept_by a) true (Err why) new) is_around
      (by_mode around why (subst (λ b. Settles law b (passes mode) call p (with_layers (layer mode ∷ old.kept.layers) old) (Err why) new') h
      (subst (λ b. Settles law holds b call p (with_layers (layer mode ∷ old.kept.layers) old) (Err why) new') e
      (subst (λ (m : SieveView V). Settles law holds passing call p m (Err why) new') opened s))))
    where
      back : (view : SieveView V) → new' ≡ with_layers (layer mode ∷ old.kept.layers) view → new ≡ with_layers old.kept.layers view
      back view is = closed ∙ ap (λ (v : SieveView V). with_layers (below v.kept.layers) v) is

      inner_is : new.inner ≡ new'.inner
      inner_is = ap (λ (v : SieveView V). v.inner) closed

      by_mode : (a : Mode) (why : Hindrance) → Settles law (is_holding a) (passes mode) call p (with_layers (layer mode ∷ old.kept.layers) old) (Err why) new'
          → Moves law old (due_by a) (kept_by a) true (Err why) new
      by_mode Holding NoMemory m = (refl, back old m.1)
      by_mode (By fate) NoMemory m = (refl, back old m.1)
      by_mode Holding Inside m = (
        subst (λ inner. Stops law old.inner (makes []) inner) (sym inner_is) m.0,
        subst (λ inner. new ≡ record old { inner = inner }) (sym inner_is) (back (record old { inner = new'.inner }) m.1),
      )
      by_mode (By fate) Inside m = (
        subst (λ inner. Stops law old.inner (makes (one_if (passes mode) p)) inner) (sym inner_is) m.0,
        subst (λ inner. new ≡ record old { inner = inner }) (sym inner_is) (back (record old { inner = new'.inner }) m.1),
      )

  pub opens_wanting : OpensLayer law mode call p old (Err NoMemory) old
  opens_wanting = (refl, refl)

-- other layers once a call was taken
pub closes_ok : {V : Type 0} (law : Law V) (old mid new : SieveView V) (calls : List Call) (held : Forest) (g : Bool) (layers : List Layer)
    → Moves law old calls (record old.kept { held = held }) g (Ok tt) mid → new ≡ with_layers layers mid
    → Moves law old calls (record { layers = layers; held = held }) g (Ok tt) new
closes_ok law old mid new calls held g layers m closed =
    let inner_is : new.inner ≡ mid.inner = ap (λ (v : SieveView _). v.inner) closed in (
      subst (λ inner. Streams law old.inner (makes calls) inner) (sym inner_is) m.0,
      subst (λ inner. new ≡ record old { kept = record { layers = layers; held = held }; inner = inner }) (sym inner_is)
          (closed ∙ ap (λ (v : SieveView _). with_layers layers v) m.1),
    )

-- ---- layers of the program

-- a sieve's view by its layers
abbrev pub view_by : {V : Type 0} → Rule → Forest → Standing V → Layered → SieveView V
view_by rule held inner all = record { rule = rule; paths = all.paths; kept = record { layers = all.layers; held = held }; inner = inner }

module _ {V E : Type 0} (rule : Rule) (held : Forest) (inner : Standing V) (old new : Layered) (opened : Layer) (result : Result (Unit {0}) E)
    (pushed : new ≡ record old { layers = (if is_ok result then opened ∷ old.layers else old.layers) }) where
  pub not_pushed : true ≡ is_err result → view_by rule held inner new ≡ view_by rule held inner old
  not_pushed e = ap (view_by rule held inner) (pushed ∙ by_result result e)
    where
      by_result : (r : Result (Unit {0}) E) → true ≡ is_err r → record old { layers = (if is_ok r then opened ∷ old.layers else old.layers) } ≡ old
      by_result (Ok done) e = absurd (cc e)
      by_result (Err why) e = refl

  pub now_pushed : false ≡ is_err result → view_by rule held inner new ≡ with_layers (opened ∷ old.layers) (view_by rule held inner old)
  now_pushed e = ap (view_by rule held inner) (pushed ∙ by_result result e)
    where
      by_result : (r : Result (Unit {0}) E) → false ≡ is_err r → record old { layers = (if is_ok r then opened ∷ old.layers else old.layers) } ≡ record old { layers = opened ∷ old.layers }
      by_result (Ok done) e = refl
      by_result (Err why) e = absurd (cc e)

pub other_layers : {V : Type 0} (rule : Rule) (held : Forest) (inner : Standing V) (old new : Layered) (layers : List Layer) → new ≡ record old { layers = layers }
    → view_by rule held inner new ≡ with_layers layers (view_by rule held inner old)
other_layers rule held inner old new layers e = ap (view_by rule held inner) e

-- ---- begins and ends

module _ {V : Type 0} (law : Law V) (old new : SieveView V) (call p : Call) (mode : Mode) (result : Result (Unit {0}) Hindrance) where
  abbrev moved_into : Mode → List Call → Type 0
  moved_into opened calls = Moves law old calls (record { layers = layer opened ∷ old.kept.layers; held = held_after (mode_in old.paths old.kept.layers) old.kept.held call }) true result new

  -- a value is treated as what it is in
  pub begins : mode ≡ mode_in old.paths old.kept.layers → OpensLayer law mode call p old result new
      → moved_into (mode_in old.paths old.kept.layers) (passed (mode_in old.paths old.kept.layers) (p ∷ []))
  begins is o =
      subst (moved_into (mode_in old.paths old.kept.layers)) (value_in_key (mode_in old.paths old.kept.layers) p)
      (subst (λ (m : Mode). OpensLayer law m call p old result new) is o)

  -- a part is treated by its place
  pub begins_part : (part : Slot) → mode ≡ mode_of_part old.rule (mode_in old.paths old.kept.layers) (entry_in old.kept.layers) part → OpensLayer law mode call p old result new
      → moved_into (mode_of_part old.rule (mode_in old.paths old.kept.layers) (entry_in old.kept.layers) part)
      (passed (mode_of_part old.rule (mode_in old.paths old.kept.layers) (entry_in old.kept.layers) part) (p ∷ []))
  begins_part part is o =
      subst (moved_into (mode_of_part old.rule (mode_in old.paths old.kept.layers) (entry_in old.kept.layers) part))
      (part_in_key old.rule (mode_in old.paths old.kept.layers) (entry_in old.kept.layers) part p)
      (subst (λ (m : Mode). OpensLayer law m call p old result new) is o)

module _ {V : Type 0} (law : Law V) (old mid new : SieveView V) (calls : List Call) (held : Forest) (g : Bool) where
  -- a call was taken, and then layers closed
  pub closes : (f : List Layer → List Layer) → Moves law old calls (record old.kept { held = held }) g (Ok tt) mid → new ≡ with_layers (f mid.kept.layers) mid
      → Moves law old calls (record { layers = f old.kept.layers; held = held }) g (Ok tt) new
  closes f m closed =
      closes_ok law old mid new calls held g (f old.kept.layers) m
      (closed ∙ ap (λ (layers : List Layer). with_layers (f layers) mid) (ap (λ (v : SieveView V). v.kept.layers) m.1))

  -- a refusal says nothing of what would be kept
  pub refused_too : (after other : Filtering) (why : Hindrance) → Moves law old calls after g (Err why) new → Moves law old calls other g (Err why) new
  refused_too after other NoMemory m = m
  refused_too after other Inside m = m

-- ---- the end of a key

module _ {V : Type 0} (law : Law V) (rule : Rule) (held : Forest) (inner later : Standing V) (all new : Layered) (end : Call) (fate due : Fate) (is : fate ≡ due) where
  abbrev old_key : SieveView V
  old_key = view_by rule held inner all

  -- the entry's fate is known, and the key went on if it stays
  pub key_ends : PassesCalls law inner (key_and_end fate held end) (Ok tt) later → new ≡ record all { layers = with_entry fate (below all.layers) } → (cleared : Forest) → cleared ≡ empty_forest
      → Moves law old_key (key_and_end due held end) (record { layers = with_entry due (below all.layers); held = empty_forest }) true (Ok tt) (view_by rule cleared later new)
  key_ends p closed cleared empty = (
    subst (λ (f : Fate). Streams law inner (makes (key_and_end f held end)) later) is p,
    ap (λ (layered : Layered). view_by rule cleared later layered) (closed ∙ ap (λ (f : Fate). record all { layers = with_entry f (below all.layers) }) is)
        ∙ ap (λ (forest : Forest). view_by rule forest later (record all { layers = with_entry due (below all.layers) })) empty,
  )

  pub key_is_refused : (grows : Bool) (why : Hindrance) (after : Filtering) → PassesCalls law inner (key_and_end fate held end) (Err why) later
      → Moves law old_key (key_and_end due held end) after grows (Err why) (view_by rule held later all)
  key_is_refused grows NoMemory after p = absurd p
  key_is_refused grows Inside after p = (subst (λ (f : Fate). Stops law inner (makes (key_and_end f held end)) later) is p, refl)

-- what a result that is no refusal says
pub got : {E P : Type 0} (result : Result (Unit {0}) E) → false ≡ is_err result → IfOk result (λ done. P) → P
got (Ok done) e p = p
got (Err why) e p = absurd (cc e)
