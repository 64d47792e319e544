-- What a filter passes on of single calls, and of rows of calls, where calls are passed on.
use Rattle.std.specs.Prelude.{◌≡◌, Bool, true, false, List, [], ◌∷◌, ◌++◌, Option, Some, None, refl}
use Rattle.std.proofs.Common.{sym, ap, ◌∙◌, subst, append_assoc}
use Rattle.std.proofs.lemmas.List.Elements.{filter_map-append}
use Rattle.sval_label.specs.Calls.{Call, Head}
use Rattle.sval_core.specs.Spells.{plain, plain_call}
use Rattle.sval_core.proofs.ManyRuns.{plain_none, plain_some}
use Rattle.sval_core.proofs.Segments.{NextCall, next_call}
use Rattle.sval_buffer.specs.Forest.{Forest, empty_forest}
use Rattle.sval_filter.specs.Paths.{Path, Rule, Fate, LeftOut, Stays, Within}
use Rattle.sval_filter.specs.Filtering.{Mode, Holding, By, Layer, Filtering, mode_in, entry_in, hint_due, passed, without_size, held_after, layers_after, kept_after_in, kept_after, due_in, due, all_due}

abbrev pub at : List Layer → Forest → Filtering
at layers held = record { layers = layers; held = held }

-- calls in it are passed on
pub data Passing : Fate → Type 0 where
  stays : Passing Stays
  within : (paths : List Path) → Passing (Within paths)

-- ---- what follows from what a call says

some_same : {A : Type 0} (x y : A) → Some x ≡ Some y → x ≡ y
some_same x y e = cc e

abbrev pub is_part : Call → Bool
is_part (Call.PartBegin slot) = true
is_part (Call.PartEnd slot) = true
is_part call = false

pub part_plain : (c p : Call) → plain_call c ≡ Some p → is_part c ≡ is_part p
part_plain (Call.TagHint tag) p e = cc e
part_plain (Call.PartBegin slot) p e = ap is_part (some_same _ p e)
part_plain c p e = ap is_part (some_same _ p e)

pub layers_plain : (m : Mode) (ls : List Layer) (c p : Call) → plain_call c ≡ Some p → layers_after m ls c ≡ layers_after m ls p
layers_plain m ls (Call.TagHint tag) p e = cc e
layers_plain m ls c p e = ap (layers_after m ls) (some_same _ p e)

size_plain : (c p : Call) → plain_call c ≡ Some p → plain_call (without_size c) ≡ Some (without_size p)
size_plain (Call.TagHint tag) p e = cc e
size_plain (Call.Begin Head.Seq size) p e = ap (λ x. Some (without_size x)) (some_same _ p e)
size_plain (Call.Begin Head.Map size) p e = ap (λ x. Some (without_size x)) (some_same _ p e)
size_plain (Call.Begin (Head.Record name) size) p e = ap (λ x. Some (without_size x)) (some_same _ p e)
size_plain (Call.Begin (Head.Tuple name) size) p e = ap (λ x. Some (without_size x)) (some_same _ p e)
size_plain (Call.Begin (Head.RecordTuple name) size) p e = ap (λ x. Some (without_size x)) (some_same _ p e)
size_plain c p e = ap (λ x. Some (without_size x)) (some_same _ p e)

pub plain_append : (a b : List Call) → plain (a ++ b) ≡ plain a ++ plain b
plain_append a b = filter_map-append plain_call a b

-- what is passed on of a hint says nothing
hint_says : (m : Mode) (entry : Fate) (c : Call) → plain_call c ≡ None → plain (hint_due m entry c) ≡ []
hint_says m LeftOut c e = refl
hint_says Holding entry c e = refl
hint_says (By LeftOut) entry c e = refl
hint_says (By fate) entry c e = plain_none c [] e

module _ (rule : Rule) (paths : List Path) where
  -- a call that is neither a part's begin nor its end
  pub after_other : (m : Mode) (ls : List Layer) (h : Forest) (c : Call) → is_part c ≡ false → kept_after_in rule paths m ls h c ≡ at (layers_after m ls c) (held_after m h c)
  after_other m ls h (Call.PartBegin slot) e = cc e
  after_other m ls h (Call.PartEnd slot) e = cc e
  after_other m ls h c e = refl

  pub due_other : (m : Mode) (ls : List Layer) (h : Forest) (c p : Call) → plain_call c ≡ Some p → is_part c ≡ false → due_in rule paths m ls h c ≡ passed m (without_size c ∷ [])
  due_other m ls h (Call.PartBegin slot) p k e = cc e
  due_other m ls h (Call.PartEnd slot) p k e = cc e
  due_other m ls h (Call.TagHint tag) p k e = cc k
  due_other m ls h c p k e = refl

  due_of_hint : (m : Mode) (ls : List Layer) (h : Forest) (c : Call) → plain_call c ≡ None → due_in rule paths m ls h c ≡ hint_due m (entry_in ls) c
  due_of_hint m ls h (Call.TagHint tag) e = refl
  due_of_hint m ls h c e = cc e

  hint_no_part : (c : Call) → plain_call c ≡ None → is_part c ≡ false
  hint_no_part (Call.TagHint tag) e = refl
  hint_no_part c e = cc e

  hint_layers : (m : Mode) (ls : List Layer) (c : Call) → plain_call c ≡ None → layers_after m ls c ≡ ls
  hint_layers m ls (Call.TagHint tag) e = refl
  hint_layers m ls c e = cc e

  -- a hint leaves the layers
  pub after_hint : (m : Mode) (ls : List Layer) (h : Forest) (c : Call) → plain_call c ≡ None → mode_in paths ls ≡ m → kept_after rule paths (at ls h) c ≡ at ls (held_after m h c)
  after_hint m ls h c e i =
      ap (λ x. kept_after_in rule paths x ls h c) i ∙ after_other m ls h c (hint_no_part c e) ∙ ap (λ x. at x (held_after m h c)) (hint_layers m ls c e)

  pub due_hint : (m : Mode) (ls : List Layer) (h : Forest) (c : Call) → plain_call c ≡ None → mode_in paths ls ≡ m → due rule paths (at ls h) c ≡ hint_due m (entry_in ls) c
  due_hint m ls h c e i = ap (λ x. due_in rule paths x ls h c) i ∙ due_of_hint m ls h c e

  -- ---- from layers to layers

  -- of some first of these calls, what is passed on says what is asked for, and leads from these layers to those, where no key is held
  pub record Passage (from to : List Layer) (raw : List Call) (Passes : List Call → Type 0) (after : List Call) : Type 0 where
    pub rest : List Call
    pub out : List Call
    pub goes : all_due rule paths (at from empty_forest) raw ≡ out ++ all_due rule paths (at to empty_forest) rest
    pub left : plain rest ≡ after
    pub says : Passes (plain out)

  -- so of any calls that say these
  abbrev pub Crossing : List Layer → List Layer → List Call → (List Call → Type 0) → List Call → Type 0
  Crossing from to calls Passes after = (raw : List Call) → plain raw ≡ calls → Passage from to raw Passes after

  pub steps : (from middle to : List Layer) (calls between after : List Call) (P Q R : List Call → Type 0) → Crossing from middle calls P between → Crossing middle to between Q after
      → ((first second : List Call) → P first → Q second → R (first ++ second)) → Crossing from to calls R after
  steps from middle to calls between after P Q R first second joined raw e =
      let g = first raw e in
      let h = second g.rest g.left in
      record {
        rest = h.rest;
        out = g.out ++ h.out;
        goes = g.goes ∙ ap (λ x. g.out ++ x) h.goes ∙ sym (append_assoc g.out h.out (all_due rule paths (at to empty_forest) h.rest));
        left = h.left;
        says = subst R (sym (plain_append g.out h.out)) (joined (plain g.out) (plain h.out) g.says h.says);
      }

  pub no_step : (ls : List Layer) (calls : List Call) → Crossing ls ls calls (λ x. x ≡ []) calls
  no_step ls calls raw e = record { rest = raw; out = []; goes = refl; left = e; says = refl }

  pub step_of : (from to : List Layer) (calls other after : List Call) (P : List Call → Type 0) → calls ≡ other → Crossing from to other P after → Crossing from to calls P after
  step_of from to calls other after P e step = subst (λ x. Crossing from to x P after) (sym e) step

  pub step_to : (from to : List Layer) (calls after : List Call) (P Q : List Call → Type 0) → Crossing from to calls P after → ((x : List Call) → P x → Q x) → Crossing from to calls Q after
  step_to from to calls after P Q step f raw e = let g = step raw e in record { rest = g.rest; out = g.out; goes = g.goes; left = g.left; says = f (plain g.out) g.says }

  -- hints are passed on, or nothing is
  module _ (fate : Fate) (ls : List Layer) (h : Forest) (is : mode_in paths ls ≡ By fate) where
    pub hints_passed : (hints raw : List Call) → plain hints ≡ [] → (out : List Call) × (all_due rule paths (at ls h) (hints ++ raw) ≡ out ++ all_due rule paths (at ls h) raw) × (plain out ≡ [])
    hints_passed [] raw e = ([], refl, refl)
    hints_passed (c ∷ hints) raw e = by_call (λ k. hints_passed hints raw k) (plain_call c) refl
      where
        by_call : (plain hints ≡ [] → (out : List Call) × (all_due rule paths (at ls h) (hints ++ raw) ≡ out ++ all_due rule paths (at ls h) raw) × (plain out ≡ []))
            → (o : Option Call) → plain_call c ≡ o
            → (out : List Call) × (all_due rule paths (at ls h) (c ∷ (hints ++ raw)) ≡ out ++ all_due rule paths (at ls h) raw) × (plain out ≡ [])
        by_call next (Some p) k = let never_so = sym (plain_some c p hints k) ∙ e in absurd (cc never_so)
        by_call next None k =
            let rest = next (sym (plain_none c hints k) ∙ e) in
            let this = hint_due (By fate) (entry_in ls) c in
            let same : all_due rule paths (at ls h) (c ∷ (hints ++ raw)) ≡ this ++ all_due rule paths (at ls h) (hints ++ raw) =
            ap (λ x. x ++ all_due rule paths (kept_after rule paths (at ls h) c) (hints ++ raw)) (due_hint (By fate) ls h c k is)
            ∙ ap (λ x. this ++ all_due rule paths x (hints ++ raw)) (after_hint (By fate) ls h c k is) in (
              this ++ rest.0,
              same ∙ ap (λ x. this ++ x) rest.1 ∙ sym (append_assoc this rest.0 (all_due rule paths (at ls h) raw)),
              plain_append this rest.0 ∙ ap (λ x. x ++ plain rest.0) (hint_says (By fate) (entry_in ls) c k) ∙ rest.2,
            )

  -- hints, and then a call at which this is due and after which these layers are there
  pub one_call : (fate : Fate) (ls to : List Layer) (raw : List Call) (p : Call) (after out said : List Call) → mode_in paths ls ≡ By fate → (n : NextCall raw p after)
      → due rule paths (at ls empty_forest) n.call ≡ out → kept_after rule paths (at ls empty_forest) n.call ≡ at to empty_forest → plain out ≡ said
      → Passage ls to raw (λ x. x ≡ said) after
  one_call fate ls to raw p after out said is n due_is after_is says =
      let hints = hints_passed fate ls empty_forest is n.hints (n.call ∷ n.rest) n.none in
      record {
        rest = n.rest;
        out = hints.0 ++ out;
        goes = ap (λ x. all_due rule paths (at ls empty_forest) x) n.whole ∙ hints.1
            ∙ ap (λ x. hints.0 ++ (x ++ all_due rule paths (kept_after rule paths (at ls empty_forest) n.call) n.rest)) due_is
            ∙ ap (λ x. hints.0 ++ (out ++ all_due rule paths x n.rest)) after_is
            ∙ sym (append_assoc hints.0 out (all_due rule paths (at to empty_forest) n.rest));
        left = n.after;
        says = plain_append hints.0 out ∙ ap (λ x. x ++ plain out) hints.2 ∙ says;
      }

  passed_call : (fate : Fate) → Passing fate → (c : Call) → passed (By fate) (c ∷ []) ≡ c ∷ []
  passed_call LeftOut passes c = elim passes [ ]
  passed_call Stays stays c = refl
  passed_call (Within rests) (within other) c = refl

  -- a call that is neither a part's begin nor its end is passed on, without its size
  module _ (fate : Fate) (passes : Passing fate) (ls : List Layer) (is : mode_in paths ls ≡ By fate) (p : Call) (other : is_part p ≡ false) where
    pub turn : (after : List Call) → Crossing ls (layers_after (By fate) ls p) (p ∷ after) (λ x. x ≡ without_size p ∷ []) after
    turn after raw e =
        let n = next_call raw p after e in
        let no_part : is_part n.call ≡ false = part_plain n.call p n.is ∙ other in
        one_call fate ls (layers_after (By fate) ls p) raw p after (without_size n.call ∷ []) (without_size p ∷ []) is n
        (ap (λ x. due_in rule paths x ls empty_forest n.call) is ∙ due_other (By fate) ls empty_forest n.call p n.is no_part ∙ passed_call fate passes (without_size n.call))
        (ap (λ x. kept_after_in rule paths x ls empty_forest n.call) is ∙ after_other (By fate) ls empty_forest n.call no_part
        ∙ ap (λ x. at x empty_forest) (layers_plain (By fate) ls n.call p n.is))
        (plain_some (without_size n.call) (without_size p) [] (size_plain n.call p n.is))
