-- What replay has made at each part.
use Rattle.std.specs.Prelude.{◌≡◌, ℕ, zero, suc, ◌+◌, ◌-◌, ◌≤◌, ◌<◌, nat_le, Bool, true, false, if◌then◌else◌, List, [], ◌∷◌, ◌++◌, length, map, drop, get_or, Option, Some, None, Result, Ok, Err, IsErr, refl, slice_get, ⊤}
use Rattle.std.proofs.Common.{sym, ap, ◌∙◌, subst, arith, append_assoc, append-nil, add-one}
use Rattle.std.proofs.Math.Seq.{drop-cons}
use Rattle.std.proofs.lemmas.Bool.Decides.{nat_tests}
use Rattle.std.proofs.lemmas.List.{length-map}
use Rattle.sval_buffer.proofs.Replay.{pass-flat}
use Rattle.sval_label.specs.Calls.{Call, Null}
use Rattle.sval_label.specs.declared.error.Error.{Error}
use Rattle.sval_core.specs.Law.{Law, Standing, Streams, Stops, Answers, Emits, emits, then_emits}
use Rattle.sval_core.proofs.Emissions.{streams_one, stops_one, streams_then, stops_first, stops_later}
use Rattle.sval_buffer.specs.Forest.{Forest, null_for_none, replayed}
use Rattle.sval_buffer.specs.Flat as flat
use Rattle.sval_buffer.specs.Flat.{FlatKind, FlatPart, flat_part}
use Rattle.sval_buffer.specs.Replay.{Pending, end_calls_before, going, all_ends, head_calls, opened, pass}
use Rattle.sval_core.specs.Values.{makes}
use Rattle.sval_buffer.specs.SeenParts.{SeenPart, flat_part_of, holder, TellsForest}
use Rattle.sval_buffer.specs.Nested.{Going, pendings, still, opens_part, newest_place_of, outer_of, IsBelow, Link, Linked, Nested, AllStop, ends_of_part, is_holder, MakesEnds, EndsAreMade}

-- ---- one list of calls after another

module _ {V : Type 0} {law : Law V} {old mid new : Standing V} where
  pub goes_on : {xs ys : List Call} → Streams law old (makes xs) mid → Streams law mid (makes ys) new → Streams law old (makes (xs ++ ys)) new
  unfolding then_emits
  goes_on s t = streams_then s t

  pub stops_in : {xs ys : List Call} (zs : List Call) → Streams law old (makes xs) mid → Stops law mid (makes ys) new → Stops law old (makes (xs ++ (ys ++ zs))) new
  unfolding then_emits
  stops_in zs s t = stops_later s (stops_first (makes zs) t)

pub streams_nothing : {V : Type 0} (law : Law V) (at : Standing V) → Streams law at (makes []) at
streams_nothing law at = record { willing = refl; ran = refl; faults = refl; wants = refl }

get_found : {X : Type 0} (xs : List X) (i : ℕ) (x : X) → i < length xs → x ≡ get_or xs i x → slice_get xs i ≡ Some x
get_found [] i x h e = absurd (omega arith)
get_found (y ∷ xs) zero x h e = ap Some (sym e)
get_found (y ∷ xs) (suc i) x h e = get_found xs i x (omega arith) e

drop_all : {X : Type 0} (xs : List X) (i : ℕ) → length xs ≤ i → drop i xs ≡ []
drop_all [] zero h = refl
drop_all [] (suc i) h = refl
drop_all (x ∷ xs) zero h = absurd (omega arith)
drop_all (x ∷ xs) (suc i) h = drop_all xs i (omega arith)

-- ---- the ends before a part

pub pendings-still : (i : ℕ) (gs : List Going) → pendings (still i gs) ≡ going i (pendings gs)
pendings-still i [] = refl
pendings-still i (newest ∷ older) = go (nat_le newest.pending.stop i) (pendings-still i older)
  where
    go : (b : Bool) → pendings (still i older) ≡ going i (pendings older)
        → pendings (if b then still i older else newest ∷ older) ≡ (if b then going i (pendings older) else pendings (newest ∷ older))
    go true e = e
    go false e = refl

-- the ends that were made, and the containers that may yet go on
pub record IsWalked {V : Type 0} (law : Law V) (old now : Standing V) (parts : List SeenPart) (place : ℕ) (at : Option ℕ) (gs : List Going) : Type 0 where
  pub rest : List Going
  pub done : List Call
  pub linked : Linked parts at rest
  pub ended_is : end_calls_before place (pendings gs) ≡ done ++ end_calls_before place (pendings rest)
  pub still_is : still place gs ≡ still place rest
  pub streams : Streams law old (makes done) now

-- the newest container that may go on, as a part
pub record Newest (parts : List SeenPart) (at : ℕ) (rest : List Going) : Type 0 where
  pub newest : Going
  pub older : List Going
  pub rest_is : rest ≡ newest ∷ older
  pub place_is : newest.place ≡ at
  pub link : Link parts (Some at) newest
  pub linked : Linked parts (outer_of (map flat_part_of parts) link.part.holder) older

pub newest_of : (parts : List SeenPart) (at : ℕ) (rest : List Going) → Linked parts (Some at) rest → Newest parts at rest
newest_of parts at [] l = cc l
newest_of parts at (newest ∷ older) l =
    let e = l.0.at in let same : newest.place ≡ at = cc e in record { newest = newest; older = older; rest_is = refl; place_is = same; link = l.0; linked = l.1 }

get_within : {X : Type 0} (xs : List X) (i : ℕ) (x : X) → slice_get xs i ≡ Some x → i < length xs
get_within [] i x e = cc e
get_within (y ∷ xs) zero x e = omega arith
get_within (y ∷ xs) (suc i) x e = let h = get_within xs i x e in omega arith

pub linked_within : (parts : List SeenPart) (at : ℕ) (rest : List Going) → Linked parts (Some at) rest → at < length parts
linked_within parts at rest l = let n = newest_of parts at rest l in get_within parts at n.link.part (ap (slice_get parts) (sym n.place_is) ∙ n.link.found)

get_same : {X : Type 0} (xs : List X) (i : ℕ) (x d : X) → slice_get xs i ≡ Some x → get_or xs i d ≡ x
get_same [] i x d e = cc e
get_same (y ∷ xs) zero x d e = cc e
get_same (y ∷ xs) (suc i) x d e = get_same xs i x d e

-- it is the part that stands there
pub newest_part : (parts : List SeenPart) (at : ℕ) (rest : List Going) (l : Linked parts (Some at) rest) (p : SeenPart) → p ≡ get_or parts at p → (newest_of parts at rest l).link.part ≡ p
newest_part parts at rest l p e =
    let n = newest_of parts at rest l in sym (e ∙ get_same parts at n.link.part p (ap (slice_get parts) (sym n.place_is) ∙ n.link.found))

module _ {V : Type 0} {law : Law V} {old now : Standing V} {parts : List SeenPart} {place : ℕ} {gs : List Going} where
  pub walk-none : (w : IsWalked law old now parts place None gs) → MakesEnds law parts place gs old None now
  walk-none w = go w.rest w.linked w.ended_is w.still_is
    where
      go : (rest : List Going) → Linked parts None rest → end_calls_before place (pendings gs) ≡ w.done ++ end_calls_before place (pendings rest) → still place gs ≡ still place rest
          → MakesEnds law parts place gs old None now
      go [] l e s = record { streams = subst (λ calls. Streams law old (makes calls) now) (sym (e ∙ append-nil w.done)) w.streams; linked = subst (Linked parts None) (sym s) refl }
      go (newest ∷ older) l e s = let never = l.0.at in cc never

  -- the newest goes on at this place
  pub walk-goes_on : (at : ℕ) (p : SeenPart) (w : IsWalked law old now parts place (Some at) gs) → p ≡ get_or parts at p → place - at ≤ p.holds
      → MakesEnds law parts place gs old (Some at) now
  walk-goes_on at p w same h =
      let n = newest_of parts at w.rest w.linked in
      let stop : n.newest.pending.stop ≡ at + 1 + p.holds =
      ap (λ (x : Pending). x.stop) n.link.pending ∙ ap (λ k. k + 1 + n.link.part.holds) n.place_is ∙ ap (λ (x : SeenPart). at + 1 + x.holds) (newest_part parts at w.rest w.linked p same) in
      let e : nat_le n.newest.pending.stop place ≡ false = grind (arith, nat_tests) in
      let none_ends : end_calls_before place (pendings w.rest) ≡ [] = ap (λ gs. end_calls_before place (pendings gs)) n.rest_is ∙ rw e refl in
      let all_go : still place w.rest ≡ w.rest = ap (still place) n.rest_is ∙ rw e (sym n.rest_is) in
      record {
        streams = subst (λ calls. Streams law old (makes calls) now) (sym (w.ended_is ∙ ap (λ calls. w.done ++ calls) none_ends ∙ append-nil w.done)) w.streams;
        linked = subst (Linked parts (Some at)) (sym (w.still_is ∙ all_go)) w.linked;
      }

  module _ (at : ℕ) (p : SeenPart) (w : IsWalked law old now parts place (Some at) gs) (same : p ≡ get_or parts at p) (h : p.holds < place - at) where
    abbrev n : Newest parts at w.rest
    n = newest_of parts at w.rest w.linked

    part_is : n.link.part ≡ p
    part_is = newest_part parts at w.rest w.linked p same

    stops_here : nat_le n.newest.pending.stop place ≡ true
    stops_here =
        let stop : n.newest.pending.stop ≡ at + 1 + p.holds =
        ap (λ (x : Pending). x.stop) n.link.pending ∙ ap (λ k. k + 1 + n.link.part.holds) n.place_is ∙ ap (λ (x : SeenPart). at + 1 + x.holds) part_is in
        grind (arith, nat_tests)

    end_is : ends_of_part p.kind ≡ n.newest.pending.end ∷ []
    end_is =
        ap (λ (x : SeenPart). ends_of_part x.kind) (sym part_is) ∙ ap ends_of_part n.link.kind ∙ ap (λ (x : Pending). x.end ∷ []) (sym n.link.pending)

    ends_here : end_calls_before place (pendings w.rest) ≡ ends_of_part p.kind ++ end_calls_before place (pendings n.older)
    ends_here = let e = stops_here in ap (λ gs. end_calls_before place (pendings gs)) n.rest_is ∙ rw e (ap (λ calls. calls ++ end_calls_before place (pendings n.older)) (sym end_is))

    still_here : still place w.rest ≡ still place n.older
    still_here = let e = stops_here in ap (still place) n.rest_is ∙ rw e refl

    pub walk-step : {new : Standing V} → Streams law now (makes (ends_of_part p.kind)) new → IsWalked law old new parts place (outer_of (map flat_part_of parts) p.holder) gs
    walk-step t = record {
      rest = n.older;
      done = w.done ++ ends_of_part p.kind;
      linked = subst (λ (x : SeenPart). Linked parts (outer_of (map flat_part_of parts) x.holder) n.older) part_is n.linked;
      ended_is = w.ended_is ∙ ap (λ calls. w.done ++ calls) ends_here ∙ sym (append_assoc w.done (ends_of_part p.kind) (end_calls_before place (pendings n.older)));
      still_is = w.still_is ∙ still_here;
      streams = goes_on w.streams t;
    }

    pub walk-stop : {new : Standing V} → Stops law now (makes (ends_of_part p.kind)) new → Stops law old (makes (end_calls_before place (pendings gs))) new
    walk-stop {new} t =
        subst (λ calls. Stops law old (makes calls) new) (sym (w.ended_is ∙ ap (λ calls. w.done ++ calls) ends_here)) (stops_in (end_calls_before place (pendings n.older)) w.streams t)

    pub walk-below : IsBelow (outer_of (map flat_part_of parts) p.holder) at
    walk-below = subst (λ (x : SeenPart). IsBelow (outer_of (map flat_part_of parts) x.holder) at) part_is (subst (IsBelow (outer_of (map flat_part_of parts) n.link.part.holder)) n.place_is n.link.below)

-- the walk comes nearer to none
abbrev pub steps_left : Option ℕ → ℕ
steps_left None = 0
steps_left (Some at) = at + 1

pub nearer : (next now : Option ℕ) (at : ℕ) → now ≡ Some at → IsBelow next at → steps_left next < steps_left now
nearer None now at e h = rw e (omega arith)
nearer (Some place) now at e h = rw e (omega arith)

-- where a `?` passes on that an end was refused
pub ends_stopped : {V : Type 0} {law : Law V} {old new : Standing V} (parts : List SeenPart) (place : ℕ) (gs : List Going) (r : Result (Option ℕ) Error) → IsErr r
    → Stops law old (makes (end_calls_before place (pendings gs))) new → EndsAreMade law parts place gs old r new
ends_stopped parts place gs (Ok next) is s = cc is
ends_stopped parts place gs (Err refusal) is s = s

-- ---- each part

-- all these containers stand before place i
abbrev Before : ℕ → List Going → Type 0
Before i [] = ⊤
Before i (newest ∷ older) = (newest.place < i) × Before i older

before-more : (i : ℕ) (gs : List Going) → Before i gs → Before (i + 1) gs
before-more i [] b = tt
before-more i (newest ∷ older) b = (omega (arith, b.0), before-more i older b.1)

before-still : (i k : ℕ) (gs : List Going) → Before k gs → Before k (still i gs)
before-still i k [] b = tt
before-still i k (newest ∷ older) b = go (nat_le newest.pending.stop i) (before-still i k older b.1)
  where
    go : (t : Bool) → Before k (still i older) → Before k (if t then still i older else newest ∷ older)
    go true rest = rest
    go false rest = b

top_below : (i : ℕ) (gs : List Going) → Before i gs → IsBelow (newest_place_of gs) i
top_below i [] b = tt
top_below i (newest ∷ older) b = b.0

linked_top : (parts : List SeenPart) (at : Option ℕ) (gs : List Going) → Linked parts at gs → at ≡ newest_place_of gs
linked_top parts at [] l = l
linked_top parts at (newest ∷ older) l = l.0.at

opens-opened : (i holds : ℕ) (kind : FlatKind) (gs : List Going) → pendings (opens_part i holds kind gs) ≡ opened i holds kind (pendings gs)
opens-opened i holds (flat.One call) gs = refl
opens-opened i holds (flat.Words held) gs = refl
opens-opened i holds (flat.Bytes held) gs = refl
opens-opened i holds (flat.Holder begin) gs = refl

-- the calls that were made, and the containers that go on at place i or before it
pub record IsReplayed {V : Type 0} (law : Law V) (old now : Standing V) (parts : List SeenPart) (i : ℕ) (at : Option ℕ) : Type 0 where
  pub gs : List Going
  pub done : List Call
  pub linked : Linked parts at gs
  pub before : Before i gs
  pub nested : Nested (map flat_part_of parts) i gs (map flat_part_of (drop i parts)) (map holder (drop i parts))
  pub all_is : pass 0 [] (map flat_part_of parts) ≡ done ++ pass i (pendings gs) (map flat_part_of (drop i parts))
  pub streams : Streams law old (makes done) now

-- where a container is opened, it is the newest, and else the newest is that of before
unfoldable pub newest_after : ℕ → FlatKind → Option ℕ → Option ℕ
newest_after i kind at = if is_holder kind then Some i else at

module _ {V : Type 0} {law : Law V} {old now : Standing V} {parts : List SeenPart} {i : ℕ} {at : Option ℕ} (p : SeenPart) (r : IsReplayed law old now parts i at) (lt : i < length parts) (same : p ≡ get_or parts i p) where
  abbrev more : List FlatPart
  more = map flat_part_of (drop (i + 1) parts)

  abbrev ends : List Call
  ends = end_calls_before i (pendings r.gs)

  abbrev heads : List Call
  heads = head_calls p.kind

  abbrev gs' : List Going
  gs' = opens_part i p.holds p.kind (still i r.gs)

  dropped : drop i parts ≡ p ∷ drop (i + 1) parts
  dropped = rw add-one (drop-cons parts i p lt) ∙ ap (λ (x : SeenPart). x ∷ drop (i + 1) parts) (sym same)

  here : Nested (map flat_part_of parts) i r.gs (flat_part_of p ∷ more) (p.holder ∷ map holder (drop (i + 1) parts))
  here = subst (λ (ps : List SeenPart). Nested (map flat_part_of parts) i r.gs (map flat_part_of ps) (map holder ps)) dropped r.nested

  passed : pass 0 [] (map flat_part_of parts) ≡ r.done ++ (ends ++ (heads ++ pass (i + 1) (pendings gs') more))
  unfolding pass
  passed =
      r.all_is
      ∙ ap (λ (ps : List SeenPart). r.done ++ pass i (pendings r.gs) (map flat_part_of ps)) dropped
      ∙ ap (λ (qs : List Pending). r.done ++ (ends ++ (heads ++ pass (i + 1) qs more)))
      (ap (opened i p.holds p.kind) (sym (pendings-still i r.gs)) ∙ sym (opens-opened i p.holds p.kind (still i r.gs)))

  -- the ends before it were refused
  pub replay-stop_ends : {mid : Standing V} → Stops law now (makes ends) mid → Stops law old (makes (pass 0 [] (map flat_part_of parts))) mid
  replay-stop_ends {mid} t = subst (λ calls. Stops law old (makes calls) mid) (sym passed) (stops_in (heads ++ pass (i + 1) (pendings gs') more) r.streams t)

  linked_after : (next : Option ℕ) → Linked parts next (still i r.gs) → Linked parts (newest_after i p.kind next) gs'
  unfolding newest_after
  linked_after next l = go p.kind refl
    where
      found : slice_get parts i ≡ Some p
      found = get_found parts i p lt same

      below : IsBelow (outer_of (map flat_part_of parts) p.holder) i
      below = subst (λ o. IsBelow o i) (sym here.0) (top_below i (still i r.gs) (before-still i i r.gs r.before))

      go : (k : FlatKind) → p.kind ≡ k → Linked parts (if is_holder k then Some i else next) (opens_part i p.holds k (still i r.gs))
      go (flat.One call) e = l
      go (flat.Words held) e = l
      go (flat.Bytes held) e = l
      go (flat.Holder begin) e = (
        record { part = p; at = refl; found = found; begin = begin; kind = e; pending = refl; below = below },
        subst (λ o. Linked parts o (still i r.gs)) (linked_top parts next (still i r.gs) l ∙ sym here.0) l,
      )

  before_after : Before (i + 1) gs'
  before_after = go p.kind
    where
      older : Before (i + 1) (still i r.gs)
      older = before-more i (still i r.gs) (before-still i i r.gs r.before)

      go : (k : FlatKind) → Before (i + 1) (opens_part i p.holds k (still i r.gs))
      go (flat.One call) = older
      go (flat.Words held) = older
      go (flat.Bytes held) = older
      go (flat.Holder begin) = (omega arith, older)

  module _ {mid new : Standing V} (s : Streams law now (makes ends) mid) where
    -- its own calls were refused
    pub replay-stop_head : Stops law mid (makes heads) new → Stops law old (makes (pass 0 [] (map flat_part_of parts))) new
    replay-stop_head t =
        subst (λ calls. Stops law old (makes calls) new) (append_assoc r.done ends (heads ++ pass (i + 1) (pendings gs') more) ∙ sym passed)
        (stops_in (pass (i + 1) (pendings gs') more) (goes_on r.streams s) t)

    pub replay-step : (next : Option ℕ) → Linked parts next (still i r.gs) → Streams law mid (makes heads) new → IsReplayed law old new parts (i + 1) (newest_after i p.kind next)
    replay-step next l t = record {
      gs = gs';
      done = (r.done ++ ends) ++ heads;
      linked = linked_after next l;
      before = before_after;
      nested = here.1;
      all_is = passed ∙ sym (append_assoc r.done ends (heads ++ pass (i + 1) (pendings gs') more)) ∙ sym (append_assoc (r.done ++ ends) heads (pass (i + 1) (pendings gs') more));
      streams = goes_on (goes_on r.streams s) t;
    }

-- ---- the end

all_stop : (i : ℕ) (gs : List Going) → AllStop i gs → end_calls_before i (pendings gs) ≡ all_ends (pendings gs)
all_stop i [] h = refl
all_stop i (newest ∷ older) h =
    let stops = h.0 in
    let e : nat_le newest.pending.stop i ≡ true = grind (arith, nat_tests) in
    let rest = all_stop i older h.1 in rw e (ap (λ calls. newest.pending.end ∷ calls) rest)

module _ {V : Type 0} {law : Law V} {old now : Standing V} {parts : List SeenPart} {i : ℕ} {at : Option ℕ} (r : IsReplayed law old now parts i at) (left : length parts ≤ i) (j : ℕ) (same : j ≡ i) where
  none_left : drop i parts ≡ []
  none_left = drop_all parts i left

  last_is : pass 0 [] (map flat_part_of parts) ≡ r.done ++ end_calls_before j (pendings r.gs)
  unfolding pass
  last_is =
      r.all_is
      ∙ ap (λ (ps : List SeenPart). r.done ++ pass i (pendings r.gs) (map flat_part_of ps)) none_left
      ∙ ap (λ calls. r.done ++ calls) (sym (all_stop i r.gs (subst (λ (ps : List SeenPart). Nested (map flat_part_of parts) i r.gs (map flat_part_of ps) (map holder ps)) none_left r.nested)))
      ∙ ap (λ k. r.done ++ end_calls_before k (pendings r.gs)) (sym same)

  pub replay-end : {new : Standing V} → Streams law now (makes (end_calls_before j (pendings r.gs))) new → Streams law old (makes (pass 0 [] (map flat_part_of parts))) new
  replay-end {new} t = subst (λ calls. Streams law old (makes calls) new) (sym last_is) (goes_on r.streams t)

  pub replay-stop_last : {new : Standing V} → Stops law now (makes (end_calls_before j (pendings r.gs))) new → Stops law old (makes (pass 0 [] (map flat_part_of parts))) new
  replay-stop_last {new} t =
      let all : Stops law old (makes (r.done ++ (end_calls_before j (pendings r.gs) ++ []))) new = stops_in [] r.streams t in
      subst (λ calls. Stops law old (makes calls) new) (ap (λ calls. r.done ++ calls) (append-nil (end_calls_before j (pendings r.gs))) ∙ sym last_is) all

pub newest_opened : (i : ℕ) (kind : FlatKind) (at : Option ℕ) (b : Bool) → b ≡ is_holder kind → b ≡ true → newest_after i kind at ≡ Some i
unfolding newest_after
newest_opened i kind at b e h = ap (λ (t : Bool). if t then Some i else at) (sym e ∙ h)

pub newest_kept : (i : ℕ) (kind : FlatKind) (at : Option ℕ) (b : Bool) → b ≡ is_holder kind → b ≡ false → newest_after i kind at ≡ at
unfolding newest_after
newest_kept i kind at b e h = ap (λ (t : Bool). if t then Some i else at) (sym e ∙ h)

-- ---- the replay of a forest

some_first : (k : FlatKind) (rest : List Call) → null_for_none (head_calls k ++ rest) ≡ head_calls k ++ rest
some_first (flat.One call) rest = refl
some_first (flat.Words held) rest = refl
some_first (flat.Bytes held) rest = refl
some_first (flat.Holder begin) rest = refl

some_passed : (parts : List FlatPart) → 0 < length parts → null_for_none (pass 0 [] parts) ≡ pass 0 [] parts
unfolding pass
some_passed [] h = absurd (omega arith)
some_passed (p ∷ parts) h = some_first p.kind (pass 1 (opened 0 p.holds p.kind []) parts)

none_passed : (parts : List FlatPart) → length parts ≡ 0 → null_for_none (pass 0 [] parts) ≡ Null ∷ []
unfolding pass
none_passed [] h = refl
none_passed (p ∷ parts) h = absurd (omega arith)

passed_all : (parts : List SeenPart) (places : List ℕ) (f : Forest) → TellsForest parts places f → null_for_none (pass 0 [] (map flat_part_of parts)) ≡ replayed f
passed_all parts places f t = ap (λ xs. null_for_none (pass 0 [] xs)) t.parts_are ∙ ap null_for_none (pass-flat f)

pub replay_none : (parts : List SeenPart) (places : List ℕ) (f : Forest) → TellsForest parts places f → length parts ≡ 0 → Null ∷ [] ≡ replayed f
replay_none parts places f t h = sym (none_passed (map flat_part_of parts) (length-map parts flat_part_of ∙ h)) ∙ passed_all parts places f t

pub replay_some : (parts : List SeenPart) (places : List ℕ) (f : Forest) → TellsForest parts places f → 0 < length parts → pass 0 [] (map flat_part_of parts) ≡ replayed f
replay_some parts places f t h =
    let size = length-map parts flat_part_of in
    sym (some_passed (map flat_part_of parts) (omega arith)) ∙ passed_all parts places f t

-- the one call of no value
pub null_emitted : {V : Type 0} (law : Law V) (old new : Standing V) (r : Result (Unit {0}) Error) (f : Forest) → Null ∷ [] ≡ replayed f → Answers law r old Null new → Emits law r old (makes (replayed f)) new
unfolding emits
null_emitted law old new (Ok done) f e t = subst (λ calls. Streams law old (makes calls) new) e (streams_one t)
null_emitted law old new (Err refusal) f e t = subst (λ calls. Stops law old (makes calls) new) e (stops_one t)
