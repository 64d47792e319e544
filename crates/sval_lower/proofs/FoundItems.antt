-- What the streams of readers hold in the end.
use Rattle.std.specs.Prelude.{◌≡◌, Bool, true, false, not, ◌&&◌, ◌||◌, List, [], ◌∷◌, is_some, Option, Some, None, option_and_then, find, filter_map, if◌then◌else◌, refl}
use Rattle.std.specs.List.{list_all, cons_option}
use Rattle.std.specs.Option.{option_or}
use Rattle.std.proofs.Common.{◌∙◌, sym, arith, inl, inr}
use Rattle.sval_label.specs.Calls.{Tag, Call}
use Rattle.sval_core.specs.Law.{Law, Ran, HasCause, StoppedIn}
use Rattle.sval_lower.specs.Readers.{last_of, only_of, found, says_no_tag, call_tag}
use Rattle.sval_lower.specs.Reading.{holding, may_go_on, item_of, item_law, tag_law}
use Rattle.sval_lower.specs.ReaderLaws.{IsFound, TagIsHeld}

-- a reader counts nothing, so it refused a call only because it doesn't take it
not_accepted : {T : Type 0} (law : Law (Option T)) (view : Option T) (call : Call) (old new : Option T) → HasCause law view call (holding old) (holding new) → law.accepts view call → ⊥
not_accepted law view call old new (inl refused) = refused
not_accepted law view call old new (inr (inl rose)) = absurd (omega (arith, rose))
not_accepted law view call old new (inr (inr rose)) = absurd (omega (arith, rose))

not_true : (b : Bool) → (b ≡ true → ⊥) → b ≡ false
not_true true no_way = absurd (no_way refl)
not_true false no_way = refl

-- a list of which some call doesn't fit, by where that call stands
unfit_here : (refuses fit rest : Bool) → fit ≡ false → (not refuses && (fit && rest)) ≡ false
unfit_here true fit rest e = refl
unfit_here false fit rest e = rw e refl

unfit_later : (refuses fit rest : Bool) → fit ≡ true → (not refuses && rest) ≡ false → (not refuses && (fit && rest)) ≡ false
unfit_later refuses fit rest e f = rw e f

module _ {T : Type 0} (read : Call → Option T) (over : Call → Bool) where
  abbrev fits : Call → Bool
  fits call = is_some (read call) || over call

  -- where more than one item may be read, each call that fits goes on
  fits_alone : (held item : Option T) (over : Bool) → may_go_on false held item over ≡ (is_some item || over)
  fits_alone held (Some x) over = refl
  fits_alone held None over = refl

  any_other : (held other : Option T) (x : T) (items : List T) → option_or (last_of (x ∷ items)) held ≡ option_or (last_of (x ∷ items)) other
  any_other held other x [] = refl
  any_other held other x (y ∷ items) = any_other held other y items

  -- the last item of these, or else the one that is held
  abbrev last_from : Option T → List T → Option T
  last_from held items = option_or (last_of items) held

  last_more : (held item : Option T) (items : List T) → last_from (option_or item held) items ≡ last_from held (cons_option item items)
  last_more held None items = refl
  last_more held (Some x) [] = refl
  last_more held (Some x) (y ∷ items) = any_other (Some x) held y items

  last_ran : (calls : List Call) (held last : Option T) → Ran (item_law false read over) held calls last
      → (list_all fits calls ≡ true) × (last ≡ last_from held (filter_map read calls))
  last_ran [] held last e = (refl, e)
  last_ran (call ∷ calls) held last r =
      let rest = last_ran calls (option_or (read call) held) last r.1 in
      let here = sym (fits_alone held (read call) (over call)) ∙ r.0 in
      (rw here rest.0, rest.1 ∙ last_more held (read call) (filter_map read calls))

  last_stopped : (calls : List Call) (held old new : Option T) (refuses : Bool) → StoppedIn (item_law false read over) (holding old) (holding new) held calls refuses
      → (not refuses && list_all fits calls) ≡ false
  last_stopped [] held old new refuses p = let h = p.0 in rw h refl
  last_stopped (call ∷ calls) held old new refuses (inl p) =
      unfit_here refuses (fits call) (list_all fits calls)
      (sym (fits_alone held (read call) (over call))
      ∙ not_true (may_go_on false held (read call) (over call)) (not_accepted (item_law false read over) held call old new p.0))
  last_stopped (call ∷ calls) held old new refuses (inr p) =
      unfit_later refuses (fits call) (list_all fits calls) (sym (fits_alone held (read call) (over call)) ∙ p.0) (last_stopped calls (option_or (read call) held) old new refuses p.1)

  last_or_none : (items : List T) → last_from None items ≡ last_of items
  last_or_none [] = refl
  last_or_none (x ∷ []) = refl
  last_or_none (x ∷ y ∷ items) = last_or_none (y ∷ items)

  pub last_is_found : IsFound (item_law false read over) (found last_of read over)
  last_is_found = record {
    on_ok = λ e held s.
        let r = last_ran e.calls None held s.ran in
        let w = s.willing in let f = r.0 in
        rw (w, f) (r.1 ∙ last_or_none (filter_map read e.calls));
    on_err = λ e held s. let f = last_stopped e.calls None None held e.refuses s.stopped in rw f refl;
  }

  -- ---- the only one

  -- what is picked, where one item may be held already, and the calls are as that of the first item and the others
  abbrev only_from : Option T → Bool → List Call → Option T
  only_from held refuses calls = if not refuses && list_all fits calls then only_of (cons_option held (filter_map read calls)) else None

  goes_on : (held item : Option T) (over fit refuses : Bool) (items : List T) → may_go_on true held item over ≡ true
      → (if not refuses && ((is_some item || over) && fit) then only_of (cons_option held (cons_option item items)) else None)
      ≡ (if not refuses && fit then only_of (cons_option (option_or item held) items) else None)
  goes_on held None over fit refuses items e = rw e refl
  goes_on None (Some x) over fit refuses items e = refl
  goes_on (Some y) (Some x) over fit refuses items e = absurd (cc)

  none_by : (b : Bool) (o : Option T) → o ≡ None → (if b then o else None) ≡ None
  none_by true o e = e
  none_by false o e = refl

  ends_here : (held item : Option T) (over fit refuses : Bool) (items : List T) → may_go_on true held item over ≡ false
      → (if not refuses && ((is_some item || over) && fit) then only_of (cons_option held (cons_option item items)) else None) ≡ None
  ends_here held None over fit true items e = refl
  ends_here held None over fit false items e = rw e refl
  ends_here None (Some x) over fit refuses items e = absurd (cc)
  ends_here (Some y) (Some x) over fit refuses items e = none_by (not refuses && ((is_some (Some x) || over) && fit)) (only_of (y ∷ x ∷ items)) refl

  only_held : (held : Option T) → held ≡ only_of (cons_option held [])
  only_held None = refl
  only_held (Some x) = refl

  only_ran : (calls : List Call) (held last : Option T) → Ran (item_law true read over) held calls last → last ≡ only_from held false calls
  only_ran [] held last e = e ∙ only_held held
  only_ran (call ∷ calls) held last r =
      only_ran calls (option_or (read call) held) last r.1 ∙ sym (goes_on held (read call) (over call) (list_all fits calls) false (filter_map read calls) r.0)

  only_stopped : (calls : List Call) (held old new : Option T) (refuses : Bool) → StoppedIn (item_law true read over) (holding old) (holding new) held calls refuses
      → only_from held refuses calls ≡ None
  only_stopped [] held old new refuses p = let h = p.0 in rw h refl
  only_stopped (call ∷ calls) held old new refuses (inl p) =
      ends_here held (read call) (over call) (list_all fits calls) refuses (filter_map read calls)
      (not_true (may_go_on true held (read call) (over call)) (not_accepted (item_law true read over) held call old new p.0))
  only_stopped (call ∷ calls) held old new refuses (inr p) =
      goes_on held (read call) (over call) (list_all fits calls) refuses (filter_map read calls) p.0
      ∙ only_stopped calls (option_or (read call) held) old new refuses p.1

  pub only_is_found : IsFound (item_law true read over) (found only_of read over)
  only_is_found = record {
    on_ok = λ e held s. let r = only_ran e.calls None held s.ran in let w = s.willing in rw w r;
    on_err = λ e held s. sym (only_stopped e.calls None None held e.refuses s.stopped);
  }

pub item_is_found : {T : Type 0} (once : Bool) (read : Call → Option T) (over : Call → Bool) → IsFound (item_law once read over) (found (item_of once) read over)
item_is_found true read over = only_is_found read over
item_is_found false read over = last_is_found read over

-- ---- the tag

tag_ran : (calls : List Call) (last : Option Tag) → Ran tag_law None calls last → last ≡ option_and_then call_tag (find (λ call. not (says_no_tag call)) calls)
tag_ran [] last e = e
tag_ran (call ∷ calls) last r = let here = r.0 in rw here (tag_ran calls last r.1)

tag_stopped : (calls : List Call) (old new : Option Tag) (refuses : Bool) → StoppedIn tag_law (holding old) (holding new) None calls refuses
    → new ≡ option_and_then call_tag (find (λ call. not (says_no_tag call)) calls)
tag_stopped [] old new refuses p = p.1
tag_stopped (call ∷ calls) old new refuses (inl p) = let here = not_true (says_no_tag call) (not_accepted tag_law None call old new p.0) in rw here p.1
tag_stopped (call ∷ calls) old new refuses (inr p) = let here = p.0 in rw here (tag_stopped calls old new refuses p.1)

pub tag_is_held : TagIsHeld
tag_is_held = (λ e held s. tag_ran e.calls held s.ran, λ e held s. tag_stopped e.calls None held e.refuses s.stopped)
