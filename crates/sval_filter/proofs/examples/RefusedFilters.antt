-- What the law of a filter refuses: an answer that isn't the first that is due, and `Inner` where the inner stream refused nothing.
use Rattle.std.specs.Prelude.{◌≡◌, ℕ, ◌<◌, ◌-◌, ◌^◌, false, List, [], ◌∷◌, Some}
use Rattle.std.proofs.Common.{inl, inr, sym, ◌∙◌, subst, arith}
use Rattle.sval_label.specs.Calls.{Call}
use Rattle.sval_core.specs.Law.{Law, Standing, Rose, StoppedIn}
use Rattle.sval_core.specs.CheckerSteps.{goes_on}
use Rattle.sval_filter.specs.Paths.{Path, Rule}
use Rattle.sval_filter.specs.Filtering.{due}
use Rattle.sval_filter.proofs.Refusals.{not_both}
use Rattle.sval_filter.specs.FilterLaw.{Why, NotViable, NoMemory, Inner, FilterView, is_stopped, AcceptsAll, IsFilterCause, IsFilterLeft, wants_after}

-- a count that can rise, and stood still, didn't rise
still : (count : ℕ) → count < 2 ^ 64 - 1 → Rose count count → ⊥
still count room rose = omega (arith, room, rose)

module _ {V : Type 0} (law : Law V) where
  -- no list of calls that a stream accepts was stopped where no count rose
  all_accepted : (old : Standing V) (view : V) (calls : List Call) → old.faults < 2 ^ 64 - 1 → old.wants < 2 ^ 64 - 1 → AcceptsAll law view calls
      → StoppedIn law old old view calls false → ⊥
  all_accepted old view [] f w a s = cc (s.0)
  all_accepted old view (call ∷ calls) f w a (inl (inl refused, left)) = refused a.0
  all_accepted old view (call ∷ calls) f w a (inl (inr (inl rose), left)) = still old.faults f rose
  all_accepted old view (call ∷ calls) f w a (inl (inr (inr rose), left)) = still old.wants w rose
  all_accepted old view (call ∷ calls) f w a (inr later) = all_accepted old (law.after view call) calls f w a.1 later.1

  module _ (rule : Rule) (paths : List Path) (view left : FilterView V) (call : Call) (is : IsFilterLeft law rule paths view call left) (going : is_stopped view.why ≡ false) where
    -- a call that isn't viable is refused as that: it reaches no stream, and counts as no want
    not_viable_first : goes_on view.state call ≡ false → (left.why ≡ Some NotViable) × (left.inner ≡ view.inner) × (left.wants ≡ view.wants)
    not_viable_first never = by_last is.last is.why is.cause is.wants
      where
        by_last : (last : Why) → left.why ≡ Some last → IsFilterCause law rule paths view call left.inner last → left.wants ≡ wants_after last view.wants
            → (left.why ≡ Some NotViable) × (left.inner ≡ view.inner) × (left.wants ≡ view.wants)
        by_last NotViable e c w = (e, c.1, w)
        by_last NoMemory e c w = absurd (not_both (sym never ∙ c.0.goes.viable))
        by_last Inner e (inl stopped) w = absurd (not_both (sym going ∙ stopped.0))
        by_last Inner e (inr inside) w = absurd (not_both (sym never ∙ inside.goes.viable))

    -- `Inner` isn't the answer where the inner stream accepts what is due, and was left as it stood
    inner_has_cause : view.inner.faults < 2 ^ 64 - 1 → view.inner.wants < 2 ^ 64 - 1 → AcceptsAll law view.inner.view (due rule paths view.kept call)
        → left.inner ≡ view.inner → left.why ≡ Some Inner → ⊥
    inner_has_cause f w accepts same answer = by_cause (subst (λ last. IsFilterCause law rule paths view call left.inner last) (last_is (sym is.why ∙ answer)) is.cause)
      where
        last_is : {a b : Why} → Some a ≡ Some b → a ≡ b
        last_is e = cc e

        by_cause : IsFilterCause law rule paths view call left.inner Inner → ⊥
        by_cause (inl stopped) = not_both (sym going ∙ stopped.0)
        by_cause (inr inside) =
            all_accepted view.inner view.inner.view (due rule paths view.kept call) f w accepts
            (subst (λ inner. StoppedIn law view.inner inner view.inner.view (due rule paths view.kept call) false) same inside.stops.stopped)
