-- A value has one answer that is due, and that one comes, or want of memory.
use Rattle.std.specs.Prelude.{◌≡◌, ℕ, ◌+◌, ◌-◌, ◌^◌, ◌⊎◌, min, true, false, List, [], length, Option, Some, Ok, Err, OnOk, refl}
use Rattle.std.proofs.Common.{sym, ap, ◌∙◌, subst, arith, inl, inr}
use Rattle.sval_label.specs.Calls.{Call}
use Rattle.sval_core.specs.Law.{Emission, one_more, Streams, Stops}
use Rattle.sval_core.specs.Spells.{IsViable}
use Rattle.sval_core.specs.CheckerSteps.{is_whole_tree}
use Rattle.sval_core.proofs.Spellings.{spelling_is_viable}
use Rattle.sval_core.proofs.FirstBad.{one_first_bad, none_bad}
use Rattle.sval_core.proofs.StepLaws.{whole_decides}
use Rattle.sval_check.specs.declared.error.CheckError.TheVariants as error
use Rattle.sval_check.specs.declared.machine.Refusal.{Refusal}
use Rattle.sval_check.specs.declared.machine.Refusal.TheVariants.{NotViable, NoMemory}
use Rattle.sval_check.specs.Checking.{Checking, nothing_checked, checking_standing, checking_law, IsCauseFor, IsEndedBy, stop_by}
use Rattle.sval_check.specs.Checks.{IsOneValue, IsFirstBadCall, OnlyRefuses, IsUnfinished, NeedsMemory, CheckAnswer, IsCheckDue}
use Rattle.sval_check.proofs.SoFar.{viable_goes, appended}
use Rattle.sval_check.proofs.DueOrWant.{IsDueOrWant}
use Rattle.sval_check.proofs.CallsSoFar.{all_so_far, StopsAfterAll, StopsAt, stops}
use Rattle.sval_check.proofs.Runs.{ChecksSoFar, none_checked, checked_more}

one_number : {calls : List Call} {at other : ℕ} → IsFirstBadCall calls at → IsFirstBadCall calls other → at ≡ other
one_number b c =
    let same = one_first_bad b.front c.front b.call c.call b.rest c.rest b.whole c.whole b.before b.bad c.before c.bad in
    b.number ∙ ap (λ front. min (length front + 1) (2 ^ 64 - 1)) same ∙ sym c.number

not_viable : {calls : List Call} {at : ℕ} → IsFirstBadCall calls at → IsViable calls → ⊥
not_viable {calls} b v = none_bad calls b.front b.rest b.call b.whole v b.bad

viable : {e : Emission} → IsOneValue e → IsViable e.calls
viable {e} o = spelling_is_viable e.calls o.spells.0 o.spells.1

pub one_due : (e : Emission) (first second : CheckAnswer) → IsCheckDue e first → IsCheckDue e second → first ≡ second
one_due e (Ok u) (Ok v) p q = refl
one_due e (Ok u) (Err (error.BadCall at)) p q = absurd (not_viable q (viable p))
one_due e (Ok u) (Err error.Refused) p q = let never = sym p.willing ∙ q.refuses in cc never
one_due e (Ok u) (Err error.Unfinished) p q = absurd (q.no_tree p.spells.0 p.spells.1)
one_due e (Err (error.BadCall at)) (Ok u) p q = absurd (not_viable p (viable q))
one_due e (Err (error.BadCall at)) (Err (error.BadCall other)) p q = ap (λ n. Err (error.BadCall n)) (one_number p q)
one_due e (Err (error.BadCall at)) (Err error.Refused) p q = absurd (not_viable p q.viable)
one_due e (Err (error.BadCall at)) (Err error.Unfinished) p q = absurd (not_viable p q.viable)
one_due e (Err error.Refused) (Ok u) p q = let never = sym q.willing ∙ p.refuses in cc never
one_due e (Err error.Refused) (Err (error.BadCall at)) p q = absurd (not_viable q p.viable)
one_due e (Err error.Refused) (Err error.Refused) p q = refl
one_due e (Err error.Refused) (Err error.Unfinished) p q = let never = sym q.willing ∙ p.refuses in cc never
one_due e (Err error.Unfinished) (Ok u) p q = absurd (p.no_tree q.spells.0 q.spells.1)
one_due e (Err error.Unfinished) (Err (error.BadCall at)) p q = absurd (not_viable q p.viable)
one_due e (Err error.Unfinished) (Err error.Refused) p q = let never = sym p.willing ∙ q.refuses in cc never
one_due e (Err error.Unfinished) (Err error.Unfinished) p q = refl
one_due e (Err error.NoMemory) second p q = absurd p
one_due e first (Err error.NoMemory) p q = absurd q

-- ---- an answer that is due, or want of memory where it may come

abbrev pub IsAnswer : Emission → CheckAnswer → Type 0
IsAnswer e result = IsDueOrWant (IsCheckDue e) (NeedsMemory e.calls) result

pub answer_ok : (e : Emission) (result : CheckAnswer) → IsAnswer e result → OnOk result (IsOneValue e)
answer_ok e (Ok done) (inl is) = is
answer_ok e (Ok done) (inr is) = absurd (cc is.0)
answer_ok e (Err error) a = tt

-- ---- all calls were taken

all_checked : (e : Emission) (first last : Checking) → first ≡ nothing_checked → Streams checking_law (checking_standing first) e (checking_standing last) → ChecksSoFar last e.calls
all_checked e first last new s = all_so_far checking_law ChecksSoFar checked_more first last [] e.calls (subst (λ (c : Checking). ChecksSoFar c []) (sym new) none_checked) s.ran

pub whole_is_due : (e : Emission) (first last : Checking) → first ≡ nothing_checked → Streams checking_law (checking_standing first) e (checking_standing last) → is_whole_tree last.state ≡ true
    → IsAnswer e (Ok tt)
whole_is_due e first last new s whole =
    inl (record { willing = s.willing; spells = (whole_decides e.calls last.state (all_checked e first last new s).stands.keeps).0 whole })

pub unfinished_is_due : (e : Emission) (first last : Checking) → first ≡ nothing_checked → Streams checking_law (checking_standing first) e (checking_standing last) → is_whole_tree last.state ≡ false
    → IsAnswer e (Err error.Unfinished)
unfinished_is_due e first last new s not_whole =
    let so_far = (all_checked e first last new s).stands in
    inl (record {
      viable = so_far.viable;
      willing = s.willing;
      no_tree = λ tree spells. let never : true ≡ false = sym ((whole_decides e.calls last.state so_far.keeps).1 (tree, spells)) ∙ not_whole in cc never;
    })

-- ---- a call was refused, or the value itself refused

after_all : (e : Emission) (last : Checking) → StopsAfterAll ChecksSoFar [] e.calls e.refuses last → IsAnswer e (Err (stop_by last.why last.taken))
after_all e last r =
    subst (λ (why : Option Refusal). IsAnswer e (Err (stop_by why last.taken))) (sym r.so_far.willing) (inl (record { viable = r.so_far.stands.viable; refuses = r.refused }))

number_is : (n at last : ℕ) → at ≡ min n (2 ^ 64 - 1) → last ≡ one_more at → last ≡ min (n + 1) (2 ^ 64 - 1)
number_is n at last is same = omega (arith, is, same)

at_call : (e : Emission) (last : Checking) → StopsAt checking_law ChecksSoFar [] e.calls last → IsAnswer e (Err (stop_by last.why last.taken))
at_call e last r = by_last left.last left.why left.cause
  where
    left : IsEndedBy r.at r.call last
    left = r.left r.so_far.willing

    by_last : (why : Refusal) → last.why ≡ Some why → IsCauseFor r.at r.call why → IsAnswer e (Err (stop_by last.why last.taken))
    by_last NotViable is c = subst (λ (w : Option Refusal). IsAnswer e (Err (stop_by w last.taken))) (sym is) (inl (record {
      front = r.taken;
      call = r.call;
      rest = r.rest;
      whole = r.whole;
      before = r.so_far.stands.viable;
      bad = λ v. let never : true ≡ false = sym (viable_goes r.at.state r.taken r.call r.so_far.stands v) ∙ c in cc never;
      number = number_is (length r.taken) r.at.taken last.taken r.so_far.taken left.taken;
    }))
    by_last NoMemory is c = subst (λ (w : Option Refusal). IsAnswer e (Err (stop_by w last.taken))) (sym is) (inr (
      refl,
      record {
        front = r.taken;
        call = r.call;
        rest = r.rest;
        whole = r.whole;
        viable = (appended r.at.state r.taken r.call r.so_far.stands c.0).viable;
        opens = c.1;
      },
    ))

pub cause_is_due : (e : Emission) (first last : Checking) → first ≡ nothing_checked → Stops checking_law (checking_standing first) e (checking_standing last) → IsAnswer e (Err (stop_by last.why last.taken))
cause_is_due e first last new s =
    by_stop (stops checking_law ChecksSoFar checked_more (checking_standing first) (checking_standing last) first [] e.calls e.refuses (subst (λ (c : Checking). ChecksSoFar c []) (sym new) none_checked) s.stopped)
  where
    by_stop : StopsAfterAll ChecksSoFar [] e.calls e.refuses last ⊎ StopsAt checking_law ChecksSoFar [] e.calls last → IsAnswer e (Err (stop_by last.why last.taken))
    by_stop (inl r) = after_all e last r
    by_stop (inr r) = at_call e last r
