-- A value that is checked for many trees has one answer that is due.
use Rattle.std.specs.Prelude.{◌≡◌, ℕ, ◌+◌, ◌⊎◌, Bool, true, false, List, [], ◌∷◌, ◌++◌, length, map, Ok, Err, refl}
use Rattle.std.proofs.Common.{sym, ap, ◌∙◌, subst, inl, inr}
use Rattle.sval_label.specs.Calls.{Call}
use Rattle.sval_core.specs.Law.{Emission}
use Rattle.sval_core.specs.Checker.{Frame}
use Rattle.sval_core.specs.Many.{IsViableAll, AreEnds}
use Rattle.sval_core.specs.ManyChecker.{Progress, RunsAll}
use Rattle.sval_core.proofs.ManySpellings.{one_list, list_spelling_is_viable}
use Rattle.sval_core.proofs.ManyTaken.{viable_list_is_taken, taken_list_is_viable, ends_with_trees, trees_end, one_list_of_ends}
use Rattle.sval_core.proofs.ManyScanned.{RanAll, StoppedAll, scanned_all, one_first_bad_of_lists, none_bad_of_lists}
use Rattle.sval_check.specs.declared.error.CheckError.TheVariants as error
use Rattle.sval_check.specs.ManyChecks.{as_kept, AreValues, IsFirstBadOfList, ListAnswer, IsDueOfList}

-- ---- there is no second one

one_number : {calls : List Call} {at other : ℕ} → IsFirstBadOfList calls at → IsFirstBadOfList calls other → at ≡ other
one_number b c =
    let same = one_first_bad_of_lists b.front c.front b.call c.call b.rest c.rest b.whole c.whole b.before b.bad c.before c.bad in
    b.number ∙ ap (λ front. as_kept (length front + 1)) same ∙ sym c.number

not_viable : {calls : List Call} {at : ℕ} → IsFirstBadOfList calls at → IsViableAll calls → ⊥
not_viable {calls} b v = none_bad_of_lists calls b.front b.rest b.call b.whole v b.bad

viable : {e : Emission} {ends : List ℕ} → AreValues e ends → IsViableAll e.calls
viable {e} o = list_spelling_is_viable e.calls o.trees o.spells

one_ends : {e : Emission} (ends other : List ℕ) → AreValues e ends → AreValues e other → ends ≡ other
one_ends {e} ends other p q =
    let trees = one_list e.calls q.trees p.trees q.spells p.spells in
    let one = one_list_of_ends e.calls p.trees p.spells in
    let first = one.2 p.ends p.end_there in
    let second = one.2 q.ends (subst (λ ts. AreEnds e.calls ts q.ends) trees q.end_there) in
    p.are_kept ∙ ap (map as_kept) (sym first ∙ second) ∙ sym q.are_kept

pub one_list_due : (e : Emission) (first second : ListAnswer) → IsDueOfList e first → IsDueOfList e second → first ≡ second
one_list_due e (Ok u) (Ok v) p q = ap Ok (one_ends u v p q)
one_list_due e (Ok u) (Err (error.BadCall at)) p q = absurd (not_viable q (viable p))
one_list_due e (Ok u) (Err error.Refused) p q = let never = sym p.willing ∙ q.refuses in cc never
one_list_due e (Ok u) (Err error.Unfinished) p q = absurd (q.no_trees p.trees p.spells)
one_list_due e (Err (error.BadCall at)) (Ok u) p q = absurd (not_viable p (viable q))
one_list_due e (Err (error.BadCall at)) (Err (error.BadCall other)) p q = ap (λ n. Err (error.BadCall n)) (one_number p q)
one_list_due e (Err (error.BadCall at)) (Err error.Refused) p q = absurd (not_viable p q.viable)
one_list_due e (Err (error.BadCall at)) (Err error.Unfinished) p q = absurd (not_viable p q.viable)
one_list_due e (Err error.Refused) (Ok u) p q = let never = sym q.willing ∙ p.refuses in cc never
one_list_due e (Err error.Refused) (Err (error.BadCall at)) p q = absurd (not_viable q p.viable)
one_list_due e (Err error.Refused) (Err error.Refused) p q = refl
one_list_due e (Err error.Refused) (Err error.Unfinished) p q = let never = sym q.willing ∙ p.refuses in cc never
one_list_due e (Err error.Unfinished) (Ok u) p q = absurd (p.no_trees q.trees q.spells)
one_list_due e (Err error.Unfinished) (Err (error.BadCall at)) p q = absurd (not_viable q p.viable)
one_list_due e (Err error.Unfinished) (Err error.Refused) p q = let never = sym p.willing ∙ q.refuses in cc never
one_list_due e (Err error.Unfinished) (Err error.Unfinished) p q = refl
one_list_due e (Err error.NoMemory) second p q = absurd p
one_list_due e first (Err error.NoMemory) p q = absurd q

-- ---- and there is one

of_willing : (e : Emission) (b : Bool) (fs : List Frame) (ends : List ℕ) → e.refuses ≡ false → RunsAll 0 false [] e.calls ends b fs → (due : ListAnswer) × IsDueOfList e due
of_willing e b [] ends w r =
    let now : Progress = record { filled = b; frames = []; ends = ends } in
    let t = ends_with_trees e.calls now r refl in
    (Ok (map as_kept ends), record { willing = w; trees = t.0; ends = ends; spells = t.1; end_there = t.2; are_kept = refl })
of_willing e b (f ∷ fs) ends w r =
    let now : Progress = record { filled = b; frames = f ∷ fs; ends = ends } in
    (Err error.Unfinished, record { viable = taken_list_is_viable e.calls now r; willing = w; no_trees = λ trees s. let k : (f ∷ fs) ≡ [] = trees_end e.calls now r trees s in cc k })

pub of_ran : (e : Emission) (b : Bool) (fs : List Frame) (ends : List ℕ) (refuses : Bool) → e.refuses ≡ refuses → RunsAll 0 false [] e.calls ends b fs → (due : ListAnswer) × IsDueOfList e due
of_ran e b fs ends true w r =
    let now : Progress = record { filled = b; frames = fs; ends = ends } in
    (Err error.Refused, record { viable = taken_list_is_viable e.calls now r; refuses = w })
of_ran e b fs ends false w r = of_willing e b fs ends w r

pub of_scan : (e : Emission) → RanAll 0 false [] e.calls ⊎ StoppedAll 0 false [] e.calls → (due : ListAnswer) × IsDueOfList e due
of_scan e (inl r) = of_ran e r.0 r.1 r.2 e.refuses refl r.3
of_scan e (inr s) =
    let now : Progress = record { filled = s.filled; frames = s.frames; ends = s.ends } in (
      Err (error.BadCall (as_kept (length s.front + 1))),
      record {
        front = s.front;
        call = s.call;
        rest = s.rest;
        whole = s.whole;
        before = taken_list_is_viable s.front now s.runs;
        bad = λ v. let k = viable_list_is_taken (s.front ++ (s.call ∷ [])) v in s.stops k.0.ends k.0.filled k.0.frames k.1;
        number = refl;
      },
    )

pub one_list_answer : (e : Emission) → (due : ListAnswer) × IsDueOfList e due × ((other : ListAnswer) → IsDueOfList e other → due ≡ other)
one_list_answer e = let d = of_scan e (scanned_all e.calls 0 false []) in (d.0, d.1, λ other h. one_list_due e d.0 other d.1 h)
