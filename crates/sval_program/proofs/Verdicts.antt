-- Each script has one verdict, where each tree gives one thing.
use Rattle.std.specs.Prelude.{◌≡◌, ℕ, List, length, refl}
use Rattle.std.proofs.Common.{sym, ap, ◌∙◌, subst, arith}
use Rattle.sval_label.specs.Calls.{Call}
use Rattle.sval_core.specs.Spells.{Spells}
use Rattle.sval_core.specs.Trees.{Tree}
use Rattle.sval_core.proofs.FirstBad.{one_first_bad, none_bad}
use Rattle.sval_core.proofs.Spellings.{spells_one, spelling_is_viable}
use Rattle.sval_check.specs.Checks.{IsFirstBadCall}
use Rattle.sval_script.specs.Lines.{Lines, Good, Bad, lines}
use Rattle.sval_program.specs.Laws.{OneVerdict}
use Rattle.sval_program.specs.Verdict.{Verdict, BadLine, BadCall, Unfinished, Whole, AreUnfinished, SpellWhole, IsOfCalls, OfCalls, IsVerdict, GiveOne}
use Rattle.sval_program.proofs.FoundCalls.{Found, found_bad, found_open, found_whole, found}

-- ---- of calls

one_number : (calls : List Call) (n m : ℕ) → IsFirstBadCall calls n → IsFirstBadCall calls m → n ≡ m
one_number calls n m a b =
    let same : length a.front ≡ length b.front = ap length (one_first_bad a.front b.front a.call b.call a.rest b.rest a.whole b.whole a.before a.bad b.before b.bad) in
    omega (arith, same, a.number, b.number)

not_viable : (calls : List Call) (n : ℕ) → IsFirstBadCall calls n → AreUnfinished calls → ⊥
not_viable calls n a u = none_bad calls a.front a.rest a.call a.whole u.viable a.bad

not_whole : (calls : List Call) (n : ℕ) (tree : Tree) → IsFirstBadCall calls n → Spells calls tree → ⊥
not_whole calls n tree a s = none_bad calls a.front a.rest a.call a.whole (spelling_is_viable calls tree s) a.bad

-- ---- of lines

same_calls : {found : Lines} {calls others : List Call} → found ≡ Good calls → found ≡ Good others → others ≡ calls
same_calls e f = let both = sym f ∙ e in cc both

bad_or_good : {found : Lines} {n : ℕ} {calls : List Call} → found ≡ Bad n → found ≡ Good calls → ⊥
bad_or_good e f = let both = sym e ∙ f in cc both

one_bad : {found : Lines} {n m : ℕ} → found ≡ Bad n → found ≡ Bad m → n ≡ m
one_bad e f = let both = sym e ∙ f in cc both

-- ---- where each tree gives one thing

module _ {A : Type 0} (Gives : A → Tree → Type 0) (each : GiveOne Gives) where
  one_whole : (calls : List Call) (due other : A) → SpellWhole Gives due calls → SpellWhole Gives other calls → due ≡ other
  one_whole calls due other a b = each.one b.tree due other (subst (Gives due) (spells_one calls a.tree b.tree a.spells b.spells) a.is) b.is

  one_of_calls : (v w : Verdict A) (calls : List Call) → IsOfCalls Gives v calls → IsOfCalls Gives w calls → v ≡ w
  one_of_calls (BadLine n) w calls a b = absurd a
  one_of_calls v (BadLine n) calls a b = absurd b
  one_of_calls (BadCall n) (BadCall m) calls a b = ap BadCall (one_number calls n m a b)
  one_of_calls (BadCall n) Unfinished calls a b = absurd (not_viable calls n a b)
  one_of_calls (BadCall n) (Whole due) calls a b = absurd (not_whole calls n b.tree a b.spells)
  one_of_calls Unfinished (BadCall n) calls a b = absurd (not_viable calls n b a)
  one_of_calls Unfinished Unfinished calls a b = refl
  one_of_calls Unfinished (Whole due) calls a b = absurd (a.no_tree b.tree b.spells)
  one_of_calls (Whole due) (BadCall n) calls a b = absurd (not_whole calls n a.tree b a.spells)
  one_of_calls (Whole due) Unfinished calls a b = absurd (b.no_tree a.tree a.spells)
  one_of_calls (Whole due) (Whole other) calls a b = ap Whole (one_whole calls due other a b)

  one_of_lines : (v w : Verdict A) (script : List ℕ) → OfCalls Gives v script → OfCalls Gives w script → v ≡ w
  one_of_lines v w script a b = one_of_calls v w a.calls a.is (subst (IsOfCalls Gives w) (same_calls a.good b.good) b.is)

  -- a script has no second verdict
  pub no_second : (v w : Verdict A) (script : List ℕ) → IsVerdict Gives v script → IsVerdict Gives w script → v ≡ w
  no_second (BadLine n) (BadLine m) script a b = ap BadLine (one_bad a b)
  no_second (BadLine n) (BadCall m) script a b = absurd (bad_or_good a b.good)
  no_second (BadLine n) Unfinished script a b = absurd (bad_or_good a b.good)
  no_second (BadLine n) (Whole due) script a b = absurd (bad_or_good a b.good)
  no_second (BadCall n) (BadLine m) script a b = absurd (bad_or_good b a.good)
  no_second (BadCall n) (BadCall m) script a b = one_of_lines (BadCall n) (BadCall m) script a b
  no_second (BadCall n) Unfinished script a b = one_of_lines (BadCall n) Unfinished script a b
  no_second (BadCall n) (Whole due) script a b = one_of_lines (BadCall n) (Whole due) script a b
  no_second Unfinished (BadLine m) script a b = absurd (bad_or_good b a.good)
  no_second Unfinished (BadCall m) script a b = one_of_lines Unfinished (BadCall m) script a b
  no_second Unfinished Unfinished script a b = refl
  no_second Unfinished (Whole due) script a b = one_of_lines Unfinished (Whole due) script a b
  no_second (Whole due) (BadLine m) script a b = absurd (bad_or_good b a.good)
  no_second (Whole due) (BadCall m) script a b = one_of_lines (Whole due) (BadCall m) script a b
  no_second (Whole due) Unfinished script a b = one_of_lines (Whole due) Unfinished script a b
  no_second (Whole due) (Whole other) script a b = one_of_lines (Whole due) (Whole other) script a b

  some_of_calls : (script : List ℕ) (calls : List Call) → lines script ≡ Good calls → Found calls → (answer : Verdict A) × IsVerdict Gives answer script
  some_of_calls script calls good (found_bad front call rest whole before bad) = (
    BadCall _,
    record { calls = calls; good = good; is = record { front = front; call = call; rest = rest; whole = whole; before = before; bad = bad; number = refl } },
  )
  some_of_calls script calls good (found_open viable no_tree) = (Unfinished, record { calls = calls; good = good; is = record { viable = viable; no_tree = no_tree } })
  some_of_calls script calls good (found_whole tree spells) =
      let (due, is) = each.some tree in (Whole due, record { calls = calls; good = good; is = record { tree = tree; spells = spells; is = is } })

  some_of_lines : (script : List ℕ) (read : Lines) → lines script ≡ read → (answer : Verdict A) × IsVerdict Gives answer script
  some_of_lines script (Bad n) bad = (BadLine n, bad)
  some_of_lines script (Good calls) good = some_of_calls script calls good (found calls)

  pub one_verdict : OneVerdict Gives
  one_verdict script = let some = some_of_lines script (lines script) refl in (some.0, some.1, λ other is. no_second some.0 other script some.1 is)
