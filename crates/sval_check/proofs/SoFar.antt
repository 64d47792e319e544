-- The lists of calls that a stream whose calls are checked stands for.
use Rattle.std.specs.Prelude.{◌≡◌, Bool, true, false, List, [], ◌∷◌, ◌++◌, Option, Some, None, is_some, refl}
use Rattle.std.specs.Option.{unwrap_or}
use Rattle.std.proofs.Common.{sym, ap, ◌∙◌, subst, append_assoc, append-nil}
use Rattle.sval_label.specs.Calls.{Call}
use Rattle.sval_core.specs.Law.{Law, Standing}
use Rattle.sval_core.specs.Spells.{IsViable}
use Rattle.sval_core.specs.Checker.{State, done}
use Rattle.sval_core.specs.CheckerSteps.{next, goes_on, state_after, unfilled}
use Rattle.sval_core.proofs.Completions.{taken_is_viable}
use Rattle.sval_core.proofs.StepLaws.{viable_is_next, next_is_viable}
use Rattle.sval_check.specs.declared.checked.Why.{Why}
use Rattle.sval_check.specs.declared.checked.Why.TheVariants.{NotViable, NoMemory, Inner}
use Rattle.sval_check.specs.Checked.{CheckedView, checked_after, IsCause, StandsFor}
use Rattle.sval_check.specs.CheckedLaws.{AcceptsTheViable, AcceptedIsAppended, AllArePassedOn, IsRefusedFor, RefusedIsLeft}

pub none_so_far : StandsFor (unfilled []) []
none_so_far = record { viable = taken_is_viable [] (false, [], done); keeps = done }

-- ---- a call that goes on

goes_by : (state : State) (calls : List Call) (call : Call) (after : Option State) → StandsFor state calls → next state call ≡ after → is_some after ≡ true → StandsFor (unwrap_or after state) (calls ++ (call ∷ []))
goes_by state calls call (Some after) so_far e some = let n = next_is_viable calls call state after so_far.keeps e in record { viable = n.0; keeps = n.1 }
goes_by state calls call None so_far e some = absurd (cc some)

pub appended : (state : State) (calls : List Call) (call : Call) → StandsFor state calls → goes_on state call ≡ true → StandsFor (state_after call state) (calls ++ (call ∷ []))
appended state calls call so_far goes = goes_by state calls call (next state call) so_far refl goes

pub viable_goes : (state : State) (calls : List Call) (call : Call) → StandsFor state calls → IsViable (calls ++ (call ∷ [])) → goes_on state call ≡ true
viable_goes state calls call so_far v = ap (λ (after : Option State). is_some after) (viable_is_next calls call state so_far.keeps v).1

pub accepts_the_viable : {V : Type 0} (law : Law V) → AcceptsTheViable law
accepts_the_viable law view calls call so_far = (
  λ a. ((appended view.state calls call so_far a.viable).viable, a.inside),
  λ v inside. record { viable = viable_goes view.state calls call so_far v; inside = inside },
)

pub accepted_is_appended : {V : Type 0} (law : Law V) → AcceptedIsAppended law
accepted_is_appended law view calls call so_far a = appended view.state calls call so_far a.viable

pub all_are_passed_on : {V : Type 0} (law : Law V) → AllArePassedOn law
all_are_passed_on {V} law view last calls [] so_far ran = (
  subst (λ (v : CheckedView V). StandsFor v.state (calls ++ [])) (sym ran) (subst (λ cs. StandsFor view.state cs) (sym (append-nil calls)) so_far),
  ap (λ (v : CheckedView V). v.inner.view) ran,
)
all_are_passed_on law view last calls (call ∷ more) so_far ran =
    let later = all_are_passed_on law (checked_after law view call) last (calls ++ (call ∷ [])) more (appended view.state calls call so_far ran.0.viable) ran.1 in
    (subst (λ cs. StandsFor last.state cs) (append_assoc calls (call ∷ []) more) later.0, (ran.0.inside, later.1))

-- ---- a call that was refused

other_cause : {why : Option Why} (last other : Why) → why ≡ Some last → why ≡ Some other → last ≡ other
other_cause last other e f = let same = sym e ∙ f in cc same

never_both : {b : Bool} → b ≡ true → b ≡ false → ⊥
never_both e f = let never : true ≡ false = sym e ∙ f in cc never

by_cause : {V : Type 0} (law : Law V) (view : CheckedView V) (inner : Standing V) (calls : List Call) (call : Call) (why : Option Why) (last : Why) → StandsFor view.state calls
    → why ≡ Some last → IsCause law view call inner last → IsRefusedFor calls call why
by_cause law view inner calls call why NotViable so_far is c = record {
  not_viable = λ e v. never_both (viable_goes view.state calls call so_far v) c.0;
  exactly = λ not. is;
  no_memory = λ e. let never = other_cause NotViable NoMemory is e in cc never;
  inner = λ e. let never = other_cause NotViable Inner is e in cc never;
}
by_cause law view inner calls call why NoMemory so_far is c =
    let viable = (appended view.state calls call so_far c.1).viable in
    record {
      not_viable = λ e v. let never = other_cause NoMemory NotViable is e in cc never;
      exactly = λ not. absurd (not viable);
      no_memory = λ e. (viable, c.0);
      inner = λ e. viable;
    }
by_cause law view inner calls call why Inner so_far is c =
    let viable = (appended view.state calls call so_far c.0).viable in
    record {
      not_viable = λ e v. let never = other_cause Inner NotViable is e in cc never;
      exactly = λ not. absurd (not viable);
      no_memory = λ e. let never = other_cause Inner NoMemory is e in cc never;
      inner = λ e. viable;
    }

pub refused_is_left : {V : Type 0} (law : Law V) → RefusedIsLeft law
refused_is_left law view left calls call so_far l = (
  subst (λ state. StandsFor state calls) (sym l.state) so_far,
  by_cause law view left.inner calls call left.why l.last so_far l.why l.cause,
)
