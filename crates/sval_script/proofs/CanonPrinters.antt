-- What a stream that prints canonical calls does, call by call and over all calls of a value.
use Rattle.std.specs.Prelude.{◌≡◌, ◌⊎◌, ℕ, IfSome, Bool, List, [], ◌∷◌, Option, Some, None, Result, Ok, Err, refl}
use Rattle.std.specs.Option.{unwrap_or}
use Rattle.std.specs.List.{cons_option}
use Rattle.std.proofs.Common.{inl, inr, ap}
use Rattle.sval_label.specs.Calls.{Call}
use Rattle.sval_core.specs.Law.{Standing, Emission, Rose, HasCause, Takes, Refuses, Ran, Streams, StoppedIn, Stops, Through, inner_standing, through}
use Rattle.sval_io.specs.Sinks.{Told}
use Rattle.sval_script.specs.declared.print_error.PrintError.{PrintError}
use Rattle.sval_script.specs.declared.print_error.PrintError.TheVariants as error
use Rattle.sval_script.specs.declared.canon.CanonPrinter.{CanonPrinter}
use Rattle.sval_script.specs.Printed.{canonical_call, canonical_calls}
use Rattle.sval_script.specs.Printing.{Printing, IsCutBy, MayPrint, printer_law}
use Rattle.sval_script.specs.CanonPrinting.{after_shown, IsShownCut, PrintsShown, canon_law, canon_standing}
use Rattle.sval_script.specs.PrintedValues.{PrintsValue}
use Rattle.sval_script.specs.Canon.{as_canonical}
use Rattle.sval_script.proofs.Printers.{stands, takes_call, refuses_call}
use Rattle.sval_script.proofs.PrintedValues.{printed_streams, printed_stops}

-- where the stream stands whose sink, held under this name, tells this
abbrev pub canon_stands : Told → Option PrintError → ℕ → Standing (Through Printing)
canon_stands told why name = through (stands told why) name

-- ---- one call

module _ (old new : Told) (before : Option PrintError) (name : ℕ) (call : Call) where
  shown_cause : (shown : Call) (after : Standing Printing) → canonical_call call ≡ Some shown → HasCause printer_law (stands old before).view shown (stands old before) after
      → HasCause canon_law (canon_stands old before name).view call (canon_stands old before name) (through after name)
  shown_cause shown after is (inl refused) = inl (λ may. refused (rw is at may))
  shown_cause shown after is (inr rose) = inr rose

  pub refuses_shown : (shown : Call) (why : PrintError) → canonical_call call ≡ Some shown → IsCutBy (Some why) shown old new
      → Refuses canon_law (canon_stands old before name) call (canon_stands new (Some why) name)
  refuses_shown shown why is cut =
      let r = refuses_call old new before why shown cut in
      record { cause = shown_cause shown (stands new (Some why)) is r.cause; left = (rw is r.left, refl); faults = r.faults; wants = r.wants }

  pub takes_shown : (shown : Option Call) → canonical_call call ≡ shown → PrintsShown (Ok tt) old shown new → Takes canon_law (canon_stands old before name) call (canon_stands new before name)
  takes_shown None is (done, same) = rw same (record { accepted = rw is tt; view = rw is refl; faults = refl; wants = refl })
  takes_shown (Some shown) is (known, written) =
      let t = takes_call old new before shown known written in
      record {
        accepted = rw is t.accepted;
        view = rw is (ap (λ (v : Printing). let both : Through Printing = (v, name) in both) t.view);
        faults = t.faults;
        wants = t.wants;
      }

  pub refuses_any : (shown : Option Call) (why : PrintError) → canonical_call call ≡ shown → PrintsShown (Err why) old shown new
      → Refuses canon_law (canon_stands old before name) call (canon_stands new (Some why) name)
  refuses_any None why is (never, same) = absurd (cc never)
  refuses_any (Some shown) why is cut = refuses_shown shown why is cut

-- ---- all calls: a printer takes the canonical ones

ran_canon : (calls : List Call) (view last : Through Printing) → Ran canon_law view calls last → Ran printer_law view.0 (canonical_calls calls) last.0 × (last.1 ≡ view.1)
ran_canon [] view last r = (ap (λ v. v.0) r, ap (λ v. v.1) r)
ran_canon (call ∷ calls) view last (may, ran) = by_shown (canonical_call call) may (ran_canon calls (after_shown view.0 (canonical_call call), view.1) last ran)
  where
    by_shown : (shown : Option Call) → IfSome shown (MayPrint view.0) → Ran printer_law (after_shown view.0 shown) (canonical_calls calls) last.0 × (last.1 ≡ view.1)
        → Ran printer_law view.0 (cons_option shown (canonical_calls calls)) last.0 × (last.1 ≡ view.1)
    by_shown None may rest = rest
    by_shown (Some shown) may rest = ((may, rest.0), rest.1)

stopped_canon : (old new : Standing (Through Printing)) (calls : List Call) (refuses : Bool) (view : Through Printing) → StoppedIn canon_law old new view calls refuses
    → StoppedIn printer_law (inner_standing old) (inner_standing new) view.0 (canonical_calls calls) refuses × (new.view.1 ≡ view.1)
stopped_canon old new [] refuses view (r, is) = ((r, ap (λ v. v.0) is), ap (λ v. v.1) is)
stopped_canon old new (call ∷ calls) refuses view (inl (cause, stopped)) = (by_shown (canonical_call call) cause stopped.0, stopped.1)
  where
    shown_here : (shown : Call) → (((MayPrint view.0 shown → ⊥) ⊎ (Rose old.faults new.faults ⊎ Rose old.wants new.wants))) → HasCause printer_law view.0 shown (inner_standing old) (inner_standing new)
    shown_here shown (inl refused) = inl refused
    shown_here shown (inr rose) = inr rose

    by_shown : (shown : Option Call) → ((IfSome shown (MayPrint view.0) → ⊥) ⊎ (Rose old.faults new.faults ⊎ Rose old.wants new.wants)) → IsShownCut shown view.0 new.view.0
        → StoppedIn printer_law (inner_standing old) (inner_standing new) view.0 (cons_option shown (canonical_calls calls)) refuses
    by_shown None cause cut = absurd cut
    by_shown (Some shown) cause cut = inl (shown_here shown cause, cut)
stopped_canon old new (call ∷ calls) refuses view (inr (may, rest)) = by_shown (canonical_call call) may (stopped_canon old new calls refuses (after_shown view.0 (canonical_call call), view.1) rest)
  where
    by_shown : (shown : Option Call) → IfSome shown (MayPrint view.0)
        → StoppedIn printer_law (inner_standing old) (inner_standing new) (after_shown view.0 shown) (canonical_calls calls) refuses × (new.view.1 ≡ view.1)
        → StoppedIn printer_law (inner_standing old) (inner_standing new) view.0 (cons_option shown (canonical_calls calls)) refuses × (new.view.1 ≡ view.1)
    by_shown None may rest = rest
    by_shown (Some shown) may rest = (inr (may, rest.0), rest.1)

-- ---- what the sink tells, which is the same sink that is held

pub record IsAfter (e : Emission) (result : Result (Unit {0}) PrintError) (held holds : ℕ) (old new : Told) : Type 0 where
  pub name : holds ≡ held
  pub prints : PrintsValue e result old new

module _ {K : Type 0} (told : K → Told) (e : Emission) (old new : CanonPrinter K) where
  pub after_streams : Streams canon_law (canon_standing told old) e (canon_standing told new)
      → IsAfter (as_canonical e) (Ok tt) old.out.ghost_name new.out.ghost_name (told old.out.now) (told new.out.now)
  after_streams s =
      let ran = ran_canon e.calls (canon_standing told old).view (canon_standing told new).view s.ran in
      record {
        name = ran.1;
        prints = printed_streams (as_canonical e) (told old.out.now) (told new.out.now) old.why new.why
            (record { willing = s.willing; ran = ran.0; faults = s.faults; wants = s.wants });
      }

  pub after_stops : (found : PrintError) → old.why ≡ None → found ≡ unwrap_or new.why error.Refused → Stops canon_law (canon_standing told old) e (canon_standing told new)
      → IsAfter (as_canonical e) (Err found) old.out.ghost_name new.out.ghost_name (told old.out.now) (told new.out.now)
  after_stops found none is s =
      let stopped = stopped_canon (canon_standing told old) (canon_standing told new) e.calls e.refuses (canon_standing told old).view s.stopped in
      let stops : Stops printer_law (stands (told old.out.now) old.why) (as_canonical e) (stands (told new.out.now) new.why) =
      record { stopped = stopped.0; faults = s.faults; wants = s.wants } in
      record {
        name = stopped.1;
        prints = rw is (printed_stops (as_canonical e) (told old.out.now) (told new.out.now) new.why (rw none at stops));
      }
