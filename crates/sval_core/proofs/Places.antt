-- How the fields of a tuple join, one behind another.
use Rattle.std.specs.Prelude.{◌≡◌, ℕ, ◌+◌, List, [], ◌∷◌, Some, None, length, Result, Ok, Err}
use Rattle.std.proofs.Common.{ap, ◌∙◌, sym, subst}
use Rattle.sval_label.specs.declared.error.Error.{Error}
use Rattle.sval_label.specs.Calls.{Begin, End, Place, Tuple}
use Rattle.sval_core.specs.Law.{Standing, Law, Emission, emits, then_emits, Answers, Streams, Stops, Emits}
use Rattle.sval_core.specs.Names.{no_name, offset}
use Rattle.sval_core.specs.Values.{part_emission, places_emission, then_places, begun_tuple, tuple_emission}
use Rattle.sval_core.proofs.Emissions.{streams_then, stops_first, stops_later, emits_one}
use Rattle.sval_core.proofs.Joining.{associate, silent_last}

-- fields behind what was emitted before
places_behind : (before : Emission) (i : ℕ) (es : List Emission) → then_places before i es ≡ then_emits before (places_emission i es)
places_behind before i [] = sym (silent_last before)
places_behind before i (e ∷ es) =
    let field = part_emission (Place None (offset i)) e in
    places_behind (then_emits before field) (i + 1) es ∙ associate before field (places_emission (i + 1) es)

module _ {V : Type 0} {law : Law V} {start mid : Standing V} where
  -- a field behind what was emitted before
  pub emits_then : (r : Result (Unit {0}) Error) (new : Standing V) (before next : Emission)
      → Streams law start before mid → Emits law r mid next new → Emits law r start (then_emits before next) new
  emits_then (Ok done) new before next s t = streams_then s t
  emits_then (Err refusal) new before next s t = stops_later s t

  -- the end of a tuple behind its fields
  pub ends_tuple : (r : Result (Unit {0}) Error) (new : Standing V) (es : List Emission)
      → Streams law start (begun_tuple es) mid → Answers law r mid (End (Tuple no_name)) new → Emits law r start (tuple_emission es) new
  ends_tuple r new es s answer =
      let begin = emits (Begin (Tuple no_name) (Some (length es))) in
      let last = emits (End (Tuple no_name)) in
      let whole = emits_then r new (begun_tuple es) last s (emits_one law mid new (End (Tuple no_name)) r answer) in
      subst (λ e. Emits law r start e new) (ap (λ e. then_emits e last) (places_behind begin 0 es) ∙ associate begin (places_emission 0 es) last) whole

-- a tuple that was stopped before its end
pub stops_before_end : {V : Type 0} {law : Law V} {start new : Standing V} (es : List Emission)
    → Stops law start (begun_tuple es) new → Stops law start (tuple_emission es) new
stops_before_end {law = law} {start = start} {new = new} es s =
    let begin = emits (Begin (Tuple no_name) (Some (length es))) in
    let last = emits (End (Tuple no_name)) in
    subst (λ e. Stops law start e new) (ap (λ e. then_emits e last) (places_behind begin 0 es) ∙ associate begin (places_emission 0 es) last) (stops_first last s)
