-- How lists of calls are streamed: one after another, between a begin and its end, and in a loop over numbers.
use Rattle.std.specs.Prelude.{◌≡◌, ℕ, ◌+◌, ◌<◌, ◌≤◌, get_or, take, List, [], ◌∷◌, ◌++◌, flat_map, Result}
use Rattle.std.specs.List.{range_with_len}
use Rattle.std.proofs.Common.{sym, subst, arith}
use Rattle.std.proofs.lemmas.List.FromFn.{length-range_with_len, get_or-range_with_len}
use Rattle.sval_label.specs.declared.error.Error.{Error}
use Rattle.sval_label.specs.Calls.{Call}
use Rattle.sval_core.specs.Law.{Standing, Law, emits, then_emits, Takes, Refuses, Streams, Stops, Emits}
use Rattle.sval_core.specs.Values.{makes}
use Rattle.sval_core.proofs.Emissions.{streams_then, stops_first, stops_later}
use Rattle.sval_core.proofs.Between.{streams_between, stops_at_begin, stops_inside, stops_at_end}
use Rattle.sval_core.proofs.ValueProofs.{streams_next, stops_next, emits_rest, passes_on}

-- a number below one stands at its own place
below_is : (n i : ℕ) → i < n → i ≡ get_or (range_with_len 0 n) i i
below_is n i below = let at : get_or (range_with_len 0 n) i i ≡ 0 + i = get_or-range_with_len 0 n i i below in omega (arith, at)

module _ {V : Type 0} {law : Law V} where
  -- ---- one after another

  pub streams_both : {old mid new : Standing V} {calls more : List Call} → Streams law old (makes calls) mid → Streams law mid (makes more) new
      → Streams law old (makes (calls ++ more)) new
  unfolding then_emits
  streams_both s t = streams_then s t

  pub stops_in_first : {old new : Standing V} {calls : List Call} (more : List Call) → Stops law old (makes calls) new → Stops law old (makes (calls ++ more)) new
  unfolding then_emits
  stops_in_first more s = stops_first (makes more) s

  pub stops_in_second : {old mid new : Standing V} {calls more : List Call} → Streams law old (makes calls) mid → Stops law mid (makes more) new
      → Stops law old (makes (calls ++ more)) new
  unfolding then_emits
  stops_in_second s t = stops_later s t

  -- ---- between a begin and its end

  pub streams_enclosed : {old inside later new : Standing V} {begin end : Call} {calls : List Call}
      → Takes law old begin inside → Streams law inside (makes calls) later → Takes law later end new → Streams law old (makes (begin ∷ (calls ++ end ∷ []))) new
  unfolding then_emits emits
  streams_enclosed b s e = streams_between b s e

  pub stops_before : {old new : Standing V} {begin : Call} (end : Call) (calls : List Call) → Refuses law old begin new → Stops law old (makes (begin ∷ (calls ++ end ∷ []))) new
  unfolding then_emits emits
  stops_before end calls r = stops_at_begin end (makes calls) r

  pub stops_enclosed : {old inside new : Standing V} {begin : Call} {calls : List Call} (end : Call)
      → Takes law old begin inside → Stops law inside (makes calls) new → Stops law old (makes (begin ∷ (calls ++ end ∷ []))) new
  unfolding then_emits emits
  stops_enclosed end b s = stops_inside end b s

  pub stops_behind : {old inside later new : Standing V} {begin end : Call} {calls : List Call}
      → Takes law old begin inside → Streams law inside (makes calls) later → Refuses law later end new → Stops law old (makes (begin ∷ (calls ++ end ∷ []))) new
  unfolding then_emits emits
  stops_behind b s r = stops_at_end b s r

  -- ---- in a loop over the numbers below one

  module _ (calls : ℕ → List Call) {begin : Call} where
    pub streams_number : {old mid new : Standing V} (n i : ℕ) → i < n
        → Streams law old (makes (begin ∷ flat_map calls (take i (range_with_len 0 n)))) mid → Streams law mid (makes (calls i)) new
        → Streams law old (makes (begin ∷ flat_map calls (take (i + 1) (range_with_len 0 n)))) new
    streams_number n i below s t =
        streams_next calls (range_with_len 0 n) i i (subst (λ size. i < size) (sym (length-range_with_len 0 n)) below) (below_is n i below) s t

    pub stops_number : {old mid new : Standing V} (n i : ℕ) (rest : List Call) → i < n
        → Streams law old (makes (begin ∷ flat_map calls (take i (range_with_len 0 n)))) mid → Stops law mid (makes (calls i)) new
        → Stops law old (makes (begin ∷ (flat_map calls (range_with_len 0 n) ++ rest))) new
    stops_number n i rest below s t =
        stops_next calls (range_with_len 0 n) i i rest (subst (λ size. i < size) (sym (length-range_with_len 0 n)) below) (below_is n i below) s t

    pub emits_after : {old mid : Standing V} (r : Result (Unit {0}) Error) (new : Standing V) (n i : ℕ) (rest : List Call) → n ≤ i
        → Streams law old (makes (begin ∷ flat_map calls (take i (range_with_len 0 n)))) mid → Emits law r mid (makes rest) new
        → Emits law r old (makes (begin ∷ (flat_map calls (range_with_len 0 n) ++ rest))) new
    emits_after r new n i rest all s t =
        emits_rest calls r new (range_with_len 0 n) i rest (subst (λ size. size ≤ i) (sym (length-range_with_len 0 n)) all) s t

pub ruleset of_joined = (streams_both, stops_in_first, stops_in_second, passes_on)

pub ruleset of_enclosed = (streams_enclosed, stops_before, stops_enclosed, stops_behind, passes_on)

pub ruleset of_numbers = (streams_number, stops_number, emits_after, passes_on)
