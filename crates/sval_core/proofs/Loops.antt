-- Loops over the parts of a value that never refuses: what was streamed so far, and where it stops.
use Rattle.std.specs.Prelude.{◌≡◌, ℕ, ◌+◌, ◌<◌, ◌≤◌, length, take, drop, get_or, List, [], ◌∷◌, ◌++◌, flat_map, Result, Ok, Err}
use Rattle.std.proofs.Common.{ap, ◌∙◌, sym, subst, append-nil, append_assoc}
use Rattle.std.proofs.lemmas.List.{take_more, take-append-drop, take_all}
use Rattle.std.proofs.lemmas.Grind.{flat_map-append}
use Rattle.sval_label.specs.declared.error.Error.{Error}
use Rattle.sval_label.specs.Calls.{Call}
use Rattle.sval_core.specs.Law.{Standing, Law, then_emits, Streams, Stops, Emits}
use Rattle.sval_core.specs.Values.{makes}
use Rattle.sval_core.proofs.Emissions.{streams_then, stops_first, stops_later, passes_on}

module _ {T : Type 0} (calls : T → List Call) where
  one_more : (xs : List T) (i : ℕ) (x : T) → i < length xs → x ≡ get_or xs i x → flat_map calls (take (i + 1) xs) ≡ flat_map calls (take i xs) ++ calls x
  one_more xs i x h is =
      ap (flat_map calls) (take_more xs i x h) ∙ flat_map-append calls (take i xs) (get_or xs i x ∷ [])
      ∙ ap (λ c. flat_map calls (take i xs) ++ c) (append-nil (calls (get_or xs i x)) ∙ ap calls (sym is))

  around : (xs : List T) (i : ℕ) (x : T) → i < length xs → x ≡ get_or xs i x → flat_map calls xs ≡ flat_map calls (take i xs) ++ (calls x ++ flat_map calls (drop (i + 1) xs))
  around xs i x h is =
      ap (flat_map calls) (sym (take-append-drop (i + 1) xs)) ∙ flat_map-append calls (take (i + 1) xs) (drop (i + 1) xs)
      ∙ ap (λ c. c ++ flat_map calls (drop (i + 1) xs)) (one_more xs i x h is) ∙ append_assoc (flat_map calls (take i xs)) (calls x) (flat_map calls (drop (i + 1) xs))

  module _ {V : Type 0} {law : Law V} {old mid : Standing V} {begin : Call} where
    -- after a part more,
    pub streams_next : {new : Standing V} (xs : List T) (i : ℕ) (x : T) → i < length xs → x ≡ get_or xs i x
        → Streams law old (makes (begin ∷ flat_map calls (take i xs))) mid → Streams law mid (makes (calls x)) new
        → Streams law old (makes (begin ∷ flat_map calls (take (i + 1) xs))) new
    unfolding then_emits
    streams_next {new = new} xs i x h is s t =
        let both : Streams law old (makes (begin ∷ (flat_map calls (take i xs) ++ calls x))) new = streams_then s t in
        rw (one_more xs i x h is) both

    -- where a part stops, whatever follows the parts,
    pub stops_next : {new : Standing V} (xs : List T) (i : ℕ) (x : T) (rest : List Call) → i < length xs → x ≡ get_or xs i x
        → Streams law old (makes (begin ∷ flat_map calls (take i xs))) mid → Stops law mid (makes (calls x)) new
        → Stops law old (makes (begin ∷ (flat_map calls xs ++ rest))) new
    unfolding then_emits
    stops_next {new = new} xs i x rest h is s t =
        let later = flat_map calls (drop (i + 1) xs) ++ rest in
        let both : Stops law old (makes (begin ∷ (flat_map calls (take i xs) ++ (calls x ++ later)))) new = stops_later s (stops_first (makes later) t) in
        let whole : flat_map calls xs ++ rest ≡ flat_map calls (take i xs) ++ (calls x ++ later) =
        ap (λ c. c ++ rest) (around xs i x h is) ∙ append_assoc (flat_map calls (take i xs)) (calls x ++ flat_map calls (drop (i + 1) xs)) rest
        ∙ ap (λ c. flat_map calls (take i xs) ++ c) (append_assoc (calls x) (flat_map calls (drop (i + 1) xs)) rest) in
        rw whole both

    -- and after all parts what follows them.
    pub emits_rest : (r : Result (Unit {0}) Error) (new : Standing V) (xs : List T) (i : ℕ) (rest : List Call) → length xs ≤ i
        → Streams law old (makes (begin ∷ flat_map calls (take i xs))) mid → Emits law r mid (makes rest) new
        → Emits law r old (makes (begin ∷ (flat_map calls xs ++ rest))) new
    unfolding then_emits
    emits_rest (Ok done) new xs i rest h s t =
        let both : Streams law old (makes (begin ∷ (flat_map calls (take i xs) ++ rest))) new = streams_then s t in
        subst (λ all. Streams law old (makes (begin ∷ (flat_map calls all ++ rest))) new) (take_all i xs h) both
    emits_rest (Err refusal) new xs i rest h s t =
        let both : Stops law old (makes (begin ∷ (flat_map calls (take i xs) ++ rest))) new = stops_later s t in
        subst (λ all. Stops law old (makes (begin ∷ (flat_map calls all ++ rest))) new) (take_all i xs h) both

-- for functions that stream parts in a loop
pub ruleset of_loops = (streams_next, stops_next, emits_rest, passes_on)
