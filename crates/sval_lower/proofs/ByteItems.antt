-- How the bytes of a fragment are streamed in a loop, each as an item.
use Rattle.std.specs.Prelude.{◌≡◌, ℕ, ◌+◌, ◌<◌, ◌≤◌, length, take, drop, get_or, List, [], ◌∷◌, ◌++◌, flat_map}
use Rattle.std.proofs.Common.{ap, ◌∙◌, sym, subst, append-nil, append_assoc}
use Rattle.std.proofs.lemmas.List.{take_more, take-append-drop, take_all}
use Rattle.std.proofs.lemmas.Grind.{flat_map-append}
use Rattle.sval_core.specs.Law.{Standing, Law, then_emits, Streams, Stops}
use Rattle.sval_core.specs.Values.{makes}
use Rattle.sval_core.proofs.Emissions.{streams_then, stops_first, stops_later, passes_on}
use Rattle.sval_lower.specs.Lower.{byte_calls}

one_more : (xs : List ℕ) (i : ℕ) → i < length xs → flat_map byte_calls (take (i + 1) xs) ≡ flat_map byte_calls (take i xs) ++ byte_calls (get_or xs i 0)
one_more xs i h =
    ap (flat_map byte_calls) (take_more xs i 0 h) ∙ flat_map-append byte_calls (take i xs) (get_or xs i 0 ∷ [])
    ∙ ap (λ c. flat_map byte_calls (take i xs) ++ c) (append-nil (byte_calls (get_or xs i 0)))

around : (xs : List ℕ) (i : ℕ) → i < length xs → flat_map byte_calls xs ≡ flat_map byte_calls (take i xs) ++ (byte_calls (get_or xs i 0) ++ flat_map byte_calls (drop (i + 1) xs))
around xs i h =
    ap (flat_map byte_calls) (sym (take-append-drop (i + 1) xs)) ∙ flat_map-append byte_calls (take (i + 1) xs) (drop (i + 1) xs)
    ∙ ap (λ c. c ++ flat_map byte_calls (drop (i + 1) xs)) (one_more xs i h)
    ∙ append_assoc (flat_map byte_calls (take i xs)) (byte_calls (get_or xs i 0)) (flat_map byte_calls (drop (i + 1) xs))

module _ {V : Type 0} {law : Law V} {old mid : Standing V} where
  pub streams_byte : {new : Standing V} (xs : List ℕ) (i : ℕ) → i < length xs
      → Streams law old (makes (flat_map byte_calls (take i xs))) mid → Streams law mid (makes (byte_calls (get_or xs i 0))) new
      → Streams law old (makes (flat_map byte_calls (take (i + 1) xs))) new
  unfolding then_emits
  streams_byte {new = new} xs i h s t =
      let both : Streams law old (makes (flat_map byte_calls (take i xs) ++ byte_calls (get_or xs i 0))) new = streams_then s t in
      rw (one_more xs i h) both

  pub stops_byte : {new : Standing V} (xs : List ℕ) (i : ℕ) → i < length xs
      → Streams law old (makes (flat_map byte_calls (take i xs))) mid → Stops law mid (makes (byte_calls (get_or xs i 0))) new
      → Stops law old (makes (flat_map byte_calls xs)) new
  unfolding then_emits
  stops_byte {new = new} xs i h s t =
      let rest = flat_map byte_calls (drop (i + 1) xs) in
      let both : Stops law old (makes (flat_map byte_calls (take i xs) ++ (byte_calls (get_or xs i 0) ++ rest))) new = stops_later s (stops_first (makes rest) t) in
      rw (around xs i h) both

  pub all_bytes : (xs : List ℕ) (i : ℕ) → length xs ≤ i → Streams law old (makes (flat_map byte_calls (take i xs))) mid
      → Streams law old (makes (flat_map byte_calls xs)) mid
  all_bytes xs i h s = subst (λ all. Streams law old (makes (flat_map byte_calls all)) mid) (take_all i xs h) s

pub ruleset of_bytes = (streams_byte, stops_byte, all_bytes, passes_on)
