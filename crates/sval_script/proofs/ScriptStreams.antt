-- What streaming a script knows at each line.
use Rattle.std.specs.Prelude.{◌≡◌, ℕ, ◌+◌, ◌<◌, List, [], ◌∷◌, ◌++◌, drop, length, get_or}
use Rattle.std.proofs.Common.{sym, ap, ◌∙◌, append_assoc, add-one}
use Rattle.std.proofs.Math.Seq.{drop-cons}
use Rattle.sval_label.specs.Calls.{Call}
use Rattle.sval_core.specs.Values.{makes}
use Rattle.sval_core.specs.Law.{Standing, Law, Takes, Refuses, Streams, Stops, emits, then_emits}
use Rattle.sval_core.proofs.Emissions.{streams_one, stops_one, streams_then, stops_first, stops_later}
use Rattle.sval_script.specs.declared.line.Line.{Line}
use Rattle.sval_script.specs.LineCalls.{own_count, next_len, next_call, calls_with, HoldsLines}

-- some first calls were taken, and these lines with these bytes and numbers are left
pub record IsStreamedUpTo {V : Type 0} (law : Law V) (old now : Standing V) (all : List Call) (bytes numbers : List ℕ) (left : List Line) : Type 0 where
  pub done : List Call
  pub all_is : all ≡ done ++ calls_with bytes numbers left
  pub holds : HoldsLines bytes numbers left
  pub streams : Streams law old (makes done) now

pub here : (lines : List Line) (i : ℕ) (d : Line) → i < length lines → drop i lines ≡ get_or lines i d ∷ drop (i + 1) lines
here lines i d h = rw add-one (drop-cons lines i d h)

-- what is left holds the next line's own
next_holds : {V : Type 0} {law : Law V} {old mid : Standing V} {all : List Call} {bytes numbers : List ℕ} (lines : List Line) (i : ℕ) (d : Line) → IsStreamedUpTo law old mid all bytes numbers (drop i lines)
    → i < length lines → HoldsLines bytes numbers (get_or lines i d ∷ drop (i + 1) lines)
next_holds lines i d s h = rw (here lines i d h) at s.holds

module _ {V : Type 0} {law : Law V} {old mid : Standing V} {all : List Call} {bytes numbers : List ℕ} (new : Standing V) (lines : List Line) (i : ℕ) (d : Line) where
  pub stream-step : IsStreamedUpTo law old mid all bytes numbers (drop i lines) → i < length lines → Takes law mid (next_call bytes numbers (get_or lines i d)) new
      → IsStreamedUpTo law old new all (drop (next_len (get_or lines i d) numbers) bytes) (drop (own_count (get_or lines i d)) numbers) (drop (i + 1) lines)
  unfolding emits then_emits
  stream-step s h t =
      let line = get_or lines i d in
      let call = next_call bytes numbers line in
      let rest = calls_with (drop (next_len line numbers) bytes) (drop (own_count line) numbers) (drop (i + 1) lines) in
      record {
        done = s.done ++ (call ∷ []);
        all_is = s.all_is ∙ ap (λ left. s.done ++ calls_with bytes numbers left) (here lines i d h) ∙ sym (append_assoc s.done (call ∷ []) rest);
        holds = (next_holds lines i d s h).1;
        streams = streams_then s.streams (streams_one t);
      }

  pub stream-stop : IsStreamedUpTo law old mid all bytes numbers (drop i lines) → i < length lines → Refuses law mid (next_call bytes numbers (get_or lines i d)) new
      → Stops law old (makes all) new
  unfolding emits then_emits
  stream-stop s h r =
      let line = get_or lines i d in
      let call = next_call bytes numbers line in
      let rest = calls_with (drop (next_len line numbers) bytes) (drop (own_count line) numbers) (drop (i + 1) lines) in
      let all_is : all ≡ s.done ++ (call ∷ rest) = s.all_is ∙ ap (λ left. s.done ++ calls_with bytes numbers left) (here lines i d h) in
      let stops : Stops law old (makes (s.done ++ (call ∷ rest))) new = stops_later s.streams (stops_first (makes rest) (stops_one r)) in
      rw all_is stops
