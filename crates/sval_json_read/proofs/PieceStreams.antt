-- What streaming a string knows at each piece.
use Rattle.std.specs.Prelude.{◌≡◌, ℕ, List, [], ◌∷◌, ◌++◌, map, Result, Ok, Err, refl}
use Rattle.std.proofs.Common.{sym, ap, subst, ◌∙◌, append_assoc, append-nil}
use Rattle.sval_label.specs.declared.error.Error.{Error}
use Rattle.sval_label.specs.Calls.{Call}
use Rattle.sval_core.specs.Law.{Standing, Law, Takes, Refuses, Answers, Streams, Stops, Emits, emits, then_emits}
use Rattle.sval_core.specs.Values.{makes}
use Rattle.sval_core.proofs.Emissions.{streams_one, stops_one, streams_then, stops_first, stops_later, passes_on}
use Rattle.sval_json_read.specs.Calls.{Piece, piece_call, pieces}
use Rattle.sval_json_read.specs.RawStrings.{IsRaw}

-- some first calls were taken, and the pieces of this are left
pub record IsStreamedUpTo {V : Type 0} (law : Law V) (old now : Standing V) (raw rest : List ℕ) : Type 0 where
  pub done : List Call
  pub all_is : map piece_call (pieces raw) ≡ done ++ map piece_call (pieces rest)
  pub is_raw : IsRaw rest
  pub streams : Streams law old (makes done) now

module _ {V : Type 0} {law : Law V} {old mid : Standing V} {raw rest : List ℕ} (new : Standing V) (piece : Piece) (behind : List ℕ) where
  pub piece-step : IsStreamedUpTo law old mid raw rest → pieces rest ≡ piece ∷ pieces behind → IsRaw behind → Takes law mid (piece_call piece) new → IsStreamedUpTo law old new raw behind
  unfolding emits then_emits
  piece-step s e r t = record {
    done = s.done ++ (piece_call piece ∷ []);
    all_is = s.all_is ∙ ap (λ x. s.done ++ map piece_call x) e ∙ sym (append_assoc s.done (piece_call piece ∷ []) (map piece_call (pieces behind)));
    is_raw = r;
    streams = streams_then s.streams (streams_one t);
  }

  pub piece-stop : IsStreamedUpTo law old mid raw rest → pieces rest ≡ piece ∷ pieces behind → Refuses law mid (piece_call piece) new → Stops law old (makes (map piece_call (pieces raw))) new
  unfolding emits then_emits
  piece-stop s e r =
      let left = map piece_call (pieces behind) in
      let all_is : map piece_call (pieces raw) ≡ s.done ++ (piece_call piece ∷ left) = s.all_is ∙ ap (λ x. s.done ++ map piece_call x) e in
      let stops : Stops law old (makes (s.done ++ (piece_call piece ∷ left))) new = stops_later s.streams (stops_first (makes left) (stops_one r)) in
      rw all_is stops

pub all_pieces : {V : Type 0} {law : Law V} {old new : Standing V} {raw rest : List ℕ} → IsStreamedUpTo law old new raw rest → rest ≡ [] → Streams law old (makes (map piece_call (pieces raw))) new
all_pieces {law = law} {old = old} {new = new} s e =
    let all_is = s.all_is ∙ ap (λ x. s.done ++ map piece_call (pieces x)) e ∙ append-nil s.done in
    subst (λ calls. Streams law old (makes calls) new) (sym all_is) s.streams

pub pieces-start : {V : Type 0} {law : Law V} {old : Standing V} (raw : List ℕ) → IsRaw raw → IsStreamedUpTo law old old raw raw
pieces-start raw r = record { done = []; all_is = refl; is_raw = r; streams = record { willing = refl; ran = refl; faults = refl; wants = refl } }

-- ---- a string, and a key

-- calls between a begin and its end
module _ {V : Type 0} {law : Law V} {old mid : Standing V} (begin end : Call) (inside : List Call) where
  pub enclosed_stops : {new : Standing V} → Takes law old begin mid → Stops law mid (makes inside) new → Stops law old (makes (begin ∷ (inside ++ (end ∷ [])))) new
  unfolding emits then_emits
  enclosed_stops t p = stops_later (streams_one t) (stops_first (makes (end ∷ [])) p)

  pub enclosed_emits : {next : Standing V} (r : Result (Unit {0}) Error) (new : Standing V) → Takes law old begin mid → Streams law mid (makes inside) next
      → Answers law r next end new → Emits law r old (makes (begin ∷ (inside ++ (end ∷ [])))) new
  unfolding emits then_emits
  enclosed_emits (Ok done) new t s e = streams_then (streams_one t) (streams_then s (streams_one e))
  enclosed_emits (Err refusal) new t s e = stops_later (streams_one t) (stops_later s (stops_one e))

-- for the function that streams a string piece by piece
pub ruleset of_pieces = (pieces-start, piece-step, piece-stop, all_pieces, passes_on)
