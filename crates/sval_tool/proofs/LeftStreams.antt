-- Streaming the tokens of a document that stay, one by one.
use Rattle.std.specs.Prelude.{◌≡◌, Bool, true, false, List, [], ◌∷◌, ◌++◌, refl}
use Rattle.std.proofs.Common.{sym, ap, subst, ◌∙◌, append_assoc, append-nil}
use Rattle.sval_label.specs.Calls.{Call}
use Rattle.sval_core.specs.Law.{Law, Standing, Streams, Stops, then_emits}
use Rattle.sval_core.specs.Values.{makes}
use Rattle.sval_core.proofs.Emissions.{streams_then, stops_first, stops_later}
use Rattle.sval_filter.specs.Walks.{Walking}
use Rattle.sval_json_read.specs.Calls.{document_calls}
use Rattle.sval_json_read.specs.Tokens.{Placed}
use Rattle.sval_tool.specs.LeftTokens.{walk_after, token_stays, staying, left_tokens, passed_calls}
use Rattle.sval_tool.specs.Passing.{TakesFirstCalls, StopsAt}
use Rattle.sval_tool.specs.declared.left.Halt.{Halt}
use Rattle.sval_tool.specs.declared.left.Halt.TheVariants as halt

-- no call
pub streams_none : {V : Type 0} (law : Law V) (at : Standing V) → Streams law at (makes []) at
streams_none law at = record { willing = refl; ran = refl; faults = refl; wants = refl }

-- memory was wanting before a call
pub takes_none : {V : Type 0} (law : Law V) (at : Standing V) (calls : List Call) → TakesFirstCalls law at calls at
takes_none law at calls = record { taken = []; rest = calls; same = refl; streams = streams_none law at }

-- the first token's calls, and those of the tokens behind it
by_first : (walk : Walking) (placed : Placed) (tokens : List Placed)
    → document_calls (left_tokens walk (placed ∷ tokens)) ≡ passed_calls (token_stays walk placed) placed ++ document_calls (left_tokens (walk_after walk placed) tokens)
by_first walk placed tokens = go (token_stays walk placed)
  where
    go : (b : Bool) → document_calls (staying b placed (left_tokens (walk_after walk placed) tokens)) ≡ passed_calls b placed ++ document_calls (left_tokens (walk_after walk placed) tokens)
    go true = refl
    go false = refl

-- these calls were taken, and those of what stays of these tokens are left
pub record IsPassedUpTo {V : Type 0} (law : Law V) (old now : Standing V) (all : List Call) (walk : Walking) (tokens : List Placed) : Type 0 where
  pub done : List Call
  pub all_is : all ≡ done ++ document_calls (left_tokens walk tokens)
  pub streams : Streams law old (makes done) now

pub at_start : {V : Type 0} (law : Law V) (old : Standing V) (walk : Walking) (tokens : List Placed) → IsPassedUpTo law old old (document_calls (left_tokens walk tokens)) walk tokens
at_start law old walk tokens = record { done = []; all_is = refl; streams = streams_none law old }

module _ {V : Type 0} (law : Law V) (old mid : Standing V) (all : List Call) (walk : Walking) (row tokens : List Placed) (placed : Placed) (s : IsPassedUpTo law old mid all walk row) (is : row ≡ placed ∷ tokens) where
  abbrev first : List Call
  first = passed_calls (token_stays walk placed) placed

  abbrev later : List Call
  later = document_calls (left_tokens (walk_after walk placed) tokens)

  all_from_here : all ≡ s.done ++ (first ++ later)
  all_from_here = s.all_is ∙ ap (λ x. s.done ++ document_calls (left_tokens walk x)) is ∙ ap (λ x. s.done ++ x) (by_first walk placed tokens)

  pub one_passed : (new : Standing V) (next : Walking) → next ≡ walk_after walk placed → Streams law mid (makes first) new → IsPassedUpTo law old new all next tokens
  unfolding then_emits
  one_passed new next e t = record {
    done = s.done ++ first;
    all_is = all_from_here ∙ sym (append_assoc s.done first later) ∙ ap (λ w. (s.done ++ first) ++ document_calls (left_tokens w tokens)) (sym e);
    streams = streams_then s.streams t;
  }

  stopped_within : (new : Standing V) → Stops law mid (makes first) new → Stops law old (makes all) new
  unfolding then_emits
  stopped_within new r =
      let stops : Stops law old (makes (s.done ++ (first ++ later))) new = stops_later s.streams (stops_first (makes later) r) in
      subst (λ calls. Stops law old (makes calls) new) (sym all_from_here) stops

  paused_within : (new : Standing V) → TakesFirstCalls law mid first new → TakesFirstCalls law old all new
  unfolding then_emits
  paused_within new t = record {
    taken = s.done ++ t.taken;
    rest = t.rest ++ later;
    same = all_from_here ∙ ap (λ x. s.done ++ (x ++ later)) t.same ∙ ap (λ x. s.done ++ x) (append_assoc t.taken t.rest later) ∙ sym (append_assoc s.done t.taken (t.rest ++ later));
    streams = streams_then s.streams t.streams;
  }

  pub then_halts : (new : Standing V) (why : Halt) → StopsAt law why mid first new → StopsAt law why old all new
  then_halts new halt.NoMemory h = paused_within new h
  then_halts new halt.Refused h = stopped_within new h

pub all_passed : {V : Type 0} (law : Law V) (old new : Standing V) (all : List Call) (walk : Walking) (tokens : List Placed) → IsPassedUpTo law old new all walk tokens → tokens ≡ [] → Streams law old (makes all) new
all_passed law old new all walk tokens s e =
    let same = s.all_is ∙ ap (λ x. s.done ++ document_calls (left_tokens walk x)) e ∙ append-nil s.done in
    subst (λ calls. Streams law old (makes calls) new) (sym same) s.streams
