-- What is left of a sink that is as it was, and of one that grew.
use Rattle.std.specs.Prelude.{◌≡◌, ℕ, Bool, true, false, List, [], ◌++◌}
use Rattle.std.proofs.Common.{sym, subst, ◌∙◌, arith, inl, inr}
use Rattle.sval_core.specs.Law.{Rose}
use Rattle.sval_io.specs.declared.sink.SinkError.{SinkError}
use Rattle.sval_io.specs.declared.sink.SinkError.TheVariants.{Failed, NoMemory}
use Rattle.sval_io.specs.Sinks.{Told, IsSteady, NoCountFell, IsCounted, LacksRoom, Appends, AppendsFront, WritesWhole, PassesOn, Declines}
use Rattle.sval_io.proofs.Appending.{appends_nothing, all_is_front, lacks_both, steady_alone, steady_both, steady_counts, counts_since, counted_since}
use Rattle.sval_program.specs.Outputs.{Grows, IsOwnWant, IsWantBetween, IsWantIf, IsStopCause, StopsWithin, StopsIf}

-- ---- one that is as it was

pub counts_stay : (told : Told) → NoCountFell told told
counts_stay told = steady_counts (steady_alone told)

pub front_of_nothing : (told : Told) (bytes : List ℕ) → AppendsFront told bytes told
front_of_nothing told bytes = record { count = 0; within = omega arith; appends = appends_nothing told }

pub grows_by_nothing : (told : Told) → Grows told told
grows_by_nothing told = ([], appends_nothing told)

-- ---- one that grew

pub grows_by_front : {old new : Told} {bytes : List ℕ} → AppendsFront old bytes new → Grows old new
grows_by_front f = (_, f.appends)

-- what was taken stays, where the text and the room do
pub appends_kept : {old mid new : Told} {bytes : List ℕ} → Appends old bytes mid → new.text ≡ mid.text → new.room ≡ mid.room → Appends old bytes new
appends_kept a text room = record { fits = a.fits; text = text ∙ a.text; room = room ∙ a.room }

-- ---- one without room

-- what has no place has none with more behind it
pub lacks_more : (told : Told) (bytes more : List ℕ) → LacksRoom told bytes → LacksRoom told (bytes ++ more)
lacks_more told bytes more lacks = lacks_both told told [] bytes more (appends_nothing told) lacks

-- ---- one that took a text, and was flushed

pub passed_on : {old mid new : Told} {text : List ℕ} → WritesWhole old text mid → PassesOn mid new → WritesWhole old text new
passed_on w p = record { appends = appends_kept w.appends p.text p.room; steady = steady_both w.steady p.steady }

pub held_back : {K : Type 0} (told : K → Told) {text : List ℕ} (old mid new : K) (why : SinkError) → WritesWhole (told old) text (told mid) → Declines why (told mid) (told new) → StopsWithin why told text old new
held_back {K} told {text} old mid new why w d = record {
  cause = by_cause why (counted_since (told new) why w.steady d.cause);
  begins = all_is_front text (appends_kept w.appends d.text d.room);
  counts = counts_since w.steady d.counts;
}
  where
    by_cause : (e : SinkError) → IsCounted e (told old) (told new) → IsStopCause e told old new
    by_cause Failed c = c
    by_cause NoMemory c = inr c

-- ---- why writing stopped

-- nothing was written
pub want_before : {K : Type 0} (partly : Bool) (told : K → Told) {old new : K} → new ≡ old → IsWantIf partly told old new
want_before false told same = inl same
want_before true told {old = old} same = inl (subst (λ out. IsSteady (told old) (told out)) (sym same) (steady_alone (told old)))

module _ {K : Type 0} (told : K → Told) (text : List ℕ) (old new : K) where
  pub stop_is_fault : (partly : Bool) → StopsIf partly Failed told text old new → Rose (told old).faults (told new).faults
  stop_is_fault false s = s.cause
  stop_is_fault true s = s.cause

  pub stop_is_want : (partly : Bool) → StopsIf partly NoMemory told text old new → IsWantIf partly told old new
  stop_is_want false s = s.cause
  stop_is_want true s = s.cause

  pub stop_begins : (partly : Bool) (why : SinkError) → StopsIf partly why told text old new → AppendsFront (told old) text (told new)
  stop_begins false why s = s.begins
  stop_begins true why s = s.begins

  pub stop_counts : (partly : Bool) (why : SinkError) → StopsIf partly why told text old new → NoCountFell (told old) (told new)
  stop_counts false why s = s.counts
  stop_counts true why s = s.counts

  pub stopped_by_fault : (partly : Bool) → Rose (told old).faults (told new).faults → AppendsFront (told old) text (told new) → NoCountFell (told old) (told new) → StopsIf partly Failed told text old new
  stopped_by_fault false rose front counts = record { cause = rose; begins = front; counts = counts }
  stopped_by_fault true rose front counts = record { cause = rose; begins = front; counts = counts }

  pub stopped_by_want : (partly : Bool) → IsWantIf partly told old new → AppendsFront (told old) text (told new) → NoCountFell (told old) (told new) → StopsIf partly NoMemory told text old new
  stopped_by_want false want front counts = record { cause = want; begins = front; counts = counts }
  stopped_by_want true want front counts = record { cause = want; begins = front; counts = counts }

  -- where it may stop between two parts, it may also stop as elsewhere
  pub stops_if : (partly : Bool) (why : SinkError) → StopsWithin why told text old new → StopsIf partly why told text old new
  stops_if false why s = s
  stops_if true Failed s = record { cause = s.cause; begins = s.begins; counts = s.counts }
  stops_if true NoMemory s = record { cause = between s.cause; begins = s.begins; counts = s.counts }
    where
      between : IsOwnWant told old new → IsWantBetween told old new
      between (inl same) = want_before true told same
      between (inr rose) = inr rose
