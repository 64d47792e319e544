-- A piece that is written bit by bit.
use Rattle.std.specs.Prelude.{◌≡◌, ℕ, ◌+◌, ◌-◌, ◌<◌, ◌≤◌, List, [], ◌++◌, Option, Some, None, IfSome, Result, Ok, Err, take, drop, length}
use Rattle.std.proofs.Common.{sym, ap, ◌∙◌, subst, arith, append-nil}
use Rattle.std.proofs.lemmas.List.{length-drop, drop-drop, take_rest, take-append-drop}
use Rattle.std.proofs.Math.Seq.{take-add}
use Rattle.sval_io.specs.Sinks.{Told, LacksRoom, TakesSome, TakesNothing, WritesWhole, WritesFront, WritesAll}
use Rattle.sval_io.specs.declared.sink.SinkError.{SinkError}
use Rattle.sval_io.proofs.Appending.{counted_since, counts_since, lacks_both, writes_both, stops_after}

-- some first bytes of the piece were taken, and the rest is due
pub record IsPartlyWritten (old : Told) (piece rest : List ℕ) (new : Told) : Type 0 where
  pub count : ℕ
  pub within : count ≤ length piece
  pub rest_is : rest ≡ drop count piece
  pub writes : WritesWhole old (take count piece) new

-- some first bytes of what was due were taken
pub written_on : {old mid new : Told} {piece rest : List ℕ} (n : ℕ) → IsPartlyWritten old piece rest mid → TakesSome n mid rest new
    → IsPartlyWritten old piece (take (length rest - n) (drop n rest)) new
written_on {old} {mid} {new} {piece} {rest} n w t =
    let left : n ≤ length (drop w.count piece) = rw (sym w.rest_is) t.within in
    let taken : take w.count piece ++ take n rest ≡ take (w.count + n) piece = ap (λ due. take w.count piece ++ take n due) w.rest_is ∙ sym (take-add w.count n piece) in
    record {
      count = w.count + n;
      within = omega (arith, length-drop w.count piece, w.within);
      rest_is = take_rest rest n ∙ ap (drop n) w.rest_is ∙ drop-drop n w.count piece;
      writes = subst (λ bytes. WritesWhole old bytes new) taken (writes_both (take w.count piece) (take n rest) w.writes (record { appends = t.appends; steady = t.steady }));
    }

-- the sink took nothing of what was due
pub stopped_in_rest : {old mid new : Told} {piece rest : List ℕ} {why : SinkError} → IsPartlyWritten old piece rest mid → 0 < length rest → TakesNothing why mid new
    → WritesFront why old piece new
stopped_in_rest {old} {mid} {new} {piece} {rest} {why} w some t =
    let size : length rest ≡ length piece - w.count = ap length w.rest_is ∙ length-drop w.count piece in
    let whole : piece ≡ take w.count piece ++ (rest ++ []) =
    sym (take-append-drop w.count piece) ∙ ap (λ due. take w.count piece ++ due) (sym w.rest_is ∙ sym (append-nil rest)) in
    record {
      front = record {
        count = w.count;
        within = w.within;
        appends = record {
          fits = w.writes.appends.fits;
          text = t.declines.text ∙ w.writes.appends.text;
          room = t.declines.room ∙ w.writes.appends.room;
        };
      };
      part = record {
        count = w.count;
        within = let due : w.count < length piece = omega (arith, size, some) in due;
        appends = record {
          fits = w.writes.appends.fits;
          text = t.declines.text ∙ w.writes.appends.text;
          room = t.declines.room ∙ w.writes.appends.room;
        };
      };
      cause = counted_since new why w.writes.steady t.declines.cause;
      full = λ failed. subst (LacksRoom old) (sym whole) (lacks_both old mid (take w.count piece) rest [] w.writes.appends (none_left mid.room (t.full failed)));
      counts = counts_since w.writes.steady t.declines.counts;
    }
  where
    none_left : (room : Option ℕ) → IfSome room (λ left. left ≡ 0) → IfSome room (λ left. left < length rest)
    none_left None full = tt
    none_left (Some left) full = omega (arith, full, some)

-- the first call took a part, and then the rest was written, or a first part of it
pub then_rest : {old mid : Told} {piece : List ℕ} (new : Told) (r : Result (Unit {0}) SinkError) (n : ℕ) → TakesSome n old piece mid
    → WritesAll r mid (take (length piece - n) (drop n piece)) new → WritesAll r old piece new
then_rest {old} {mid} {piece} new r n t written = both r (subst (λ rest. WritesAll r mid rest new) (take_rest piece n) written)
  where
    first : WritesWhole old (take n piece) mid
    first = record { appends = t.appends; steady = t.steady }

    whole : piece ≡ take n piece ++ drop n piece
    whole = sym (take-append-drop n piece)

    both : (r : Result (Unit {0}) SinkError) → WritesAll r mid (drop n piece) new → WritesAll r old piece new
    both (Ok done) w = subst (λ bytes. WritesWhole old bytes new) (sym whole) (writes_both (take n piece) (drop n piece) first w)
    both (Err why) w = stops_after (take n piece) (drop n piece) [] first (whole ∙ ap (λ rest. take n piece ++ rest) (sym (append-nil (drop n piece)))) w
