-- What is joined, and what was written of it.
use Rattle.std.specs.Prelude.{◌≡◌, ℕ, ◌+◌, ◌-◌, ◌≤◌, List, [], ◌++◌, Result, Ok, Err, IfErr, OnOk, length, take, refl}
use Rattle.std.specs.List.{between}
use Rattle.std.proofs.Common.{sym, ap, subst, ◌∙◌, append_assoc, append-nil, arith, length-append, length-take-le}
use Rattle.std.proofs.lemmas.List.{take_at}
use Rattle.std.proofs.lemmas.List.Edits.{length-between}
use Rattle.sval_io.specs.Sinks.{Told, WritesWhole, WritesFront, WritesAll}
use Rattle.sval_io.specs.declared.sink.SinkError.{SinkError}
use Rattle.sval_io.proofs.Appending.{writes_nothing, writes_both, stops_after}
use Rattle.sval_json_read.specs.TextParts.{IsWrittenUpTo}
use Rattle.sval_json_read.proofs.TextParts.{own_piece, pieces_joined}
use borrow.Rule.Slice.PartMut.{put_mid, post_of}

-- bytes of a text that are copied with what is behind them, to the end of what is joined
pub part_added : (room copied bytes : List ℕ) (size k from to : ℕ) → size ≤ length room → from ≤ to → to ≤ from + 32 → from + 32 ≤ length bytes → copied ≡ between from (from + 32) bytes
    → take (size + (to - from)) (put_mid size k room copied) ≡ take size room ++ between from to bytes
part_added room copied bytes size k from to r o s w e =
    let front = take size room in
    let part = between from to bytes in
    let more = between to (from + 32) bytes in
    let behind = post_of size k room in
    let n = size + (to - from) in
    let within : to ≤ length bytes = omega arith in
    let cut : copied ≡ part ++ more = e ∙ (pieces_joined (own_piece bytes from to o within) (own_piece bytes to (from + 32) s w)).same in
    let all : length (front ++ part) ≡ n = omega (arith, length-append front part, length-take-le size room r, length-between bytes from to within) in
    ap (λ row. take n (front ++ (row ++ behind))) cut
    ∙ ap (λ row. take n (front ++ row)) (append_assoc part more behind)
    ∙ ap (take n) (sym (append_assoc front part (more ++ behind)))
    ∙ take_at (front ++ part) (more ++ behind) n all

-- the front that was written, then what is left, and a piece
rest_and : {old new : Told} {whole rest now : List ℕ} (piece : List ℕ) (w : IsWrittenUpTo old whole rest new) → now ≡ rest → whole ++ piece ≡ w.front ++ (now ++ piece)
rest_and {rest = rest} piece w e = ap (λ row. row ++ piece) w.same ∙ append_assoc w.front rest piece ∙ ap (λ row. w.front ++ (row ++ piece)) (sym e)

-- nothing is left where what was left is written, with a piece behind it
pub all_written : {old mid : Told} {whole rest now : List ℕ} (new : Told) (piece next : List ℕ) (r : Result (Unit {0}) SinkError) → IsWrittenUpTo old whole rest mid → now ≡ rest
    → WritesAll r mid (now ++ piece) new → OnOk r (next ≡ []) → OnOk r (IsWrittenUpTo old (whole ++ piece) next new)
all_written {old} {mid} {whole} {rest} {now} new piece next (Ok done) w e a n = record {
  front = whole ++ piece;
  same = sym (ap (λ row. (whole ++ piece) ++ row) n ∙ append-nil (whole ++ piece));
  writes = subst (λ row. WritesWhole old row new) (sym (rest_and piece w e)) (writes_both w.front (now ++ piece) w.writes a);
}
all_written new piece next (Err why) w e a n = tt

-- the same where writing stops
pub stops_written : {old mid : Told} {whole rest now : List ℕ} (new : Told) (piece : List ℕ) (r : Result (Unit {0}) SinkError) → IsWrittenUpTo old whole rest mid → now ≡ rest
    → WritesAll r mid (now ++ piece) new → IfErr r (λ why. WritesFront why old (whole ++ piece) new)
stops_written new piece (Ok done) w e a = tt
stops_written {now = now} new piece (Err why) w e a =
    stops_after w.front (now ++ piece) [] w.writes (rest_and piece w e ∙ ap (λ row. w.front ++ row) (sym (append-nil (now ++ piece)))) a

-- the same where what is joined is not taken
pub stops_before : {old new : Told} {why : SinkError} (joined piece : List ℕ) → WritesFront why old joined new → WritesFront why old (joined ++ piece) new
stops_before {old} joined piece f = stops_after [] joined piece (writes_nothing old) refl f
