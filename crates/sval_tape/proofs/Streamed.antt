-- Reading a tape call by call, and making each call as it is read.
use Rattle.std.proofs.Common.{◌≡◌, ℕ, ◌+◌, ◌-◌, ◌<◌, List, [], ◌∷◌, ◌++◌, length, take, Some, None, refl, sym, ap, ◌∙◌, append_assoc, append-nil, arith}
use Rattle.std.specs.List.{AllByRecursion}
use Rattle.std.proofs.lemmas.List.{length-append, take_at, nil_from_length}
use Rattle.sval_label.specs.Calls.{Call}
use Rattle.sval_core.specs.Values.{makes}
use Rattle.sval_core.specs.Law.{Standing, Law, Takes, Refuses, Streams, Stops, emits, then_emits}
use Rattle.sval_core.proofs.Emissions.{streams_one, stops_one, streams_then, stops_later}
use Rattle.sval_tape.specs.Tapes.{call_bytes, tape_of}
use Rattle.sval_tape.specs.Taped.{IsTapedCall}
use Rattle.sval_tape.specs.Reading.{call_at_front}
use Rattle.sval_tape.specs.Streaming.{StreamsTape, StreamsFront, StopsInTape}
use Rattle.sval_tape.proofs.OperandReads.{IsBytes}
use Rattle.sval_tape.proofs.Tapes.{tape-nil}
use Rattle.sval_tape.proofs.CallsRead.{call_takes}
use Rattle.sval_tape.proofs.TapeStreams.{IsReadUpTo, read_less, read_bad, tape-append, all_append}

-- the first calls were read and taken, and these bytes are left
pub record IsStreamedUpTo {V : Type 0} (law : Law V) (old now : Standing V) (bytes rest : List ℕ) : Type 0 where
  pub calls : List Call
  pub taped : AllByRecursion IsTapedCall calls
  pub parts : bytes ≡ tape_of calls ++ rest
  pub fits : IsBytes rest
  pub streams : Streams law old (makes calls) now

pub streamed_nothing : {V : Type 0} {law : Law V} (old : Standing V) (bytes : List ℕ) → IsBytes bytes → IsStreamedUpTo law old old bytes bytes
streamed_nothing old bytes fits = record {
  calls = [];
  taped = tt;
  parts = ap (λ (w : List ℕ). w ++ bytes) (sym tape-nil);
  fits = fits;
  streams = record { willing = refl; ran = refl; faults = refl; wants = refl };
}

-- what was read alone
pub as_read : {V : Type 0} {law : Law V} {old now : Standing V} {bytes rest : List ℕ} → IsStreamedUpTo law old now bytes rest → IsReadUpTo bytes rest
as_read m = record { calls = m.calls; taped = m.taped; parts = m.parts; fits = m.fits }

-- the bytes with one call more in front
parts_more : {bytes rest : List ℕ} (calls : List Call) (call : Call) (behind : List ℕ) → bytes ≡ tape_of calls ++ rest → rest ≡ call_bytes call ++ behind
    → bytes ≡ tape_of (calls ++ (call ∷ [])) ++ behind
parts_more calls call behind parts is =
    parts ∙ ap (λ (w : List ℕ). tape_of calls ++ w) is ∙ sym (append_assoc (tape_of calls) (call_bytes call) behind) ∙ ap (λ (w : List ℕ). w ++ behind) (sym (tape-append calls call))

module _ {V : Type 0} {law : Law V} {old mid : Standing V} {bytes rest : List ℕ} (new : Standing V) (call : Call) (behind : List ℕ) where
  pub streamed_more : IsStreamedUpTo law old mid bytes rest → call_at_front rest ≡ Some (call, behind) → Takes law mid call new → IsStreamedUpTo law old new bytes behind
  unfolding emits then_emits
  streamed_more m e t =
      let c = call_takes rest call behind m.fits e in
      record {
        calls = m.calls ++ (call ∷ []);
        taped = all_append m.calls call m.taped c.1;
        parts = parts_more m.calls call behind m.parts c.0.parts;
        fits = c.0.rest_fits;
        streams = streams_then m.streams (streams_one t);
      }

  pub streamed_stop : IsStreamedUpTo law old mid bytes rest → call_at_front rest ≡ Some (call, behind) → Refuses law mid call new → StopsInTape law bytes old new
  unfolding emits then_emits
  streamed_stop m e r =
      let c = call_takes rest call behind m.fits e in
      let stops : Stops law old (makes (m.calls ++ (call ∷ []))) new = stops_later m.streams (stops_one r) in
      record {
        calls = m.calls ++ (call ∷ []);
        rest = behind;
        taped = all_append m.calls call m.taped c.1;
        bytes_are = parts_more m.calls call behind m.parts c.0.parts;
        stops = stops;
      }

module _ {V : Type 0} {law : Law V} {old now : Standing V} {bytes rest : List ℕ} where
  pub streamed_less : (call : Call) (behind : List ℕ) → IsStreamedUpTo law old now bytes rest → call_at_front rest ≡ Some (call, behind) → length behind < length rest
  streamed_less call behind m e = read_less call behind (as_read m) e

  pub streamed_bad : IsStreamedUpTo law old now bytes rest → 0 < length rest → call_at_front rest ≡ None → StreamsFront law bytes (length bytes - length rest) old now
  streamed_bad m some none =
      let size : length bytes ≡ length (tape_of m.calls) + length rest = ap length m.parts ∙ length-append (tape_of m.calls) rest in
      let at : length bytes - length rest ≡ length (tape_of m.calls) = omega arith in
      let front : take (length bytes - length rest) bytes ≡ tape_of m.calls = ap (λ n. take n bytes) at ∙ ap (take (length (tape_of m.calls))) m.parts ∙ take_at (tape_of m.calls) rest (length (tape_of m.calls)) refl in
      record {
        bad = read_bad (as_read m) some none;
        front = record { calls = m.calls; tape = record { taped = m.taped; bytes_are = front }; streams = m.streams };
      }

  pub streamed_all : IsStreamedUpTo law old now bytes rest → length rest ≡ 0 → StreamsTape law bytes old now
  streamed_all m none =
      let nothing : rest ≡ [] = nil_from_length rest none in
      record {
        calls = m.calls;
        tape = record { taped = m.taped; bytes_are = m.parts ∙ ap (λ (w : List ℕ). tape_of m.calls ++ w) nothing ∙ append-nil (tape_of m.calls) };
        streams = m.streams;
      }
