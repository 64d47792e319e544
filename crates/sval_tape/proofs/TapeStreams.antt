-- Reading a tape call by call, and making its calls.
use Rattle.std.proofs.Common.{◌≡◌, ℕ, suc, ◌+◌, ◌-◌, ◌<◌, ◌≤◌, List, [], ◌∷◌, ◌++◌, length, take, drop, Some, None, refl, sym, ap, subst, ◌∙◌, append_assoc, append-nil, arith}
use Rattle.std.specs.List.{AllByRecursion}
use Rattle.std.proofs.lemmas.Option.{same_Some}
use Rattle.std.proofs.lemmas.List.{length-append, take_at, drop_at, nil_from_length}
use Rattle.sval_label.specs.Calls.{Call}
use Rattle.sval_core.specs.Values.{makes}
use Rattle.sval_core.specs.Law.{Standing, Law, Takes, Refuses, Streams, Stops, emits, then_emits}
use Rattle.sval_core.proofs.Emissions.{streams_one, stops_one, streams_then, stops_first, stops_later}
use Rattle.sval_tape.specs.Tapes.{operands, call_bytes, tape_of}
use Rattle.sval_tape.specs.Taped.{IsTapedCall, IsTape, IsBadAt}
use Rattle.sval_tape.specs.Reading.{call_at_front, calls_on_tape}
use Rattle.sval_tape.proofs.OperandReads.{IsBytes}
use Rattle.sval_tape.proofs.Tapes.{tape-cons, tape-nil}
use Rattle.sval_tape.proofs.CallsRead.{call_takes, call_again, calls_of_tape}

-- ---- reading

-- the first calls were read, and these bytes are left
pub record IsReadUpTo (bytes rest : List ℕ) : Type 0 where
  pub calls : List Call
  pub taped : AllByRecursion IsTapedCall calls
  pub parts : bytes ≡ tape_of calls ++ rest
  pub fits : IsBytes rest

pub read_nothing : (bytes : List ℕ) → IsBytes bytes → IsReadUpTo bytes bytes
read_nothing bytes fits = record { calls = []; taped = tt; parts = ap (λ (w : List ℕ). w ++ bytes) (sym tape-nil); fits = fits }

pub tape-append : (calls : List Call) (call : Call) → tape_of (calls ++ (call ∷ [])) ≡ tape_of calls ++ call_bytes call
tape-append [] call = tape-cons call [] ∙ ap (λ (w : List ℕ). call_bytes call ++ w) tape-nil ∙ append-nil (call_bytes call) ∙ ap (λ (w : List ℕ). w ++ call_bytes call) (sym tape-nil)
tape-append (first ∷ calls) call =
    tape-cons first (calls ++ (call ∷ [])) ∙ ap (λ (w : List ℕ). call_bytes first ++ w) (tape-append calls call)
    ∙ sym (append_assoc (call_bytes first) (tape_of calls) (call_bytes call)) ∙ ap (λ (w : List ℕ). w ++ call_bytes call) (sym (tape-cons first calls))

pub all_append : (calls : List Call) (call : Call) → AllByRecursion IsTapedCall calls → IsTapedCall call → AllByRecursion IsTapedCall (calls ++ (call ∷ []))
all_append [] call all one = (one, tt)
all_append (first ∷ calls) call all one = (all.0, all_append calls call all.1 one)

pub read_more : {bytes rest : List ℕ} (call : Call) (behind : List ℕ) → IsReadUpTo bytes rest → call_at_front rest ≡ Some (call, behind) → IsReadUpTo bytes behind
read_more {bytes} {rest} call behind r e =
    let t = call_takes rest call behind r.fits e in
    record {
      calls = r.calls ++ (call ∷ []);
      taped = all_append r.calls call r.taped t.1;
      parts = r.parts ∙ ap (λ (w : List ℕ). tape_of r.calls ++ w) t.0.parts ∙ sym (append_assoc (tape_of r.calls) (call_bytes call) behind) ∙ ap (λ (w : List ℕ). w ++ behind) (sym (tape-append r.calls call));
      fits = t.0.rest_fits;
    }

pub read_less : {bytes rest : List ℕ} (call : Call) (behind : List ℕ) → IsReadUpTo bytes rest → call_at_front rest ≡ Some (call, behind) → length behind < length rest
read_less {rest = rest} call behind r e =
    let t = call_takes rest call behind r.fits e in
    let size : length rest ≡ suc (length (operands call ++ behind)) = ap length t.0.parts in
    omega (arith, length-append (operands call) behind)

pub read_bad : {bytes rest : List ℕ} → IsReadUpTo bytes rest → 0 < length rest → call_at_front rest ≡ None → IsBadAt bytes (length bytes - length rest)
read_bad {bytes} {rest} r some none =
    let size : length bytes ≡ length (tape_of r.calls) + length rest = ap length r.parts ∙ length-append (tape_of r.calls) rest in
    let at : length bytes - length rest ≡ length (tape_of r.calls) = omega arith in
    let front : take (length bytes - length rest) bytes ≡ tape_of r.calls = ap (λ n. take n bytes) at ∙ ap (take (length (tape_of r.calls))) r.parts ∙ take_at (tape_of r.calls) rest (length (tape_of r.calls)) refl in
    let back : drop (length bytes - length rest) bytes ≡ rest = ap (λ n. drop n bytes) at ∙ ap (drop (length (tape_of r.calls))) r.parts ∙ drop_at (tape_of r.calls) rest (length (tape_of r.calls)) refl in
    record {
      within = omega arith;
      calls = r.calls;
      before = record { taped = r.taped; bytes_are = front };
      bad = λ call more taped e. let read = sym none ∙ ap call_at_front (sym back ∙ e) ∙ call_again call more taped in cc read;
    }

pub read_all : {bytes rest : List ℕ} → IsReadUpTo bytes rest → length rest ≡ 0 → IsTape bytes (calls_on_tape bytes)
read_all {bytes} {rest} r none =
    let nothing : rest ≡ [] = nil_from_length rest none in
    let tape : IsTape bytes r.calls = record { taped = r.taped; bytes_are = r.parts ∙ ap (λ (w : List ℕ). tape_of r.calls ++ w) nothing ∙ append-nil (tape_of r.calls) } in
    subst (λ (calls : List Call). IsTape bytes calls) (sym (calls_of_tape bytes r.calls tape)) tape

-- ---- making calls

-- some first calls were taken, and the others have these bytes as their tape
pub record IsMadeUpTo {V : Type 0} (law : Law V) (old now : Standing V) (all : List Call) (rest : List ℕ) : Type 0 where
  pub done : List Call
  pub left : List Call
  pub all_is : all ≡ done ++ left
  pub tape : IsTape rest left
  pub streams : Streams law old (makes done) now

pub made_nothing : {V : Type 0} {law : Law V} (old : Standing V) (calls : List Call) (bytes : List ℕ) → IsTape bytes calls → IsMadeUpTo law old old calls bytes
made_nothing old calls bytes tape = record { done = []; left = calls; all_is = refl; tape = tape; streams = record { willing = refl; ran = refl; faults = refl; wants = refl } }

-- the call that is read next is the next one
record IsNext (left : List Call) (call : Call) (behind : List ℕ) : Type 0 where
  others : List Call
  left_is : left ≡ call ∷ others
  tape : IsTape behind others

next_is : (rest : List ℕ) (left : List Call) (call : Call) (behind : List ℕ) → IsTape rest left → call_at_front rest ≡ Some (call, behind) → IsNext left call behind
next_is rest [] call behind tape e =
    let read : call_at_front [] ≡ Some (call, behind) = ap call_at_front (sym (tape.bytes_are ∙ tape-nil)) ∙ e in absurd (cc read)
next_is rest (first ∷ others) call behind tape e =
    let read : call_at_front rest ≡ Some (first, tape_of others) = ap call_at_front (tape.bytes_are ∙ tape-cons first others) ∙ call_again first (tape_of others) tape.taped.0 in
    let same = same_Some (first, tape_of others) (call, behind) (sym read ∙ e) in
    record {
      others = others;
      left_is = ap (λ (r : Call × List ℕ). r.0 ∷ others) same;
      tape = record { taped = tape.taped.1; bytes_are = sym (ap (λ (r : Call × List ℕ). r.1) same) };
    }

module _ {V : Type 0} {law : Law V} {old mid : Standing V} {all : List Call} {rest : List ℕ} (new : Standing V) (call : Call) (behind : List ℕ) where
  pub made_more : IsMadeUpTo law old mid all rest → call_at_front rest ≡ Some (call, behind) → Takes law mid call new → IsMadeUpTo law old new all behind
  unfolding emits then_emits
  made_more m e t =
      let n = next_is rest m.left call behind m.tape e in
      record {
        done = m.done ++ (call ∷ []);
        left = n.others;
        all_is = m.all_is ∙ ap (λ (left : List Call). m.done ++ left) n.left_is ∙ sym (append_assoc m.done (call ∷ []) n.others);
        tape = n.tape;
        streams = streams_then m.streams (streams_one t);
      }

  pub made_stop : IsMadeUpTo law old mid all rest → call_at_front rest ≡ Some (call, behind) → Refuses law mid call new → Stops law old (makes all) new
  unfolding emits then_emits
  made_stop m e r =
      let n = next_is rest m.left call behind m.tape e in
      let all_is : all ≡ m.done ++ (call ∷ n.others) = m.all_is ∙ ap (λ (left : List Call). m.done ++ left) n.left_is in
      let stops : Stops law old (makes (m.done ++ (call ∷ n.others))) new = stops_later m.streams (stops_first (makes n.others) (stops_one r)) in
      rw all_is stops

no_more : (rest : List ℕ) (left : List Call) → IsTape rest left → call_at_front rest ≡ None → left ≡ []
no_more rest [] tape e = refl
no_more rest (first ∷ others) tape e =
    let read : call_at_front rest ≡ Some (first, tape_of others) = ap call_at_front (tape.bytes_are ∙ tape-cons first others) ∙ call_again first (tape_of others) tape.taped.0 in
    let never = sym e ∙ read in absurd (cc never)

pub made_all : {V : Type 0} {law : Law V} {old now : Standing V} {all : List Call} {rest : List ℕ} → IsMadeUpTo law old now all rest → call_at_front rest ≡ None → Streams law old (makes all) now
made_all {law = law} {old} {now} {all} {rest} m e =
    let all_is : all ≡ m.done = m.all_is ∙ ap (λ (left : List Call). m.done ++ left) (no_more rest m.left m.tape e) ∙ append-nil m.done in
    subst (λ (calls : List Call). Streams law old (makes calls) now) (sym all_is) m.streams

-- bytes behind a call are fewer
pub made_less : {V : Type 0} {law : Law V} {old now : Standing V} {all : List Call} {rest : List ℕ} (call : Call) (behind : List ℕ) → IsMadeUpTo law old now all rest → call_at_front rest ≡ Some (call, behind) → length behind < length rest
made_less {rest = rest} call behind m e = by_left m.left m.tape
  where
    by_left : (left : List Call) → IsTape rest left → length behind < length rest
    by_left left tape =
        let n = next_is rest left call behind tape e in
        let spelled : rest ≡ call_bytes call ++ behind = tape.bytes_are ∙ ap tape_of n.left_is ∙ tape-cons call n.others ∙ ap (λ (w : List ℕ). call_bytes call ++ w) (sym n.tape.bytes_are) in
        let size : length rest ≡ suc (length (operands call ++ behind)) = ap length spelled in
        omega (arith, length-append (operands call) behind)

-- what is left is no longer than all
pub read_within : {bytes rest : List ℕ} → IsReadUpTo bytes rest → length rest ≤ length bytes
read_within {bytes} {rest} r = omega (arith, ap length r.parts, length-append (tape_of r.calls) rest)
