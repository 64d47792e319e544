-- What a run says of its devices, as a fact on what they tell.
use Rattle.std.specs.Prelude.{◌≡◌, ℕ, Bool, true, false, List, [], Option, Some, None, Result, Ok, Err}
use Rattle.std.proofs.Common.{ap, inl, inr}
use Rattle.sval_io.specs.Sinks.{Told}
use Rattle.sval_io.specs.declared.sink.SinkError.{SinkError}
use Rattle.sval_io.specs.declared.sink.SinkError.TheVariants as cause
use Rattle.sval_io.specs.Sources.{Supply}
use Rattle.sval_program.specs.declared.failure.Failure.{Failure}
use Rattle.sval_program.specs.declared.failure.Failure.TheVariants.{Usage, Input, Fault as Found, NoMemory, Write}
use Rattle.sval_program.specs.Inputs.{OnShort, OnLong, input_if}
use Rattle.sval_program.specs.Jobs.{Terms, ServesBytes, ServesInput, ServesIf, ServesForm, Works}
use Rattle.sval_program.specs.Outputs.{IsOwnWant, IsWantIf, IsStopCause, StopsIf}
use Rattle.sval_program.specs.Runs.{reads, Ends, MayLeave}
use Rattle.sval_program.proofs.JobRuns.{on_both}

-- a device that is what it tells
abbrev pub as_told : {T : Type 0} → T → T
as_told told = told

own_want : {K : Type 0} (sink : K → Told) (old new : K) → IsOwnWant sink old new → IsOwnWant as_told (sink old) (sink new)
own_want sink old new (inl same) = inl (ap sink same)
own_want sink old new (inr rose) = inr rose

may_leave : {Form K : Type 0} (terms : Terms Form) (sink : K → Told) (old new : K) (input : List ℕ) (asked : Form) → MayLeave terms sink old new input asked → MayLeave terms as_told (sink old) (sink new) input asked
may_leave terms sink old new input asked (inl same) = inl (ap sink same)
may_leave terms sink old new input asked (inr front) = inr front

want_if : {K : Type 0} (partly : Bool) (sink : K → Told) (old new : K) → IsWantIf partly sink old new → IsWantIf partly as_told (sink old) (sink new)
want_if false sink old new want = own_want sink old new want
want_if true sink old new want = want

-- ---- the work

stop_cause : {K : Type 0} (sink : K → Told) (old new : K) (why : SinkError) → IsStopCause why sink old new → IsStopCause why as_told (sink old) (sink new)
stop_cause sink old new cause.Failed h = h
stop_cause sink old new cause.NoMemory h = own_want sink old new h

stops_if : {K : Type 0} (partly : Bool) (sink : K → Told) (text : List ℕ) (old new : K) (why : SinkError) → StopsIf partly why sink text old new → StopsIf partly why as_told text (sink old) (sink new)
stops_if false sink text old new why s = record { cause = stop_cause sink old new why s.cause; begins = s.begins; counts = s.counts }
stops_if true sink text old new cause.Failed s = record { cause = s.cause; begins = s.begins; counts = s.counts }
stops_if true sink text old new cause.NoMemory s = record { cause = s.cause; begins = s.begins; counts = s.counts }

told_bytes : {Form K : Type 0} (terms : Terms Form) (sink : K → Told) (asked : Form) (input : List ℕ) (ended : Result (Unit {0}) Failure) (old new : K)
    → ServesBytes terms sink asked input ended old new → ServesBytes terms as_told asked input ended (sink old) (sink new)
told_bytes terms sink asked input (Ok done) old new s = s
told_bytes terms sink asked input (Err Usage) old new s = s
told_bytes terms sink asked input (Err (Input why)) old new s = s
told_bytes terms sink asked input (Err (Found why)) old new s = record { all = s.all; known = s.known; untouched = λ e. ap sink (s.untouched e) }
told_bytes terms sink asked input (Err NoMemory) old new s = ap sink s
told_bytes terms sink asked input (Err (Write why)) old new s = record {
  found = s.found;
  bytes = s.bytes;
  due = s.due;
  may = s.may;
  stops = stops_if (terms.partly (Some asked)) sink s.bytes old new why s.stops;
}

told_input : {Form I K : Type 0} (terms : Terms Form) (source : I → Supply) (sink : K → Told) (asked : Form) (ended : Result (Unit {0}) Failure) (before after : I) (old new : K)
    → ServesInput terms source sink asked ended before after old new → ServesInput terms as_told as_told asked ended (source before) (source after) (sink old) (sink new)
told_input terms source sink asked (Ok done) before after old new s = record { input = s.input; reads = s.reads; serves = told_bytes terms sink asked s.input (Ok done) old new s.serves }
told_input terms source sink asked (Err Usage) before after old new s = record { input = s.input; reads = s.reads; serves = told_bytes terms sink asked s.input (Err Usage) old new s.serves }
told_input terms source sink asked (Err (Input why)) before after old new u = record { stops = u.stops; out = ap sink u.out }
told_input terms source sink asked (Err (Found why)) before after old new s = record { input = s.input; reads = s.reads; serves = told_bytes terms sink asked s.input (Err (Found why)) old new s.serves }
told_input terms source sink asked (Err NoMemory) before after old new s = record { input = s.input; reads = s.reads; serves = told_bytes terms sink asked s.input (Err NoMemory) old new s.serves }
told_input terms source sink asked (Err (Write why)) before after old new s = record { input = s.input; reads = s.reads; serves = told_bytes terms sink asked s.input (Err (Write why)) old new s.serves }

told_if : {Form I K : Type 0} (reads : Bool) (terms : Terms Form) (source : I → Supply) (sink : K → Told) (asked : Form) (ended : Result (Unit {0}) Failure) (before after : I) (old new : K)
    → ServesIf reads terms source sink asked ended before after old new → ServesIf reads terms as_told as_told asked ended (source before) (source after) (sink old) (sink new)
told_if true terms source sink asked ended before after old new s = told_input terms source sink asked ended before after old new s
told_if false terms source sink asked ended before after old new s = record { input = ap source s.input; serves = told_bytes terms sink asked [] ended old new s.serves }

told_form : {Form I K : Type 0} (terms : Terms Form) (source : I → Supply) (sink : K → Told) (form : Option Form) (ended : Result (Unit {0}) Failure) (before after : I) (old new : K)
    → ServesForm terms source sink form ended before after old new → ServesForm terms as_told as_told form ended (source before) (source after) (sink old) (sink new)
told_form terms source sink None ended before after old new n = record { usage = n.usage; input = ap source n.input; out = ap sink n.out }
told_form terms source sink (Some asked) ended before after old new s = told_if (terms.reads (Some asked)) terms source sink asked ended before after old new s

told_works : {Form I K : Type 0} (terms : Terms Form) (source : I → Supply) (sink : K → Told) (words : List (List ℕ)) (ended : Result (Unit {0}) Failure) (before after : I) (old new : K)
    → Works terms source sink words ended before after old new → Works terms as_told as_told words ended (source before) (source after) (sink old) (sink new)
told_works terms source sink words ended before after old new w = record { serves = told_form terms source sink (terms.form_named words) ended before after old new w.serves; flushed = w.flushed }

-- ---- the run

pub told_run : {Form I K : Type 0} {terms : Terms Form} {source : I → Supply} {sink : K → Told} {words : List (List ℕ)} {before after : I} {old new : K} {status : ℕ} → Ends terms source sink words before after old new status
    → Ends terms as_told as_told words (source before) (source after) (sink old) (sink new) status
told_run {terms = terms} {source = source} {sink = sink} {words = words} {before = before} {old = old} {new = new} e = record {
  known = e.known;
  usage = e.usage;
  done = e.done;
  flushed = e.flushed;
  finds = e.finds;
  write = e.write;
  read = e.read;
  own_want = λ is. want_if (terms.partly (terms.form_named words)) sink old new (e.own_want is);
  want = e.want;
  long = e.long;
  read_comes = e.read_comes;
  comes = λ quiet. e.comes (record { input = quiet.input; out = quiet.out });
  long_comes = e.long_comes;
  untouched = λ is. ap sink (e.untouched is);
  leaves = on_both (terms.form_named words) (input_if (reads terms words) (source before)) (OnShort (MayLeave terms sink old new)) (OnShort (MayLeave terms as_told (sink old) (sink new))) (λ input asked left short. may_leave terms sink old new input asked (left short)) e.leaves;
  leaves_long = on_both (terms.form_named words) (input_if (reads terms words) (source before)) (OnLong (new ≡ old)) (OnLong (sink new ≡ sink old)) (λ input asked left long. ap sink (left long)) e.leaves_long;
  grows = e.grows;
  nothing_read = λ is. ap source (e.nothing_read is);
  unread = λ is. ap source (e.unread is);
  nothing_written = λ is. ap sink (e.nothing_written is);
  spent = e.spent;
  short = e.short;
  steady = e.steady;
  counts = e.counts;
}
