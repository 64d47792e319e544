-- What a function answers that streams a value between a begin and its end, by what each of the three calls answers.
use Rattle.std.specs.Prelude.{Result, Ok, Err, IsErr}
use Rattle.sval_label.specs.declared.error.Error.{Error}
use Rattle.sval_label.specs.Calls.{Call}
use Rattle.sval_core.specs.Law.{Standing, Law, Emission, Takes, Refuses, Streams, Stops, Answers, Emits}
use Rattle.sval_core.specs.Values.{between}
use Rattle.sval_core.proofs.Emissions.{passes_on}
use Rattle.sval_core.proofs.Between.{streams_between, stops_at_begin, stops_inside, stops_at_end}

-- where a `?` passes on that the begin was refused
pub begin_refused : {V : Type 0} {law : Law V} {old new : Standing V} {begin : Call} (end : Call) (e : Emission) (r : Result (Unit {0}) Error)
    → IsErr r → Refuses law old begin new → Emits law r old (between begin end e) new
begin_refused end e r is refused = passes_on r is (stops_at_begin end e refused)

-- where a `?` passes on that what is inside stopped
pub inside_stopped : {V : Type 0} {law : Law V} {old inside new : Standing V} {begin : Call} {e : Emission} (end : Call) (r : Result (Unit {0}) Error)
    → IsErr r → Takes law old begin inside → Stops law inside e new → Emits law r old (between begin end e) new
inside_stopped end r is begun stopped = passes_on r is (stops_inside end begun stopped)

-- the answer of the end
pub end_answered : {V : Type 0} {law : Law V} {old inside later : Standing V} {begin : Call} {e : Emission} (end : Call) (new : Standing V) (r : Result (Unit {0}) Error)
    → Takes law old begin inside → Streams law inside e later → Answers law r later end new → Emits law r old (between begin end e) new
end_answered end new (Ok done) begun streamed taken = streams_between begun streamed taken
end_answered end new (Err refusal) begun streamed refused = stops_at_end begun streamed refused
