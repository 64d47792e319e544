-- How what stands between a begin and its end is streamed, and where it stops.
use Rattle.sval_label.specs.Calls.{Call}
use Rattle.sval_core.specs.Law.{Standing, Law, Emission, emits, then_emits, Takes, Refuses, Streams, Stops}
use Rattle.sval_core.proofs.Emissions.{streams_one, stops_one, streams_then, stops_first, stops_later, passes_on}
use Rattle.sval_core.specs.Values.{between}

pub streams_between : {V : Type 0} {law : Law V} {old inside later new : Standing V} {begin end : Call} {e : Emission}
    → Takes law old begin inside → Streams law inside e later → Takes law later end new → Streams law old (between begin end e) new
streams_between b s n = streams_then (streams_one b) (streams_then s (streams_one n))

-- the begin, what is inside, or the end was refused
pub stops_at_begin : {V : Type 0} {law : Law V} {old new : Standing V} {begin : Call} (end : Call) (e : Emission) → Refuses law old begin new → Stops law old (between begin end e) new
stops_at_begin end e r = stops_first (then_emits e (emits end)) (stops_one r)

pub stops_inside : {V : Type 0} {law : Law V} {old inside new : Standing V} {begin : Call} {e : Emission} (end : Call)
    → Takes law old begin inside → Stops law inside e new → Stops law old (between begin end e) new
stops_inside end b s = stops_later (streams_one b) (stops_first (emits end) s)

pub stops_at_end : {V : Type 0} {law : Law V} {old inside later new : Standing V} {begin end : Call} {e : Emission}
    → Takes law old begin inside → Streams law inside e later → Refuses law later end new → Stops law old (between begin end e) new
stops_at_end b s r = stops_later (streams_one b) (stops_later s (stops_one r))

-- for functions that stream a value between a begin and its end
pub ruleset of_between = (streams_between, stops_at_begin, stops_inside, stops_at_end, passes_on)
