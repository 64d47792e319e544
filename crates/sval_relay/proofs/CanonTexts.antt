-- What printing a captured tree answers, as what writing a tree does.
use Rattle.std.specs.Prelude.{true, refl}
use Rattle.sval_core.specs.Real.{IsPrintable}
use Rattle.sval_core.specs.Trees.{Tree}
use Rattle.sval_io.specs.Sinks.{Told, WritesWhole}
use Rattle.sval_io.specs.declared.sink.SinkError.{SinkError}
use Rattle.sval_io.specs.declared.sink.SinkError.TheVariants as sink
use Rattle.sval_program.specs.Outputs.{StopsWriting}
use Rattle.sval_script.specs.Canon.{canon}
use Rattle.sval_script.proofs.CanonicalScripts.{canon-reads_back}
use Rattle.sval_relay.specs.Relays.{of_sink}
use Rattle.sval_relay.specs.Verdict.{Script}
use Rattle.sval_relay.specs.WrittenTrees.{IsCauseOf, WritesTextOf, StopsTree}

pub writes_script : {old new : Told} (tree : Tree) → IsPrintable tree → WritesWhole old (canon tree) new → WritesTextOf Script tree old new
writes_script tree p w = record { text = canon tree; is = refl; meant = canon-reads_back tree p; appends = w.appends; steady = w.steady }

pub stops_script : {K : Type 0} (told : K → Told) (tree : Tree) (old new : K) (why : SinkError) → StopsWriting why told (canon tree) old new → StopsTree (of_sink why) true told Script tree old new
stops_script {K} told tree old new why w = record { cause = by_cause why w; begins = w.stops.begins; counts = w.stops.counts }
  where
    by_cause : (e : SinkError) → StopsWriting e told (canon tree) old new → IsCauseOf (of_sink e) true told Script tree old new
    by_cause sink.Failed s = record { fault = s.stops.cause; full = s.full refl }
    by_cause sink.NoMemory s = s.stops.cause
