-- From what serving the words says to what is so of the whole run.
use Rattle.std.specs.Prelude.{ℕ, Bool, true, false, List, Option, Some, None, Result, Ok, Err, refl}
use Rattle.sval_io.specs.Sinks.{Told, Declines, PassesOn}
use Rattle.sval_io.specs.declared.sink.SinkError.{SinkError}
use Rattle.sval_io.specs.Sources.{Supply}
use Rattle.sval_program.specs.declared.failure.Failure.{Failure}
use Rattle.sval_program.specs.declared.failure.Failure.TheVariants.{Write}
use Rattle.sval_program.specs.Failures.{status_of}
use Rattle.sval_program.specs.Jobs.{Terms, WritesAllDue, StopsWithinDue, Serves, ServesIf, ServesForm, Works}
use Rattle.sval_program.specs.Runs.{Ends}
use Rattle.sval_program.proofs.Growing.{passed_on, held_back, stops_if}
use Rattle.sval_program.proofs.JobRuns.{Case, Ran}
use Rattle.sval_program.proofs.JobRuns as answers
use Rattle.sval_program.proofs.JobStatuses as statuses
use Rattle.sval_program.proofs.JobLeaves as leaves

by_case : {Form I K : Type 0} (k : Case Form I K) (words : List (List ℕ)) (ended : Result (Unit {0}) Failure) → Works k.terms k.source k.sink words ended k.before k.after k.old k.new
    → Ends k.terms k.source k.sink words k.before k.after k.old k.new (status_of ended)
by_case k words ended works =
    let form = k.terms.form_named words in
    let ran : Ran k form ended = works.serves in
    record {
      known = statuses.known k form ended ran;
      usage = statuses.usage k form ended ran;
      done = answers.done k form ended ran;
      flushed = answers.flushed k form ended ran works.flushed;
      finds = answers.finds k form ended ran;
      write = answers.write k form ended ran;
      read = answers.read k form ended ran;
      own_want = answers.own_want k form ended ran;
      want = answers.want k form ended ran;
      long = answers.long k form ended ran;
      read_comes = answers.read_comes k form ended ran;
      comes = answers.comes k form ended ran;
      long_comes = leaves.long_comes k form ended ran;
      untouched = leaves.untouched k form ended ran;
      leaves = leaves.leaves k form ended ran;
      leaves_long = leaves.leaves_long k form ended ran;
      grows = leaves.grows k form ended ran;
      nothing_read = leaves.nothing_read k form ended ran;
      unread = leaves.unread k form ended ran;
      nothing_written = leaves.nothing_written k form ended ran;
      spent = leaves.spent k form ended ran;
      short = leaves.stays_short k form ended ran;
      steady = leaves.steady k form ended ran;
      counts = leaves.counts k form ended ran;
    }

-- what is so of a run, by how it ended
pub ends_of : {Form I K : Type 0} (terms : Terms Form) (source : I → Supply) (sink : K → Told) (words : List (List ℕ)) (before after : I) (old new : K) (ended : Result (Unit {0}) Failure)
    → Works terms source sink words ended before after old new → Ends terms source sink words before after old new (status_of ended)
ends_of terms source sink words before after old new = by_case (record { terms = terms; source = source; sink = sink; before = before; after = after; old = old; new = new }) words

-- ---- the flush

-- where the sink fails to pass on what was written, a first part of it was taken, for all that is known
stops_at_flush : {Form I K : Type 0} (terms : Terms Form) (source : I → Supply) (told : K → Told) (before after : I) (old mid new : K) (form : Option Form) (why : SinkError)
    → ServesForm terms source told form (Ok tt) before after old mid → Declines why (told mid) (told new) → ServesForm terms source told form (Err (Write why)) before after old new
stops_at_flush terms source told before after old mid new None why s d = let never = s.usage in absurd (cc never)
stops_at_flush terms source told before after old mid new (Some asked) why s d = by_reads (terms.reads (Some asked)) s
  where
    stops : {input : List ℕ} → WritesAllDue terms asked input None (told old) (told mid) → StopsWithinDue terms told asked input why old new
    stops w = record { found = None; bytes = w.bytes; due = w.due; may = refl; stops = stops_if told w.bytes old new (terms.partly (Some asked)) why (held_back told old mid new why w.writes d) }

    by_reads : (reads : Bool) → ServesIf reads terms source told asked (Ok tt) before after old mid → ServesIf reads terms source told asked (Err (Write why)) before after old new
    by_reads true s = record { input = s.input; reads = s.reads; serves = stops s.serves }
    by_reads false s = record { input = s.input; serves = stops s.serves }

passes_on : {Form I K : Type 0} (terms : Terms Form) (source : I → Supply) (told : K → Told) (before after : I) (old mid new : K) (form : Option Form)
    → ServesForm terms source told form (Ok tt) before after old mid → PassesOn (told mid) (told new) → ServesForm terms source told form (Ok tt) before after old new
passes_on terms source told before after old mid new None s p = let never = s.usage in absurd (cc never)
passes_on terms source told before after old mid new (Some asked) s p = by_reads (terms.reads (Some asked)) s
  where
    all : {input : List ℕ} → WritesAllDue terms asked input None (told old) (told mid) → WritesAllDue terms asked input None (told old) (told new)
    all w = record { bytes = w.bytes; due = w.due; writes = passed_on w.writes p }

    by_reads : (reads : Bool) → ServesIf reads terms source told asked (Ok tt) before after old mid → ServesIf reads terms source told asked (Ok tt) before after old new
    by_reads true s = record { input = s.input; reads = s.reads; serves = all s.serves }
    by_reads false s = record { input = s.input; serves = all s.serves }

pub stops_work : {Form I K : Type 0} (terms : Terms Form) (source : I → Supply) (sink : K → Told) (words : List (List ℕ)) (before after : I) (old mid new : K) (why : SinkError) → Serves terms source sink words (Ok tt) before after old mid
    → Declines why (sink mid) (sink new) → Works terms source sink words (Err (Write why)) before after old new
stops_work terms source sink words before after old mid new why s d = record { serves = stops_at_flush terms source sink before after old mid new (terms.form_named words) why s d; flushed = tt }

-- where it passes that on, nothing is held back
pub ends_work : {Form I K : Type 0} (terms : Terms Form) (source : I → Supply) (sink : K → Told) (words : List (List ℕ)) (before after : I) (old mid new : K) → Serves terms source sink words (Ok tt) before after old mid
    → PassesOn (sink mid) (sink new) → Works terms source sink words (Ok tt) before after old new
ends_work terms source sink words before after old mid new s p = record { serves = passes_on terms source sink before after old mid new (terms.form_named words) s p; flushed = p.flushed }
