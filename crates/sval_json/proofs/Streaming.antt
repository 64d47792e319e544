-- What is so of a sink after a value was streamed to a fresh writer to it.
use Rattle.std.specs.Prelude.{◌≡◌, true, false, None, Some, Ok, Err, refl}
use Rattle.std.specs.Borrow.{MutBor}
use Rattle.std.proofs.Common.{sym, subst, ◌∙◌}
use Rattle.sval_core.specs.Law.{Emission, Ran, Stops}
use Rattle.sval_io.specs.Sinks.{Told}
use Rattle.sval_io.proofs.Appending.{steady_counts}
use Rattle.sval_json.specs.declared.style.Variants.{Variants}
use Rattle.sval_json.specs.declared.writer.JsonWriter.{JsonWriter}
use Rattle.sval_json.specs.declared.error.ErrorKind.TheVariants.{Generic}
use Rattle.sval_json.specs.ErrorKinds.{error_kind, refusal_kind}
use Rattle.sval_json.specs.Number.{InvalidKey, InvalidNumber}
use Rattle.sval_json.specs.WriterLaw.{fresh_writer, sink_of, stop_of, writer_law, writer_view, writer_standing}
use Rattle.sval_json.specs.WriterLaws.{ValuesAreWritten}
use Rattle.sval_json.specs.Written.{StreamsJson}
use Rattle.sval_json.proofs.Streamed.{after_ran, after_stops, is_generic, is_refused, writes_spelled, values_spelled, refuses_spelled, begins_spelled}
use Rattle.sval_json.proofs.Passing.{ran_is_passed}
use Rattle.sval_json.proofs.WrittenUtf8.{written_is_utf8}

module _ {K : Type 0} (told : K → Told) (sink : MutBor K) (style : Variants) (e : Emission) (new : JsonWriter K) where
  -- all calls were taken
  pub ran_is_written : (begun : JsonWriter K) → begun ≡ fresh_writer sink style → e.refuses ≡ false → Ran writer_law (writer_view told begun) e.calls (writer_view told new)
      → StreamsJson style e (Ok tt) (told sink.now) (told (sink_of new).now) × ((sink_of new).ghost_name ≡ sink.ghost_name)
  ran_is_written begun is willing ran_begun =
      let ran = subst (λ (w : JsonWriter K). Ran writer_law (writer_view told w) e.calls (writer_view told new)) is ran_begun in
      let after = after_ran told e (fresh_writer sink style) new refl ran in
      let passed = ran_is_passed e.calls (writer_view told (fresh_writer sink style)) (writer_view told new) ran in (
        record {
          written = after.written;
          tree = writes_spelled after.written;
          denotes = values_spelled after.written passed;
          passed = passed;
          utf8 = written_is_utf8 style e.calls passed;
          willing = willing;
          steady = after.steady;
          generic_comes = λ itself quiet. let never : true ≡ false = sym itself.refuses ∙ willing in cc never;
          generic = λ is. cc is;
          refused_comes = λ why refused quiet. let never : None ≡ Some why = sym after.written.refusal ∙ refused in cc never;
          invalid_key = λ is. cc is;
          invalid_number = λ is. cc is;
          tree_refused = λ why is. cc is;
          io = λ is. cc is;
          io_room = λ is. cc is;
          io_short = λ is. cc is;
          no_memory = λ is. cc is;
          no_memory_short = λ is. cc is;
          counts = steady_counts after.steady;
          prefix = tt;
          tree_prefix = tt;
        },
        after.name,
      )

  -- a call was refused, or the value itself
  pub stopped_is_begun : (begun : JsonWriter K) → begun ≡ fresh_writer sink style → Stops writer_law (writer_standing told begun) e (writer_standing told new)
      → StreamsJson style e (Err (error_kind (stop_of new))) (told sink.now) (told (sink_of new).now) × ((sink_of new).ghost_name ≡ sink.ghost_name)
  stopped_is_begun begun is s_begun =
      let s = subst (λ (w : JsonWriter K). Stops writer_law (writer_standing told w) e (writer_standing told new)) is s_begun in
      let after = after_stops told e (fresh_writer sink style) new refl {found = error_kind (stop_of new)} refl refl s in (
        record {
          written = tt;
          tree = tt;
          denotes = tt;
          passed = tt;
          utf8 = tt;
          willing = tt;
          steady = tt;
          generic_comes = λ itself quiet. let is : error_kind (stop_of new) ≡ Generic = is_generic after itself.refusal quiet in cc;
          generic = λ is. after.generic cc;
          refused_comes = λ why refused quiet. let is : error_kind (stop_of new) ≡ refusal_kind why = is_refused after why refused quiet in cc;
          invalid_key = λ is. after.refused InvalidKey cc;
          invalid_number = λ is. after.refused InvalidNumber cc;
          tree_refused = λ why is. refuses_spelled (after.refused why cc);
          io = λ is. after.io cc;
          io_room = λ is. after.io_room cc;
          io_short = λ is. after.io_short cc;
          no_memory = λ is. after.no_memory cc;
          no_memory_short = λ is. after.no_memory_short cc;
          counts = after.counts;
          prefix = after.prefix;
          tree_prefix = begins_spelled style e.calls after.prefix;
        },
        after.name,
      )

pub values_are_written : {K : Type 0} (told : K → Told) → ValuesAreWritten told
values_are_written told sink style e (Ok done) new s = ran_is_written told sink style e new (fresh_writer sink style) refl s.willing s.ran
values_are_written told sink style e (Err refusal) new s = stopped_is_begun told sink style e new (fresh_writer sink style) refl s
