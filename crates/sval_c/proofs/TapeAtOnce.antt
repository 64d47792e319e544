-- A tape that was read, checked and written in one pass.
use Rattle.std.specs.Prelude.{◌≡◌, ℕ, List, [], ◌∷◌, refl}
use Rattle.std.specs.Borrow.{MutBor}
use Rattle.std.proofs.Common.{sym, subst}
use Rattle.sval_label.specs.Calls.{Call}
use Rattle.sval_core.specs.Law.{Law, Standing, Ran}
use Rattle.sval_core.specs.Spells.{Spells}
use Rattle.sval_core.specs.Trees.{Tree}
use Rattle.sval_core.specs.Values.{makes}
use Rattle.sval_io.specs.Sinks.{Told}
use Rattle.sval_check.specs.Checked.{CheckedView, StandsFor, checked_after, checked_law, checked_standing}
use Rattle.sval_check.proofs.SoFar.{all_are_passed_on}
use Rattle.sval_json.specs.declared.style.Variants.TheVariants.{Inside}
use Rattle.sval_json.specs.declared.writer.JsonWriter.{JsonWriter}
use Rattle.sval_json.specs.WriterLaw.{fresh_writer, sink_of, writer_law, writer_standing}
use Rattle.sval_json.proofs.Streaming.{ran_is_written}
use Rattle.sval_tape.specs.Streaming.{StreamsTape}
use Rattle.sval_c.specs.declared.guarded.Guarded.{Guarded}
use Rattle.sval_c.specs.Guarded.{guarded_inner, guarded_law, guarded_state, seen_guarded}
use Rattle.sval_c.specs.OfTapes.{PassesTape, WritesTape}

-- a stream of checked calls takes the calls that a guarded one takes
checked_ran : {V : Type 0} (law : Law V) (view last : CheckedView V) (calls : List Call) → Ran (guarded_law law) view calls last → Ran (checked_law law) view calls last
checked_ran law view last [] ran = ran
checked_ran law view last (call ∷ calls) ran = (ran.0, checked_ran law (checked_after law view call) last calls ran.1)

-- through a check to a stream
module _ {S V : Type 0} (law : Law V) (standing : S → Standing V) (tape : List ℕ) (begun done : Guarded S) (old new : S) where
  pub whole_passed : guarded_inner begun ≡ old → new ≡ guarded_inner done → StandsFor (guarded_state begun) []
      → StreamsTape (guarded_law law) tape (checked_standing (seen_guarded standing begun)) (checked_standing (seen_guarded standing done))
      → ((calls : List Call) → StandsFor (guarded_state done) calls → (tree : Tree) × Spells calls tree) → PassesTape law tape (standing old) (standing new)
  whole_passed first last stands s whole =
      let ran = checked_ran law (seen_guarded standing begun) (seen_guarded standing done) s.calls s.streams.ran in
      let passed = all_are_passed_on law (seen_guarded standing begun) (seen_guarded standing done) [] s.calls stands ran in
      let begins : Ran law (standing old).view s.calls (standing (guarded_inner done)).view =
      subst (λ (x : S). Ran law (standing x).view s.calls (standing (guarded_inner done)).view) first passed.1 in
      record {
        calls = s.calls;
        is = s.tape;
        value = record { willing = refl; spells = whole s.calls passed.0 };
        ran = subst (λ (x : S). Ran law (standing old).view s.calls (standing x).view) (sym last) begins;
      }

-- to a writer of JSON
module _ {K : Type 0} (told : K → Told) (tape : List ℕ) (sink : MutBor K) (begun now : JsonWriter K) where
  pub tape_written : begun ≡ fresh_writer sink Inside → PassesTape writer_law tape (writer_standing told begun) (writer_standing told now)
      → WritesTape tape (told sink.now) (told (sink_of now).now) × ((sink_of now).ghost_name ≡ sink.ghost_name)
  tape_written is p =
      let after = ran_is_written told sink Inside (makes p.calls) now begun is refl p.ran in
      (record { calls = p.calls; is = p.is; value = p.value; streams = after.0 }, after.1)
