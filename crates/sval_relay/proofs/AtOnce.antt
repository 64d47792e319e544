-- What was written of a value that was checked and captured in one pass, as what its way writes.
use Rattle.std.specs.Prelude.{◌≡◌, true, false, Option, Some, None, IfSome, Result, Ok, Err}
use Rattle.std.proofs.Common.{sym, subst, inr}
use Rattle.sval_core.specs.Law.{Emission, Streams}
use Rattle.sval_core.specs.Trees.{Tree}
use Rattle.sval_buffer.specs.Capture.{Capture, no_calls, capture_law, capture_standing}
use Rattle.sval_buffer.specs.CapturedValues.{KeepsTree}
use Rattle.sval_buffer.proofs.Collecting.{collected, keeps_tree}
use Rattle.sval_io.specs.Sinks.{Told}
use Rattle.sval_json.specs.declared.style.Variants.{Variants}
use Rattle.sval_relay.specs.declared.way.Way.{Way}
use Rattle.sval_relay.specs.declared.relaying.RelayError.{RelayError}
use Rattle.sval_relay.specs.declared.relaying.RelayError.TheVariants as answer
use Rattle.sval_relay.specs.Ways.{is_captured}
use Rattle.sval_relay.specs.Verdict.{TreeFormat, JsonIn, asked_in}
use Rattle.sval_relay.specs.WrittenTrees.{IsCauseOf, WritesTreeText, WritesTreeBy}

-- what was streamed into a buffer that had taken no call keeps the tree
pub kept_if_some : {B : Type 0} (found : Option B) (capture : B → Capture) (e : Emission) (first : Capture) → first ≡ no_calls 0
    → IfSome found (λ buffer. Streams capture_law (capture_standing first) e (capture_standing (capture buffer))) → IfSome found (λ buffer. KeepsTree e (capture buffer).forest)
kept_if_some (Some buffer) capture e first new s = keeps_tree e (capture buffer).forest (collected e first (capture buffer) new s).taken
kept_if_some None capture e first new s = tt

module _ {K : Type 0} (told : K → Told) (tree : Tree) (old new : K) where
  -- a want of memory of the sink's own is one where the value is captured too
  captured_cause : (asked : TreeFormat) (why : RelayError) → IsCauseOf why false told asked tree old new → IsCauseOf why true told asked tree old new
  captured_cause asked answer.InvalidKey cause = cause
  captured_cause asked answer.InvalidNumber cause = cause
  captured_cause asked answer.Write cause = cause
  captured_cause asked answer.NoMemory cause = inr cause
  captured_cause asked (answer.BadLine n) cause = absurd cause
  captured_cause asked (answer.BadCall n) cause = absurd cause
  captured_cause asked answer.Unfinished cause = absurd cause

  captured_text : (asked : TreeFormat) (result : Result (Unit {0}) RelayError) → WritesTreeText result false told asked tree old new → WritesTreeText result true told asked tree old new
  captured_text asked (Ok done) writes = writes
  captured_text asked (Err why) writes = record { cause = captured_cause asked why writes.cause; begins = writes.begins; counts = writes.counts }

  pub written_at_once : (way : Way) (variants : Variants) (result : Result (Unit {0}) RelayError) → is_captured way ≡ true → asked_in way ≡ JsonIn variants
      → WritesTreeText result false told (JsonIn variants) tree old new → WritesTreeBy way result told tree old new
  written_at_once way variants result captured style writes =
      subst (λ is. WritesTreeText result is told (asked_in way) tree old new) (sym captured)
      (subst (λ asked. WritesTreeText result true told asked tree old new) (sym style) (captured_text (JsonIn variants) result writes))
