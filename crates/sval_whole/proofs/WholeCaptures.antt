-- What was captured of a value that was checked on the way into a buffer.
use Rattle.std.specs.Prelude.{◌≡◌}
use Rattle.sval_core.specs.Law.{Emission, Streams}
use Rattle.sval_check.specs.Checks.{IsOneValue}
use Rattle.sval_buffer.specs.Capture.{Capture, no_calls, capture_law, capture_standing}
use Rattle.sval_buffer.proofs.Collecting.{collected, keeps_tree}
use Rattle.sval_whole.specs.WholeCaptures.{CapturesOneValue}

pub captured_whole : {e : Emission} {first last : Capture} → first ≡ no_calls 0 → IsOneValue e → Streams capture_law (capture_standing first) e (capture_standing last) → CapturesOneValue e last
captured_whole {e} {first} {last} new one s =
    let taken = collected e first last new s in
    record { value = one; captured = taken; tree = keeps_tree e last.forest taken.taken }
