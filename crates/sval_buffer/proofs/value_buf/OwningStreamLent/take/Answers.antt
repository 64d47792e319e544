use Rattle.sval_label.specs.Made.{lent_call}
use Rattle.sval_core.specs.Law.{computed}
use Rattle.sval_buffer.specs.Forest.{may_grow}
use Rattle.sval_buffer.specs.FlatForest.{forest_in}
use Rattle.sval_buffer.specs.Owned.{take_owned}
use Rattle.sval_buffer.specs.SeenBuffers.{capture_of}
use Rattle.sval_buffer.proofs.Collecting.{refuses_by}
use Rattle.sval_buffer.proofs.value_buf.OwningStreamLent.take.Goals as goal

pub returns-in-Err : goal.returns-in-Err
returns-in-Err g c =
    refuses_by (λ f call. may_grow f (computed call)) take_owned (capture_of c.args.self.now.buffer) (capture_of c.keep.new.self) (lent_call c.args.call) (forest_in c.capture_owned.new.self) c.in-Err.why
    c.in-Err.ensures.0 c.in-Err.ensures.1 c.keep.ensures.kept c.keep.ensures.rises
