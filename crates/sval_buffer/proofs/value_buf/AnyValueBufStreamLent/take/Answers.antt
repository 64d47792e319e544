use Rattle.sval_label.specs.Made.{lent_call}
use Rattle.sval_buffer.specs.Forest.{take, may_grow}
use Rattle.sval_buffer.specs.FlatForest.{forest_in}
use Rattle.sval_buffer.specs.SeenBuffers.{capture_of}
use Rattle.sval_buffer.proofs.Collecting.{refuses_by}
use Rattle.sval_buffer.proofs.value_buf.AnyValueBufStreamLent.take.Goals as goal

pub returns-in-Err : goal.returns-in-Err
returns-in-Err g c =
    refuses_by may_grow take (capture_of c.args.self.now) (capture_of c.keep.new.self) (lent_call c.args.call) (forest_in c.capture.new.self) c.in-Err.why
    c.in-Err.ensures.0 c.in-Err.ensures.1 c.keep.ensures.kept c.keep.ensures.rises
