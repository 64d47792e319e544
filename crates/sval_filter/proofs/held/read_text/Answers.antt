use Rattle.std.proofs.Common.{string_bytes, ap, refl}
use Rattle.sval_buffer.specs.Forest.{replayed}
use Rattle.sval_buffer.specs.SeenBuffers.{capture_of}
use Rattle.sval_filter.specs.SeenKeys.{wants_by, key_standing}
use Rattle.sval_filter.proofs.Holding.{label_read, label_wanted, want_is_kept}
use Rattle.sval_filter.proofs.held.read_text.Goals as goal

pub returns-in-Ok-clause-label : goal.returns-in-Ok-clause-label
returns-in-Ok-clause-label c =
    label_read (replayed (capture_of c.args.held.now).forest) c.clear.new.self.place (string_bytes c.clear.new.self.text) (wants_by c.clear.new.self.want)
    (key_standing c.stream_ref.new.stream)
    c.clear.ensures.place c.clear.ensures.text c.in-Ok.ensures

pub returns-in-Some-clause-want : goal.returns-in-Some-clause-want
returns-in-Some-clause-want c =
    label_wanted (replayed (capture_of c.args.held.now).forest) c.clear.new.self.place (string_bytes c.clear.new.self.text) (wants_by c.clear.new.self.want)
    (key_standing c.stream_ref.new.stream)
    c.clear.ensures.place c.clear.ensures.text c.in-Err.ensures

pub unreachable-requires : goal.unreachable-requires
unreachable-requires c =
    want_is_kept (replayed (capture_of c.args.held.now).forest) (record { place = c.clear.new.self.place; text = string_bytes c.clear.new.self.text }) (wants_by c.clear.new.self.want)
    (key_standing c.stream_ref.new.stream)
    (ap wants_by c.clear.ensures.want) refl (ap wants_by c.in-None.is) c.in-Err.ensures
