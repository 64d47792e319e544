use Rattle.std.proofs.Common.{◌∷◌, []}
use Rattle.sval_pretty.specs.Layout.{gap_text}
use Rattle.sval_pretty.proofs.Writing.{both_written}
use Rattle.sval_pretty.proofs.to_sink.write_behind_gap.Goals as goal

pub returns : goal.returns
returns g c =
    both_written (g.K.Sink.told c.write_in_place.new.sink) (gap_text c.args.gap c.args.depth) (c.args.byte ∷ []) c.write_in_place.result
    c.in_ok-write_gap.ensures c.write_in_place.ensures.writes
