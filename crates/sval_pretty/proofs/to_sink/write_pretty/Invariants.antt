use Rattle.std.proofs.Common.{◌≡◌, ◌≤◌, drop}
use Rattle.sval_pretty.specs.Layout.{pretty, laid_out}
use Rattle.sval_pretty.proofs.Writing.{IsLaid}
use Rattle.sval_pretty.proofs.to_sink.write_pretty.Given as goal

abbrev pub invariant-loop-byte : goal.invariant-loop-byte
invariant-loop-byte g l = record {
  laid : IsLaid (g.K.Sink.told l.fn.sink) (pretty l.json) (laid_out l.place l.depth (drop l.byte-index l.json)) (g.K.Sink.told l.sink);
  depth : l.depth ≤ l.byte-index;
}
