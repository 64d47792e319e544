use Rattle.std.specs.Prelude.{length}
use Rattle.sval_tool.proofs.InputsConverted.{SoFar, Passed}
use Rattle.sval_tool.proofs.inputs.convert_all.Given as goal

abbrev pub invariant-loop-source : goal.invariant-loop-source
invariant-loop-source g l = record {
  converted : SoFar g.I.Source.told g.K.Sink.told l.fn.conversion l.fn.form l.fn.sources.items l.sources.items l.fn.out l.out;
  passed : Passed l.fn.sources.items l.sources.items;
}

abbrev pub decreases-loop-source : goal.decreases-loop-source
decreases-loop-source g l = length l.sources.items
