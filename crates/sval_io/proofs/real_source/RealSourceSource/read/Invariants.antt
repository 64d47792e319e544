use Rattle.std.proofs.Common.{◌≡◌}
use Rattle.std.specs.Io.KnownBytes.{Keeps}
use Rattle.sval_io.specs.OverReader.{over_reader_told}
use Rattle.sval_io.proofs.real_source.RealSourceSource.read.Given as goal

-- nothing was given, and no fault was counted
abbrev pub invariant-loop : goal.invariant-loop
invariant-loop g l = record {
  told : over_reader_told l.self ≡ over_reader_told l.initial.self;
  passed_on : Keeps (g.R.Read.remaining l.initial.self.reader) (g.R.Read.remaining l.self.reader);
}
