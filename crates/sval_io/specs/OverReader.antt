-- A source over a reader.
use Rattle.std.specs.Prelude.{ℕ, None}
use Rattle.sval_io.specs.Sources.{Supply}

-- the reader, and how often it failed
pub record OverReader (R : Type 0) : Type 0 where
  pub reader : R
  pub faults : ℕ

-- it tells nothing but its faults
abbrev pub over_reader_told : {R : Type 0} → OverReader R → Supply
over_reader_told source = record { left = None; faults = source.faults }
