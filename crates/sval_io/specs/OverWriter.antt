-- A sink over a writer.
use Rattle.std.specs.Prelude.{ℕ, Option, None}
use Rattle.std.specs.declared.io.ErrorKind.{ErrorKind}
use Rattle.sval_io.specs.Sinks.{Told}

-- the writer, how often it failed, and what kind of error was the last
pub record OverWriter (W : Type 0) : Type 0 where
  pub writer : W
  pub faults : ℕ
  pub last_error : Option ErrorKind

-- it tells nothing but its faults
abbrev pub over_writer_told : {W : Type 0} → OverWriter W → Told
over_writer_told sink = record { text = None; room = None; held = None; faults = sink.faults; wants = 0 }
