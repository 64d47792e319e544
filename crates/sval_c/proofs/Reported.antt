-- From what was made of an input to what is reported.
use Rattle.std.specs.Prelude.{ℕ, List, Option, Result, Ok, Err}
use Rattle.sval_c.specs.declared.fault.Fault.{Fault}
use Rattle.sval_c.specs.declared.lack.Lack.{Lack}
use Rattle.sval_c.specs.declared.lack.Lack.TheVariants as lack
use Rattle.sval_c.specs.declared.report.Report.{Report}
use Rattle.sval_c.specs.Lacks.{GivesOrLacks}
use Rattle.sval_c.specs.Reports.{TellsMadeOrLack, ReportsDue, bytes_due, fault_due, no_memory}

pub reported : {Bytes : Type 0} (Due : Option Fault → List ℕ → Type 0) (made : Result Bytes Lack) (items : Bytes → List ℕ) (report : Report) (old new : List ℕ)
    → GivesOrLacks Due made items → TellsMadeOrLack made items report old new → ReportsDue Due report old new
reported Due (Ok made) items report old new due told = bytes_due (items made) due told
reported Due (Err (lack.Fault why)) items report old new due told = fault_due why due.0 due.1 told
reported Due (Err lack.NoMemory) items report old new due told = no_memory told
