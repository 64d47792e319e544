-- The calls that a program can pass.
use Rattle.std.specs.Prelude.{⊤, List}
use Rattle.std.specs.List.{AllByRecursion}
use Rattle.sval_label.specs.Calls.{Call}
use Rattle.sval_core.specs.Real.{IsRealName, IsRealCall}

-- what a program can pass where a variant ends, whose name may stand there by itself
abbrev pub HasRealEnd : Call → Type 0
HasRealEnd (Call.TaggedEnd name) = IsRealName name
HasRealEnd (Call.EnumEnd name) = IsRealName name
HasRealEnd _ = ⊤

-- a program can pass it
abbrev pub IsPassed : Call → Type 0
IsPassed call = IsRealCall call × HasRealEnd call

-- a program can pass each
abbrev pub ArePassed : List Call → Type 0
ArePassed calls = AllByRecursion IsPassed calls
