use Rattle.std.proofs.Common.{take}
use Rattle.std.specs.Str.{IsAscii}
use Rattle.sval_script.proofs.text.are_ascii_each.Given as goal

abbrev pub invariant-loop-byte : goal.invariant-loop-byte
invariant-loop-byte l = IsAscii (take l.byte-index l.bytes)
