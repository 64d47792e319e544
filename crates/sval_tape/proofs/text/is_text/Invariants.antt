use Rattle.std.proofs.Common.{◌≡◌, take}
use Rattle.sval_tape.proofs.text.is_text.Given as goal

abbrev pub invariant-loop-index : goal.invariant-loop-index
invariant-loop-index l = take l.index l.text ≡ take l.index l.name
