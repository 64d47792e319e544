use Rattle.std.proofs.Common.{◌≡◌, [], length, IsUtf8}
use Rattle.sval_json_read.specs.Pointers.{referenced, evaluated, pointed}
use Rattle.sval_json_read.proofs.json_ref.JsonRef.pointer.Given as goal

-- the rest of the pointer references in what was found what the whole does
abbrev pub invariant-tokens : goal.invariant-tokens
invariant-tokens l = (pointed l.fn.pointer l.fn.self ≡ evaluated referenced [] l.rest l.found) × IsUtf8 l.rest

abbrev pub decreases-tokens : goal.decreases-tokens
decreases-tokens l = length l.rest
