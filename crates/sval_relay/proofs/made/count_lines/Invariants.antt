use Rattle.std.specs.Prelude.{◌≡◌, ◌==◌, take}
use Rattle.std.specs.List.{count_by}
use Rattle.sval_relay.proofs.made.count_lines.Given as goal

abbrev pub invariant-loop-byte : goal.invariant-loop-byte
invariant-loop-byte l = l.count ≡ count_by (λ byte. byte == 10) (take l.byte-index l.script)
