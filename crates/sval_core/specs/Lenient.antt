-- A law that the tests of several crates take: each call is accepted, and refused only where memory is wanting.
use Rattle.std.specs.Prelude.{ℕ, ⊤}
use Rattle.sval_core.specs.Law.{Law, Standing}

-- every call is accepted, whatever came before, and there is nothing to be seen of a stream but its counts
abbrev pub lenient : Law (Unit {0})
lenient = record { accepts = λ _ _. ⊤; after = λ view _. view; stopped = λ _ _ _. ⊤ }

-- where such a stream stands that counts so many refusals for want of memory, and no fault
abbrev pub with_wants : ℕ → Standing (Unit {0})
with_wants wants = record { view = tt; faults = 0; wants = wants }
