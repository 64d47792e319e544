-- The total of the `i64` numbers among a value's calls.
use Rattle.std.specs.Prelude.{ℤ, pos, ◌+ℤ◌, Option, Some, None, fold, ⊤, if◌then◌else◌}
use Rattle.std.specs.Int.{saturate_signed, w64}
use Rattle.sval_label.specs.Calls.{Call, Int, I64}
use Rattle.sval_core.specs.Law.{Law, Standing, Emission}

-- a number of this type is added, and other calls change nothing
abbrev pub added : ℤ → Call → ℤ
added total (Int I64 n) = saturate_signed w64 (total +ℤ n)
added total _ = total

-- the law of a total: every call is accepted, and the `i64` numbers are added up
abbrev pub total_law : Law ℤ
total_law = record { accepts = λ _ _. ⊤; after = added; stopped = λ _ _ _. ⊤ }

-- where a total stands: no count of it ever rises
abbrev pub total_standing : ℤ → Standing ℤ
total_standing total = record { view = total; faults = 0; wants = 0 }

-- of a value that refuses there is none
abbrev pub total_of : Emission → Option ℤ
total_of e = if e.refuses then None else Some (fold added (pos 0) e.calls)
