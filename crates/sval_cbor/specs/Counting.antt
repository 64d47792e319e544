-- How many items or pairs the containers have that calls begin, in the order of the begins.
use Rattle.std.specs.Prelude.{ℕ, List, [], ◌∷◌, ◌++◌, length, set}
use Rattle.sval_label.specs.Calls.{Call, Slot}
use Rattle.sval_core.specs.Law.{one_more}
use Rattle.sval_cbor.specs.declared.style.Lengths.{Lengths}
use Rattle.sval_cbor.specs.declared.style.Lengths.TheVariants.{Indefinite, Definite}
use Rattle.sval_cbor.specs.declared.open_rows.OpenRow.{OpenRow}

-- the count of each container that has begun, 0 where it hasn't ended, and what is open, the innermost first
pub record Counting : Type 0 where
  pub counts : List ℕ
  pub rows : List OpenRow

-- before the first call
abbrev pub nothing_counted : Counting
nothing_counted = record { counts = []; rows = [] }

-- one item or pair more in the innermost container
abbrev pub one_entry_more : List OpenRow → List OpenRow
one_entry_more [] = []
one_entry_more (row ∷ rows) = record row { entries = one_more row.entries } ∷ rows

-- a part's begin begins an item or a pair, but for a map's value
abbrev pub part_begun : Slot → List OpenRow → List OpenRow
part_begun Slot.Value rows = rows
part_begun _ rows = one_entry_more rows

-- the innermost container ends, and its count is known
abbrev pub close_row : List ℕ → List OpenRow → Counting
close_row counts [] = record { counts = counts; rows = [] }
close_row counts (row ∷ rows) = record { counts = set counts row.at row.entries; rows = rows }

-- what a call makes of it
abbrev pub count_step : Call → Counting → Counting
count_step (Call.Begin _ _) c = record { counts = c.counts ++ (0 ∷ []); rows = record { at = length c.counts; entries = 0 } ∷ c.rows }
count_step (Call.End _) c = close_row c.counts c.rows
count_step (Call.PartBegin slot) c = record c { rows = part_begun slot c.rows }
count_step _ c = c

-- what calls make of it
abbrev pub counting : List Call → Counting → Counting
counting [] c = c
counting (call ∷ calls) c = counting calls (count_step call c)

-- how many items or pairs each container has that these calls begin, in the order of the begins
abbrev pub counts_of : List Call → List ℕ
counts_of calls = (counting calls nothing_counted).counts

-- the same where lengths are definite, and else none
abbrev pub counts_due : Lengths → List Call → List ℕ
counts_due Indefinite calls = []
counts_due Definite calls = counts_of calls
