-- Parts of a text, by their places, and how far bytes that are due were written.
use Rattle.std.specs.Prelude.{◌≡◌, ℕ, ◌-◌, ◌<◌, ◌≤◌, List, ◌++◌, length, get_or}
use Rattle.std.specs.List.{between}
use Rattle.sval_io.specs.Sinks.{Told, WritesWhole}
use Rattle.sval_json_read.specs.declared.text_part.TextPart.{TextPart}
use Rattle.sval_json_read.specs.DueEscapes.{HasDueEscapes}

-- these bytes stand in the text from a place up to another
pub record IsTextPiece (text : List ℕ) (from upto : ℕ) (piece : List ℕ) : Type 0 where
  pub order : from ≤ upto
  pub within : upto ≤ length text
  pub same : between from upto text ≡ piece

-- both places are in the text, in this order
pub record IsPartOf (text : List ℕ) (part : TextPart) : Type 0 where
  pub order : part.from ≤ part.to
  pub within : part.to ≤ length text

-- the bytes of a part
abbrev pub part_bytes : List ℕ → TextPart → List ℕ
part_bytes text part = between part.from part.to text

-- a part in which each escape is written again as it is
pub record IsReadyPart (text : List ℕ) (part : TextPart) : Type 0 where
  pub part_of : IsPartOf text part
  pub due : HasDueEscapes (part_bytes text part)

-- these places are in the part, and the first is its begin or behind a quote
pub record IsStringIn (text : List ℕ) (part : TextPart) (from to : ℕ) : Type 0 where
  pub order : part.from ≤ from
  pub within : to ≤ part.to
  pub quote : part.from < from → get_or text (from - 1) 0 ≡ 34

-- of these bytes the first were written, and the rest is left
pub record IsWrittenUpTo (old : Told) (whole rest : List ℕ) (new : Told) : Type 0 where
  pub front : List ℕ
  pub same : whole ≡ front ++ rest
  pub writes : WritesWhole old front new
