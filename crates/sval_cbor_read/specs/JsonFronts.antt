-- The JSON of an item at the front of bytes.
use Rattle.std.specs.Prelude.{ℕ, ◌≤◌, List, length, drop}
use Rattle.sval_core.specs.Trees.{Tree}
use Rattle.sval_cbor_read.specs.Items.{IsItem, IsItemOf}
use Rattle.sval_cbor_read.specs.Serves.{IsJsonOfTree}

-- so many first bytes are an item, and the text is its JSON without white space
pub record IsJsonOfFront (bytes text : List ℕ) (used : ℕ) : Type 0 where
  pub tree : Tree
  pub item : IsItem bytes tree (drop used bytes)
  pub within : used ≤ length bytes
  pub is : IsJsonOfTree tree text

-- the bytes are an item, and the text is its JSON without white space
pub record IsJsonOfItem (bytes text : List ℕ) : Type 0 where
  pub tree : Tree
  pub item : IsItemOf bytes tree
  pub is : IsJsonOfTree tree text
