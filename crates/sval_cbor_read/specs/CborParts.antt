-- An item of a document, taken by itself.
use Rattle.std.specs.Prelude.{◌≡◌, ℕ, List, [], ◌++◌}
use Rattle.sval_label.specs.Calls.{Call}
use Rattle.sval_core.specs.Trees.{Tree}
use Rattle.sval_core.specs.Spells.{Spells}
use Rattle.sval_cbor_read.specs.Items.{IsItem}
use Rattle.sval_cbor_read.specs.Document.{cbor_calls}
use Rattle.sval_cbor_read.specs.CborValues.{CborValue, cbor_joined, cbor_value_of}

-- these are all calls of an item by itself, and they spell its tree; the item is this value, but for how its strings are cut
pub record IsCborPart (made : List Call) (value : CborValue) : Type 0 where
  pub bytes : List ℕ
  pub rest : List ℕ
  pub tree : Tree
  pub item : IsItem bytes tree rest
  pub same : made ≡ cbor_calls item []
  pub spells : Spells made tree
  pub joined : cbor_joined value ≡ cbor_value_of tree

-- these calls are the last of the document of an item
pub record EndDocument (made : List Call) : Type 0 where
  pub bytes : List ℕ
  pub rest : List ℕ
  pub tree : Tree
  pub item : IsItem bytes tree rest
  pub before : List Call
  pub same : cbor_calls item [] ≡ before ++ made
