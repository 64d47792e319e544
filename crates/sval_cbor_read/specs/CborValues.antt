-- The value that calls are of, as a program looks things up in it. It is read from the last call to the first, so that it is seen in any part of a document's calls.
use Rattle.std.specs.Prelude.{◌≡◌, ℕ, ℤ, suc, Bool, List, [], ◌∷◌, ◌++◌}
use Rattle.std.specs.List.{concat}
use Rattle.sval_label.specs.Calls.{Call}
use Rattle.sval_label.specs.Calls as calls
use Rattle.sval_core.specs.Trees.{Tree, Parts, none, part}
use Rattle.sval_core.specs.Trees as trees
use Rattle.sval_cbor_read.specs.CallSpans.{until_closed, calls_while_open, FirstBeginsItem}
use Rattle.sval_cbor_read.specs.Items.{IsItem, IsItemOf}
use Rattle.sval_cbor_read.specs.Document.{cbor_calls, cbor_document_calls}

-- ---- values

mutual
  -- what an item is: strings by their chunks, and maps by their keys and values in turn
  pub data CborValue : Type 0 where
    Null : CborValue
    Truth : Bool → CborValue
    Int : ℤ → CborValue
    Text : List (List ℕ) → CborValue
    Binary : List (List ℕ) → CborValue
    Array : CborValues → CborValue
    Map : CborValues → CborValue

  -- the items of an array, or the keys and values of a map
  pub data CborValues : Type 0 where
    no_values : CborValues
    a_value : CborValue → CborValues → CborValues

abbrev mutual
  -- the same value with each string in one chunk
  pub cbor_joined : CborValue → CborValue
  cbor_joined Null = Null
  cbor_joined (Truth b) = Truth b
  cbor_joined (Int number) = Int number
  cbor_joined (Text chunks) = Text (concat chunks ∷ [])
  cbor_joined (Binary chunks) = Binary (concat chunks ∷ [])
  cbor_joined (Array values) = Array (all_joined values)
  cbor_joined (Map values) = Map (all_joined values)

  -- the same values so
  pub all_joined : CborValues → CborValues
  all_joined no_values = no_values
  all_joined (a_value value values) = a_value (cbor_joined value) (all_joined values)

abbrev mutual
  -- the value of an item's tree, with each string in one chunk; no item has another tree
  pub cbor_value_of : Tree → CborValue
  cbor_value_of trees.Null = Null
  cbor_value_of (trees.Truth b) = Truth b
  cbor_value_of (trees.Int type number) = Int number
  cbor_value_of (trees.Text bytes) = Text (bytes ∷ [])
  cbor_value_of (trees.Binary bytes) = Binary (bytes ∷ [])
  cbor_value_of (trees.Container calls.Seq parts) = Array (cbor_values_of parts)
  cbor_value_of (trees.Container calls.Map parts) = Map (cbor_values_of parts)
  cbor_value_of _ = Null

  -- the values of the parts, in order
  pub cbor_values_of : Parts → CborValues
  cbor_values_of none = no_values
  cbor_values_of (part _ tree parts) = a_value (cbor_value_of tree) (cbor_values_of parts)

-- ---- levels

-- what follows in the string, array or map around a place: chunks of a text, chunks of a byte string, or values
pub record CborLevel : Type 0 where
  pub texts : List (List ℕ)
  pub binaries : List (List ℕ)
  pub values : CborValues

-- nothing follows
abbrev pub cbor_empty_level : CborLevel
cbor_empty_level = record { texts = []; binaries = []; values = no_values }

-- the innermost level
abbrev pub cbor_innermost_level : List CborLevel → CborLevel
cbor_innermost_level [] = cbor_empty_level
cbor_innermost_level (level ∷ around) = level

-- the levels around the innermost
abbrev pub cbor_under : List CborLevel → List CborLevel
cbor_under [] = []
cbor_under (level ∷ around) = around

-- a value before what follows in the innermost level
abbrev pub cbor_puts : CborValue → List CborLevel → List CborLevel
cbor_puts value levels = record { texts = []; binaries = []; values = a_value value (cbor_innermost_level levels).values } ∷ cbor_under levels

-- a chunk of a text before those that follow
abbrev pub cbor_puts_text : List ℕ → List CborLevel → List CborLevel
cbor_puts_text bytes levels = record { texts = bytes ∷ (cbor_innermost_level levels).texts; binaries = []; values = no_values } ∷ cbor_under levels

-- a chunk of a byte string before those that follow
abbrev pub puts_binary : List ℕ → List CborLevel → List CborLevel
puts_binary bytes levels = record { texts = []; binaries = bytes ∷ (cbor_innermost_level levels).binaries; values = no_values } ∷ cbor_under levels

-- what ends the innermost level, before it: this value is made of the level
abbrev pub cbor_closes : (CborLevel → CborValue) → List CborLevel → List CborLevel
cbor_closes made levels = cbor_puts (made (cbor_innermost_level levels)) (cbor_under levels)

-- a call before these levels
abbrev pub puts_call : Call → List CborLevel → List CborLevel
puts_call Call.Null levels = cbor_puts Null levels
puts_call (Call.Truth b) levels = cbor_puts (Truth b) levels
puts_call (Call.Int type number) levels = cbor_puts (Int number) levels
puts_call (Call.TextBegin _) levels = cbor_closes (λ level. Text level.texts) levels
puts_call (Call.TextFragment _ bytes) levels = cbor_puts_text bytes levels
puts_call Call.TextEnd levels = cbor_empty_level ∷ levels
puts_call (Call.BinaryBegin _) levels = cbor_closes (λ level. Binary level.binaries) levels
puts_call (Call.BinaryFragment _ bytes) levels = puts_binary bytes levels
puts_call Call.BinaryEnd levels = cbor_empty_level ∷ levels
puts_call (Call.Begin calls.Seq _) levels = cbor_closes (λ level. Array level.values) levels
puts_call (Call.Begin calls.Map _) levels = cbor_closes (λ level. Map level.values) levels
puts_call (Call.End _) levels = cbor_empty_level ∷ levels
puts_call _ levels = levels

-- calls before these levels
abbrev pub puts_calls : List Call → List CborLevel → List CborLevel
puts_calls [] levels = levels
puts_calls (call ∷ more) levels = puts_call call (puts_calls more levels)

-- what follows in the levels that calls leave
abbrev pub cbor_levels_of : List Call → List CborLevel
cbor_levels_of made = puts_calls made []

-- the first of some values
abbrev pub cbor_first_value : CborValues → CborValue
cbor_first_value no_values = Null
cbor_first_value (a_value value _) = value

-- the values that calls begin with, up to the end of what is around them
abbrev pub cbor_values_in : List Call → CborValues
cbor_values_in made = (cbor_innermost_level (cbor_levels_of made)).values

-- the value that calls begin with
abbrev pub cbor_value_in : List Call → CborValue
cbor_value_in made = cbor_first_value (cbor_values_in made)

-- ---- calls of one value

-- the calls are one value, whatever follows
pub record IsOneItem (made : List Call) : Type 0 where
  pub value : CborValue
  pub puts_it : (levels : List CborLevel) → puts_calls made levels ≡ cbor_puts value levels
  pub begins : FirstBeginsItem made
  pub closed : (depth : ℕ) (more : List Call) → until_closed depth (made ++ more) ≡ made ++ calls_while_open depth (until_closed depth more)

-- the calls begin a string, an array or a map, whatever follows
pub record OpensValue (made : List Call) : Type 0 where
  pub of : CborLevel → CborValue
  pub closes_it : (levels : List CborLevel) → puts_calls made levels ≡ cbor_closes of levels
  pub begins : FirstBeginsItem made
  pub opens : (depth : ℕ) (more : List Call) → until_closed depth (made ++ more) ≡ made ++ until_closed (suc depth) more

-- the calls of an item's document are of the value of its tree, but for how its strings are cut
abbrev pub CborDocumentsMean : Type 0
CborDocumentsMean = (bytes rest : List ℕ) (tree : Tree) (item : IsItem bytes tree rest) → cbor_joined (cbor_value_in (cbor_calls item [])) ≡ cbor_value_of tree
