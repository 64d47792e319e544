-- What is found at the first node of an item, as a value and as what it puts before others.
use Rattle.std.specs.Prelude.{◌≡◌, ℕ, pos, negsuc, List, [], ◌∷◌, Option, Some, None, length, drop}
use Rattle.sval_label.specs.Calls.{Call}
use Rattle.sval_cbor_read.specs.declared.node.Node.{Node}
use Rattle.sval_cbor_read.specs.declared.found.Found as made_found
use Rattle.sval_cbor_read.specs.declared.found.Found.TheVariants as found
use Rattle.sval_cbor_read.specs.CborValues.{CborValue, Null, Truth, Int, Text, Binary, Array, Map, CborLevel, cbor_innermost_level, cbor_levels_of, cbor_puts, cbor_closes, puts_calls, cbor_values_in, cbor_value_in}
use Rattle.sval_cbor_read.specs.SeenNodes.{streamed_items, NodesStand}
use Rattle.sval_cbor_read.specs.NodeSpans.{BeginsItem}
use Rattle.sval_cbor_read.specs.CborParts.{EndDocument}

-- the value that is found, by the level behind its first node
abbrev pub found_value : made_found.Found → CborLevel → CborValue
found_value found.Null level = Null
found_value (found.Bool b) level = Truth b
found_value (found.Unsigned n) level = Int (pos n)
found_value (found.Negative n) level = Int (negsuc n)
found_value (found.Text text) level = Text (text.now ∷ [])
found_value (found.Bytes bytes) level = Binary (bytes.now ∷ [])
found_value found.TextChunks level = Text level.texts
found_value found.ByteChunks level = Binary level.binaries
found_value found.Array level = Array level.values
found_value found.Map level = Map level.values

-- what is found before these levels
abbrev pub found_puts : made_found.Found → List CborLevel → List CborLevel
found_puts found.Null levels = cbor_puts Null levels
found_puts (found.Bool b) levels = cbor_puts (Truth b) levels
found_puts (found.Unsigned n) levels = cbor_puts (Int (pos n)) levels
found_puts (found.Negative n) levels = cbor_puts (Int (negsuc n)) levels
found_puts (found.Text text) levels = cbor_puts (Text (text.now ∷ [])) levels
found_puts (found.Bytes bytes) levels = cbor_puts (Binary (bytes.now ∷ [])) levels
found_puts found.TextChunks levels = cbor_closes (λ level. Text level.texts) levels
found_puts found.ByteChunks levels = cbor_closes (λ level. Binary level.binaries) levels
found_puts found.Array levels = cbor_closes (λ level. Array level.values) levels
found_puts found.Map levels = cbor_closes (λ level. Map level.values) levels

-- calls are what is found, whatever follows
pub record AreFound (made : List Call) (found : made_found.Found) : Type 0 where
  pub puts_it : (levels : List CborLevel) → puts_calls made levels ≡ found_puts found levels

-- the level of what follows the first node
abbrev pub level_behind : List ℕ → List Node → CborLevel
level_behind bytes nodes = cbor_innermost_level (cbor_levels_of (streamed_items bytes (drop 1 nodes)))

-- the value of the item that nodes begin with
abbrev pub value_at : List ℕ → List Node → CborValue
value_at bytes nodes = cbor_value_in (streamed_items bytes nodes)

-- the last nodes of an item of the bytes
pub record AreInItem (bytes : List ℕ) (nodes : List Node) : Type 0 where
  pub stand : NodesStand bytes nodes
  pub ends : EndDocument (streamed_items bytes nodes)

-- those of which the first begins an item
pub record AreOfItem (bytes : List ℕ) (nodes : List Node) : Type 0 where
  pub stand : NodesStand bytes nodes
  pub ends : EndDocument (streamed_items bytes nodes)
  pub begins : BeginsItem nodes

-- the chunks of a text that begin some calls, and those of a byte string
abbrev pub texts_in : List Call → List (List ℕ)
texts_in made = (cbor_innermost_level (cbor_levels_of made)).texts

abbrev pub binaries_in : List Call → List (List ℕ)
binaries_in made = (cbor_innermost_level (cbor_levels_of made)).binaries

-- one more chunk in front, where there is one
abbrev pub with_whole : Option (List ℕ) → List (List ℕ) → List (List ℕ)
with_whole None chunks = chunks
with_whole (Some chunk) chunks = chunk ∷ chunks

-- the first chunk of a text, if there is one, and those behind it
abbrev pub IsTextChunk : List ℕ → List Node → Option (List ℕ) → Type 0
IsTextChunk bytes nodes None = texts_in (streamed_items bytes nodes) ≡ []
IsTextChunk bytes nodes (Some chunk) = texts_in (streamed_items bytes nodes) ≡ chunk ∷ texts_in (streamed_items bytes (drop 1 nodes))

-- the same of a byte string
abbrev pub IsByteChunk : List ℕ → List Node → Option (List ℕ) → Type 0
IsByteChunk bytes nodes None = binaries_in (streamed_items bytes nodes) ≡ []
IsByteChunk bytes nodes (Some chunk) = binaries_in (streamed_items bytes nodes) ≡ chunk ∷ binaries_in (streamed_items bytes (drop 1 nodes))
