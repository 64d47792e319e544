-- What the nodes of the code stand for: the calls that each makes, by the reader's step at its place in the bytes.
use Rattle.std.specs.Prelude.{◌≡◌, ℕ, zero, suc, ◌+◌, ◌*◌, ◌/◌, ◌%◌, ◌^◌, ◌<◌, ◌≤◌, true, ◌==◌, if◌then◌else◌, List, [], ◌∷◌, ◌++◌, length, take, drop, flat_map, Option, Some, None, ⊤}
use Rattle.std.specs.List.{AllByRecursion}
use Rattle.sval_label.specs.Calls.{Call}
use Rattle.sval_label.specs.Calls as calls
use Rattle.sval_cbor_read.specs.declared.node.Place as made_place
use Rattle.sval_cbor_read.specs.declared.node.Place.TheVariants as place
use Rattle.sval_cbor_read.specs.declared.node.Kind as made_kind
use Rattle.sval_cbor_read.specs.declared.node.Kind.TheVariants as kind
use Rattle.sval_cbor_read.specs.declared.node.Node.{Node}
use Rattle.sval_cbor_read.specs.declared.head.Head as made_head
use Rattle.sval_cbor_read.specs.Items.{ItemHead, head, head_at_front, IsByteString}
use Rattle.sval_cbor_read.specs.CborValues.{IsOneItem, OpensValue}
use Rattle.sval_cbor_read.specs.Reading.{Move, moves, Ended, item_step, string_step, fragment_call, with_piece, fits, number_call}

-- ---- places in the bytes

-- the place in the bytes of a node
abbrev pub node_offset : Node → ℕ
node_offset node = node.low + node.high * 2 ^ 32

-- the node of this kind, in this place of its container and at this one of the bytes
abbrev pub item_node : made_kind.Kind → made_place.Place → ℕ → Node
item_node kind place at = record { low = at % 2 ^ 32; high = at / 2 ^ 32; kind = kind; place = place }

-- ---- numbers as byte strings

-- what is made of a definite string and of the bytes behind it
abbrev pub with_string : Option ItemHead → (List ℕ → List ℕ → List ℕ) → List ℕ
with_string None go = []
with_string (Some (head major n after)) go = go (take n after) (drop n after)

-- the contents of definite strings up to a break, joined, of so many strings at most
abbrev pub joined_strings : ℕ → List ℕ → List ℕ
joined_strings zero bytes = []
joined_strings (suc most) [] = []
joined_strings (suc most) (first ∷ bytes) = if first == 0xff then [] else with_string (head_at_front (first ∷ bytes)) (λ content left. content ++ joined_strings most left)

-- the content of the byte string with which the bytes begin, definite or in pieces
abbrev pub byte_string : List ℕ → List ℕ
byte_string [] = []
byte_string (first ∷ bytes) = if first == 0x5f then joined_strings (length bytes) bytes else with_string (head_at_front (first ∷ bytes)) (λ content left. content)

-- the bytes begin with a byte string that is a number under this tag
pub record IsBignum (tag : ℕ) (bytes : List ℕ) : Type 0 where
  pub content : List ℕ
  pub rest : List ℕ
  pub stands : IsByteString bytes content rest
  pub small : fits tag content ≡ true

-- a definite text stands at a place, behind this head
pub record IsTextAt (bytes : List ℕ) (at : ℕ) (h : made_head.Head) : Type 0 where
  pub step : item_step (drop at bytes) [] ≡ string_step 3 h.number (drop h.next bytes) []
  pub within : h.next ≤ length bytes

-- ---- calls

-- the begin of the part that an item in this place stands in, if it stands in one
abbrev pub item_place_begins : made_place.Place → List Call
item_place_begins place.Alone = []
item_place_begins place.Item = Call.PartBegin calls.Item ∷ []
item_place_begins place.Key = Call.PartBegin calls.Key ∷ []
item_place_begins place.Value = Call.PartBegin calls.Value ∷ []

-- the end of the part that an item in this place stands in, if it stands in one
abbrev pub item_place_ends : made_place.Place → List Call
item_place_ends place.Alone = []
item_place_ends place.Item = Call.PartEnd calls.Item ∷ []
item_place_ends place.Key = Call.PartEnd calls.Key ∷ []
item_place_ends place.Value = Call.PartEnd calls.Value ∷ []

-- the calls of a step, where there is one
abbrev pub step_calls : Option Move → List Call
step_calls None = []
step_calls (Some move) = move.calls

-- an item that is a key of a map
abbrev pub map_key_calls : List Call → List Call
map_key_calls item = Call.PartBegin calls.Key ∷ (item ++ (Call.PartEnd calls.Key ∷ []))

-- the fragment that a definite string of this major type is, with which the bytes begin
abbrev pub piece_calls : ℕ → List ℕ → List Call
piece_calls major bytes = step_calls (with_piece major (head_at_front bytes) (λ piece left. moves (fragment_call major piece ∷ []) left (Ended [])))

-- the begin of the part that a node stands in, where it is the first of an item
abbrev pub item_begins_before : made_kind.Kind → made_place.Place → List Call
item_begins_before kind.Item place = item_place_begins place
item_begins_before kind.Big place = item_place_begins place
item_begins_before kind.NegativeBig place = item_place_begins place
item_begins_before kind.Begin place = item_place_begins place
item_begins_before kind.TextPiece place = []
item_begins_before kind.BinaryPiece place = []
item_begins_before kind.EndText place = []
item_begins_before kind.EndBinary place = []
item_begins_before kind.EndSeq place = []
item_begins_before kind.EndMap place = []

-- a node's own calls, by the bytes from its place on
abbrev pub node_own_calls : made_kind.Kind → List ℕ → List Call
node_own_calls kind.Item bytes = step_calls (item_step bytes [])
node_own_calls kind.Big bytes = number_call 2 (byte_string bytes) ∷ []
node_own_calls kind.NegativeBig bytes = number_call 3 (byte_string bytes) ∷ []
node_own_calls kind.Begin bytes = step_calls (item_step bytes [])
node_own_calls kind.TextPiece bytes = piece_calls 3 bytes
node_own_calls kind.BinaryPiece bytes = piece_calls 2 bytes
node_own_calls kind.EndText bytes = Call.TextEnd ∷ []
node_own_calls kind.EndBinary bytes = Call.BinaryEnd ∷ []
node_own_calls kind.EndSeq bytes = Call.End calls.Seq ∷ []
node_own_calls kind.EndMap bytes = Call.End calls.Map ∷ []

-- the end of the part that a node stands in, where it is the last of an item
abbrev pub item_ends_behind : made_kind.Kind → made_place.Place → List Call
item_ends_behind kind.Item place = item_place_ends place
item_ends_behind kind.Big place = item_place_ends place
item_ends_behind kind.NegativeBig place = item_place_ends place
item_ends_behind kind.Begin place = []
item_ends_behind kind.TextPiece place = []
item_ends_behind kind.BinaryPiece place = []
item_ends_behind kind.EndText place = item_place_ends place
item_ends_behind kind.EndBinary place = item_place_ends place
item_ends_behind kind.EndSeq place = item_place_ends place
item_ends_behind kind.EndMap place = item_place_ends place

-- the calls of a node in these bytes
abbrev pub cbor_node_calls : List ℕ → Node → List Call
cbor_node_calls bytes node = item_begins_before node.kind node.place ++ (node_own_calls node.kind (drop (node_offset node) bytes) ++ item_ends_behind node.kind node.place)

-- the calls of the nodes, one node after the other
abbrev pub streamed_items : List ℕ → List Node → List Call
streamed_items bytes nodes = flat_map (cbor_node_calls bytes) nodes

-- ---- what stands at the places

-- calls that are a whole item
abbrev pub AreWhole : List Call → Type 0
AreWhole made = (0 < length made) × IsOneItem made

-- calls that begin a string, an array or a map
abbrev pub AreBegin : List Call → Type 0
AreBegin made = (0 < length made) × OpensValue made

-- bytes with which such a node begins: it makes a call of its kind, and a number under a tag is one
abbrev pub NodeBegins : made_kind.Kind → List ℕ → Type 0
NodeBegins kind.Item bytes = AreWhole (step_calls (item_step bytes []))
NodeBegins kind.Big bytes = IsBignum 2 bytes
NodeBegins kind.NegativeBig bytes = IsBignum 3 bytes
NodeBegins kind.Begin bytes = AreBegin (step_calls (item_step bytes []))
NodeBegins kind.TextPiece bytes = 0 < length (piece_calls 3 bytes)
NodeBegins kind.BinaryPiece bytes = 0 < length (piece_calls 2 bytes)
NodeBegins _ bytes = ⊤

-- a node stands at its place in the bytes
abbrev pub NodeStands : List ℕ → Node → Type 0
NodeStands bytes node = NodeBegins node.kind (drop (node_offset node) bytes)

-- all nodes do
abbrev pub NodesStand : List ℕ → List Node → Type 0
NodesStand bytes nodes = AllByRecursion (NodeStands bytes) nodes
