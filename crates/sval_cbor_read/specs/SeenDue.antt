-- What is due in the frames of the reader, and which nodes are begun.
use Rattle.std.specs.Prelude.{ℕ, zero, suc, ◌+◌, Bool, true, false, List, [], ◌∷◌, Option, Some, None, slice_get}
use Rattle.sval_cbor_read.specs.declared.node.Kind as made_kind
use Rattle.sval_cbor_read.specs.declared.node.Kind.TheVariants as kind
use Rattle.sval_cbor_read.specs.declared.node.Node.{Node}
use Rattle.sval_cbor_read.specs.Reading.{OpenItem, Items, Keys, Values}
use Rattle.sval_cbor_read.specs.HeadFronts.{DueItems, so_many, up_to_break, chunks}

-- so many items, or items up to a break
abbrev pub due_items : Option ℕ → DueItems
due_items None = up_to_break
due_items (Some n) = so_many n

-- the items of so many pairs, or of pairs up to a break
abbrev pub due_pairs : Option ℕ → DueItems
due_pairs None = up_to_break
due_pairs (Some n) = so_many (n + n)

-- one item more
abbrev pub with_item : List DueItems → List DueItems
with_item [] = []
with_item (so_many n ∷ due) = so_many (suc n) ∷ due
with_item (up_to_break ∷ due) = up_to_break ∷ due
with_item (chunks major ∷ due) = chunks major ∷ due

-- what is due in the innermost frame where its next part is to begin
abbrev pub due_parts : OpenItem → DueItems
due_parts (Items left) = due_items left
due_parts (Keys left) = due_pairs left
due_parts (Values left) = due_pairs left

-- what is due behind an item in these; behind a key its value is
abbrev pub due_behind : List OpenItem → List DueItems
due_behind [] = so_many 0 ∷ []
due_behind (Items left ∷ frames) = due_items left ∷ due_behind frames
due_behind (Keys left ∷ frames) = with_item (due_pairs left ∷ due_behind frames)
due_behind (Values left ∷ frames) = due_pairs left ∷ due_behind frames

-- what is due where the next part of the innermost is
abbrev pub due_in_parts : List OpenItem → List DueItems
due_in_parts [] = []
due_in_parts (frame ∷ frames) = due_parts frame ∷ due_behind frames

-- a node of this kind is the begin of an item, or a chunk
abbrev pub is_begun : made_kind.Kind → Bool
is_begun kind.Item = true
is_begun kind.Big = true
is_begun kind.NegativeBig = true
is_begun kind.Begin = true
is_begun kind.TextPiece = true
is_begun kind.BinaryPiece = true
is_begun kind.EndText = false
is_begun kind.EndBinary = false
is_begun kind.EndSeq = false
is_begun kind.EndMap = false

-- a node is one of such a kind, where there is one
abbrev pub begun_in : Option Node → Bool
begun_in None = false
begun_in (Some node) = is_begun node.kind

-- behind so many nodes stands one of such a kind
abbrev pub is_begun_behind : ℕ → List Node → Bool
is_begun_behind n nodes = begun_in (slice_get nodes n)
