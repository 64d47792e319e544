-- How many nodes the item has that some nodes begin with.
use Rattle.std.specs.Prelude.{◌≡◌, ℕ, zero, suc, ◌-◌, Bool, true, false, List, [], ◌∷◌, drop}
use Rattle.sval_cbor_read.specs.declared.node.Kind as made_kind
use Rattle.sval_cbor_read.specs.declared.node.Kind.TheVariants as kind
use Rattle.sval_cbor_read.specs.declared.node.Node.{Node}

-- a node of this kind is the first of an item
abbrev pub is_first : made_kind.Kind → Bool
is_first kind.Item = true
is_first kind.Big = true
is_first kind.NegativeBig = true
is_first kind.Begin = true
is_first kind.TextPiece = false
is_first kind.BinaryPiece = false
is_first kind.EndText = false
is_first kind.EndBinary = false
is_first kind.EndSeq = false
is_first kind.EndMap = false

-- how many strings, arrays and maps are open behind a node, where so many are before it
abbrev pub cbor_depth_behind : made_kind.Kind → ℕ → ℕ
cbor_depth_behind kind.Item depth = depth
cbor_depth_behind kind.Big depth = depth
cbor_depth_behind kind.NegativeBig depth = depth
cbor_depth_behind kind.Begin depth = suc depth
cbor_depth_behind kind.TextPiece depth = depth
cbor_depth_behind kind.BinaryPiece depth = depth
cbor_depth_behind kind.EndText depth = depth - 1
cbor_depth_behind kind.EndBinary depth = depth - 1
cbor_depth_behind kind.EndSeq depth = depth - 1
cbor_depth_behind kind.EndMap depth = depth - 1

-- nothing more counts where nothing is open
abbrev pub cbor_while_open : ℕ → ℕ → ℕ
cbor_while_open zero more = zero
cbor_while_open (suc depth) more = more

-- how many nodes there are up to the first behind which nothing is open
abbrev pub cbor_span : ℕ → List Node → ℕ
cbor_span depth [] = zero
cbor_span depth (node ∷ nodes) = suc (cbor_while_open (cbor_depth_behind node.kind depth) (cbor_span (cbor_depth_behind node.kind depth) nodes))

-- the nodes begin with an item
abbrev pub BeginsItem : List Node → Type 0
BeginsItem [] = ⊥
BeginsItem (node ∷ nodes) = is_first node.kind ≡ true

-- they do, and these are the nodes behind it
pub record IsBehindItem (nodes behind : List Node) : Type 0 where
  pub begins : BeginsItem nodes
  pub behind_is : behind ≡ drop (cbor_span 0 nodes) nodes
