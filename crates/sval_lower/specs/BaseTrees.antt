-- Which tree a stream that takes the base calls alone is told, in the place of each tree.
use Rattle.std.specs.Prelude.{ℕ, ℤ, pos, List, [], ◌∷◌, Option, Some, None, if◌then◌else◌, ⊤}
use Rattle.std.specs.Fmt.{signed_decimal}
use Rattle.sval_label.specs.Calls.{Label, Name, IntType, Head, Slot, Call}
use Rattle.sval_label.specs.Ranges.{is_signed}
use Rattle.sval_core.specs.Trees.{Tree, Null, Truth, Int, Text, Binary, Standalone, Tagged, EmptyEnum, Enum, Container, Parts, none, part}
use Rattle.sval_core.specs.Spells.{Spells}
use Rattle.sval_core.specs.Names.{says_none}
use Rattle.sval_lower.specs.Lowered.{is_base, lowered}

-- a number that fits 64 bits with its sign, or its digits
abbrev pub wide_tree : ℤ → Tree
wide_tree n = if is_signed 63 n then Int IntType.I64 n else Text (signed_decimal n)

-- a number of a signed type up to 64 bits is an `i64`; of any other it is one where it fits, and else its digits
abbrev pub int_tree : IntType → ℤ → Tree
int_tree IntType.I8 n = Int IntType.I64 n
int_tree IntType.I16 n = Int IntType.I64 n
int_tree IntType.I32 n = Int IntType.I64 n
int_tree IntType.I64 n = Int IntType.I64 n
int_tree _ n = wide_tree n

-- a label as a text, and no label as `null`
abbrev pub label_tree : Option Label → Tree
label_tree (Some label) = Text label.text
label_tree None = Null

-- a tag by itself: `null` where it says that there is no value, or has no label, and else its label
abbrev pub own_tree : Name → Tree
own_tree name = if says_none name.tag then Null else label_tree name.label

-- a sequence of two
abbrev pub pair_tree : Tree → Tree → Tree
pair_tree first second = Container Head.Seq (part Slot.Item first (part Slot.Item second none))

-- the bytes of a binary as the items of a sequence, each a number
abbrev pub byte_parts : List ℕ → Parts
byte_parts [] = none
byte_parts (byte ∷ bytes) = part Slot.Item (int_tree IntType.U8 (pos byte)) (byte_parts bytes)

abbrev mutual
  -- names are left out but for labels of fields, binaries are sequences of numbers, and maps and records are sequences of pairs
  pub base_tree : Tree → Tree
  base_tree Null = Null
  base_tree (Truth b) = Truth b
  base_tree (Int type n) = int_tree type n
  base_tree (Text text) = Text text
  base_tree (Binary bytes) = Container Head.Seq (byte_parts bytes)
  base_tree (Standalone name) = own_tree name
  base_tree (Tagged _ tree) = base_tree tree
  base_tree (EmptyEnum _) = Null
  base_tree (Enum _ tree) = base_tree tree
  base_tree (Container _ parts) = Container Head.Seq (base_parts parts)

  -- each part or entry as an item; the last row is met by no good tree, where keys and values come in pairs
  pub base_parts : Parts → Parts
  base_parts none = none
  base_parts (part Slot.Item tree parts) = part Slot.Item (base_tree tree) (base_parts parts)
  base_parts (part Slot.Key key (part Slot.Value value parts)) = part Slot.Item (pair_tree (base_tree key) (base_tree value)) (base_parts parts)
  base_parts (part (Slot.Field _ label) tree parts) = part Slot.Item (pair_tree (Text label.text) (base_tree tree)) (base_parts parts)
  base_parts (part (Slot.Place _ _) tree parts) = part Slot.Item (base_tree tree) (base_parts parts)
  base_parts (part (Slot.FieldPlace _ label _) tree parts) = part Slot.Item (pair_tree (Text label.text) (base_tree tree)) (base_parts parts)
  base_parts _ = none

-- each enum holds a variant, since one that holds none is lowered to no call
abbrev mutual
  pub HoldsVariants : Tree → Type 0
  HoldsVariants (EmptyEnum _) = ⊥
  HoldsVariants (Tagged _ tree) = HoldsVariants tree
  HoldsVariants (Enum _ tree) = HoldsVariants tree
  HoldsVariants (Container _ parts) = HoldVariants parts
  HoldsVariants _ = ⊤

  -- each enum in the parts' trees holds a variant
  pub HoldVariants : Parts → Type 0
  HoldVariants none = ⊤
  HoldVariants (part _ tree parts) = HoldsVariants tree × HoldVariants parts

-- the base calls that a tree's calls are lowered to spell its tree of base calls
abbrev pub BaseTreeIsTold : Type 0
BaseTreeIsTold = (calls : List Call) (tree : Tree) → Spells calls tree → HoldsVariants tree → Spells (lowered is_base calls) (base_tree tree)
