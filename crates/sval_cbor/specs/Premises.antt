-- What the laws of CBOR ask of a tree.
use Rattle.std.specs.Prelude.{ℕ, ◌+◌, ◌^◌, ◌<◌, List, length, IfSome, ⊤}
use Rattle.sval_label.specs.Calls.{Slot, Name, Label}
use Rattle.sval_core.specs.Trees.{Tree, Text, Binary, Standalone, Tagged, EmptyEnum, Enum, Container, Parts, none, part}
use Rattle.sval_core.specs.Real.{head_name}
use Rattle.sval_json.specs.Promises.{KeepsSlotPromise}
use Rattle.sval_cbor.specs.declared.style.Binaries.{Binaries}
use Rattle.sval_cbor.specs.declared.style.Binaries.TheVariants.{Numbers}
use Rattle.sval_cbor.specs.declared.style.Lengths.{Lengths}
use Rattle.sval_cbor.specs.declared.style.Lengths.TheVariants.{Indefinite, Definite}
use Rattle.sval_cbor.specs.declared.style.Style.{Style}
use Rattle.sval_cbor.specs.declared.style.TheConstants.Style.{DEFAULT}

-- shorter than 2 ^ 64 bytes
abbrev pub IsShortText : List ℕ → Type 0
IsShortText bytes = length bytes < 2 ^ 64

-- the same of a label
abbrev pub IsShortLabel : Label → Type 0
IsShortLabel label = IsShortText label.text

-- the same of a name's label
abbrev pub IsShortName : Name → Type 0
IsShortName name = IfSome name.label IsShortLabel

-- the same of a field's label
abbrev pub IsShortSlot : Slot → Type 0
IsShortSlot (Slot.Field _ label) = IsShortLabel label
IsShortSlot (Slot.FieldPlace _ label _) = IsShortLabel label
IsShortSlot _ = ⊤

-- as a byte string, or as an array of definite length, a binary is shorter than 2 ^ 64 bytes
abbrev pub IsShortBinary : Binaries → Lengths → List ℕ → Type 0
IsShortBinary Numbers Indefinite bytes = ⊤
IsShortBinary _ _ bytes = IsShortText bytes

-- how many parts a container has, where the key and the value of a pair are two
abbrev pub part_total : Parts → ℕ
part_total none = 0
part_total (part _ _ parts) = 1 + part_total parts

-- where lengths are definite, a container has fewer than 2 ^ 64 parts
abbrev pub IsShortRow : Lengths → Parts → Type 0
IsShortRow Indefinite parts = ⊤
IsShortRow Definite parts = part_total parts < 2 ^ 64

abbrev mutual
  -- each text and each label is shorter than 2 ^ 64 bytes, and so is each binary and each container whose length stands in a head
  pub IsShortTreeAs : Style → Tree → Type 0
  IsShortTreeAs style (Text bytes) = IsShortText bytes
  IsShortTreeAs style (Binary bytes) = IsShortBinary style.binaries style.lengths bytes
  IsShortTreeAs style (Standalone name) = IsShortName name
  IsShortTreeAs style (Tagged name tree) = IsShortName name × IsShortTreeAs style tree
  IsShortTreeAs style (EmptyEnum name) = IsShortName name
  IsShortTreeAs style (Enum name tree) = IsShortName name × IsShortTreeAs style tree
  IsShortTreeAs style (Container head parts) = IsShortName (head_name head) × AreShortAs style parts × IsShortRow style.lengths parts
  IsShortTreeAs style _ = ⊤

  -- the same of each text, label and binary in the parts
  pub AreShortAs : Style → Parts → Type 0
  AreShortAs style none = ⊤
  AreShortAs style (part slot tree parts) = IsShortSlot slot × IsShortTreeAs style tree × AreShortAs style parts

-- each text and each label is shorter than 2 ^ 64 bytes, which is all that the default style asks
abbrev pub IsShortTree : Tree → Type 0
IsShortTree tree = IsShortTreeAs DEFAULT tree

abbrev mutual
  -- each field's label that is tagged `VALUE_IDENT` needs no escapes
  pub HasPlainIdentifiers : Tree → Type 0
  HasPlainIdentifiers (Tagged _ tree) = HasPlainIdentifiers tree
  HasPlainIdentifiers (Enum _ tree) = HasPlainIdentifiers tree
  HasPlainIdentifiers (Container _ parts) = HavePlainIdentifiers parts
  HasPlainIdentifiers _ = ⊤

  -- each field's label in the parts that is tagged `VALUE_IDENT` needs no escapes
  pub HavePlainIdentifiers : Parts → Type 0
  HavePlainIdentifiers none = ⊤
  HavePlainIdentifiers (part slot tree parts) = KeepsSlotPromise slot × HasPlainIdentifiers tree × HavePlainIdentifiers parts
