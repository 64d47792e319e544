-- When tags, labels and indexes are equal, how they are ordered, and what they feed a hasher.
use Rattle.std.specs.Prelude.{◌≡◌, Bool}
use Rattle.std.specs.Bool.{Decides}
use Rattle.std.specs.Str.{bytes_eq}
use Rattle.std.specs.Cmp.{IsEquivalence, IsTotalOrder}
use Rattle.std.specs.declared.cmp.Ordering.{Ordering}
use Rattle.std.specs.Ordering.{int_cmp, int_eq, eq_by_cmp}
use Rattle.std.specs.Hash.{HashWrites, Alike, str, i128}
use Rattle.sval_label.specs.Calls.{Tag, Label, Index}

-- two tags by their texts
abbrev pub same_tag : Tag → Tag → Bool
same_tag a b = bytes_eq a b

-- two labels by their texts alone
abbrev pub same_label : Label → Label → Bool
same_label a b = bytes_eq a.text b.text

-- two indexes by their numbers alone
abbrev pub same_index : Index → Index → Bool
same_index a b = int_eq a.number b.number

-- two indexes are ordered by their numbers alone
abbrev pub index_cmp : Index → Index → Ordering
index_cmp a b = int_cmp a.number b.number

-- a label feeds its text alone
abbrev pub label_writes : Label → HashWrites
label_writes label = str label.text

-- an index feeds its number alone
abbrev pub index_writes : Index → HashWrites
index_writes index = i128 index.number

-- ---- the laws, as facts

-- tags are equal exactly where their texts are, which is an equivalence
pub record TagsByTexts : Type 0 where
  pub decides : (a b : Tag) → Decides (same_tag a b) (a ≡ b)
  pub equivalence : IsEquivalence same_tag

-- equal labels are hashed alike, whatever their tags
pub record LabelsByTexts : Type 0 where
  pub decides : (a b : Label) → Decides (same_label a b) (a.text ≡ b.text)
  pub equivalence : IsEquivalence same_label
  pub hashed : Alike same_label label_writes

-- equal indexes are ordered as equals and hashed alike, whatever their tags
pub record IndexesByNumbers : Type 0 where
  pub decides : (a b : Index) → Decides (same_index a b) (a.number ≡ b.number)
  pub equivalence : IsEquivalence same_index
  pub order : IsTotalOrder index_cmp
  pub agree : (a b : Index) → same_index a b ≡ eq_by_cmp index_cmp a b
  pub hashed : Alike same_index index_writes
