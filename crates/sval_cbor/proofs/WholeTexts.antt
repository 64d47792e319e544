-- Calls that spell a tree with whole texts go on with whole texts after it, and a text in them is one fragment.
use Rattle.std.specs.Prelude.{◌≡◌, ℕ, false, true, List, [], ◌∷◌, ◌++◌, map, Option, Some, refl}
use Rattle.std.specs.List.{concat}
use Rattle.std.proofs.Common.{sym, ap, ◌∙◌, subst, append-nil}
use Rattle.sval_label.specs.Calls.{Call}
use Rattle.sval_core.specs.Trees.{Tree, Null, Truth, Int, Text, Binary, Standalone, Tagged, EmptyEnum, Enum, Container, Parts, none, part, calls_then, part_calls_then, calls_of}
use Rattle.sval_core.specs.Spells.{Says, SayParts, bare_name, bare_head, bare_slot}
use Rattle.sval_cbor.specs.Writing.{NoText, NoFragment, fragment_progress, are_whole, HaveWholeTexts}

-- one text, and then calls with whole texts
pub record IsWholeText (calls : List Call) (bytes : List ℕ) (rest : List Call) : Type 0 where
  pub size : Option ℕ
  pub is : calls ≡ Call.TextBegin size ∷ Call.TextFragment false bytes ∷ Call.TextEnd ∷ rest
  pub go_on : HaveWholeTexts rest

pub record IsWholeBinary (calls : List Call) (bytes : List ℕ) (rest : List Call) : Type 0 where
  pub size : Option ℕ
  pub is : calls ≡ Call.BinaryBegin size ∷ Call.BinaryFragment false bytes ∷ Call.BinaryEnd ∷ rest
  pub go_on : HaveWholeTexts rest

text_of : (size : Option ℕ) (pieces : List (List ℕ)) (bytes : List ℕ) (rest : List Call) → concat pieces ≡ bytes
    → are_whole (Some NoFragment) (map (Call.TextFragment false) pieces ++ Call.TextEnd ∷ rest) ≡ true → IsWholeText (Call.TextBegin size ∷ map (Call.TextFragment false) pieces ++ Call.TextEnd ∷ rest) bytes rest
text_of size [] bytes rest e w = absurd (cc w)
text_of size (only ∷ []) bytes rest e w = record { size = size; is = ap (λ x. Call.TextBegin size ∷ Call.TextFragment false x ∷ Call.TextEnd ∷ rest) (sym (append-nil only) ∙ e); go_on = w }
text_of size (one ∷ more ∷ pieces) bytes rest e w = absurd (cc w)

binary_of : (size : Option ℕ) (pieces : List (List ℕ)) (bytes : List ℕ) (rest : List Call) → concat pieces ≡ bytes
    → are_whole (Some NoFragment) (map (Call.BinaryFragment false) pieces ++ Call.BinaryEnd ∷ rest) ≡ true → IsWholeBinary (Call.BinaryBegin size ∷ map (Call.BinaryFragment false) pieces ++ Call.BinaryEnd ∷ rest) bytes rest
binary_of size [] bytes rest e w = absurd (cc w)
binary_of size (only ∷ []) bytes rest e w = record { size = size; is = ap (λ x. Call.BinaryBegin size ∷ Call.BinaryFragment false x ∷ Call.BinaryEnd ∷ rest) (sym (append-nil only) ∙ e); go_on = w }
binary_of size (one ∷ more ∷ pieces) bytes rest e w = absurd (cc w)

pub whole_text : (bytes : List ℕ) (calls rest : List Call) → Says (Text bytes) calls rest → HaveWholeTexts calls → IsWholeText calls bytes rest
whole_text bytes calls rest (size, pieces, exact, joined, e) w =
    let v : are_whole (Some NoFragment) (map (Call.TextFragment false) pieces ++ Call.TextEnd ∷ rest) ≡ true = rw e at w in
    subst (λ x. IsWholeText x bytes rest) (sym e) (text_of size pieces bytes rest joined v)

pub whole_binary : (bytes : List ℕ) (calls rest : List Call) → Says (Binary bytes) calls rest → HaveWholeTexts calls → IsWholeBinary calls bytes rest
whole_binary bytes calls rest (size, pieces, exact, joined, e) w =
    let v : are_whole (Some NoFragment) (map (Call.BinaryFragment false) pieces ++ Call.BinaryEnd ∷ rest) ≡ true = rw e at w in
    subst (λ x. IsWholeBinary x bytes rest) (sym e) (binary_of size pieces bytes rest joined v)

-- calls that stand outside texts
pub whole_inside : (call : Call) (calls rest : List Call) → calls ≡ call ∷ rest → fragment_progress NoText call ≡ Some NoText → HaveWholeTexts calls → HaveWholeTexts rest
whole_inside call calls rest e p w =
    let v : are_whole (fragment_progress NoText call) rest ≡ true = rw e at w in subst (λ o. are_whole o rest ≡ true) p v

mutual
  pub whole_after : (t : Tree) (calls rest : List Call) → Says t calls rest → HaveWholeTexts calls → HaveWholeTexts rest
  whole_after Null calls rest s w = whole_inside Call.Null calls rest s refl w
  whole_after (Truth b) calls rest s w = whole_inside (Call.Truth b) calls rest s refl w
  whole_after (Int type n) calls rest s w = whole_inside (Call.Int type n) calls rest s refl w
  whole_after (Text bytes) calls rest s w = (whole_text bytes calls rest s w).go_on
  whole_after (Binary bytes) calls rest s w = (whole_binary bytes calls rest s w).go_on
  whole_after (Standalone name) calls rest s w = whole_inside (Call.Standalone name) calls rest s refl w
  whole_after (Tagged name tree) calls rest s w =
      whole_inside (Call.TaggedEnd (bare_name name)) (Call.TaggedEnd (bare_name name) ∷ rest) rest refl refl (whole_after tree s.0 (Call.TaggedEnd (bare_name name) ∷ rest) s.2 (whole_inside (Call.TaggedBegin name) calls s.0 s.1 refl w))
  whole_after (EmptyEnum name) calls rest s w =
      whole_inside (Call.EnumEnd (bare_name name)) (Call.EnumEnd (bare_name name) ∷ rest) rest refl refl (whole_inside (Call.EnumBegin name) calls (Call.EnumEnd (bare_name name) ∷ rest) s refl w)
  whole_after (Enum name tree) calls rest s w =
      whole_inside (Call.EnumEnd (bare_name name)) (Call.EnumEnd (bare_name name) ∷ rest) rest refl refl (whole_after tree s.0 (Call.EnumEnd (bare_name name) ∷ rest) s.2 (whole_inside (Call.EnumBegin name) calls s.0 s.1 refl w))
  whole_after (Container head parts) calls rest s w =
      whole_inside (Call.End (bare_head head)) (Call.End (bare_head head) ∷ rest) rest refl refl (parts_after parts s.1 (Call.End (bare_head head) ∷ rest) s.4 (whole_inside (Call.Begin head s.0) calls s.1 s.3 refl w))

  parts_after : (parts : Parts) (calls rest : List Call) → SayParts parts calls rest → HaveWholeTexts calls → HaveWholeTexts rest
  parts_after none calls rest s w = rw s at w
  parts_after (part slot tree parts) calls rest s w =
      let inside = whole_inside (Call.PartBegin slot) calls s.0 s.2 refl w in
      let ended = whole_after tree s.0 (Call.PartEnd (bare_slot slot) ∷ s.1) s.3 inside in
      parts_after parts s.1 rest s.4 (whole_inside (Call.PartEnd (bare_slot slot)) (Call.PartEnd (bare_slot slot) ∷ s.1) s.1 refl refl ended)

mutual
  whole_then : (t : Tree) (rest : List Call) → HaveWholeTexts rest → HaveWholeTexts (calls_then t rest)
  whole_then Null rest h = h
  whole_then (Truth b) rest h = h
  whole_then (Int type n) rest h = h
  whole_then (Text bytes) rest h = h
  whole_then (Binary bytes) rest h = h
  whole_then (Standalone name) rest h = h
  whole_then (Tagged name tree) rest h = whole_then tree (Call.TaggedEnd name ∷ rest) h
  whole_then (EmptyEnum name) rest h = h
  whole_then (Enum name tree) rest h = whole_then tree (Call.EnumEnd name ∷ rest) h
  whole_then (Container head parts) rest h = parts_then parts (Call.End head ∷ rest) h

  parts_then : (parts : Parts) (rest : List Call) → HaveWholeTexts rest → HaveWholeTexts (part_calls_then parts rest)
  parts_then none rest h = h
  parts_then (part slot tree parts) rest h = whole_then tree (Call.PartEnd slot ∷ part_calls_then parts rest) (parts_then parts rest h)

pub canonical_whole : (tree : Tree) → HaveWholeTexts (calls_of tree)
canonical_whole tree = whole_then tree [] refl
