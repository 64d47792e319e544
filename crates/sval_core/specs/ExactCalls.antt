-- Calls such as the replay of a captured value makes: each text and binary comes whole, and each end has the name of its begin.
use Rattle.std.specs.Prelude.{◌≡◌, ℕ, ⊤, Bool, List, [], ◌∷◌, Option, Some, length}
use Rattle.sval_label.specs.Calls.{Call, TextBegin, TextFragment, TextEnd, BinaryBegin, BinaryFragment, BinaryEnd, EnumBegin, EnumEnd, TaggedBegin, TaggedEnd, Begin, End, PartBegin, PartEnd}

-- behind a text's begin: one fragment, which has this size, and the text's end
pub record IsWholeText (size : Option ℕ) (calls : List Call) : Type 0 where
  pub borrowed : Bool
  pub bytes : List ℕ
  pub later : List Call
  pub are : calls ≡ TextFragment borrowed bytes ∷ TextEnd ∷ later
  pub has_size : size ≡ Some (length bytes)

-- the same behind a binary's begin
pub record IsWholeBinary (size : Option ℕ) (calls : List Call) : Type 0 where
  pub borrowed : Bool
  pub bytes : List ℕ
  pub later : List Call
  pub are : calls ≡ BinaryFragment borrowed bytes ∷ BinaryEnd ∷ later
  pub has_size : size ≡ Some (length bytes)

-- where these ends are due, the innermost first: texts and binaries come whole, each begin makes its own end due, and each end is the
-- one that is due
abbrev pub AreExactFrom : List Call → List Call → Type 0
AreExactFrom due [] = ⊤
AreExactFrom due (TextBegin size ∷ calls) = IsWholeText size calls × AreExactFrom due calls
AreExactFrom due (BinaryBegin size ∷ calls) = IsWholeBinary size calls × AreExactFrom due calls
AreExactFrom due (EnumBegin name ∷ calls) = AreExactFrom (EnumEnd name ∷ due) calls
AreExactFrom due (TaggedBegin name ∷ calls) = AreExactFrom (TaggedEnd name ∷ due) calls
AreExactFrom due (Begin head size ∷ calls) = AreExactFrom (End head ∷ due) calls
AreExactFrom due (PartBegin slot ∷ calls) = AreExactFrom (PartEnd slot ∷ due) calls
AreExactFrom due (EnumEnd name ∷ calls) = (outer : List Call) × (due ≡ EnumEnd name ∷ outer) × AreExactFrom outer calls
AreExactFrom due (TaggedEnd name ∷ calls) = (outer : List Call) × (due ≡ TaggedEnd name ∷ outer) × AreExactFrom outer calls
AreExactFrom due (End head ∷ calls) = (outer : List Call) × (due ≡ End head ∷ outer) × AreExactFrom outer calls
AreExactFrom due (PartEnd slot ∷ calls) = (outer : List Call) × (due ≡ PartEnd slot ∷ outer) × AreExactFrom outer calls
AreExactFrom due (call ∷ calls) = AreExactFrom due calls

-- texts and binaries come whole, and each end says what the begin said that it ends
abbrev pub AreExact : List Call → Type 0
AreExact calls = AreExactFrom [] calls
