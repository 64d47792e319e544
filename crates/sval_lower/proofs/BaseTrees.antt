-- The base calls that a tree's calls are lowered to spell a tree.
use Rattle.std.specs.Prelude.{◌≡◌, ℕ, ℤ, pos, Bool, true, false, List, [], ◌∷◌, ◌++◌, length, map, flat_map, if◌then◌else◌, Option, Some, None, refl, ⊤}
use Rattle.std.specs.List.{concat}
use Rattle.std.specs.Fmt.{signed_decimal}
use Rattle.std.proofs.Common.{ap, ◌∙◌, sym, subst, arith, append-nil, append_assoc}
use Rattle.sval_label.specs.Calls.{Label, Name, IntType, Head, Slot, Call}
use Rattle.sval_label.specs.Ranges.{is_signed}
use Rattle.sval_core.specs.Names.{says_none}
use Rattle.sval_core.specs.Trees as tree
use Rattle.sval_core.specs.Trees.{Tree, Null, Truth, Int, Text, Binary, Standalone, Tagged, EmptyEnum, Enum, Container, Parts, none, part, Kind, kind_of, first_kind, next_kind, MayEnd, AreInOrder, IsGood, AreGood}
use Rattle.sval_core.specs.Spells.{bare_label, bare_index, bare_name, bare_head, IsSize, entries, Says, SayParts, plain}
use Rattle.sval_lower.specs.Lowered.{is_base, lowered_within, lowered_call, lowered}
use Rattle.sval_lower.specs.BaseTrees.{wide_tree, int_tree, label_tree, own_tree, pair_tree, byte_parts, base_tree, base_parts, HoldsVariants, HoldVariants, BaseTreeIsTold}
use Rattle.sval_lower.specs.Lower.{byte_calls}
use Rattle.sval_lower.proofs.BaseCalls.{lowered_is_plain, lowered_as_plain, own_base, own_told, field_front, field_told, field_place_told, wide_base, int_base, int_told}

-- ---- parts in order

-- each key has its value after it, and no value stands elsewhere
abbrev Alternate : Parts → Type 0
Alternate none = ⊤
Alternate (part Slot.Key key (part Slot.Value value parts)) = Alternate parts
Alternate (part Slot.Key _ _) = ⊥
Alternate (part Slot.Value _ _) = ⊥
Alternate (part _ _ parts) = Alternate parts

abbrev NoValue : Kind → Type 0
NoValue tree.Value = ⊥
NoValue _ = ⊤

mutual
  alternate : (p : Parts) (kind : Kind) → NoValue kind → AreInOrder kind p → Alternate p
  alternate none kind n o = tt
  alternate (part Slot.Item t parts) kind n o = alternate parts tree.Item tt (subst (λ k. AreInOrder (next_kind k) parts) (sym o.0) o.1)
  alternate (part Slot.Key t parts) kind n o = alternate_value t parts (subst (λ k. AreInOrder (next_kind k) parts) (sym o.0) o.1)
  alternate (part Slot.Value t parts) kind n o = absurd (subst NoValue (sym o.0) n)
  alternate (part (Slot.Field tag label) t parts) kind n o = alternate parts tree.Field tt (subst (λ k. AreInOrder (next_kind k) parts) (sym o.0) o.1)
  alternate (part (Slot.Place tag index) t parts) kind n o = alternate parts tree.Place tt (subst (λ k. AreInOrder (next_kind k) parts) (sym o.0) o.1)
  alternate (part (Slot.FieldPlace tag label index) t parts) kind n o = alternate parts tree.FieldPlace tt (subst (λ k. AreInOrder (next_kind k) parts) (sym o.0) o.1)

  alternate_value : (t : Tree) (p : Parts) → AreInOrder tree.Value p → Alternate (part Slot.Key t p)
  alternate_value t none o = absurd o
  alternate_value t (part Slot.Value v parts) o = alternate parts tree.Key tt o.1
  alternate_value t (part Slot.Item v parts) o = absurd (cc (o.0))
  alternate_value t (part Slot.Key v parts) o = absurd (cc (o.0))
  alternate_value t (part (Slot.Field tag label) v parts) o = absurd (cc (o.0))
  alternate_value t (part (Slot.Place tag index) v parts) o = absurd (cc (o.0))
  alternate_value t (part (Slot.FieldPlace tag label index) v parts) o = absurd (cc (o.0))

no_value_first : (head : Head) → NoValue (first_kind head)
no_value_first Head.Seq = tt
no_value_first Head.Map = tt
no_value_first (Head.Record name) = tt
no_value_first (Head.Tuple name) = tt
no_value_first (Head.RecordTuple name) = tt

-- ---- the trees are good

good_wide : (n : ℤ) → IsGood (wide_tree n)
good_wide n = go (is_signed 63 n)
  where
    go : (b : Bool) → IsGood (if b then Int IntType.I64 n else Text (signed_decimal n))
    go true = tt
    go false = tt

good_int : (type : IntType) (n : ℤ) → IsGood (int_tree type n)
good_int IntType.I8 n = tt
good_int IntType.I16 n = tt
good_int IntType.I32 n = tt
good_int IntType.I64 n = tt
good_int IntType.U8 n = good_wide n
good_int IntType.U16 n = good_wide n
good_int IntType.U32 n = good_wide n
good_int IntType.U64 n = good_wide n
good_int IntType.U128 n = good_wide n
good_int IntType.I128 n = good_wide n

good_own : (name : Name) → IsGood (own_tree name)
good_own name = go (says_none name.tag) name.label
  where
    go : (b : Bool) (label : Option Label) → IsGood (if b then Null else label_tree label)
    go true label = tt
    go false (Some label) = tt
    go false None = tt

good_bytes : (bytes : List ℕ) → AreInOrder tree.Item (byte_parts bytes) × AreGood (byte_parts bytes)
good_bytes [] = (tt, tt)
good_bytes (byte ∷ bytes) = let rest = good_bytes bytes in ((refl, rest.0), (refl, good_int IntType.U8 (pos byte), rest.1))

good_pair : (first second : Tree) → IsGood first → IsGood second → IsGood (pair_tree first second)
good_pair first second g h = (refl, (refl, (refl, tt)), (refl, g, (refl, h, tt)))

mutual
  good_base : (t : Tree) → IsGood (base_tree t)
  good_base Null = tt
  good_base (Truth b) = tt
  good_base (Int type n) = good_int type n
  good_base (Text text) = tt
  good_base (Binary bytes) = let g = good_bytes bytes in (refl, g.0, g.1)
  good_base (Standalone name) = good_own name
  good_base (Tagged name t) = good_base t
  good_base (EmptyEnum name) = tt
  good_base (Enum name t) = good_base t
  good_base (Container head parts) = let g = good_parts parts in (refl, g.0, g.1)

  good_parts : (p : Parts) → AreInOrder tree.Item (base_parts p) × AreGood (base_parts p)
  good_parts none = (tt, tt)
  good_parts (part Slot.Item t parts) = let rest = good_parts parts in ((refl, rest.0), (refl, good_base t, rest.1))
  good_parts (part Slot.Key key (part Slot.Value value parts)) =
      let rest = good_parts parts in ((refl, rest.0), (refl, good_pair (base_tree key) (base_tree value) (good_base key) (good_base value), rest.1))
  good_parts (part (Slot.Field tag label) t parts) =
      let rest = good_parts parts in ((refl, rest.0), (refl, good_pair (Text label.text) (base_tree t) tt (good_base t), rest.1))
  good_parts (part (Slot.Place tag index) t parts) = let rest = good_parts parts in ((refl, rest.0), (refl, good_base t, rest.1))
  good_parts (part (Slot.FieldPlace tag label index) t parts) =
      let rest = good_parts parts in ((refl, rest.0), (refl, good_pair (Text label.text) (base_tree t) tt (good_base t), rest.1))
  good_parts _ = (tt, tt)

-- a sequence of pairs has as many entries as the map or the record
same_entries : (p : Parts) → Alternate p → entries (base_parts p) ≡ entries p
same_entries none a = refl
same_entries (part Slot.Item t parts) a = let more = same_entries parts a in omega arith
same_entries (part Slot.Key key (part Slot.Value value parts)) a = let more = same_entries parts a in omega arith
same_entries (part (Slot.Field tag label) t parts) a = let more = same_entries parts a in omega arith
same_entries (part (Slot.Place tag index) t parts) a = let more = same_entries parts a in omega arith
same_entries (part (Slot.FieldPlace tag label index) t parts) a = let more = same_entries parts a in omega arith
same_entries _ a = absurd a

-- ---- what is told is a spelling

abbrev told : List Call → List Call
told calls = lowered is_base calls

wide_says : (n : ℤ) (rest : List Call) → Says (wide_tree n) (wide_base n ++ rest) rest
wide_says n rest = go (is_signed 63 n)
  where
    go : (b : Bool) → Says (if b then Int IntType.I64 n else Text (signed_decimal n)) ((if b then Call.Int IntType.I64 n ∷ [] else Call.TextBegin None ∷ Call.TextFragment false (signed_decimal n) ∷ Call.TextEnd ∷ []) ++ rest) rest
    go true = refl
    go false = (None, signed_decimal n ∷ [], tt, append-nil (signed_decimal n), refl)

int_says : (type : IntType) (n : ℤ) (rest : List Call) → Says (int_tree type n) (int_base type n ++ rest) rest
int_says IntType.I8 n rest = refl
int_says IntType.I16 n rest = refl
int_says IntType.I32 n rest = refl
int_says IntType.I64 n rest = refl
int_says IntType.U8 n rest = wide_says n rest
int_says IntType.U16 n rest = wide_says n rest
int_says IntType.U32 n rest = wide_says n rest
int_says IntType.U64 n rest = wide_says n rest
int_says IntType.U128 n rest = wide_says n rest
int_says IntType.I128 n rest = wide_says n rest

own_says : (name : Name) (rest : List Call) → Says (own_tree name) (own_base (says_none name.tag) name.label ++ rest) rest
own_says name rest = go (says_none name.tag) name.label
  where
    go : (b : Bool) (label : Option Label) → Says (if b then Null else label_tree label) (own_base b label ++ rest) rest
    go true label = refl
    go false (Some label) = (Some (length label.text), label.text ∷ [], refl, append-nil label.text, refl)
    go false None = refl

text_told : (size : Option ℕ) (pieces : List (List ℕ)) (rest : List Call)
    → told (Call.TextBegin size ∷ map (Call.TextFragment false) pieces ++ Call.TextEnd ∷ rest) ≡ Call.TextBegin size ∷ map (Call.TextFragment false) pieces ++ Call.TextEnd ∷ told rest
unfolding lowered_within
text_told size [] rest = refl
text_told size (piece ∷ pieces) rest =
    let more : told (Call.TextBegin size ∷ map (Call.TextFragment false) pieces ++ Call.TextEnd ∷ rest) ≡ Call.TextBegin size ∷ map (Call.TextFragment false) pieces ++ Call.TextEnd ∷ told rest = text_told size pieces rest in
    let inner : told (map (Call.TextFragment false) pieces ++ Call.TextEnd ∷ rest) ≡ map (Call.TextFragment false) pieces ++ Call.TextEnd ∷ told rest = cc in
    ap (λ x. Call.TextBegin size ∷ Call.TextFragment false piece ∷ x) inner

-- bytes as items of a sequence, and then the rest
abbrev byte_items : List ℕ → List Call → List Call
byte_items [] rest = rest
byte_items (byte ∷ bytes) rest = Call.PartBegin Slot.Item ∷ (int_base IntType.U8 (pos byte) ++ Call.PartEnd Slot.Item ∷ byte_items bytes rest)

byte_items-append : (first second : List ℕ) (rest : List Call) → byte_items (first ++ second) rest ≡ byte_items first (byte_items second rest)
byte_items-append [] second rest = refl
byte_items-append (byte ∷ first) second rest = ap (λ x. Call.PartBegin Slot.Item ∷ (int_base IntType.U8 (pos byte) ++ Call.PartEnd Slot.Item ∷ x)) (byte_items-append first second rest)

bytes_say : (bytes : List ℕ) (rest : List Call) → SayParts (byte_parts bytes) (byte_items bytes rest) rest
bytes_say [] rest = refl
bytes_say (byte ∷ bytes) rest =
    (int_base IntType.U8 (pos byte) ++ Call.PartEnd Slot.Item ∷ byte_items bytes rest, byte_items bytes rest, refl, int_says IntType.U8 (pos byte) (Call.PartEnd Slot.Item ∷ byte_items bytes rest), bytes_say bytes rest)

bytes_count : (bytes : List ℕ) → entries (byte_parts bytes) ≡ length bytes
bytes_count [] = refl
bytes_count (byte ∷ bytes) = let more = bytes_count bytes in omega arith

fragment_told : (bytes : List ℕ) (rest : List Call) → lowered_call is_base (Call.BinaryFragment false bytes) ++ rest ≡ byte_items bytes rest
unfolding lowered_within
fragment_told [] rest = refl
fragment_told (byte ∷ bytes) rest =
    let others = flat_map (lowered_within 6 is_base) (flat_map byte_calls bytes) in
    ap (λ x. Call.PartBegin Slot.Item ∷ x)
    (append_assoc (lowered_call is_base (Call.Int IntType.U8 (pos byte))) (Call.PartEnd Slot.Item ∷ others) rest
    ∙ ap (λ x. lowered_call is_base (Call.Int IntType.U8 (pos byte)) ++ Call.PartEnd Slot.Item ∷ x) (fragment_told bytes rest)
    ∙ ap (λ x. x ++ Call.PartEnd Slot.Item ∷ byte_items bytes rest) (int_told IntType.U8 (pos byte)))

pieces_told : (pieces : List (List ℕ)) (rest : List Call)
    → told (map (Call.BinaryFragment false) pieces ++ Call.BinaryEnd ∷ rest) ≡ byte_items (concat pieces) (Call.End Head.Seq ∷ told rest)
unfolding lowered_within
pieces_told [] rest = refl
pieces_told (piece ∷ pieces) rest =
    fragment_told piece (told (map (Call.BinaryFragment false) pieces ++ Call.BinaryEnd ∷ rest))
    ∙ ap (byte_items piece) (pieces_told pieces rest) ∙ sym (byte_items-append piece (concat pieces) (Call.End Head.Seq ∷ told rest))

same_size : (size : Option ℕ) {n m : ℕ} → IsSize size n → n ≡ m → IsSize size m
same_size None s e = tt
same_size (Some given) s e = s ∙ e

begin_told : (head : Head) (size : Option ℕ) (rest : List Call) → told (Call.Begin head size ∷ rest) ≡ Call.Begin Head.Seq size ∷ told rest
unfolding lowered_within
begin_told Head.Seq size rest = refl
begin_told Head.Map size rest = refl
begin_told (Head.Record name) size rest = refl
begin_told (Head.Tuple name) size rest = refl
begin_told (Head.RecordTuple name) size rest = refl

end_told : (head : Head) (rest : List Call) → told (Call.End (bare_head head) ∷ rest) ≡ Call.End Head.Seq ∷ told rest
unfolding lowered_within
end_told Head.Seq rest = refl
end_told Head.Map rest = refl
end_told (Head.Record name) rest = refl
end_told (Head.Tuple name) rest = refl
end_told (Head.RecordTuple name) rest = refl

-- a pair, of which the second is said after these calls, and then the rest
pair_says : (first second : Tree) (cs ds rest : List Call) → Says first cs (Call.PartEnd Slot.Item ∷ Call.PartBegin Slot.Item ∷ ds) → Says second ds (Call.PartEnd Slot.Item ∷ Call.End Head.Seq ∷ rest)
    → Says (pair_tree first second) (Call.Begin Head.Seq (Some 2) ∷ Call.PartBegin Slot.Item ∷ cs) rest
pair_says first second cs ds rest s t =
    (Some 2, Call.PartBegin Slot.Item ∷ cs, refl, refl, (cs, Call.PartBegin Slot.Item ∷ ds, refl, s, (ds, Call.End Head.Seq ∷ rest, refl, t, refl)))

field_says : (text : List ℕ) (t : Tree) (ds rest : List Call) → Says t ds (Call.PartEnd Slot.Item ∷ Call.End Head.Seq ∷ Call.PartEnd Slot.Item ∷ rest) → (parts : Parts) (last : List Call) → SayParts parts rest last
    → SayParts (part Slot.Item (pair_tree (Text text) t) parts) (field_front text ++ ds) last
field_says text t ds rest s parts last more = (
  _,
  rest,
  refl,
  pair_says (Text text) t (Call.TextBegin (Some (length text)) ∷ Call.TextFragment false text ∷ Call.TextEnd ∷ Call.PartEnd Slot.Item ∷ Call.PartBegin Slot.Item ∷ ds) ds (Call.PartEnd Slot.Item ∷ rest)
      (Some (length text), text ∷ [], refl, append-nil text, refl) s,
  more,
)

mutual
  unfolding lowered_within

  says_base : (t : Tree) (ds rest : List Call) → HoldsVariants t → IsGood t → Says t ds rest → Says (base_tree t) (told ds) (told rest)
  says_base Null ds rest h g s = ap told s
  says_base (Truth b) ds rest h g s = ap told s
  says_base (Int type n) ds rest h g s =
      subst (λ x. Says (int_tree type n) x (told rest)) (sym (ap told s ∙ ap (λ first. first ++ told rest) (int_told type n))) (int_says type n (told rest))
  says_base (Text text) ds rest h g s = (s.0, s.1, s.2, s.3, ap told s.4 ∙ text_told s.0 s.1 rest)
  says_base (Binary bytes) ds rest h g s = (
    s.0,
    byte_items bytes (Call.End Head.Seq ∷ told rest),
    same_size s.0 s.2 (sym (bytes_count bytes)),
    ap told s.4 ∙ ap (λ x. Call.Begin Head.Seq s.0 ∷ x) (pieces_told s.1 rest) ∙ ap (λ x. Call.Begin Head.Seq s.0 ∷ byte_items x (Call.End Head.Seq ∷ told rest)) s.3,
    bytes_say bytes (Call.End Head.Seq ∷ told rest),
  )
  says_base (Standalone name) ds rest h g s =
      subst (λ x. Says (own_tree name) x (told rest)) (sym (ap told s ∙ ap (λ first. first ++ told rest) (own_told name))) (own_says name (told rest))
  says_base (Tagged name t) ds rest h g s = subst (λ x. Says (base_tree t) x (told rest)) (sym (ap told s.1)) (says_base t s.0 (Call.TaggedEnd (bare_name name) ∷ rest) h g.2 s.2)
  says_base (EmptyEnum name) ds rest h g s = absurd h
  says_base (Enum name t) ds rest h g s = subst (λ x. Says (base_tree t) x (told rest)) (sym (ap told s.1)) (says_base t s.0 (Call.EnumEnd (bare_name name) ∷ rest) h g.2 s.2)
  says_base (Container head parts) ds rest h g s =
      let order = alternate parts (first_kind head) (no_value_first head) g.1 in (
        s.0,
        told s.1,
        same_size s.0 s.2 (sym (same_entries parts order)),
        ap told s.3 ∙ begin_told head s.0 s.1,
        subst (SayParts (base_parts parts) (told s.1)) (end_told head rest) (say_base parts s.1 (Call.End (bare_head head) ∷ rest) order h g.2 s.4),
      )

  say_base : (p : Parts) (ds rest : List Call) → Alternate p → HoldVariants p → AreGood p → SayParts p ds rest → SayParts (base_parts p) (told ds) (told rest)
  say_base none ds rest a h g s = ap told s
  say_base (part Slot.Item t parts) ds rest a h g s =
      (told s.0, told s.1, ap told s.2, says_base t s.0 (Call.PartEnd Slot.Item ∷ s.1) h.0 g.1 s.3, say_base parts s.1 rest a h.1 g.2 s.4)
  say_base (part Slot.Key key (part Slot.Value value parts)) ds rest a h g s =
      let v = s.4 in (
        Call.Begin Head.Seq (Some 2) ∷ Call.PartBegin Slot.Item ∷ told s.0,
        told v.1,
        ap told s.2,
        pair_says (base_tree key) (base_tree value) (told s.0) (told v.0) (Call.PartEnd Slot.Item ∷ told v.1)
            (subst (λ x. Says (base_tree key) (told s.0) (Call.PartEnd Slot.Item ∷ x)) (ap told v.2) (says_base key s.0 (Call.PartEnd Slot.Key ∷ s.1) h.0 g.1 s.3))
            (says_base value v.0 (Call.PartEnd Slot.Value ∷ v.1) h.1.0 g.2.1 v.3),
        say_base parts v.1 rest a h.1.1 g.2.2 v.4,
      )
  say_base (part (Slot.Field tag label) t parts) ds rest a h g s =
      subst (λ x. SayParts (part Slot.Item (pair_tree (Text label.text) (base_tree t)) (base_parts parts)) x (told rest)) (sym (ap told s.2 ∙ ap (λ first. first ++ told s.0) (field_told tag label)))
      (field_says label.text (base_tree t) (told s.0) (told s.1) (says_base t s.0 (Call.PartEnd (Slot.Field tag (bare_label label)) ∷ s.1) h.0 g.1 s.3) (base_parts parts) (told rest) (say_base parts s.1 rest a h.1 g.2 s.4))
  say_base (part (Slot.Place tag index) t parts) ds rest a h g s =
      (told s.0, told s.1, ap told s.2, says_base t s.0 (Call.PartEnd (Slot.Place tag (bare_index index)) ∷ s.1) h.0 g.1 s.3, say_base parts s.1 rest a h.1 g.2 s.4)
  say_base (part (Slot.FieldPlace tag label index) t parts) ds rest a h g s =
      subst (λ x. SayParts (part Slot.Item (pair_tree (Text label.text) (base_tree t)) (base_parts parts)) x (told rest)) (sym (ap told s.2 ∙ ap (λ first. first ++ told s.0) (field_place_told tag label index)))
      (field_says label.text (base_tree t) (told s.0) (told s.1) (says_base t s.0 (Call.PartEnd (Slot.FieldPlace tag (bare_label label) (bare_index index)) ∷ s.1) h.0 g.1 s.3) (base_parts parts) (told rest) (say_base parts s.1 rest a h.1 g.2 s.4))
  say_base _ ds rest a h g s = absurd a

-- the calls of a tree are told as its tree of base calls
pub base_tree_is_told : BaseTreeIsTold
base_tree_is_told calls t s h =
    (good_base t, subst (λ x. Says (base_tree t) x []) (sym (lowered_is_plain calls ∙ lowered_as_plain calls)) (says_base t (plain calls) [] h s.0 s.1))
