-- A printed call reads back as itself, and so do printed calls.
use Rattle.std.proofs.Common.{ap, ◌∙◌}
use mathlib.Core.List.{append_assoc}
use Rattle.std.proofs.lemmas.Bool.{and_parts}
use Rattle.std.proofs.lemmas.List.Folds.{list_all-append}
use Rattle.std.specs.Prelude.{◌≡◌, ℕ, ◌+◌, ℤ, Bool, true, false, List, [], ◌∷◌, ◌++◌, Option, Some, option_and_then, refl}
use Rattle.std.specs.Fmt.{signed_decimal}
use Rattle.std.specs.List.{list_all, join_with_byte}
use Rattle.std.specs.Str.{is_utf8}
use Rattle.hex.specs.Hex.{IsBytes}
use Rattle.sval_label.specs.Calls.{Call, Head, Slot, Name, Label, Index, IntType, Tag}
use Rattle.sval_label.specs.Calls.{Null, Truth, Int, Standalone, TagHint, TextBegin, TextFragment, TextEnd, BinaryBegin, BinaryFragment, BinaryEnd, EnumBegin, EnumEnd, TaggedBegin, TaggedEnd, Begin, End, PartBegin, PartEnd}
use Rattle.sval_label.specs.Calls.{Seq, Map, Record, Tuple, RecordTuple, Item, Key, Value, Field, Place, FieldPlace}
use Rattle.sval_label.specs.Calls.{U8, U16, U32, U64, U128, I8, I16, I32, I64, I128}
use Rattle.sval_label.specs.Tags.{IsTagName}
use Rattle.sval_label.specs.Ranges.{is_of_type}
use Rattle.sval_label.proofs.Decimals.{short_of_type}
use Rattle.sval_script.specs.Printed.{IsShortSize, IsPrintableLabel, IsPrintableIndex, IsPrintableName, IsPrintableCall, ArePrintable, or_dash_field, size_field, hex_field, tag_field, label_field, index_field, name_fields, type_word, words_of, line, printed}
use Rattle.sval_script.specs.Lines.{keep, signed_integer, or_dash, size, bytes, text, LineForm, complete, field_then, whole_number, find_form, call_among, cut_at, Good, lines_from}
use Rattle.sval_script.specs.Lines.{tag_named, label, index, name, record_part, tuple_part, record_tuple_part, forms, line_of, lines}
use Rattle.sval_script.proofs.Cut.{is_not, cut_first, cut-some, lines-first}
use Rattle.sval_script.proofs.PrintedFields.{integer-signed, clean-signed, all_weaker, cut_joined, clean_inner, inner_space, inner_feed, ReadsField, size-reads, bytes-reads, text-reads, tag-reads, or_dash_tag-reads, label-reads, index-reads, or_dash_label-reads, or_dash_index-reads, is_clean, is_inner}

-- ---- lines

field-reads : {A : Type 0} (read : List ℕ → Option A) (next : A → LineForm) (part : List ℕ) (x : A) (fields : List (List ℕ))
    → ReadsField read part x → field_then read next (part ∷ fields) ≡ next x fields
field-reads read next part x fields h = ap (option_and_then (λ y. next y fields)) h.as_value

name-reads : (next : Name → LineForm) (n : Name) (fields : List (List ℕ)) → IsPrintableName n → name next (name_fields n ++ fields) ≡ next n fields
name-reads next n fields h =
    field-reads (or_dash tag_named) (λ t. field_then (or_dash label) (λ l. field_then (or_dash index) (λ i. next (record { tag = t; label = l; index = i }))))
    (tag_field n.tag) n.tag (or_dash_field label_field n.label ∷ or_dash_field index_field n.index ∷ fields) (or_dash_tag-reads n.tag h.tag)
    ∙ field-reads (or_dash label) (λ l. field_then (or_dash index) (λ i. next (record { tag = n.tag; label = l; index = i })))
    (or_dash_field label_field n.label) n.label (or_dash_field index_field n.index ∷ fields) (or_dash_label-reads n.label h.label)
    ∙ field-reads (or_dash index) (λ i. next (record { tag = n.tag; label = n.label; index = i }))
    (or_dash_field index_field n.index) n.index fields (or_dash_index-reads n.index h.index)

abbrev are_inner : List (List ℕ) → Bool
are_inner fields = list_all (list_all is_inner) fields

name_inner : (n : Name) (fields : List (List ℕ)) → IsPrintableName n → are_inner fields ≡ true → are_inner (name_fields n ++ fields) ≡ true
name_inner n fields h k =
    rw ((or_dash_tag-reads n.tag h.tag).inner, (or_dash_label-reads n.label h.label).inner, (or_dash_index-reads n.index h.index).inner, k) refl

-- the words spell the call, and have neither a space nor a line feed
pub record Spell (words : List (List ℕ)) (call : Call) : Type 0 where
  as_call : call_among forms words ≡ Some call
  inner : are_inner words ≡ true

sized-spell : (word : List ℕ) (make : Option ℕ → Call) (n : Option ℕ) → IsShortSize n → list_all is_inner word ≡ true
    → find_form word forms ≡ Some (field_then size (λ k. complete (make k))) → Spell (word ∷ size_field n ∷ []) (make n)
sized-spell word make n h w e = record {
  as_call = ap (option_and_then (λ form. form (size_field n ∷ []))) e ∙ field-reads size (λ k. complete (make k)) (size_field n) n [] (size-reads n h);
  inner = rw (w, (size-reads n h).inner) refl;
}

named-spell : (word : List ℕ) (make : Name → Call) (n : Name) → IsPrintableName n → list_all is_inner word ≡ true
    → find_form word forms ≡ Some (name (λ m. complete (make m))) → Spell (word ∷ name_fields n) (make n)
named-spell word make n h w e = record {
  as_call = ap (option_and_then (λ form. form (name_fields n))) e ∙ name-reads (λ m. complete (make m)) n [] h;
  inner = rw (w, name_inner n [] h refl) refl;
}

head-spell : (word : List ℕ) (make : Name → Head) (n : Name) (s : Option ℕ) → IsPrintableName n → IsShortSize s → list_all is_inner word ≡ true
    → find_form word forms ≡ Some (name (λ m. field_then size (λ k. complete (Begin (make m) k)))) → Spell (word ∷ (name_fields n ++ (size_field s ∷ []))) (Begin (make n) s)
head-spell word make n s h k w e = record {
  as_call = ap (option_and_then (λ form. form (name_fields n ++ (size_field s ∷ [])))) e
      ∙ name-reads (λ m. field_then size (λ j. complete (Begin (make m) j))) n (size_field s ∷ []) h
      ∙ field-reads size (λ j. complete (Begin (make n) j)) (size_field s) s [] (size-reads s k);
  inner = let sized : are_inner (size_field s ∷ []) ≡ true = rw (size-reads s k).inner refl in rw (w, name_inner n (size_field s ∷ []) h sized) refl;
}

text-spell : (word : List ℕ) (make : List ℕ → Call) (xs : List ℕ) → is_utf8 xs ≡ true → list_all is_inner word ≡ true
    → find_form word forms ≡ Some (field_then text (λ t. complete (make t))) → Spell (word ∷ hex_field xs ∷ []) (make xs)
text-spell word make xs u w e = record {
  as_call = ap (option_and_then (λ form. form (hex_field xs ∷ []))) e ∙ field-reads text (λ t. complete (make t)) (hex_field xs) xs [] (text-reads xs u);
  inner = rw (w, (text-reads xs u).inner) refl;
}

bytes-spell : (word : List ℕ) (make : List ℕ → Call) (xs : List ℕ) → IsBytes xs → list_all is_inner word ≡ true
    → find_form word forms ≡ Some (field_then bytes (λ t. complete (make t))) → Spell (word ∷ hex_field xs ∷ []) (make xs)
bytes-spell word make xs h w e = record {
  as_call = ap (option_and_then (λ form. form (hex_field xs ∷ []))) e ∙ field-reads bytes (λ t. complete (make t)) (hex_field xs) xs [] (bytes-reads xs h);
  inner = rw (w, (bytes-reads xs h).inner) refl;
}

int-spell : (word : List ℕ) (type : IntType) (z : ℤ) → is_of_type type z ≡ true → list_all is_inner word ≡ true
    → find_form word forms ≡ Some (whole_number type) → Spell (word ∷ signed_decimal z ∷ []) (Int type z)
int-spell word type z h w e =
    let short = short_of_type type z h in
    let r : ReadsField (λ part. option_and_then (keep (is_of_type type)) (signed_integer part)) (signed_decimal z) z = record {
      as_value = ap (option_and_then (keep (is_of_type type))) (integer-signed z short) ∙ rw h refl;
      inner = all_weaker is_clean is_inner clean_inner (signed_decimal z) (clean-signed z short);
    } in
    record {
      as_call = ap (option_and_then (λ form. form (signed_decimal z ∷ []))) e ∙ field-reads _ (λ y. complete (Int type y)) (signed_decimal z) z [] r;
      inner = rw (w, r.inner) refl;
    }

int_spells : (type : IntType) (z : ℤ) → is_of_type type z ≡ true → Spell (type_word type ∷ signed_decimal z ∷ []) (Int type z)
unfolding forms
int_spells U8 z h = int-spell _ U8 z h refl refl
int_spells U16 z h = int-spell _ U16 z h refl refl
int_spells U32 z h = int-spell _ U32 z h refl refl
int_spells U64 z h = int-spell _ U64 z h refl refl
int_spells U128 z h = int-spell _ U128 z h refl refl
int_spells I8 z h = int-spell _ I8 z h refl refl
int_spells I16 z h = int-spell _ I16 z h refl refl
int_spells I32 z h = int-spell _ I32 z h refl refl
int_spells I64 z h = int-spell _ I64 z h refl refl
int_spells I128 z h = int-spell _ I128 z h refl refl

field-spell : (word : List ℕ) (make : Slot → Call) (t : Option Tag) (l : Label) → IsTagName t → IsPrintableLabel l → list_all is_inner word ≡ true
    → find_form word forms ≡ Some (record_part make) → Spell (word ∷ tag_field t ∷ label_field l ∷ []) (make (Field t l))
field-spell word make t l h k w e = record {
  as_call = ap (option_and_then (λ form. form (tag_field t ∷ label_field l ∷ []))) e
      ∙ field-reads (or_dash tag_named) (λ u. field_then label (λ m. complete (make (Field u m)))) (tag_field t) t (label_field l ∷ []) (or_dash_tag-reads t h)
      ∙ field-reads label (λ m. complete (make (Field t m))) (label_field l) l [] (label-reads l k).reads;
  inner = rw (w, (or_dash_tag-reads t h).inner, (label-reads l k).reads.inner) refl;
}

place-spell : (word : List ℕ) (make : Slot → Call) (t : Option Tag) (i : Index) → IsTagName t → IsPrintableIndex i → list_all is_inner word ≡ true
    → find_form word forms ≡ Some (tuple_part make) → Spell (word ∷ tag_field t ∷ index_field i ∷ []) (make (Place t i))
place-spell word make t i h k w e = record {
  as_call = ap (option_and_then (λ form. form (tag_field t ∷ index_field i ∷ []))) e
      ∙ field-reads (or_dash tag_named) (λ u. field_then index (λ j. complete (make (Place u j)))) (tag_field t) t (index_field i ∷ []) (or_dash_tag-reads t h)
      ∙ field-reads index (λ j. complete (make (Place t j))) (index_field i) i [] (index-reads i k).reads;
  inner = rw (w, (or_dash_tag-reads t h).inner, (index-reads i k).reads.inner) refl;
}

field_place-spell : (word : List ℕ) (make : Slot → Call) (t : Option Tag) (l : Label) (i : Index) → IsTagName t → IsPrintableLabel l → IsPrintableIndex i
    → list_all is_inner word ≡ true → find_form word forms ≡ Some (record_tuple_part make)
    → Spell (word ∷ tag_field t ∷ label_field l ∷ index_field i ∷ []) (make (FieldPlace t l i))
field_place-spell word make t l i h k j w e = record {
  as_call = ap (option_and_then (λ form. form (tag_field t ∷ label_field l ∷ index_field i ∷ []))) e
      ∙ field-reads (or_dash tag_named) (λ u. field_then label (λ m. field_then index (λ y. complete (make (FieldPlace u m y))))) (tag_field t) t (label_field l ∷ index_field i ∷ []) (or_dash_tag-reads t h)
      ∙ field-reads label (λ m. field_then index (λ y. complete (make (FieldPlace t m y)))) (label_field l) l (index_field i ∷ []) (label-reads l k).reads
      ∙ field-reads index (λ y. complete (make (FieldPlace t l y))) (index_field i) i [] (index-reads i j).reads;
  inner = rw (w, (or_dash_tag-reads t h).inner, (label-reads l k).reads.inner, (index-reads i j).reads.inner) refl;
}

-- the words of a printable call spell it
spells : (call : Call) → IsPrintableCall call → Spell (words_of call) call
unfolding forms
spells Null h = record { as_call = refl; inner = refl }
spells (Truth true) h = record { as_call = refl; inner = refl }
spells (Truth false) h = record { as_call = refl; inner = refl }
spells (Int type z) h = int_spells type z h
spells (Standalone n) h = named-spell _ Standalone n h refl refl
spells (TagHint t) h = record {
  as_call = field-reads tag_named (λ u. complete (TagHint u)) t t [] (tag-reads t h).reads;
  inner = rw (tag-reads t h).reads.inner refl;
}
spells (TextBegin n) h = sized-spell _ TextBegin n h refl refl
spells (TextFragment true xs) h = text-spell _ (TextFragment true) xs h refl refl
spells (TextFragment false xs) h = text-spell _ (TextFragment false) xs h refl refl
spells TextEnd h = record { as_call = refl; inner = refl }
spells (BinaryBegin n) h = sized-spell _ BinaryBegin n h refl refl
spells (BinaryFragment true xs) h = bytes-spell _ (BinaryFragment true) xs h refl refl
spells (BinaryFragment false xs) h = bytes-spell _ (BinaryFragment false) xs h refl refl
spells BinaryEnd h = record { as_call = refl; inner = refl }
spells (EnumBegin n) h = named-spell _ EnumBegin n h refl refl
spells (EnumEnd n) h = named-spell _ EnumEnd n h refl refl
spells (TaggedBegin n) h = named-spell _ TaggedBegin n h refl refl
spells (TaggedEnd n) h = named-spell _ TaggedEnd n h refl refl
spells (Begin Seq s) h = sized-spell _ (Begin Seq) s h.1 refl refl
spells (Begin Map s) h = sized-spell _ (Begin Map) s h.1 refl refl
spells (Begin (Record n) s) h = head-spell _ Record n s h.0 h.1 refl refl
spells (Begin (Tuple n) s) h = head-spell _ Tuple n s h.0 h.1 refl refl
spells (Begin (RecordTuple n) s) h = head-spell _ RecordTuple n s h.0 h.1 refl refl
spells (End Seq) h = record { as_call = refl; inner = refl }
spells (End Map) h = record { as_call = refl; inner = refl }
spells (End (Record n)) h = named-spell _ (λ m. End (Record m)) n h refl refl
spells (End (Tuple n)) h = named-spell _ (λ m. End (Tuple m)) n h refl refl
spells (End (RecordTuple n)) h = named-spell _ (λ m. End (RecordTuple m)) n h refl refl
spells (PartBegin Item) h = record { as_call = refl; inner = refl }
spells (PartBegin Key) h = record { as_call = refl; inner = refl }
spells (PartBegin Value) h = record { as_call = refl; inner = refl }
spells (PartBegin (Field t l)) h = field-spell _ PartBegin t l h.0 h.1 refl refl
spells (PartBegin (Place t i)) h = place-spell _ PartBegin t i h.0 h.1 refl refl
spells (PartBegin (FieldPlace t l i)) h = field_place-spell _ PartBegin t l i h.0 h.1 h.2 refl refl
spells (PartEnd Item) h = record { as_call = refl; inner = refl }
spells (PartEnd Key) h = record { as_call = refl; inner = refl }
spells (PartEnd Value) h = record { as_call = refl; inner = refl }
spells (PartEnd (Field t l)) h = field-spell _ PartEnd t l h.0 h.1 refl refl
spells (PartEnd (Place t i)) h = place-spell _ PartEnd t i h.0 h.1 refl refl
spells (PartEnd (FieldPlace t l i)) h = field_place-spell _ PartEnd t l i h.0 h.1 h.2 refl refl

all_lists_weaker : (p q : ℕ → Bool) → ((byte : ℕ) → p byte ≡ true → q byte ≡ true) → (xs : List (List ℕ))
    → list_all (list_all p) xs ≡ true → list_all (list_all q) xs ≡ true
all_lists_weaker p q weaker [] h = refl
all_lists_weaker p q weaker (x ∷ xs) h =
    let (a, b) = and_parts (list_all p x) (list_all (list_all p) xs) h in
    rw (all_weaker p q weaker x a, all_lists_weaker p q weaker xs b) refl

line-spelled : (words : List (List ℕ)) (call : Call) → Spell words call → call_among forms (cut_at 32 (join_with_byte 32 words)) ≡ Some call
line-spelled [] call s = cc s.as_call
line-spelled (first ∷ rest) call s =
    ap (call_among forms) (cut_joined 32 first rest (all_lists_weaker is_inner (is_not 32) inner_space (first ∷ rest) s.inner)) ∙ s.as_call

-- a printed call reads back
pub line_of-line : (call : Call) → IsPrintableCall call → line_of (line call) ≡ Some call
unfolding line_of line
line_of-line call h = line-spelled (words_of call) call (spells call h)

joined_without_feed : (words : List (List ℕ)) → list_all (list_all (is_not 10)) words ≡ true → list_all (is_not 10) (join_with_byte 32 words) ≡ true
joined_without_feed [] h = refl
joined_without_feed (first ∷ []) h = (and_parts (list_all (is_not 10) first) true h).0
joined_without_feed (first ∷ next ∷ rest) h =
    let (a, b) = and_parts (list_all (is_not 10) first) (list_all (list_all (is_not 10)) (next ∷ rest)) h in
    list_all-append (is_not 10) first (32 ∷ join_with_byte 32 (next ∷ rest)) ∙ rw (a, joined_without_feed (next ∷ rest) b) refl

line_without_feed : (call : Call) → IsPrintableCall call → list_all (is_not 10) (line call) ≡ true
unfolding line
line_without_feed call h = joined_without_feed (words_of call) (all_lists_weaker is_inner (is_not 10) inner_feed (words_of call) (spells call h).inner)

printed-from : (n : ℕ) (calls : List Call) → ArePrintable calls → lines_from line_of n (cut_at 10 (printed calls)) ≡ Good calls
unfolding printed
printed-from n [] h = refl
printed-from n (call ∷ calls) h =
    let (next, more, e) = cut-some 10 (printed calls) in
    let after = printed-from (n + 1) calls h.1 in
    ap (lines_from line_of n) (ap (cut_at 10) (append_assoc (line call) (10 ∷ []) (printed calls)) ∙ cut_first 10 (line call) (printed calls) (line_without_feed call h.0))
    ∙ lines-first line_of n (line call) next (cut_at 10 (printed calls)) more e
    ∙ rw (line_of-line call h.0, after) refl

-- printed calls read back as these calls
pub lines-printed : (calls : List Call) → ArePrintable calls → lines (printed calls) ≡ Good calls
unfolding lines
lines-printed calls h = printed-from 1 calls h
