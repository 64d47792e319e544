-- A line that is written piece by piece.
use Rattle.std.specs.Prelude.{◌≡◌, ◌⊎◌, ℕ, ◌-◌, ◌/◌, ◌%◌, true, false, List, [], ◌∷◌, ◌++◌, Option, Some, Result, Ok, Err, length, slice_index, take, drop, refl}
use Rattle.std.specs.List.{join_with_byte}
use Rattle.std.proofs.Common.{sym, ap, ◌∙◌, subst, inl, inr, append_assoc, append-nil}
use Rattle.std.proofs.lemmas.List.{take-append-drop, take_rest}
use Rattle.hex.specs.Hex.{encode_with, encode_lower, lower_digits}
use Rattle.sval_label.specs.Calls.{Call, Head, Tag}
use Rattle.sval_label.specs.Calls.{Null, Truth, Int, Standalone, TagHint, TextBegin, TextFragment, TextEnd, BinaryBegin, BinaryFragment, BinaryEnd, EnumBegin, EnumEnd, TaggedBegin, TaggedEnd, Begin, End, PartBegin, PartEnd}
use Rattle.sval_label.specs.Calls.{Seq, Map, Record, Tuple, RecordTuple}
use Rattle.sval_label.specs.declared.grouped.Head as made
use Rattle.sval_label.specs.declared.grouped.Head.TheVariants as made_head
use Rattle.sval_label.specs.Grouped.{seen_head}
use Rattle.sval_io.specs.declared.sink.SinkError.{SinkError}
use Rattle.sval_io.specs.Filled.{Filled, filled_told}
use Rattle.sval_io.specs.Sinks.{Told, WritesWhole, WritesFront, WritesAll}
use Rattle.sval_io.proofs.Appending.{writes_nothing, writes_both, stops_after}
use Rattle.sval_script.specs.Printed.{size_field, hint_text, name_fields, words_of, line}
use Rattle.sval_script.specs.Printing.{spaced, word_of, fields_of, whole_line}

-- ---- two pieces

pub stops_first : {old new : Told} {why : SinkError} {all : List ℕ} (xs ys : List ℕ) → all ≡ xs ++ ys → WritesFront why old xs new → WritesFront why old all new
stops_first {old} xs ys e f = stops_after [] xs ys (writes_nothing old) e f

pub goes_on : {old mid : Told} (new : Told) (r : Result (Unit {0}) SinkError) {all : List ℕ} (xs ys : List ℕ) → all ≡ xs ++ ys → WritesWhole old xs mid → WritesAll r mid ys new → WritesAll r old all new
goes_on {old} new (Ok done) xs ys e w v = subst (λ all. WritesWhole old all new) (sym e) (writes_both xs ys w v)
goes_on new (Err why) xs ys e w v = stops_after xs ys [] w (e ∙ ap (λ more. xs ++ more) (sym (append-nil ys))) v

-- what an empty buffer has taken is all that it has
pub joined_is : (old new : Filled) (bytes : List ℕ) → old.bytes ≡ [] → WritesWhole (filled_told old) bytes (filled_told new) → new.bytes ≡ bytes
joined_is old new bytes e w =
    let told : Some new.bytes ≡ Some (old.bytes ++ bytes) = w.appends.text in
    let same : new.bytes ≡ old.bytes ++ bytes = cc told in
    same ∙ ap (λ taken. taken ++ bytes) e

-- ---- fields and words

pub spaced-append : (xs ys : List (List ℕ)) → spaced (xs ++ ys) ≡ spaced xs ++ spaced ys
spaced-append [] ys = refl
spaced-append (x ∷ xs) ys = ap (λ more. 32 ∷ (x ++ more)) (spaced-append xs ys) ∙ ap (λ more. 32 ∷ more) (sym (append_assoc x (spaced xs) (spaced ys)))

-- a field by its two parts
pub spaced-parts : (front back : List ℕ) → spaced ((front ++ back) ∷ []) ≡ spaced (front ∷ []) ++ back
spaced-parts front back = ap (λ more. 32 ∷ more) (append-nil (front ++ back) ∙ ap (λ more. more ++ back) (sym (append-nil front)))

-- a field by its front, which is this piece, and its hint
pub hinted : (front piece : List ℕ) (tag other : Option Tag) → piece ≡ front → other ≡ tag → spaced ((front ++ hint_text tag) ∷ []) ≡ spaced (piece ∷ []) ++ hint_text other
hinted front piece tag other e f =
    spaced-parts front (hint_text tag) ∙ ap (λ front. spaced (front ∷ []) ++ hint_text tag) (sym e) ∙ ap (λ tag. spaced (piece ∷ []) ++ hint_text tag) (sym f)

joined : (word : List ℕ) (fields : List (List ℕ)) → join_with_byte 32 (word ∷ fields) ≡ word ++ spaced fields
joined word [] = sym (append-nil word)
joined word (field ∷ fields) = ap (λ more. word ++ (32 ∷ more)) (joined field fields)

words_split : (call : Call) → words_of call ≡ word_of call ∷ fields_of call
words_split Null = refl
words_split (Truth b) = refl
words_split (Int type z) = refl
words_split (Standalone n) = refl
words_split (TagHint t) = refl
words_split (TextBegin n) = refl
words_split (TextFragment true xs) = refl
words_split (TextFragment false xs) = refl
words_split TextEnd = refl
words_split (BinaryBegin n) = refl
words_split (BinaryFragment true xs) = refl
words_split (BinaryFragment false xs) = refl
words_split BinaryEnd = refl
words_split (EnumBegin n) = refl
words_split (EnumEnd n) = refl
words_split (TaggedBegin n) = refl
words_split (TaggedEnd n) = refl
words_split (Begin Seq n) = refl
words_split (Begin Map n) = refl
words_split (Begin (Record name) n) = refl
words_split (Begin (Tuple name) n) = refl
words_split (Begin (RecordTuple name) n) = refl
words_split (End Seq) = refl
words_split (End Map) = refl
words_split (End (Record name)) = refl
words_split (End (Tuple name)) = refl
words_split (End (RecordTuple name)) = refl
words_split (PartBegin slot) = refl
words_split (PartEnd slot) = refl

-- a line by its word, which is this piece, its fields and its line feed
pub line_split : (call : Call) (piece : List ℕ) → piece ≡ word_of call → whole_line call ≡ piece ++ (spaced (fields_of call) ++ (10 ∷ []))
unfolding line
line_split call piece e =
    ap (λ words. join_with_byte 32 words ++ (10 ∷ [])) (words_split call) ∙ ap (λ whole. whole ++ (10 ∷ [])) (joined (word_of call) (fields_of call))
    ∙ append_assoc (word_of call) (spaced (fields_of call)) (10 ∷ []) ∙ ap (λ word. word ++ (spaced (fields_of call) ++ (10 ∷ []))) (sym e)

-- a container without a name has no fields
pub unnamed : (told : Told) (head : made.Head) → (head ≡ made_head.Seq) ⊎ (head ≡ made_head.Map) → WritesWhole told (spaced (fields_of (End (seen_head head)))) told
unnamed told head (inl e) = rw e (writes_nothing told)
unnamed told head (inr e) = rw e (writes_nothing told)

-- the fields of a container's begin are those of its end, and its size
pub begin_split : (head : Head) (size : Option ℕ) → spaced (fields_of (Begin head size)) ≡ spaced (fields_of (End head)) ++ spaced (size_field size ∷ [])
begin_split Seq size = refl
begin_split Map size = refl
begin_split (Record name) size = spaced-append (name_fields name) (size_field size ∷ [])
begin_split (Tuple name) size = spaced-append (name_fields name) (size_field size ∷ [])
begin_split (RecordTuple name) size = spaced-append (name_fields name) (size_field size ∷ [])

-- ---- hex digits

encode-append : (xs ys : List ℕ) → encode_lower (xs ++ ys) ≡ encode_lower xs ++ encode_lower ys
unfolding encode_with
encode-append [] ys = refl
encode-append (x ∷ xs) ys = ap (λ more. slice_index lower_digits (x / 16) ∷ slice_index lower_digits (x % 16) ∷ more) (encode-append xs ys)

-- the digits of the rest are due
pub record AreDue (all : List ℕ) (begun : Told) (rest : List ℕ) (now : Told) : Type 0 where
  pub rest_of : (r : Result (Unit {0}) SinkError) (new : Told) → WritesAll r now (encode_lower rest) new → WritesAll r begun (encode_lower all) new

split_at : (n : ℕ) (rest : List ℕ) → encode_lower rest ≡ encode_lower (take n rest) ++ encode_lower (drop n rest)
split_at n rest = ap encode_lower (sym (take-append-drop n rest)) ∙ encode-append (take n rest) (drop n rest)

pub piece_done : {all : List ℕ} {begun mid now : Told} (n : ℕ) (rest : List ℕ) → AreDue all begun rest mid → WritesWhole mid (encode_lower (take n rest)) now
    → AreDue all begun (take (length rest - n) (drop n rest)) now
piece_done {all} {begun} {now = now} n rest due w =
    let after : AreDue all begun (drop n rest) now = record {
      rest_of = λ r new more. due.rest_of r new (goes_on new r (encode_lower (take n rest)) (encode_lower (drop n rest)) (split_at n rest) w more);
    } in
    subst (λ rest. AreDue all begun rest now) (sym (take_rest rest n)) after

pub piece_stopped : {all : List ℕ} {begun mid new : Told} {why : SinkError} (n : ℕ) (rest : List ℕ) → AreDue all begun rest mid → WritesFront why mid (encode_lower (take n rest)) new → WritesFront why begun (encode_lower all) new
piece_stopped {new = new} {why = why} n rest due w = due.rest_of (Err why) new (stops_first (encode_lower (take n rest)) (encode_lower (drop n rest)) (split_at n rest) w)
