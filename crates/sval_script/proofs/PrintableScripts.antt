-- The calls of a script can be printed, and hold no more bytes of texts and binaries than the script has.
use Rattle.std.specs.Prelude.{◌≡◌, ℕ, suc, ◌+◌, ◌<◌, ◌≤◌, ◌^◌, ◌==◌, nat_lt, Bool, true, false, cond, if◌then◌else◌, List, [], ◌∷◌, length, map, Option, Some, None, option_map, option_and_then, IfSome, Result, Ok, Err, bytes_eq, codes, ⊤, refl}
use Rattle.std.specs.List.{onto_first}
use Rattle.std.specs.Result.{result_ok}
use Rattle.std.specs.Str.{is_utf8}
use Rattle.std.proofs.Common.{arith, subst, sym}
use Rattle.std.proofs.lemmas.Bool.Decides.{nat_tests}
use Rattle.hex.specs.Hex.{decode_of, IsBytes}
use Rattle.hex.specs.declared.error.FromHexError.{FromHexError}
use Rattle.hex.proofs.HexLemmas.{decode_of-ok}
use Rattle.sval_label.specs.Calls as call
use Rattle.sval_label.specs.Calls.{Call, IntType, Slot, Name, Tag}
use Rattle.sval_label.specs.Tags.{is_tag_name, IsTagName}
use Rattle.sval_label.specs.Ranges.{is_of_type, is_index}
use Rattle.sval_script.specs.Lines.{cut_at, keep, signed_integer, natural, whole_number_of, or_dash, size, bytes, text, truth, tag_named, tagged_parts, label, index, LineForm, complete, field_then, name, forms, find_form, call_of_fields, line_of, Lines, Good, Bad, with_call, lines_from, lines}
use Rattle.sval_script.specs.Printed.{IsShortSize, IsPrintableLabel, IsPrintableIndex, IsPrintableName, IsPrintableSlot, IsPrintableCall, ArePrintable}
use Rattle.sval_script.specs.declared.word.Word.{Word}
use Rattle.sval_script.specs.declared.word.Word.TheVariants as word
use Rattle.sval_script.specs.declared.word.Alone.{Alone}
use Rattle.sval_script.specs.declared.word.Alone.TheVariants as alone
use Rattle.sval_script.specs.declared.word.Opening.{Opening}
use Rattle.sval_script.specs.declared.word.Opening.TheVariants as opening
use Rattle.sval_script.specs.declared.word.Named.{Named}
use Rattle.sval_script.specs.declared.word.Named.TheVariants as named
use Rattle.sval_script.specs.declared.word.NamedOpening.{NamedOpening}
use Rattle.sval_script.specs.declared.word.NamedOpening.TheVariants as named_opening
use Rattle.sval_script.specs.declared.word.Side.{Side}
use Rattle.sval_script.specs.declared.word.Side.TheVariants as side
use Rattle.sval_script.specs.Words.{type_of, is_kept, alone_call, opening_call, word_call, head_of, part_call, form_of_word, word_table}

-- the bytes of texts and binaries that a call holds, and that calls hold
abbrev pub held : Call → ℕ
held (call.TextFragment borrowed text) = length text
held (call.BinaryFragment borrowed bytes) = length bytes
held c = 0

abbrev pub all_held : List Call → ℕ
all_held [] = 0
all_held (c ∷ cs) = held c + all_held cs

abbrev lengths : List (List ℕ) → ℕ
lengths [] = 0
lengths (part ∷ parts) = length part + lengths parts

-- ---- what is made of a value, if there is one

module _ {A B : Type 0} (P : A → Type 0) (Q : B → Type 0) where
  if_then : (f : A → Option B) (o : Option A) → IfSome o P → ((x : A) → P x → IfSome (f x) Q) → IfSome (option_and_then f o) Q
  if_then f None h k = tt
  if_then f (Some x) h k = k x h

  if_mapped : (f : A → B) (o : Option A) → IfSome o P → ((x : A) → P x → Q (f x)) → IfSome (option_map f o) Q
  if_mapped f None h k = tt
  if_mapped f (Some x) h k = k x h

if_so : {A : Type 0} (P Q : A → Type 0) (o : Option A) → IfSome o P → ((x : A) → P x → Q x) → IfSome o Q
if_so P Q None h k = tt
if_so P Q (Some x) h k = k x h

abbrev Anything : {A : Type 0} → A → Type 0
Anything x = ⊤

anything : {A : Type 0} (o : Option A) → IfSome o Anything
anything None = tt
anything (Some x) = tt

-- what is kept passes the test
kept : {A : Type 0} (Q : A → Type 0) (test : A → Bool) (x : A) → (test x ≡ true → Q x) → IfSome (keep test x) Q
kept Q test x h = go (test x) refl
  where
    go : (b : Bool) → test x ≡ b → IfSome (if b then Some x else None) Q
    go true is = h is
    go false is = tt

if_kept : {A : Type 0} (P : A → Type 0) (test : A → Bool) (o : Option A) → ((x : A) → test x ≡ true → P x) → IfSome (option_and_then (keep test) o) P
if_kept P test o h = if_then Anything P (keep test) o (anything o) (λ x k. kept P test x (h x))

-- ---- fields

-- what is read of each field is so
abbrev Reads : {A : Type 0} → (List ℕ → Option A) → (A → Type 0) → Type 0
Reads read P = (part : List ℕ) → IfSome (read part) P

or_dash_reads : {A : Type 0} (P : A → Type 0) (read : List ℕ → Option A) → Reads read P → Reads (or_dash read) (λ o. IfSome o P)
or_dash_reads P read h part = go (bytes_eq part (codes "-"))
  where
    go : (b : Bool) → IfSome (if b then Some None else option_map Some (read part)) (λ o. IfSome o P)
    go true = tt
    go false = if_mapped P (λ o. IfSome o P) Some (read part) (h part) (λ x k. k)

less : (m n : ℕ) → nat_lt m n ≡ true → m < n
less m n h = grind (arith, nat_tests)

size_reads : Reads size IsShortSize
size_reads =
    or_dash_reads (λ n. n < 2 ^ 64) _ (λ part. if_kept (λ n. n < 2 ^ 64) (λ n. nat_lt n (2 ^ 64)) (natural part) (λ n is. less n (2 ^ 64) is))

whole_number_reads : (type : IntType) → Reads (whole_number_of type) (λ z. is_of_type type z ≡ true)
whole_number_reads type part = if_kept (λ z. is_of_type type z ≡ true) (is_of_type type) (signed_integer part) (λ z is. is)

-- bytes take two digits each
abbrev AreRead : List ℕ → List ℕ → Type 0
AreRead part content = IsBytes content × (length content ≤ length part)

bytes_read : (part : List ℕ) → IfSome (bytes part) (AreRead part)
bytes_read [] = tt
bytes_read (first ∷ digits) = go (first == 61) (decode_of digits) refl
  where
    go : (b : Bool) (decoded : Result (List ℕ) FromHexError) → decode_of digits ≡ decoded → IfSome (if b then result_ok decoded else None) (AreRead (first ∷ digits))
    go true (Ok content) is = let ok = decode_of-ok digits content is in (ok.3, omega (arith, ok.2))
    go true (Err why) is = tt
    go false decoded is = tt

abbrev IsTextRead : List ℕ → List ℕ → Type 0
IsTextRead part content = (is_utf8 content ≡ true) × (length content ≤ length part)

text_read : (part : List ℕ) → IfSome (text part) (IsTextRead part)
text_read part = if_then (AreRead part) (IsTextRead part) (keep is_utf8) (bytes part) (bytes_read part) (λ content h. kept (IsTextRead part) is_utf8 content (λ is. (is, h.1)))

tag_reads : Reads tag_named (λ t. is_tag_name t ≡ true)
tag_reads part = kept (λ t. is_tag_name t ≡ true) is_tag_name part (λ is. is)

tagged_parts_read : {A B : Type 0} (P : A → Type 0) (Q : B → Type 0) (read : List ℕ → Option A) (make : A → Option Tag → B)
    → Reads read P → ((x : A) (hint : Option Tag) → P x → IsTagName hint → Q (make x hint)) → (parts : List (List ℕ)) → IfSome (tagged_parts read make parts) Q
tagged_parts_read P Q read make r m [] = tt
tagged_parts_read P Q read make r m (part ∷ []) = if_mapped P Q (λ x. make x None) (read part) (r part) (λ x h. m x None h tt)
tagged_parts_read P Q read make r m (part ∷ hint ∷ []) =
    if_then P Q (λ x. option_map (λ t. make x (Some t)) (tag_named hint)) (read part) (r part)
    (λ x h. if_mapped (λ t. is_tag_name t ≡ true) Q (λ t. make x (Some t)) (tag_named hint) (tag_reads hint) (λ t k. m x (Some t) h k))
tagged_parts_read P Q read make r m (part ∷ hint ∷ other ∷ more) = tt

label_reads : Reads label IsPrintableLabel
label_reads part =
    tagged_parts_read (λ t. is_utf8 t ≡ true) IsPrintableLabel text (λ t hint. record { text = t; tag = hint; is_static = false })
    (λ first. if_so (IsTextRead first) (λ t. is_utf8 t ≡ true) (text first) (text_read first) (λ t h. h.0)) (λ t hint h k. record { utf8 = h; hint = k; not_static = refl })
    (cut_at 58 part)

index_reads : Reads index IsPrintableIndex
index_reads part =
    tagged_parts_read (λ z. is_index z ≡ true) IsPrintableIndex _ (λ z hint. record { number = z; tag = hint }) read (λ z hint h k. record { range = h; hint = k })
    (cut_at 58 part)
  where
    read : Reads (λ part. option_and_then (keep is_index) (signed_integer part)) (λ z. is_index z ≡ true)
    read part = if_kept (λ z. is_index z ≡ true) is_index (signed_integer part) (λ z is. is)

-- ---- forms of lines

-- a call that can be printed, and holds at most so many bytes
abbrev IsCallWithin : ℕ → Call → Type 0
IsCallWithin bytes c = IsPrintableCall c × (held c ≤ bytes)

-- each call that fields make is one, and holds no more bytes than they have
abbrev IsPrintedForm : LineForm → Type 0
IsPrintedForm form = (fields : List (List ℕ)) → IfSome (form fields) (IsCallWithin (lengths fields))

complete_form : (c : Call) → IsPrintableCall c → held c ≡ 0 → IsPrintedForm (complete c)
complete_form c h e [] = (h, omega (arith, e))
complete_form c h e (field_then ∷ fields) = tt

field_form : {A : Type 0} (P : A → Type 0) (read : List ℕ → Option A) (next : A → LineForm) → Reads read P → ((x : A) → P x → IsPrintedForm (next x)) → IsPrintedForm (field_then read next)
field_form P read next r n [] = tt
field_form P read next r n (first ∷ fields) =
    if_then P (IsCallWithin (lengths (first ∷ fields))) (λ x. next x fields) (read first) (r first)
    (λ x h. if_so (IsCallWithin (lengths fields)) (IsCallWithin (lengths (first ∷ fields))) (next x fields) (n x h fields) (λ c k. (k.0, omega (arith, k.1))))

-- a fragment holds what its one field spells
fragment_form : (P : List ℕ → List ℕ → Type 0) (read : List ℕ → Option (List ℕ)) (make : List ℕ → Call)
    → ((part : List ℕ) → IfSome (read part) (P part)) → ((part content : List ℕ) → P part content → IsCallWithin (length part) (make content))
    → IsPrintedForm (field_then read (λ content. complete (make content)))
fragment_form P read make r m [] = tt
fragment_form P read make r m (part ∷ []) =
    if_then (P part) (IsCallWithin (lengths (part ∷ []))) (λ content. Some (make content)) (read part) (r part)
    (λ content h. let k = m part content h in (k.0, omega (arith, k.1)))
fragment_form P read make r m (part ∷ other ∷ more) =
    if_then (P part) (IsCallWithin (lengths (part ∷ other ∷ more))) (λ content. None) (read part) (r part) (λ content h. tt)

name_form : (next : Name → LineForm) → ((n : Name) → IsPrintableName n → IsPrintedForm (next n)) → IsPrintedForm (name next)
name_form next n =
    field_form IsTagName (or_dash tag_named) _ (or_dash_reads (λ t. is_tag_name t ≡ true) tag_named tag_reads)
    (λ t g. field_form (λ l. IfSome l IsPrintableLabel) (or_dash label) _ (or_dash_reads IsPrintableLabel label label_reads)
    (λ l h. field_form (λ i. IfSome i IsPrintableIndex) (or_dash index) _ (or_dash_reads IsPrintableIndex index index_reads)
    (λ i k. n (record { tag = t; label = l; index = i }) (record { tag = g; label = h; index = k }))))

-- the parts of records and tuples
slot_form : (s : Side) (slot : Slot) → IsPrintableSlot slot → IsPrintedForm (complete (part_call s slot))
slot_form side.Begin slot h = complete_form (call.PartBegin slot) h refl
slot_form side.End slot h = complete_form (call.PartEnd slot) h refl

alone_form : (w : Alone) → IsPrintedForm (complete (alone_call w))
alone_form alone.Null = complete_form call.Null tt refl
alone_form alone.TextEnd = complete_form call.TextEnd tt refl
alone_form alone.BinaryEnd = complete_form call.BinaryEnd tt refl
alone_form alone.MapKeyBegin = slot_form side.Begin call.Key tt
alone_form alone.MapKeyEnd = slot_form side.End call.Key tt
alone_form alone.MapValueBegin = slot_form side.Begin call.Value tt
alone_form alone.MapValueEnd = slot_form side.End call.Value tt
alone_form alone.MapEnd = complete_form (call.End call.Map) tt refl
alone_form alone.SeqValueBegin = slot_form side.Begin call.Item tt
alone_form alone.SeqValueEnd = slot_form side.End call.Item tt
alone_form alone.SeqEnd = complete_form (call.End call.Seq) tt refl

opening_form : (w : Opening) (n : Option ℕ) → IsShortSize n → IsPrintedForm (complete (opening_call w n))
opening_form opening.TextBegin n h = complete_form (call.TextBegin n) h refl
opening_form opening.BinaryBegin n h = complete_form (call.BinaryBegin n) h refl
opening_form opening.MapBegin n h = complete_form (call.Begin call.Map n) (tt, h) refl
opening_form opening.SeqBegin n h = complete_form (call.Begin call.Seq n) (tt, h) refl

named_form : (w : Named) (n : Name) → IsPrintableName n → IsPrintedForm (complete (word_call w n))
named_form named.EnumBegin n h = complete_form (call.EnumBegin n) h refl
named_form named.EnumEnd n h = complete_form (call.EnumEnd n) h refl
named_form named.TaggedBegin n h = complete_form (call.TaggedBegin n) h refl
named_form named.TaggedEnd n h = complete_form (call.TaggedEnd n) h refl
named_form named.Tag n h = complete_form (call.Standalone n) h refl
named_form named.RecordEnd n h = complete_form (call.End (call.Record n)) h refl
named_form named.TupleEnd n h = complete_form (call.End (call.Tuple n)) h refl
named_form named.RecordTupleEnd n h = complete_form (call.End (call.RecordTuple n)) h refl

named_opening_form : (w : NamedOpening) (n : Name) (s : Option ℕ) → IsPrintableName n → IsShortSize s → IsPrintedForm (complete (call.Begin (head_of w n) s))
named_opening_form named_opening.RecordBegin n s h k = complete_form (call.Begin (call.Record n) s) (h, k) refl
named_opening_form named_opening.TupleBegin n s h k = complete_form (call.Begin (call.Tuple n) s) (h, k) refl
named_opening_form named_opening.RecordTupleBegin n s h k = complete_form (call.Begin (call.RecordTuple n) s) (h, k) refl

word_form : (w : Word) → IsPrintedForm (form_of_word w)
word_form (word.Alone w) = alone_form w
word_form word.Bool = field_form Anything truth _ (λ part. anything (truth part)) (λ b h. complete_form (call.Truth b) tt refl)
word_form (word.Number type) =
    field_form (λ z. is_of_type (type_of type) z ≡ true) (whole_number_of (type_of type)) _ (whole_number_reads (type_of type))
    (λ z h. complete_form (call.Int (type_of type) z) h refl)
word_form (word.Opening w) = field_form IsShortSize size _ size_reads (opening_form w)
word_form (word.TextFragment life) = fragment_form IsTextRead text (call.TextFragment (is_kept life)) text_read (λ part content h. h)
word_form (word.BinaryFragment life) = fragment_form AreRead bytes (call.BinaryFragment (is_kept life)) bytes_read (λ part content h. h)
word_form (word.Named w) = name_form _ (named_form w)
word_form word.TagHint = field_form (λ t. is_tag_name t ≡ true) tag_named _ tag_reads (λ t h. complete_form (call.TagHint t) h refl)
word_form (word.NamedOpening w) = name_form _ (λ n h. field_form IsShortSize size _ size_reads (λ s k. named_opening_form w n s h k))
word_form (word.Field s) =
    field_form IsTagName (or_dash tag_named) _ (or_dash_reads (λ t. is_tag_name t ≡ true) tag_named tag_reads)
    (λ t g. field_form IsPrintableLabel label _ label_reads (λ l h. slot_form s (call.Field t l) (g, h)))
word_form (word.Place s) =
    field_form IsTagName (or_dash tag_named) _ (or_dash_reads (λ t. is_tag_name t ≡ true) tag_named tag_reads)
    (λ t g. field_form IsPrintableIndex index _ index_reads (λ i h. slot_form s (call.Place t i) (g, h)))
word_form (word.FieldPlace s) =
    field_form IsTagName (or_dash tag_named) _ (or_dash_reads (λ t. is_tag_name t ≡ true) tag_named tag_reads)
    (λ t g. field_form IsPrintableLabel label _ label_reads
    (λ l h. field_form IsPrintableIndex index _ index_reads (λ i k. slot_form s (call.FieldPlace t l i) (g, h, k))))

-- ---- lines

-- each word's text with its form
abbrev forms_of : List (List ℕ × Word) → List (List ℕ × LineForm)
forms_of = map (λ row. (row.0, form_of_word row.1))

forms_from_words : forms ≡ forms_of word_table
unfolding forms
forms_from_words = refl

found_form : (text : List ℕ) (rows : List (List ℕ × Word)) → IfSome (find_form text (forms_of rows)) IsPrintedForm
found_form text [] = tt
found_form text (row ∷ rows) = go (bytes_eq text row.0) (found_form text rows)
  where
    go : (b : Bool) → IfSome (find_form text (forms_of rows)) IsPrintedForm → IfSome (if b then Some (form_of_word row.1) else find_form text (forms_of rows)) IsPrintedForm
    go true later = word_form row.1
    go false later = later

fields_call : (fields : List (List ℕ)) → IfSome (call_of_fields fields) (IsCallWithin (lengths fields))
fields_call [] = tt
fields_call (text ∷ fields) =
    if_then IsPrintedForm (IsCallWithin (lengths (text ∷ fields))) (λ form. form fields) (find_form text forms)
    (subst (λ rows. IfSome (find_form text rows) IsPrintedForm) (sym forms_from_words) (found_form text word_table))
    (λ form h. if_so (IsCallWithin (lengths fields)) (IsCallWithin (lengths (text ∷ fields))) (form fields) (h fields) (λ c k. (k.0, omega (arith, k.1))))

-- parts that are cut have no more bytes than the whole
cut_lengths : (byte : ℕ) (xs : List ℕ) → lengths (cut_at byte xs) ≤ length xs
cut_lengths byte [] = omega arith
cut_lengths byte (x ∷ xs) = go (x == byte) (cut_at byte xs) (cut_lengths byte xs)
  where
    go : (b : Bool) (parts : List (List ℕ)) → lengths parts ≤ length xs → lengths (cond b ([] ∷ parts) (onto_first x parts)) ≤ suc (length xs)
    go true parts h = omega (arith, h)
    go false [] h = omega arith
    go false (part ∷ parts) h = omega (arith, h)

line_call : (line : List ℕ) → IfSome (line_of line) (IsCallWithin (length line))
unfolding line_of
line_call line =
    if_so (IsCallWithin (lengths (cut_at 32 line))) (IsCallWithin (length line)) (call_of_fields (cut_at 32 line)) (fields_call (cut_at 32 line))
    (λ c k. (k.0, omega (arith, k.1, cut_lengths 32 line)))

-- ---- scripts

-- calls that can be printed, and hold at most so many bytes
abbrev pub AreWithin : ℕ → List Call → Type 0
AreWithin bytes calls = ArePrintable calls × (all_held calls ≤ bytes)

abbrev AreLinesWithin : ℕ → Lines → Type 0
AreLinesWithin bytes (Good calls) = AreWithin bytes calls
AreLinesWithin bytes (Bad n) = ⊤

in_front : (n first more : ℕ) (c : Option Call) (after : Lines) → IfSome c (IsCallWithin first) → AreLinesWithin more after → AreLinesWithin (first + more) (with_call n c after)
in_front n first more None after h k = tt
in_front n first more (Some c) (Good calls) h k = ((h.0, k.0), omega (arith, h.1, k.1))
in_front n first more (Some c) (Bad m) h k = tt

lines_within : (n : ℕ) (parts : List (List ℕ)) → AreLinesWithin (lengths parts) (lines_from line_of n parts)
lines_within n [] = (tt, omega arith)
lines_within n ([] ∷ []) = (tt, omega arith)
lines_within n ((byte ∷ rest) ∷ []) = tt
lines_within n (line ∷ next ∷ more) = in_front n (length line) (lengths (next ∷ more)) (line_of line) (lines_from line_of (n + 1) (next ∷ more)) (line_call line) (lines_within (n + 1) (next ∷ more))

-- the calls of a script can be printed, and hold no more bytes than it has
pub script_calls : (script : List ℕ) (calls : List Call) → lines script ≡ Good calls → AreWithin (length script) calls
unfolding lines
script_calls script calls e =
    let cut : AreWithin (lengths (cut_at 10 script)) calls = subst (AreLinesWithin (lengths (cut_at 10 script))) e (lines_within 1 (cut_at 10 script)) in
    (cut.0, omega (arith, cut.1, cut_lengths 10 script))
