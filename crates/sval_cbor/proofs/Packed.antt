-- What the shapes are made of that trees pack to: whole numbers of 128 bits, and short texts that are UTF-8.
use Rattle.std.specs.Prelude.{◌≡◌, ℕ, suc, ◌+◌, ◌^◌, ◌<◌, ◌≤◌, ◌⊎◌, ℤ, pos, negsuc, Bool, true, false, cond, ◌||◌, ◌==◌, bytes_eq, if◌then◌else◌, List, [], ◌∷◌, length, Option, Some, None, IfSome, Result, Ok, Err, codes, decimal, IsUtf8, ⊤, refl}
use Rattle.std.specs.List.{AllByRecursion}
use Rattle.std.specs.Fmt.{signed_decimal}
use Rattle.std.specs.Str.Parse.{signed_digits_value}
use Rattle.std.proofs.Common.{sym, ap, ◌∙◌, subst, arith, inl, inr, length-append}
use Rattle.std.proofs.lemmas.Bool.{and_parts}
use Rattle.std.proofs.lemmas.Bool.Decides.{nat_tests}
use Rattle.std.proofs.lemmas.Fmt.{length-decimal-le_wide}
use Rattle.sval_label.specs.Texts.{is_empty, truth_text}
use Rattle.sval_label.specs.Ranges.{is_unsigned, is_signed, is_of_type}
use Rattle.sval_label.specs.Calls.{Head, Slot, Name, Label, Index, IntType, U8, U16, U32, U64, U128, I8, I16, I32, I64, I128}
use Rattle.sval_label.proofs.Decimals.{IsShort as IsShortNumber, short_of_type}
use Rattle.sval_core.specs.Trees.{Tree, Null, Truth, Int, Text, Binary, Standalone, Tagged, EmptyEnum, Enum, Container, Parts, none, part, TextKind, Number, JsonValue, JsonText, JsonNumber, text_kind}
use Rattle.sval_core.specs.Real.{IsRealLabel, IsRealName, IsInRange, AreInRange, IsReal}
use Rattle.sval_json.specs.Json as shape
use Rattle.sval_json.specs.Json.{Key, escaped_key, raw_key, Json, Items, no_item, item, Pairs, no_pair, pair}
use Rattle.sval_json.specs.Digits.{minus, zero_digit, digits_of, after_digits, without_sign, without_minus}
use Rattle.sval_json.specs.Number as json
use Rattle.sval_json.specs.Number.{is_negative, is_number, is_word, without_zeros, with_sign, normal}
use Rattle.sval_json.specs.declared.style.Variants.TheVariants.{Inside}
use Rattle.sval_json.specs.Shape.{index_text, handle_of, handle, label_or_index, is_none_tag, own, wrap_in, wrap, is_wrapped, map_ok as json_map_ok, tagged_key, bare_text, key, byte_items}
use Rattle.sval_json.proofs.NumberGrammar.{front_and_rest, number_tested}
use Rattle.sval_json.proofs.Texts.{normal_twice}
use Rattle.sval_json.proofs.NumberTexts.{ascii_utf8, number_utf8, signed_number, normal_form}
use Rattle.sval_cbor.specs.declared.style.Binaries.{Binaries}
use Rattle.sval_cbor.specs.declared.style.Binaries.TheVariants.{Numbers, ByteStrings}
use Rattle.sval_cbor.specs.declared.style.Lengths.{Lengths}
use Rattle.sval_cbor.specs.declared.style.Lengths.TheVariants.{Indefinite, Definite}
use Rattle.sval_cbor.specs.declared.style.Style.{Style}
use Rattle.sval_cbor.specs.Packs.{PackRefusal, NotInteger, on_packed, map_packed, has_128_bits, is_whole_number, number_pack, tagged_pack, is_raw, key_bytes, pack_key_as, pack_key, binary_shape, packs, packed_items, packed_pairs, pack_as}
use Rattle.sval_cbor.specs.Cbor.{item_count, pair_count}
use Rattle.sval_cbor.specs.Premises.{IsShortText, IsShortLabel, IsShortName, IsShortBinary, part_total, IsShortRow, IsShortTreeAs, AreShortAs}
use Rattle.sval_cbor.proofs.Numbers.{short_of_128, whole_back}
use Rattle.sval_cbor.proofs.AlikeBytes.{bytes_counted}

abbrev pub IsPackedText : List ℕ → Type 0
IsPackedText bytes = IsUtf8 bytes × IsShortText bytes

abbrev pub IsPackedNumber : List ℕ → Type 0
IsPackedNumber bytes = (z : ℤ) × (bytes ≡ signed_decimal z) × (has_128_bits z ≡ true)

abbrev pub IsPackedKey : Key → Type 0
IsPackedKey (escaped_key bytes) = IsPackedText bytes
IsPackedKey (raw_key _) = ⊥

-- as a byte string a binary is of bytes, and short
abbrev pub IsPackedBinary : Binaries → List ℕ → Type 0
IsPackedBinary Numbers bytes = ⊥
IsPackedBinary ByteStrings bytes = AllByRecursion (λ byte. byte < 256) bytes × IsShortText bytes

-- where lengths are definite, so many items or pairs are fewer than 2 ^ 64
abbrev pub HasShortCount : Lengths → ℕ → Type 0
HasShortCount Indefinite n = ⊤
HasShortCount Definite n = n < 2 ^ 64

abbrev mutual
  pub IsPacked : Style → Json → Type 0
  IsPacked style (shape.number bytes) = IsPackedNumber bytes
  IsPacked style (shape.text bytes) = IsPackedText bytes
  IsPacked style (shape.quoted bytes) = IsPackedBinary style.binaries bytes
  IsPacked style (shape.raw _) = ⊥
  IsPacked style (shape.array row) = ArePacked style row × HasShortCount style.lengths (item_count row)
  IsPacked style (shape.object row) = PairsArePacked style row × HasShortCount style.lengths (pair_count row)
  IsPacked style _ = ⊤

  pub ArePacked : Style → Items → Type 0
  ArePacked style no_item = ⊤
  ArePacked style (item json row) = IsPacked style json × ArePacked style row

  pub PairsArePacked : Style → Pairs → Type 0
  PairsArePacked style no_pair = ⊤
  PairsArePacked style (pair k json row) = IsPackedKey k × IsPacked style json × PairsArePacked style row

-- where there is no refusal
abbrev pub IfOk : {T E : Type 0} → (T → Type 0) → Result T E → Type 0
IfOk P (Ok x) = P x
IfOk P (Err why) = ⊤

if_map : {T U : Type 0} (P : T → Type 0) (Q : U → Type 0) (f : T → U) (r : Result T PackRefusal) → ((x : T) → P x → Q (f x)) → IfOk P r → IfOk Q (map_packed f r)
if_map P Q f (Ok x) g h = g x h
if_map P Q f (Err why) g h = tt

if_on : {T U : Type 0} (P : T → Type 0) (Q : U → Type 0) (f : T → Result U PackRefusal) (r : Result T PackRefusal) → ((x : T) → P x → IfOk Q (f x)) → IfOk P r → IfOk Q (on_packed r f)
if_on P Q f (Ok x) g h = g x h
if_on P Q f (Err why) g h = tt

-- ---- numbers

unsigned_128 : (k : ℕ) (z : ℤ) → k ≤ 128 → 2 ^ k ≤ 2 ^ 128 → is_unsigned k z ≡ true → has_128_bits z ≡ true
unsigned_128 k (pos n) l h e = let f : n < 2 ^ k = grind (arith, nat_tests) in let g : n < 2 ^ 128 = omega arith in grind (arith, nat_tests)
unsigned_128 k (negsuc n) l h e = absurd (cc e)

signed_128 : (k : ℕ) (z : ℤ) → 2 ^ k ≤ 2 ^ 127 → is_signed k z ≡ true → has_128_bits z ≡ true
signed_128 k (pos n) h e = let f : n < 2 ^ k = grind (arith, nat_tests) in let g : n < 2 ^ 128 = omega arith in grind (arith, nat_tests)
signed_128 k (negsuc n) h e = let f : n < 2 ^ k = grind (arith, nat_tests) in let g : n < 2 ^ 127 = omega arith in grind (arith, nat_tests)

pub type_128 : (type : IntType) (z : ℤ) → is_of_type type z ≡ true → has_128_bits z ≡ true
type_128 U8 z e = unsigned_128 8 z (omega arith) (omega arith) e
type_128 U16 z e = unsigned_128 16 z (omega arith) (omega arith) e
type_128 U32 z e = unsigned_128 32 z (omega arith) (omega arith) e
type_128 U64 z e = unsigned_128 64 z (omega arith) (omega arith) e
type_128 U128 z e = unsigned_128 128 z (omega arith) (omega arith) e
type_128 I8 z e = signed_128 7 z (omega arith) e
type_128 I16 z e = signed_128 15 z (omega arith) e
type_128 I32 z e = signed_128 31 z (omega arith) e
type_128 I64 z e = signed_128 63 z (omega arith) e
type_128 I128 z e = signed_128 127 z (omega arith) e

byte_128 : (n : ℕ) → n < 256 → has_128_bits (pos n) ≡ true
byte_128 n h = let g : n < 2 ^ 128 = omega arith in grind (arith, nat_tests)

index_packed : (i : Index) → IfSome (index_text i) IsPackedNumber
index_packed i = (elim (is_signed 63 i.number) as (λ b. is_signed 63 i.number ≡ b → IfSome (let o : Option (List ℕ) = if b then Some (signed_decimal i.number) else None in o) IsPackedNumber) [
  | true ↦ λ e. (i.number, refl, signed_128 63 i.number (omega arith) e)
  | false ↦ λ e. tt
]) refl

indexes_packed : (i : Option Index) → IfSome (handle_of None i) IsPackedNumber
indexes_packed None = tt
indexes_packed (Some i) = index_packed i

decimal_length : (n : ℕ) → n < 10 ^ 64 → length (decimal n) ≤ 64
decimal_length n h = length-decimal-le_wide 64 n (omega arith) h h

signed_length : (z : ℤ) → IsShortNumber z → length (signed_decimal z) ≤ 65
signed_length (pos n) h = omega (arith, decimal_length n h)
signed_length (negsuc n) h = omega (arith, decimal_length (suc n) h)

signed_text : (z : ℤ) → IsShortNumber z → IsPackedText (signed_decimal z)
signed_text z h = (number_utf8 (signed_decimal z) (signed_number z h), omega (arith, signed_length z h))

number_text : (bytes : List ℕ) → IsPackedNumber bytes → IsPackedText bytes
number_text bytes (z, e, h) = subst IsPackedText (sym e) (signed_text z (short_of_128 z h))

null_text : IsPackedText (codes "null")
null_text = (ascii_utf8 (codes "null") refl, omega arith)

truth_packed : (b : Bool) → IsPackedText (truth_text b)
truth_packed true = (ascii_utf8 (codes "true") refl, omega arith)
truth_packed false = (ascii_utf8 (codes "false") refl, omega arith)

bytes_packed : (style : Style) (bytes : List ℕ) → AllByRecursion (λ byte. byte < 256) bytes → ArePacked style (byte_items bytes)
bytes_packed style [] h = tt
bytes_packed style (byte ∷ bytes) h = ((pos byte, refl, byte_128 byte h.0), bytes_packed style bytes h.1)

short_bytes : (lengths : Lengths) (bytes : List ℕ) → IsShortBinary Numbers lengths bytes → HasShortCount lengths (item_count (byte_items bytes))
short_bytes Indefinite bytes s = tt
short_bytes Definite bytes s = omega (arith, s, bytes_counted bytes)

binary_packed : (style : Style) (binaries : Binaries) (bytes : List ℕ) → style.binaries ≡ binaries → AllByRecursion (λ byte. byte < 256) bytes → IsShortBinary binaries style.lengths bytes → IsPacked style (binary_shape binaries bytes)
binary_packed style Numbers bytes e h s = (bytes_packed style bytes h, short_bytes style.lengths bytes s)
binary_packed style ByteStrings bytes e h s = subst (λ b. IsPackedBinary b bytes) (sym e) (h, s)

-- ---- names

label_or_index_packed : (style : Style) (l : Option Label) (o : Option (List ℕ)) → IfSome l IsRealLabel → IfSome l IsShortLabel → IfSome o IsPackedNumber → IsPacked style (label_or_index l o)
label_or_index_packed style (Some l) o u s h = (u, s)
label_or_index_packed style None (Some digits) u s h = h
label_or_index_packed style None None u s h = tt

own_by : (style : Style) (b : Bool) (json : Json) → IsPacked style json → IsPacked style (if b then shape.null else json)
own_by style true json m = tt
own_by style false json m = m

own_packed : (style : Style) (n : Name) → IsRealName n → IsShortName n → IsPacked style (own n)
own_packed style n r s = own_by style (is_none_tag n.tag) (label_or_index n.label (handle_of None n.index)) (label_or_index_packed style n.label (handle_of None n.index) r.0 s (indexes_packed n.index))

label_or_index_text : (l : Option Label) (o : Option (List ℕ)) → IfSome l IsRealLabel → IfSome l IsShortLabel → IfSome o IsPackedNumber → IsPackedText (bare_text (label_or_index l o))
label_or_index_text (Some l) o u s h = (u, s)
label_or_index_text None (Some digits) u s h = number_text digits h
label_or_index_text None None u s h = null_text

own_text_by : (b : Bool) (json : Json) → IsPackedText (bare_text json) → IsPackedText (bare_text (if b then shape.null else json))
own_text_by true json m = null_text
own_text_by false json m = m

own_text : (n : Name) → IsRealName n → IsShortName n → IsPackedText (bare_text (own n))
own_text n r s = own_text_by (is_none_tag n.tag) (label_or_index n.label (handle_of None n.index)) (label_or_index_text n.label (handle_of None n.index) r.0 s (indexes_packed n.index))

index_text_packed : (o : Option (List ℕ)) → IfSome o IsPackedNumber → IfSome o IsPackedText
index_text_packed None h = tt
index_text_packed (Some digits) h = number_text digits h

handle_packed : (l : Option Label) (i : Option Index) → IfSome l IsRealLabel → IfSome l IsShortLabel → IfSome (handle_of l i) IsPackedText
handle_packed (Some l) i u s = (u, s)
handle_packed None None u s = tt
handle_packed None (Some i) u s = index_text_packed (index_text i) (index_packed i)

one_short : (lengths : Lengths) → HasShortCount lengths 1
one_short Indefinite = tt
one_short Definite = omega arith

wrap_in_packed : (style : Style) (o : Option (List ℕ)) (json : Json) → IfSome o IsPackedText → IsPacked style json → IsPacked style (wrap_in Inside o json)
wrap_in_packed style (Some bytes) json u m = ((u, m, tt), one_short style.lengths)
wrap_in_packed style None json u m = m

wrap_packed : (style : Style) (variant : Bool) (n : Name) (json : Json) → IsRealName n → IsShortName n → IsPacked style json → IsPacked style (wrap Inside variant n json)
wrap_packed style true n json r s m = wrap_in_packed style (handle n) json (handle_packed n.label n.index r.0 s) m
wrap_packed style false n json r s m = m

-- ---- numbers as text

zeros_length : (ds : List ℕ) → length (without_zeros ds) ≤ length ds
zeros_length [] = omega arith
zeros_length (d ∷ []) = omega arith
zeros_length (d ∷ e ∷ ds) = elim (d == zero_digit) as (λ b. length (if b then without_zeros (e ∷ ds) else d ∷ e ∷ ds) ≤ length (d ∷ e ∷ ds)) [ true ↦ omega (arith, zeros_length (e ∷ ds)) | false ↦ omega arith ]

sign_length : (n : Bool) (ds t : List ℕ) → length (with_sign n ds t) ≤ cond n 1 0 + length ds + length t
sign_length false ds t = omega (arith, length-append ds t)
sign_length true [] t = omega arith
sign_length true (d ∷ []) [] = elim (d == zero_digit) as (λ b. length (if b then d ∷ [] else minus ∷ d ∷ []) ≤ 1 + length (d ∷ []) + 0) [ true ↦ omega arith | false ↦ omega arith ]
sign_length true (d ∷ []) (c ∷ t) = omega arith
sign_length true (d ∷ e ∷ ds) t = omega (arith, length-append ds t)

unsigned_length : (text : List ℕ) → cond (is_negative text) 1 0 + length (without_sign text) ≤ length text
unsigned_length [] = omega arith
unsigned_length (c ∷ cs) = elim (c == minus) as (λ b. cond b 1 0 + length (if (c == 43 || b) then cs else c ∷ cs) ≤ length (c ∷ cs)) [
  | true ↦ elim (c == 43) as (λ b. cond true 1 0 + length (if (b || true) then cs else c ∷ cs) ≤ length (c ∷ cs)) [ true ↦ omega arith | false ↦ omega arith ]
  | false ↦ elim (c == 43) as (λ b. cond false 1 0 + length (if (b || false) then cs else c ∷ cs) ≤ length (c ∷ cs)) [ true ↦ omega arith | false ↦ omega arith ]
]

same_ok : {x y : List ℕ} → (let r : Result (List ℕ) json.Refusal = Ok x in r) ≡ Ok y → x ≡ y
same_ok e = cc e

word_length : (b : Bool) (out : List ℕ) → (let r : Result (List ℕ) json.Refusal = if b then Ok (codes "null") else Err json.InvalidNumber in r) ≡ Ok out → length out ≤ 4
word_length true out e = rw (sym (same_ok e)) (omega arith)
word_length false out e = absurd (cc e)

normal_length_by : (n b : Bool) (body out : List ℕ)
    → (if b then Ok (with_sign n (without_zeros (digits_of body)) (after_digits body)) else (if is_word body then Ok (codes "null") else Err json.InvalidNumber)) ≡ Ok out
    → (length out ≤ cond n 1 0 + length body) ⊎ (length out ≤ 4)
normal_length_by n true body out e =
    let ds = without_zeros (digits_of body) in
    let s = sign_length n ds (after_digits body) in
    let f : length (digits_of body) + length (after_digits body) ≡ length body = sym (length-append (digits_of body) (after_digits body)) ∙ ap length (front_and_rest _ body) in
    inl (rw (sym (same_ok e)) (omega (arith, zeros_length (digits_of body))))
normal_length_by n false body out e = inr (word_length (is_word body) out e)

normal_short : (text out : List ℕ) → normal text ≡ Ok out → IsShortText text → IsShortText out
normal_short text out e s = elim (normal_length_by (is_negative text) (is_number (without_sign text)) (without_sign text) out e) [
  | inl less ↦ omega (arith, unsigned_length text)
  | inr word ↦ omega arith
]

normal_text : (text out : List ℕ) → normal text ≡ Ok out → IsShortText text → IsPackedText out
normal_text text out e s = (elim (normal_form text out e) [ inl j ↦ number_utf8 out j | inr word ↦ subst IsUtf8 (sym word) null_text.0 ], normal_short text out e s)

no_word : (out : List ℕ) → out ≡ codes "null" → is_whole_number out ≡ true → ⊥
no_word out e w = let f : is_whole_number (codes "null") ≡ true = rw e at w in cc f

whole_packed : (text out : List ℕ) → normal text ≡ Ok out → is_whole_number out ≡ true → IsPackedNumber out
whole_packed text out e w = elim (normal_form text out e) [
  | inl j ↦ (signed_digits_value 10 out, sym (whole_back out (normal_twice text out e) (number_tested j) w), (and_parts (is_empty (after_digits (without_minus out))) (has_128_bits (signed_digits_value 10 out)) w).1)
  | inr word ↦ absurd (no_word out word w)
]

number_by : (style : Style) (a b : Bool) (text out : List ℕ) → normal text ≡ Ok out → is_whole_number out ≡ b → IfOk (IsPacked style) (let r : Result Json PackRefusal = if a then Ok shape.null else if b then Ok (shape.number out) else Err NotInteger in r)
number_by style true b text out e w = tt
number_by style false true text out e w = whole_packed text out e w
number_by style false false text out e w = tt

number_packed : (style : Style) (text : List ℕ) (r : Result (List ℕ) json.Refusal) → normal text ≡ r → IfOk (IsPacked style) (number_pack r)
number_packed style text (Ok out) e = number_by style (bytes_eq out (codes "null")) (is_whole_number out) text out e refl
number_packed style text (Err why) e = tt

tagged_packed : (style : Style) (kind : TextKind) (tree : Tree) (r : Result Json PackRefusal) → IfOk (IsPacked style) r → IfOk (IsPacked style) (tagged_pack kind tree r)
tagged_packed style Number (Text bytes) r h = number_packed style bytes (normal bytes) refl
tagged_packed style JsonText (Text bytes) r h = tt
tagged_packed style JsonValue (Text bytes) r h = tt
tagged_packed style JsonNumber (Text bytes) r h = tt
tagged_packed style kind tree r h = h

-- ---- keys

abbrev HasPackedText : Key → Type 0
HasPackedText k = IsPackedText (key_bytes k)

unless : {T : Type 0} (P : T → Type 0) (b : Bool) (why : json.Refusal) (r : Result T json.Refusal) → IfOk P r → IfOk P (let s : Result T json.Refusal = if b then Err why else r in s)
unless P true why r h = tt
unless P false why r h = h

normal_key : (text : List ℕ) (r : Result (List ℕ) json.Refusal) → normal text ≡ r → IsShortText text → IfOk HasPackedText (json_map_ok raw_key r)
normal_key text (Ok out) e s = normal_text text out e s
normal_key text (Err why) e s = tt

tagged_key_packed : (style : Style) (kind : TextKind) (tree : Tree) (r : Result Key json.Refusal) → IsInRange tree → IsShortTreeAs style tree → IfOk HasPackedText r → IfOk HasPackedText (tagged_key kind tree r)
tagged_key_packed style Number (Text bytes) r u s h = normal_key bytes (normal bytes) refl s
tagged_key_packed style JsonText (Text bytes) r u s h = (u, s)
tagged_key_packed style JsonValue (Text bytes) r u s h = tt
tagged_key_packed style JsonNumber (Text bytes) r u s h = (u, s)
tagged_key_packed style kind tree r u s h = h

key_packed : (style : Style) (t : Tree) (variant : Bool) → IsInRange t → IsShortTreeAs style t → IfOk HasPackedText (key t variant)
key_packed style Null variant r s = null_text
key_packed style (Truth b) variant r s = truth_packed b
key_packed style (Int type n) variant r s = signed_text n (short_of_type type n r)
key_packed style (Text bytes) variant r s = (r, s)
key_packed style (Binary bytes) variant r s = tt
key_packed style (Standalone name) variant r s = own_text name r s
key_packed style (Tagged name tree) variant r s =
    unless HasPackedText (is_wrapped variant name) _ (tagged_key (text_kind name.tag) tree (key tree false))
    (tagged_key_packed style (text_kind name.tag) tree (key tree false) r.1 s.1 (key_packed style tree false r.1 s.1))
key_packed style (EmptyEnum name) variant r s = unless HasPackedText (is_wrapped variant name) _ (Ok (escaped_key (bare_text (own name)))) (own_text name r s)
key_packed style (Enum name tree) variant r s = unless HasPackedText (is_wrapped variant name) _ (key tree true) (key_packed style tree true r.1 s.1)
key_packed style (Container head parts) variant r s = tt

key_as : (r : Result Key json.Refusal) (raw : Bool) → IfOk HasPackedText r → IfOk IsPackedKey (pack_key_as r raw)
key_as (Err json.InvalidKey) raw h = tt
key_as (Err json.InvalidNumber) true h = tt
key_as (Err json.InvalidNumber) false h = tt
key_as (Ok k) true h = tt
key_as (Ok k) false h = h

pack_key_packed : (style : Style) (t : Tree) → IsInRange t → IsShortTreeAs style t → IfOk IsPackedKey (pack_key t)
pack_key_packed style t r s = key_as (key t false) (is_raw t) (key_packed style t false r s)

-- ---- counts

-- no more items, or pairs, than parts
item_total : (p : Result Json PackRefusal) (r : Result Items PackRefusal) (n : ℕ) → IfOk (λ row. item_count row ≤ n) r
    → IfOk (λ row. item_count row ≤ 1 + n) (on_packed p (λ json. map_packed (item json) r))
item_total (Ok json) (Ok row) n h = omega (arith, h)
item_total (Ok json) (Err why) n h = tt
item_total (Err why) r n h = tt

items_total : (style : Style) (parts : Parts) → IfOk (λ row. item_count row ≤ part_total parts) (packed_items style parts)
items_total style none = omega arith
items_total style (part slot tree parts) = item_total (packs style tree false) (packed_items style parts) (part_total parts) (items_total style parts)

pair_total : (k : Result Key PackRefusal) (p : Result Json PackRefusal) (r : Result Pairs PackRefusal) (n m : ℕ) → n < m → IfOk (λ row. pair_count row ≤ n) r
    → IfOk (λ row. pair_count row ≤ m) (on_packed k (λ key. on_packed p (λ json. map_packed (pair key json) r)))
pair_total (Ok k) (Ok json) (Ok row) n m l h = omega (arith, l, h)
pair_total (Ok k) (Ok json) (Err why) n m l h = tt
pair_total (Ok k) (Err why) r n m l h = tt
pair_total (Err why) p r n m l h = tt

pairs_total : (style : Style) (parts : Parts) → IfOk (λ row. pair_count row ≤ part_total parts) (packed_pairs style parts)
pairs_total style (part Slot.Key key (part slot value parts)) =
    pair_total (pack_key key) (packs style value false) (packed_pairs style parts) (part_total parts) (1 + (1 + part_total parts)) (omega arith) (pairs_total style parts)
pairs_total style (part (Slot.Field tag label) tree parts) =
    pair_total (Ok (escaped_key label.text)) (packs style tree false) (packed_pairs style parts) (part_total parts) (1 + part_total parts) (omega arith) (pairs_total style parts)
pairs_total style (part (Slot.FieldPlace tag label index) tree parts) =
    pair_total (Ok (escaped_key label.text)) (packs style tree false) (packed_pairs style parts) (part_total parts) (1 + part_total parts) (omega arith) (pairs_total style parts)
pairs_total style parts = omega arith

short_count : (lengths : Lengths) (parts : Parts) (n : ℕ) → n ≤ part_total parts → IsShortRow lengths parts → HasShortCount lengths n
short_count Indefinite parts n h s = tt
short_count Definite parts n h s = omega (arith, h, s)

abbrev AreShortItems : Style → Items → Type 0
AreShortItems style row = ArePacked style row × HasShortCount style.lengths (item_count row)

abbrev AreShortPairs : Style → Pairs → Type 0
AreShortPairs style row = PairsArePacked style row × HasShortCount style.lengths (pair_count row)

if_both : {T : Type 0} (P Q R : T → Type 0) (r : Result T PackRefusal) → ((x : T) → P x → Q x → R x) → IfOk P r → IfOk Q r → IfOk R r
if_both P Q R (Ok x) g h k = g x h k
if_both P Q R (Err why) g h k = tt

items_short : (style : Style) (parts : Parts) → IsShortRow style.lengths parts → IfOk (ArePacked style) (packed_items style parts) → IfOk (AreShortItems style) (packed_items style parts)
items_short style parts s h =
    if_both (ArePacked style) (λ row. item_count row ≤ part_total parts) (AreShortItems style) (packed_items style parts) (λ row m n. (m, short_count style.lengths parts (item_count row) n s)) h (items_total style parts)

pairs_short : (style : Style) (parts : Parts) → IsShortRow style.lengths parts → IfOk (PairsArePacked style) (packed_pairs style parts) → IfOk (AreShortPairs style) (packed_pairs style parts)
pairs_short style parts s h =
    if_both (PairsArePacked style) (λ row. pair_count row ≤ part_total parts) (AreShortPairs style) (packed_pairs style parts) (λ row m n. (m, short_count style.lengths parts (pair_count row) n s)) h (pairs_total style parts)

-- ---- trees

mutual
  packs_packed : (style : Style) (t : Tree) (variant : Bool) → IsInRange t → IsShortTreeAs style t → IfOk (IsPacked style) (packs style t variant)
  packs_packed style Null variant r s = tt
  packs_packed style (Truth b) variant r s = tt
  packs_packed style (Int type n) variant r s = (n, refl, type_128 type n r)
  packs_packed style (Text bytes) variant r s = (r, s)
  packs_packed style (Binary bytes) variant r s = binary_packed style style.binaries bytes refl r s
  packs_packed style (Standalone name) variant r s = own_packed style name r s
  packs_packed style (Tagged name tree) variant r s =
      if_map (IsPacked style) (IsPacked style) (wrap Inside variant name) (tagged_pack (text_kind name.tag) tree (packs style tree false)) (λ json m. wrap_packed style variant name json r.0 s.0 m)
      (tagged_packed style (text_kind name.tag) tree (packs style tree false) (packs_packed style tree false r.1 s.1))
  packs_packed style (EmptyEnum name) variant r s = wrap_packed style variant name (own name) r s (own_packed style name r s)
  packs_packed style (Enum name tree) variant r s = if_map (IsPacked style) (IsPacked style) (wrap Inside variant name) (packs style tree true) (λ json m. wrap_packed style variant name json r.0 s.0 m) (packs_packed style tree true r.1 s.1)
  packs_packed style (Container Head.Seq parts) variant r s = if_map (AreShortItems style) (IsPacked style) shape.array (packed_items style parts) (λ row m. m) (items_short style parts s.2 (items_packed style parts r.1 s.1))
  packs_packed style (Container Head.Map parts) variant r s = if_map (AreShortPairs style) (IsPacked style) shape.object (packed_pairs style parts) (λ row m. m) (pairs_short style parts s.2 (pairs_packed style parts r.1 s.1))
  packs_packed style (Container (Head.Record name) parts) variant r s =
      if_map (AreShortPairs style) (IsPacked style) (λ fields. wrap Inside variant name (shape.object fields)) (packed_pairs style parts) (λ fields m. wrap_packed style variant name (shape.object fields) r.0 s.0 m) (pairs_short style parts s.2 (pairs_packed style parts r.1 s.1))
  packs_packed style (Container (Head.Tuple name) parts) variant r s =
      if_map (AreShortItems style) (IsPacked style) (λ places. wrap Inside variant name (shape.array places)) (packed_items style parts) (λ places m. wrap_packed style variant name (shape.array places) r.0 s.0 m) (items_short style parts s.2 (items_packed style parts r.1 s.1))
  packs_packed style (Container (Head.RecordTuple name) parts) variant r s =
      if_map (AreShortPairs style) (IsPacked style) (λ fields. wrap Inside variant name (shape.object fields)) (packed_pairs style parts) (λ fields m. wrap_packed style variant name (shape.object fields) r.0 s.0 m) (pairs_short style parts s.2 (pairs_packed style parts r.1 s.1))

  items_packed : (style : Style) (parts : Parts) → AreInRange parts → AreShortAs style parts → IfOk (ArePacked style) (packed_items style parts)
  items_packed style none r s = tt
  items_packed style (part slot tree parts) r s =
      if_on (IsPacked style) (ArePacked style) (λ json. map_packed (item json) (packed_items style parts)) (packs style tree false)
      (λ json m. if_map (ArePacked style) (ArePacked style) (item json) (packed_items style parts) (λ row n. (m, n)) (items_packed style parts r.2 s.2)) (packs_packed style tree false r.1 s.1)

  pairs_packed : (style : Style) (parts : Parts) → AreInRange parts → AreShortAs style parts → IfOk (PairsArePacked style) (packed_pairs style parts)
  pairs_packed style (part Slot.Key name (part slot tree parts)) r s =
      if_on IsPackedKey (PairsArePacked style) (λ k. on_packed (packs style tree false) (λ json. map_packed (pair k json) (packed_pairs style parts))) (pack_key name)
      (λ k n. if_on (IsPacked style) (PairsArePacked style) (λ json. map_packed (pair k json) (packed_pairs style parts)) (packs style tree false)
      (λ json m. if_map (PairsArePacked style) (PairsArePacked style) (pair k json) (packed_pairs style parts) (λ row o. (n, m, o)) (pairs_packed style parts r.2.2 s.2.2)) (packs_packed style tree false r.2.1 s.2.1))
      (pack_key_packed style name r.1 s.1)
  pairs_packed style (part (Slot.Field tag label) tree parts) r s =
      if_on (IsPacked style) (PairsArePacked style) (λ json. map_packed (pair (escaped_key label.text) json) (packed_pairs style parts)) (packs style tree false)
      (λ json m. if_map (PairsArePacked style) (PairsArePacked style) (pair (escaped_key label.text) json) (packed_pairs style parts) (λ row o. ((r.0, s.0), m, o)) (pairs_packed style parts r.2 s.2))
      (packs_packed style tree false r.1 s.1)
  pairs_packed style (part (Slot.FieldPlace tag label index) tree parts) r s =
      if_on (IsPacked style) (PairsArePacked style) (λ json. map_packed (pair (escaped_key label.text) json) (packed_pairs style parts)) (packs style tree false)
      (λ json m. if_map (PairsArePacked style) (PairsArePacked style) (pair (escaped_key label.text) json) (packed_pairs style parts) (λ row o. ((r.0.0, s.0), m, o)) (pairs_packed style parts r.2 s.2))
      (packs_packed style tree false r.1 s.1)
  pairs_packed style parts r s = tt

-- a real tree with short texts packs to such a shape
pub packed : (style : Style) (tree : Tree) (json : Json) → IsReal tree → IsShortTreeAs style tree → pack_as style tree ≡ Ok json → IsPacked style json
packed style tree json r s e = subst (IfOk (IsPacked style)) e (packs_packed style tree false r.1 s)
