-- What the writer writes of a map's key is the text that the key packs to, or it is refused as the key is.
use Rattle.std.specs.Prelude.{◌≡◌, ◌⊎◌, ℕ, Bool, true, false, ◌&&◌, ◌||◌, List, [], ◌∷◌, ◌++◌, codes, if◌then◌else◌, is_some, Option, Some, None, Result, Ok, Err, refl}
use Rattle.std.proofs.Common.{sym, ap, ◌∙◌, inl, inr}
use Rattle.sval_label.specs.Calls.{Call, Head, Name}
use Rattle.sval_core.specs.Trees.{Tree, Null, Truth, Int, Text, Binary, Standalone, Tagged, EmptyEnum, Enum, Container, Parts, none, part, TextKind, Ordinary, Number, JsonValue, JsonText, JsonNumber, text_kind, MayHold, IsGood}
use Rattle.sval_core.specs.Spells.{Says, bare_name, entries}
use Rattle.sval_json.specs.Json.{Key, escaped_key, raw_key, Json}
use Rattle.sval_json.specs.Number as json
use Rattle.sval_json.specs.Number.{is_negative, is_number, is_word, without_zeros, with_sign, normal}
use Rattle.sval_json.specs.Digits.{digits_of, after_digits, without_sign}
use Rattle.sval_json.specs.Shape.{map_ok as json_map_ok, handle, own, is_wrapped, tagged_key, bare_text, key}
use Rattle.sval_cbor.specs.declared.style.Lengths.{Lengths}
use Rattle.sval_cbor.specs.declared.style.Style.{Style}
use Rattle.sval_cbor.specs.Packs.{PackRefusal, BadKey, RawJson, on_packed, map_packed, is_raw_kind, is_raw, key_bytes, pack_key_as}
use Rattle.sval_cbor.specs.Cbor.{string}
use Rattle.sval_cbor.specs.Writing.{EnumPlace, Elsewhere, Begun, Ended, CborState, cbor_state, CborStep, writes, number_key, opening, after_handle, enum_end_bytes, tagged_begins, written_from, HaveWholeTexts}
use Rattle.sval_cbor.proofs.AlikeBytes.{own_count}
use Rattle.sval_cbor.proofs.WritingPlain.{prepend, prepend_nothing, and_then, bare_own}
use Rattle.sval_cbor.proofs.WholeTexts.{IsWholeText, whole_text, whole_inside}

abbrev pub key_string : Key → List ℕ
key_string k = string 3 (key_bytes k)

abbrev pub is_begun : EnumPlace → Bool
is_begun Begun = true
is_begun _ = false

-- what a key is written as, which may stand directly in an enum
abbrev pub key_result : Tree → Bool → Result (List ℕ) PackRefusal
key_result t variant = map_packed key_string (pack_key_as (key t variant) (is_raw t))

-- the place after a tree
abbrev pub after : Tree → EnumPlace
after (Tagged name _) = after_handle (handle (bare_name name))
after (EmptyEnum name) = after_handle (handle (bare_name name))
after (Enum name _) = after_handle (handle (bare_name name))
after (Container (Head.Record name) _) = after_handle (handle (bare_name name))
after (Container (Head.Tuple name) _) = after_handle (handle (bare_name name))
after (Container (Head.RecordTuple name) _) = after_handle (handle (bare_name name))
after _ = Elsewhere

-- the first refusal, or the rest
abbrev pub rest_of : List Call → Result CborStep PackRefusal → Result (List ℕ) PackRefusal
rest_of calls r = on_packed r (λ done. prepend done.bytes (written_from calls done.state))

pub and_nothing : (r q : Result (List ℕ) PackRefusal) → and_then r (prepend [] q) ≡ and_then r q
and_nothing r q = ap (and_then r) (prepend_nothing q)

key_opening : (lengths : Lengths) (h : Option (List ℕ)) (place : EnumPlace) → opening lengths h place true ≡ (let r : Result (List ℕ) PackRefusal = if is_begun place && is_some h then Err BadKey else Ok [] in r)
key_opening lengths (Some bytes) Begun = refl
key_opening lengths (Some bytes) Elsewhere = refl
key_opening lengths (Some bytes) Ended = refl
key_opening lengths None Begun = refl
key_opening lengths None Elsewhere = refl
key_opening lengths None Ended = refl

quiet_end : (lengths : Lengths) (h : Option (List ℕ)) (j : Json) → enum_end_bytes lengths (after_handle h) true j ≡ []
quiet_end lengths (Some bytes) j = refl
quiet_end lengths None j = refl

quiet_after : (lengths : Lengths) (t : Tree) (j : Json) → enum_end_bytes lengths (after t) true j ≡ []
quiet_after lengths (Tagged name tree) j = quiet_end lengths (handle (bare_name name)) j
quiet_after lengths (EmptyEnum name) j = quiet_end lengths (handle (bare_name name)) j
quiet_after lengths (Enum name tree) j = quiet_end lengths (handle (bare_name name)) j
quiet_after lengths (Container (Head.Record name) parts) j = quiet_end lengths (handle (bare_name name)) j
quiet_after lengths (Container (Head.Tuple name) parts) j = quiet_end lengths (handle (bare_name name)) j
quiet_after lengths (Container (Head.RecordTuple name) parts) j = quiet_end lengths (handle (bare_name name)) j
quiet_after lengths _ j = refl

-- ---- counts

abbrev mutual
  -- how many items or pairs each container of a tree has, in the order of the begins; none where lengths are indefinite
  pub tree_counts : Lengths → Tree → List ℕ
  tree_counts lengths (Tagged _ tree) = tree_counts lengths tree
  tree_counts lengths (Enum _ tree) = tree_counts lengths tree
  tree_counts lengths (Container _ parts) = own_count lengths (entries parts) ++ part_counts lengths parts
  tree_counts lengths _ = []

  pub part_counts : Lengths → Parts → List ℕ
  part_counts lengths none = []
  part_counts lengths (part _ tree parts) = tree_counts lengths tree ++ part_counts lengths parts

tagged_invalid : (wrapped : Bool) (kind : TextKind) (tree : Tree) → key tree false ≡ Err json.InvalidKey
    → (let r : Result Key json.Refusal = if wrapped then Err json.InvalidKey else tagged_key kind tree (key tree false) in r) ≡ Err json.InvalidKey
tagged_invalid true kind tree e = refl
tagged_invalid false Number (Text bytes) e = absurd (cc e)
tagged_invalid false JsonText (Text bytes) e = absurd (cc e)
tagged_invalid false JsonValue (Text bytes) e = refl
tagged_invalid false JsonNumber (Text bytes) e = absurd (cc e)
tagged_invalid false kind tree e = e

enum_invalid : (wrapped : Bool) (r : Result Key json.Refusal) → r ≡ Err json.InvalidKey → (let s : Result Key json.Refusal = if wrapped then Err json.InvalidKey else r in s) ≡ Err json.InvalidKey
enum_invalid true r e = refl
enum_invalid false r e = e

-- a key that may be one holds no container
key_counts : (lengths : Lengths) (t : Tree) (variant : Bool) → (tree_counts lengths t ≡ []) ⊎ (key t variant ≡ Err json.InvalidKey)
key_counts lengths (Tagged name tree) variant = elim (key_counts lengths tree false) [
  | inl e ↦ inl e
  | inr e ↦ inr (tagged_invalid (is_wrapped variant name) (text_kind name.tag) tree e)
]
key_counts lengths (Enum name tree) variant = elim (key_counts lengths tree true) [
  | inl e ↦ inl e
  | inr e ↦ inr (enum_invalid (is_wrapped variant name) (key tree true) e)
]
key_counts lengths (Container head parts) variant = inr refl
key_counts lengths _ variant = inl refl

-- so the counts after a key are those before it, where it isn't refused
pub key_keeps : (lengths : Lengths) (t : Tree) (more : List ℕ) (written : List ℕ → Result (List ℕ) PackRefusal)
    → and_then (key_result t false) (written (tree_counts lengths t ++ more)) ≡ and_then (key_result t false) (written more)
key_keeps lengths t more written = elim (key_counts lengths t false) [
  | inl e ↦ ap (λ counts. and_then (key_result t false) (written (counts ++ more))) e
  | inr e ↦ ap (λ k. and_then (map_packed key_string (pack_key_as k (is_raw t))) (written (tree_counts lengths t ++ more))) e
      ∙ sym (ap (λ k. and_then (map_packed key_string (pack_key_as k (is_raw t))) (written more)) e)
]

-- ---- numbers

word_err : (b : Bool) (why : json.Refusal) → (let r : Result (List ℕ) json.Refusal = if b then Ok (codes "null") else Err json.InvalidNumber in r) ≡ Err why → why ≡ json.InvalidNumber
word_err true why e = absurd (cc e)
word_err false why e = cc e

normal_err_by : (n b : Bool) (body : List ℕ) (why : json.Refusal)
    → (if b then Ok (with_sign n (without_zeros (digits_of body)) (after_digits body)) else (if is_word body then Ok (codes "null") else Err json.InvalidNumber)) ≡ Err why → why ≡ json.InvalidNumber
normal_err_by n true body why e = absurd (cc e)
normal_err_by n false body why e = word_err (is_word body) why e

pub normal_err : (text : List ℕ) (why : json.Refusal) → normal text ≡ Err why → why ≡ json.InvalidNumber
normal_err text why e = normal_err_by (is_negative text) (is_number (without_sign text)) (without_sign text) why e

number_keyed : (text : List ℕ) (r : Result (List ℕ) json.Refusal) → normal text ≡ r → number_key r ≡ map_packed key_string (pack_key_as (json_map_ok raw_key r) false)
number_keyed text (Ok out) e = refl
number_keyed text (Err why) e = ap (λ x. map_packed key_string (pack_key_as (Err x) false)) (sym (normal_err text why e))

module _ (style : Style) (counts : List ℕ) where
  abbrev in_key : EnumPlace → CborState
  in_key place = cbor_state style place true false counts

  -- the calls of a text that stands for a number, in a key
  number_ended : (r : Result (List ℕ) PackRefusal) (name : Name) (rest : List Call)
      → rest_of (Call.TextEnd ∷ Call.TaggedEnd name ∷ rest) (on_packed r (λ made. writes made (cbor_state style Elsewhere true true counts))) ≡ and_then r (written_from rest (in_key (after_handle (handle name))))
  number_ended (Ok made) name rest = let q = written_from rest (in_key (after_handle (handle name))) in ap (prepend made) (prepend_nothing (prepend [] q) ∙ prepend_nothing q)
  number_ended (Err why) name rest = refl

  number_calls : (text : List ℕ) (calls : List Call) (name : Name) (rest : List Call) → IsWholeText calls text (Call.TaggedEnd name ∷ rest)
      → written_from calls (cbor_state style Elsewhere true true counts) ≡ and_then (number_key (normal text)) (written_from rest (in_key (after_handle (handle name))))
  number_calls text calls name rest w =
      ap (λ cs. written_from cs (cbor_state style Elsewhere true true counts)) w.is ∙ prepend_nothing (rest_of (Call.TextEnd ∷ Call.TaggedEnd name ∷ rest) (on_packed (number_key (normal text)) (λ made. writes made (cbor_state style Elsewhere true true counts))))
      ∙ number_ended (number_key (normal text)) name rest

  -- ---- tagged keys

  -- a key under a tag, where its name opens nothing
  abbrev tagged_result : Bool → TextKind → Tree → Result (List ℕ) PackRefusal
  tagged_result wrapped kind tree = map_packed key_string (pack_key_as (if wrapped then Err json.InvalidKey else tagged_key kind tree (key tree false)) (is_raw_kind kind || is_raw tree))

  abbrev opened_key : Bool → Result (List ℕ) PackRefusal
  opened_key b = if b then Err BadKey else Ok []

  ordinary_key : (b : Bool) (tree : Tree) (inner : List Call) (name : Name) (rest : List Call)
      → written_from inner (in_key Elsewhere) ≡ and_then (key_result tree false) (written_from (Call.TaggedEnd name ∷ rest) (in_key (after tree)))
      → rest_of inner (on_packed (opened_key b) (λ front. writes (front ++ []) (in_key Elsewhere))) ≡ and_then (tagged_result b Ordinary tree) (written_from rest (in_key (after_handle (handle name))))
  ordinary_key true tree inner name rest h = refl
  ordinary_key false tree inner name rest h = prepend_nothing (written_from inner (in_key Elsewhere)) ∙ h ∙ and_nothing (key_result tree false) (written_from rest (in_key (after_handle (handle name))))

  numeric_key : (b : Bool) (text : List ℕ) (inner : List Call) (name : Name) (rest : List Call) → IsWholeText inner text (Call.TaggedEnd name ∷ rest)
      → rest_of inner (on_packed (opened_key b) (λ front. writes (front ++ []) (cbor_state style Elsewhere true true counts))) ≡ and_then (tagged_result b Number (Text text)) (written_from rest (in_key (after_handle (handle name))))
  numeric_key true text inner name rest w = refl
  numeric_key false text inner name rest w =
      prepend_nothing (written_from inner (cbor_state style Elsewhere true true counts)) ∙ number_calls text inner name rest w
      ∙ ap (λ r. and_then r (written_from rest (in_key (after_handle (handle name))))) (number_keyed text (normal text) refl)

  raw_text_key : (b : Bool) (text : List ℕ) (inner rest : List Call) (q : Result (List ℕ) PackRefusal) → rest_of inner (on_packed (opened_key b) (λ front. Err RawJson)) ≡ and_then (tagged_result b JsonText (Text text)) q
  raw_text_key true text inner rest q = refl
  raw_text_key false text inner rest q = refl

  raw_number_key : (b : Bool) (text : List ℕ) (inner rest : List Call) (q : Result (List ℕ) PackRefusal) → rest_of inner (on_packed (opened_key b) (λ front. Err RawJson)) ≡ and_then (tagged_result b JsonNumber (Text text)) q
  raw_number_key true text inner rest q = refl
  raw_number_key false text inner rest q = refl

  raw_value_key : (b : Bool) (text : List ℕ) (q : Result (List ℕ) PackRefusal) → (let r : Result (List ℕ) PackRefusal = Err BadKey in r) ≡ and_then (tagged_result b JsonValue (Text text)) q
  raw_value_key true text q = refl
  raw_value_key false text q = refl

  -- the result of a tagged key by its kind, whatever its name opens
  abbrev TaggedIsWritten : TextKind → Name → Tree → List Call → List Call → EnumPlace → Type 0
  TaggedIsWritten kind name tree inner rest place =
      rest_of inner (tagged_begins kind name (in_key place)) ≡ and_then (tagged_result (is_wrapped (is_begun place) name) kind tree) (written_from rest (in_key (after_handle (handle (bare_name name)))))

  tagged_written : (kind : TextKind) (name : Name) (tree : Tree) (inner rest : List Call) (place : EnumPlace) → MayHold kind tree → Says tree inner (Call.TaggedEnd (bare_name name) ∷ rest) → HaveWholeTexts inner
      → written_from inner (in_key Elsewhere) ≡ and_then (key_result tree false) (written_from (Call.TaggedEnd (bare_name name) ∷ rest) (in_key (after tree)))
      → TaggedIsWritten kind name tree inner rest place
  tagged_written Ordinary name tree inner rest place m s w h =
      ap (λ r. rest_of inner (on_packed r (λ front. writes (front ++ []) (in_key Elsewhere)))) (key_opening style.lengths (handle name) place) ∙ ordinary_key (is_begun place && is_some (handle name)) tree inner (bare_name name) rest h
  tagged_written Number name (Text text) inner rest place m s w h =
      ap (λ r. rest_of inner (on_packed r (λ front. writes (front ++ []) (cbor_state style Elsewhere true true counts)))) (key_opening style.lengths (handle name) place)
      ∙ numeric_key (is_begun place && is_some (handle name)) text inner (bare_name name) rest (whole_text text inner (Call.TaggedEnd (bare_name name) ∷ rest) s w)
  tagged_written JsonText name (Text text) inner rest place m s w h =
      ap (λ r. rest_of inner (on_packed r (λ front. Err RawJson))) (key_opening style.lengths (handle name) place) ∙ raw_text_key (is_begun place && is_some (handle name)) text inner rest (written_from rest (in_key (after_handle (handle (bare_name name)))))
  tagged_written JsonNumber name (Text text) inner rest place m s w h =
      ap (λ r. rest_of inner (on_packed r (λ front. Err RawJson))) (key_opening style.lengths (handle name) place) ∙ raw_number_key (is_begun place && is_some (handle name)) text inner rest (written_from rest (in_key (after_handle (handle (bare_name name)))))
  tagged_written JsonValue name (Text text) inner rest place m s w h = raw_value_key (is_wrapped (is_begun place) name) text (written_from rest (in_key (after_handle (handle (bare_name name)))))
  tagged_written kind name tree inner rest place m s w h = absurd m

  -- ---- enums

  abbrev enum_result : Bool → Result Key json.Refusal → Bool → Result (List ℕ) PackRefusal
  enum_result wrapped k raw = map_packed key_string (pack_key_as (if wrapped then Err json.InvalidKey else k) raw)

  empty_enum_by : (b : Bool) (name : Name) (rest : List Call)
      → rest_of (Call.EnumEnd (bare_name name) ∷ rest) (on_packed (opened_key b) (λ front. writes (front ++ []) (in_key Begun)))
      ≡ and_then (enum_result b (Ok (escaped_key (bare_text (own name)))) false) (written_from rest (in_key (after_handle (handle (bare_name name)))))
  empty_enum_by true name rest = refl
  empty_enum_by false name rest =
      let q = written_from rest (in_key (after_handle (handle (bare_name name)))) in
      prepend_nothing (prepend (string 3 (bare_text (own (bare_name name)))) q) ∙ ap (λ json. prepend (string 3 (bare_text json)) q) (bare_own name)

  enum_by : (b : Bool) (name : Name) (tree : Tree) (inner rest : List Call)
      → written_from inner (in_key Begun) ≡ and_then (key_result tree true) (written_from (Call.EnumEnd (bare_name name) ∷ rest) (in_key (after tree)))
      → rest_of inner (on_packed (opened_key b) (λ front. writes (front ++ []) (in_key Begun)))
      ≡ and_then (enum_result b (key tree true) (is_raw tree)) (written_from rest (in_key (after_handle (handle (bare_name name)))))
  enum_by true name tree inner rest h = refl
  enum_by false name tree inner rest h =
      let q = written_from rest (in_key (after_handle (handle (bare_name name)))) in
      prepend_nothing (written_from inner (in_key Begun)) ∙ h ∙ ap (λ bytes. and_then (key_result tree true) (prepend bytes q)) (quiet_after style.lengths tree (own (bare_name name))) ∙ and_nothing (key_result tree true) q

  -- ---- keys

  refused_container : (head : Head) (size : Option ℕ) (calls : List Call) (place : EnumPlace) → written_from (Call.Begin head size ∷ calls) (in_key place) ≡ Err BadKey
  refused_container Head.Seq size calls place = refl
  refused_container Head.Map size calls place = refl
  refused_container (Head.Record name) size calls place = refl
  refused_container (Head.Tuple name) size calls place = refl
  refused_container (Head.RecordTuple name) size calls place = refl

  text_key : (bytes : List ℕ) (calls rest : List Call) (place : EnumPlace) → IsWholeText calls bytes rest → written_from calls (in_key place) ≡ prepend (string 3 bytes) (written_from rest (in_key Elsewhere))
  text_key bytes calls rest place w =
      ap (λ cs. written_from cs (in_key place)) w.is ∙ prepend_nothing (prepend (string 3 bytes) (prepend [] (written_from rest (in_key Elsewhere))))
      ∙ ap (prepend (string 3 bytes)) (prepend_nothing (written_from rest (in_key Elsewhere)))

  pub key_written : (t : Tree) (calls rest : List Call) (place : EnumPlace) → Says t calls rest → HaveWholeTexts calls → IsGood t
      → written_from calls (in_key place) ≡ and_then (key_result t (is_begun place)) (written_from rest (in_key (after t)))
  key_written Null calls rest place s w g = ap (λ cs. written_from cs (in_key place)) s
  key_written (Truth b) calls rest place s w g = ap (λ cs. written_from cs (in_key place)) s
  key_written (Int type n) calls rest place s w g = ap (λ cs. written_from cs (in_key place)) s
  key_written (Text bytes) calls rest place s w g = text_key bytes calls rest place (whole_text bytes calls rest s w)
  key_written (Binary bytes) calls rest place s w g = ap (λ cs. written_from cs (in_key place)) s.4
  key_written (Standalone name) calls rest place s w g = ap (λ cs. written_from cs (in_key place)) s
  key_written (Tagged name tree) calls rest place s w g =
      let v = whole_inside (Call.TaggedBegin name) calls s.0 s.1 refl w in
      ap (λ cs. written_from cs (in_key place)) s.1
      ∙ tagged_written (text_kind name.tag) name tree s.0 rest place g.1 s.2 v (key_written tree s.0 (Call.TaggedEnd (bare_name name) ∷ rest) Elsewhere s.2 v g.2)
  key_written (EmptyEnum name) calls rest place s w g =
      ap (λ cs. written_from cs (in_key place)) s
      ∙ ap (λ r. rest_of (Call.EnumEnd (bare_name name) ∷ rest) (on_packed r (λ front. writes (front ++ []) (in_key Begun)))) (key_opening style.lengths (handle name) place)
      ∙ empty_enum_by (is_begun place && is_some (handle name)) name rest
  key_written (Enum name tree) calls rest place s w g =
      let v = whole_inside (Call.EnumBegin name) calls s.0 s.1 refl w in
      ap (λ cs. written_from cs (in_key place)) s.1
      ∙ ap (λ r. rest_of s.0 (on_packed r (λ front. writes (front ++ []) (in_key Begun)))) (key_opening style.lengths (handle name) place)
      ∙ enum_by (is_begun place && is_some (handle name)) name tree s.0 rest (key_written tree s.0 (Call.EnumEnd (bare_name name) ∷ rest) Begun s.2 v g.2)
  key_written (Container head parts) calls rest place s w g = ap (λ cs. written_from cs (in_key place)) s.3 ∙ refused_container head s.0 s.1 place
