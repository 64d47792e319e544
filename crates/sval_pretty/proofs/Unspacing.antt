-- But for white space outside strings, the layout is the text, and compact JSON is itself.
use Rattle.std.specs.Prelude.{◌≡◌, ℕ, zero, suc, Bool, true, false, cond, if◌then◌else◌, ◌||◌, ◌==◌, List, [], ◌∷◌, ◌++◌, codes, refl}
use Rattle.std.specs.List.{list_all}
use Rattle.std.proofs.Common.{sym, ap, ◌∙◌, subst, arith, append_assoc, append-nil}
use Rattle.std.proofs.lemmas.Bool.{and_parts}
use Rattle.std.proofs.lemmas.Bool.Decides.{nat_tests}
use Rattle.sval_label.specs.Texts.{truth_text}
use Rattle.sval_json.specs.Digits.{is_number_byte}
use Rattle.sval_json.specs.Escape.{escaped, in_quotes}
use Rattle.sval_json.specs.Grammar.{is_space, IsNumber, IsString}
use Rattle.sval_json.specs.Json as shape
use Rattle.sval_json.specs.Json.{Key, escaped_key, raw_key, Json, Items, no_item, item, Pairs, no_pair, pair, key_text, comma, compact, compact_items, compact_pairs}
use Rattle.sval_json.proofs.NumberGrammar.{number_bytes}
use Rattle.sval_json.proofs.Append.{string-append}
use Rattle.sval_json.proofs.EscapedString.{escaped-string}
use Rattle.sval_pretty.specs.declared.layout.Mark.{Mark}
use Rattle.sval_pretty.specs.declared.layout.Mark.TheVariants.{Space, Quote, Begin, End, Comma, Colon, Other}
use Rattle.sval_pretty.specs.declared.layout.Gap.{Gap}
use Rattle.sval_pretty.specs.declared.layout.Gap.TheVariants.{Nothing, First, Line, Blank}
use Rattle.sval_pretty.specs.declared.layout.Place.{Place}
use Rattle.sval_pretty.specs.declared.layout.Place.TheVariants.{Outside, Inside, Escaped}
use Rattle.sval_pretty.specs.Layout.{indent, new_line, one_less, mark_of_byte, place_behind, next_place, depth_past, next_depth, gap_text, gap_at_end, laid_outside, laid_byte, laid_out, place_after, pretty, StringPlace, Outer, String, Backslash, next_string_place, unspaced_from, unspaced}
use Rattle.sval_pretty.specs.PrettyJson.{pretty_json, StandsAlone, IsQuoted, IsQuotedKey, HasLeaves, ItemsHaveLeaves, PairsHaveLeaves}
use Rattle.sval_pretty.proofs.Bodies.{closed_body, body_unspaced}
use Rattle.sval_pretty.proofs.LaidJson.{laid_json}

-- ---- places

abbrev pub string_place_of : Place → StringPlace
string_place_of (Outside gap) = Outer
string_place_of Inside = String
string_place_of Escaped = Backslash

-- of the tests that tell a byte's mark
marked : (gap : Gap) (q b e c k : Bool)
    → string_place_of (place_behind gap (if q then Quote else if b then Begin else if e then End else if c then Comma else if k then Colon else Other)) ≡ cond q String Outer
marked gap true b e c k = refl
marked gap false true e c k = refl
marked gap false false true c k = refl
marked gap false false false true k = refl
marked gap false false false false true = refl
marked gap false false false false false = refl

space_no_quote : (byte : ℕ) → is_space byte ≡ true → (byte == 34) ≡ false
space_no_quote byte h = grind (arith, nat_tests)

outside_within : (gap : Gap) (byte : ℕ) (s : Bool) → is_space byte ≡ s → string_place_of (next_place (Outside gap) byte) ≡ next_string_place Outer byte
outside_within gap byte true h = rw (space_no_quote byte h, h) refl
outside_within gap byte false h = rw h (marked gap (byte == 34) ((byte == 91) || (byte == 123)) ((byte == 93) || (byte == 125)) (byte == 44) (byte == 58))

inside_within : (q b : Bool) → string_place_of (if q then Outside Nothing else if b then Escaped else Inside) ≡ (if q then Outer else if b then Backslash else String)
inside_within true b = refl
inside_within false true = refl
inside_within false false = refl

next_same : (place : Place) (byte : ℕ) → string_place_of (next_place place byte) ≡ next_string_place (string_place_of place) byte
next_same (Outside gap) byte = outside_within gap byte (is_space byte) refl
next_same Inside byte = inside_within (byte == 34) (byte == 92)
next_same Escaped byte = refl

-- ---- white space that the layout adds

indent_unspaced : (depth : ℕ) (xs : List ℕ) → unspaced_from Outer (indent depth ++ xs) ≡ unspaced_from Outer xs
indent_unspaced zero xs = refl
indent_unspaced (suc depth) xs = indent_unspaced depth xs

line_unspaced : (depth : ℕ) (xs : List ℕ) → unspaced_from Outer (new_line depth ++ xs) ≡ unspaced_from Outer xs
line_unspaced depth xs = indent_unspaced depth xs

gap_unspaced : (gap : Gap) (depth : ℕ) (xs : List ℕ) → unspaced_from Outer (gap_text gap depth ++ xs) ≡ unspaced_from Outer xs
gap_unspaced Nothing depth xs = refl
gap_unspaced First depth xs = line_unspaced depth xs
gap_unspaced Line depth xs = line_unspaced depth xs
gap_unspaced Blank depth xs = refl

end_unspaced : (gap : Gap) (depth : ℕ) (xs : List ℕ) → unspaced_from Outer (gap_at_end gap depth ++ xs) ≡ unspaced_from Outer xs
end_unspaced First depth xs = refl
end_unspaced Nothing depth xs = line_unspaced (one_less depth) xs
end_unspaced Line depth xs = line_unspaced (one_less depth) xs
end_unspaced Blank depth xs = line_unspaced (one_less depth) xs

-- white space before the byte, or nothing at all
laid_unspaced_at : (gap : Gap) (depth byte : ℕ) (xs : List ℕ) (m : Mark) → (m ≡ Space → unspaced_from Outer (byte ∷ xs) ≡ unspaced_from Outer xs)
    → unspaced_from Outer (laid_outside gap depth byte m ++ xs) ≡ unspaced_from Outer (byte ∷ xs)
laid_unspaced_at gap depth byte xs Space f = sym (f refl)
laid_unspaced_at gap depth byte xs End f = ap (unspaced_from Outer) (append_assoc (gap_at_end gap depth) (byte ∷ []) xs) ∙ end_unspaced gap depth (byte ∷ xs)
laid_unspaced_at gap depth byte xs Quote f = ap (unspaced_from Outer) (append_assoc (gap_text gap depth) (byte ∷ []) xs) ∙ gap_unspaced gap depth (byte ∷ xs)
laid_unspaced_at gap depth byte xs Begin f = ap (unspaced_from Outer) (append_assoc (gap_text gap depth) (byte ∷ []) xs) ∙ gap_unspaced gap depth (byte ∷ xs)
laid_unspaced_at gap depth byte xs Comma f = ap (unspaced_from Outer) (append_assoc (gap_text gap depth) (byte ∷ []) xs) ∙ gap_unspaced gap depth (byte ∷ xs)
laid_unspaced_at gap depth byte xs Colon f = ap (unspaced_from Outer) (append_assoc (gap_text gap depth) (byte ∷ []) xs) ∙ gap_unspaced gap depth (byte ∷ xs)
laid_unspaced_at gap depth byte xs Other f = ap (unspaced_from Outer) (append_assoc (gap_text gap depth) (byte ∷ []) xs) ∙ gap_unspaced gap depth (byte ∷ xs)

-- only white space has its mark
space_marked : (byte : ℕ) (s : Bool) → is_space byte ≡ s → mark_of_byte byte ≡ Space → is_space byte ≡ true
space_marked byte true h e = h
space_marked byte false h e = absurd (none (byte == 34) ((byte == 91) || (byte == 123)) ((byte == 93) || (byte == 125)) (byte == 44) (byte == 58) (rw h at e))
  where
    none : (q b e c k : Bool) → (if q then Quote else if b then Begin else if e then End else if c then Comma else if k then Colon else Other) ≡ Space → ⊥
    none true b e c k f = cc f
    none false true e c k f = cc f
    none false false true c k f = cc f
    none false false false true k f = cc f
    none false false false false true f = cc f
    none false false false false false f = cc f

space_dropped : (byte : ℕ) (xs : List ℕ) → is_space byte ≡ true → unspaced_from Outer (byte ∷ xs) ≡ unspaced_from Outer xs
space_dropped byte xs h = rw h refl

outer_step : (byte : ℕ) (xs ys : List ℕ) → unspaced_from (next_string_place Outer byte) xs ≡ unspaced_from (next_string_place Outer byte) ys
    → unspaced_from Outer (byte ∷ xs) ≡ unspaced_from Outer (byte ∷ ys)
outer_step byte xs ys e = go (is_space byte) refl
  where
    go : (s : Bool) → is_space byte ≡ s → cond s (unspaced_from Outer xs) (byte ∷ unspaced_from (next_string_place Outer byte) xs) ≡ cond s (unspaced_from Outer ys) (byte ∷ unspaced_from (next_string_place Outer byte) ys)
    go true h = let o : next_string_place Outer byte ≡ Outer = rw (space_no_quote byte h) refl in subst (λ w. unspaced_from w xs ≡ unspaced_from w ys) o e
    go false h = ap (λ x. byte ∷ x) e

pub laid_unspaced : (place : Place) (depth : ℕ) (text : List ℕ) → unspaced_from (string_place_of place) (laid_out place depth text) ≡ unspaced_from (string_place_of place) text
laid_unspaced place depth [] = refl
laid_unspaced (Outside gap) depth (byte ∷ bytes) =
    let rest = laid_out (next_place (Outside gap) byte) (next_depth (Outside gap) depth byte) bytes in
    let later : unspaced_from (next_string_place Outer byte) rest ≡ unspaced_from (next_string_place Outer byte) bytes =
    subst (λ w. unspaced_from w rest ≡ unspaced_from w bytes) (next_same (Outside gap) byte) (laid_unspaced (next_place (Outside gap) byte) (next_depth (Outside gap) depth byte) bytes) in
    laid_unspaced_at gap depth byte rest (mark_of_byte byte) (λ m. space_dropped byte rest (space_marked byte (is_space byte) refl m))
    ∙ outer_step byte rest bytes later
laid_unspaced Inside depth (byte ∷ bytes) =
    let rest = laid_out (next_place Inside byte) depth bytes in
    ap (λ x. byte ∷ x) (subst (λ w. unspaced_from w rest ≡ unspaced_from w bytes) (next_same Inside byte) (laid_unspaced (next_place Inside byte) depth bytes))
laid_unspaced Escaped depth (byte ∷ bytes) = ap (λ x. byte ∷ x) (laid_unspaced Inside depth bytes)

pub pretty_unspaced : (text : List ℕ) → unspaced (pretty text) ≡ unspaced text
pretty_unspaced text = laid_unspaced (Outside Nothing) 0 text

-- ---- compact JSON has none

-- it is kept, whatever follows
abbrev IsKept : List ℕ → Type 0
IsKept text = (rest : List ℕ) → unspaced_from Outer (text ++ rest) ≡ text ++ unspaced_from Outer rest

kept-append : (xs ys : List ℕ) → IsKept xs → IsKept ys → IsKept (xs ++ ys)
kept-append xs ys k l rest =
    ap (unspaced_from Outer) (append_assoc xs ys rest) ∙ k (ys ++ rest) ∙ ap (λ z. xs ++ z) (l rest) ∙ sym (append_assoc xs ys (unspaced_from Outer rest))

number_kept : (byte : ℕ) (xs : List ℕ) → is_number_byte byte ≡ true → unspaced_from Outer (byte ∷ xs) ≡ byte ∷ unspaced_from Outer xs
number_kept byte xs h =
    let a : is_space byte ≡ false = grind (arith, nat_tests) in
    let b : (byte == 34) ≡ false = grind (arith, nat_tests) in
    rw (a, b) refl

numbers_kept : (bytes : List ℕ) → list_all is_number_byte bytes ≡ true → IsKept bytes
numbers_kept [] h rest = refl
numbers_kept (byte ∷ bytes) h rest =
    let (a, r) = and_parts (is_number_byte byte) (list_all is_number_byte bytes) h in
    number_kept byte (bytes ++ rest) a ∙ ap (λ x. byte ∷ x) (numbers_kept bytes r rest)

quotes_kept : (bytes text : List ℕ) → IsString (bytes ++ (34 ∷ [])) text [] → IsKept (in_quotes bytes)
quotes_kept bytes text s rest = ap (λ x. 34 ∷ x) (body_unspaced rest (closed_body bytes text s))

key_kept : (key : Key) → IsQuotedKey key → IsKept (key_text key)
key_kept (escaped_key bytes) h = quotes_kept (escaped bytes) bytes (escaped-string bytes [])
key_kept (raw_key bytes) h = quotes_kept bytes h.0 h.1

truth_kept : (b : Bool) → IsKept (truth_text b)
truth_kept true rest = refl
truth_kept false rest = refl

comma_kept : (b : Bool) → IsKept (comma b)
comma_kept true rest = refl
comma_kept false rest = refl

-- where white space is dropped behind the bytes
abbrev within_after : StringPlace → List ℕ → StringPlace
within_after within [] = within
within_after within (byte ∷ bytes) = within_after (next_string_place within byte) bytes

after_same : (place : Place) (bytes : List ℕ) → string_place_of (place_after place bytes) ≡ within_after (string_place_of place) bytes
after_same place [] = refl
after_same place (byte ∷ bytes) = after_same (next_place place byte) bytes ∙ ap (λ w. within_after w bytes) (next_same place byte)

unspaced-append : (within : StringPlace) (xs ys : List ℕ) → unspaced_from within (xs ++ ys) ≡ unspaced_from within xs ++ unspaced_from (within_after within xs) ys
unspaced-append within [] ys = refl
unspaced-append Outer (x ∷ xs) ys = go (is_space x) refl (unspaced-append Outer xs ys) (unspaced-append (next_string_place Outer x) xs ys)
  where
    go : (s : Bool) → is_space x ≡ s → unspaced_from Outer (xs ++ ys) ≡ unspaced_from Outer xs ++ unspaced_from (within_after Outer xs) ys
        → unspaced_from (next_string_place Outer x) (xs ++ ys) ≡ unspaced_from (next_string_place Outer x) xs ++ unspaced_from (within_after (next_string_place Outer x) xs) ys
        → cond s (unspaced_from Outer (xs ++ ys)) (x ∷ unspaced_from (next_string_place Outer x) (xs ++ ys))
        ≡ cond s (unspaced_from Outer xs) (x ∷ unspaced_from (next_string_place Outer x) xs) ++ unspaced_from (within_after (next_string_place Outer x) xs) ys
    go true h a b = let o : next_string_place Outer x ≡ Outer = rw (space_no_quote x h) refl in
        subst (λ w. unspaced_from Outer (xs ++ ys) ≡ unspaced_from Outer xs ++ unspaced_from (within_after w xs) ys) (sym o) a
    go false h a b = ap (λ z. x ∷ z) b
unspaced-append String (x ∷ xs) ys = ap (λ z. x ∷ z) (unspaced-append (next_string_place String x) xs ys)
unspaced-append Backslash (x ∷ xs) ys = ap (λ z. x ∷ z) (unspaced-append String xs ys)

raw_kept : (bytes : List ℕ) → StandsAlone bytes → IsKept bytes
raw_kept bytes h rest =
    let o : within_after Outer bytes ≡ Outer = sym (after_same (Outside Nothing) bytes) ∙ ap string_place_of h.place in
    unspaced-append Outer bytes rest ∙ ap (λ x. x ++ unspaced_from (within_after Outer bytes) rest) h.is_compact ∙ ap (λ w. bytes ++ unspaced_from w rest) o

mutual
  json_kept : (json : Json) → HasLeaves json → IsKept (compact json)
  json_kept shape.null h = λ rest. refl
  json_kept (shape.truth b) h = truth_kept b
  json_kept (shape.number bytes) h = numbers_kept bytes (number_bytes bytes h)
  json_kept (shape.text bytes) h = quotes_kept (escaped bytes) bytes (escaped-string bytes [])
  json_kept (shape.quoted bytes) h = quotes_kept bytes h.0 h.1
  json_kept (shape.raw bytes) h = raw_kept bytes h
  json_kept (shape.array items) h = kept-append (91 ∷ compact_items true items) (93 ∷ []) (kept-append (91 ∷ []) (compact_items true items) (λ rest. refl) (items_kept true items h)) (λ rest. refl)
  json_kept (shape.object pairs) h = kept-append (123 ∷ compact_pairs true pairs) (125 ∷ []) (kept-append (123 ∷ []) (compact_pairs true pairs) (λ rest. refl) (pairs_kept true pairs h)) (λ rest. refl)

  items_kept : (first : Bool) (items : Items) → ItemsHaveLeaves items → IsKept (compact_items first items)
  items_kept first no_item h = λ rest. refl
  items_kept first (item json items) h =
      kept-append (comma first ++ compact json) (compact_items false items) (kept-append (comma first) (compact json) (comma_kept first) (json_kept json h.0)) (items_kept false items h.1)

  pairs_kept : (first : Bool) (pairs : Pairs) → PairsHaveLeaves pairs → IsKept (compact_pairs first pairs)
  pairs_kept first no_pair h = λ rest. refl
  pairs_kept first (pair key json pairs) h =
      kept-append (((comma first ++ key_text key) ++ (58 ∷ [])) ++ compact json) (compact_pairs false pairs)
      (kept-append ((comma first ++ key_text key) ++ (58 ∷ [])) (compact json)
      (kept-append (comma first ++ key_text key) (58 ∷ []) (kept-append (comma first) (key_text key) (comma_kept first) (key_kept key h.0)) (λ rest. refl)) (json_kept json h.1))
      (pairs_kept false pairs h.2)

compact_kept : (json : Json) → HasLeaves json → unspaced (compact json) ≡ compact json
compact_kept json h = ap unspaced (sym (append-nil (compact json))) ∙ json_kept json h [] ∙ append-nil (compact json)

pub pretty_is_compact : (json : Json) → HasLeaves json → unspaced (pretty_json 0 json) ≡ compact json
pretty_is_compact json h = ap unspaced (sym (laid_json json h)) ∙ pretty_unspaced (compact json) ∙ compact_kept json h
