-- The compact text of JSON is laid out as its pretty text.
use Rattle.std.specs.Prelude.{◌≡◌, ℕ, zero, suc, Bool, true, false, cond, ◌&&◌, ◌||◌, ◌==◌, nat_lt, List, [], ◌∷◌, ◌++◌, Option, Some, None, codes, refl}
use Rattle.std.specs.List.{list_all}
use Rattle.std.proofs.Common.{sym, ap, ◌∙◌, subst, arith, append_assoc, append-nil}
use Rattle.std.proofs.lemmas.Bool.{and_parts}
use Rattle.std.proofs.lemmas.Bool.Decides.{nat_tests}
use Rattle.sval_label.specs.Texts.{truth_text}
use Rattle.sval_json.specs.Digits.{is_number_byte}
use Rattle.sval_json.specs.Escape.{escaped, in_quotes}
use Rattle.sval_json.specs.Grammar.{IsNumber, IsString, is_space}
use Rattle.sval_json.specs.Json as shape
use Rattle.sval_json.specs.Json.{Key, escaped_key, raw_key, Json, Items, no_item, item, Pairs, no_pair, pair, key_text, compact, compact_items, compact_pairs}
use Rattle.sval_json.proofs.NumberGrammar.{number_bytes, number_first, starts_as_number}
use Rattle.sval_json.proofs.Append.{string-append}
use Rattle.sval_json.proofs.EscapedString.{escaped-string}
use Rattle.sval_pretty.specs.declared.layout.Mark.{Mark}
use Rattle.sval_pretty.specs.declared.layout.Mark.TheVariants.{Other}
use Rattle.sval_pretty.specs.declared.layout.Gap.{Gap}
use Rattle.sval_pretty.specs.declared.layout.Gap.TheVariants.{Nothing, First, Line, Blank}
use Rattle.sval_pretty.specs.declared.layout.Place.{Place}
use Rattle.sval_pretty.specs.declared.layout.Place.TheVariants.{Outside, Inside, Escaped}
use Rattle.sval_pretty.specs.Layout.{new_line, mark_of_byte, gap_text, laid_out, place_after, depth_after, pretty}
use Rattle.sval_pretty.specs.PrettyJson.{pretty_json, pretty_items, pretty_pairs, begins_at_once, is_begin, StandsAlone, IsQuoted, IsQuotedKey, HasLeaves, ItemsHaveLeaves, PairsHaveLeaves}
use Rattle.sval_pretty.proofs.Laying.{laid-append, begun}
use Rattle.sval_pretty.proofs.Bodies.{closed_body, body_laid}

-- ---- texts and what is laid out of them

-- behind any gap, whatever follows
abbrev pub Lays : List ℕ → List ℕ → ℕ → Type 0
Lays text out depth = (gap : Gap) (rest : List ℕ) → laid_out (Outside gap) depth (text ++ rest) ≡ gap_text gap depth ++ (out ++ laid_out (Outside Nothing) depth rest)

quotes_lay : (bytes text : List ℕ) (depth : ℕ) → ((rest : List ℕ) → IsString (bytes ++ (34 ∷ rest)) text rest) → Lays (in_quotes bytes) (in_quotes bytes) depth
quotes_lay bytes text depth s gap rest =
    let inner : laid_out Inside depth ((bytes ++ (34 ∷ [])) ++ rest) ≡ (bytes ++ (34 ∷ [])) ++ laid_out (Outside Nothing) depth rest =
    body_laid depth rest (closed_body bytes text (s [])) in
    begun gap depth 34 ((bytes ++ (34 ∷ [])) ++ rest) refl ∙ ap (λ x. gap_text gap depth ++ (34 ∷ x)) inner

quoted_lay : (bytes : List ℕ) (depth : ℕ) → IsQuoted bytes → Lays (in_quotes bytes) (in_quotes bytes) depth
quoted_lay bytes depth q = quotes_lay bytes q.0 depth (λ rest. subst (λ x. IsString x q.0 rest) (append_assoc bytes (34 ∷ []) rest) (string-append rest q.1))

key_lays : (key : Key) (depth : ℕ) → IsQuotedKey key → Lays (key_text key) (key_text key) depth
key_lays (escaped_key bytes) depth h = quotes_lay (escaped bytes) bytes depth (escaped-string bytes)
key_lays (raw_key bytes) depth h = quoted_lay bytes depth h

number_other : (byte : ℕ) → is_number_byte byte ≡ true → mark_of_byte byte ≡ Other
number_other byte h =
    let a : is_space byte ≡ false = grind (arith, nat_tests) in
    let b : (byte == 34) ≡ false = grind (arith, nat_tests) in
    let c : ((byte == 91) || (byte == 123)) ≡ false = grind (arith, nat_tests) in
    let d : ((byte == 93) || (byte == 125)) ≡ false = grind (arith, nat_tests) in
    let e : (byte == 44) ≡ false = grind (arith, nat_tests) in
    let f : (byte == 58) ≡ false = grind (arith, nat_tests) in
    rw (a, b, c, d, e, f) refl

other_kept : (depth byte : ℕ) (bytes : List ℕ) → is_number_byte byte ≡ true → laid_out (Outside Nothing) depth (byte ∷ bytes) ≡ byte ∷ laid_out (Outside Nothing) depth bytes
other_kept depth byte bytes h =
    let a : is_space byte ≡ false = grind (arith, nat_tests) in
    let b : (byte == 34) ≡ false = grind (arith, nat_tests) in
    let c : ((byte == 91) || (byte == 123)) ≡ false = grind (arith, nat_tests) in
    let d : ((byte == 93) || (byte == 125)) ≡ false = grind (arith, nat_tests) in
    let e : (byte == 44) ≡ false = grind (arith, nat_tests) in
    let f : (byte == 58) ≡ false = grind (arith, nat_tests) in
    rw (a, b, c, d, e, f) refl

others_kept : (depth : ℕ) (bytes rest : List ℕ) → list_all is_number_byte bytes ≡ true → laid_out (Outside Nothing) depth (bytes ++ rest) ≡ bytes ++ laid_out (Outside Nothing) depth rest
others_kept depth [] rest h = refl
others_kept depth (byte ∷ bytes) rest h =
    let (a, r) = and_parts (is_number_byte byte) (list_all is_number_byte bytes) h in
    other_kept depth byte (bytes ++ rest) a ∙ ap (λ x. byte ∷ x) (others_kept depth bytes rest r)

pub number_lays : (bytes : List ℕ) (depth : ℕ) → IsNumber bytes → Lays bytes bytes depth
number_lays bytes depth n = by bytes (number_bytes bytes n) (number_first [] (sym (append-nil bytes)) n)
  where
    by : (text : List ℕ) → list_all is_number_byte text ≡ true → starts_as_number text ≡ true → Lays text text depth
    by [] a s = λ gap rest. cc s
    by (byte ∷ text) a s = λ gap rest.
        let h = (and_parts (is_number_byte byte) (list_all is_number_byte text) a).0 in
        begun gap depth byte (text ++ rest) (ap is_begin (number_other byte h)) ∙ ap (λ x. gap_text gap depth ++ x) (others_kept depth (byte ∷ text) rest a)

raw_lays : (bytes : List ℕ) (depth : ℕ) → StandsAlone bytes → Lays bytes (laid_out (Outside Nothing) depth bytes) depth
raw_lays bytes depth h = by bytes h.begins h.place (h.depth depth)
  where
    by : (text : List ℕ) → begins_at_once text ≡ true → place_after (Outside Nothing) text ≡ Outside Nothing → depth_after (Outside Nothing) depth text ≡ depth
        → Lays text (laid_out (Outside Nothing) depth text) depth
    by [] b p d = λ gap rest. cc b
    by (byte ∷ text) b p d = λ gap rest.
        begun gap depth byte (text ++ rest) b
        ∙ ap (λ x. gap_text gap depth ++ x) (laid-append (Outside Nothing) depth (byte ∷ text) rest
        ∙ ap (λ x. laid_out (Outside Nothing) depth (byte ∷ text) ++ laid_out x (depth_after (Outside Nothing) depth (byte ∷ text)) rest) p
        ∙ ap (λ x. laid_out (Outside Nothing) depth (byte ∷ text) ++ laid_out (Outside Nothing) x rest) d)

truth_lays : (b : Bool) (depth : ℕ) → Lays (truth_text b) (truth_text b) depth
truth_lays true depth = λ gap rest. begun gap depth 116 (114 ∷ 117 ∷ 101 ∷ rest) refl
truth_lays false depth = λ gap rest. begun gap depth 102 (97 ∷ 108 ∷ 115 ∷ 101 ∷ rest) refl

-- ---- items and pairs

-- what stands behind a first item: of a tail that is laid out so
item_lays : (json out items others tail laid : List ℕ) (depth : ℕ) → Lays json out depth → laid_out (Outside Nothing) depth (items ++ tail) ≡ others ++ laid
    → (gap : Gap) → laid_out (Outside gap) depth ((json ++ items) ++ tail) ≡ gap_text gap depth ++ (out ++ (others ++ laid))
item_lays json out items others tail laid depth j e gap =
    ap (laid_out (Outside gap) depth) (append_assoc json items tail) ∙ j gap (items ++ tail) ∙ ap (λ x. gap_text gap depth ++ (out ++ x)) e

regrouped : (a b c d : List ℕ) → ((a ++ b) ++ c) ++ d ≡ a ++ (b ++ (c ++ d))
regrouped a b c d = append_assoc (a ++ b) c d ∙ append_assoc a b (c ++ d)

array_lays : (json out items others : List ℕ) (depth : ℕ) → Lays json out (suc depth)
    → ((rest : List ℕ) → laid_out (Outside Nothing) (suc depth) (items ++ (93 ∷ rest)) ≡ others ++ (new_line depth ++ (93 ∷ laid_out (Outside Nothing) depth rest)))
    → Lays (91 ∷ ((json ++ items) ++ (93 ∷ []))) (91 ∷ ((((new_line (suc depth) ++ out) ++ others) ++ new_line depth) ++ (93 ∷ []))) depth
array_lays json out items others depth j e gap rest =
    let last = 93 ∷ laid_out (Outside Nothing) depth rest in
    begun gap depth 91 (((json ++ items) ++ (93 ∷ [])) ++ rest) refl
    ∙ ap (λ x. gap_text gap depth ++ (91 ∷ x))
    (ap (laid_out (Outside First) (suc depth)) (append_assoc (json ++ items) (93 ∷ []) rest)
    ∙ item_lays json out items others (93 ∷ rest) (new_line depth ++ last) (suc depth) j (e rest) First
    ∙ sym (append_assoc (((new_line (suc depth) ++ out) ++ others) ++ new_line depth) (93 ∷ []) (laid_out (Outside Nothing) depth rest)
    ∙ append_assoc ((new_line (suc depth) ++ out) ++ others) (new_line depth) last
    ∙ regrouped (new_line (suc depth)) out others (new_line depth ++ last)))

pair_lays : (key json out pairs others tail laid : List ℕ) (depth : ℕ) → Lays key key depth → Lays json out depth
    → laid_out (Outside Nothing) depth (pairs ++ tail) ≡ others ++ laid
    → (gap : Gap) → laid_out (Outside gap) depth ((((key ++ (58 ∷ [])) ++ json) ++ pairs) ++ tail) ≡ gap_text gap depth ++ (key ++ (58 ∷ 32 ∷ (out ++ (others ++ laid))))
pair_lays key json out pairs others tail laid depth k j e gap =
    ap (laid_out (Outside gap) depth)
    (append_assoc ((key ++ (58 ∷ [])) ++ json) pairs tail ∙ append_assoc (key ++ (58 ∷ [])) json (pairs ++ tail) ∙ append_assoc key (58 ∷ []) (json ++ (pairs ++ tail)))
    ∙ k gap (58 ∷ (json ++ (pairs ++ tail)))
    ∙ ap (λ x. gap_text gap depth ++ (key ++ (58 ∷ x))) (j Blank (pairs ++ tail) ∙ ap (λ x. 32 ∷ (out ++ x)) e)

pair_regrouped : (line key out others laid : List ℕ) → ((((line ++ key) ++ (58 ∷ 32 ∷ [])) ++ out) ++ others) ++ laid ≡ line ++ (key ++ (58 ∷ 32 ∷ (out ++ (others ++ laid))))
pair_regrouped line key out others laid =
    append_assoc (((line ++ key) ++ (58 ∷ 32 ∷ [])) ++ out) others laid
    ∙ append_assoc ((line ++ key) ++ (58 ∷ 32 ∷ [])) out (others ++ laid)
    ∙ append_assoc (line ++ key) (58 ∷ 32 ∷ []) (out ++ (others ++ laid))
    ∙ append_assoc line key (58 ∷ 32 ∷ (out ++ (others ++ laid)))

object_lays : (key json out pairs others : List ℕ) (depth : ℕ) → Lays key key (suc depth) → Lays json out (suc depth)
    → ((rest : List ℕ) → laid_out (Outside Nothing) (suc depth) (pairs ++ (125 ∷ rest)) ≡ others ++ (new_line depth ++ (125 ∷ laid_out (Outside Nothing) depth rest)))
    → Lays (123 ∷ ((((key ++ (58 ∷ [])) ++ json) ++ pairs) ++ (125 ∷ [])))
    (123 ∷ ((((((new_line (suc depth) ++ key) ++ (58 ∷ 32 ∷ [])) ++ out) ++ others) ++ new_line depth) ++ (125 ∷ []))) depth
object_lays key json out pairs others depth k j e gap rest =
    let last = 125 ∷ laid_out (Outside Nothing) depth rest in
    let all = (((key ++ (58 ∷ [])) ++ json) ++ pairs) in
    let inner = ((((new_line (suc depth) ++ key) ++ (58 ∷ 32 ∷ [])) ++ out) ++ others) in
    begun gap depth 123 ((all ++ (125 ∷ [])) ++ rest) refl
    ∙ ap (λ x. gap_text gap depth ++ (123 ∷ x))
    (ap (laid_out (Outside First) (suc depth)) (append_assoc all (125 ∷ []) rest)
    ∙ pair_lays key json out pairs others (125 ∷ rest) (new_line depth ++ last) (suc depth) k j (e rest) First
    ∙ sym (append_assoc (inner ++ new_line depth) (125 ∷ []) (laid_out (Outside Nothing) depth rest)
    ∙ append_assoc inner (new_line depth) last
    ∙ pair_regrouped (new_line (suc depth)) key out others (new_line depth ++ last)))

-- ---- JSON

mutual
  json_lays : (json : Json) → HasLeaves json → (depth : ℕ) → Lays (compact json) (pretty_json depth json) depth
  json_lays shape.null h depth = λ gap rest. begun gap depth 110 (117 ∷ 108 ∷ 108 ∷ rest) refl
  json_lays (shape.truth b) h depth = truth_lays b depth
  json_lays (shape.number bytes) h depth = number_lays bytes depth h
  json_lays (shape.text bytes) h depth = quotes_lay (escaped bytes) bytes depth (escaped-string bytes)
  json_lays (shape.quoted bytes) h depth = quoted_lay bytes depth h
  json_lays (shape.raw bytes) h depth = raw_lays bytes depth h
  json_lays (shape.array no_item) h depth = λ gap rest. begun gap depth 91 (93 ∷ rest) refl
  json_lays (shape.array (item json items)) h depth =
      array_lays (compact json) (pretty_json (suc depth) json) (compact_items false items) (pretty_items (suc depth) false items) depth
      (json_lays json h.0 (suc depth)) (items_lay items h.1 depth)
  json_lays (shape.object no_pair) h depth = λ gap rest. begun gap depth 123 (125 ∷ rest) refl
  json_lays (shape.object (pair key json pairs)) h depth =
      object_lays (key_text key) (compact json) (pretty_json (suc depth) json) (compact_pairs false pairs) (pretty_pairs (suc depth) false pairs) depth
      (key_lays key (suc depth) h.0) (json_lays json h.1 (suc depth)) (pairs_lay pairs h.2 depth)

  -- the items behind the first, up to the array's end
  items_lay : (items : Items) → ItemsHaveLeaves items → (depth : ℕ) (rest : List ℕ) → laid_out (Outside Nothing) (suc depth) (compact_items false items ++ (93 ∷ rest))
      ≡ pretty_items (suc depth) false items ++ (new_line depth ++ (93 ∷ laid_out (Outside Nothing) depth rest))
  items_lay no_item h depth rest = append_assoc (new_line depth) (93 ∷ []) (laid_out (Outside Nothing) depth rest)
  items_lay (item json items) h depth rest =
      ap (λ x. 44 ∷ x)
      (item_lays (compact json) (pretty_json (suc depth) json) (compact_items false items) (pretty_items (suc depth) false items) (93 ∷ rest)
      (new_line depth ++ (93 ∷ laid_out (Outside Nothing) depth rest)) (suc depth) (json_lays json h.0 (suc depth)) (items_lay items h.1 depth rest) Line
      ∙ sym (regrouped (new_line (suc depth)) (pretty_json (suc depth) json) (pretty_items (suc depth) false items) (new_line depth ++ (93 ∷ laid_out (Outside Nothing) depth rest))))

  -- the pairs behind the first, up to the object's end
  pairs_lay : (pairs : Pairs) → PairsHaveLeaves pairs → (depth : ℕ) (rest : List ℕ) → laid_out (Outside Nothing) (suc depth) (compact_pairs false pairs ++ (125 ∷ rest))
      ≡ pretty_pairs (suc depth) false pairs ++ (new_line depth ++ (125 ∷ laid_out (Outside Nothing) depth rest))
  pairs_lay no_pair h depth rest = append_assoc (new_line depth) (125 ∷ []) (laid_out (Outside Nothing) depth rest)
  pairs_lay (pair key json pairs) h depth rest =
      ap (λ x. 44 ∷ x)
      (pair_lays (key_text key) (compact json) (pretty_json (suc depth) json) (compact_pairs false pairs) (pretty_pairs (suc depth) false pairs) (125 ∷ rest)
      (new_line depth ++ (125 ∷ laid_out (Outside Nothing) depth rest)) (suc depth) (key_lays key (suc depth) h.0) (json_lays json h.1 (suc depth)) (pairs_lay pairs h.2 depth rest) Line
      ∙ sym (pair_regrouped (new_line (suc depth)) (key_text key) (pretty_json (suc depth) json) (pretty_pairs (suc depth) false pairs)
      (new_line depth ++ (125 ∷ laid_out (Outside Nothing) depth rest))))

pub laid_json : (json : Json) → HasLeaves json → pretty (compact json) ≡ pretty_json 0 json
laid_json json h =
    ap pretty (sym (append-nil (compact json))) ∙ json_lays json h 0 Nothing [] ∙ append-nil (pretty_json 0 json)
