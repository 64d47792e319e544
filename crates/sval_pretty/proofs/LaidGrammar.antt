-- The layout of a text denotes what the text denotes.
use Rattle.std.specs.Prelude.{◌≡◌, ℕ, zero, suc, Bool, true, false, cond, ◌==◌, List, [], ◌∷◌, ◌++◌, codes, refl}
use Rattle.std.specs.Char.{encode_utf8}
use Rattle.std.proofs.Common.{sym, ap, ◌∙◌, subst, append_assoc}
use Rattle.sval_json.specs.Grammar as grammar
use Rattle.sval_json.specs.Grammar.{JsonValue, Values, Members, Denotes, IsString, close, unescaped, escape, unit, IsValue, AreJsonValues, last_value, more_values, AreMembers, last_member, more_members, after_space, is_space, pair_of}
use Rattle.sval_json.specs.Json.{Json, compact}
use Rattle.sval_json.proofs.CompactText.{value_first}
use Rattle.sval_pretty.specs.declared.layout.Gap.{Gap}
use Rattle.sval_pretty.specs.declared.layout.Gap.TheVariants.{Nothing, First, Line, Blank}
use Rattle.sval_pretty.specs.declared.layout.Place.TheVariants.{Outside, Inside, Escaped}
use Rattle.sval_pretty.specs.Layout.{indent, new_line, gap_text, laid_out, pretty}
use Rattle.sval_pretty.specs.PrettyJson.{pretty_json, HasLeaves}
use Rattle.sval_pretty.proofs.Laying.{begun, inside_kept}
use Rattle.sval_pretty.proofs.Bodies.{AreHex, unit_hex, hex_kept, no_quote, no_backslash}
use Rattle.sval_pretty.proofs.LaidJson.{number_lays, laid_json}
use Rattle.sval_pretty.proofs.LaidUtf8.{laid_utf8}

-- ---- white space

laid_space : (gap : Gap) (depth byte : ℕ) (bytes : List ℕ) → is_space byte ≡ true → laid_out (Outside gap) depth (byte ∷ bytes) ≡ laid_out (Outside gap) depth bytes
laid_space gap depth byte bytes h = rw h refl

laid_after_space : (gap : Gap) (depth : ℕ) (bytes : List ℕ) → laid_out (Outside gap) depth bytes ≡ laid_out (Outside gap) depth (after_space bytes)
laid_after_space gap depth [] = refl
laid_after_space gap depth (byte ∷ bytes) = go (is_space byte) refl (laid_after_space gap depth bytes)
  where
    go : (s : Bool) → is_space byte ≡ s → laid_out (Outside gap) depth bytes ≡ laid_out (Outside gap) depth (after_space bytes)
        → laid_out (Outside gap) depth (byte ∷ bytes) ≡ laid_out (Outside gap) depth (cond s (after_space bytes) (byte ∷ bytes))
    go true e r = laid_space gap depth byte bytes e ∙ r
    go false e r = refl

after_indent : (depth : ℕ) (xs : List ℕ) → after_space (indent depth ++ xs) ≡ after_space xs
after_indent zero xs = refl
after_indent (suc depth) xs = after_indent depth xs

after_gap : (gap : Gap) (depth : ℕ) (xs : List ℕ) → after_space (gap_text gap depth ++ xs) ≡ after_space xs
after_gap Nothing depth xs = refl
after_gap First depth xs = after_indent depth xs
after_gap Line depth xs = after_indent depth xs
after_gap Blank depth xs = refl

-- a closing bracket behind a value comes on a line of its own
closes : (depth last : ℕ) (after : List ℕ) {rest laid : List ℕ} → after_space after ≡ last ∷ rest
    → laid_out (Outside Nothing) (suc depth) (last ∷ rest) ≡ (new_line depth ++ (last ∷ [])) ++ laid → is_space last ≡ false
    → after_space (laid_out (Outside Nothing) (suc depth) after) ≡ last ∷ laid
closes depth last after {rest} {laid} e f g =
    ap after_space (laid_after_space Nothing (suc depth) after ∙ ap (laid_out (Outside Nothing) (suc depth)) e ∙ f ∙ append_assoc (new_line depth) (last ∷ []) laid)
    ∙ after_indent depth (last ∷ laid) ∙ rw g refl

-- what stands right before the next value or key
moved : (gap : Gap) (depth : ℕ) (bytes : List ℕ) (P : List ℕ → Type 0) → P (after_space (laid_out (Outside gap) depth (after_space bytes))) → P (after_space (laid_out (Outside gap) depth bytes))
moved gap depth bytes P h = subst (λ x. P (after_space x)) (sym (laid_after_space gap depth bytes)) h

-- ---- strings

string_laid : (depth : ℕ) {bytes text rest : List ℕ} → IsString bytes text rest → IsString (laid_out Inside depth bytes) text (laid_out (Outside Nothing) depth rest)
string_laid depth close = close
string_laid depth (unescaped {byte = byte} {bytes = bytes} {text = text} {rest = rest} h s) =
    subst (λ x. IsString x (byte ∷ text) (laid_out (Outside Nothing) depth rest)) (sym (inside_kept depth byte bytes (no_quote byte h) (no_backslash byte h))) (unescaped h (string_laid depth s))
string_laid depth (escape e s) = escape e (string_laid depth s)
string_laid depth (unit {a = a} {b = b} {c = c} {d = d} {u = u} {bytes = bytes} {text = text} {rest = rest} e f s) =
    subst (λ x. IsString (92 ∷ 117 ∷ x) (encode_utf8 u ++ text) (laid_out (Outside Nothing) depth rest)) (sym (hex_kept depth bytes (unit_hex a b c d e))) (unit e f (string_laid depth s))
string_laid depth (grammar.pair {a = a} {b = b} {c = c} {d = d} {e = e} {f = f} {g = g} {h = h} {high = high} {low = low} {bytes = bytes} {text = text} {rest = rest} k l m n s) =
    subst (λ x. IsString (92 ∷ 117 ∷ x) (encode_utf8 (pair_of high low) ++ text) (laid_out (Outside Nothing) depth rest))
    (sym (hex_kept depth (92 ∷ 117 ∷ e ∷ f ∷ g ∷ h ∷ bytes) (unit_hex a b c d k) ∙ ap (λ x. a ∷ b ∷ c ∷ d ∷ 92 ∷ 117 ∷ x) (hex_kept depth bytes (unit_hex e f g h m))))
    (grammar.pair k l m n (string_laid depth s))

-- ---- values

begins : (gap : Gap) (depth : ℕ) (bytes : List ℕ) {text rest : List ℕ} {value : JsonValue} → laid_out (Outside gap) depth bytes ≡ gap_text gap depth ++ text → IsValue text value rest
    → IsValue (after_space (laid_out (Outside gap) depth bytes)) value rest
begins gap depth bytes {text} {rest} {value} e v =
    subst (λ x. IsValue x value rest) (sym (ap after_space e ∙ after_gap gap depth text ∙ value_first v)) v

begins_key : (gap : Gap) (depth : ℕ) (bytes : List ℕ) {rest : List ℕ} {members : Members} → AreMembers (34 ∷ laid_out Inside depth bytes) members rest
    → AreMembers (after_space (laid_out (Outside gap) depth (34 ∷ bytes))) members rest
begins_key gap depth bytes {rest} {members} v =
    subst (λ x. AreMembers x members rest) (sym (ap after_space (begun gap depth 34 bytes refl) ∙ after_gap gap depth (34 ∷ laid_out Inside depth bytes))) v

-- a comma or a colon behind a value or a key
follows : (depth byte : ℕ) (after : List ℕ) {next laid : List ℕ} → after_space after ≡ byte ∷ next → laid_out (Outside Nothing) depth (byte ∷ next) ≡ byte ∷ laid → is_space byte ≡ false
    → after_space (laid_out (Outside Nothing) depth after) ≡ byte ∷ laid
follows depth byte after {next} {laid} e f g = ap after_space (laid_after_space Nothing depth after ∙ ap (laid_out (Outside Nothing) depth) e ∙ f) ∙ rw g refl

mutual
  value_laid : {bytes rest : List ℕ} {value : JsonValue} → IsValue bytes value rest → (gap : Gap) (depth : ℕ)
      → IsValue (after_space (laid_out (Outside gap) depth bytes)) value (laid_out (Outside Nothing) depth rest)
  value_laid (grammar.null {rest = rest}) gap depth = begins gap depth (110 ∷ 117 ∷ 108 ∷ 108 ∷ rest) (begun gap depth 110 (117 ∷ 108 ∷ 108 ∷ rest) refl) grammar.null
  value_laid (grammar.truth {rest = rest}) gap depth = begins gap depth (116 ∷ 114 ∷ 117 ∷ 101 ∷ rest) (begun gap depth 116 (114 ∷ 117 ∷ 101 ∷ rest) refl) grammar.truth
  value_laid (grammar.falsehood {rest = rest}) gap depth = begins gap depth (102 ∷ 97 ∷ 108 ∷ 115 ∷ 101 ∷ rest) (begun gap depth 102 (97 ∷ 108 ∷ 115 ∷ 101 ∷ rest) refl) grammar.falsehood
  value_laid (grammar.number {bytes = bytes} {text = text} {rest = rest} e n) gap depth =
      begins gap depth bytes (ap (laid_out (Outside gap) depth) e ∙ number_lays text depth n gap rest) (grammar.number refl n)
  value_laid (grammar.string {bytes = bytes} s) gap depth = begins gap depth (34 ∷ bytes) (begun gap depth 34 bytes refl) (grammar.string (string_laid depth s))
  value_laid (grammar.empty_array {bytes = bytes} {rest = rest} e) gap depth =
      begins gap depth (91 ∷ bytes) (begun gap depth 91 bytes refl) (grammar.empty_array (ap after_space (laid_after_space First (suc depth) bytes ∙ ap (laid_out (Outside First) (suc depth)) e)))
  value_laid (grammar.array {bytes = bytes} {rest = rest} {values = values} v) gap depth =
      begins gap depth (91 ∷ bytes) (begun gap depth 91 bytes refl) (grammar.array (moved First (suc depth) bytes (λ x. AreJsonValues x values (laid_out (Outside Nothing) depth rest)) (values_laid v First depth)))
  value_laid (grammar.empty_object {bytes = bytes} {rest = rest} e) gap depth =
      begins gap depth (123 ∷ bytes) (begun gap depth 123 bytes refl) (grammar.empty_object (ap after_space (laid_after_space First (suc depth) bytes ∙ ap (laid_out (Outside First) (suc depth)) e)))
  value_laid (grammar.object {bytes = bytes} {rest = rest} {members = members} v) gap depth =
      begins gap depth (123 ∷ bytes) (begun gap depth 123 bytes refl) (grammar.object (moved First (suc depth) bytes (λ x. AreMembers x members (laid_out (Outside Nothing) depth rest)) (members_laid v First depth)))

  values_laid : {bytes rest : List ℕ} {values : Values} → AreJsonValues bytes values rest → (gap : Gap) (depth : ℕ)
      → AreJsonValues (after_space (laid_out (Outside gap) (suc depth) bytes)) values (laid_out (Outside Nothing) depth rest)
  values_laid (last_value {after = after} v e) gap depth = last_value (value_laid v gap (suc depth)) (closes depth 93 after e refl refl)
  values_laid (more_values {after = after} {next = next} {rest = rest} {values = values} v e w) gap depth =
      more_values (value_laid v gap (suc depth)) (follows (suc depth) 44 after e refl refl)
      (moved Line (suc depth) next (λ x. AreJsonValues x values (laid_out (Outside Nothing) depth rest)) (values_laid w Line depth))

  members_laid : {bytes rest : List ℕ} {members : Members} → AreMembers bytes members rest → (gap : Gap) (depth : ℕ)
      → AreMembers (after_space (laid_out (Outside gap) (suc depth) bytes)) members (laid_out (Outside Nothing) depth rest)
  members_laid (last_member {bytes = bytes} {colon = colon} {next = next} {after = after} {value = value} s c v e) gap depth =
      begins_key gap (suc depth) bytes (last_member (string_laid (suc depth) s) (follows (suc depth) 58 colon c refl refl)
      (moved Blank (suc depth) next (λ x. IsValue x value (laid_out (Outside Nothing) (suc depth) after)) (value_laid v Blank (suc depth))) (closes depth 125 after e refl refl))
  members_laid (more_members {bytes = bytes} {colon = colon} {next = next} {after = after} {more = more} {rest = rest} {value = value} {members = members} s c v e w) gap depth =
      begins_key gap (suc depth) bytes (more_members (string_laid (suc depth) s) (follows (suc depth) 58 colon c refl refl)
      (moved Blank (suc depth) next (λ x. IsValue x value (laid_out (Outside Nothing) (suc depth) after)) (value_laid v Blank (suc depth))) (follows (suc depth) 44 after e refl refl)
      (moved Line (suc depth) more (λ x. AreMembers x members (laid_out (Outside Nothing) depth rest)) (members_laid w Line depth)))

pub pretty_denotes : (text : List ℕ) (value : JsonValue) → Denotes text value → Denotes (pretty text) value
pretty_denotes text value d = record {
  utf8 = laid_utf8 (Outside Nothing) 0 text d.utf8;
  rest = laid_out (Outside Nothing) 0 d.rest;
  is_value = moved Nothing 0 text (λ x. IsValue x value (laid_out (Outside Nothing) 0 d.rest)) (value_laid d.is_value Nothing 0);
  at_end = ap after_space (laid_after_space Nothing 0 d.rest ∙ ap (laid_out (Outside Nothing) 0) d.at_end);
}

pub pretty_json_denotes : (json : Json) (value : JsonValue) → HasLeaves json → Denotes (compact json) value → Denotes (pretty_json 0 json) value
pretty_json_denotes json value h d = subst (λ x. Denotes x value) (laid_json json h) (pretty_denotes (compact json) value d)
