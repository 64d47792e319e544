-- Reference tokens of names, array indexes, and a pointer token by token.
use Rattle.std.specs.Prelude.{◌≡◌, ◌≢◌, ℕ, suc, ◌^◌, ◌<◌, Bool, true, false, ◌&&◌, nat_lt, List, [], ◌∷◌, ◌++◌, length, get_or, Option, Some, None, option_and_then, Result, Ok, Err, OkIff, refl}
use Rattle.std.specs.Result.{result_ok}
use Rattle.std.specs.Str.{all_ascii_digits}
use Rattle.std.specs.Str.Parse.{digits_value, ParsesUnsigned}
use Rattle.std.proofs.Common.{sym, ap, ◌∙◌, arith, append_assoc, append-nil, ne_eqb}
use Rattle.std.proofs.lemmas.Bool.{and_parts, and_from}
use Rattle.std.proofs.lemmas.Str.Parse.{parse_plain}
use Rattle.sval_label.specs.Texts.{is_decimal}
use Rattle.sval_script.proofs.Decimals.{decimal-from}
use Rattle.sval_json.proofs.NumberTexts.{decimal_digits}
use Rattle.sval_json_read.specs.Pointers.{encoded_byte, reference_token, array_index, evaluated, pointed_by}
use Rattle.sval_json_read.proofs.ParsedNumbers.{own, in_range_test}
use Rattle.sval_json.proofs.TextFronts.{same_rest}
use Rattle.sval_json_read.proofs.SettledNumbers.{some_digits}
use Rattle.sval_json_read.proofs.StringSteps.{below}

-- ---- reference tokens

pub token_joined : (name more : List ℕ) → reference_token (name ++ more) ≡ reference_token name ++ reference_token more
token_joined [] more = refl
token_joined (byte ∷ name) more =
    ap (λ row. encoded_byte byte ++ row) (token_joined name more) ∙ sym (append_assoc (encoded_byte byte) (reference_token name) (reference_token more))

-- `left` stands behind what bytes have of a name's token before that of `rest`
pub record StandsBehind (name bytes rest left : List ℕ) : Type 0 where
  pub on : (more : List ℕ) → bytes ≡ reference_token name ++ more → left ≡ reference_token rest ++ more
  pub back : (more : List ℕ) → left ≡ reference_token rest ++ more → bytes ≡ reference_token name ++ more

pub at_first : (name bytes : List ℕ) → StandsBehind name bytes name bytes
at_first name bytes = record { on = λ more e. e; back = λ more e. e }

module _ {name bytes left : List ℕ} (byte : ℕ) (rest : List ℕ) (before : StandsBehind name bytes (byte ∷ rest) left) where
  on_one : (more : List ℕ) → bytes ≡ reference_token name ++ more → left ≡ encoded_byte byte ++ (reference_token rest ++ more)
  on_one more e = before.on more e ∙ append_assoc (encoded_byte byte) (reference_token rest) more

  pub one_behind : (next : List ℕ) → left ≡ encoded_byte byte ++ next → StandsBehind name bytes rest next
  one_behind next found = record {
    on = λ more e. same_rest (encoded_byte byte) next (reference_token rest ++ more) (sym found ∙ on_one more e);
    back = λ more e. before.back more (found ∙ ap (λ row. encoded_byte byte ++ row) e ∙ sym (append_assoc (encoded_byte byte) (reference_token rest) more));
  }

  pub none_behind : ((next : List ℕ) → left ≡ encoded_byte byte ++ next → ⊥) → (more : List ℕ) → bytes ≡ reference_token name ++ more → ⊥
  none_behind other more e = other (reference_token rest ++ more) (on_one more e)

-- ---- array indexes

refused : (token : List ℕ) → ((all_ascii_digits token ≡ true) × (0 < length token) × (digits_value 10 token < 2 ^ 64) → ⊥) → (b : Bool) → (is_decimal token && nat_lt (digits_value 10 token) (2 ^ 64)) ≡ b
    → None ≡ array_index token
refused token never false e = rw e refl
refused token never true e =
    let (decimal, small) = and_parts (is_decimal token) (nat_lt (digits_value 10 token) (2 ^ 64)) e in
    absurd (never (decimal_digits token decimal, some_digits token decimal, below (digits_value 10 token) (2 ^ 64) small))

accepted : (token : List ℕ) (index : ℕ) → (is_decimal token && nat_lt (digits_value 10 token) (2 ^ 64)) ≡ true → index ≡ digits_value 10 token → Some index ≡ array_index token
accepted token index e is = rw e (ap Some is)

by_answer : {E : Type 0} (first : ℕ) (rest : List ℕ) (r : Result ℕ E) → first ≢ 48
    → OkIff r ((all_ascii_digits (first ∷ rest) ≡ true) × (0 < length (first ∷ rest)) × (digits_value 10 (first ∷ rest) < 2 ^ 64)) (digits_value 10 (first ∷ rest))
    → result_ok r ≡ array_index (first ∷ rest)
by_answer first rest (Ok index) other (fits, is) =
    let token : List ℕ = first ∷ rest in
    accepted token index
    (and_from (is_decimal token) (nat_lt (digits_value 10 token) (2 ^ 64)) (decimal-from first rest other fits.0) (in_range_test (digits_value 10 token) (2 ^ 64) fits.2)) is
by_answer first rest (Err why) other never =
    refused (first ∷ rest) never (is_decimal (first ∷ rest) && nat_lt (digits_value 10 (first ∷ rest)) (2 ^ 64)) refl

-- a token that begins neither with 0 nor with a sign is the index that it parses as, where it does
pub index_parsed : {E : Type 0} (token : List ℕ) (first : ℕ) (r : Result ℕ E) → (0 < length token) × ((d : ℕ) → first ≡ get_or token 0 d) → first ≢ 48 → first ≢ 43 → ParsesUnsigned 64 10 token r
    → result_ok r ≡ array_index token
index_parsed [] first r (some, is) other no_sign p = absurd (omega (arith, some))
index_parsed (byte ∷ rest) first r (some, is) other no_sign p =
    by_answer byte rest r (λ zero. other (is 0 ∙ zero)) (parse_plain own 64 (byte ∷ rest) r p (λ sign. no_sign (is 0 ∙ sign)))

-- ---- a pointer

abbrev pub HasNoSlash : List ℕ → Type 0
HasNoSlash bytes = (i : ℕ) → i < length bytes → get_or bytes i 0 ≢ 47

module _ {V : Type 0} (step : List ℕ → V → Option V) where
  token_over : (token bytes rest : List ℕ) (value : V) → HasNoSlash bytes → evaluated step token (bytes ++ rest) value ≡ evaluated step (token ++ bytes) rest value
  token_over token [] rest value h = ap (λ t. evaluated step t rest value) (sym (append-nil token))
  token_over token (byte ∷ bytes) rest value h =
      rw (ne_eqb byte 47 (h 0 (omega arith)))
      (token_over (token ++ (byte ∷ [])) bytes rest value (λ i less. h (suc i) (omega arith)) ∙ ap (λ t. evaluated step t rest value) (append_assoc token (byte ∷ []) bytes))

  -- a token before another `/`
  pub token_then : (token rest : List ℕ) (value : V) → HasNoSlash token
      → evaluated step [] (token ++ (47 ∷ rest)) value ≡ option_and_then (evaluated step [] rest) (step token value)
  token_then token rest value h = token_over [] token (47 ∷ rest) value h

  -- the last token
  pub token_last : (token : List ℕ) (value : V) → HasNoSlash token → evaluated step [] token value ≡ step token value
  token_last token value h = ap (λ bytes. evaluated step [] bytes value) (sym (append-nil token)) ∙ token_over [] token [] value h

  -- one turn of a loop over the tokens: `whole` is what the pointer references, and `next` what the token up to the next `/` does
  pub token_taken : (whole next : Option V) (rest token behind : List ℕ) (found : V) → whole ≡ evaluated step [] rest found → (rest ≡ token ++ (47 ∷ behind)) × HasNoSlash token → next ≡ step token found
      → whole ≡ option_and_then (evaluated step [] behind) next
  token_taken whole next rest token behind found before cut is =
      before ∙ ap (λ r. evaluated step [] r found) cut.0 ∙ token_then token behind found cut.1 ∙ ap (option_and_then (evaluated step [] behind)) (sym is)

  pub no_slash_first : (pointer : List ℕ) (value : V) → 0 < length pointer → ((rest : List ℕ) → pointer ≢ 47 ∷ rest) → pointed_by step pointer value ≡ None
  no_slash_first [] value some other = absurd (omega (arith, some))
  no_slash_first (byte ∷ bytes) value some other = rw (ne_eqb byte 47 (λ e. other bytes (ap (λ b. b ∷ bytes) e))) refl
