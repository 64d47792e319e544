-- The body of a string up to its closing quote: it is kept byte by byte.
use Rattle.std.specs.Prelude.{◌≡◌, ℕ, ◌+◌, ◌*◌, Bool, true, false, cond, ◌&&◌, ◌==◌, List, [], ◌∷◌, ◌++◌, Option, Some, None, refl}
use Rattle.std.specs.Char.{is_digit, digit_value}
use Rattle.std.proofs.Common.{sym, ap, ◌∙◌, subst, arith, append_assoc, append-nil}
use Rattle.std.proofs.lemmas.Bool.{and_parts, eqb-true}
use Rattle.std.proofs.lemmas.Bool.Decides.{nat_tests}
use Rattle.sval_json.specs.Grammar.{code_unit, is_unescaped, IsString, close, unescaped, escape, unit}
use Rattle.sval_json.specs.Grammar as grammar
use Rattle.sval_pretty.specs.declared.layout.Gap.TheVariants.{Nothing}
use Rattle.sval_pretty.specs.declared.layout.Place.TheVariants.{Outside, Inside}
use Rattle.sval_pretty.specs.Layout.{laid_out, unspaced_from, Outer, String}
use Rattle.sval_pretty.proofs.Laying.{inside_kept}

-- up to the closing quote: bytes that are neither a quote nor a backslash, and backslashes with what follows each
pub data IsBody : List ℕ → Type 0 where
  closing : IsBody (34 ∷ [])
  plain : {byte : ℕ} {bytes : List ℕ} → (byte == 34) ≡ false → (byte == 92) ≡ false → IsBody bytes → IsBody (byte ∷ bytes)
  after_backslash : {letter : ℕ} {bytes : List ℕ} → IsBody bytes → IsBody (92 ∷ letter ∷ bytes)

pub body_laid : (depth : ℕ) (rest : List ℕ) {body : List ℕ} → IsBody body → laid_out Inside depth (body ++ rest) ≡ body ++ laid_out (Outside Nothing) depth rest
body_laid depth rest closing = refl
body_laid depth rest (plain {byte = byte} {bytes = bytes} q b s) = inside_kept depth byte (bytes ++ rest) q b ∙ ap (λ x. byte ∷ x) (body_laid depth rest s)
body_laid depth rest (after_backslash {letter = letter} s) = ap (λ x. 92 ∷ letter ∷ x) (body_laid depth rest s)

string_kept : (byte : ℕ) (bytes : List ℕ) → (byte == 34) ≡ false → (byte == 92) ≡ false → unspaced_from String (byte ∷ bytes) ≡ byte ∷ unspaced_from String bytes
string_kept byte bytes q b = rw (q, b) refl

pub body_unspaced : (rest : List ℕ) {body : List ℕ} → IsBody body → unspaced_from String (body ++ rest) ≡ body ++ unspaced_from Outer rest
body_unspaced rest closing = refl
body_unspaced rest (plain {byte = byte} {bytes = bytes} q b s) = string_kept byte (bytes ++ rest) q b ∙ ap (λ x. byte ∷ x) (body_unspaced rest s)
body_unspaced rest (after_backslash {letter = letter} s) = ap (λ x. 92 ∷ letter ∷ x) (body_unspaced rest s)

-- ---- a string has a body

not_this : (a n : ℕ) → is_digit a 16 ≡ true → is_digit n 16 ≡ false → (a == n) ≡ false
not_this a n h f = go (a == n) refl
  where
    go : (b : Bool) → (a == n) ≡ b → b ≡ false
    go true e = let same : a ≡ n = eqb-true a n e in let g : is_digit n 16 ≡ true = subst (λ x. is_digit x 16 ≡ true) same h in sym g ∙ f
    go false e = refl

pub record AreHex (a b c d : ℕ) : Type 0 where
  pub first : is_digit a 16 ≡ true
  pub second : is_digit b 16 ≡ true
  pub third : is_digit c 16 ≡ true
  pub fourth : is_digit d 16 ≡ true

pub unit_hex : (a b c d : ℕ) {u : ℕ} → code_unit a b c d ≡ Some u → AreHex a b c d
unit_hex a b c d {u} e =
    let all = test (digit_value a * 4096 + digit_value b * 256 + digit_value c * 16 + digit_value d) (is_digit a 16 && is_digit b 16 && is_digit c 16 && is_digit d 16) e in
    let (abc, fourth) = and_parts (is_digit a 16 && is_digit b 16 && is_digit c 16) (is_digit d 16) all in
    let (ab, third) = and_parts (is_digit a 16 && is_digit b 16) (is_digit c 16) abc in
    let (first, second) = and_parts (is_digit a 16) (is_digit b 16) ab in
    record { first = first; second = second; third = third; fourth = fourth }
  where
    test : (value : ℕ) (b : Bool) → cond b (Some value) None ≡ Some u → b ≡ true
    test value true f = refl
    test value false f = cc f

digit_kept : (depth a : ℕ) (bytes : List ℕ) → is_digit a 16 ≡ true → laid_out Inside depth (a ∷ bytes) ≡ a ∷ laid_out Inside depth bytes
digit_kept depth a bytes h = inside_kept depth a bytes (not_this a 34 h refl) (not_this a 92 h refl)

pub hex_kept : (depth : ℕ) {a b c d : ℕ} (bytes : List ℕ) → AreHex a b c d → laid_out Inside depth (a ∷ b ∷ c ∷ d ∷ bytes) ≡ a ∷ b ∷ c ∷ d ∷ laid_out Inside depth bytes
hex_kept depth {a} {b} {c} {d} bytes h =
    digit_kept depth a (b ∷ c ∷ d ∷ bytes) h.first
    ∙ ap (λ x. a ∷ x) (digit_kept depth b (c ∷ d ∷ bytes) h.second)
    ∙ ap (λ x. a ∷ b ∷ x) (digit_kept depth c (d ∷ bytes) h.third)
    ∙ ap (λ x. a ∷ b ∷ c ∷ x) (digit_kept depth d bytes h.fourth)

digit_plain : {a : ℕ} {bytes : List ℕ} → is_digit a 16 ≡ true → IsBody bytes → IsBody (a ∷ bytes)
digit_plain {a} h s = plain (not_this a 34 h refl) (not_this a 92 h refl) s

unit_body : {a b c d : ℕ} {bytes : List ℕ} → AreHex a b c d → IsBody bytes → IsBody (92 ∷ 117 ∷ a ∷ b ∷ c ∷ d ∷ bytes)
unit_body h s = after_backslash (digit_plain h.first (digit_plain h.second (digit_plain h.third (digit_plain h.fourth s))))

pub no_quote : (byte : ℕ) → is_unescaped byte ≡ true → (byte == 34) ≡ false
no_quote byte h = grind (arith, nat_tests)

pub no_backslash : (byte : ℕ) → is_unescaped byte ≡ true → (byte == 92) ≡ false
no_backslash byte h = grind (arith, nat_tests)

pub record HasBody (bytes rest : List ℕ) : Type 0 where
  pub body : List ℕ
  pub is_body : IsBody body
  pub same : bytes ≡ body ++ rest

behind : (front : List ℕ) {bytes rest : List ℕ} (h : HasBody bytes rest) → IsBody (front ++ h.body) → HasBody (front ++ bytes) rest
behind front {bytes} {rest} h b = record { body = front ++ h.body; is_body = b; same = ap (λ x. front ++ x) h.same ∙ sym (append_assoc front h.body rest) }

pub string_body : {bytes text rest : List ℕ} → IsString bytes text rest → HasBody bytes rest
string_body close = record { body = 34 ∷ []; is_body = closing; same = refl }
string_body (unescaped {byte = byte} h s) = let k = string_body s in behind (byte ∷ []) k (plain (no_quote byte h) (no_backslash byte h) k.is_body)
string_body (escape {letter = letter} e s) = let k = string_body s in behind (92 ∷ letter ∷ []) k (after_backslash k.is_body)
string_body (unit {a = a} {b = b} {c = c} {d = d} e f s) =
    let k = string_body s in behind (92 ∷ 117 ∷ a ∷ b ∷ c ∷ d ∷ []) k (unit_body (unit_hex a b c d e) k.is_body)
string_body (grammar.pair {a = a} {b = b} {c = c} {d = d} {e = e} {f = f} {g = g} {h = h} k l m n s) =
    let r = string_body s in
    behind (92 ∷ 117 ∷ a ∷ b ∷ c ∷ d ∷ 92 ∷ 117 ∷ e ∷ f ∷ g ∷ h ∷ []) r (unit_body (unit_hex a b c d k) (unit_body (unit_hex e f g h m) r.is_body))

-- bytes that are a string with a quote behind them are a body with it
pub closed_body : (bytes text : List ℕ) → IsString (bytes ++ (34 ∷ [])) text [] → IsBody (bytes ++ (34 ∷ []))
closed_body bytes text s =
    let k = string_body s in
    let same : k.body ≡ bytes ++ (34 ∷ []) = sym (append-nil k.body) ∙ sym k.same in
    subst IsBody same k.is_body
