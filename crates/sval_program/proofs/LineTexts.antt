-- The text of a line, which is the line without its line feed.
use Rattle.std.specs.Prelude.{◌≡◌, ◌≢◌, ℕ, ◌+◌, ◌/◌, ◌%◌, ◌<◌, ◌≤◌, ◌^◌, List, [], ◌∷◌, ◌++◌, Option, None, Some, decimal, refl}
use Rattle.std.specs.Option.{MatchOption, unwrap_or}
use Rattle.std.proofs.Common.{Bor, ◌∙◌, ap, sym, arith, append_assoc, append-nil}
use Rattle.std.proofs.lemmas.Bool.{ne_eqb}
use Rattle.std.proofs.lemmas.Fmt.{decimal_by_steps}
use Rattle.sval_program.specs.Reports.{behind_byte, line_text, shown}

-- ---- of the last byte

-- it goes where it is a line feed
behind-feed : (byte : ℕ) (bytes : List ℕ) → behind_byte byte (bytes ++ 10 ∷ []) ≡ byte ∷ bytes
behind-feed byte [] = refl
behind-feed byte (next ∷ bytes) = ap (λ rest. byte ∷ rest) (behind-feed next bytes)

pub text_feed : (bytes : List ℕ) → line_text (bytes ++ 10 ∷ []) ≡ bytes
text_feed [] = refl
text_feed (byte ∷ bytes) = behind-feed byte bytes

-- and stays where it is none
behind-none : (last : ℕ) → last ≢ 10 → behind_byte last [] ≡ last ∷ []
behind-none last none = rw (ne_eqb last 10 none) refl

behind-other : (byte last : ℕ) (bytes : List ℕ) → last ≢ 10 → behind_byte byte (bytes ++ last ∷ []) ≡ byte ∷ (bytes ++ last ∷ [])
behind-other byte last [] none = ap (λ rest. byte ∷ rest) (behind-none last none)
behind-other byte last (next ∷ bytes) none = ap (λ rest. byte ∷ rest) (behind-other next last bytes none)

text-other : (bytes : List ℕ) (last : ℕ) → last ≢ 10 → line_text (bytes ++ last ∷ []) ≡ bytes ++ last ∷ []
text-other [] last none = behind-none last none
text-other (byte ∷ bytes) last none = behind-other byte last bytes none

-- bytes with a last one
record HasLast (bytes : List ℕ) : Type 0 where
  pub front : List ℕ
  pub last : ℕ
  pub is : bytes ≡ front ++ last ∷ []

last_of : (byte : ℕ) (bytes : List ℕ) → HasLast (byte ∷ bytes)
last_of byte [] = record { front = []; last = byte; is = refl }
last_of byte (next ∷ bytes) =
    let rest = last_of next bytes in
    record { front = byte ∷ rest.front; last = rest.last; is = ap (λ more. byte ∷ more) rest.is }

-- bytes that end with no line feed
pub text_whole : (bytes : List ℕ) → ((front : List ℕ) → bytes ≢ front ++ 10 ∷ []) → line_text bytes ≡ bytes
text_whole [] none = refl
text_whole (byte ∷ bytes) none =
    let h = last_of byte bytes in
    ap line_text h.is ∙ text-other h.front h.last (λ feed. none h.front (h.is ∙ ap (λ last. h.front ++ last ∷ []) feed)) ∙ sym h.is

-- what is left where a line feed was taken from the end, if there was one
pub stripped : (text : Bor (List ℕ)) (rest : Option (Bor (List ℕ))) → MatchOption rest ((front : List ℕ) → text.now ≢ front ++ 10 ∷ []) (λ front. text.now ≡ front.now ++ 10 ∷ [])
    → (unwrap_or rest text).now ≡ line_text text.now
stripped text None none = sym (text_whole text.now none)
stripped text (Some front) ends = sym (ap line_text ends ∙ text_feed front.now)

-- ---- of bytes before others

behind-front : (first : ℕ) (front : List ℕ) (byte : ℕ) (bytes : List ℕ) → behind_byte first (front ++ byte ∷ bytes) ≡ first ∷ (front ++ behind_byte byte bytes)
behind-front first [] byte bytes = refl
behind-front first (next ∷ front) byte bytes = ap (λ rest. first ∷ rest) (behind-front next front byte bytes)

text-behind : (front : List ℕ) (byte : ℕ) (bytes : List ℕ) → line_text (front ++ byte ∷ bytes) ≡ front ++ line_text (byte ∷ bytes)
text-behind [] byte bytes = refl
text-behind (first ∷ front) byte bytes = behind-front first front byte bytes

-- digits end with no line feed
abbrev EndsInDigit : ℕ → List ℕ → Type 0
EndsInDigit number digits = (h : HasLast digits) × (h.last ≢ 10)

one_digit : (n : ℕ) → n < 10 → EndsInDigit n ((48 + n) ∷ [])
one_digit n small = (record { front = []; last = 48 + n; is = refl }, λ e. absurd (omega (arith, e)))

more_digits : (n : ℕ) (digits : List ℕ) → 10 ≤ n → EndsInDigit (n / 10) digits → EndsInDigit n (digits ++ ((48 + n % 10) ∷ []))
more_digits n digits large before = (record { front = digits; last = 48 + n % 10; is = refl }, λ e. absurd (omega (arith, e)))

ends_in_digit : (n : ℕ) → n < 2 ^ 64 → EndsInDigit n (decimal n)
ends_in_digit = decimal_by_steps EndsInDigit one_digit more_digits

-- ---- of a line

-- without a number nothing stands before the text
pub line_without_number : (before : List ℕ) (number : Option ℕ) (after : List ℕ) → (number ≡ None → before ≡ []) → number ≡ None → line_text (before ++ (shown number ++ after)) ≡ line_text after
line_without_number before number after bare none = rw none (rw (bare none) refl)

pub numbered_line : (before : List ℕ) (number : ℕ) (after : List ℕ) → number < 2 ^ 64 → line_text (before ++ (decimal number ++ after)) ≡ before ++ (decimal number ++ line_text after)
numbered_line before number [] fits =
    let (h, none) = ends_in_digit number fits in
    let same : before ++ (decimal number ++ []) ≡ (before ++ h.front) ++ h.last ∷ [] =
    ap (λ digits. before ++ digits) (append-nil (decimal number) ∙ h.is) ∙ sym (append_assoc before h.front (h.last ∷ [])) in
    rw same (text-other (before ++ h.front) h.last none)
numbered_line before number (byte ∷ bytes) fits =
    ap line_text (sym (append_assoc before (decimal number) (byte ∷ bytes)))
    ∙ text-behind (before ++ decimal number) byte bytes
    ∙ append_assoc before (decimal number) (line_text (byte ∷ bytes))
