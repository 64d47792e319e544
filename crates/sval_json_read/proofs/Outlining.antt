-- The outline of a text agrees with the machine that reads it.
use Rattle.std.specs.Prelude.{◌≡◌, ℕ, ◌+◌, ◌-◌, ◌<◌, ◌⊎◌, Bool, true, false, cond, ◌&&◌, ◌==◌, nat_lt, nat_le, List, [], ◌∷◌, ◌++◌, length, Option, Some, None, is_some, option_map, refl, ⊤}
use Rattle.std.specs.Char.{is_ascii_digit, digit_value}
use Rattle.std.proofs.Common.{sym, ap, subst, ◌∙◌, arith, inl, inr}
use Rattle.std.proofs.lemmas.Bool.{cases_Bool, and_parts, false≢true}
use Rattle.std.proofs.lemmas.Bool.Decides.{nat_tests}
use Rattle.sval_json.specs.Digits.{is_number_byte}
use Rattle.sval_json.specs.Grammar.{is_space, escaped_byte}
use Rattle.sval_json_read.specs.Tokens as token
use Rattle.sval_json_read.specs.Tokens.{Token, Placed, placed_at}
use Rattle.sval_json_read.specs.Numbers.{NumberPhase, next_phase, number_may_end}
use Rattle.sval_json_read.specs.Strings.{Within, Plain, Backslash, Unit, UnitD, ThreeLeft, TwoLeft, OneLeft, HighTwoLeft, HighOneLeft, High, LowBackslash, LowUnit, LowD, LowTwoLeft, LowOneLeft, within_when, is_hex, is_d, next_within}
use Rattle.sval_json_read.specs.Reader.{Opened, Array, Object, Expected, AValue, FirstItem, FirstKey, NextKey, Colon, Next, Letter, InNumber, InString, ReaderState, place_in, begins, begins_key, comma_or_close, follows, letters_left, number_is_ended, string_ends, step_in}
use Rattle.sval_json_read.specs.Outlines.{Outline, BetweenTokens, InScalar, InQuotes, BehindBackslash, Outlined, outlined, outline_byte}
use Rattle.sval_json_read.specs.SeenLimits.{begins_value, begins_node}
use Rattle.sval_json_read.proofs.Runs.{at_state}

-- ---- what agrees

-- outside of strings
pub data IsOutside : Outline → Type 0 where
  between : IsOutside BetweenTokens
  scalar : IsOutside InScalar

-- a letter of a word
abbrev is_letter : ℕ → Bool
is_letter byte = nat_lt 96 byte && nat_lt byte 123

abbrev all_letters : List ℕ → Bool
all_letters [] = true
all_letters (first ∷ letters) = is_letter first && all_letters letters

abbrev pub outline_within : Within → Outline
outline_within Backslash = BehindBackslash
outline_within LowBackslash = BehindBackslash
outline_within _ = InQuotes

-- where the next byte stands, where this comes next
abbrev pub IsOutlineOf : Outline → Expected → Type 0
IsOutlineOf outline Next = IsOutside outline
IsOutlineOf outline (Letter first letters) = (outline ≡ InScalar) × (all_letters (first ∷ letters) ≡ true)
IsOutlineOf outline (InNumber phase text) = outline ≡ InScalar
IsOutlineOf outline (InString is_key within text) = outline ≡ outline_within within
IsOutlineOf outline _ = outline ≡ BetweenTokens

-- the end of an array or object is no node
abbrev pub node_count : Token → ℕ
node_count token.EndArray = 0
node_count token.EndObject = 0
node_count _ = 1

abbrev pub token_nodes : List Placed → ℕ
token_nodes [] = 0
token_nodes (first ∷ tokens) = node_count first.token + token_nodes tokens

abbrev pub in_progress : Expected → ℕ
in_progress (InNumber phase text) = 1
in_progress (InString is_key within text) = 1
in_progress _ = 0

pub record Agrees (o : Outlined) (state : ReaderState) : Type 0 where
  pub outline : IsOutlineOf o.outline state.expected
  pub levels : o.levels ≡ length state.opened
  pub nodes : o.nodes ≡ token_nodes state.tokens + in_progress state.expected

-- what a byte leaves of an outline agrees with what a step gives; a byte that is refused begins no node
pub data AgreesOn (o : Outlined) (nodes : ℕ) (begins : Bool) : Option ReaderState → Type 0 where
  refused : begins ≡ false → AgreesOn o nodes begins None
  taken : {state : ReaderState} → Agrees o state → o.nodes ≡ cond begins (nodes + 1) nodes → AgreesOn o nodes begins (Some state)

token_nodes-last : (tokens : List Placed) (last : Placed) → token_nodes (tokens ++ (last ∷ [])) ≡ token_nodes tokens + node_count last.token
token_nodes-last [] last = omega arith
token_nodes-last (first ∷ tokens) last = let h = token_nodes-last tokens last in omega (arith, h)

equals : (byte n : ℕ) → (byte == n) ≡ true → byte ≡ n
equals byte n h = grind (arith, nat_tests)

-- ---- white space

module _ (byte : ℕ) (s : is_space byte ≡ true) where
  space_low : byte < 33
  space_low = grind (arith, nat_tests)

  space_not : (n : ℕ) → 32 < n → (byte == n) ≡ false
  space_not n l = let k = space_low in grind (arith, nat_tests)

  space_digit : is_ascii_digit byte ≡ false
  space_digit = grind (arith, nat_tests)

  space_begins : begins_value byte ≡ false
  space_begins =
      rw (space_not 34 (omega arith), space_not 91 (omega arith), space_not 123 (omega arith), space_not 110 (omega arith), space_not 116 (omega arith), space_not 102 (omega arith), space_not 45 (omega arith), space_not 48 (omega arith), space_digit) refl

  space_outline : {o : Outline} (levels nodes : ℕ) → IsOutside o → outline_byte o levels nodes byte ≡ outlined BetweenTokens levels nodes
  space_outline levels nodes between =
      rw (space_not 34 (omega arith), space_not 91 (omega arith), space_not 123 (omega arith), space_not 93 (omega arith), space_not 125 (omega arith), s) refl
  space_outline levels nodes scalar = rw (space_not 93 (omega arith), space_not 125 (omega arith), s) refl

-- ---- a comma, a colon, or an end

comma_outline : {o : Outline} (levels nodes : ℕ) → IsOutside o → outline_byte o levels nodes 44 ≡ outlined BetweenTokens levels nodes
comma_outline levels nodes between = refl
comma_outline levels nodes scalar = refl

bracket_outline : {o : Outline} (levels nodes : ℕ) → IsOutside o → outline_byte o levels nodes 93 ≡ outlined BetweenTokens (levels - 1) nodes
bracket_outline levels nodes between = refl
bracket_outline levels nodes scalar = refl

brace_outline : {o : Outline} (levels nodes : ℕ) → IsOutside o → outline_byte o levels nodes 125 ≡ outlined BetweenTokens (levels - 1) nodes
brace_outline levels nodes between = refl
brace_outline levels nodes scalar = refl

module _ (nodes : ℕ) where
  abbrev pub Goes : Outlined → Option ReaderState → Type 0
  Goes o given = AgreesOn o nodes false given

  same_outline : {o p : Outlined} {given : Option ReaderState} → o ≡ p → Goes p given → Goes o given
  same_outline {o} {p} {given} e h = subst (λ x. Goes x given) (sym e) h

  module _ (o : Outline) (k : IsOutside o) (state : ReaderState) (levels : ℕ) (n : nodes ≡ token_nodes state.tokens) where
    closes : (container : Opened) (around : List Opened) → levels ≡ length (container ∷ around) → (end : Token) → node_count end ≡ 0 → (place : token.Place)
        → Goes (outlined BetweenTokens (levels - 1) nodes) (Some (at_state Next around (state.tokens ++ (placed_at place end ∷ []))))
    closes container around l end z place =
        let h = token_nodes-last state.tokens (placed_at place end) in
        taken (record { outline = between; levels = omega (arith, l); nodes = omega (arith, h, z, n) }) refl

    comma_or_close_agrees : (opened : List Opened) → levels ≡ length opened → levels ≡ length state.opened → (byte : ℕ) → Goes (outline_byte o levels nodes byte) (comma_or_close state opened byte)
    comma_or_close_agrees [] l m byte = refused refl
    comma_or_close_agrees (Array ∷ around) l m byte = elim (cases_Bool (byte == 44)) [
      | inl e ↦
          subst (λ b. Goes (outline_byte o levels nodes b) (comma_or_close state (Array ∷ around) b)) (sym (equals byte 44 e))
          (same_outline (comma_outline levels nodes k) (taken (record { outline = refl; levels = m; nodes = omega (arith, n) }) refl))
      | inr f ↦ elim (cases_Bool (byte == 93)) [
        | inl e ↦
            subst (λ b. Goes (outline_byte o levels nodes b) (comma_or_close state (Array ∷ around) b)) (sym (equals byte 93 e))
            (same_outline (bracket_outline levels nodes k) (closes Array around l token.EndArray refl _))
        | inr g ↦ rw (f, g) (refused refl)
      ]
    ]
    comma_or_close_agrees (Object ∷ around) l m byte = elim (cases_Bool (byte == 44)) [
      | inl e ↦
          subst (λ b. Goes (outline_byte o levels nodes b) (comma_or_close state (Object ∷ around) b)) (sym (equals byte 44 e))
          (same_outline (comma_outline levels nodes k) (taken (record { outline = refl; levels = m; nodes = omega (arith, n) }) refl))
      | inr f ↦ elim (cases_Bool (byte == 125)) [
        | inl e ↦
            subst (λ b. Goes (outline_byte o levels nodes b) (comma_or_close state (Object ∷ around) b)) (sym (equals byte 125 e))
            (same_outline (brace_outline levels nodes k) (closes Object around l token.EndObject refl _))
        | inr g ↦ rw (f, g) (refused refl)
      ]
    ]

    pub follows_agrees : levels ≡ length state.opened → (byte : ℕ) → Goes (outline_byte o levels nodes byte) (follows state byte)
    follows_agrees l byte = elim (cases_Bool (is_space byte)) [
      | inl s ↦ rw s (same_outline (space_outline byte s levels nodes k) (taken (record { outline = between; levels = l; nodes = omega (arith, n) }) refl))
      | inr s ↦ rw s (comma_or_close_agrees state.opened l l byte)
    ]

-- ---- the first byte of a value

module _ (state : ReaderState) (levels nodes : ℕ) (l : levels ≡ length state.opened) (n : nodes ≡ token_nodes state.tokens) where
  abbrev BeginsAt : ℕ → Type 0
  BeginsAt byte = AgreesOn (outline_byte BetweenTokens levels nodes byte) nodes (begins_value byte) (begins state byte)

  word_begins : (t : Token) → node_count t ≡ 1 → (place : token.Place) (first : ℕ) (letters : List ℕ) → all_letters (first ∷ letters) ≡ true
      → AgreesOn (outlined InScalar levels (nodes + 1)) nodes true (Some (at_state (Letter first letters) state.opened (state.tokens ++ (placed_at place t ∷ []))))
  word_begins t one place first letters h =
      let k = token_nodes-last state.tokens (placed_at place t) in
      taken (record { outline = (refl, h); levels = l; nodes = omega (arith, k, one, n) }) refl

  level_begins : (container : Opened) (t : Token) → node_count t ≡ 1 → (place : token.Place) (expected : Expected) → IsOutlineOf BetweenTokens expected → in_progress expected ≡ 0
      → AgreesOn (outlined BetweenTokens (levels + 1) (nodes + 1)) nodes true (Some (at_state expected (container ∷ state.opened) (state.tokens ++ (placed_at place t ∷ []))))
  level_begins container t one place expected h z =
      let k = token_nodes-last state.tokens (placed_at place t) in
      taken (record { outline = h; levels = omega (arith, l); nodes = omega (arith, k, one, n, z) }) refl

  number_begins : (byte : ℕ) (phase : NumberPhase) → AgreesOn (outlined InScalar levels (nodes + 1)) nodes true (Some (at_state (InNumber phase (byte ∷ [])) state.opened state.tokens))
  number_begins byte phase = taken (record { outline = refl; levels = l; nodes = omega (arith, n) }) refl

  digit_begins : (byte : ℕ) → (byte == 45) ≡ false → (byte == 48) ≡ false → is_ascii_digit byte ≡ true → BeginsAt byte
  digit_begins byte m z d =
      let no : (k : ℕ) → (k < 48) ⊎ (57 < k) → (byte == k) ≡ false = λ k h. grind (arith, nat_tests) in
      rw (no 34 (inl (omega arith)), no 91 (inr (omega arith)), no 123 (inr (omega arith)), no 110 (inr (omega arith)), no 116 (inr (omega arith)), no 102 (inr (omega arith)), no 93 (inr (omega arith)), no 125 (inr (omega arith)), no 32 (inl (omega arith)), no 9 (inl (omega arith)), no 10 (inl (omega arith)), no 13 (inl (omega arith)), no 44 (inl (omega arith)), no 58 (inr (omega arith)), m, z, d)
      (number_begins byte _)

  others_begin : (byte : ℕ) → (byte == 34) ≡ false → (byte == 91) ≡ false → (byte == 123) ≡ false → (byte == 110) ≡ false → (byte == 116) ≡ false → (byte == 102) ≡ false → BeginsAt byte
  others_begin byte a b c d e f = elim (cases_Bool (byte == 45)) [
    | inl h ↦ subst BeginsAt (sym (equals byte 45 h)) (number_begins 45 _)
    | inr m ↦ elim (cases_Bool (byte == 48)) [
      | inl h ↦ subst BeginsAt (sym (equals byte 48 h)) (number_begins 48 _)
      | inr z ↦ elim (cases_Bool (is_ascii_digit byte)) [
        | inl h ↦ digit_begins byte m z h
        | inr h ↦ rw (a, b, c, d, e, f, m, z, h) (refused refl)
      ]
    ]
  ]

  pub begins_agrees : (byte : ℕ) → BeginsAt byte
  begins_agrees byte = elim (cases_Bool (byte == 34)) [
    | inl h ↦ subst BeginsAt (sym (equals byte 34 h)) (taken (record { outline = refl; levels = l; nodes = omega (arith, n) }) refl)
    | inr a ↦ elim (cases_Bool (byte == 91)) [
      | inl h ↦ subst BeginsAt (sym (equals byte 91 h)) (level_begins Array token.BeginArray refl _ FirstItem refl refl)
      | inr b ↦ elim (cases_Bool (byte == 123)) [
        | inl h ↦ subst BeginsAt (sym (equals byte 123 h)) (level_begins Object token.BeginObject refl _ FirstKey refl refl)
        | inr c ↦ elim (cases_Bool (byte == 110)) [
          | inl h ↦ subst BeginsAt (sym (equals byte 110 h)) (word_begins token.Null refl _ 117 (108 ∷ 108 ∷ []) refl)
          | inr d ↦ elim (cases_Bool (byte == 116)) [
            | inl h ↦ subst BeginsAt (sym (equals byte 116 h)) (word_begins (token.Truth true) refl _ 114 (117 ∷ 101 ∷ []) refl)
            | inr e ↦ elim (cases_Bool (byte == 102)) [
              | inl h ↦ subst BeginsAt (sym (equals byte 102 h)) (word_begins (token.Truth false) refl _ 97 (108 ∷ 115 ∷ 101 ∷ []) refl)
              | inr f ↦ others_begin byte a b c d e f
            ]
          ]
        ]
      ]
    ]
  ]

  pub key_begins : (byte : ℕ) → AgreesOn (outline_byte BetweenTokens levels nodes byte) nodes (byte == 34) (begins_key state byte)
  key_begins byte = elim (cases_Bool (byte == 34)) [
    | inl h ↦
        subst (λ b. AgreesOn (outline_byte BetweenTokens levels nodes b) nodes (b == 34) (begins_key state b)) (sym (equals byte 34 h))
        (taken (record { outline = refl; levels = l; nodes = omega (arith, n) }) refl)
    | inr a ↦ rw a (refused refl)
  ]

-- ---- in a number, a word or a string

module _ (opened : List Opened) (tokens : List Placed) (levels nodes : ℕ) (l : levels ≡ length opened) where
  abbrev InExpected : Outline → Expected → ℕ → Type 0
  InExpected outline expected byte = AgreesOn (outline_byte outline levels nodes byte) nodes false (step_in expected (at_state expected opened tokens) byte)

  letter_agrees : (first : ℕ) (letters : List ℕ) → all_letters (first ∷ letters) ≡ true → nodes ≡ token_nodes tokens → (byte : ℕ) → InExpected InScalar (Letter first letters) byte
  letter_agrees first letters h n byte = elim (cases_Bool (byte == first)) [
    | inl e ↦
        let both = and_parts (is_letter first) (all_letters letters) h in
        let same = equals byte first e in
        let range = and_parts (nat_lt 96 first) (nat_lt first 123) both.0 in
        let no : (k : ℕ) → (k < 97) ⊎ (122 < k) → (byte == k) ≡ false = λ k w. (let low : 96 < first = (let r = range.0 in grind (arith, nat_tests)) in let high : first < 123 = (let r = range.1 in grind (arith, nat_tests)) in grind (arith, nat_tests)) in
        rw (e, no 93 (inl (omega arith)), no 125 (inr (omega arith)), no 32 (inl (omega arith)), no 9 (inl (omega arith)), no 10 (inl (omega arith)), no 13 (inl (omega arith)), no 44 (inl (omega arith)), no 58 (inl (omega arith)))
        (left letters both.1)
    | inr e ↦ rw e (refused refl)
  ]
    where
      left : (letters : List ℕ) → all_letters letters ≡ true → AgreesOn (outlined InScalar levels nodes) nodes false (Some (at_state (letters_left letters) opened tokens))
      left [] k = taken (record { outline = scalar; levels = l; nodes = omega (arith, n) }) refl
      left (first ∷ letters) k = taken (record { outline = (refl, k); levels = l; nodes = omega (arith, n) }) refl

  number_agrees : (phase : NumberPhase) (text : List ℕ) → nodes ≡ token_nodes tokens + 1 → (byte : ℕ) → InExpected InScalar (InNumber phase text) byte
  number_agrees phase text n byte = elim (cases_Bool (is_number_byte byte)) [
    | inl b ↦
        let no : (k : ℕ) → is_number_byte k ≡ false → (byte == k) ≡ false = λ k w. other k w b in
        rw (b, no 93 refl, no 125 refl, no 32 refl, no 9 refl, no 10 refl, no 13 refl, no 44 refl, no 58 refl) (more (next_phase phase byte))
    | inr b ↦ rw b (ended (number_may_end phase))
  ]
    where
      other : (k : ℕ) → is_number_byte k ≡ false → is_number_byte byte ≡ true → (byte == k) ≡ false
      other k w b = elim (cases_Bool (byte == k)) [
        | inl e ↦ absurd (false≢true (sym w ∙ (ap is_number_byte (sym (equals byte k e)) ∙ b)))
        | inr e ↦ e
      ]

      more : (o : Option NumberPhase) → AgreesOn (outlined InScalar levels nodes) nodes false (option_map (λ next. at_state (InNumber next (text ++ (byte ∷ []))) opened tokens) o)
      more None = refused refl
      more (Some next) = taken (record { outline = refl; levels = l; nodes = omega (arith, n) }) refl

      ended : (m : Bool) → AgreesOn (outline_byte InScalar levels nodes byte) nodes false (cond m (follows (number_is_ended (at_state (InNumber phase text) opened tokens) text) byte) None)
      ended false = refused refl
      ended true =
          let state = number_is_ended (at_state (InNumber phase text) opened tokens) text in
          let k : token_nodes state.tokens ≡ token_nodes tokens + 1 = token_nodes-last tokens _ in
          follows_agrees nodes InScalar scalar state levels (omega (arith, k, n)) l byte

  module _ (is_key : Bool) (text : List ℕ) (n : nodes ≡ token_nodes tokens + 1) where
    abbrev InText : Outline → Within → ℕ → Type 0
    InText outline within byte = InExpected outline (InString is_key within text) byte

    goes_in : (byte : ℕ) (outline : Outline) (within : Within) → outline ≡ outline_within within
        → AgreesOn (outlined outline levels nodes) nodes false (Some (at_state (InString is_key within (text ++ (byte ∷ []))) opened tokens))
    goes_in byte outline within e = taken (record { outline = e; levels = l; nodes = omega (arith, n) }) refl

    -- the places that are given are not behind a backslash
    abbrev AreQuoted : Option Within → Type 0
    AreQuoted None = ⊤
    AreQuoted (Some within) = outline_within within ≡ InQuotes

    when_quoted : (test : Bool) (within : Within) → outline_within within ≡ InQuotes → AreQuoted (within_when test within)
    when_quoted true within e = e
    when_quoted false within e = tt

    or_quoted : (test : Bool) (within : Within) (others : Option Within) → outline_within within ≡ InQuotes → AreQuoted others → AreQuoted (cond test (Some within) others)
    or_quoted true within others e h = e
    or_quoted false within others e h = h

    mapped : (byte : ℕ) (o : Option Within) → AreQuoted o → AgreesOn (outlined InQuotes levels nodes) nodes false (option_map (λ next. at_state (InString is_key next (text ++ (byte ∷ []))) opened tokens) o)
    mapped byte None h = refused refl
    mapped byte (Some within) h = goes_in byte InQuotes within (sym h)

    text_ends : AgreesOn (outlined BetweenTokens levels nodes) nodes false (Some (string_ends (at_state (InString is_key Plain text) opened tokens) is_key text))
    text_ends = go is_key
      where
        go : (is_key : Bool) → AgreesOn (outlined BetweenTokens levels nodes) nodes false (Some (string_ends (at_state (InString is_key Plain text) opened tokens) is_key text))
        go true = let k = token_nodes-last tokens (placed_at token.Key (token.Text text)) in taken (record { outline = refl; levels = l; nodes = omega (arith, k, n) }) refl
        go false = let k = token_nodes-last tokens (placed_at (place_in opened) (token.Text text)) in taken (record { outline = between; levels = l; nodes = omega (arith, k, n) }) refl

    plain_agrees : (byte : ℕ) → InText InQuotes Plain byte
    plain_agrees byte = elim (cases_Bool (byte == 34)) [
      | inl e ↦ subst (InText InQuotes Plain) (sym (equals byte 34 e)) text_ends
      | inr q ↦ elim (cases_Bool (byte == 92)) [
        | inl e ↦ subst (InText InQuotes Plain) (sym (equals byte 92 e)) (goes_in 92 BehindBackslash Backslash refl)
        | inr b ↦ elim (cases_Bool (nat_lt byte 32)) [
          | inl e ↦ rw (q, b, e) (refused refl)
          | inr e ↦ rw (q, b, e) (goes_in byte InQuotes Plain refl)
        ]
      ]
    ]

    -- a place where neither a quote nor a backslash is taken
    digits_agree : (within : Within) → InText InQuotes within 34 → InText InQuotes within 92 → ((byte : ℕ) → (byte == 34) ≡ false → (byte == 92) ≡ false → InText InQuotes within byte) → (byte : ℕ) → InText InQuotes within byte
    digits_agree within a b f byte = elim (cases_Bool (byte == 34)) [
      | inl e ↦ subst (InText InQuotes within) (sym (equals byte 34 e)) a
      | inr q ↦ elim (cases_Bool (byte == 92)) [
        | inl e ↦ subst (InText InQuotes within) (sym (equals byte 92 e)) b
        | inr k ↦ f byte q k
      ]
    ]

    within_agrees : (within : Within) (byte : ℕ) → InText (outline_within within) within byte
    within_agrees Plain byte = plain_agrees byte
    within_agrees Backslash byte = mapped byte (next_within Backslash byte) (or_quoted (byte == 117) Unit (within_when (is_some (escaped_byte byte)) Plain) refl (when_quoted (is_some (escaped_byte byte)) Plain refl))
    within_agrees Unit byte = digits_agree Unit (refused refl) (refused refl) (λ b q k. rw (q, k) (mapped b (next_within Unit b) (or_quoted (is_d b) UnitD (within_when (is_hex b) ThreeLeft) refl (when_quoted (is_hex b) ThreeLeft refl)))) byte
    within_agrees UnitD byte = digits_agree UnitD (refused refl) (refused refl) (λ b q k. rw (q, k) (mapped b (next_within UnitD b) (or_quoted (nat_lt (digit_value b) 8) TwoLeft (within_when (nat_lt (digit_value b) 12) HighTwoLeft) refl (when_quoted (nat_lt (digit_value b) 12) HighTwoLeft refl)))) byte
    within_agrees ThreeLeft byte = digits_agree ThreeLeft (refused refl) (refused refl) (λ b q k. rw (q, k) (mapped b (next_within ThreeLeft b) (when_quoted (is_hex b) TwoLeft refl))) byte
    within_agrees TwoLeft byte = digits_agree TwoLeft (refused refl) (refused refl) (λ b q k. rw (q, k) (mapped b (next_within TwoLeft b) (when_quoted (is_hex b) OneLeft refl))) byte
    within_agrees OneLeft byte = digits_agree OneLeft (refused refl) (refused refl) (λ b q k. rw (q, k) (mapped b (next_within OneLeft b) (when_quoted (is_hex b) Plain refl))) byte
    within_agrees HighTwoLeft byte = digits_agree HighTwoLeft (refused refl) (refused refl) (λ b q k. rw (q, k) (mapped b (next_within HighTwoLeft b) (when_quoted (is_hex b) HighOneLeft refl))) byte
    within_agrees HighOneLeft byte = digits_agree HighOneLeft (refused refl) (refused refl) (λ b q k. rw (q, k) (mapped b (next_within HighOneLeft b) (when_quoted (is_hex b) High refl))) byte
    within_agrees High byte = digits_agree High (refused refl) (goes_in 92 BehindBackslash LowBackslash refl) (λ b q k. rw (q, k) (refused refl)) byte
    within_agrees LowBackslash byte = mapped byte (next_within LowBackslash byte) (when_quoted (byte == 117) LowUnit refl)
    within_agrees LowUnit byte = digits_agree LowUnit (refused refl) (refused refl) (λ b q k. rw (q, k) (mapped b (next_within LowUnit b) (when_quoted (is_d b) LowD refl))) byte
    within_agrees LowD byte = digits_agree LowD (refused refl) (refused refl) (λ b q k. rw (q, k) (mapped b (next_within LowD b) (when_quoted (nat_le 12 (digit_value b) && is_hex b) LowTwoLeft refl))) byte
    within_agrees LowTwoLeft byte = digits_agree LowTwoLeft (refused refl) (refused refl) (λ b q k. rw (q, k) (mapped b (next_within LowTwoLeft b) (when_quoted (is_hex b) LowOneLeft refl))) byte
    within_agrees LowOneLeft byte = digits_agree LowOneLeft (refused refl) (refused refl) (λ b q k. rw (q, k) (mapped b (next_within LowOneLeft b) (when_quoted (is_hex b) Plain refl))) byte

-- ---- any byte

module _ (opened : List Opened) (tokens : List Placed) (levels nodes : ℕ) (l : levels ≡ length opened) where
  abbrev StepAgrees : Outline → Expected → ℕ → Type 0
  StepAgrees outline expected byte = AgreesOn (outline_byte outline levels nodes byte) nodes (begins_node expected byte) (step_in expected (at_state expected opened tokens) byte)

  as_given : {o p : Outlined} {b d : Bool} {x y : Option ReaderState} → o ≡ p → b ≡ d → x ≡ y → AgreesOn p nodes d y → AgreesOn o nodes b x
  as_given {o} {p} {b} {d} {x} {y} e f g h = subst (λ i. AgreesOn i nodes b x) (sym e) (subst (λ i. AgreesOn p nodes i x) (sym f) (subst (AgreesOn p nodes d) (sym g) h))

  space_stays : (expected : Expected) → IsOutlineOf BetweenTokens expected → nodes ≡ token_nodes tokens + in_progress expected → AgreesOn (outlined BetweenTokens levels nodes) nodes false (Some (at_state expected opened tokens))
  space_stays expected h n = taken (record { outline = h; levels = l; nodes = n }) refl

  value_agrees : nodes ≡ token_nodes tokens → (byte : ℕ) → StepAgrees BetweenTokens AValue byte
  value_agrees n byte = elim (cases_Bool (is_space byte)) [
    | inl s ↦ as_given (space_outline byte s levels nodes between) (space_begins byte s) (rw s refl) (space_stays AValue refl (omega (arith, n)))
    | inr s ↦ as_given refl refl (rw s refl) (begins_agrees (at_state AValue opened tokens) levels nodes l n byte)
  ]

  item_agrees : nodes ≡ token_nodes tokens → (byte : ℕ) → StepAgrees BetweenTokens FirstItem byte
  item_agrees n byte = elim (cases_Bool (is_space byte)) [
    | inl s ↦ as_given (space_outline byte s levels nodes between) (space_begins byte s) (rw s refl) (space_stays FirstItem refl (omega (arith, n)))
    | inr s ↦ elim (cases_Bool (byte == 93)) [
      | inl e ↦ subst (StepAgrees BetweenTokens FirstItem) (sym (equals byte 93 e)) (follows_agrees nodes BetweenTokens between (at_state FirstItem opened tokens) levels n l 93)
      | inr e ↦ as_given refl refl (rw (s, e) refl) (begins_agrees (at_state FirstItem opened tokens) levels nodes l n byte)
    ]
  ]

  first_key_agrees : nodes ≡ token_nodes tokens → (byte : ℕ) → StepAgrees BetweenTokens FirstKey byte
  first_key_agrees n byte = elim (cases_Bool (is_space byte)) [
    | inl s ↦ as_given (space_outline byte s levels nodes between) (space_not byte s 34 (omega arith)) (rw s refl) (space_stays FirstKey refl (omega (arith, n)))
    | inr s ↦ elim (cases_Bool (byte == 125)) [
      | inl e ↦ subst (StepAgrees BetweenTokens FirstKey) (sym (equals byte 125 e)) (follows_agrees nodes BetweenTokens between (at_state FirstKey opened tokens) levels n l 125)
      | inr e ↦ as_given refl refl (rw (s, e) refl) (key_begins (at_state FirstKey opened tokens) levels nodes l n byte)
    ]
  ]

  next_key_agrees : nodes ≡ token_nodes tokens → (byte : ℕ) → StepAgrees BetweenTokens NextKey byte
  next_key_agrees n byte = elim (cases_Bool (is_space byte)) [
    | inl s ↦ as_given (space_outline byte s levels nodes between) (space_not byte s 34 (omega arith)) (rw s refl) (space_stays NextKey refl (omega (arith, n)))
    | inr s ↦ as_given refl refl (rw s refl) (key_begins (at_state NextKey opened tokens) levels nodes l n byte)
  ]

  colon_agrees : nodes ≡ token_nodes tokens → (byte : ℕ) → StepAgrees BetweenTokens Colon byte
  colon_agrees n byte = elim (cases_Bool (is_space byte)) [
    | inl s ↦ as_given (space_outline byte s levels nodes between) refl (rw s refl) (space_stays Colon refl (omega (arith, n)))
    | inr s ↦ elim (cases_Bool (byte == 58)) [
      | inl e ↦ subst (StepAgrees BetweenTokens Colon) (sym (equals byte 58 e)) (space_stays AValue refl (omega (arith, n)))
      | inr e ↦ rw (s, e) (refused refl)
    ]
  ]

  pub step-agrees : (outline : Outline) (expected : Expected) → IsOutlineOf outline expected → nodes ≡ token_nodes tokens + in_progress expected → (byte : ℕ) → StepAgrees outline expected byte
  step-agrees outline AValue h n byte = subst (λ o. StepAgrees o AValue byte) (sym h) (value_agrees (omega (arith, n)) byte)
  step-agrees outline FirstItem h n byte = subst (λ o. StepAgrees o FirstItem byte) (sym h) (item_agrees (omega (arith, n)) byte)
  step-agrees outline FirstKey h n byte = subst (λ o. StepAgrees o FirstKey byte) (sym h) (first_key_agrees (omega (arith, n)) byte)
  step-agrees outline NextKey h n byte = subst (λ o. StepAgrees o NextKey byte) (sym h) (next_key_agrees (omega (arith, n)) byte)
  step-agrees outline Colon h n byte = subst (λ o. StepAgrees o Colon byte) (sym h) (colon_agrees (omega (arith, n)) byte)
  step-agrees outline Next h n byte = follows_agrees nodes outline h (at_state Next opened tokens) levels (omega (arith, n)) l byte
  step-agrees outline (Letter first letters) h n byte = subst (λ o. StepAgrees o (Letter first letters) byte) (sym h.0) (letter_agrees opened tokens levels nodes l first letters h.1 (omega (arith, n)) byte)
  step-agrees outline (InNumber phase text) h n byte = subst (λ o. StepAgrees o (InNumber phase text) byte) (sym h) (number_agrees opened tokens levels nodes l phase text n byte)
  step-agrees outline (InString is_key within text) h n byte =
      subst (λ o. StepAgrees o (InString is_key within text) byte) (sym h) (within_agrees opened tokens levels nodes l is_key text n within byte)
