-- The machine takes only what a text that denotes a value goes on with.
use Rattle.std.specs.Prelude.{◌≡◌, ℕ, Bool, true, false, cond, ◌==◌, List, [], ◌∷◌, ◌++◌, Option, Some, None, option_and_then, option_map, refl}
use Rattle.std.specs.Char.{is_ascii_digit}
use Rattle.std.proofs.Common.{sym, ap, subst, ◌∙◌, arith}
use Rattle.std.proofs.lemmas.Bool.Decides.{nat_tests}
use Rattle.sval_json.specs.Digits.{minus, zero_digit, front, after_front, is_json_number, is_number_byte}
use Rattle.sval_json.specs.Grammar as json
use Rattle.sval_json.specs.Grammar.{JsonValue, after_space, is_space, IsValue, Denotes}
use Rattle.sval_json.proofs.NumberGrammar.{run_value}
use Rattle.sval_json_read.specs.Tokens.{Token, Placed, placed_at, Alone}
use Rattle.sval_json_read.specs.Tokens as token
use Rattle.sval_json_read.specs.Numbers.{NumberPhase, Minus, Zero, Whole, phase_when, first_phase, next_phase, number_may_end}
use Rattle.sval_json_read.specs.Strings.{Within, Plain, next_within, closes_string}
use Rattle.sval_json_read.specs.Reader.{Opened, Array, Object, Expected, AValue, FirstItem, FirstKey, NextKey, Colon, Next, Letter, InNumber, InString, ReaderState, place_in, begins, comma_or_close, follows, begins_key, letters_left, string_ends, step_in, reader_step, after_bytes, at_end_in, tokens_at_end}
use Rattle.sval_json_read.proofs.NumberPhases.{completes, completes_after, may_end-completes, next-completes, first-completes}
use Rattle.sval_json_read.proofs.StringSteps.{CompletesAfter, plain, string-step, string-closes}
use Rattle.sval_json_read.proofs.Fits.{Ends, whole, array_ends, array_goes_on, object_ends, object_goes_on, ValueThen, value_then, ColonThen, colon_then, KeyThen, key_then, Fits, value, first_item, no_item, first_key, no_key, next_key, colon, after_it, letter, in_number, in_key, in_text, array_begun, object_begun}

abbrev OnStep : Option ReaderState → List ℕ → Type 0
OnStep None bytes = ⊥
OnStep (Some state) bytes = Fits state.expected state.opened bytes

abbrev make : Expected → List Opened → List Placed → Option ReaderState
make x opened tokens = Some (record { expected = x; opened = opened; tokens = tokens })

-- ---- single bytes

at_byte : (P : ℕ → Type 0) (byte n : ℕ) → (byte == n) ≡ true → P n → P byte
at_byte P byte n h p = let e : n ≡ byte = grind (arith, nat_tests) in subst P e p

spaced : (byte : ℕ) (bytes : List ℕ) → is_space byte ≡ true → after_space bytes ≡ after_space (byte ∷ bytes)
spaced byte bytes h = rw h refl

unspaced : (byte : ℕ) (bytes : List ℕ) → is_space byte ≡ false → byte ∷ bytes ≡ after_space (byte ∷ bytes)
unspaced byte bytes h = rw h refl

space_before : (byte : ℕ) (bytes : List ℕ) {opened : List Opened} → is_space byte ≡ true → Ends opened bytes → Ends opened (byte ∷ bytes)
space_before byte bytes h (whole e) = whole (sym (spaced byte bytes h) ∙ e)
space_before byte bytes h (array_ends e s) = array_ends (sym (spaced byte bytes h) ∙ e) s
space_before byte bytes h (array_goes_on e v s) = array_goes_on (sym (spaced byte bytes h) ∙ e) v s
space_before byte bytes h (object_ends e s) = object_ends (sym (spaced byte bytes h) ∙ e) s
space_before byte bytes h (object_goes_on e q k c v s) = object_goes_on (sym (spaced byte bytes h) ∙ e) q k c v s

space_before_colon : (byte : ℕ) (bytes : List ℕ) {opened : List Opened} → is_space byte ≡ true → ColonThen opened bytes → ColonThen opened (byte ∷ bytes)
space_before_colon byte bytes h (colon_then e v) = colon_then (sym (spaced byte bytes h) ∙ e) v

-- ---- after a value

comma_in_array : {bytes : List ℕ} {around : List Opened} → Fits AValue (Array ∷ around) bytes → Ends (Array ∷ around) (44 ∷ bytes)
comma_in_array (value (value_then v s)) = array_goes_on refl v s

comma_in_object : {bytes : List ℕ} {around : List Opened} → Fits NextKey (Object ∷ around) bytes → Ends (Object ∷ around) (44 ∷ bytes)
comma_in_object (next_key (key_then q k (colon_then c (value_then v s)))) = object_goes_on refl q k c v s

end_of_array : {bytes : List ℕ} {around : List Opened} → Fits Next around bytes → Ends (Array ∷ around) (93 ∷ bytes)
end_of_array (after_it s) = array_ends refl s

end_of_object : {bytes : List ℕ} {around : List Opened} → Fits Next around bytes → Ends (Object ∷ around) (125 ∷ bytes)
end_of_object (after_it s) = object_ends refl s

in_order : (x : Expected) (opened : List Opened) (tokens : List Placed) (byte : ℕ) (bytes : List ℕ)
    → OnStep (comma_or_close (record { expected = x; opened = opened; tokens = tokens }) opened byte) bytes → Ends opened (byte ∷ bytes)
in_order x [] tokens byte bytes r = absurd r
in_order x (Array ∷ around) tokens byte bytes r = go (byte == 44) (byte == 93) refl refl r
  where
    go : (c e : Bool) → (byte == 44) ≡ c → (byte == 93) ≡ e → OnStep (cond c (Some (record { expected = AValue; opened = Array ∷ around; tokens = tokens }))
        (cond e (Some (record { expected = Next; opened = around; tokens = tokens ++ (placed_at (place_in around) token.EndArray ∷ []) })) None)) bytes → Ends (Array ∷ around) (byte ∷ bytes)
    go true e h k f = at_byte (λ b. Ends (Array ∷ around) (b ∷ bytes)) byte 44 h (comma_in_array f)
    go false true h k f = at_byte (λ b. Ends (Array ∷ around) (b ∷ bytes)) byte 93 k (end_of_array f)
    go false false h k f = absurd f
in_order x (Object ∷ around) tokens byte bytes r = go (byte == 44) (byte == 125) refl refl r
  where
    go : (c e : Bool) → (byte == 44) ≡ c → (byte == 125) ≡ e → OnStep (cond c (Some (record { expected = NextKey; opened = Object ∷ around; tokens = tokens }))
        (cond e (Some (record { expected = Next; opened = around; tokens = tokens ++ (placed_at (place_in around) token.EndObject ∷ []) })) None)) bytes → Ends (Object ∷ around) (byte ∷ bytes)
    go true e h k f = at_byte (λ b. Ends (Object ∷ around) (b ∷ bytes)) byte 44 h (comma_in_object f)
    go false true h k f = at_byte (λ b. Ends (Object ∷ around) (b ∷ bytes)) byte 125 k (end_of_object f)
    go false false h k f = absurd f

ends_from : {opened : List Opened} {bytes : List ℕ} → Fits Next opened bytes → Ends opened bytes
ends_from (after_it s) = s

after_value : (x : Expected) (opened : List Opened) (tokens : List Placed) (byte : ℕ) (bytes : List ℕ)
    → OnStep (follows (record { expected = x; opened = opened; tokens = tokens }) byte) bytes → Ends opened (byte ∷ bytes)
after_value x opened tokens byte bytes r = go (is_space byte) refl r
  where
    go : (s : Bool) → is_space byte ≡ s → OnStep (cond s (Some (record { expected = Next; opened = opened; tokens = tokens })) (comma_or_close (record { expected = x; opened = opened; tokens = tokens }) opened byte)) bytes
        → Ends opened (byte ∷ bytes)
    go true h f = space_before byte bytes h (ends_from f)
    go false h f = in_order x opened tokens byte bytes f

-- ---- the first byte of a value

null_word : {bytes : List ℕ} {opened : List Opened} → Fits (Letter 117 (108 ∷ 108 ∷ [])) opened bytes → ValueThen opened (110 ∷ bytes)
null_word {opened = opened} (letter e s) = rw e (value_then json.null s)

true_word : {bytes : List ℕ} {opened : List Opened} → Fits (Letter 114 (117 ∷ 101 ∷ [])) opened bytes → ValueThen opened (116 ∷ bytes)
true_word (letter e s) = rw e (value_then json.truth s)

false_word : {bytes : List ℕ} {opened : List Opened} → Fits (Letter 97 (108 ∷ 115 ∷ 101 ∷ [])) opened bytes → ValueThen opened (102 ∷ bytes)
false_word (letter e s) = rw e (value_then json.falsehood s)

text_begun : {bytes : List ℕ} {opened : List Opened} → Fits (InString false Plain []) opened bytes → ValueThen opened (34 ∷ bytes)
text_begun (in_text rest c s) = let t = c [] plain in value_then (json.string t.1) s

key_begun : {bytes : List ℕ} {opened : List Opened} → Fits (InString true Plain []) opened bytes → KeyThen opened (34 ∷ bytes)
key_begun (in_key rest c s) = let t = c [] plain in key_then refl t.1 s

pub first_number_byte : (byte : ℕ) (phase : NumberPhase) → first_phase byte ≡ Some phase → is_number_byte byte ≡ true
first_number_byte byte phase h = go (byte == minus) (byte == zero_digit) (is_ascii_digit byte) refl refl refl h
  where
    go : (m z d : Bool) → (byte == minus) ≡ m → (byte == zero_digit) ≡ z → is_ascii_digit byte ≡ d
        → cond m (Some Minus) (cond z (Some Zero) (phase_when d Whole)) ≡ Some phase → is_number_byte byte ≡ true
    go true z d e f g h = grind (arith, nat_tests)
    go false true d e f g h = grind (arith, nat_tests)
    go false false true e f g h = rw g refl
    go false false false e f g h = cc h

number_front : (byte : ℕ) (bytes : List ℕ) → is_number_byte byte ≡ true → front is_number_byte (byte ∷ bytes) ≡ byte ∷ front is_number_byte bytes
number_front byte bytes h = rw h refl

number_after : (byte : ℕ) (bytes : List ℕ) → is_number_byte byte ≡ true → after_front is_number_byte (byte ∷ bytes) ≡ after_front is_number_byte bytes
number_after byte bytes h = rw h refl

number_then : (byte : ℕ) (bytes read : List ℕ) (opened : List Opened) (phase : NumberPhase) → first_phase byte ≡ Some phase → Fits (InNumber phase read) opened bytes → ValueThen opened (byte ∷ bytes)
number_then byte bytes read opened phase e (in_number h s) =
    let b = first_number_byte byte phase e in
    let n : is_json_number (front is_number_byte (byte ∷ bytes)) ≡ true =
    ap is_json_number (number_front byte bytes b) ∙ first-completes byte (front is_number_byte bytes) ∙ ap (λ o. completes_after o (front is_number_byte bytes)) e ∙ h in
    value_then (run_value n) (subst (Ends opened) (sym (number_after byte bytes b)) s)

number_begun : (byte : ℕ) (bytes : List ℕ) (opened : List Opened) (tokens : List Placed) (o : Option NumberPhase) → first_phase byte ≡ o
    → OnStep (option_map (λ phase. record { expected = InNumber phase (byte ∷ []); opened = opened; tokens = tokens }) o) bytes → ValueThen opened (byte ∷ bytes)
number_begun byte bytes opened tokens None e r = absurd r
number_begun byte bytes opened tokens (Some phase) e r = number_then byte bytes (byte ∷ []) opened phase e r

first_byte : (x : Expected) (opened : List Opened) (tokens : List Placed) (byte : ℕ) (bytes : List ℕ)
    → OnStep (begins (record { expected = x; opened = opened; tokens = tokens }) byte) bytes → ValueThen opened (byte ∷ bytes)
first_byte x opened tokens byte bytes r = go (byte == 34) (byte == 91) (byte == 123) (byte == 110) (byte == 116) (byte == 102) refl refl refl refl refl refl r
  where
    go : (q a o n t f : Bool) → (byte == 34) ≡ q → (byte == 91) ≡ a → (byte == 123) ≡ o → (byte == 110) ≡ n → (byte == 116) ≡ t → (byte == 102) ≡ f
        → OnStep (
        cond q (make (InString false Plain []) opened tokens)
        (cond a (make FirstItem (Array ∷ opened) (tokens ++ (placed_at (place_in opened) token.BeginArray ∷ [])))
        (cond o (make FirstKey (Object ∷ opened) (tokens ++ (placed_at (place_in opened) token.BeginObject ∷ [])))
        (cond n (make (Letter 117 (108 ∷ 108 ∷ [])) opened (tokens ++ (placed_at (place_in opened) token.Null ∷ [])))
        (cond t (make (Letter 114 (117 ∷ 101 ∷ [])) opened (tokens ++ (placed_at (place_in opened) (token.Truth true) ∷ [])))
        (cond f (make (Letter 97 (108 ∷ 115 ∷ 101 ∷ [])) opened (tokens ++ (placed_at (place_in opened) (token.Truth false) ∷ [])))
        (option_map (λ phase. record { expected = InNumber phase (byte ∷ []); opened = opened; tokens = tokens }) (first_phase byte)))))))
        ) bytes → ValueThen opened (byte ∷ bytes)
    go true a o n t f h1 h2 h3 h4 h5 h6 s = at_byte (λ b. ValueThen opened (b ∷ bytes)) byte 34 h1 (text_begun s)
    go false true o n t f h1 h2 h3 h4 h5 h6 s = at_byte (λ b. ValueThen opened (b ∷ bytes)) byte 91 h2 (array_begun s)
    go false false true n t f h1 h2 h3 h4 h5 h6 s = at_byte (λ b. ValueThen opened (b ∷ bytes)) byte 123 h3 (object_begun s)
    go false false false true t f h1 h2 h3 h4 h5 h6 s = at_byte (λ b. ValueThen opened (b ∷ bytes)) byte 110 h4 (null_word s)
    go false false false false true f h1 h2 h3 h4 h5 h6 s = at_byte (λ b. ValueThen opened (b ∷ bytes)) byte 116 h5 (true_word s)
    go false false false false false true h1 h2 h3 h4 h5 h6 s = at_byte (λ b. ValueThen opened (b ∷ bytes)) byte 102 h6 (false_word s)
    go false false false false false false h1 h2 h3 h4 h5 h6 s = number_begun byte bytes opened tokens (first_phase byte) refl s

-- ---- one byte

at_value : (opened : List Opened) (tokens : List Placed) (byte : ℕ) (bytes : List ℕ)
    → OnStep (step_in AValue (record { expected = AValue; opened = opened; tokens = tokens }) byte) bytes → Fits AValue opened (byte ∷ bytes)
at_value opened tokens byte bytes r = go (is_space byte) refl r
  where
    on : Fits AValue opened bytes → is_space byte ≡ true → Fits AValue opened (byte ∷ bytes)
    on (value v) h = value (subst (ValueThen opened) (spaced byte bytes h) v)

    go : (s : Bool) → is_space byte ≡ s → OnStep (cond s (make AValue opened tokens) (begins (record { expected = AValue; opened = opened; tokens = tokens }) byte)) bytes
        → Fits AValue opened (byte ∷ bytes)
    go true h f = on f h
    go false h f = value (subst (ValueThen opened) (unspaced byte bytes h) (first_byte AValue opened tokens byte bytes f))

space_before_item : (byte : ℕ) (bytes : List ℕ) {opened : List Opened} → is_space byte ≡ true → Fits FirstItem opened bytes → Fits FirstItem opened (byte ∷ bytes)
space_before_item byte bytes {opened} h (first_item v) = first_item (subst (ValueThen opened) (spaced byte bytes h) v)
space_before_item byte bytes h (no_item e s) = no_item (sym (spaced byte bytes h) ∙ e) s

space_before_key : (byte : ℕ) (bytes : List ℕ) {opened : List Opened} → is_space byte ≡ true → Fits FirstKey opened bytes → Fits FirstKey opened (byte ∷ bytes)
space_before_key byte bytes {opened} h (first_key v) = first_key (subst (KeyThen opened) (spaced byte bytes h) v)
space_before_key byte bytes h (no_key e s) = no_key (sym (spaced byte bytes h) ∙ e) s

empty_array_ends : (opened : List Opened) (tokens : List Placed) (bytes : List ℕ)
    → OnStep (follows (record { expected = FirstItem; opened = opened; tokens = tokens }) 93) bytes → Fits FirstItem opened (93 ∷ bytes)
empty_array_ends [] tokens bytes r = absurd r
empty_array_ends (Array ∷ around) tokens bytes r = no_item refl (ends_from r)
empty_array_ends (Object ∷ around) tokens bytes r = absurd r

empty_object_ends : (opened : List Opened) (tokens : List Placed) (bytes : List ℕ)
    → OnStep (follows (record { expected = FirstKey; opened = opened; tokens = tokens }) 125) bytes → Fits FirstKey opened (125 ∷ bytes)
empty_object_ends [] tokens bytes r = absurd r
empty_object_ends (Array ∷ around) tokens bytes r = absurd r
empty_object_ends (Object ∷ around) tokens bytes r = no_key refl (ends_from r)

moved : (P : ℕ → Type 0) (Q : ℕ → Type 0) (byte n : ℕ) → (byte == n) ≡ true → (P n → Q n) → P byte → Q byte
moved P Q byte n h f = at_byte (λ b. P b → Q b) byte n h f

at_first_item : (opened : List Opened) (tokens : List Placed) (byte : ℕ) (bytes : List ℕ)
    → OnStep (step_in FirstItem (record { expected = FirstItem; opened = opened; tokens = tokens }) byte) bytes → Fits FirstItem opened (byte ∷ bytes)
at_first_item opened tokens byte bytes r = go (is_space byte) (byte == 93) refl refl r
  where
    go : (s e : Bool) → is_space byte ≡ s → (byte == 93) ≡ e → OnStep (cond s (make FirstItem opened tokens) (cond e (follows (record { expected = FirstItem; opened = opened; tokens = tokens }) byte)
        (begins (record { expected = FirstItem; opened = opened; tokens = tokens }) byte))) bytes → Fits FirstItem opened (byte ∷ bytes)
    go true e h k f = space_before_item byte bytes h f
    go false true h k f =
        moved (λ b. OnStep (follows (record { expected = FirstItem; opened = opened; tokens = tokens }) b) bytes) (λ b. Fits FirstItem opened (b ∷ bytes)) byte 93 k (empty_array_ends opened tokens bytes) f
    go false false h k f = first_item (subst (ValueThen opened) (unspaced byte bytes h) (first_byte FirstItem opened tokens byte bytes f))

key_byte : (x : Expected) (opened : List Opened) (tokens : List Placed) (byte : ℕ) (bytes : List ℕ)
    → OnStep (begins_key (record { expected = x; opened = opened; tokens = tokens }) byte) bytes → KeyThen opened (byte ∷ bytes)
key_byte x opened tokens byte bytes r = go (byte == 34) refl r
  where
    go : (q : Bool) → (byte == 34) ≡ q → OnStep (cond q (make (InString true Plain []) opened tokens) None) bytes → KeyThen opened (byte ∷ bytes)
    go true h f = at_byte (λ b. KeyThen opened (b ∷ bytes)) byte 34 h (key_begun f)
    go false h f = absurd f

at_first_key : (opened : List Opened) (tokens : List Placed) (byte : ℕ) (bytes : List ℕ)
    → OnStep (step_in FirstKey (record { expected = FirstKey; opened = opened; tokens = tokens }) byte) bytes → Fits FirstKey opened (byte ∷ bytes)
at_first_key opened tokens byte bytes r = go (is_space byte) (byte == 125) refl refl r
  where
    go : (s e : Bool) → is_space byte ≡ s → (byte == 125) ≡ e → OnStep (cond s (make FirstKey opened tokens) (cond e (follows (record { expected = FirstKey; opened = opened; tokens = tokens }) byte)
        (begins_key (record { expected = FirstKey; opened = opened; tokens = tokens }) byte))) bytes → Fits FirstKey opened (byte ∷ bytes)
    go true e h k f = space_before_key byte bytes h f
    go false true h k f =
        moved (λ b. OnStep (follows (record { expected = FirstKey; opened = opened; tokens = tokens }) b) bytes) (λ b. Fits FirstKey opened (b ∷ bytes)) byte 125 k (empty_object_ends opened tokens bytes) f
    go false false h k f = first_key (subst (KeyThen opened) (unspaced byte bytes h) (key_byte FirstKey opened tokens byte bytes f))

space_before_next_key : (byte : ℕ) (bytes : List ℕ) {opened : List Opened} → is_space byte ≡ true → Fits NextKey opened bytes → Fits NextKey opened (byte ∷ bytes)
space_before_next_key byte bytes {opened} h (next_key v) = next_key (subst (KeyThen opened) (spaced byte bytes h) v)

at_next_key : (opened : List Opened) (tokens : List Placed) (byte : ℕ) (bytes : List ℕ)
    → OnStep (step_in NextKey (record { expected = NextKey; opened = opened; tokens = tokens }) byte) bytes → Fits NextKey opened (byte ∷ bytes)
at_next_key opened tokens byte bytes r = go (is_space byte) refl r
  where
    go : (s : Bool) → is_space byte ≡ s → OnStep (cond s (make NextKey opened tokens) (begins_key (record { expected = NextKey; opened = opened; tokens = tokens }) byte)) bytes
        → Fits NextKey opened (byte ∷ bytes)
    go true h f = space_before_next_key byte bytes h f
    go false h f = next_key (subst (KeyThen opened) (unspaced byte bytes h) (key_byte NextKey opened tokens byte bytes f))

colon_from : {opened : List Opened} {bytes : List ℕ} → Fits Colon opened bytes → ColonThen opened bytes
colon_from (colon c) = c

colon_byte : {opened : List Opened} {bytes : List ℕ} → Fits AValue opened bytes → ColonThen opened (58 ∷ bytes)
colon_byte (value v) = colon_then refl v

at_colon : (opened : List Opened) (tokens : List Placed) (byte : ℕ) (bytes : List ℕ)
    → OnStep (step_in Colon (record { expected = Colon; opened = opened; tokens = tokens }) byte) bytes → Fits Colon opened (byte ∷ bytes)
at_colon opened tokens byte bytes r = go (is_space byte) (byte == 58) refl refl r
  where
    go : (s e : Bool) → is_space byte ≡ s → (byte == 58) ≡ e → OnStep (cond s (make Colon opened tokens) (cond e (make AValue opened tokens) None)) bytes → Fits Colon opened (byte ∷ bytes)
    go true e h k f = colon (space_before_colon byte bytes h (colon_from f))
    go false true h k f = colon (at_byte (λ b. ColonThen opened (b ∷ bytes)) byte 58 k (colon_byte f))
    go false false h k f = absurd f

last_letter : (opened : List Opened) (first : ℕ) (letters bytes : List ℕ) → Fits (letters_left letters) opened bytes → Fits (Letter first letters) opened (first ∷ bytes)
last_letter opened first [] bytes (after_it s) = letter refl s
last_letter opened first (second ∷ letters) bytes (letter e s) = letter (ap (λ x. first ∷ x) e) s

at_letter : (first : ℕ) (letters : List ℕ) (opened : List Opened) (tokens : List Placed) (byte : ℕ) (bytes : List ℕ)
    → OnStep (step_in (Letter first letters) (record { expected = Letter first letters; opened = opened; tokens = tokens }) byte) bytes → Fits (Letter first letters) opened (byte ∷ bytes)
at_letter first letters opened tokens byte bytes r = go (byte == first) refl r
  where
    go : (e : Bool) → (byte == first) ≡ e → OnStep (cond e (make (letters_left letters) opened tokens) None) bytes → Fits (Letter first letters) opened (byte ∷ bytes)
    go true h f = at_byte (λ b. Fits (Letter first letters) opened (b ∷ bytes)) byte first h (last_letter opened first letters bytes f)
    go false h f = absurd f

number_goes_on : (phase next : NumberPhase) (read more : List ℕ) (opened : List Opened) (byte : ℕ) (bytes : List ℕ) → is_number_byte byte ≡ true → next_phase phase byte ≡ Some next
    → Fits (InNumber next more) opened bytes → Fits (InNumber phase read) opened (byte ∷ bytes)
number_goes_on phase next read more opened byte bytes b e (in_number h s) =
    in_number (ap (completes phase) (number_front byte bytes b) ∙ next-completes phase byte (front is_number_byte bytes) ∙ ap (λ o. completes_after o (front is_number_byte bytes)) e ∙ h)
    (subst (Ends opened) (sym (number_after byte bytes b)) s)

number_byte : (phase : NumberPhase) (read : List ℕ) (opened : List Opened) (tokens : List Placed) (byte : ℕ) (bytes : List ℕ) → is_number_byte byte ≡ true → (o : Option NumberPhase) → next_phase phase byte ≡ o
    → OnStep (option_map (λ next. record { expected = InNumber next (read ++ (byte ∷ [])); opened = opened; tokens = tokens }) o) bytes → Fits (InNumber phase read) opened (byte ∷ bytes)
number_byte phase read opened tokens byte bytes b None e r = absurd r
number_byte phase read opened tokens byte bytes b (Some next) e r = number_goes_on phase next read (read ++ (byte ∷ [])) opened byte bytes b e r

no_number_front : (byte : ℕ) (bytes : List ℕ) → is_number_byte byte ≡ false → front is_number_byte (byte ∷ bytes) ≡ []
no_number_front byte bytes h = rw h refl

no_number_after : (byte : ℕ) (bytes : List ℕ) → is_number_byte byte ≡ false → after_front is_number_byte (byte ∷ bytes) ≡ byte ∷ bytes
no_number_after byte bytes h = rw h refl

at_number : (phase : NumberPhase) (read : List ℕ) (opened : List Opened) (tokens : List Placed) (byte : ℕ) (bytes : List ℕ)
    → OnStep (step_in (InNumber phase read) (record { expected = InNumber phase read; opened = opened; tokens = tokens }) byte) bytes → Fits (InNumber phase read) opened (byte ∷ bytes)
at_number phase read opened tokens byte bytes r = go (is_number_byte byte) (number_may_end phase) refl refl r
  where
    go : (n m : Bool) → is_number_byte byte ≡ n → number_may_end phase ≡ m
        → OnStep (cond n (option_map (λ next. record { expected = InNumber next (read ++ (byte ∷ [])); opened = opened; tokens = tokens }) (next_phase phase byte))
        (cond m (follows (record { expected = Next; opened = opened; tokens = tokens ++ (placed_at (place_in opened) (token.Number read) ∷ []) }) byte) None)) bytes
        → Fits (InNumber phase read) opened (byte ∷ bytes)
    go true m h k f = number_byte phase read opened tokens byte bytes h (next_phase phase byte) refl f
    go false true h k f =
        in_number (ap (completes phase) (no_number_front byte bytes h) ∙ may_end-completes phase ∙ k)
        (subst (Ends opened) (sym (no_number_after byte bytes h)) (after_value Next opened (tokens ++ (placed_at (place_in opened) (token.Number read) ∷ [])) byte bytes f))
    go false false h k f = absurd f

string_goes_on : (is_key : Bool) (within next : Within) (read more : List ℕ) (opened : List Opened) (byte : ℕ) (bytes : List ℕ) → next_within within byte ≡ Some next
    → Fits (InString is_key next more) opened bytes → Fits (InString is_key within read) opened (byte ∷ bytes)
string_goes_on true within next read more opened byte bytes e (in_key rest c s) = in_key rest (string-step within byte bytes rest (subst (λ o. CompletesAfter o bytes rest) (sym e) c)) s
string_goes_on false within next read more opened byte bytes e (in_text rest c s) = in_text rest (string-step within byte bytes rest (subst (λ o. CompletesAfter o bytes rest) (sym e) c)) s

string_byte : (is_key : Bool) (within : Within) (read : List ℕ) (opened : List Opened) (tokens : List Placed) (byte : ℕ) (bytes : List ℕ) (o : Option Within) → next_within within byte ≡ o
    → OnStep (option_map (λ next. record { expected = InString is_key next (read ++ (byte ∷ [])); opened = opened; tokens = tokens }) o) bytes → Fits (InString is_key within read) opened (byte ∷ bytes)
string_byte is_key within read opened tokens byte bytes None e r = absurd r
string_byte is_key within read opened tokens byte bytes (Some next) e r = string_goes_on is_key within next read (read ++ (byte ∷ [])) opened byte bytes e r

string_ended : (is_key : Bool) (within : Within) (read : List ℕ) (opened : List Opened) (tokens : List Placed) (byte : ℕ) (bytes : List ℕ) → closes_string within byte ≡ true
    → OnStep (Some (string_ends (record { expected = InString is_key within read; opened = opened; tokens = tokens }) is_key read)) bytes → Fits (InString is_key within read) opened (byte ∷ bytes)
string_ended true within read opened tokens byte bytes h r = in_key bytes (string-closes within byte h) (colon_from r)
string_ended false within read opened tokens byte bytes h r = in_text bytes (string-closes within byte h) (ends_from r)

at_string : (is_key : Bool) (within : Within) (read : List ℕ) (opened : List Opened) (tokens : List Placed) (byte : ℕ) (bytes : List ℕ)
    → OnStep (step_in (InString is_key within read) (record { expected = InString is_key within read; opened = opened; tokens = tokens }) byte) bytes
    → Fits (InString is_key within read) opened (byte ∷ bytes)
at_string is_key within read opened tokens byte bytes r = go (closes_string within byte) refl r
  where
    go : (c : Bool) → closes_string within byte ≡ c
        → OnStep (cond c (Some (string_ends (record { expected = InString is_key within read; opened = opened; tokens = tokens }) is_key read))
        (option_map (λ next. record { expected = InString is_key next (read ++ (byte ∷ [])); opened = opened; tokens = tokens }) (next_within within byte))) bytes
        → Fits (InString is_key within read) opened (byte ∷ bytes)
    go true h f = string_ended is_key within read opened tokens byte bytes h f
    go false h f = string_byte is_key within read opened tokens byte bytes (next_within within byte) refl f

one_byte : (x : Expected) (opened : List Opened) (tokens : List Placed) (byte : ℕ) (bytes : List ℕ)
    → OnStep (step_in x (record { expected = x; opened = opened; tokens = tokens }) byte) bytes → Fits x opened (byte ∷ bytes)
one_byte AValue opened tokens byte bytes r = at_value opened tokens byte bytes r
one_byte FirstItem opened tokens byte bytes r = at_first_item opened tokens byte bytes r
one_byte FirstKey opened tokens byte bytes r = at_first_key opened tokens byte bytes r
one_byte NextKey opened tokens byte bytes r = at_next_key opened tokens byte bytes r
one_byte Colon opened tokens byte bytes r = at_colon opened tokens byte bytes r
one_byte Next opened tokens byte bytes r = after_it (after_value Next opened tokens byte bytes r)
one_byte (Letter first letters) opened tokens byte bytes r = at_letter first letters opened tokens byte bytes r
one_byte (InNumber phase read) opened tokens byte bytes r = at_number phase read opened tokens byte bytes r
one_byte (InString is_key within read) opened tokens byte bytes r = at_string is_key within read opened tokens byte bytes r

-- what completes a text from the next state, behind this byte completes it from this one
pub byte-fits : (state next : ReaderState) (byte : ℕ) (bytes : List ℕ) → reader_step state byte ≡ Some next → Fits next.expected next.opened bytes → Fits state.expected state.opened (byte ∷ bytes)
byte-fits state next byte bytes e f = one_byte state.expected state.opened state.tokens byte bytes (subst (λ o. OnStep o bytes) (sym e) f)

-- ---- the end, and all bytes

abbrev pub IsSomeTokens : Option (List Placed) → Type 0
IsSomeTokens None = ⊥
IsSomeTokens (Some tokens) = Unit {0}

number_at_end : (phase : NumberPhase) (read : List ℕ) (tokens : List Placed) (m : Bool) → number_may_end phase ≡ m
    → IsSomeTokens (cond m (Some (tokens ++ (placed_at Alone (token.Number read) ∷ []))) None) → Fits (InNumber phase read) [] []
number_at_end phase read tokens true e h = in_number (may_end-completes phase ∙ e) (whole refl)
number_at_end phase read tokens false e h = absurd h

no_byte : (x : Expected) (opened : List Opened) (tokens : List Placed) → IsSomeTokens (at_end_in x opened tokens) → Fits x opened []
no_byte Next [] tokens h = after_it (whole refl)
no_byte (InNumber phase read) [] tokens h = number_at_end phase read tokens (number_may_end phase) refl h
no_byte x opened tokens h = absurd h

step_or : (o : Option ReaderState) (bytes : List ℕ) → ((state : ReaderState) → IsSomeTokens (option_and_then tokens_at_end (after_bytes state bytes)) → Fits state.expected state.opened bytes)
    → IsSomeTokens (option_and_then tokens_at_end (option_and_then (λ next. after_bytes next bytes) o)) → OnStep o bytes
step_or None bytes f h = absurd h
step_or (Some state) bytes f h = f state h

-- what the machine takes from a state completes a text from it
pub taken-fits : (bytes : List ℕ) (state : ReaderState) → IsSomeTokens (option_and_then tokens_at_end (after_bytes state bytes)) → Fits state.expected state.opened bytes
taken-fits [] state h = no_byte state.expected state.opened state.tokens h
taken-fits (byte ∷ bytes) state h =
    one_byte state.expected state.opened state.tokens byte bytes (step_or (reader_step state byte) bytes (λ next k. taken-fits bytes next k) h)
