-- Tokens are compared one by one, from the front.
use Rattle.std.specs.Prelude.{◌≡◌, ◌↔◌, ℕ, ◌+◌, ◌<◌, Bool, true, false, List, [], ◌∷◌, ◌++◌, length, map, IsTrue, refl}
use Rattle.std.specs.Bool.{Decides}
use Rattle.std.proofs.Common.{ap, take, get_or, arith, rules, ◌∙◌, sym}
use Rattle.std.proofs.lemmas.List.{map_more, get_or-map, length-map, take_all}
use Rattle.std.proofs.lemmas.Simd.{map-map}
use Rattle.sval_label.specs.Calls.{Call}
use Rattle.sval_check.specs.Tokens.{token_call, token_calls, compared, all_compared}
use Rattle.sval_check.specs.declared.token.Token.{Token}

-- what counts of a token where it is compared
abbrev pub said : Token → Call
said token = compared (token_call token)

all_said : (tokens : List Token) → all_compared (token_calls tokens) ≡ map said tokens
all_said tokens = map-map compared token_call tokens

-- so many tokens at the front of both lists say the same
pub record SameFront (tokens expected : List Token) (count : ℕ) : Type 0 where
  pub same : map said (take count tokens) ≡ map said (take count expected)

pub none_yet : (tokens expected : List Token) → SameFront tokens expected 0
none_yet tokens expected = record { same = refl }

pub one_more : (tokens expected : List Token) (i : ℕ) (token wanted : Token) → i < length tokens → i < length expected
    → token ≡ get_or tokens i token → wanted ≡ get_or expected i wanted → said token ≡ said wanted
    → SameFront tokens expected i → SameFront tokens expected (i + 1)
one_more tokens expected i token wanted in_tokens in_expected is_token is_wanted like front =
    let these = map_more said tokens i token in_tokens in
    let those = map_more said expected i wanted in_expected in
    let same = front.same in
    record { same = cc }

-- the front is all of both
pub all_same : (tokens expected : List Token) → length tokens ≡ length expected → SameFront tokens expected (length expected)
    → all_compared (token_calls tokens) ≡ all_compared (token_calls expected)
all_same tokens expected even front =
    let these = take_all (length expected) tokens (omega arith) in
    let those = take_all (length expected) expected (omega arith) in
    let same = front.same in
    let mapped : map said tokens ≡ map said expected = cc in
    all_said tokens ∙ (mapped ∙ sym (all_said expected))

-- lists that say the same are of one length, and say the same in each place
pub same_length : (tokens expected : List Token) → all_compared (token_calls tokens) ≡ all_compared (token_calls expected)
    → length tokens ≡ length expected
same_length tokens expected same =
    let these = all_said tokens in
    let those = all_said expected in
    let mapped : map said tokens ≡ map said expected = cc in
    sym (length-map tokens said) ∙ (ap length mapped ∙ length-map expected said)

pub same_place : (tokens expected : List Token) (i : ℕ) (token wanted : Token) → i < length tokens → i < length expected
    → token ≡ get_or tokens i token → wanted ≡ get_or expected i wanted
    → all_compared (token_calls tokens) ≡ all_compared (token_calls expected) → said token ≡ said wanted
same_place tokens expected i token wanted in_tokens in_expected is_token is_wanted same =
    let these = all_said tokens in
    let those = all_said expected in
    let mapped : map said tokens ≡ map said expected = cc in
    let kept = get_or-map said tokens i token (said token) in_tokens in
    let due = get_or-map said expected i wanted (said token) in_expected in
    cc

-- what never holds is told by a test that fails
pub never : {P : Type 0} → (P → ⊥) → IsTrue false ↔ P
never refuted = (λ yes. let e : false ≡ true = yes in absurd (cc), λ p. absurd (refuted p))

-- what a test denies doesn't hold
pub denied : {P : Type 0} (test : Bool) → Decides test P → test ≡ false → P → ⊥
denied test decides fails p = let holds = decides.1 p in cc
