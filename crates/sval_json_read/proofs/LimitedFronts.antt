-- What a loop that tests limits knows, from its first byte to its last.
use Rattle.std.specs.Prelude.{◌≡◌, ℕ, zero, suc, ◌+◌, ◌-◌, ◌<◌, ◌≤◌, Bool, true, false, cond, ◌==◌, List, [], ◌∷◌, length, take, drop, get_or, Option, Some, None, option_and_then, refl, IsUtf8}
use Rattle.std.specs.Char.{is_ascii_digit}
use Rattle.std.proofs.Common.{sym, ap, subst, ◌∙◌, arith, inl, inr}
use Rattle.std.proofs.lemmas.Bool.{cases_Bool, cases_lt, false≢true}
use Rattle.std.proofs.lemmas.Bool.Decides.{nat_tests}
use Rattle.std.proofs.lemmas.Str.{IsUtf8-take, IsCharBoundary-after_ascii}
use Rattle.sval_io.specs.declared.limits.Limits.{Limits}
use Rattle.sval_json.specs.Fronts.{IsFront}
use Rattle.sval_json_read.specs.declared.word.Word as made_word
use Rattle.sval_json_read.specs.declared.word.Word.TheVariants as letters
use Rattle.sval_json_read.specs.declared.reader.Expected as made
use Rattle.sval_json_read.specs.declared.reader.Expected.TheVariants as expected
use Rattle.sval_json_read.specs.declared.reader.Reader.{Reader}
use Rattle.sval_json_read.specs.Words.{expected_word}
use Rattle.sval_json_read.specs.Reader.{Expected, AValue, FirstItem, FirstKey, NextKey, ReaderState, reader_start, reader_step, after_bytes}
use Rattle.sval_json_read.specs.SeenReader.{expected_of, seen_state}
use Rattle.sval_json_read.specs.Outlines.{Outline, BetweenTokens, Outlined, outlined, outline_byte, outline_bytes, outline_of, open_levels, begun_nodes, opens_level}
use Rattle.sval_json_read.specs.JsonLimits.{IsWithinTo, IsTooDeep, IsTooMany}
use Rattle.sval_json_read.specs.SeenLimits.{begins_value, begins_node, nodes_behind, StaysWithin}
use Rattle.sval_json_read.proofs.Loop.{after-byte}
use Rattle.sval_json_read.proofs.TakenFronts.{taken-front}
use Rattle.sval_json_read.proofs.Outlining.{IsOutlineOf, in_progress, Agrees, AgreesOn, refused, taken, step-agrees}
use Rattle.sval_json_read.proofs.Outlines.{grows, no-deeper, one-deeper, run-grows, outline-next, outline-run}

-- ---- along the bytes

pub agrees_then : (o : Outlined) (nodes : ℕ) (b : Bool) (given : Option ReaderState) (next : ReaderState) → AgreesOn o nodes b given → given ≡ Some next → Agrees o next × (o.nodes ≡ cond b (nodes + 1) nodes)
agrees_then o nodes b None next (refused h) e = absurd (cc e)
agrees_then o nodes b (Some state) next (taken h n) e =
    let same : state ≡ next = cc e in
    (subst (Agrees o) same h, n)

agrees_no : (o : Outlined) (nodes : ℕ) (given : Option ReaderState) → AgreesOn o nodes true given → given ≡ None → ⊥
agrees_no o nodes None (refused h) e = false≢true (sym h)
agrees_no o nodes (Some state) (taken h n) e = cc e

pub one_agrees : (o : Outlined) (state : ReaderState) → Agrees o state → (byte : ℕ) → AgreesOn (outline_byte o.outline o.levels o.nodes byte) o.nodes (begins_node state.expected byte) (reader_step state byte)
one_agrees o state a byte = step-agrees state.opened state.tokens o.levels o.nodes a.levels o.outline state.expected a.outline a.nodes byte

pub all-agree : (bytes : List ℕ) (o : Outlined) (state last : ReaderState) → Agrees o state → after_bytes state bytes ≡ Some last → Agrees (outline_bytes o bytes) last
all-agree [] o state last a e = let same : state ≡ last = cc e in subst (Agrees o) same a
all-agree (byte ∷ bytes) o state last a e = go (reader_step state byte) refl e (λ next b k. all-agree bytes (outline_byte o.outline o.levels o.nodes byte) next last b k)
  where
    go : (given : Option ReaderState) → reader_step state byte ≡ given → option_and_then (λ next. after_bytes next bytes) given ≡ Some last
        → ((next : ReaderState) → Agrees (outline_byte o.outline o.levels o.nodes byte) next → after_bytes next bytes ≡ Some last → Agrees (outline_bytes o (byte ∷ bytes)) last) → Agrees (outline_bytes o (byte ∷ bytes)) last
    go None f k on = absurd (cc k)
    go (Some next) f k on =
        on next (agrees_then (outline_byte o.outline o.levels o.nodes byte) o.nodes (begins_node state.expected byte) (reader_step state byte) next (one_agrees o state a byte) f).0 k

pub start-agrees : Agrees (outlined BetweenTokens 0 0) reader_start
start-agrees = record { outline = refl; levels = refl; nodes = refl }

pub front-agrees : (bytes : List ℕ) (state : ReaderState) → after_bytes reader_start bytes ≡ Some state → Agrees (outline_of bytes) state
front-agrees bytes state e = all-agree bytes (outlined BetweenTokens 0 0) reader_start state start-agrees e

-- ---- what is being read is a node wherever it is looked at

word_progress : (word : made_word.Word) → in_progress (expected_word word) ≡ 0
word_progress letters.Ull = refl
word_progress letters.Ll = refl
word_progress letters.L = refl
word_progress letters.Rue = refl
word_progress letters.Ue = refl
word_progress letters.E = refl
word_progress letters.Alse = refl
word_progress letters.Lse = refl
word_progress letters.Se = refl

same_progress : (bytes : List ℕ) (from a b : ℕ) (e : made.Expected) → in_progress (expected_of bytes from a e) ≡ in_progress (expected_of bytes from b e)
same_progress bytes from a b (expected.Letter word) = refl
same_progress bytes from a b e = refl

-- ---- one byte and a run behind it

between_values : (outline : Outline) (e : Expected) (byte : ℕ) → IsOutlineOf outline e → begins_node e byte ≡ true → outline ≡ BetweenTokens
between_values outline AValue byte h b = h
between_values outline FirstItem byte h b = h
between_values outline FirstKey byte h b = h
between_values outline NextKey byte h b = h
between_values outline e byte h b = absurd (false≢true b)

module _ (bytes : List ℕ) (at : ℕ) (limits : Limits) (state : ReaderState) (l : at < length bytes) (reached : after_bytes reader_start (take at bytes) ≡ Some state) (kept : IsWithinTo bytes limits at) where
  abbrev byte : ℕ
  byte = get_or bytes at 0

  agrees : Agrees (outline_of (take at bytes)) state
  agrees = front-agrees (take at bytes) state reached

  levels_behind : begins_node state.expected byte ≡ true → opens_level byte ≡ true → open_levels (take (at + 1) bytes) ≡ open_levels (take at bytes) + 1
  levels_behind b o =
      let e = between_values (outline_of (take at bytes)).outline state.expected byte agrees.outline b in
      ap (λ x. x.levels) (outline-next bytes at l) ∙ ap (λ x. (outline_byte x (open_levels (take at bytes)) (begun_nodes (take at bytes)) byte).levels) e
      ∙ one-deeper (open_levels (take at bytes)) (begun_nodes (take at bytes)) byte o

  levels_within : opens_level byte ≡ false → open_levels (take (at + 1) bytes) ≤ open_levels (take at bytes)
  levels_within o =
      let h = no-deeper (outline_of (take at bytes)).outline (open_levels (take at bytes)) (begun_nodes (take at bytes)) byte o in
      subst (λ n. n ≤ open_levels (take at bytes)) (sym (ap (λ x. x.levels) (outline-next bytes at l))) h

  grows_on : (begun_nodes (take (at + 1) bytes) ≡ begun_nodes (take at bytes)) → open_levels (take (at + 1) bytes) ≤ open_levels (take at bytes)
  grows_on e =
      let g = grows (outline_of (take at bytes)).outline (open_levels (take at bytes)) (begun_nodes (take at bytes)) byte in
      subst (λ n. n ≤ open_levels (take at bytes)) (sym (ap (λ x. x.levels) (outline-next bytes at l))) (g.1 (sym (ap (λ x. x.nodes) (outline-next bytes at l)) ∙ e))

  module _ (begun count : ℕ) (counted : begun ≡ begun_nodes (take at bytes)) (stays : StaysWithin state.expected (length state.opened) byte begun limits count) (next : ReaderState) (steps : reader_step state byte ≡ Some next) where
    stepped : Agrees (outline_of (take (at + 1) bytes)) next × (begun_nodes (take (at + 1) bytes) ≡ nodes_behind state.expected byte (begun_nodes (take at bytes)))
    stepped =
        let s = agrees_then _ (begun_nodes (take at bytes)) (begins_node state.expected byte) (reader_step state byte) next (one_agrees (outline_of (take at bytes)) state agrees byte) steps in
        (subst (λ o. Agrees o next) (sym (outline-next bytes at l)) s.0, ap (λ x. x.nodes) (outline-next bytes at l) ∙ s.1)

    count_next : count ≡ begun_nodes (take (at + 1) bytes)
    count_next = stays.count_is ∙ ap (nodes_behind state.expected byte) counted ∙ sym stepped.1

    kept_next : (open_levels (take (at + 1) bytes) ≤ limits.depth) × (begun_nodes (take (at + 1) bytes) ≤ limits.nodes)
    kept_next =
        let k = kept at (omega arith) in
        elim (cases_Bool (begins_node state.expected byte)) [
          | inl b ↦
              let more : begun_nodes (take (at + 1) bytes) ≡ begun_nodes (take at bytes) + 1 = stepped.1 ∙ ap (λ t. cond t (begun_nodes (take at bytes) + 1) (begun_nodes (take at bytes))) b in
              let less = stays.not_many b in (
                elim (cases_Bool (opens_level byte)) [
                  | inl o ↦ let d = stays.not_deep b o in let v = levels_behind b o in let a = agrees.levels in omega (arith, d, v, a)
                  | inr o ↦ let v = levels_within o in omega (arith, v, k.0)
                ],
                omega (arith, more, less, counted),
              )
          | inr b ↦
              let same : begun_nodes (take (at + 1) bytes) ≡ begun_nodes (take at bytes) = stepped.1 ∙ ap (λ t. cond t (begun_nodes (take at bytes) + 1) (begun_nodes (take at bytes))) b in
              let v = grows_on same in
              (omega (arith, v, k.0), omega (arith, same, k.1))
        ]

  module _ (n begun count : ℕ) (reader : Reader) (counted : begun ≡ begun_nodes (take at bytes)) (stays : StaysWithin state.expected (length state.opened) byte begun limits count) (steps : reader_step state byte ≡ Some (seen_state bytes (at + 1) reader)) (passes : after_bytes (seen_state bytes (at + 1) reader) (take n (drop (at + 1) bytes)) ≡ Some (seen_state bytes ((at + 1) + n) reader)) where
    run_same : (outline_bytes (outline_of (take (at + 1) bytes)) (take n (drop (at + 1) bytes))).nodes ≡ begun_nodes (take (at + 1) bytes)
    run_same =
        let first = (stepped begun count counted stays (seen_state bytes (at + 1) reader) steps).0 in
        let last = all-agree (take n (drop (at + 1) bytes)) (outline_of (take (at + 1) bytes)) (seen_state bytes (at + 1) reader) (seen_state bytes ((at + 1) + n) reader) first passes in
        let p = same_progress bytes reader.from (at + 1) ((at + 1) + n) reader.expected in
        let a = first.nodes in
        let b = last.nodes in
        omega (arith, a, b, p)

    behind : (at + 1) + n ≡ at + (1 + n)
    behind = omega arith

    pub counts-on : count ≡ begun_nodes (take (at + (1 + n)) bytes)
    counts-on =
        count_next begun count counted stays (seen_state bytes (at + 1) reader) steps ∙ sym run_same ∙ ap (λ o. o.nodes) (sym (outline-run bytes (at + 1) n))
        ∙ ap (λ m. begun_nodes (take m bytes)) behind

    in_run : (k : ℕ) → k ≤ n → (open_levels (take ((at + 1) + k) bytes) ≤ limits.depth) × (begun_nodes (take ((at + 1) + k) bytes) ≤ limits.nodes)
    in_run k le =
        let r = run-grows (outline_of (take (at + 1) bytes)) (take n (drop (at + 1) bytes)) k run_same in
        let w = kept_next begun count counted stays (seen_state bytes (at + 1) reader) steps in
        let part : outline_bytes (outline_of (take (at + 1) bytes)) (take k (take n (drop (at + 1) bytes))) ≡ outline_of (take ((at + 1) + k) bytes) =
        ap (outline_bytes (outline_of (take (at + 1) bytes))) (take_part k n (drop (at + 1) bytes) le) ∙ sym (outline-run bytes (at + 1) k) in
        let a = ap (λ o. o.levels) part in
        let b = ap (λ o. o.nodes) part in
        (omega (arith, r.0, w.0, a), omega (arith, r.1, w.1, b))
      where
        take_part : (k n : ℕ) (xs : List ℕ) → k ≤ n → take k (take n xs) ≡ take k xs
        take_part zero n xs le = refl
        take_part (suc k) zero xs le = absurd (omega (arith, le))
        take_part (suc k) (suc n) [] le = refl
        take_part (suc k) (suc n) (x ∷ xs) le = ap (λ ys. x ∷ ys) (take_part k n xs (omega (arith, le)))

    pub stays-within : IsWithinTo bytes limits (at + (1 + n))
    stays-within m le = elim (cases_lt at m) [
      | inl more ↦
          let e : (at + 1) + (m - (at + 1)) ≡ m = omega arith in
          subst (λ k. (open_levels (take k bytes) ≤ limits.depth) × (begun_nodes (take k bytes) ≤ limits.nodes)) e (in_run (m - (at + 1)) (omega (arith, le, more)))
      | inr less ↦ kept m less
    ]

  -- ---- a byte that passes a limit

  low_byte : (b : ℕ) → begins_value b ≡ true → b < 128
  low_byte b h = elim (cases_lt b 128) [
    | inl low ↦ low
    | inr high ↦
        let no : (k : ℕ) → k < 128 → (b == k) ≡ false = λ k w. grind (arith, nat_tests) in
        let digit : is_ascii_digit b ≡ false = grind (arith, nat_tests) in
        let none : begins_value b ≡ false = rw (no 34 (omega arith), no 91 (omega arith), no 123 (omega arith), no 110 (omega arith), no 116 (omega arith), no 102 (omega arith), no 45 (omega arith), no 48 (omega arith), digit) refl in
        absurd (false≢true (sym none ∙ h))
  ]

  low_node : (e : Expected) (b : ℕ) → begins_node e b ≡ true → b < 128
  low_node AValue b h = low_byte b h
  low_node FirstItem b h = low_byte b h
  low_node FirstKey b h = grind (arith, nat_tests)
  low_node NextKey b h = grind (arith, nat_tests)
  low_node e b h = absurd (false≢true h)

  module _ (utf8 : IsUtf8 bytes) (b : begins_node state.expected byte ≡ true) where
    begins_front : IsFront (take (at + 1) bytes)
    begins_front = go (reader_step state byte) refl
      where
        go : (given : Option ReaderState) → reader_step state byte ≡ given → IsFront (take (at + 1) bytes)
        go None f =
            let a = subst (λ t. AgreesOn (outline_byte (outline_of (take at bytes)).outline (open_levels (take at bytes)) (begun_nodes (take at bytes)) byte) (begun_nodes (take at bytes)) t (reader_step state byte)) b (one_agrees (outline_of (take at bytes)) state agrees byte) in
            absurd (agrees_no _ _ (reader_step state byte) a f)
        go (Some next) f =
            taken-front (take (at + 1) bytes) next
            (IsUtf8-take bytes (at + 1) utf8 (IsCharBoundary-after_ascii bytes at utf8 l (low_node state.expected byte b))) (after-byte bytes at state l reached ∙ f)

    begun_behind : begun_nodes (take (at + 1) bytes) ≡ begun_nodes (take at bytes) + 1
    begun_behind = go (reader_step state byte) refl
      where
        go : (given : Option ReaderState) → reader_step state byte ≡ given → begun_nodes (take (at + 1) bytes) ≡ begun_nodes (take at bytes) + 1
        go None f =
            let a = subst (λ t. AgreesOn (outline_byte (outline_of (take at bytes)).outline (open_levels (take at bytes)) (begun_nodes (take at bytes)) byte) (begun_nodes (take at bytes)) t (reader_step state byte)) b (one_agrees (outline_of (take at bytes)) state agrees byte) in
            absurd (agrees_no _ _ (reader_step state byte) a f)
        go (Some next) f =
            let s = agrees_then _ (begun_nodes (take at bytes)) (begins_node state.expected byte) (reader_step state byte) next (one_agrees (outline_of (take at bytes)) state agrees byte) f in
            ap (λ x. x.nodes) (outline-next bytes at l) ∙ s.1 ∙ ap (λ t. cond t (begun_nodes (take at bytes) + 1) (begun_nodes (take at bytes))) b

    pub too-deep : opens_level byte ≡ true → limits.depth ≤ length state.opened → IsTooDeep bytes limits at
    too-deep o d =
        let k = kept at (omega arith) in
        let v = levels_behind b o in
        let a = agrees.levels in
        record { inside = l; front = begins_front; passes = omega (arith, k.0, v, a, d); before = kept }

    pub too-many : (begun : ℕ) → begun ≡ begun_nodes (take at bytes) → limits.nodes ≤ begun → (opens_level byte ≡ true → length state.opened < limits.depth) → IsTooMany bytes limits at
    too-many begun counted m d =
        let k = kept at (omega arith) in
        let v = begun_behind in
        record {
          inside = l;
          front = begins_front;
          passes = omega (arith, k.1, v, counted, m);
          not_deeper = elim (cases_Bool (opens_level byte)) [
            | inl o ↦ let w = levels_behind b o in let a = agrees.levels in let s = d o in omega (arith, w, a, s)
            | inr o ↦ let w = levels_within o in omega (arith, w, k.0)
          ];
          before = kept;
        }

-- before the first byte
pub starts-within : (bytes : List ℕ) (limits : Limits) → IsWithinTo bytes limits 0
starts-within bytes limits m le =
    let z : 0 ≡ m = omega (arith, le) in
    subst (λ k. (open_levels (take k bytes) ≤ limits.depth) × (begun_nodes (take k bytes) ≤ limits.nodes)) z (omega arith, omega arith)
