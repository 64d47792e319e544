-- Reading the first value of some bytes: where it ends, and why there is none.
use Rattle.std.specs.Prelude.{◌≡◌, ℕ, suc, ◌+◌, ◌-◌, ◌<◌, ◌≤◌, true, false, List, [], ◌∷◌, ◌++◌, length, take, drop, get_or, Option, Some, None, option_and_then, refl, IsUtf8, IsCharBoundary}
use Rattle.std.proofs.Common.{sym, ap, subst, ◌∙◌, arith, inl, inr, take-suc, drop-cons, take_all, append_assoc, append-nil}
use Rattle.std.proofs.Math.Seq.{take-add}
use Rattle.std.proofs.lemmas.Bool.{cases_lt, cases_order, false≢true}
use Rattle.std.proofs.lemmas.Str.{IsUtf8-take, IsCharBoundary-end, IsCharBoundary-before_ascii, IsCharBoundary-after_ascii}
use Rattle.sval_json.specs.Grammar.{JsonValue, is_space, Denotes}
use Rattle.sval_json.specs.Fronts.{IsFront, FailsAt}
use Rattle.sval_json_read.specs.Tokens.{Placed}
use Rattle.sval_json_read.specs.Documents.{IsDocument}
use Rattle.sval_json_read.specs.Reader.{Opened, Expected, Next, InNumber, ReaderState, reader_start, reader_step, after_bytes, tokens_at_end, tokens_read, taken_from}
use Rattle.sval_json_read.specs.FrontEnds.{front_ends}
use Rattle.sval_json_read.specs.JsonFronts.{EndsFront, HasNoFront, IsBadJsonFront}
use Rattle.sval_json_read.proofs.ReadTexts.{denoted-read}
use Rattle.sval_json_read.proofs.Boundaries.{stops-boundary}
use Rattle.sval_json_read.proofs.Fails.{stops-fails}
use Rattle.sval_json_read.proofs.Documents.{read-document}
use Rattle.sval_json_read.proofs.Loop.{after-append, after-byte, refused-taken, ended-taken}
use Rattle.sval_json_read.proofs.TakenFronts.{taken-front}
use Rattle.sval_json_read.proofs.FrontEnds.{is_number, number_behind, space_low, AtEnd, at_end, end_takes, end_space, past_stays, ends_space, ends_not}

one_state : {x y : ReaderState} → (let o : Option ReaderState = Some x in o) ≡ Some y → x ≡ y
one_state e = cc e

-- ---- bytes that are taken, cut before a byte

record Cut (before : List ℕ) (byte : ℕ) (behind : List ℕ) (last : ReaderState) : Type 0 where
  state : ReaderState
  next : ReaderState
  reached : after_bytes reader_start before ≡ Some state
  steps : reader_step state byte ≡ Some next
  leads : after_bytes next behind ≡ Some last

cut_taken : (before : List ℕ) (byte : ℕ) (behind : List ℕ) (last : ReaderState) → after_bytes reader_start (before ++ (byte ∷ behind)) ≡ Some last → Cut before byte behind last
cut_taken before byte behind last e = go (after_bytes reader_start before) refl (sym (after-append before (byte ∷ behind) reader_start) ∙ e)
  where
    on : (state : ReaderState) → after_bytes reader_start before ≡ Some state → (o : Option ReaderState) → reader_step state byte ≡ o → option_and_then (λ next. after_bytes next behind) o ≡ Some last → Cut before byte behind last
    on state r None f k = absurd (cc k)
    on state r (Some next) f k = record { state = state; next = next; reached = r; steps = f; leads = k }

    go : (o : Option ReaderState) → after_bytes reader_start before ≡ o → option_and_then (λ next. after_bytes next (byte ∷ behind)) o ≡ Some last → Cut before byte behind last
    go None r k = absurd (cc k)
    go (Some state) r k = on state r (reader_step state byte) refl k

cut_at : (bytes : List ℕ) (k m : ℕ) → k < m → k < length bytes → take m bytes ≡ take k bytes ++ (get_or bytes k 0 ∷ take (m - suc k) (drop (suc k) bytes))
cut_at bytes k m l w =
    ap (λ n. take n bytes) (let e : m ≡ k + suc (m - suc k) = omega arith in e) ∙ take-add k (suc (m - suc k)) bytes
    ∙ ap (λ row. take k bytes ++ take (suc (m - suc k)) row) (drop-cons bytes k 0 w)

cut_take : (bytes : List ℕ) (k m : ℕ) (last : ReaderState) → k < m → k < length bytes → after_bytes reader_start (take m bytes) ≡ Some last
    → Cut (take k bytes) (get_or bytes k 0) (take (m - suc k) (drop (suc k) bytes)) last
cut_take bytes k m last l w e =
    cut_taken (take k bytes) (get_or bytes k 0) (take (m - suc k) (drop (suc k) bytes)) last (ap (after_bytes reader_start) (sym (cut_at bytes k m l w)) ∙ e)

-- ---- bytes that denote a value

record ReadState (bytes : List ℕ) (tokens : List Placed) : Type 0 where
  state : ReaderState
  reached : after_bytes reader_start bytes ≡ Some state
  ends : tokens_at_end state ≡ Some tokens

read_state : (bytes : List ℕ) (tokens : List Placed) → tokens_read bytes ≡ Some tokens → ReadState bytes tokens
read_state bytes tokens e = go (after_bytes reader_start bytes) refl e
  where
    go : (o : Option ReaderState) → after_bytes reader_start bytes ≡ o → option_and_then tokens_at_end o ≡ Some tokens → ReadState bytes tokens
    go None r k = absurd (cc k)
    go (Some state) r k = record { state = state; reached = r; ends = k }

-- a front of a text that has one byte more is taken with that byte
front_step : (bytes : List ℕ) (at : ℕ) (state : ReaderState) → at < length bytes → after_bytes reader_start (take at bytes) ≡ Some state → IsFront (take (at + 1) bytes)
    → (next : ReaderState) × (reader_step state (get_or bytes at 0) ≡ Some next)
front_step bytes at state l e f =
    let byte = get_or bytes at 0 in
    let read = read_state (take (at + 1) bytes ++ f.more) _ (denoted-read f.denotes) in
    let one : take (at + 1) bytes ≡ take at bytes ++ (byte ∷ []) = ap (λ n. take n bytes) (let s : at + 1 ≡ suc at = omega arith in s) ∙ take-suc bytes at 0 l in
    let row = ap (λ x. x ++ f.more) one ∙ append_assoc (take at bytes) (byte ∷ []) f.more in
    let cut = cut_taken (take at bytes) byte f.more read.state (ap (after_bytes reader_start) (sym row) ∙ read.reached) in
    (cut.next, subst (λ s. reader_step s byte ≡ Some cut.next) (one_state (sym cut.reached ∙ e)) cut.steps)

-- ---- where the first value ends

module _ (bytes : List ℕ) (at : ℕ) (state : ReaderState) (u : IsUtf8 bytes) (w : at ≤ length bytes) (e : after_bytes reader_start (take at bytes) ≡ Some state) where
  number_before : is_number state.expected ≡ true → is_space (get_or bytes (at - 1) 0) ≡ false
  number_before h = elim (cases_order at 0) [
    | inl none ↦
        let first = one_state (ap (λ n. after_bytes reader_start (take n bytes)) (sym none) ∙ e) in
        absurd (false≢true (ap (λ s. is_number s.expected) first ∙ h))
    | inr (inl less) ↦ absurd (omega (arith, less))
    | inr (inr more) ↦
        let cut = cut_take bytes (at - 1) at state (omega (arith, more)) (omega (arith, more, w)) e in
        let rest : at - suc (at - 1) ≡ 0 = omega (arith, more) in
        let leads : after_bytes cut.next [] ≡ Some state = subst (λ n. after_bytes cut.next (take n (drop (suc (at - 1)) bytes)) ≡ Some state) rest cut.leads in
        number_behind cut.state cut.next (get_or bytes (at - 1) 0) cut.steps (ap (λ s. is_number s.expected) (one_state leads) ∙ h)
  ]

  step_none : (expected : Expected) (opened : List Opened) → front_ends opened expected bytes at ≡ true → state.expected ≡ expected → state.opened ≡ opened
      → (state.expected ≡ Next → state.opened ≡ [] → is_space (get_or bytes (at - 1) 0) ≡ false) → is_space (get_or bytes (at - 1) 0) ≡ false
  step_none Next [] h x o f = f x o
  step_none (InNumber phase text) [] h x o f = number_before (ap is_number x)
  step_none expected [] h x o f = absurd (false≢true h)
  step_none expected (first ∷ opened) h x o f = absurd (false≢true h)

  module _ (h : front_ends state.opened state.expected bytes at ≡ true) where
    further : (next : ReaderState) → at < length bytes → reader_step state (get_or bytes at 0) ≡ Some next → is_space (get_or bytes at 0) ≡ true
    further next l k = ends_space bytes at state.expected state.opened state.tokens next l h k

    pub ends-front : (state.expected ≡ Next → state.opened ≡ [] → is_space (get_or bytes (at - 1) 0) ≡ false) → EndsFront bytes at
    ends-front f = record {
      within = w;
      no_space_behind = step_none state.expected state.opened h refl refl f;
      goes_no_further = λ l front. let p = front_step bytes at state l e front in further p.0 l p.1;
    }

    none_at : (o : Option ReaderState) → reader_step state (get_or bytes at 0) ≡ o → at < length bytes → 128 ≤ get_or bytes at 0 → reader_step state (get_or bytes at 0) ≡ None
    none_at None k l high = k
    none_at (Some next) k l high = let low = space_low (get_or bytes at 0) (further next l k) in absurd (omega (arith, low, high))

    boundary : IsCharBoundary bytes at
    boundary = elim (cases_lt at (length bytes)) [
      | inl l ↦ elim (cases_lt (get_or bytes at 0) 128) [
        | inl low ↦ IsCharBoundary-before_ascii bytes at l low
        | inr high ↦
            let taken = refused-taken bytes at state l e (none_at (reader_step state (get_or bytes at 0)) refl l high) in
            subst (IsCharBoundary bytes) taken (stops-boundary bytes reader_start refl u (let s : taken_from reader_start bytes ≤ length bytes = omega (arith, taken, w) in s))
      ]
      | inr far ↦ subst (IsCharBoundary bytes) (let s : length bytes ≡ at = omega (arith, far, w) in s) (IsCharBoundary-end bytes)
    ]

    pub front-document : (tokens : List Placed) → tokens_at_end state ≡ Some tokens → IsDocument (take at bytes) tokens
    front-document tokens k =
        read-document (take at bytes) tokens (IsUtf8-take bytes at u boundary) (ap (option_and_then tokens_at_end) e ∙ k)

  -- ---- where there is none

  module _ (h : front_ends state.opened state.expected bytes at ≡ false) (r : at < length bytes → reader_step state (get_or bytes at 0) ≡ None) (fails : FailsAt bytes at) where
    none_here : (last : ReaderState) (tokens : List Placed) → after_bytes reader_start (take at bytes) ≡ Some last → tokens_at_end last ≡ Some tokens → ⊥
    none_here last tokens reached k =
        let ended = subst (λ s. AtEnd s.expected s.opened) (one_state (sym reached ∙ e)) (at_end last.expected last.opened last.tokens tokens k) in
        ends_not bytes at state.tokens ended h r

    none_before : (used : ℕ) (last : ReaderState) (tokens : List Placed) → used < at → after_bytes reader_start (take used bytes) ≡ Some last → tokens_at_end last ≡ Some tokens → EndsFront bytes used → ⊥
    none_before used last tokens l reached k ends =
        let byte = get_or bytes used 0 in
        let cut = cut_take bytes used at state l (omega (arith, l, w)) e in
        let ended = subst (λ s. AtEnd s.expected s.opened) (one_state (sym reached ∙ cut.reached)) (at_end last.expected last.opened last.tokens tokens k) in
        elim (end_takes cut.state.tokens byte cut.next ended cut.steps) [
          | inl space ↦
              let (left, next) = end_space cut.state.tokens byte cut.next ended space cut.steps in
              let stays = past_stays (take (at - suc used) (drop (suc used) bytes)) left state (ap (λ s. after_bytes s (take (at - suc used) (drop (suc used) bytes))) (sym next) ∙ cut.leads) in
              absurd (false≢true (sym h ∙ ap (λ s. front_ends s.opened s.expected bytes at) stays.1))
          | inr other ↦
              let within : used < length bytes = omega (arith, l, w) in
              let taken : after_bytes reader_start (take (used + 1) bytes) ≡ Some cut.next = after-byte bytes used cut.state within cut.reached ∙ cut.steps in
              let whole = IsUtf8-take bytes (used + 1) u (IsCharBoundary-after_ascii bytes used u within other.1) in
              absurd (false≢true (sym other.0 ∙ ends.goes_no_further within (taken-front (take (used + 1) bytes) cut.next whole taken)))
        ]

    none_behind : (used : ℕ) (value : JsonValue) → at < used → used ≤ length bytes → Denotes (take used bytes) value → ⊥
    none_behind used value l k d =
        fails.longest used l k d.utf8 (record { more = []; value = value; denotes = subst (λ row. Denotes row value) (sym (append-nil (take used bytes))) d })

    has_none : HasNoFront bytes
    has_none value used d ends =
        let read = read_state (take used bytes) _ (denoted-read d) in
        elim (cases_order used at) [
          | inl same ↦ none_here read.state _ (subst (λ n. after_bytes reader_start (take n bytes) ≡ Some read.state) same read.reached) read.ends
          | inr (inl less) ↦ none_before used read.state _ less read.reached read.ends ends
          | inr (inr more) ↦ none_behind used value more ends.within d
        ]

    pub bad-front : IsBadJsonFront bytes at
    bad-front = record { has_none = has_none; fails_at = fails }

-- a byte is refused
pub refused-fails : (bytes : List ℕ) (at : ℕ) (state : ReaderState) → IsUtf8 bytes → at < length bytes → after_bytes reader_start (take at bytes) ≡ Some state → reader_step state (get_or bytes at 0) ≡ None → FailsAt bytes at
refused-fails bytes at state u l e r = subst (FailsAt bytes) (refused-taken bytes at state l e r) (stops-fails bytes u)

-- or the bytes end
pub ended-fails : (bytes : List ℕ) (at : ℕ) (state : ReaderState) → IsUtf8 bytes → at ≡ length bytes → after_bytes reader_start (take at bytes) ≡ Some state → FailsAt bytes at
ended-fails bytes at state u s e =
    let all : after_bytes reader_start bytes ≡ Some state = ap (after_bytes reader_start) (sym (take_all at bytes (omega (arith, s)))) ∙ e in
    subst (FailsAt bytes) (ended-taken bytes state u all ∙ sym s) (stops-fails bytes u)

-- no text goes on from a value with a byte that is no ASCII
pub no_high_front : (bytes : List ℕ) (byte : ℕ) (value : JsonValue) → Denotes bytes value → 128 ≤ byte → IsFront (bytes ++ (byte ∷ [])) → ⊥
no_high_front bytes byte value d high f =
    let read = read_state bytes _ (denoted-read d) in
    let all = read_state ((bytes ++ (byte ∷ [])) ++ f.more) _ (denoted-read f.denotes) in
    let cut = cut_taken bytes byte f.more all.state (ap (after_bytes reader_start) (sym (append_assoc bytes (byte ∷ []) f.more)) ∙ all.reached) in
    let ended = subst (λ s. AtEnd s.expected s.opened) (one_state (sym read.reached ∙ cut.reached)) (at_end read.state.expected read.state.opened read.state.tokens _ read.ends) in
    elim (end_takes cut.state.tokens byte cut.next ended cut.steps) [
      | inl space ↦ let low = space_low byte space in absurd (omega (arith, low, high))
      | inr other ↦ let low = other.1 in absurd (omega (arith, low, high))
    ]

-- no value is denoted by nothing
pub nothing_ends : (value : JsonValue) → Denotes [] value → ⊥
nothing_ends value d = let e = denoted-read d in cc e
