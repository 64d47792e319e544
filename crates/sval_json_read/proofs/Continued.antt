-- What may come behind bytes that the machine takes, and that nothing may where it refuses one.
use Rattle.std.specs.Prelude.{◌≡◌, ℕ, Bool, true, false, List, [], ◌∷◌, ◌++◌, Option, Some, None, option_and_then, is_some, ◌↔◌, refl, IsTrue, IsUtf8}
use Rattle.std.specs.Char.{encode_utf8}
use Rattle.std.proofs.Common.{sym, ap, subst, ◌∙◌, append_assoc, append-nil}
use Rattle.std.proofs.lemmas.Str.{IsUtf8-append, IsUtf8-encode}
use Rattle.sval_json.specs.Fronts.{IsFront}
use Rattle.sval_json.specs.Grammar.{Denotes}
use Rattle.sval_json_read.specs.NextCharacters.{takes_next, ends_next, DenotesSome, ArePossible}
use Rattle.sval_json_read.specs.Reader.{ReaderState, reader_start, reader_step, after_bytes, tokens_at_end, tokens_read}
use Rattle.sval_json_read.specs.SeenOpened.{TopContainerIs}
use Rattle.sval_json_read.specs.SeenReader.{seen_state}
use Rattle.sval_json_read.specs.Tokens.{Alone, tokens_of}
use Rattle.sval_json_read.specs.declared.reader.Reader.{Reader}
use Rattle.sval_json_read.specs.declared.reader.waiting.Waiting.{Waiting}
use Rattle.sval_json_read.proofs.Boundaries.{stays_some}
use Rattle.sval_json_read.proofs.Completed.{has_ascii, StaysAscii, step-ascii}
use Rattle.sval_json_read.proofs.Fails.{read-denotes}
use Rattle.sval_json_read.proofs.Loop.{after-append}
use Rattle.sval_json_read.proofs.ReadTexts.{denoted-read}
use Rattle.sval_json_read.proofs.TakenFronts.{taken-front, front-true, front-false}
use Rattle.sval_json_read.proofs.Waits.{takes_alike, ends_alike, character_taken}

-- the letters that are left of a word stay ASCII
ascii_after : (bytes : List ℕ) (state last : ReaderState) → has_ascii state.expected ≡ true → after_bytes state bytes ≡ Some last → has_ascii last.expected ≡ true
ascii_after [] state last a e = let same : state ≡ last = cc e in subst (λ (s : ReaderState). has_ascii s.expected ≡ true) same a
ascii_after (byte ∷ bytes) state last a e = go (reader_step state byte) (step-ascii state byte a) (λ next. ascii_after bytes next last) e
  where
    go : (o : Option ReaderState) → StaysAscii o → ((next : ReaderState) → has_ascii next.expected ≡ true → after_bytes next bytes ≡ Some last → has_ascii last.expected ≡ true)
        → option_and_then (λ next. after_bytes next bytes) o ≡ Some last → has_ascii last.expected ≡ true
    go None s again f = cc f
    go (Some next) s again f = again next (stays_some s) f

some_is : {A : Type 0} (o : Option A) → is_some o ≡ true → (x : A) × (o ≡ Some x)
some_is None e = cc e
some_is (Some x) e = (x, refl)

is_true : {A : Type 0} {o : Option A} {x : A} → o ≡ Some x → is_some o ≡ true
is_true e = ap is_some e

-- ---- fronts are exactly what is taken

front_is_taken : (bytes : List ℕ) → IsFront bytes → is_some (after_bytes reader_start bytes) ≡ true
front_is_taken bytes f = go (after_bytes reader_start bytes) (ap (option_and_then tokens_at_end) (sym (after-append bytes f.more reader_start)) ∙ denoted-read f.denotes)
  where
    go : (o : Option ReaderState) → option_and_then tokens_at_end (option_and_then (λ next. after_bytes next f.more) o) ≡ Some (tokens_of Alone f.denotes.is_value) → is_some o ≡ true
    go None e = cc e
    go (Some state) e = refl

front_where : (bytes : List ℕ) (b : Bool) → IsUtf8 bytes → is_some (after_bytes reader_start bytes) ≡ b → IsTrue b ↔ IsFront bytes
front_where bytes true u e = let taken = some_is (after_bytes reader_start bytes) e in front-true bytes (taken-front bytes taken.0 u taken.1)
front_where bytes false u e = front-false bytes (λ f. let both : true ≡ false = sym (front_is_taken bytes f) ∙ e in cc both)

denotes_where : (bytes : List ℕ) (b : Bool) → IsUtf8 bytes → is_some (tokens_read bytes) ≡ b → IsTrue b ↔ DenotesSome bytes
denotes_where bytes true u e = let some = some_is (tokens_read bytes) e in let d = read-denotes bytes some.0 u some.1 in (λ _. (d.0, d.1), λ _. refl)
denotes_where bytes false u e = (λ h. absurd (cc h), λ d. let both : true ≡ false = sym (is_true (denoted-read d.1)) ∙ e in absurd (cc both))

-- ---- behind bytes that are taken

module _ (bytes : List ℕ) (reader : Reader) (waiting : Waiting) (u : IsUtf8 bytes) (at : ℕ) (reached : after_bytes reader_start bytes ≡ Some (seen_state bytes at reader))
    (same : waiting.expected ≡ reader.expected) (top : TopContainerIs waiting.innermost reader.opened) where
  abbrev state : ReaderState
  state = seen_state bytes at reader

  character : (c : ℕ) → is_some (after_bytes reader_start (bytes ++ encode_utf8 c)) ≡ takes_next (Some waiting) c
  character c =
      ap is_some (after-append bytes (encode_utf8 c) reader_start ∙ ap (option_and_then (λ next. after_bytes next (encode_utf8 c))) reached)
      ∙ character_taken c state (ascii_after bytes reader_start state refl reached)
      ∙ takes_alike bytes reader.from at reader.expected state.opened state.tokens waiting same top c

  pub possible_behind : ArePossible bytes (takes_next (Some waiting))
  possible_behind c scalar =
      front_where (bytes ++ encode_utf8 c) (takes_next (Some waiting) c) (IsUtf8-append bytes (encode_utf8 c) u (IsUtf8-encode c scalar)) (character c)

  pub end_behind : IsTrue (ends_next (Some waiting)) ↔ DenotesSome bytes
  end_behind =
      denotes_where bytes (ends_next (Some waiting)) u
      (ap (λ o. is_some (option_and_then tokens_at_end o)) reached ∙ ends_alike bytes reader.from at reader.expected state.opened state.tokens waiting same top)

-- ---- behind bytes of which one is refused

shorter_front : (bytes more : List ℕ) → IsFront (bytes ++ more) → IsFront bytes
shorter_front bytes more f = record { more = more ++ f.more; value = f.value; denotes = subst (λ x. Denotes x f.value) (append_assoc bytes more f.more) f.denotes }

denoted_front : (bytes : List ℕ) → DenotesSome bytes → IsFront bytes
denoted_front bytes d = record { more = []; value = d.0; denotes = subst (λ x. Denotes x d.0) (sym (append-nil bytes)) d.1 }

pub none_possible : (bytes : List ℕ) → (IsFront bytes → ⊥) → ArePossible bytes (takes_next None)
none_possible bytes none c scalar = front-false (bytes ++ encode_utf8 c) (λ f. none (shorter_front bytes (encode_utf8 c) f))

pub none_ends : (bytes : List ℕ) → (IsFront bytes → ⊥) → IsTrue (ends_next None) ↔ DenotesSome bytes
none_ends bytes none = (λ h. absurd (cc h), λ d. absurd (none (denoted_front bytes d)))
