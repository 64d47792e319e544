-- Where the machine stops, the longest front of a text that denotes a value ends.
use Rattle.std.specs.Prelude.{◌≡◌, ℕ, zero, suc, ◌<◌, ◌≤◌, true, List, [], ◌∷◌, ◌++◌, length, take, Option, Some, None, option_and_then, refl, IsUtf8}
use Rattle.std.specs.Option.{option_map_or}
use Rattle.std.proofs.Common.{sym, subst, ◌∙◌, arith, inl, inr}
use Rattle.std.proofs.lemmas.Bool.{cases_order}
use Rattle.std.proofs.lemmas.Str.{IsUtf8-append, IsUtf8-take}
use Rattle.sval_json.specs.Grammar.{JsonValue, Denotes}
use Rattle.sval_json.specs.Fronts.{FailsAt}
use Rattle.sval_json.proofs.NumberTexts.{ascii_utf8}
use Rattle.sval_json_read.specs.Tokens.{Placed, Alone, tokens_of}
use Rattle.sval_json_read.specs.Reader.{AValue, ReaderState, reader_start, reader_step, after_bytes, tokens_at_end, tokens_read, taken_from, bytes_taken}
use Rattle.sval_json_read.proofs.Fits.{whole, value_then, Fits, value}
use Rattle.sval_json_read.proofs.Sound.{byte-fits, IsSomeTokens, taken-fits}
use Rattle.sval_json_read.proofs.Completed.{all_ascii, has_ascii, completion, StaysAscii, step-ascii}
use Rattle.sval_json_read.proofs.ReadTexts.{denoted-read}
use Rattle.sval_json_read.proofs.Boundaries.{stops-boundary, stays_some}

-- ---- what is taken is a front

pub record Front (state : ReaderState) (bytes : List ℕ) : Type 0 where
  pub more : List ℕ
  pub ascii : all_ascii more ≡ true
  pub fits : Fits state.expected state.opened (bytes ++ more)

completed : (state : ReaderState) → has_ascii state.expected ≡ true → Front state []
completed state h = let c = completion state.expected state.opened h in record { more = c.more; ascii = c.ascii; fits = c.fits }

front_or : (state : ReaderState) (byte : ℕ) (bytes : List ℕ) (o : Option ReaderState) → reader_step state byte ≡ o → has_ascii state.expected ≡ true
    → ((next : ReaderState) → has_ascii next.expected ≡ true → Front next (take (taken_from next bytes) bytes))
    → Front state (take (option_map_or (λ next. suc (taken_from next bytes)) o zero) (byte ∷ bytes))
front_or state byte bytes None e h f = completed state h
front_or state byte bytes (Some next) e h f =
    let i = f next (stays_some (subst StaysAscii e (step-ascii state byte h))) in
    record { more = i.more; ascii = i.ascii; fits = byte-fits state next byte (take (taken_from next bytes) bytes ++ i.more) e i.fits }

taken_front : (bytes : List ℕ) (state : ReaderState) → has_ascii state.expected ≡ true → Front state (take (taken_from state bytes) bytes)
taken_front [] state h = completed state h
taken_front (byte ∷ bytes) state h = front_or state byte bytes (reader_step state byte) refl h (λ next k. taken_front bytes next k)

taken_within : (bytes : List ℕ) (state : ReaderState) → taken_from state bytes ≤ length bytes
taken_within [] state = omega arith
taken_within (byte ∷ bytes) state = go (reader_step state byte) (λ next. taken_within bytes next)
  where
    go : (o : Option ReaderState) → ((next : ReaderState) → taken_from next bytes ≤ length bytes) → option_map_or (λ next. suc (taken_from next bytes)) o zero ≤ length (byte ∷ bytes)
    go None f = omega arith
    go (Some next) f = let i = f next in omega arith

-- ---- and no longer one is

no_more_or : (byte : ℕ) (bytes more : List ℕ) (m : ℕ) (o : Option ReaderState) → option_map_or (λ next. suc (taken_from next bytes)) o zero < suc m
    → ((next : ReaderState) → taken_from next bytes < m → IsSomeTokens (option_and_then tokens_at_end (after_bytes next (take m bytes ++ more))) → ⊥)
    → IsSomeTokens (option_and_then tokens_at_end (option_and_then (λ next. after_bytes next (take m bytes ++ more)) o)) → ⊥
no_more_or byte bytes more m None l f h = h
no_more_or byte bytes more m (Some next) l f h = f next (omega arith) h

no_more : (bytes : List ℕ) (state : ReaderState) (m : ℕ) (more : List ℕ) → taken_from state bytes < m → m ≤ length bytes
    → IsSomeTokens (option_and_then tokens_at_end (after_bytes state (take m bytes ++ more))) → ⊥
no_more [] state m more l w h = omega arith
no_more (byte ∷ bytes) state zero more l w h = omega arith
no_more (byte ∷ bytes) state (suc m) more l w h =
    no_more_or byte bytes more m (reader_step state byte) l (λ next k. no_more bytes next m more k (omega arith)) h

some_tokens : (o : Option (List Placed)) (tokens : List Placed) → o ≡ Some tokens → IsSomeTokens o
some_tokens None tokens e = absurd (cc e)
some_tokens (Some x) tokens e = tt

front_taken : (bytes : List ℕ) (v : JsonValue) → Denotes bytes v → IsSomeTokens (tokens_read bytes)
front_taken bytes v d = some_tokens (tokens_read bytes) (tokens_of Alone d.is_value) (denoted-read d)

-- ---- what fits from the start denotes

pub fits-denotes : {bytes : List ℕ} → IsUtf8 bytes → Fits AValue [] bytes → (v : JsonValue) × Denotes bytes v
fits-denotes u (value (value_then {after = after_bytes} {value = v} is_value (whole e))) = (v, record { utf8 = u; rest = after_bytes; is_value = is_value; at_end = e })

-- ---- the place

pub stops-fails : (bytes : List ℕ) → IsUtf8 bytes → FailsAt bytes (bytes_taken bytes)
stops-fails bytes u =
    let w = taken_within bytes reader_start in
    let whole_characters = IsUtf8-take bytes (bytes_taken bytes) u (stops-boundary bytes reader_start refl u w) in
    let f = taken_front bytes reader_start refl in
    let d = fits-denotes (IsUtf8-append (take (bytes_taken bytes) bytes) f.more whole_characters (ascii_utf8 f.more f.ascii)) f.fits in
    record {
      within = w;
      whole = whole_characters;
      front = record { more = f.more; value = d.0; denotes = d.1 };
      longest = λ m l k v g. no_more bytes reader_start m g.more l k (front_taken (take m bytes ++ g.more) g.value g.denotes);
    }

pub fails-once : (bytes : List ℕ) (m n : ℕ) → FailsAt bytes m → FailsAt bytes n → m ≡ n
fails-once bytes m n f g = elim (cases_order m n) [
  | inl same ↦ same
  | inr (inl l) ↦ absurd (f.longest n l g.within g.whole g.front)
  | inr (inr l) ↦ absurd (g.longest m l f.within f.whole f.front)
]

-- ---- exactly the texts that denote a value

pub same_some : {xs ys : List Placed} → (let o : Option (List Placed) = Some xs in o) ≡ Some ys → xs ≡ ys
same_some e = cc e

pub read-denotes : (bytes : List ℕ) (tokens : List Placed) → IsUtf8 bytes → tokens_read bytes ≡ Some tokens
    → (v : JsonValue) × (d : Denotes bytes v) × (tokens ≡ tokens_of Alone d.is_value)
read-denotes bytes tokens u e =
    let f = taken-fits bytes reader_start (some_tokens (tokens_read bytes) tokens e) in
    let d = fits-denotes u f in
    (d.0, d.1, same_some (sym e ∙ denoted-read d.1))
