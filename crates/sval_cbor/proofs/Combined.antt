-- What parts of the writer do that are made of others.
use Rattle.std.specs.Prelude.{◌≡◌, ℕ, ◌^◌, ◌<◌, ◌==◌, Bool, true, false, bytes_eq, codes, pos, List, [], ◌∷◌, ◌++◌, length, Result, Ok, Err, decimal, refl}
use Rattle.std.specs.Str.Parse.{signed_digits_value}
use Rattle.std.specs.Char.{is_ascii_digit}
use Rattle.std.proofs.Common.{sym, ap, ◌∙◌, subst, arith, append_assoc}
use Rattle.std.proofs.lemmas.Bool.Decides.{nat_tests}
use Rattle.sval_label.specs.declared.error.Error.{Error}
use Rattle.sval_json.specs.Digits.{has_digit}
use Rattle.sval_json.specs.Json.{number, text, array}
use Rattle.sval_json.specs.Number as json
use Rattle.sval_json.specs.Number.{sign}
use Rattle.sval_json.specs.Shape.{byte_items}
use Rattle.sval_cbor.specs.Packs.{BadNumber, NotInteger, is_whole_number, has_128_bits}
use Rattle.sval_cbor.specs.declared.style.Lengths.{Lengths}
use Rattle.sval_cbor.specs.Cbor.{string, integer, item_count, held_count, row_head, row_end, cbor_as, cbor_items_as, cbor, cbor_items}
use Rattle.sval_cbor.specs.Writing.{CborState, writes, number_bytes}
use Rattle.sval_cbor.specs.WriterLaw.{CborTarget, CborWriterView, json_bytes, HasDoneStep, StepIsStopped, CborDoes}
use Rattle.sval_cbor.proofs.AlikeBytes.{bytes_alike, bytes_counted}
use Rattle.sval_cbor.proofs.Doing.{nothing_done, does_then, does_next, does_alike, stopped_first}
use Rattle.sval_cbor.proofs.Numbers.{integer_of_decimal}

-- ---- simple values

-- a text is one in a key, too
pub text_alike : (in_key : Bool) (bytes : List ℕ) → string 3 bytes ≡ json_bytes in_key (text bytes)
text_alike true bytes = refl
text_alike false bytes = refl

-- ---- numbers that come as text

pub bad_number : (in_key : Bool) (why : json.Refusal) → Err BadNumber ≡ number_bytes in_key (Err why)
bad_number true why = refl
bad_number false why = refl

digit_first : (c : ℕ) → is_ascii_digit c ≡ true → (c == 110) ≡ false
digit_first c h = grind (arith, nat_tests)

-- what begins with a digit after a sign isn't `null`
not_null : (negative : Bool) (unsigned : List ℕ) → has_digit unsigned ≡ true → bytes_eq (sign negative ++ unsigned) (codes "null") ≡ false
not_null negative [] h = cc h
not_null true (c ∷ cs) h = refl
not_null false (c ∷ cs) h = rw (digit_first c h) refl

pub packed_whole : (negative : Bool) (unsigned : List ℕ) → has_digit unsigned ≡ true → is_whole_number (sign negative ++ unsigned) ≡ true
    → Ok (integer (signed_digits_value 10 (sign negative ++ unsigned))) ≡ number_bytes false (Ok (sign negative ++ unsigned))
packed_whole negative unsigned h w = rw (not_null negative unsigned h, w) refl

pub packed_refused : (negative : Bool) (unsigned : List ℕ) → has_digit unsigned ≡ true → is_whole_number (sign negative ++ unsigned) ≡ false → Err NotInteger ≡ number_bytes false (Ok (sign negative ++ unsigned))
packed_refused negative unsigned h w = rw (not_null negative unsigned h, w) refl

-- ---- the bytes of a binary

-- the rest of the bytes is due
pub record IsRest (all : List ℕ) (state : CborState) (begun : CborTarget) (rest : List ℕ) (now : CborWriterView) : Type 0 where
  pub rest_of : (r : Result (Unit {0}) Error) (new : CborWriterView) → CborDoes (writes (cbor_items (byte_items rest)) now.state) r now.target new → CborDoes (writes (cbor_items (byte_items all)) state) r begun new

pub all_rest : (all : List ℕ) (begun : CborWriterView) → IsRest all begun.state begun.target all begun
all_rest all begun = record { rest_of = λ r new d. d }

byte_fits : (byte : ℕ) → byte < 256 → has_128_bits (pos byte) ≡ true
byte_fits byte small = grind (arith, nat_tests)

byte_item : (byte : ℕ) → byte < 256 → cbor (number (decimal byte)) ≡ integer (pos byte)
byte_item byte small = integer_of_decimal (pos byte) (byte_fits byte small)

pub next_rest : {all rest : List ℕ} {byte : ℕ} {state : CborState} {begun : CborTarget} {mid now : CborWriterView} → byte < 256 → IsRest all state begun (byte ∷ rest) mid → HasDoneStep (writes (integer (pos byte)) mid.state) mid.target now
    → IsRest all state begun rest now
next_rest {rest = rest} {byte = byte} {mid = mid} small due d = record {
  rest_of = λ r new more. due.rest_of r new (subst (λ (bytes : List ℕ). CborDoes (writes (bytes ++ cbor_items (byte_items rest)) mid.state) r mid.target new) (sym (byte_item byte small)) (does_then (cbor_items (byte_items rest)) (λ s. s) r mid.target new d more));
}

pub rest_stopped : {all rest : List ℕ} {byte : ℕ} {state : CborState} {begun : CborTarget} {mid new : CborWriterView} → byte < 256 → IsRest all state begun (byte ∷ rest) mid → StepIsStopped (writes (integer (pos byte)) mid.state) mid.target new
    → (refusal : Error) → StepIsStopped (writes (cbor_items (byte_items all)) state) begun new
rest_stopped {rest = rest} {byte = byte} {mid = mid} {new = new} small due stop refusal =
    due.rest_of (Err refusal) new
    (subst (λ (bytes : List ℕ). StepIsStopped (writes (bytes ++ cbor_items (byte_items rest)) mid.state) mid.target new) (sym (byte_item byte small)) (stopped_first (cbor_items (byte_items rest)) stop))

pub no_rest : {all : List ℕ} {state : CborState} {begun : CborTarget} {now : CborWriterView} (rest : List ℕ) → IsRest all state begun rest now → length rest ≡ 0 → HasDoneStep (writes (cbor_items (byte_items all)) state) begun now
no_rest {now = now} [] due none = due.rest_of (Ok tt) now (nothing_done now.state now.target)
no_rest (byte ∷ rest) due none = absurd (omega (arith, none))

-- ---- a binary as an array

numbers_joined : (lengths : Lengths) (n : ℕ) (bytes : List ℕ) → n ≡ length bytes → n < 2 ^ 64
    → row_head lengths 4 n ++ (cbor_items (byte_items bytes) ++ row_end lengths) ≡ cbor_as lengths (array (byte_items bytes))
numbers_joined lengths n bytes e h =
    let counted : n ≡ held_count (item_count (byte_items bytes)) = omega (arith, e, h, bytes_counted bytes) in
    ap (λ k. row_head lengths 4 k ++ (cbor_items (byte_items bytes) ++ row_end lengths)) counted
    ∙ ap (λ items. row_head lengths 4 (held_count (item_count (byte_items bytes))) ++ (items ++ row_end lengths)) (bytes_alike lengths bytes)
    ∙ sym (append_assoc (row_head lengths 4 (held_count (item_count (byte_items bytes)))) (cbor_items_as lengths (byte_items bytes)) (row_end lengths))

pub numbers_done : (bytes : List ℕ) (n : ℕ) {state : CborState} {mid : CborWriterView} (r : Result (Unit {0}) Error) (old : CborTarget) (new : CborWriterView) → n ≡ length bytes → n < 2 ^ 64
    → HasDoneStep (writes (row_head state.style.lengths 4 n) state) old mid → CborDoes (writes (cbor_items (byte_items bytes) ++ row_end mid.state.style.lengths) mid.state) r mid.target new
    → CborDoes (writes (cbor_as state.style.lengths (array (byte_items bytes))) state) r old new
numbers_done bytes n {state} {mid} r old new e h d items =
    does_alike r old new (ap (λ all. writes all state) (numbers_joined state.style.lengths n bytes e h))
    (does_next (λ s. cbor_items (byte_items bytes) ++ row_end s.style.lengths) (λ s. s) r old new d items)

pub numbers_stopped : (bytes : List ℕ) (n : ℕ) {state : CborState} {old : CborTarget} {new : CborWriterView} → n ≡ length bytes → n < 2 ^ 64
    → StepIsStopped (writes (row_head state.style.lengths 4 n) state) old new → StepIsStopped (writes (cbor_as state.style.lengths (array (byte_items bytes))) state) old new
numbers_stopped bytes n {state} {old} {new} e h stop =
    subst (λ (all : List ℕ). StepIsStopped (writes all state) old new) (numbers_joined state.style.lengths n bytes e h) (stopped_first (cbor_items (byte_items bytes) ++ row_end state.style.lengths) stop)
