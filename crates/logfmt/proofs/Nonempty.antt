-- Which texts aren't empty, and what that means where memory was wanting for them.
use Rattle.std.specs.Prelude.{◌≡◌, ℕ, ℤ, pos, negsuc, ◌<◌, ◌≤◌, ◌/◌, ◌%◌, ◌==◌, nat_lt, Bool, true, false, List, [], ◌∷◌, ◌++◌, length, codes, if◌then◌else◌, Option, Some, None, Result, Err, refl}
use Rattle.std.specs.Fmt.{digits, digits_onto, digit_glyph, decimal, signed_decimal}
use Rattle.std.specs.List.{list_all}
use Rattle.std.proofs.Common.{zero, suc, sym, subst, arith, length-append}
use Rattle.sval_label.specs.declared.error.Error.{Error}
use Rattle.sval_core.specs.Law.{Rose}
use Rattle.sval_io.specs.declared.sink.SinkError.{SinkError}
use Rattle.sval_io.specs.declared.sink.SinkError.TheVariants as sink
use Rattle.sval_io.specs.Sinks.{WritesFront}
use Rattle.sval_io.specs.Taken.{Taken, taken_told}
use Rattle.sval_json.specs.Escape.{short_escape, low_byte, escape_text, escape, escaped}
use Rattle.logfmt.specs.declared.LogfmtError.TheVariants as error
use Rattle.logfmt.specs.Pairs.{is_key_byte, is_key}
use Rattle.logfmt.specs.Steps.{LogfmtStep}
use Rattle.logfmt.specs.Writing.{Writing, LeavesText, LacksTextMemory, IsStoppedFor, DoesStep}

if_some : (b : Bool) (xs ys : List ℕ) → 0 < length xs → 0 < length ys → 0 < length (if b then xs else ys)
if_some true xs ys first second = first
if_some false xs ys first second = second

-- ---- numbers

onto_some : (k n : ℕ) (acc : List ℕ) → 0 < length acc → 0 < length (digits_onto k 10 false n acc)
onto_some zero n acc some = some
onto_some (suc k) n acc some =
    if_some (n / 10 == 0) (digit_glyph false (n % 10) ∷ acc) (digits_onto k 10 false (n / 10) (digit_glyph false (n % 10) ∷ acc)) (omega arith)
    (onto_some k (n / 10) (digit_glyph false (n % 10) ∷ acc) (omega arith))

decimal_some : (n : ℕ) → 0 < length (decimal n)
unfolding digits
decimal_some n =
    if_some (n / 10 == 0) (digit_glyph false (n % 10) ∷ []) (digits_onto 63 10 false (n / 10) (digit_glyph false (n % 10) ∷ [])) (omega arith)
    (onto_some 63 (n / 10) (digit_glyph false (n % 10) ∷ []) (omega arith))

pub signed_some : (number : ℤ) → 0 < length (signed_decimal number)
signed_some (pos n) = decimal_some n
signed_some (negsuc n) = omega arith

-- ---- texts

escape_some : (byte : ℕ) (letter : Option ℕ) → 0 < length (escape_text byte letter)
escape_some byte (Some letter) = omega arith
escape_some byte None = if_some (nat_lt byte 32) (codes "\\u00" ++ low_byte byte) (byte ∷ []) (omega arith) (omega arith)

pub escaped_some : (text : List ℕ) → (length text == 0) ≡ false → 0 < length (escaped text)
escaped_some [] is = let never : true ≡ false = is in cc
escaped_some (byte ∷ text) is = omega (arith, length-append (escape byte) (escaped text), escape_some byte (short_escape byte))

pub filled_key : (text : List ℕ) → (length text == 0) ≡ false → list_all is_key_byte text ≡ is_key text
filled_key [] is = let never : true ≡ false = is in cc
filled_key (byte ∷ text) is = refl

-- ---- want of memory

-- a sink in memory declines for want of memory alone
pub only_wants : (why : SinkError) (piece : List ℕ) (before after : Taken) → WritesFront why (taken_told before) piece (taken_told after) → why ≡ sink.NoMemory
only_wants sink.Failed piece before after front = let rose = front.cause in absurd (omega arith)
only_wants sink.NoMemory piece before after front = refl

-- a sink in memory that took no whole piece had no memory
pub stops_writing : (due : LogfmtStep) (why : SinkError) (piece : List ℕ) (before after : Taken) (old new : Writing) (result : Result (Unit {0}) Error) (refusal : Error)
    → WritesFront why (taken_told before) piece (taken_told after) → LeavesText due → old.wants ≡ before.wants → new.wants ≡ after.wants
    → new.why ≡ Some error.NoMemory → result ≡ Err refusal → DoesStep due result old new
stops_writing due sink.Failed piece before after old new result refusal front text was now want is = let rose = front.cause in absurd (omega arith)
stops_writing due sink.NoMemory piece before after old new result refusal front text was now want is =
    let lacks : LacksTextMemory due old new = record {
      text = text;
      rose = subst (λ n. Rose old.wants n) (sym now) (subst (λ n. Rose n after.wants) (sym was) front.cause);
      wants = subst (λ n. old.wants ≤ n) (sym now) (subst (λ n. n ≤ after.wants) (sym was) front.counts.wants);
    } in
    let stop : IsStoppedFor new.why due old new = subst (λ w. IsStoppedFor w due old new) (sym want) lacks in
    subst (λ r. DoesStep due r old new) (sym is) stop
