-- Lines that were made of what was read.
use Rattle.std.specs.Prelude.{◌≡◌, ℕ, ℤ, List, [], ◌∷◌, ◌++◌, length, Option, Result, Ok, Err, IfOk, refl}
use Rattle.std.specs.Int.{w64, w128, cast_signed, cast_unsigned}
use Rattle.std.proofs.Common.{sym, ap, subst, ◌∙◌}
use Rattle.std.proofs.lemmas.Str.{IsUtf8-nil}
use mir.Val.{SFits}
use mir.ValLaws.{to_z-of_z}
use Rattle.std.proofs.lemmas.List.{append-nil}
use Rattle.sval_label.specs.Calls.{Call}
use Rattle.sval_label.specs.Calls as call
use Rattle.sval_label.specs.declared.grouped.Int.{Int}
use Rattle.sval_label.specs.Grouped.{int_number, int_type, int_call}
use Rattle.sval_script.specs.Lines.{LineForm, complete, field_then, whole_number, whole_number_of}
use Rattle.sval_script.specs.Words.{type_of}
use Rattle.sval_script.specs.declared.word.NumberType.{NumberType}
use Rattle.sval_script.specs.declared.field.LineError.{LineError}
use Rattle.sval_script.specs.Fields.{LineLeft}
use Rattle.sval_script.specs.NextFields.{call_before, NextIs, StoresNext}
use Rattle.sval_script.specs.LineCalls.{Stored, wide, own_len, own_count, call_with, IsUtf8Line}
use Rattle.sval_script.specs.MadeLines.{Puts, PutsWide, MakesLine, StoresCall}
use Rattle.sval_script.specs.declared.line.Line.{Line}
use Rattle.sval_script.specs.declared.line.Line.TheVariants as made

puts_numbers : (numbers : List ℕ) (old new : Stored) (line : Line) → new.bytes ≡ old.bytes → new.numbers ≡ old.numbers ++ numbers → own_len line numbers ≡ 0 → length numbers ≡ own_count line → IsUtf8Line line []
    → Puts [] numbers old new line
puts_numbers numbers old new line bytes put len count text = record {
  has_text = text;
  bytes_stored = bytes ∙ sym (append-nil old.bytes);
  numbers_stored = put;
  has_len = sym len;
  has_count = count;
}

puts_nothing : (store : Stored) (line : Line) → own_len line [] ≡ 0 → own_count line ≡ 0 → IsUtf8Line line [] → Puts [] [] store store line
puts_nothing store line len count text = puts_numbers [] store store line refl (sym (append-nil store.numbers)) len (sym count) text

-- a line with nothing of its own in the store
pub says_all : (call : Call) (store : Stored) (line : Line) → call_with [] [] line ≡ call → own_len line [] ≡ 0 → own_count line ≡ 0 → IsUtf8Line line [] → StoresCall call store store line
says_all call store line says len count text = record { bytes = []; numbers = []; says = says; puts = puts_nothing store line len count text }

-- a line with one number in the store
pub says_number : (call : Call) (n : ℕ) (old new : Stored) (line : Line) → call_with [] (n ∷ []) line ≡ call → new.bytes ≡ old.bytes → new.numbers ≡ old.numbers ++ (n ∷ []) → own_len line (n ∷ []) ≡ 0
    → own_count line ≡ 1 → IsUtf8Line line [] → StoresCall call old new line
says_number call n old new line says bytes put len count text = record { bytes = []; numbers = n ∷ []; says = says; puts = puts_numbers (n ∷ []) old new line bytes put len (sym count) text }

-- a line with one number in the store, which is the bits of this one with its sign
pub says_signed : (z : ℤ) (n : ℕ) (old new : Stored) → SFits w64 z → n ≡ cast_unsigned w64 (cast_signed w64 (cast_unsigned w64 z)) → new.bytes ≡ old.bytes → new.numbers ≡ old.numbers ++ (n ∷ []) → StoresCall (call.Int call.I64 z) old new made.I64
says_signed z n old new fits bits bytes put =
    let whole = to_z-of_z w64 z fits in
    let same : cast_signed w64 n ≡ z = ap (cast_signed w64) (bits ∙ ap (cast_unsigned w64) whole) ∙ whole in
    says_number (call.Int call.I64 z) n old new made.I64 (ap (call.Int call.I64) same) bytes put refl refl IsUtf8-nil

-- a line with the two halves of a number in the store
pub says_wide : (call : ℕ → Call) (n : ℕ) (old new : Stored) (line : Line) → ((numbers : List ℕ) → call_with [] numbers line ≡ call (wide numbers)) → new.bytes ≡ old.bytes → PutsWide n old.numbers new.numbers
    → ((numbers : List ℕ) → own_len line numbers ≡ 0) → own_count line ≡ 2 → IsUtf8Line line [] → StoresCall (call n) old new line
says_wide call n old new line says bytes put len count text = record {
  bytes = [];
  numbers = put.halves;
  says = says put.halves ∙ ap call put.are;
  puts = puts_numbers put.halves old new line bytes put.stored (len put.halves) (put.count ∙ sym count) text;
}

-- the same, where the number is the bits of this one with its sign
pub says_wide_signed : (z : ℤ) (n : ℕ) (old new : Stored) → SFits w128 z → n ≡ cast_unsigned w128 (cast_signed w128 (cast_unsigned w128 z)) → new.bytes ≡ old.bytes → PutsWide n old.numbers new.numbers → StoresCall (call.Int call.I128 z) old new made.I128
says_wide_signed z n old new fits bits bytes put =
    let whole = to_z-of_z w128 z fits in
    let same : cast_signed w128 n ≡ z = ap (cast_signed w128) (bits ∙ ap (cast_unsigned w128) whole) ∙ whole in
    subst (λ (x : ℤ). StoresCall (call.Int call.I128 x) old new made.I128) same
    (says_wide (λ m. call.Int call.I128 (cast_signed w128 m)) n old new made.I128 (λ numbers. refl) bytes put (λ numbers. refl) refl IsUtf8-nil)

pub makes_number : (form : LineForm) (fields rest : LineLeft) (n : ℕ) (old new : Stored) (line : Line) → call_before form fields ≡ call_before (complete (call_with [] (n ∷ []) line)) rest → new.bytes ≡ old.bytes
    → new.numbers ≡ old.numbers ++ (n ∷ []) → own_len line (n ∷ []) ≡ 0 → own_count line ≡ 1 → IsUtf8Line line [] → MakesLine form fields rest old new line
makes_number form fields rest n old new line spells bytes put len count text = record { bytes = []; numbers = n ∷ []; spells = spells; puts = puts_numbers (n ∷ []) old new line bytes put len (sym count) text }

pub makes_all : (form : LineForm) (fields rest : LineLeft) (store : Stored) (line : Line) → call_before form fields ≡ call_before (complete (call_with [] [] line)) rest → own_len line [] ≡ 0
    → own_count line ≡ 0 → IsUtf8Line line [] → MakesLine form fields rest store store line
makes_all form fields rest store line spells len count text = record { bytes = []; numbers = []; spells = spells; puts = puts_nothing store line len count text }

pub number_made : (kind : NumberType) (fields rest : LineLeft) (n : Int) (old new : Stored) (r : Result Line LineError) → NextIs (whole_number_of (type_of kind)) fields rest (int_number n) → int_type n ≡ type_of kind
    → IfOk r (λ line. StoresCall (int_call n) old new line) → IfOk r (λ line. MakesLine (whole_number (type_of kind)) fields rest old new line)
number_made kind fields rest n old new (Err e) says of_type s = tt
number_made kind fields rest n old new (Ok line) says of_type s = record {
  bytes = s.bytes;
  numbers = s.numbers;
  spells = says (λ z. complete (call.Int (type_of kind) z))
      ∙ ap (λ c. call_before (complete c) rest) (ap (λ t. call.Int t (int_number n)) (sym of_type) ∙ sym s.says);
  puts = s.puts;
}

-- a line whose own bytes are a fragment
pub fragment_made : {read : List ℕ → Option (List ℕ)} {IsGood : List ℕ → Type 0} {fields rest : LineLeft} {old new : List ℕ} {len : ℕ} (call : List ℕ → Call) (line : Line) (numbers : List ℕ)
    → ((bytes : List ℕ) → call_with bytes [] line ≡ call bytes) → ((bytes : List ℕ) → IsGood bytes → IsUtf8Line line bytes) → own_len line [] ≡ len → own_count line ≡ 0
    → StoresNext read (λ bytes. bytes) IsGood fields rest old new len
    → MakesLine (field_then read (λ bytes. complete (call bytes))) fields rest (record { bytes = old; numbers = numbers }) (record { bytes = new; numbers = numbers }) line
fragment_made {rest = rest} call line numbers says good size count s = record {
  bytes = s.bytes;
  numbers = [];
  spells = s.spells (λ bytes. complete (call bytes)) ∙ ap (λ c. call_before (complete c) rest) (sym (says s.bytes));
  puts = record {
    has_text = good s.bytes s.is_good;
    bytes_stored = s.stored;
    numbers_stored = sym (append-nil numbers);
    has_len = s.has_len ∙ sym size;
    has_count = sym count;
  };
}
