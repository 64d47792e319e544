-- Texts of fields, as they are put into the store.
use Rattle.std.specs.Prelude.{◌≡◌, ℕ, ◌+◌, ◌-◌, false, List, [], ◌∷◌, length, take, drop, get_or, None, Result, Ok, Err, IfOk, refl}
use Rattle.std.specs.Result.{result_ok}
use Rattle.std.specs.Str.{IsUtf8, is_utf8}
use Rattle.std.proofs.Common.{arith, sym, ap, ◌∙◌, subst}
use Rattle.std.proofs.lemmas.Bool.{false_from_ne_true}
use Rattle.std.proofs.lemmas.List.{take_rest, drop_at, length-append}
use Rattle.std.proofs.lemmas.Str.{IsUtf8-from_is_utf8, is_utf8-from_IsUtf8}
use Rattle.hex.specs.Hex.{decode_of}
use Rattle.sval_script.specs.Lines.{bytes, text}
use Rattle.sval_script.specs.FieldValues.{Decodes, StoresText}
use Rattle.sval_script.specs.declared.field.LineError.{LineError}

-- what stands behind `=`
pub bytes_behind : (field digits : List ℕ) → get_or field 0 0 ≡ 61 → digits ≡ take (length field - 1) (drop 1 field) → bytes field ≡ result_ok (decode_of digits)
bytes_behind [] digits h e = cc h
bytes_behind (first ∷ rest) digits h e =
    let whole : digits ≡ rest = e ∙ take_rest (first ∷ rest) 1 in
    let same : first ≡ 61 = h in
    rw (same, whole) refl

-- the part of the store that the decoded bytes are
decoded_part : (digits old new : List ℕ) (start : ℕ) (d : Decodes digits old new) → start ≡ length old → drop start new ≡ d.bytes
decoded_part digits old new start d s = rw (s, d.stored) (drop_at old d.bytes (length old) refl)

pub text_kept : (field digits old new : List ℕ) (start len : ℕ) → bytes field ≡ result_ok (decode_of digits) → Decodes digits old new → start ≡ length old
    → len ≡ length new - start → IsUtf8 (drop start new) → StoresText field old new len
text_kept field digits old new start len h d s same u =
    let v : IsUtf8 d.bytes = subst IsUtf8 (decoded_part digits old new start d s) u in
    record {
      bytes = d.bytes;
      spells = rw (h, d.spells, is_utf8-from_IsUtf8 d.bytes v) refl;
      is_good = v;
      stored = d.stored;
      has_len = let whole : length new ≡ length old + length d.bytes = ap length d.stored ∙ length-append old d.bytes in omega arith;
    }

pub text_stored : (field digits old new : List ℕ) (start : ℕ) (r : Result ℕ LineError) → bytes field ≡ result_ok (decode_of digits) → Decodes digits old new → start ≡ length old
    → IfOk r (λ len. len ≡ length new - start) → IfOk r (λ len. IsUtf8 (drop start new)) → IfOk r (λ len. StoresText field old new len)
text_stored field digits old new start (Ok len) h d s same u = text_kept field digits old new start len h d s same u
text_stored field digits old new start (Err e) h d s same u = tt

pub text_refused : (field digits old new : List ℕ) (start : ℕ) → bytes field ≡ result_ok (decode_of digits) → Decodes digits old new → start ≡ length old
    → (IsUtf8 (drop start new) → ⊥) → text field ≡ None
text_refused field digits old new start h d s u =
    let v : is_utf8 d.bytes ≡ false =
    false_from_ne_true (is_utf8 d.bytes) (λ t. u (subst IsUtf8 (sym (decoded_part digits old new start d s)) (IsUtf8-from_is_utf8 d.bytes t))) in
    rw (h, d.spells, v) refl
