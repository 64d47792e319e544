-- A field of `=` and hex digits that ends a line.
use Rattle.std.specs.Prelude.{◌≡◌, ℕ, zero, suc, ◌+◌, ◌-◌, ◌<◌, true, false, List, [], ◌∷◌, length, take, drop, get_or, Some, Result, Ok, Err, IfOk, refl}
use Rattle.std.specs.Str.{IsUtf8}
use Rattle.std.proofs.Common.{arith, add-one, ◌∙◌}
use Rattle.std.proofs.lemmas.Bool.Decides.{nat_tests}
use Rattle.std.proofs.lemmas.List.{take_rest, get_or-take, length-take-le}
use Rattle.memchr.specs.Find.{is_byte2}
use Rattle.hex.specs.Hex.{is_hex_digit}
use Rattle.hex.proofs.HexLemmas.{decode_of-ok}
use Rattle.sval_script.specs.Lines as script
use Rattle.sval_script.specs.Fields.{LineLeft, line_ahead}
use Rattle.sval_script.specs.FieldValues.{Decodes}
use Rattle.sval_script.specs.NextFields.{with_field, NoNext, DecodesNext, StoresNextText}
use Rattle.sval_script.specs.declared.field.LineError.{LineError}
use Rattle.sval_script.proofs.FieldsRead.{field_is, field_is_none}
use Rattle.sval_script.proofs.FieldTexts.{text_kept, text_refused}
use Rattle.sval_script.proofs.FirstFields.{field_at}

-- a hex digit ends no field
digit_ends_none : (c : ℕ) → is_hex_digit c ≡ true → is_byte2 32 10 c ≡ false
digit_ends_none c h = grind (arith, nat_tests)

-- digits behind `=`, which a line feed follows, are the line's last field
pub digits_end : (s behind digits old new : List ℕ) (len : ℕ) → get_or s 0 0 ≡ 61 → behind ≡ take (length s - 1) (drop 1 s) → len < length behind → get_or behind len 0 ≡ 10
    → digits ≡ take len behind → Decodes digits old new → DecodesNext (line_ahead s) (Some ([], take (length behind - (len + 1)) (drop (len + 1) behind))) old new
digits_end [] behind digits old new len equals is within feed cut d = cc equals
digits_end (first ∷ rest) behind digits old new len equals is within feed cut d = record {
  digits = digits;
  first = whole;
  decodes = d;
}
  where
    same : behind ≡ rest
    same = is ∙ take_rest (first ∷ rest) 1

    inner : len < length rest
    inner = rw same at within

    ends : get_or rest len 0 ≡ 10
    ends = rw same at feed

    size : length digits ≡ len
    size = let fits = inner in rw (cut, same) (length-take-le len rest (omega arith))

    before : (j : ℕ) → j < suc len → is_byte2 32 10 (get_or (first ∷ rest) j 0) ≡ false
    before zero below = let e : first ≡ 61 = equals in rw e refl
    before (suc j) below =
        let at : get_or digits j 0 ≡ get_or rest j 0 = rw (cut, same) (get_or-take len rest j 0 (omega arith)) in
        let pass : is_hex_digit (get_or digits j 0) ≡ true = (decode_of-ok digits d.bytes d.spells).1 j 0 (omega (arith, size)) in
        rw (← at) (digit_ends_none (get_or digits j 0) pass)

    whole : line_ahead (first ∷ rest) ≡ with_field (61 ∷ digits) (Some ([], take (length behind - (len + 1)) (drop (len + 1) behind)))
    whole =
        let e : first ≡ 61 = equals in
        let fits = inner in
        let found = field_at (first ∷ rest) (suc len) (omega arith) before (rw ends refl) in
        found ∙ rw (cut, same, take_rest rest (len + 1), add-one, e, ends) refl

-- the text that the next field's digits spell
pub text_ahead : (line rest : LineLeft) (old new : List ℕ) (start : ℕ) (r : Result ℕ LineError) → DecodesNext line rest old new → start ≡ length old
    → IfOk r (λ len. len ≡ length new - start) → IfOk r (λ len. IsUtf8 (drop start new)) → IfOk r (λ len. StoresNextText line rest old new len)
text_ahead line rest old new start (Ok len) d s same u =
    let kept = text_kept (61 ∷ d.digits) d.digits old new start len refl d.decodes s same u in
    record {
      bytes = kept.bytes;
      spells = field_is script.text (61 ∷ d.digits) line rest kept.bytes d.first kept.spells;
      is_good = kept.is_good;
      stored = kept.stored;
      has_len = kept.has_len;
    }
text_ahead line rest old new start (Err e) d s same u = tt

-- the next field's digits spell no text
pub no_text_ahead : (line rest : LineLeft) (old new : List ℕ) (start : ℕ) → DecodesNext line rest old new → start ≡ length old → (IsUtf8 (drop start new) → ⊥) → NoNext script.text line
no_text_ahead line rest old new start d s u =
    field_is_none script.text (61 ∷ d.digits) line rest d.first (text_refused (61 ∷ d.digits) d.digits old new start refl d.decodes s u)
