use Rattle.std.specs.Prelude.{◌≡◌, ◌≢◌, ◌<◌, ◌-◌, ◌^◌, length, get_or, take, drop}
use Rattle.std.specs.Int.{w64}
use Rattle.std.proofs.Common.{arith, rules, sym, ap, ◌∙◌, refl, Some}
use Rattle.std.proofs.lemmas.Bool.Decides.{nat_tests}
use Rattle.sval_script.proofs.NumbersRead.{no_size_read, zero_read, size_read, no_natural_read, natural_read, short_is_other}
use Rattle.sval_script.proofs.number.integer.Goals as goal
use Rattle.sval_script.proofs.number.integer.Goals.{in_default-via-then-field-lt1, in_default-via-else-field-lt1+in_default-1}

fewer : 2 ^ 63 < 2 ^ 64
fewer = omega arith

pub returns-in_err-size-in-45 : goal.returns-in_err-size-in-45
returns-in_err-size-in-45 c =
    let field = c.args.field.now in
    let minus : get_or field 0 0 ≡ 45 = search rules in
    rw c.from_residual.ensures (sym (no_size_read 63 64 field (take (length field - 1) (drop 1 field)) c.natural.result minus refl c.natural.ensures fewer c.in_err-size-in-45.was))

pub returns-in-0 : goal.returns-in-0
returns-in-0 c =
    let field = c.args.field.now in
    let minus : get_or field 0 0 ≡ 45 = search rules in
    let same : c.in_ok-size-in-45.size ≡ 0 = omega arith in
    sym (zero_read 63 64 field (take (length field - 1) (drop 1 field)) c.natural.result minus refl c.natural.ensures fewer (c.in_ok-size-in-45.was ∙ ap Some same))

pub returns-in_default-2 : goal.returns-in_default-2
returns-in_default-2 c =
    let field = c.args.field.now in
    let minus : get_or field 0 0 ≡ 45 = search rules in
    let other : c.in_ok-size-in-45.size ≢ 0 = omega arith in
    size_read w64 64 field (take (length field - 1) (drop 1 field)) c.natural.result c.in_ok-size-in-45.size c.checked_sub_unsigned.result minus refl c.natural.ensures fewer c.in_ok-size-in-45.was other c.checked_sub_unsigned.ensures

pub returns-in_err-natural-in_default : goal.returns-in_err-natural-in_default
returns-in_err-natural-in_default c =
    let field = c.args.field.now in
    let other : get_or field 0 0 ≢ 45 = elim c.in_default.branch [ in_default-via-then-field-lt1 w ↦ short_is_other field (grind (arith, nat_tests)) | in_default-via-else-field-lt1+in_default-1 w ↦ search rules ] in
    rw c.from_residual-in_err-natural-in_default.ensures (sym (no_natural_read 63 64 field c.natural-in_default.result other c.natural-in_default.ensures fewer c.in_err-natural-in_default.was))

pub returns-in_ok-natural-in_default : goal.returns-in_ok-natural-in_default
returns-in_ok-natural-in_default c =
    let field = c.args.field.now in
    let other : get_or field 0 0 ≢ 45 = elim c.in_default.branch [ in_default-via-then-field-lt1 w ↦ short_is_other field (grind (arith, nat_tests)) | in_default-via-else-field-lt1+in_default-1 w ↦ search rules ] in
    natural_read w64 64 field c.natural-in_default.result c.in_ok-natural-in_default.field-0 c.try_from.result c.ok.result other c.natural-in_default.ensures fewer c.in_ok-natural-in_default.was c.try_from.ensures c.ok.ensures.value
