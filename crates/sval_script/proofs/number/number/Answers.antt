use Rattle.std.proofs.Common.{arith, refl, sym, ap, ◌∙◌, option_map}
use Rattle.std.specs.Prelude.{◌≤◌, ◌^◌, pos}
use Rattle.std.specs.Int.{w8, w16, w32, w64, w128}
use Rattle.sval_script.proofs.NumbersRead.{no_number_read, own_number_read, tried_number_read, no_integer_read, tried_integer_read, as_bits}
use Rattle.sval_script.proofs.number.number.Goals as goal

fits_u8 : 2 ^ 8 ≤ 2 ^ 64
fits_u8 = omega arith

fits_u16 : 2 ^ 16 ≤ 2 ^ 64
fits_u16 = omega arith

fits_u32 : 2 ^ 32 ≤ 2 ^ 64
fits_u32 = omega arith

fits_u64 : 2 ^ 64 ≤ 2 ^ 64
fits_u64 = omega arith

fits_u128 : 2 ^ 128 ≤ 2 ^ 128
fits_u128 = omega arith

fits_i8 : 2 ^ 7 ≤ 2 ^ 63
fits_i8 = omega arith

fits_i16 : 2 ^ 15 ≤ 2 ^ 63
fits_i16 = omega arith

fits_i32 : 2 ^ 31 ≤ 2 ^ 63
fits_i32 = omega arith

pub returns-in_err-natural-in-U8-clause-number : goal.returns-in_err-natural-in-U8-clause-number
returns-in_err-natural-in-U8-clause-number c = rw (c.in-U8.is, c.from_residual.ensures) (sym (no_number_read 8 64 c.args.field.now c.natural.result fits_u8 c.natural.ensures c.in_err-natural-in-U8.was))

pub returns-in_err-ok-in-U8-clause-number : goal.returns-in_err-ok-in-U8-clause-number
returns-in_err-ok-in-U8-clause-number c =
    rw (c.in-U8.is, c.from_residual-in_err-ok-in-U8.ensures) (sym (tried_number_read 8 64 c.args.field.now c.natural.result c.in_ok-natural-in-U8.field-0 c.try_from.result c.ok.result fits_u8 c.natural.ensures c.in_ok-natural-in-U8.was c.try_from.ensures c.ok.ensures.value ∙ ap (option_map pos) c.in_err-ok-in-U8.was))

pub returns-in_ok-ok-in-U8-clause-number : goal.returns-in_ok-ok-in-U8-clause-number
returns-in_ok-ok-in-U8-clause-number c =
    rw c.in-U8.is (sym (tried_number_read 8 64 c.args.field.now c.natural.result c.in_ok-natural-in-U8.field-0 c.try_from.result c.ok.result fits_u8 c.natural.ensures c.in_ok-natural-in-U8.was c.try_from.ensures c.ok.ensures.value ∙ ap (option_map pos) c.in_ok-ok-in-U8.was))

pub returns-in_err-natural-in-U16-clause-number : goal.returns-in_err-natural-in-U16-clause-number
returns-in_err-natural-in-U16-clause-number c = rw (c.in-U16.is, c.from_residual-in_err-natural-in-U16.ensures) (sym (no_number_read 16 64 c.args.field.now c.natural-in-U16.result fits_u16 c.natural-in-U16.ensures c.in_err-natural-in-U16.was))

pub returns-in_err-ok-in-U16-clause-number : goal.returns-in_err-ok-in-U16-clause-number
returns-in_err-ok-in-U16-clause-number c =
    rw (c.in-U16.is, c.from_residual-in_err-ok-in-U16.ensures) (sym (tried_number_read 16 64 c.args.field.now c.natural-in-U16.result c.in_ok-natural-in-U16.field-0 c.try_from-in-U16.result c.ok-in-U16.result fits_u16 c.natural-in-U16.ensures c.in_ok-natural-in-U16.was c.try_from-in-U16.ensures c.ok-in-U16.ensures.value ∙ ap (option_map pos) c.in_err-ok-in-U16.was))

pub returns-in_ok-ok-in-U16-clause-number : goal.returns-in_ok-ok-in-U16-clause-number
returns-in_ok-ok-in-U16-clause-number c =
    rw c.in-U16.is (sym (tried_number_read 16 64 c.args.field.now c.natural-in-U16.result c.in_ok-natural-in-U16.field-0 c.try_from-in-U16.result c.ok-in-U16.result fits_u16 c.natural-in-U16.ensures c.in_ok-natural-in-U16.was c.try_from-in-U16.ensures c.ok-in-U16.ensures.value ∙ ap (option_map pos) c.in_ok-ok-in-U16.was))

pub returns-in_err-natural-in-U32-clause-number : goal.returns-in_err-natural-in-U32-clause-number
returns-in_err-natural-in-U32-clause-number c = rw (c.in-U32.is, c.from_residual-in_err-natural-in-U32.ensures) (sym (no_number_read 32 64 c.args.field.now c.natural-in-U32.result fits_u32 c.natural-in-U32.ensures c.in_err-natural-in-U32.was))

pub returns-in_err-ok-in-U32-clause-number : goal.returns-in_err-ok-in-U32-clause-number
returns-in_err-ok-in-U32-clause-number c =
    rw (c.in-U32.is, c.from_residual-in_err-ok-in-U32.ensures) (sym (tried_number_read 32 64 c.args.field.now c.natural-in-U32.result c.in_ok-natural-in-U32.field-0 c.try_from-in-U32.result c.ok-in-U32.result fits_u32 c.natural-in-U32.ensures c.in_ok-natural-in-U32.was c.try_from-in-U32.ensures c.ok-in-U32.ensures.value ∙ ap (option_map pos) c.in_err-ok-in-U32.was))

pub returns-in_ok-ok-in-U32-clause-number : goal.returns-in_ok-ok-in-U32-clause-number
returns-in_ok-ok-in-U32-clause-number c =
    rw c.in-U32.is (sym (tried_number_read 32 64 c.args.field.now c.natural-in-U32.result c.in_ok-natural-in-U32.field-0 c.try_from-in-U32.result c.ok-in-U32.result fits_u32 c.natural-in-U32.ensures c.in_ok-natural-in-U32.was c.try_from-in-U32.ensures c.ok-in-U32.ensures.value ∙ ap (option_map pos) c.in_ok-ok-in-U32.was))

pub returns-in_err-natural-in-U64-clause-number : goal.returns-in_err-natural-in-U64-clause-number
returns-in_err-natural-in-U64-clause-number c = rw (c.in-U64.is, c.from_residual-in_err-natural-in-U64.ensures) (sym (no_number_read 64 64 c.args.field.now c.natural-in-U64.result fits_u64 c.natural-in-U64.ensures c.in_err-natural-in-U64.was))

pub returns-in_ok-natural-in-U64-clause-number : goal.returns-in_ok-natural-in-U64-clause-number
returns-in_ok-natural-in-U64-clause-number c = rw c.in-U64.is (sym (own_number_read 64 c.args.field.now c.natural-in-U64.result c.in_ok-natural-in-U64.field-0 c.natural-in-U64.ensures c.in_ok-natural-in-U64.was))

pub returns-in_err-natural_128-in-U128-clause-number : goal.returns-in_err-natural_128-in-U128-clause-number
returns-in_err-natural_128-in-U128-clause-number c = rw (c.in-U128.is, c.from_residual-in_err-natural_128-in-U128.ensures) (sym (no_number_read 128 128 c.args.field.now c.natural_128.result fits_u128 c.natural_128.ensures c.in_err-natural_128-in-U128.was))

pub returns-in_ok-natural_128-in-U128-clause-number : goal.returns-in_ok-natural_128-in-U128-clause-number
returns-in_ok-natural_128-in-U128-clause-number c = rw c.in-U128.is (sym (own_number_read 128 c.args.field.now c.natural_128.result c.in_ok-natural_128-in-U128.field-0 c.natural_128.ensures c.in_ok-natural_128-in-U128.was))

pub returns-in_err-integer-in-I8-clause-number : goal.returns-in_err-integer-in-I8-clause-number
returns-in_err-integer-in-I8-clause-number c = rw (c.in-I8.is, c.from_residual-in_err-integer-in-I8.ensures) (sym (no_integer_read 7 63 c.args.field.now c.integer.result fits_i8 c.integer.ensures c.in_err-integer-in-I8.was))

pub returns-in_err-ok-in-I8-clause-number : goal.returns-in_err-ok-in-I8-clause-number
returns-in_err-ok-in-I8-clause-number c =
    rw (c.in-I8.is, c.from_residual-in_err-ok-in-I8.ensures) (sym (tried_integer_read w8 c.args.field.now c.integer.result c.in_ok-integer-in-I8.field-0 c.try_from-in-I8.result c.ok-in-I8.result fits_i8 c.integer.ensures c.in_ok-integer-in-I8.was c.try_from-in-I8.ensures c.ok-in-I8.ensures.value ∙ c.in_err-ok-in-I8.was))

pub returns-in_err-integer-in-I16-clause-number : goal.returns-in_err-integer-in-I16-clause-number
returns-in_err-integer-in-I16-clause-number c = rw (c.in-I16.is, c.from_residual-in_err-integer-in-I16.ensures) (sym (no_integer_read 15 63 c.args.field.now c.integer-in-I16.result fits_i16 c.integer-in-I16.ensures c.in_err-integer-in-I16.was))

pub returns-in_err-ok-in-I16-clause-number : goal.returns-in_err-ok-in-I16-clause-number
returns-in_err-ok-in-I16-clause-number c =
    rw (c.in-I16.is, c.from_residual-in_err-ok-in-I16.ensures) (sym (tried_integer_read w16 c.args.field.now c.integer-in-I16.result c.in_ok-integer-in-I16.field-0 c.try_from-in-I16.result c.ok-in-I16.result fits_i16 c.integer-in-I16.ensures c.in_ok-integer-in-I16.was c.try_from-in-I16.ensures c.ok-in-I16.ensures.value ∙ c.in_err-ok-in-I16.was))

pub returns-in_err-integer-in-I32-clause-number : goal.returns-in_err-integer-in-I32-clause-number
returns-in_err-integer-in-I32-clause-number c = rw (c.in-I32.is, c.from_residual-in_err-integer-in-I32.ensures) (sym (no_integer_read 31 63 c.args.field.now c.integer-in-I32.result fits_i32 c.integer-in-I32.ensures c.in_err-integer-in-I32.was))

pub returns-in_err-ok-in-I32-clause-number : goal.returns-in_err-ok-in-I32-clause-number
returns-in_err-ok-in-I32-clause-number c =
    rw (c.in-I32.is, c.from_residual-in_err-ok-in-I32.ensures) (sym (tried_integer_read w32 c.args.field.now c.integer-in-I32.result c.in_ok-integer-in-I32.field-0 c.try_from-in-I32.result c.ok-in-I32.result fits_i32 c.integer-in-I32.ensures c.in_ok-integer-in-I32.was c.try_from-in-I32.ensures c.ok-in-I32.ensures.value ∙ c.in_err-ok-in-I32.was))

pub returns-in_err-integer-in-I64-clause-number : goal.returns-in_err-integer-in-I64-clause-number
returns-in_err-integer-in-I64-clause-number c = rw (c.in-I64.is, c.from_residual-in_err-integer-in-I64.ensures) (sym (sym c.integer-in-I64.ensures ∙ c.in_err-integer-in-I64.was))

pub returns-in_err-integer_128-in-I128-clause-number : goal.returns-in_err-integer_128-in-I128-clause-number
returns-in_err-integer_128-in-I128-clause-number c = rw (c.in-I128.is, c.from_residual-in_err-integer_128-in-I128.ensures) (sym (sym c.integer_128.ensures ∙ c.in_err-integer_128-in-I128.was))

pub returns-in_err-natural-in-U8-clause-of_type : goal.returns-in_err-natural-in-U8-clause-of_type
returns-in_err-natural-in-U8-clause-of_type c = rw c.from_residual.ensures tt

pub returns-in_err-ok-in-U8-clause-of_type : goal.returns-in_err-ok-in-U8-clause-of_type
returns-in_err-ok-in-U8-clause-of_type c = rw c.from_residual-in_err-ok-in-U8.ensures tt

pub returns-in_ok-ok-in-U8-clause-of_type : goal.returns-in_ok-ok-in-U8-clause-of_type
returns-in_ok-ok-in-U8-clause-of_type c = rw c.in-U8.is refl

pub returns-in_err-natural-in-U16-clause-of_type : goal.returns-in_err-natural-in-U16-clause-of_type
returns-in_err-natural-in-U16-clause-of_type c = rw c.from_residual-in_err-natural-in-U16.ensures tt

pub returns-in_err-ok-in-U16-clause-of_type : goal.returns-in_err-ok-in-U16-clause-of_type
returns-in_err-ok-in-U16-clause-of_type c = rw c.from_residual-in_err-ok-in-U16.ensures tt

pub returns-in_ok-ok-in-U16-clause-of_type : goal.returns-in_ok-ok-in-U16-clause-of_type
returns-in_ok-ok-in-U16-clause-of_type c = rw c.in-U16.is refl

pub returns-in_err-natural-in-U32-clause-of_type : goal.returns-in_err-natural-in-U32-clause-of_type
returns-in_err-natural-in-U32-clause-of_type c = rw c.from_residual-in_err-natural-in-U32.ensures tt

pub returns-in_err-ok-in-U32-clause-of_type : goal.returns-in_err-ok-in-U32-clause-of_type
returns-in_err-ok-in-U32-clause-of_type c = rw c.from_residual-in_err-ok-in-U32.ensures tt

pub returns-in_ok-ok-in-U32-clause-of_type : goal.returns-in_ok-ok-in-U32-clause-of_type
returns-in_ok-ok-in-U32-clause-of_type c = rw c.in-U32.is refl

pub returns-in_err-natural-in-U64-clause-of_type : goal.returns-in_err-natural-in-U64-clause-of_type
returns-in_err-natural-in-U64-clause-of_type c = rw c.from_residual-in_err-natural-in-U64.ensures tt

pub returns-in_ok-natural-in-U64-clause-of_type : goal.returns-in_ok-natural-in-U64-clause-of_type
returns-in_ok-natural-in-U64-clause-of_type c = rw c.in-U64.is refl

pub returns-in_err-natural_128-in-U128-clause-of_type : goal.returns-in_err-natural_128-in-U128-clause-of_type
returns-in_err-natural_128-in-U128-clause-of_type c = rw c.from_residual-in_err-natural_128-in-U128.ensures tt

pub returns-in_ok-natural_128-in-U128-clause-of_type : goal.returns-in_ok-natural_128-in-U128-clause-of_type
returns-in_ok-natural_128-in-U128-clause-of_type c = rw c.in-U128.is refl

pub returns-in_err-integer-in-I64-clause-of_type : goal.returns-in_err-integer-in-I64-clause-of_type
returns-in_err-integer-in-I64-clause-of_type c = rw c.from_residual-in_err-integer-in-I64.ensures tt

pub returns-in_ok-integer-in-I64-clause-of_type : goal.returns-in_ok-integer-in-I64-clause-of_type
returns-in_ok-integer-in-I64-clause-of_type c = rw c.in-I64.is refl

pub returns-in_err-integer_128-in-I128-clause-of_type : goal.returns-in_err-integer_128-in-I128-clause-of_type
returns-in_err-integer_128-in-I128-clause-of_type c = rw c.from_residual-in_err-integer_128-in-I128.ensures tt

pub returns-in_ok-integer_128-in-I128-clause-of_type : goal.returns-in_ok-integer_128-in-I128-clause-of_type
returns-in_ok-integer_128-in-I128-clause-of_type c = rw c.in-I128.is refl

pub returns-in_ok-ok-in-I8-clause-number : goal.returns-in_ok-ok-in-I8-clause-number
returns-in_ok-ok-in-I8-clause-number c = rw c.in-I8.is (sym (as_bits w8 c.args.field.now c.in_ok-ok-in-I8.field-0 (tried_integer_read w8 c.args.field.now c.integer.result c.in_ok-integer-in-I8.field-0 c.try_from-in-I8.result c.ok-in-I8.result fits_i8 c.integer.ensures c.in_ok-integer-in-I8.was c.try_from-in-I8.ensures c.ok-in-I8.ensures.value ∙ c.in_ok-ok-in-I8.was)))

pub returns-in_err-integer-in-I8-clause-of_type : goal.returns-in_err-integer-in-I8-clause-of_type
returns-in_err-integer-in-I8-clause-of_type c = rw c.from_residual-in_err-integer-in-I8.ensures tt

pub returns-in_err-ok-in-I8-clause-of_type : goal.returns-in_err-ok-in-I8-clause-of_type
returns-in_err-ok-in-I8-clause-of_type c = rw c.from_residual-in_err-ok-in-I8.ensures tt

pub returns-in_ok-ok-in-I8-clause-of_type : goal.returns-in_ok-ok-in-I8-clause-of_type
returns-in_ok-ok-in-I8-clause-of_type c = rw c.in-I8.is refl

pub returns-in_ok-ok-in-I16-clause-number : goal.returns-in_ok-ok-in-I16-clause-number
returns-in_ok-ok-in-I16-clause-number c = rw c.in-I16.is (sym (as_bits w16 c.args.field.now c.in_ok-ok-in-I16.field-0 (tried_integer_read w16 c.args.field.now c.integer-in-I16.result c.in_ok-integer-in-I16.field-0 c.try_from-in-I16.result c.ok-in-I16.result fits_i16 c.integer-in-I16.ensures c.in_ok-integer-in-I16.was c.try_from-in-I16.ensures c.ok-in-I16.ensures.value ∙ c.in_ok-ok-in-I16.was)))

pub returns-in_err-integer-in-I16-clause-of_type : goal.returns-in_err-integer-in-I16-clause-of_type
returns-in_err-integer-in-I16-clause-of_type c = rw c.from_residual-in_err-integer-in-I16.ensures tt

pub returns-in_err-ok-in-I16-clause-of_type : goal.returns-in_err-ok-in-I16-clause-of_type
returns-in_err-ok-in-I16-clause-of_type c = rw c.from_residual-in_err-ok-in-I16.ensures tt

pub returns-in_ok-ok-in-I16-clause-of_type : goal.returns-in_ok-ok-in-I16-clause-of_type
returns-in_ok-ok-in-I16-clause-of_type c = rw c.in-I16.is refl

pub returns-in_ok-ok-in-I32-clause-number : goal.returns-in_ok-ok-in-I32-clause-number
returns-in_ok-ok-in-I32-clause-number c = rw c.in-I32.is (sym (as_bits w32 c.args.field.now c.in_ok-ok-in-I32.field-0 (tried_integer_read w32 c.args.field.now c.integer-in-I32.result c.in_ok-integer-in-I32.field-0 c.try_from-in-I32.result c.ok-in-I32.result fits_i32 c.integer-in-I32.ensures c.in_ok-integer-in-I32.was c.try_from-in-I32.ensures c.ok-in-I32.ensures.value ∙ c.in_ok-ok-in-I32.was)))

pub returns-in_err-integer-in-I32-clause-of_type : goal.returns-in_err-integer-in-I32-clause-of_type
returns-in_err-integer-in-I32-clause-of_type c = rw c.from_residual-in_err-integer-in-I32.ensures tt

pub returns-in_err-ok-in-I32-clause-of_type : goal.returns-in_err-ok-in-I32-clause-of_type
returns-in_err-ok-in-I32-clause-of_type c = rw c.from_residual-in_err-ok-in-I32.ensures tt

pub returns-in_ok-ok-in-I32-clause-of_type : goal.returns-in_ok-ok-in-I32-clause-of_type
returns-in_ok-ok-in-I32-clause-of_type c = rw c.in-I32.is refl

pub returns-in_ok-integer-in-I64-clause-number : goal.returns-in_ok-integer-in-I64-clause-number
returns-in_ok-integer-in-I64-clause-number c = rw c.in-I64.is (sym (as_bits w64 c.args.field.now c.in_ok-integer-in-I64.field-0 (sym c.integer-in-I64.ensures ∙ c.in_ok-integer-in-I64.was)))

pub returns-in_ok-integer_128-in-I128-clause-number : goal.returns-in_ok-integer_128-in-I128-clause-number
returns-in_ok-integer_128-in-I128-clause-number c = rw c.in-I128.is (sym (as_bits w128 c.args.field.now c.in_ok-integer_128-in-I128.field-0 (sym c.integer_128.ensures ∙ c.in_ok-integer_128-in-I128.was)))
