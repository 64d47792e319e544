use Rattle.std.specs.Prelude.{◌≡◌, ℕ, ◌≤◌, true}
use Rattle.std.proofs.Common.{arith}
use Rattle.std.proofs.lemmas.Bool.Decides.{nat_tests}
use Rattle.sval_json.specs.Grammar.{is_high_surrogate, is_low_surrogate}
use Rattle.sval_json_read.proofs.EscapePlaces.{two_units}
use Rattle.sval_json_read.proofs.escape.two_units.Goals as goal

low_bounds : (low : ℕ) → is_low_surrogate low ≡ true → (0xdc00 ≤ low) × (low ≤ 0xdfff)
low_bounds low h = (grind (arith, nat_tests), grind (arith, nat_tests))

high_bounds : (high : ℕ) → is_high_surrogate high ≡ true → (0xd800 ≤ high) × (high ≤ 0xdbff)
high_bounds high h = (grind (arith, nat_tests), grind (arith, nat_tests))

pub overflow_sub-low : goal.overflow_sub-low
overflow_sub-low c =
    let t = two_units c.args.raw.now c.args.high c.unit-low.result c.requires.is_raw c.requires.no_short c.requires.high_is c.requires.is_high c.unit-low.ensures in
    let l = low_bounds c.unit-low.result t.is_low in
    omega (arith, l.0)

pub overflow_add-high-2 : goal.overflow_add-high-2
overflow_add-high-2 c =
    let t = two_units c.args.raw.now c.args.high c.unit-low.result c.requires.is_raw c.requires.no_short c.requires.high_is c.requires.is_high c.unit-low.ensures in
    let l = low_bounds c.unit-low.result t.is_low in
    let h = high_bounds c.args.high c.requires.is_high in
    omega (arith, l.0, l.1, h.0, h.1)

pub scalar-requires : goal.scalar-requires
scalar-requires c =
    let t = two_units c.args.raw.now c.args.high c.unit-low.result c.requires.is_raw c.requires.no_short c.requires.high_is c.requires.is_high c.unit-low.ensures in
    record { is_scalar = t.is_scalar }

pub returns-clause-stands_for : goal.returns-clause-stands_for
returns-clause-stands_for c =
    let t = two_units c.args.raw.now c.args.high c.unit-low.result c.requires.is_raw c.requires.no_short c.requires.high_is c.requires.is_high c.unit-low.ensures in
    rw c.scalar.ensures t.stands_for

pub returns-clause-follow : goal.returns-clause-follow
returns-clause-follow c =
    (two_units c.args.raw.now c.args.high c.unit-low.result c.requires.is_raw c.requires.no_short c.requires.high_is c.requires.is_high c.unit-low.ensures).follow
