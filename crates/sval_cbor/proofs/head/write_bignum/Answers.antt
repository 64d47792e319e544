use Rattle.std.proofs.Common.{◌≡◌, ◌≤◌, List, ℕ, length, ap, ◌∙◌, arith, rules, subst}
use Rattle.sval_io.specs.Sinks.{WritesAll}
use Rattle.sval_cbor.specs.Cbor.{short_bytes, without_zero_bytes}
use Rattle.sval_cbor.proofs.Bignums.{bignum_taken}
use Rattle.sval_cbor.proofs.head.write_bignum.Goals as goal

pub slice_bounds-piece-end : goal.slice_bounds-piece-end
slice_bounds-piece-end g c =
    let all : length c.to_be_bytes-bytes.result ≡ 16 = ap length c.to_be_bytes-bytes.ensures in
    let few : length c.without_zero_bytes-short.result.now ≤ 16 = omega (arith, c.without_zero_bytes-short.ensures.short) in
    search rules

pub returns : goal.returns
unfolding short_bytes
returns g c =
    let all : length c.to_be_bytes-bytes.result ≡ 16 = ap length c.to_be_bytes-bytes.ensures in
    let few : length c.without_zero_bytes-short.result.now ≤ 16 = omega (arith, c.without_zero_bytes-short.ensures.short) in
    let short : c.without_zero_bytes-short.result.now ≡ short_bytes c.args.number = c.without_zero_bytes-short.ensures.bytes ∙ ap without_zero_bytes c.to_be_bytes-bytes.ensures in
    subst (λ (bytes : List ℕ). WritesAll c.write_all.result (g.K.Sink.told c.args.sink.now) bytes (g.K.Sink.told c.write_all.new.sink))
    (bignum_taken c.args.tag c.args.number c.without_zero_bytes-short.result.now c.copy_from_slice.new.self _ c.requires short few c.copy_from_slice.ensures.after)
    c.write_all.ensures.writes
