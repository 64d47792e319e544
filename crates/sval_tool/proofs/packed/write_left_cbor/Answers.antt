use Rattle.std.proofs.Common.{◌≡◌, ℕ, List, [], ap, subst, refl}
use Rattle.std.proofs.lemmas.Result.{err_from_is_err_and}
use Rattle.sval_io.specs.Sinks.{WritesWhole, WritesFront}
use Rattle.sval_io.specs.Taken.{Taken}
use Rattle.sval_filter.specs.Pruned.{pruned}
use Rattle.sval_json_read.specs.Trees.{tree_of}
use Rattle.sval_tool.specs.TokenBytes.{tree_bytes}
use Rattle.sval_tool.proofs.PackedWritten.{not_packed, whole_written, part_written}
use Rattle.sval_tool.proofs.packed.write_left_cbor.Goals as goal

pub returns-in-Ok : goal.returns-in-Ok
returns-in-Ok g c = λ input read.
    let told = g.K.Sink.told in
    let empty : c.new-bytes.result.bytes ≡ [] = ap (λ (t : Taken). t.bytes) c.new-bytes.ensures in
    let whole = subst (λ (bytes : List ℕ). WritesWhole (told c.args.out.now) bytes (told c.write_all.new.sink)) c.as_slice.ensures c.in_ok-write_all-in-Ok.ensures.writes in
    whole_written (pruned c.args.rule c.args.paths.now (tree_of read.value)) (tree_bytes (pruned c.args.rule c.args.paths.now (tree_of read.value))) c.new-bytes.result c.put_left.new.out refl (c.in-Ok.ensures input read) empty (told c.args.out.now) (told c.write_all.new.sink) whole

pub returns-in_err-write_all-in-Ok : goal.returns-in_err-write_all-in-Ok
returns-in_err-write_all-in-Ok g c = λ input read.
    let told = g.K.Sink.told in
    let why = c.in_err-write_all-in-Ok.field-0.0 in
    let empty : c.new-bytes.result.bytes ≡ [] = ap (λ (t : Taken). t.bytes) c.new-bytes.ensures in
    let part = subst (λ (bytes : List ℕ). WritesFront why (told c.args.out.now) bytes (told c.write_all.new.sink)) c.as_slice.ensures c.in_err-write_all-in-Ok.ensures.writes in
    let p = err_from_is_err_and c.from_residual.result c.from_residual.ensures.1 in
    rw (p.1, p.2) (part_written (pruned c.args.rule c.args.paths.now (tree_of read.value)) (tree_bytes (pruned c.args.rule c.args.paths.now (tree_of read.value))) c.new-bytes.result c.put_left.new.out refl (c.in-Ok.ensures input read) empty told why c.args.out.now c.write_all.new.sink part)

pub returns-in-Err-NotInteger : goal.returns-in-Err-NotInteger
returns-in-Err-NotInteger g c = λ input read.
    let refused = rw c.in-Err-NotInteger.field-0-is at (c.in-Err-NotInteger.ensures input read) in
    (not_packed (pruned c.args.rule c.args.paths.now (tree_of read.value)) (tree_bytes (pruned c.args.rule c.args.paths.now (tree_of read.value))) refl refused, refl)
