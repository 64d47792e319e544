use Rattle.std.specs.Prelude.{List}
use Rattle.std.proofs.Common.{subst}
use Rattle.sval_core.specs.Trees.{Tree}
use Rattle.sval_filter.specs.Paths.{Path}
use Rattle.sval_filter.specs.Pruned.{pruned}
use Rattle.sval_filter.specs.declared.paths.Rule.TheVariants.{Drop}
use Rattle.sval_filter.proofs.NothingDropped.{drop_nothing}
use Rattle.sval_json_read.specs.Trees.{tree_of}
use Rattle.sval_tool.specs.PackedDocuments.{WritesPackedTree}
use Rattle.sval_tool.proofs.packed.write_cbor.Goals as goal

pub returns : goal.returns
returns g c = λ input read.
    let told = g.K.Sink.told in
    let tree = tree_of read.value in
    let left = subst (λ (paths : List Path). WritesPackedTree told (pruned Drop paths tree) c.write_left_cbor-2.result c.args.out.now c.write_left_cbor-2.new.out) c.new.ensures (c.write_left_cbor-2.ensures input read) in
    subst (λ (tree : Tree). WritesPackedTree told tree c.write_left_cbor-2.result c.args.out.now c.write_left_cbor-2.new.out) (drop_nothing tree) left
