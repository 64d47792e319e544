use Rattle.std.proofs.Common.{sym, ap, ◌∙◌, Some, subst}
use Rattle.sval_cbor_read.specs.CborLookups.{cbor_bytes_of}
use Rattle.sval_cbor_read.specs.SeenNodes.{streamed_items, NodesStand}
use Rattle.sval_cbor_read.specs.SeenFound.{level_behind, binaries_in}
use Rattle.sval_cbor_read.proofs.CborNodes.{stand_behind}
use Rattle.sval_cbor_read.proofs.CborFound.{some_node, no_bytes}
use Rattle.sval_cbor_read.proofs.cbor_ref.CborRef.bytes.Goals as goal

pub chunks-requires : goal.chunks-requires
chunks-requires c = subst (NodesStand c.self.inside.bytes.now) (sym c.behind_first.ensures) (stand_behind c.self.inside.bytes.now c.self.inside.nodes.now 1 c.self.invariant.stand)

pub behind_first-requires : goal.behind_first-requires
behind_first-requires c = some_node c.self.inside.nodes.now c.self.invariant

pub returns-in-ByteChunks : goal.returns-in-ByteChunks
returns-in-ByteChunks c = ap Some (c.chunks.ensures ∙ ap (λ nodes. binaries_in (streamed_items c.self.inside.bytes.now nodes)) c.behind_first.ensures) ∙ ap cbor_bytes_of (sym c.in-ByteChunks.ensures ∙ c.self.view_is)

pub returns-in_default : goal.returns-in_default
returns-in_default c =
    sym (no_bytes c.first_found.result (level_behind c.self.inside.bytes.now c.self.inside.nodes.now) c.in_default.not-Bytes c.in_default.not-ByteChunks) ∙ ap cbor_bytes_of (sym c.first_found.ensures ∙ c.self.view_is)
