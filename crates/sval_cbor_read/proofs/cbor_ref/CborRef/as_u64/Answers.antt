use Rattle.std.proofs.Common.{sym, ap, ◌∙◌}
use Rattle.sval_cbor_read.specs.CborLookups.{cbor_unsigned_of}
use Rattle.sval_cbor_read.specs.SeenFound.{level_behind}
use Rattle.sval_cbor_read.proofs.CborFound.{no_natural}
use Rattle.sval_cbor_read.proofs.cbor_ref.CborRef.as_u64.Goals as goal

pub returns-in_default : goal.returns-in_default
returns-in_default c =
    sym (no_natural 64 c.first_found.result (level_behind c.self.inside.bytes.now c.self.inside.nodes.now) c.in_default.not-Unsigned) ∙ ap (cbor_unsigned_of 64) (sym c.first_found.ensures ∙ c.self.view_is)
