use Rattle.sval_json_read.proofs.EscapePlaces.{one_unit}
use Rattle.sval_json_read.proofs.escape.one_unit.Goals as goal

pub scalar-requires : goal.scalar-requires
scalar-requires c =
    record { is_scalar = (one_unit c.args.raw.now c.args.code c.requires.is_raw c.requires.no_short c.requires.code_is c.requires.not_high).is_scalar }
