-- What a point says.
use Rattle.std.specs.Prelude.{[], ◌∷◌}
use Rattle.sval_core.specs.Law.{Emission}
use Rattle.sval.specs.Structs.{record_emission}
use Rattle.sval.specs.Fields.{field, i64_emission}
use Rattle.assert_tokens.specs.declared.point.Point.{Point}

-- a record of its two coordinates, without a name
abbrev pub unnamed_point_emission : Point → Emission
unnamed_point_emission point = record_emission (
    field "x" (i64_emission point.x) ∷
    field "y" (i64_emission point.y) ∷ [])
