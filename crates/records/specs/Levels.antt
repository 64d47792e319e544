-- What an enum without fields emits.
use Rattle.sval_core.specs.Law.{Emission}
use Rattle.sval.specs.Fields.{unit_variant}
use Rattle.records.specs.declared.level.Level.{Level}
use Rattle.records.specs.declared.level.Level.TheVariants as level

-- a level is its name
abbrev pub level_emission : Level → Emission
level_emission level.Debug = unit_variant "Level" "Debug" 0
level_emission level.Info = unit_variant "Level" "Info" 1
level_emission level.Error = unit_variant "Level" "Error" 2
