use Rattle.sval.proofs.ToldStructs.{records_tell, structs_tell, unit_structs_tell, newtypes_tell, tuple_structs_tell, unit_variants_tell, value_variants_tell, tuple_variants_tell, struct_variants_tell}
use Rattle.sval.proofs.laws.struct_laws.Goals as goal

pub returns-clause-records_tell : goal.returns-clause-records_tell
returns-clause-records_tell c = records_tell

pub returns-clause-structs_tell : goal.returns-clause-structs_tell
returns-clause-structs_tell c = structs_tell

pub returns-clause-unit_structs_tell : goal.returns-clause-unit_structs_tell
returns-clause-unit_structs_tell c = unit_structs_tell

pub returns-clause-newtypes_tell : goal.returns-clause-newtypes_tell
returns-clause-newtypes_tell c = newtypes_tell

pub returns-clause-tuple_structs_tell : goal.returns-clause-tuple_structs_tell
returns-clause-tuple_structs_tell c = tuple_structs_tell

pub returns-clause-unit_variants_tell : goal.returns-clause-unit_variants_tell
returns-clause-unit_variants_tell c = unit_variants_tell

pub returns-clause-value_variants_tell : goal.returns-clause-value_variants_tell
returns-clause-value_variants_tell c = value_variants_tell

pub returns-clause-tuple_variants_tell : goal.returns-clause-tuple_variants_tell
returns-clause-tuple_variants_tell c = tuple_variants_tell

pub returns-clause-struct_variants_tell : goal.returns-clause-struct_variants_tell
returns-clause-struct_variants_tell c = struct_variants_tell
