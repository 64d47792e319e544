use Rattle.sval_whole.proofs.StructsShaped.{records, structs, unit_structs, newtypes, tuple_structs, unit_variants, value_variants, tuple_variants, struct_variants}
use Rattle.sval_whole.proofs.laws.struct_json_laws.Goals as goal

pub returns-clause-records : goal.returns-clause-records
returns-clause-records c = records

pub returns-clause-structs : goal.returns-clause-structs
returns-clause-structs c = structs

pub returns-clause-unit_structs : goal.returns-clause-unit_structs
returns-clause-unit_structs c = unit_structs

pub returns-clause-newtypes : goal.returns-clause-newtypes
returns-clause-newtypes c = newtypes

pub returns-clause-tuple_structs : goal.returns-clause-tuple_structs
returns-clause-tuple_structs c = tuple_structs

pub returns-clause-unit_variants : goal.returns-clause-unit_variants
returns-clause-unit_variants c = unit_variants

pub returns-clause-value_variants : goal.returns-clause-value_variants
returns-clause-value_variants c = value_variants

pub returns-clause-tuple_variants : goal.returns-clause-tuple_variants
returns-clause-tuple_variants c = tuple_variants

pub returns-clause-struct_variants : goal.returns-clause-struct_variants
returns-clause-struct_variants c = struct_variants
