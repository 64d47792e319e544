use Rattle.sval_core.proofs.value_laws.tree_laws.Goals as goal
use Rattle.sval_core.proofs.ToldTrees.{tagged_tells, enums_tell, no_part_tells, part_tells, container_tells, plain_values_tell, seq_tells, array_tells, option_tells, map_tells, tuple_tells}

pub returns-clause-plain_values_tell : goal.returns-clause-plain_values_tell
returns-clause-plain_values_tell g c = plain_values_tell

pub returns-clause-tagged_tells : goal.returns-clause-tagged_tells
returns-clause-tagged_tells g c = tagged_tells

pub returns-clause-no_part_tells : goal.returns-clause-no_part_tells
returns-clause-no_part_tells g c = no_part_tells

pub returns-clause-part_tells : goal.returns-clause-part_tells
returns-clause-part_tells g c = part_tells

pub returns-clause-container_tells : goal.returns-clause-container_tells
returns-clause-container_tells g c = container_tells

pub returns-clause-sequences_tell : goal.returns-clause-sequences_tell
returns-clause-sequences_tell g c = λ emission t xs all. (seq_tells emission t xs all, array_tells emission t xs all)

pub returns-clause-options_tell : goal.returns-clause-options_tell
returns-clause-options_tell g c = option_tells

pub returns-clause-maps_tell : goal.returns-clause-maps_tell
returns-clause-maps_tell g c = map_tells

pub returns-clause-tuples_tell : goal.returns-clause-tuples_tell
returns-clause-tuples_tell g c = tuple_tells

pub returns-clause-enums_tell : goal.returns-clause-enums_tell
returns-clause-enums_tell g c = enums_tell
