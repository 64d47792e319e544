use Rattle.sval_core.proofs.ToldTrees.{plain_values_tell}
use Rattle.sval.specs.Seen.{slice_bytes, array_bytes, shown_text}
use Rattle.sval.proofs.Told.{shown_tells, number_tells}
use Rattle.sval.proofs.laws.tree_laws.Goals as goal

pub returns-clause-binary_slices_tell : goal.returns-clause-binary_slices_tell
returns-clause-binary_slices_tell g c = λ binary. plain_values_tell.binary (slice_bytes binary)

pub returns-clause-binary_arrays_tell : goal.returns-clause-binary_arrays_tell
returns-clause-binary_arrays_tell g c = λ n binary. plain_values_tell.binary_array (array_bytes binary)

pub returns-clause-displays_tell : goal.returns-clause-displays_tell
returns-clause-displays_tell g c = λ shown. shown_tells (shown_text shown)

pub returns-clause-shown_texts_tell : goal.returns-clause-shown_texts_tell
returns-clause-shown_texts_tell g c = shown_tells

pub returns-clause-shown_numbers_tell : goal.returns-clause-shown_numbers_tell
returns-clause-shown_numbers_tell g c = number_tells
