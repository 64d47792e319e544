-- What an error says.
use Rattle.std.specs.Prelude.{ℕ, List, ◌++◌, codes}
use Rattle.std.specs.Fmt.{decimal}
use Rattle.sval_filter.specs.declared.paths.PathError.{PathError}
use Rattle.sval_filter.specs.declared.paths.PathError.TheVariants as path
use Rattle.sval_filter.specs.declared.pruning.PruneError.{PruneError}
use Rattle.sval_filter.specs.declared.pruning.PruneError.TheVariants as prune

-- the text of an error on a path
abbrev pub path_error_text : PathError → List ℕ
path_error_text path.NoPath = codes "there is no path for a label"
path_error_text path.BadWord = codes "a label between dots is empty"
path_error_text path.NoMemory = codes "cannot allocate for a path"

-- the text of an error of pruning
abbrev pub prune_error_text : PruneError → List ℕ
prune_error_text (prune.BadCall at) = codes "no value goes on with call " ++ decimal at
prune_error_text prune.Unfinished = codes "the calls end before the value is whole"
prune_error_text prune.Refused = codes "the value refused"
prune_error_text prune.NoMemory = codes "cannot allocate for a pruned value"
