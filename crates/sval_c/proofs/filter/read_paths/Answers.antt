use Rattle.std.specs.Prelude.{[]}
use Rattle.std.proofs.Common.{rules}
use Rattle.sval_c.specs.OfFilters.{no_utf8}
use Rattle.sval_c.proofs.filter.read_paths.Goals as goal

pub returns-in-Err : goal.returns-in-Err
returns-in-Err c = ([], no_utf8 (search rules))
