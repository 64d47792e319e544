use Rattle.sval_json.specs.Actions.{set_named, set_empty}
use Rattle.std.proofs.Common.{false}
use Rattle.sval_json.proofs.Combined.{does_from}
use Rattle.sval_json.proofs.writer.JsonWriter.write_name.Goals as goal

pub returns : goal.returns
returns g c = does_from _ (set_named false) c.write_own.result _ _ (does_from _ (set_empty false) c.write_own.result _ _ c.write_own.ensures)
