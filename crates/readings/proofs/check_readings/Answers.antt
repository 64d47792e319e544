use Rattle.sval_check.proofs.Told.{told_passes}
use Rattle.readings.proofs.Told.{readings_tell}
use Rattle.readings.proofs.check_readings.Goals as goal

pub returns : goal.returns
returns c = told_passes c.check.result (readings_tell c.args.readings.now.readings.items) c.check.ensures.comes
