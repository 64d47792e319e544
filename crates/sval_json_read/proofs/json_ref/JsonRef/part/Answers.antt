use Rattle.sval_json_read.proofs.Parts.{part-is, part-seen, part-spells}
use Rattle.sval_json_read.proofs.json_ref.JsonRef.part.Goals as goal

pub returns : goal.returns
returns c =
    let p = part-is c.self.invariant.is_of c.new.ensures c.self.view_is in
    record { part = p; value = part-seen p; spells = part-spells p }
