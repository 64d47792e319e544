use Rattle.sval_core.proofs.name_laws.meeting_laws.Goals as goal
use Rattle.sval_core.proofs.SameNames.{name_decides, head_decides, slot_decides}

pub returns-clause-names_meet : goal.returns-clause-names_meet
returns-clause-names_meet c = name_decides

pub returns-clause-heads_meet : goal.returns-clause-heads_meet
returns-clause-heads_meet c = head_decides

pub returns-clause-slots_meet : goal.returns-clause-slots_meet
returns-clause-slots_meet c = slot_decides
