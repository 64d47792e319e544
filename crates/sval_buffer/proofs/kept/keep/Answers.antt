use Rattle.sval_buffer.proofs.KeptNames.{grows_none}
use Rattle.sval_buffer.proofs.kept.keep.Goals as goal
use Rattle.sval_buffer.proofs.kept.keep.Goals.{in-Some+in_ok-keep_label-in-Some, in-None}

pub returns-clause-grows : goal.returns-clause-grows
returns-clause-grows c =
    elim c.match-name.branch [
      | in-Some+in_ok-keep_label-in-Some w ↦ rw w.texts-is w.keep_label.ensures.grows
      | in-None w ↦ rw w.texts-is (grows_none _)
    ]
