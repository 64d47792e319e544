use Rattle.std.specs.Option.{is_some}
use Rattle.sval_program.proofs.program.run_streams.Given as goal

-- the output that is lent, and whether the streams tell their bytes
abbrev pub ghosts-run_watched : goal.ghosts-run_watched
ghosts-run_watched g a = record { writer = a.stdout.ghost_name; tells = is_some (g.W.Write.contents a.stdout.now); tells_left = is_some (g.R.Read.remaining a.stdin) }
