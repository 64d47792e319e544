use Rattle.std.proofs.Common.{sym, subst}
use Rattle.std.specs.Bool.{Decides}
use Rattle.std.specs.Prelude.{Bool}
use Rattle.sval_core.specs.Spells.{Spells}
use Rattle.sval_core.specs.Trees.{Tree}
use Rattle.sval_core.proofs.StepLaws.{whole_decides}
use Rattle.sval_check.proofs.passing.Passing.is_whole.Goals as goal

pub returns : goal.returns
returns g c calls so_far =
    subst (λ (whole : Bool). Decides whole ((tree : Tree) × Spells calls tree)) (sym c.is_whole.ensures) (whole_decides calls c.args.self.now.machine so_far.keeps)
