-- What a captured value keeps whose texts are copies of its own.
use Rattle.std.specs.Prelude.{◌≡◌, Bool, [], ◌∷◌, List, map, refl}
use Rattle.std.proofs.Common.{sym, ap, ◌∙◌, subst}
use Rattle.sval_core.specs.Trees.{Tree}
use Rattle.sval_core.specs.Spells.{Spells}
use Rattle.sval_core.specs.Law.{Emission}
use Rattle.sval_buffer.specs.Forest.{Nodes, none, ◌and◌, Open, Forest, has_all_ends, replayed}
use Rattle.sval_buffer.specs.Owned.{owned_row, owned_open, owned}
use Rattle.sval_buffer.specs.CapturedValues.{SpellsAgain, KeepsTree}
use Rattle.sval_buffer.proofs.ComputedTree.{computed_spells}
use Rattle.sval_buffer.proofs.OwnedForest.{replay_computed}

ends_owned : (nodes : Nodes) (spine : List Open) (within : Bool) → has_all_ends (owned_row nodes) (map owned_open spine) within ≡ has_all_ends nodes spine within
ends_owned none spine within = refl
ends_owned (nodes and node) [] within = refl
ends_owned (nodes and node) (newest ∷ older) within = refl

spells_again : {f : Forest} {tree : Tree} → SpellsAgain f tree → SpellsAgain (owned f) tree
spells_again {f} {tree} s = record {
  spells = subst (λ calls. Spells calls tree) (sym (replay_computed f)) (computed_spells (replayed f) tree s.spells);
  no_spine = ap (map owned_open) s.no_spine;
  complete = ends_owned f.nodes f.spine f.in_fragments ∙ s.complete;
}

pub owned_keeps_tree : (e : Emission) (f : Forest) → KeepsTree e f → KeepsTree e (owned f)
owned_keeps_tree e f keeps tree spells = spells_again (keeps tree spells)
