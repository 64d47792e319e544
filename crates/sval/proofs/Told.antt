-- The trees that printed texts spell.
use Rattle.std.specs.Prelude.{ℕ, List, [], ◌∷◌, ◌++◌, None, refl}
use Rattle.std.proofs.Common.{append-nil}
use Rattle.sval_label.specs.Calls.{Call}
use Rattle.sval_core.specs.Names.{number_tag, tag_alone}
use Rattle.sval_core.specs.Trees.{Text, Tagged}
use Rattle.sval_core.specs.Values.{makes}
use Rattle.sval_core.specs.ValueTrees.{Tells}
use Rattle.sval.specs.Shown.{shown_calls, number_text_calls}

pub shown_tells : (text : List ℕ) → Tells (makes (shown_calls text)) (Text text)
shown_tells text = record { willing = refl; spells = (tt, (None, text ∷ [], tt, append-nil text, refl)) }

pub number_tells : (text : List ℕ) → Tells (makes (number_text_calls text)) (Tagged (tag_alone number_tag) (Text text))
number_tells text = record {
  willing = refl;
  spells = ((refl, tt, tt), (shown_calls text ++ Call.TaggedEnd (tag_alone number_tag) ∷ [], refl, (None, text ∷ [], tt, append-nil text, refl)));
}
