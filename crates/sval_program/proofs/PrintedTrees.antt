-- What printing a captured tree leaves of a sink.
use Rattle.std.specs.Prelude.{◌≡◌, List, [], ◌∷◌, ◌++◌}
use Rattle.std.proofs.Common.{◌∙◌, sym, ap, subst}
use Rattle.sval_label.specs.Calls.{Call}
use Rattle.sval_core.specs.ExactCalls.{AreExact}
use Rattle.sval_core.specs.Real.{IsPrintable}
use Rattle.sval_core.specs.Spells.{Spells}
use Rattle.sval_core.specs.Trees.{Tree}
use Rattle.sval_core.specs.Law.{Emission}
use Rattle.sval_io.specs.Sinks.{Told, LacksRoom, Appends, AppendsFront, AppendsPart, WritesWhole}
use Rattle.sval_io.proofs.Appending.{front_after, part_after, appends_nothing}
use Rattle.sval_buffer.specs.Capture.{Capture}
use Rattle.sval_buffer.specs.CapturedValues.{IsCaptured, KeepsTree}
use Rattle.sval_buffer.specs.Forest.{replayed}
use Rattle.sval_buffer.proofs.ExactReplay.{replay_exact}
use Rattle.sval_script.specs.Canon.{canon}
use Rattle.sval_script.specs.Printed.{canonical_calls, printed}
use Rattle.sval_script.specs.Printing.{HasKnownTags}
use Rattle.sval_script.specs.PrintedValues.{HaveKnownTags, ArePrinted, AreBegun, AreCut, AreTooLongFor, EndsUnknown}
use Rattle.sval_script.proofs.CanonicalScripts.{printed-append}
use Rattle.sval_script.proofs.ExactCalls.{exact_print_canon}
use Rattle.sval_script.proofs.KnownTags.{exact_known}
use Rattle.sval_program.proofs.Growing.{lacks_more}

-- the canonical calls of a captured tree's replay
abbrev pub shown : Capture → List Call
shown capture = canonical_calls (replayed capture.forest)

known_at : (front : List Call) (call : Call) (later : List Call) → HaveKnownTags (front ++ (call ∷ later)) → HasKnownTags call
known_at [] call later h = h.0
known_at (first ∷ front) call later h = known_at front call later h.1

module _ (e : Emission) (tree : Tree) (capture : Capture) (s : Spells e.calls tree) (p : IsPrintable tree) (taken : IsCaptured e capture) (keeps : KeepsTree e capture.forest) where
  exact : AreExact (replayed capture.forest)
  exact = replay_exact e.calls capture.forest taken.taken

  spells : Spells (replayed capture.forest) tree
  spells = (keeps tree s).spells

  lines_are : printed (shown capture) ≡ canon tree
  lines_are = exact_print_canon (replayed capture.forest) tree spells exact

  known : HaveKnownTags (shown capture)
  known = exact_known (replayed capture.forest) tree spells p exact

  pub prints_tree : {old new : Told} → ArePrinted (shown capture) old new → WritesWhole old (canon tree) new
  prints_tree {old} {new} printed_all = record { appends = subst (λ bytes. Appends old bytes new) lines_are printed_all.appends; steady = printed_all.steady }

  begins_canon : (front later : List Call) → shown capture ≡ front ++ later → canon tree ≡ printed front ++ printed later
  begins_canon front later are = sym lines_are ∙ ap printed are ∙ printed-append front later

  pub begins_script : {old new : Told} → AreBegun (shown capture) old new → AppendsFront old (canon tree) new
  begins_script {old} {new} begun =
      front_after [] (printed begun.front) (printed begun.begins.later) (appends_nothing old) (begins_canon begun.front begun.begins.later begun.begins.are) begun.appends

  pub cuts_script : {old new : Told} → AreCut (shown capture) old new → AppendsPart old (canon tree) new
  cuts_script {old} {new} cut =
      part_after [] (printed cut.front) (printed cut.begins.later) (appends_nothing old) (begins_canon cut.front cut.begins.later cut.begins.are) cut.appends

  pub lacks_script : {old : Told} → AreTooLongFor (shown capture) old → LacksRoom old (canon tree)
  lacks_script {old} long =
      subst (LacksRoom old) (sym (begins_canon long.front long.begins.later long.begins.are)) (lacks_more old (printed long.front) (printed long.begins.later) long.lacks)

  -- no tag is unknown
  pub all_are_known : {old new : Told} → EndsUnknown (shown capture) old new → ⊥
  all_are_known u = u.unknown (known_at u.front u.call u.later (subst HaveKnownTags u.are known))
