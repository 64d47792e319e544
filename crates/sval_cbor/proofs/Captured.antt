-- The replay of captured calls has whole texts, so what is captured of a spelling is written as what its tree packs to.
use Rattle.std.specs.Prelude.{◌≡◌, List, [], ◌∷◌, ◌++◌, Some, IsTrue, refl}
use Rattle.std.proofs.Common.{sym, ap, ◌∙◌, subst, append_assoc}
use Rattle.sval_label.specs.Calls.{Call}
use Rattle.sval_label.specs.Calls as calls
use Rattle.sval_core.specs.Trees.{Tree}
use Rattle.sval_core.specs.Spells.{Spells}
use Rattle.sval_buffer.specs.Forest.{Node, Nodes, Forest, empty_forest, Holds, forest, end_of, node_calls, row_calls, spine_calls, null_for_none, replayed}
use Rattle.sval_buffer.specs.Laws.{IsCapturedAs}
use Rattle.sval_buffer.proofs.Recapture.{is_single, is_begin, IsMade, single, text, binary, container, AreMade, no_nodes, more_made, IsMadeForest, IfHeld, captured-made}
use Rattle.sval_buffer.proofs.SameTree.{capture_keeps}
use Rattle.sval_cbor.specs.declared.style.Style.{Style}
use Rattle.sval_cbor.specs.Packs.{map_packed, pack_as}
use Rattle.sval_cbor.specs.Cbor.{cbor_as}
use Rattle.sval_cbor.specs.Writing.{NoText, fragment_progress, are_whole, HaveWholeTexts, written_as}
use Rattle.sval_cbor.proofs.WritingTrees.{spelling_written}

-- ---- calls that stand outside texts

single_outside : (call : Call) → IsTrue (is_single call) → fragment_progress NoText call ≡ Some NoText
single_outside calls.Null h = refl
single_outside (calls.Truth b) h = refl
single_outside (calls.Int type z) h = refl
single_outside (calls.Standalone name) h = refl
single_outside (calls.TagHint tag) h = refl
single_outside other h = cc

begin_outside : (call : Call) → IsTrue (is_begin call) → fragment_progress NoText call ≡ Some NoText
begin_outside (calls.EnumBegin name) h = refl
begin_outside (calls.TaggedBegin name) h = refl
begin_outside (calls.Begin head size) h = refl
begin_outside (calls.PartBegin slot) h = refl
begin_outside other h = cc

end_outside : (call : Call) → IsTrue (is_begin call) → fragment_progress NoText (end_of call) ≡ Some NoText
end_outside (calls.EnumBegin name) h = refl
end_outside (calls.TaggedBegin name) h = refl
end_outside (calls.Begin head size) h = refl
end_outside (calls.PartBegin slot) h = refl
end_outside other h = cc

passed : (call : Call) (rest : List Call) → fragment_progress NoText call ≡ Some NoText → HaveWholeTexts rest → HaveWholeTexts (call ∷ rest)
passed call rest e h = ap (λ o. are_whole o rest) e ∙ h

mutual
  node_whole : {node : Node} → IsMade node → (rest : List Call) → HaveWholeTexts rest → HaveWholeTexts (node_calls node ++ rest)
  node_whole (single {call = call} s) rest h = passed call rest (single_outside call s) h
  node_whole text rest h = h
  node_whole binary rest h = h
  node_whole (container {begin = begin} {nodes = nodes} b made) rest h =
      subst (λ x. HaveWholeTexts (begin ∷ x)) (sym (append_assoc (row_calls nodes) (end_of begin ∷ []) rest))
      (passed begin (row_calls nodes ++ end_of begin ∷ rest) (begin_outside begin b) (row_whole made (end_of begin ∷ rest) (passed (end_of begin) rest (end_outside begin b) h)))

  row_whole : {nodes : Nodes} → AreMade nodes → (rest : List Call) → HaveWholeTexts rest → HaveWholeTexts (row_calls nodes ++ rest)
  row_whole no_nodes rest h = h
  row_whole (more_made {nodes = nodes} {node = node} made last) rest h =
      subst HaveWholeTexts (sym (append_assoc (row_calls nodes) (node_calls node) rest)) (row_whole made (node_calls node ++ rest) (node_whole last rest h))

-- ---- captured calls

null_whole : (calls : List Call) → HaveWholeTexts calls → HaveWholeTexts (null_for_none calls)
null_whole [] h = refl
null_whole (call ∷ calls) h = h

same_forest : {f g : Forest} → Holds f ≡ Holds g → f ≡ g
same_forest e = cc e

replay_whole : (f : Forest) → AreMade f.nodes → f.spine ≡ [] → HaveWholeTexts (replayed f)
replay_whole f made e = subst (λ o. HaveWholeTexts (null_for_none (row_calls f.nodes ++ spine_calls o))) (sym e) (null_whole (row_calls f.nodes ++ []) (row_whole made [] refl))

pub captured_is_written : (style : Style) (calls : List Call) (tree : Tree) (f : Forest) → Spells calls tree → forest calls ≡ Holds f → written_as style (replayed f) ≡ map_packed (cbor_as style.lengths) (pack_as style tree)
captured_is_written style calls tree f s e =
    let (g, captured) = capture_keeps calls tree s in
    let same : g ≡ f = same_forest (sym captured.taken ∙ e) in
    let made : IsMadeForest f = subst IfHeld e (captured-made empty_forest 1 calls (record { nodes = no_nodes; spine = tt })) in
    let kept : IsCapturedAs calls tree f = subst (IsCapturedAs calls tree) same captured in
    spelling_written style (replayed f) tree kept.spells (replay_whole f made.nodes kept.no_spine)
