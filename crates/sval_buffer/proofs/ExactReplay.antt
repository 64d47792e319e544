-- The calls of a replay are exact: texts and binaries come whole, and ends have the names of their begins.
use Rattle.std.specs.Prelude.{◌≡◌, List, [], ◌∷◌, ◌++◌, refl, IsTrue}
use Rattle.std.proofs.Common.{sym, subst}
use mathlib.Core.List.{append_assoc, append-nil}
use Rattle.sval_label.specs.Calls.{Call, Null, Truth, Int, Standalone, TagHint, EnumBegin, TaggedBegin, Begin, PartBegin}
use Rattle.sval_core.specs.ExactCalls.{AreExactFrom, AreExact}
use Rattle.sval_buffer.specs.Forest.{forest, empty_forest, Node, Nodes, Open, Forest, Holds, end_of, node_calls, row_calls, spine_calls, null_for_none, replayed}
use Rattle.sval_buffer.proofs.Recapture.{is_single, is_begin, IsMade, single, text, binary, container, AreMade, no_nodes, more_made, AreMadeOpen, IsMadeForest, captured-made}

single_exact : (call : Call) (due rest : List Call) → IsTrue (is_single call) → AreExactFrom due rest → AreExactFrom due (call ∷ rest)
single_exact Null due rest s h = h
single_exact (Truth b) due rest s h = h
single_exact (Int type z) due rest s h = h
single_exact (Standalone name) due rest s h = h
single_exact (TagHint tag) due rest s h = h
single_exact other due rest s h = cc s

begin_exact : (begin : Call) (due rest : List Call) → IsTrue (is_begin begin) → AreExactFrom (end_of begin ∷ due) rest → AreExactFrom due (begin ∷ rest)
begin_exact (EnumBegin name) due rest b h = h
begin_exact (TaggedBegin name) due rest b h = h
begin_exact (Begin head size) due rest b h = h
begin_exact (PartBegin slot) due rest b h = h
begin_exact other due rest b h = cc b

end_exact : (begin : Call) (due rest : List Call) → IsTrue (is_begin begin) → AreExactFrom due rest → AreExactFrom (end_of begin ∷ due) (end_of begin ∷ rest)
end_exact (EnumBegin name) due rest b h = (due, refl, h)
end_exact (TaggedBegin name) due rest b h = (due, refl, h)
end_exact (Begin head size) due rest b h = (due, refl, h)
end_exact (PartBegin slot) due rest b h = (due, refl, h)
end_exact other due rest b h = cc b

mutual
  node_exact : {node : Node} (due rest : List Call) → IsMade node → AreExactFrom due rest → AreExactFrom due (node_calls node ++ rest)
  node_exact due rest (single {call = call} s) h = single_exact call due rest s h
  node_exact due rest (text {held = held}) h = (record { borrowed = held.borrowed; bytes = held.bytes; later = rest; are = refl; has_size = refl }, h)
  node_exact due rest (binary {held = held}) h = (record { borrowed = held.borrowed; bytes = held.bytes; later = rest; are = refl; has_size = refl }, h)
  node_exact due rest (container {begin = begin} {nodes = inner} b made) h =
      begin_exact begin due (row_calls inner ++ (end_of begin ∷ []) ++ rest) b
      (subst (AreExactFrom (end_of begin ∷ due)) (sym (append_assoc (row_calls inner) (end_of begin ∷ []) rest))
      (row_exact (end_of begin ∷ due) (end_of begin ∷ rest) made (end_exact begin due rest b h)))

  row_exact : {row : Nodes} (due rest : List Call) → AreMade row → AreExactFrom due rest → AreExactFrom due (row_calls row ++ rest)
  row_exact due rest no_nodes h = h
  row_exact due rest (more_made {nodes = nodes} {node = node} made last) h =
      subst (AreExactFrom due) (sym (append_assoc (row_calls nodes) (node_calls node) rest)) (row_exact due (node_calls node ++ rest) made (node_exact due rest last h))

spine_exact : (spine : List Open) (rest : List Call) → AreMadeOpen spine → AreExact rest → AreExact (spine_calls spine ++ rest)
spine_exact [] rest made h = h
spine_exact (newest ∷ older) rest made h =
    let inner = row_calls newest.nodes in
    let end = end_of newest.begin in
    subst AreExact (sym (append_assoc (spine_calls older) (newest.begin ∷ end ∷ inner) rest))
    (spine_exact older (newest.begin ∷ end ∷ (inner ++ rest)) made.2
    (begin_exact newest.begin [] (end ∷ (inner ++ rest)) made.0 (end_exact newest.begin [] (inner ++ rest) made.0 (row_exact [] rest made.1 h))))

null_exact : (calls : List Call) → AreExact calls → AreExact (null_for_none calls)
null_exact [] h = tt
null_exact (call ∷ calls) h = h

pub replay_exact : (calls : List Call) (f : Forest) → forest calls ≡ Holds f → AreExact (replayed f)
replay_exact calls f e =
    let made = captured-made empty_forest 1 calls (record { nodes = no_nodes; spine = tt }) in
    let own : IsMadeForest f = rw e at made in
    let unended : AreExact (spine_calls f.spine) = subst AreExact (append-nil (spine_calls f.spine)) (spine_exact f.spine [] own.spine tt) in
    null_exact (row_calls f.nodes ++ spine_calls f.spine) (row_exact [] (spine_calls f.spine) own.nodes unended)
