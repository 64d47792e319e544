-- Nodes that are written as they were read: one after another, and in one piece.
use Rattle.std.specs.Prelude.{◌≡◌, ℕ, ◌+◌, ◌<◌, Bool, true, List, [], ◌∷◌, ◌++◌, length, drop, get_or}
use Rattle.std.specs.List.{between}
use Rattle.std.proofs.Common.{sym, ap, subst, ◌∙◌, append_assoc, arith}
use Rattle.std.proofs.lemmas.List.{drop-drop}
use Rattle.sval_io.specs.Sinks.{Told, WritesWhole, WritesFront}
use Rattle.sval_io.specs.declared.sink.SinkError.{SinkError}
use Rattle.sval_json_read.specs.declared.node.Node.{Node}
use Rattle.sval_json_read.specs.declared.text_part.TextPart.{TextPart}
use Rattle.sval_json_read.specs.declared.unchanged.Unchanged.{Unchanged}
use Rattle.sval_json_read.specs.Nodes.{placed_in}
use Rattle.sval_json_read.specs.SeenNodes.{seen_node, AreKeptOf}
use Rattle.sval_json_read.specs.TextParts.{IsReadyPart, IsTextPiece, part_bytes}
use Rattle.sval_json_read.specs.Tokens.{Placed}
use Rattle.sval_json_read.specs.TokenTexts.{begins_container, placed_text}
use Rattle.sval_json_read.specs.UnchangedNodes.{IsUnchanged, nodes_text}
use Rattle.sval_json_read.proofs.NodeStreams.{here}
use Rattle.sval_json_read.proofs.NodeTexts.{AreWrittenUpTo, up_to_next, stops_in_next}
use Rattle.sval_json_read.proofs.TextParts.{own_piece, pieces_joined}

-- ---- one node after another

module _ {text : List ℕ} {is_first : Bool} {nodes : List Node} {found : Unchanged} (d : Node) (u : IsUnchanged text is_first nodes found) (within : found.count < length nodes) where
  abbrev node : Placed
  node = placed_in text (seen_node (get_or nodes found.count d))

  abbrev later : List ℕ
  later = nodes_text (begins_container node.token) text (drop (found.count + 1) nodes)

  left_kept : AreKeptOf text (get_or nodes found.count d ∷ drop (found.count + 1) nodes)
  left_kept = subst (AreKeptOf text) (here nodes found.count d within) u.kept

  left_text : nodes_text found.is_first text (drop found.count nodes) ≡ placed_text found.is_first node ++ later
  left_text = ap (nodes_text found.is_first text) (here nodes found.count d within)

  pub one_more : (ready : TextPart) (to : ℕ) (first : Bool) → IsReadyPart text ready → IsTextPiece text found.part.to to (placed_text found.is_first node) → first ≡ begins_container node.token
      → IsUnchanged text is_first nodes (record { count = found.count + 1; part = record { from = found.part.from; to = to }; is_first = first; ready = ready })
  one_more ready to first r p e =
      let whole = pieces_joined (own_piece text found.part.from found.part.to u.part.order u.part.within) p in
      record {
        within = omega arith;
        part = record { order = whole.order; within = whole.within };
        ready = r;
        kept = left_kept.1;
        same =
            u.same ∙ ap (λ row. part_bytes text found.part ++ row) left_text
            ∙ sym (append_assoc (part_bytes text found.part) (placed_text found.is_first node) later)
            ∙ ap (λ row. row ++ later) (sym whole.same)
            ∙ ap (λ b. between found.part.from to text ++ nodes_text b text (drop (found.count + 1) nodes)) (sym e);
      }

-- ---- as one piece, behind what is joined

module _ {old mid : Told} {text : List ℕ} (nodes : List Node) (i : ℕ) (is_first : Bool) (joined : List ℕ) (found : Unchanged) (s : AreWrittenUpTo old text nodes (drop i nodes) is_first joined mid)
    (u : IsUnchanged text is_first (drop i nodes) found) where
  abbrev behind : List ℕ
  behind = nodes_text found.is_first text (drop found.count (drop i nodes))

  left_text_is : joined ++ nodes_text is_first text (drop i nodes) ≡ (joined ++ part_bytes text found.part) ++ behind
  left_text_is = ap (λ row. joined ++ row) u.same ∙ sym (append_assoc joined (part_bytes text found.part) behind)

  pub piece_on : (new : Told) (next : List ℕ) → WritesWhole mid (joined ++ part_bytes text found.part) new → next ≡ [] → AreWrittenUpTo old text nodes (drop (i + found.count) nodes) found.is_first next new
  piece_on new next w e =
      let left = drop-drop found.count i nodes in
      record {
        kept = subst (AreKeptOf text) left u.kept;
        written = rw (← left) rw e (up_to_next (joined ++ part_bytes text found.part) behind left_text_is s.written w);
      }

  pub piece_stops : {why : SinkError} (new : Told) → WritesFront why mid (joined ++ part_bytes text found.part) new → WritesFront why old (nodes_text true text nodes) new
  piece_stops new f = stops_in_next (joined ++ part_bytes text found.part) behind left_text_is s.written f
