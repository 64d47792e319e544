-- The JSON of nodes that is written piece by piece.
use Rattle.std.specs.Prelude.{◌≡◌, ℕ, ◌+◌, ◌<◌, Bool, true, List, [], ◌∷◌, ◌++◌, Result, Ok, Err, map, length, drop, get_or, refl}
use Rattle.std.specs.List.{concat}
use Rattle.std.proofs.Common.{sym, ap, subst, ◌∙◌, append_assoc, append-nil}
use Rattle.sval_io.specs.Sinks.{Told, WritesWhole, WritesFront, WritesAll}
use Rattle.sval_io.specs.declared.sink.SinkError.{SinkError}
use Rattle.sval_io.proofs.Appending.{writes_nothing, writes_both, stops_after}
use Rattle.sval_json.specs.Escape.{escaped}
use Rattle.sval_json.proofs.Texts.{escaped-append}
use Rattle.sval_json_read.specs.Calls.{Piece, piece_bytes, pieces}
use Rattle.sval_json_read.specs.Nodes.{placed_in, tokens_in}
use Rattle.sval_json_read.specs.SeenNodes.{seen_node, IsKeptOf, AreKeptOf}
use Rattle.sval_json_read.specs.SeenValues.{text_in}
use Rattle.sval_json_read.specs.TextParts.{IsWrittenUpTo}
use Rattle.sval_json_read.specs.Tokens.{Placed}
use Rattle.sval_json_read.specs.TokenTexts.{begins_container, placed_text, tokens_text}
use Rattle.sval_json_read.specs.declared.node.Node.{Node}
use Rattle.sval_json_read.proofs.NodeStreams.{here}

-- ---- a piece and what stands behind it

pub both_written : {old mid : Told} (new : Told) (xs ys : List ℕ) (r : Result (Unit {0}) SinkError) → WritesWhole old xs mid → WritesAll r mid ys new → WritesAll r old (xs ++ ys) new
both_written new xs ys (Ok done) w a = writes_both xs ys w a
both_written new xs ys (Err why) w a = stops_after xs ys [] w (ap (λ z. xs ++ z) (sym (append-nil ys))) a

-- ---- a front that is written

pub up_to_begin : (told : Told) (whole : List ℕ) → IsWrittenUpTo told whole whole told
up_to_begin told whole = record { front = []; same = refl; writes = writes_nothing told }

pub up_to_next : {old mid new : Told} {whole rest : List ℕ} (piece later : List ℕ) → rest ≡ piece ++ later → IsWrittenUpTo old whole rest mid → WritesWhole mid piece new → IsWrittenUpTo old whole later new
up_to_next piece later e l w = record {
  front = l.front ++ piece;
  same = l.same ∙ ap (λ x. l.front ++ x) e ∙ sym (append_assoc l.front piece later);
  writes = writes_both l.front piece l.writes w;
}

pub up_to_end : {old new : Told} {whole rest : List ℕ} → rest ≡ [] → IsWrittenUpTo old whole rest new → WritesWhole old whole new
up_to_end {old} {new} e l = subst (λ x. WritesWhole old x new) (sym (l.same ∙ ap (λ x. l.front ++ x) e ∙ append-nil l.front)) l.writes

pub stops_in_next : {old mid new : Told} {whole rest : List ℕ} {why : SinkError} (piece later : List ℕ) → rest ≡ piece ++ later → IsWrittenUpTo old whole rest mid → WritesFront why mid piece new → WritesFront why old whole new
stops_in_next piece later e l f = stops_after l.front piece later l.writes (l.same ∙ ap (λ x. l.front ++ x) e) f

-- ---- strings

-- the text of what the next piece and the pieces behind it stand for
pub next_piece_text : (raw behind : List ℕ) (piece : Piece) → pieces raw ≡ piece ∷ pieces behind → escaped (text_in raw) ≡ escaped (piece_bytes piece) ++ escaped (text_in behind)
next_piece_text raw behind piece e =
    ap (λ row. escaped (concat (map piece_bytes row))) e ∙ escaped-append (piece_bytes piece) (text_in behind)

-- ---- node by node

-- some bytes were written, and of a piece and what was left before it so much is left
pub up_to_later : {old mid new : Told} {whole after : List ℕ} (before piece later : List ℕ) → IsWrittenUpTo old whole (before ++ (piece ++ later)) mid → IsWrittenUpTo mid (before ++ piece) after new
    → IsWrittenUpTo old whole (after ++ later) new
up_to_later {after = after} before piece later l s = record {
  front = l.front ++ s.front;
  same =
      l.same ∙ ap (λ x. l.front ++ x) (sym (append_assoc before piece later) ∙ ap (λ x. x ++ later) s.same ∙ append_assoc s.front after later)
      ∙ sym (append_assoc l.front s.front (after ++ later));
  writes = writes_both l.front s.front l.writes s.writes;
}

-- all before these nodes was written but what is joined, and they are kept of the text
pub record AreWrittenUpTo (old : Told) (text : List ℕ) (all left : List Node) (is_first : Bool) (joined : List ℕ) (new : Told) : Type 0 where
  pub kept : AreKeptOf text left
  pub written : IsWrittenUpTo old (tokens_text true (tokens_in text (map seen_node all))) (joined ++ tokens_text is_first (tokens_in text (map seen_node left))) new

pub nodes_begin : (told : Told) (text : List ℕ) (nodes : List Node) (joined : List ℕ) → joined ≡ [] → AreKeptOf text nodes → AreWrittenUpTo told text nodes nodes true joined told
nodes_begin told text nodes joined e k =
    let whole = tokens_text true (tokens_in text (map seen_node nodes)) in
    record { kept = k; written = subst (λ x. IsWrittenUpTo told whole (x ++ whole) told) (sym e) (up_to_begin told whole) }

module _ {old mid : Told} {text : List ℕ} (nodes : List Node) (i : ℕ) (d : Node) (is_first : Bool) (joined : List ℕ) (s : AreWrittenUpTo old text nodes (drop i nodes) is_first joined mid) (within : i < length nodes) where
  abbrev node : Placed
  node = placed_in text (seen_node (get_or nodes i d))

  abbrev later : List ℕ
  later = tokens_text (begins_container node.token) (tokens_in text (map seen_node (drop (i + 1) nodes)))

  left_kept : AreKeptOf text (get_or nodes i d ∷ drop (i + 1) nodes)
  left_kept = subst (AreKeptOf text) (here nodes i d within) s.kept

  pub kept_at : IsKeptOf text (get_or nodes i d)
  kept_at = left_kept.0

  left_text : tokens_text is_first (tokens_in text (map seen_node (drop i nodes))) ≡ placed_text is_first node ++ later
  left_text = ap (λ left. tokens_text is_first (tokens_in text (map seen_node left))) (here nodes i d within)

  left_written : IsWrittenUpTo old (tokens_text true (tokens_in text (map seen_node nodes))) (joined ++ (placed_text is_first node ++ later)) mid
  left_written = subst (λ x. IsWrittenUpTo old (tokens_text true (tokens_in text (map seen_node nodes))) (joined ++ x) mid) left_text s.written

  pub node_on : (new : Told) (next : List ℕ) (first : Bool) → IsWrittenUpTo mid (joined ++ placed_text is_first node) next new → first ≡ begins_container node.token
      → AreWrittenUpTo old text nodes (drop (i + 1) nodes) first next new
  node_on new next first w e = subst (λ b. AreWrittenUpTo old text nodes (drop (i + 1) nodes) b next new) (sym e)
      (record { kept = left_kept.1; written = up_to_later joined (placed_text is_first node) later left_written w })

  pub node_stops : {why : SinkError} (new : Told) → WritesFront why mid (joined ++ placed_text is_first node) new → WritesFront why old (tokens_text true (tokens_in text (map seen_node nodes))) new
  node_stops new f =
      stops_in_next (joined ++ placed_text is_first node) later (sym (append_assoc joined (placed_text is_first node) later)) left_written f

-- what is joined at the end is the last piece
pub nodes_end : {old mid : Told} {text : List ℕ} {nodes left : List Node} {is_first : Bool} {joined : List ℕ} (new : Told) (r : Result (Unit {0}) SinkError)
    → AreWrittenUpTo old text nodes left is_first joined mid → left ≡ [] → WritesAll r mid joined new → WritesAll r old (tokens_text true (tokens_in text (map seen_node nodes))) new
nodes_end {old = old} {text = text} {nodes = nodes} {is_first = is_first} {joined = joined} new r s e w =
    let last = ap (λ left. joined ++ tokens_text is_first (tokens_in text (map seen_node left))) e ∙ append-nil joined in
    subst (λ x. WritesAll r old x new) (sym (s.written.same ∙ ap (λ x. s.written.front ++ x) last)) (both_written new s.written.front joined r s.written.writes w)
