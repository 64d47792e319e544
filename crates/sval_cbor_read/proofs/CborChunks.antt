-- The chunks of texts and byte strings, by the nodes that they begin with.
use Rattle.std.specs.Prelude.{◌≡◌, ℕ, List, [], ◌∷◌, drop, get_or, refl}
use Rattle.std.proofs.Common.{ap, ◌∙◌}
use Rattle.sval_cbor_read.specs.declared.node.Kind as made_kind
use Rattle.sval_cbor_read.specs.declared.node.Kind.TheVariants as kind
use Rattle.sval_cbor_read.specs.declared.node.Node.{Node}
use Rattle.sval_cbor_read.specs.CborValues.{CborLevel, cbor_innermost_level, puts_calls}
use Rattle.sval_cbor_read.specs.SeenNodes.{node_offset, node_own_calls, streamed_items, NodeBegins, NodesStand}
use Rattle.sval_cbor_read.specs.SeenFound.{texts_in, binaries_in}
use Rattle.sval_cbor_read.proofs.CborNodes.{levels_at, first_levels, one_chunk}

own_no_text : (k : made_kind.Kind) (bytes : List ℕ) (levels : List CborLevel) → NodeBegins k bytes → (k ≡ kind.TextPiece → ⊥) → (cbor_innermost_level (puts_calls (node_own_calls k bytes) levels)).texts ≡ []
own_no_text kind.Item bytes levels s n = ap (λ x. (cbor_innermost_level x).texts) (s.1.puts_it levels)
own_no_text kind.Big bytes levels s n = refl
own_no_text kind.NegativeBig bytes levels s n = refl
own_no_text kind.Begin bytes levels s n = ap (λ x. (cbor_innermost_level x).texts) (s.1.closes_it levels)
own_no_text kind.TextPiece bytes levels s n = absurd (n refl)
own_no_text kind.BinaryPiece bytes levels s n = ap (λ made. (cbor_innermost_level (puts_calls made levels)).texts) (one_chunk 2 bytes s).is
own_no_text kind.EndText bytes levels s n = refl
own_no_text kind.EndBinary bytes levels s n = refl
own_no_text kind.EndSeq bytes levels s n = refl
own_no_text kind.EndMap bytes levels s n = refl

own_no_bytes : (k : made_kind.Kind) (bytes : List ℕ) (levels : List CborLevel) → NodeBegins k bytes → (k ≡ kind.BinaryPiece → ⊥) → (cbor_innermost_level (puts_calls (node_own_calls k bytes) levels)).binaries ≡ []
own_no_bytes kind.Item bytes levels s n = ap (λ x. (cbor_innermost_level x).binaries) (s.1.puts_it levels)
own_no_bytes kind.Big bytes levels s n = refl
own_no_bytes kind.NegativeBig bytes levels s n = refl
own_no_bytes kind.Begin bytes levels s n = ap (λ x. (cbor_innermost_level x).binaries) (s.1.closes_it levels)
own_no_bytes kind.TextPiece bytes levels s n = ap (λ made. (cbor_innermost_level (puts_calls made levels)).binaries) (one_chunk 3 bytes s).is
own_no_bytes kind.BinaryPiece bytes levels s n = absurd (n refl)
own_no_bytes kind.EndText bytes levels s n = refl
own_no_bytes kind.EndBinary bytes levels s n = refl
own_no_bytes kind.EndSeq bytes levels s n = refl
own_no_bytes kind.EndMap bytes levels s n = refl

module _ (bytes : List ℕ) where
  pub text_none : (nodes : List Node) (d : Node) → NodesStand bytes nodes → ((get_or nodes 0 d).kind ≡ kind.TextPiece → ⊥) → texts_in (streamed_items bytes nodes) ≡ []
  text_none [] d s n = refl
  text_none (node ∷ nodes) d s n = ap (λ x. (cbor_innermost_level x).texts) (first_levels bytes node nodes) ∙ own_no_text node.kind (drop (node_offset node) bytes) (levels_at bytes nodes) s.0 n

  pub bytes_none : (nodes : List Node) (d : Node) → NodesStand bytes nodes → ((get_or nodes 0 d).kind ≡ kind.BinaryPiece → ⊥) → binaries_in (streamed_items bytes nodes) ≡ []
  bytes_none [] d s n = refl
  bytes_none (node ∷ nodes) d s n = ap (λ x. (cbor_innermost_level x).binaries) (first_levels bytes node nodes) ∙ own_no_bytes node.kind (drop (node_offset node) bytes) (levels_at bytes nodes) s.0 n
