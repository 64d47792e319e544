-- A container has at most as many items, and a map at most as many pairs, as nodes are kept of what follows.
use Rattle.std.specs.Prelude.{◌≡◌, ◌≢◌, ℕ, zero, suc, pos, negsuc, ◌+◌, ◌-◌, ◌≤◌, List, [], ◌∷◌, length, drop, slice_get, refl}
use Rattle.std.proofs.Common.{sym, ap, subst, ◌∙◌, arith}
use Rattle.sval_cbor_read.specs.declared.node.Kind as made_kind
use Rattle.sval_cbor_read.specs.declared.node.Kind.TheVariants as kind
use Rattle.sval_cbor_read.specs.declared.node.Node.{Node}
use Rattle.sval_cbor_read.specs.Items.{big_endian}
use Rattle.sval_cbor_read.specs.CborValues.{CborValue, Int, CborLevel, cbor_innermost_level, cbor_under, cbor_puts, cbor_puts_text, puts_binary, puts_calls, cbor_values_in}
use Rattle.sval_cbor_read.specs.CborLookups.{cbor_values_listed, cbor_paired}
use Rattle.sval_cbor_read.specs.SeenNodes.{node_offset, byte_string, node_own_calls, streamed_items, NodeBegins, NodesStand}
use Rattle.sval_cbor_read.proofs.CborNodes.{levels_at, first_levels, one_chunk}

-- how many values all levels hold
abbrev total : List CborLevel → ℕ
total [] = 0
total (level ∷ levels) = length (cbor_values_listed level.values) + total levels

puts_total : (value : CborValue) (levels : List CborLevel) → total (cbor_puts value levels) ≤ suc (total levels)
puts_total value [] = omega arith
puts_total value (level ∷ levels) = omega arith

closes_total : (value : CborValue) (levels : List CborLevel) → total (cbor_puts value (cbor_under levels)) ≤ suc (total levels)
closes_total value [] = omega arith
closes_total value (level ∷ levels) = let more = puts_total value levels in omega arith

text_total : (bytes : List ℕ) (levels : List CborLevel) → total (cbor_puts_text bytes levels) ≤ suc (total levels)
text_total bytes [] = omega arith
text_total bytes (level ∷ levels) = omega arith

binary_total : (bytes : List ℕ) (levels : List CborLevel) → total (puts_binary bytes levels) ≤ suc (total levels)
binary_total bytes [] = omega arith
binary_total bytes (level ∷ levels) = omega arith

own_total : (k : made_kind.Kind) (bytes : List ℕ) (levels : List CborLevel) → NodeBegins k bytes → total (puts_calls (node_own_calls k bytes) levels) ≤ suc (total levels)
own_total kind.Item bytes levels s = subst (λ x. total x ≤ suc (total levels)) (sym (s.1.puts_it levels)) (puts_total s.1.value levels)
own_total kind.Big bytes levels s = puts_total (Int (pos (big_endian (byte_string bytes)))) levels
own_total kind.NegativeBig bytes levels s = puts_total (Int (negsuc (big_endian (byte_string bytes)))) levels
own_total kind.Begin bytes levels s = subst (λ x. total x ≤ suc (total levels)) (sym (s.1.closes_it levels)) (closes_total (s.1.of (cbor_innermost_level levels)) levels)
own_total kind.TextPiece bytes levels s = let c = one_chunk 3 bytes s in subst (λ made. total (puts_calls made levels) ≤ suc (total levels)) (sym c.is) (text_total c.content levels)
own_total kind.BinaryPiece bytes levels s = let c = one_chunk 2 bytes s in subst (λ made. total (puts_calls made levels) ≤ suc (total levels)) (sym c.is) (binary_total c.content levels)
own_total kind.EndText bytes levels s = omega arith
own_total kind.EndBinary bytes levels s = omega arith
own_total kind.EndSeq bytes levels s = omega arith
own_total kind.EndMap bytes levels s = omega arith

nodes_total : (bytes : List ℕ) (nodes : List Node) → NodesStand bytes nodes → total (levels_at bytes nodes) ≤ length nodes
nodes_total bytes [] s = omega arith
nodes_total bytes (n ∷ nodes) s =
    let more = nodes_total bytes nodes s.1 in
    let own = own_total n.kind (drop (node_offset n) bytes) (levels_at bytes nodes) s.0 in
    let first = ap total (first_levels bytes n nodes) in
    omega arith

innermost_total : (levels : List CborLevel) → length (cbor_values_listed (cbor_innermost_level levels).values) ≤ total levels
innermost_total [] = omega arith
innermost_total (level ∷ levels) = omega arith

pub values_fit : (bytes : List ℕ) (nodes : List Node) → NodesStand bytes nodes → length (cbor_values_listed (cbor_values_in (streamed_items bytes nodes))) ≤ length nodes
values_fit bytes nodes s = let all = nodes_total bytes nodes s in let own = innermost_total (levels_at bytes nodes) in omega arith

pairs_within : (values : List CborValue) → length (cbor_paired values) ≤ length values
pairs_within [] = omega arith
pairs_within (key ∷ []) = omega arith
pairs_within (key ∷ value ∷ values) = let more = pairs_within values in omega arith

pub pairs_fit : (bytes : List ℕ) (nodes : List Node) → NodesStand bytes nodes → length (cbor_paired (cbor_values_listed (cbor_values_in (streamed_items bytes nodes)))) ≤ length nodes
pairs_fit bytes nodes s = let fit = values_fit bytes nodes s in let within = pairs_within (cbor_values_listed (cbor_values_in (streamed_items bytes nodes))) in omega arith

-- behind the first, each place is one less
pub behind_first : {A : Type 0} (one : A) (row : List A) (index : ℕ) → index ≢ 0 → slice_get (one ∷ row) index ≡ slice_get row (index - 1)
behind_first one row zero n = absurd (n refl)
behind_first one row (suc index) n = ap (slice_get row) (let e : index ≡ suc index - 1 = omega arith in e)
