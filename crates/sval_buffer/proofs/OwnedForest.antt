-- A forest whose texts and binaries are owned: its replay, its flat parts and their holders.
use Rattle.std.specs.Prelude.{◌≡◌, ℕ, ◌+◌, List, [], ◌∷◌, ◌++◌, length, map, Option, Some, None, refl}
use Rattle.std.proofs.Common.{sym, ap, ◌∙◌}
use Rattle.std.proofs.lemmas.List.{map-append, length-map}
use Rattle.sval_label.specs.Calls.{Call}
use Rattle.sval_core.specs.Law.{computed}
use Rattle.sval_buffer.specs.Forest.{Node, Single, Text, Binary, Container, Nodes, none, ◌and◌, Open, Forest, end_of, node_calls, row_calls, spine_calls, null_for_none, replayed}
use Rattle.sval_buffer.specs.Flat.{FlatKind, One, Words, Bytes, Holder, FlatPart, flat_part, flat_node, flat_row, flat_spine, flat}
use Rattle.sval_buffer.specs.FlatForest.{open_places}
use Rattle.sval_buffer.specs.Holders.{holders, holders_node, holders_row, holders_spine, newest_place}
use Rattle.sval_buffer.specs.Owned.{owned_bytes, owned_node, owned_row, owned_open, owned}

-- ---- replay

end_computed : (call : Call) → end_of (computed call) ≡ computed (end_of call)
end_computed (Call.TextFragment borrowed text) = refl
end_computed (Call.BinaryFragment borrowed bytes) = refl
end_computed call = refl

mutual
  node_computed : (node : Node) → node_calls (owned_node node) ≡ map computed (node_calls node)
  node_computed (Single call) = refl
  node_computed (Text held) = refl
  node_computed (Binary held) = refl
  node_computed (Container begin nodes) =
      ap (λ xs. computed begin ∷ xs) (rw (row_computed nodes, end_computed begin) (sym (map-append computed (row_calls nodes) (end_of begin ∷ []))))

  row_computed : (row : Nodes) → row_calls (owned_row row) ≡ map computed (row_calls row)
  row_computed none = refl
  row_computed (nodes and node) = rw (row_computed nodes, node_computed node) (sym (map-append computed (row_calls nodes) (node_calls node)))

spine_computed : (spine : List Open) → spine_calls (map owned_open spine) ≡ map computed (spine_calls spine)
spine_computed [] = refl
spine_computed (newest ∷ older) =
    rw (spine_computed older, end_computed newest.begin, row_computed newest.nodes)
    (sym (map-append computed (spine_calls older) (newest.begin ∷ end_of newest.begin ∷ row_calls newest.nodes)))

null_computed : (calls : List Call) → null_for_none (map computed calls) ≡ map computed (null_for_none calls)
null_computed [] = refl
null_computed (call ∷ calls) = refl

pub replay_computed : (f : Forest) → replayed (owned f) ≡ map computed (replayed f)
replay_computed f =
    rw (row_computed f.nodes, spine_computed f.spine, ← map-append computed (row_calls f.nodes) (spine_calls f.spine)) (null_computed (row_calls f.nodes ++ spine_calls f.spine))

-- ---- flat parts

abbrev pub owned_flat_kind : FlatKind → FlatKind
owned_flat_kind (One call) = One (computed call)
owned_flat_kind (Words held) = Words (owned_bytes held)
owned_flat_kind (Bytes held) = Bytes (owned_bytes held)
owned_flat_kind (Holder begin) = Holder (computed begin)

abbrev pub owned_flat : FlatPart → FlatPart
owned_flat p = flat_part (owned_flat_kind p.kind) p.holds

mutual
  flat_node_owned : (node : Node) → flat_node (owned_node node) ≡ map owned_flat (flat_node node)
  flat_node_owned (Single call) = refl
  flat_node_owned (Text held) = refl
  flat_node_owned (Binary held) = refl
  flat_node_owned (Container begin nodes) = rw (flat_row_owned nodes, length-map (flat_row nodes) owned_flat) refl

  flat_row_owned : (row : Nodes) → flat_row (owned_row row) ≡ map owned_flat (flat_row row)
  flat_row_owned none = refl
  flat_row_owned (nodes and node) = rw (flat_row_owned nodes, flat_node_owned node) (sym (map-append owned_flat (flat_row nodes) (flat_node node)))

flat_spine_owned : (spine : List Open) → flat_spine (map owned_open spine) ≡ map owned_flat (flat_spine spine)
flat_spine_owned [] = refl
flat_spine_owned (newest ∷ older) =
    rw (flat_spine_owned older, flat_row_owned newest.nodes) (sym (map-append owned_flat (flat_spine older) (flat_part (Holder newest.begin) 0 ∷ flat_row newest.nodes)))

pub flat_owned : (nodes : Nodes) (spine : List Open) → flat_row (owned_row nodes) ++ flat_spine (map owned_open spine) ≡ map owned_flat (flat_row nodes ++ flat_spine spine)
flat_owned nodes spine = rw (flat_row_owned nodes, flat_spine_owned spine) (sym (map-append owned_flat (flat_row nodes) (flat_spine spine)))

-- ---- places and holders

row_length : (row : Nodes) → length (flat_row (owned_row row)) ≡ length (flat_row row)
row_length row = ap length (flat_row_owned row) ∙ length-map (flat_row row) owned_flat

place_owned : (nodes : Nodes) (spine : List Open) → length (flat_row (owned_row nodes) ++ flat_spine (map owned_open spine)) ≡ length (flat_row nodes ++ flat_spine spine)
place_owned nodes spine = ap length (flat_owned nodes spine) ∙ length-map (flat_row nodes ++ flat_spine spine) owned_flat

pub places_owned : (nodes : Nodes) (spine : List Open) → open_places (owned_row nodes) (map owned_open spine) ≡ open_places nodes spine
places_owned nodes [] = refl
places_owned nodes (newest ∷ older) = rw (places_owned nodes older, place_owned nodes older) refl

mutual
  holders_node_owned : (place : ℕ) (holder : Option ℕ) (node : Node) → holders_node place holder (owned_node node) ≡ holders_node place holder node
  holders_node_owned place holder (Single call) = refl
  holders_node_owned place holder (Text held) = refl
  holders_node_owned place holder (Binary held) = refl
  holders_node_owned place holder (Container begin nodes) = ap (λ xs. holder ∷ xs) (holders_row_owned (place + 1) (Some place) nodes)

  holders_row_owned : (place : ℕ) (holder : Option ℕ) (row : Nodes) → holders_row place holder (owned_row row) ≡ holders_row place holder row
  holders_row_owned place holder none = refl
  holders_row_owned place holder (nodes and node) = rw (row_length nodes, holders_row_owned place holder nodes, holders_node_owned (place + length (flat_row nodes)) holder node) refl

newest_owned : (nodes : Nodes) (spine : List Open) → newest_place (owned_row nodes) (map owned_open spine) ≡ newest_place nodes spine
newest_owned nodes [] = refl
newest_owned nodes (newest ∷ older) = ap Some (place_owned nodes older)

holders_spine_owned : (nodes : Nodes) (spine : List Open) → holders_spine (owned_row nodes) (map owned_open spine) ≡ holders_spine nodes spine
holders_spine_owned nodes [] = holders_row_owned 0 None nodes
holders_spine_owned nodes (newest ∷ older) =
    let place = length (flat_row nodes ++ flat_spine older) in
    rw (place_owned nodes older, holders_spine_owned nodes older, newest_owned nodes older, holders_row_owned (place + 1) (Some place) newest.nodes) refl

pub holders_owned : (f : Forest) → holders (owned f) ≡ holders f
holders_owned f = holders_spine_owned f.nodes f.spine
