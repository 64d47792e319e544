-- A buffer that keeps copies holds what a buffer does of the same calls, with its texts and binaries owned.
use Rattle.std.specs.Prelude.{◌≡◌, ℕ, ◌+◌, ◌⊎◌, Bool, true, false, ◌&&◌, List, [], ◌∷◌, map, Option, Some, None, option_map, refl}
use Rattle.std.proofs.Common.{sym, ap, ◌∙◌, subst, inl, inr}
use Rattle.sval_label.specs.Texts.{is_empty}
use Rattle.sval_label.specs.Calls.{Call, Null, Truth, Int, Standalone, TagHint, TextBegin, TextFragment, TextEnd, BinaryBegin, BinaryFragment, BinaryEnd, EnumBegin, EnumEnd, TaggedBegin, TaggedEnd, Begin, End, PartBegin, PartEnd}
use Rattle.sval_core.specs.Law.{computed}
use Rattle.sval_buffer.specs.Pushes.{HeldBytes, pushed}
use Rattle.sval_buffer.specs.Forest.{Node, Single, Text, Binary, Container, Nodes, none, ◌and◌, Open, Forest, CaptureAnswer, Becomes, Rejects, Misfit, add, with_flag, no_bytes, push_node, push_last, row_or, push_into, close_newest, held_in, held_last, newest_row, push_may_grow, take, may_grow}
use Rattle.sval_buffer.specs.declared.part.Medium.{Medium}
use Rattle.sval_buffer.specs.declared.part.Medium.TheVariants as media
use Rattle.sval_buffer.specs.Owned.{owned_bytes, owned_node, owned_row, owned_open, owned, owned_answer, take_owned}

abbrev tree : Nodes → List Open → Bool → Forest
tree nodes spine within = record { nodes = nodes; spine = spine; in_fragments = within }

-- ---- parts and fragments

add_owned : (node : Node) (nodes : Nodes) (spine : List Open) (within : Bool) → add (owned_node node) (owned (tree nodes spine within)) ≡ owned (add node (tree nodes spine within))
add_owned node nodes [] within = refl
add_owned node nodes (newest ∷ older) within = refl

and_false : (b : Bool) → (b && false) ≡ false
and_false true = refl
and_false false = refl

pushed_owned : (held fragment : HeldBytes) → pushed (owned_bytes held) (owned_bytes fragment) ≡ owned_bytes (pushed held fragment)
pushed_owned held fragment = rw (and_false (is_empty held.bytes)) refl

mapped_again : {A B C D : Type 0} (f : B → D) (g : A → B) (h : C → D) (k : A → C) → ((x : A) → f (g x) ≡ h (k x)) → (o : Option A) → option_map f (option_map g o) ≡ option_map h (option_map k o)
mapped_again f g h k same None = refl
mapped_again f g h k same (Some x) = ap Some (same x)

mutual
  push_node_owned : (m : Medium) (fragment : HeldBytes) (node : Node) → push_node m (owned_bytes fragment) (owned_node node) ≡ option_map owned_node (push_node m fragment node)
  push_node_owned m fragment (Single call) = refl
  push_node_owned media.Text fragment (Text held) = ap (λ b. Some (Text b)) (pushed_owned held fragment)
  push_node_owned media.Text fragment (Binary held) = refl
  push_node_owned media.Binary fragment (Text held) = refl
  push_node_owned media.Binary fragment (Binary held) = ap (λ b. Some (Binary b)) (pushed_owned held fragment)
  push_node_owned m fragment (Container begin nodes) =
      ap (option_map (Container (computed begin))) (push_last_owned m fragment nodes)
      ∙ mapped_again (Container (computed begin)) owned_row owned_node (Container begin) (λ row. refl) (push_last m fragment nodes)

  push_last_owned : (m : Medium) (fragment : HeldBytes) (nodes : Nodes) → push_last m (owned_bytes fragment) (owned_row nodes) ≡ option_map owned_row (push_last m fragment nodes)
  push_last_owned m fragment none = refl
  push_last_owned m fragment (nodes and node) =
      ap (option_map (λ last. owned_row nodes and last)) (push_node_owned m fragment node)
      ∙ mapped_again (λ last. owned_row nodes and last) owned_node owned_row (λ last. nodes and last) (λ last. refl) (push_node m fragment node)

row_owned : (misfit : Misfit) (nodes : Nodes) (spine : List Open) (within : Bool) (o : Option Nodes)
    → row_or misfit (owned (tree nodes spine within)) (option_map owned_row o) ≡ owned_answer (row_or misfit (tree nodes spine within) o)
row_owned misfit nodes spine within None = refl
row_owned misfit nodes [] within (Some row) = refl
row_owned misfit nodes (newest ∷ older) within (Some row) = refl

push_owned : (m : Medium) (misfit : Misfit) (fragment : HeldBytes) (nodes : Nodes) (spine : List Open) (within : Bool)
    → row_or misfit (owned (tree nodes spine within)) (push_last m (owned_bytes fragment) (newest_row (owned_row nodes) (map owned_open spine)))
    ≡ owned_answer (row_or misfit (tree nodes spine within) (push_last m fragment (newest_row nodes spine)))
push_owned m misfit fragment nodes [] within =
    ap (row_or misfit (owned (tree nodes [] within))) (push_last_owned m fragment nodes) ∙ row_owned misfit nodes [] within (push_last m fragment nodes)
push_owned m misfit fragment nodes (newest ∷ older) within =
    ap (row_or misfit (owned (tree nodes (newest ∷ older) within))) (push_last_owned m fragment newest.nodes)
    ∙ row_owned misfit nodes (newest ∷ older) within (push_last m fragment newest.nodes)

close_owned : (nodes : Nodes) (spine : List Open) (within : Bool) → close_newest (owned (tree nodes spine within)) ≡ owned_answer (close_newest (tree nodes spine within))
close_owned nodes [] within = refl
close_owned nodes (newest ∷ older) within = ap Becomes (add_owned (Container newest.begin newest.nodes) nodes older within)

-- ---- a call

single_owned : (call : Call) (f : Forest) → add (Single (computed call)) (owned f) ≡ owned (add (Single call) f)
single_owned call f = add_owned (Single call) f.nodes f.spine f.in_fragments

-- the forest of copies answers as the forest does, with its texts and binaries owned
pub takes_owned : (f : Forest) (call : Call) → take_owned (owned f) call ≡ owned_answer (take f call)
unfolding take_owned take
takes_owned f Null = ap Becomes (single_owned Null f)
takes_owned f (Truth b) = ap Becomes (single_owned (Truth b) f)
takes_owned f (Int type n) = ap Becomes (single_owned (Int type n) f)
takes_owned f (Standalone name) = ap Becomes (single_owned (Standalone name) f)
takes_owned f (TagHint tag) = go f.in_fragments
  where
    go : (within : Bool) → take (owned (tree f.nodes f.spine within)) (TagHint tag) ≡ owned_answer (take (tree f.nodes f.spine within) (TagHint tag))
    go true = refl
    go false = ap Becomes (add_owned (Single (TagHint tag)) f.nodes f.spine false)
takes_owned f (TextBegin size) = ap (λ g. Becomes (with_flag true g)) (add_owned (Text no_bytes) f.nodes f.spine f.in_fragments)
takes_owned f (TextFragment borrowed text) = push_owned media.Text _ (record { borrowed = borrowed; bytes = text }) f.nodes f.spine f.in_fragments
takes_owned f TextEnd = refl
takes_owned f (BinaryBegin size) = ap (λ g. Becomes (with_flag true g)) (add_owned (Binary no_bytes) f.nodes f.spine f.in_fragments)
takes_owned f (BinaryFragment borrowed bytes) = push_owned media.Binary _ (record { borrowed = borrowed; bytes = bytes }) f.nodes f.spine f.in_fragments
takes_owned f BinaryEnd = refl
takes_owned f (EnumBegin name) = refl
takes_owned f (EnumEnd name) = close_owned f.nodes f.spine f.in_fragments
takes_owned f (TaggedBegin name) = refl
takes_owned f (TaggedEnd name) = close_owned f.nodes f.spine f.in_fragments
takes_owned f (Begin head size) = refl
takes_owned f (End head) = close_owned f.nodes f.spine f.in_fragments
takes_owned f (PartBegin slot) = refl
takes_owned f (PartEnd slot) = close_owned f.nodes f.spine f.in_fragments

-- whether a fragment is borrowed is nothing to it
computed_alike : (f : Forest) (call : Call) → take_owned f (computed call) ≡ take_owned f call
unfolding take_owned
computed_alike f (TextFragment borrowed text) = refl
computed_alike f (BinaryFragment borrowed bytes) = refl
computed_alike f call = refl

pub takes_computed : (f : Forest) (call : Call) → take_owned (owned f) call ≡ owned_answer (take f (computed call))
takes_computed f call = sym (computed_alike (owned f) call) ∙ takes_owned f (computed call)

-- ---- memory

mutual
  held_in_owned : (m : Medium) (node : Node) → held_in m (owned_node node) ≡ option_map owned_bytes (held_in m node)
  held_in_owned m (Single call) = refl
  held_in_owned media.Text (Text held) = refl
  held_in_owned media.Text (Binary held) = refl
  held_in_owned media.Binary (Text held) = refl
  held_in_owned media.Binary (Binary held) = refl
  held_in_owned m (Container begin nodes) = held_last_owned m nodes

  held_last_owned : (m : Medium) (nodes : Nodes) → held_last m (owned_row nodes) ≡ option_map owned_bytes (held_last m nodes)
  held_last_owned m none = refl
  held_last_owned m (nodes and node) = held_in_owned m node

push_grows : (borrowed : Bool) (o : Option HeldBytes) → push_may_grow borrowed (option_map owned_bytes o) ≡ push_may_grow borrowed o
push_grows borrowed None = refl
push_grows borrowed (Some held) = refl

fragment_grows : (m : Medium) (nodes : Nodes) (spine : List Open)
    → push_may_grow false (held_last m (newest_row (owned_row nodes) (map owned_open spine))) ≡ push_may_grow false (held_last m (newest_row nodes spine))
fragment_grows m nodes [] = ap (push_may_grow false) (held_last_owned m nodes) ∙ push_grows false (held_last m nodes)
fragment_grows m nodes (newest ∷ older) = ap (push_may_grow false) (held_last_owned m newest.nodes) ∙ push_grows false (held_last m newest.nodes)

-- the same calls may take memory
pub grows_alike : (f : Forest) (call : Call) → may_grow (owned f) (computed call) ≡ may_grow f (computed call)
unfolding may_grow
grows_alike f (TextFragment borrowed text) = fragment_grows media.Text f.nodes f.spine
grows_alike f (BinaryFragment borrowed bytes) = fragment_grows media.Binary f.nodes f.spine
grows_alike f call = refl
