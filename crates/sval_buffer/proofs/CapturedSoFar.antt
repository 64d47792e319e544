-- What a forest stands for while the machine takes the calls that were captured.
use Rattle.std.specs.Prelude.{◌≡◌, ℕ, true, false, List, [], ◌∷◌, ◌++◌, map, Option, ⊤, refl}
use Rattle.std.specs.List.{concat}
use Rattle.std.proofs.Common.{sym, ap, subst, ◌∙◌}
use Rattle.std.proofs.lemmas.List.Elements.{filter_map-append}
use mathlib.Core.List.{append_assoc, append-nil}
use Rattle.sval_label.specs.Calls.{Call, Head, Slot, Name, TextBegin, TextFragment, BinaryBegin, BinaryFragment, EnumBegin, EnumEnd, TaggedBegin, TaggedEnd, Begin, End, PartBegin, PartEnd}
use Rattle.sval_core.specs.Trees as tree
use Rattle.sval_core.specs.Trees.{Tree, Parts, plain_label, plain_name, plain_head, plain_slot}
use Rattle.sval_core.specs.Spells.{plain, plain_call, bare_name, bare_head, bare_slot}
use Rattle.sval_core.specs.Checker.{Frame, InText, InBinary, InTagged, InEnum, InContainer, InPart}
use Rattle.sval_core.proofs.ToldTrees.{bare_plain_name, bare_plain_head, bare_plain_slot}
use Rattle.sval_buffer.specs.Pushes.{HeldBytes}
use Rattle.sval_buffer.specs.Forest.{Node, Text, Binary, Container, Nodes, none, ◌and◌, Open, Forest, Becomes, take, begun, add, with_flag, end_of, node_calls, row_calls}
use Rattle.sval_buffer.proofs.JoinedTexts.{is_other, Joins, joins-append, nothing, as_is}

-- ---- the calls that a forest stands for before its containers have ended

abbrev pub open_calls : List Open → List Call
open_calls [] = []
open_calls (newest ∷ older) = open_calls older ++ (newest.begin ∷ row_calls newest.nodes)

abbrev pub so_far : Nodes → List Open → List Call
so_far nodes spine = row_calls nodes ++ open_calls spine

abbrev pub outside_of : Nodes → List Open → Forest
outside_of nodes spine = record { nodes = nodes; spine = spine; in_fragments = false }

abbrev pub within : Node → Nodes → List Open → Forest
within node nodes spine = with_flag true (add node (outside_of nodes spine))

-- a container without an end, and the machine's frame of it
abbrev pub Fits : Frame → Call → Type 0
Fits (InTagged name) first = (n : Name) × (first ≡ TaggedBegin n) × (plain_name n ≡ name)
Fits (InEnum name) first = (n : Name) × (first ≡ EnumBegin n) × (plain_name n ≡ name)
Fits (InContainer head kind left) first = (h : Head) × (size : Option ℕ) × (first ≡ Begin h size) × (plain_head h ≡ head)
Fits (InPart slot) first = (s : Slot) × (first ≡ PartBegin s) × (plain_slot s ≡ slot)
Fits frame first = ⊥

abbrev pub Match : List Frame → List Open → Type 0
Match [] [] = ⊤
Match (frame ∷ frames) (newest ∷ older) = Fits frame newest.begin × Match frames older
Match frames spine = ⊥

pub match_row : (fs : List Frame) (newest other : Open) (older : List Open) → newest.begin ≡ other.begin → Match fs (newest ∷ older) → Match fs (other ∷ older)
match_row [] newest other older e m = m
match_row (f ∷ fs) newest other older e m = (subst (λ b. Fits f b) e m.0, m.1)

pub data Holding : List Call → List Frame → Forest → Type 0 where
  outside : {past : List Call} {fs : List Frame} (nodes : Nodes) (spine : List Open) → Match fs spine → Joins past (plain (so_far nodes spine)) → Holding past fs (outside_of nodes spine)
  in_text : {past : List Call} {fs : List Frame} {left : Option ℕ} (nodes : Nodes) (spine : List Open) (before : List Call) (size : Option ℕ) (pieces : List (List ℕ)) (held : HeldBytes)
      → Match fs spine → Joins before (plain (so_far nodes spine)) → past ≡ before ++ (TextBegin size ∷ map (TextFragment false) pieces) → concat pieces ≡ held.bytes
      → Holding past (InText left ∷ fs) (within (Text held) nodes spine)
  in_binary : {past : List Call} {fs : List Frame} {left : Option ℕ} (nodes : Nodes) (spine : List Open) (before : List Call) (size : Option ℕ) (pieces : List (List ℕ)) (held : HeldBytes)
      → Match fs spine → Joins before (plain (so_far nodes spine)) → past ≡ before ++ (BinaryBegin size ∷ map (BinaryFragment false) pieces) → concat pieces ≡ held.bytes
      → Holding past (InBinary left ∷ fs) (within (Binary held) nodes spine)

pub record Next (f : Forest) (call : Call) (past : List Call) (fs : List Frame) : Type 0 where
  pub then : Forest
  pub takes : take f call ≡ Becomes then
  pub holds : Holding past fs then

-- ---- one part more

pub added : (node : Node) (nodes : Nodes) (spine : List Open) (fs : List Frame) (past one : List Call) → Match fs spine → Joins past (plain (so_far nodes spine)) → Joins one (plain (node_calls node))
    → Holding (past ++ one) fs (add node (outside_of nodes spine))
added node nodes [] fs past one m j k =
    let e : row_calls (nodes and node) ++ [] ≡ so_far nodes [] ++ node_calls node = append-nil (row_calls nodes ++ node_calls node) ∙ ap (λ x. x ++ node_calls node) (sym (append-nil (row_calls nodes))) in
    let all = joins-append j k in
    outside (nodes and node) [] m (subst (λ x. Joins (past ++ one) x) (sym (ap plain e ∙ filter_map-append plain_call (so_far nodes []) (node_calls node))) all)
added node nodes (newest ∷ older) fs past one m j k =
    let last : Open = record { begin = newest.begin; nodes = newest.nodes and node } in
    let e : so_far nodes (last ∷ older) ≡ so_far nodes (newest ∷ older) ++ node_calls node =
    ap (λ x. row_calls nodes ++ x) (sym (append_assoc (open_calls older) (newest.begin ∷ row_calls newest.nodes) (node_calls node)))
    ∙ sym (append_assoc (row_calls nodes) (open_calls older ++ (newest.begin ∷ row_calls newest.nodes)) (node_calls node)) in
    outside nodes (last ∷ older) (match_row fs newest last older refl m)
    (subst (λ x. Joins (past ++ one) x) (sym (ap plain e ∙ filter_map-append plain_call (so_far nodes (newest ∷ older)) (node_calls node))) (joins-append j k))

pub opened : (frame : Frame) (call : Call) (nodes : Nodes) (spine : List Open) (fs : List Frame) (past one : List Call) → Fits frame call → Match fs spine → Joins past (plain (so_far nodes spine))
    → Joins one (plain (call ∷ [])) → Holding (past ++ one) (frame ∷ fs) (begun call (outside_of nodes spine))
opened frame call nodes spine fs past one f m j k =
    let newest : Open = record { begin = call; nodes = none } in
    let e : so_far nodes (newest ∷ spine) ≡ so_far nodes spine ++ (call ∷ []) = sym (append_assoc (row_calls nodes) (open_calls spine) (call ∷ [])) in
    outside nodes (newest ∷ spine) (f, m) (subst (λ x. Joins (past ++ one) x) (sym (ap plain e ∙ filter_map-append plain_call (so_far nodes spine) (call ∷ []))) (joins-append j k))

-- the end of the newest container: its calls are those before it and its end
pub closed_calls : (nodes : Nodes) (newest : Open) (older : List Open) → so_far nodes older ++ node_calls (Container newest.begin newest.nodes) ≡ so_far nodes (newest ∷ older) ++ (end_of newest.begin ∷ [])
closed_calls nodes newest older =
    append_assoc (row_calls nodes) (open_calls older) (newest.begin ∷ (row_calls newest.nodes ++ (end_of newest.begin ∷ [])))
    ∙ ap (λ x. row_calls nodes ++ x) (sym (append_assoc (open_calls older) (newest.begin ∷ row_calls newest.nodes) (end_of newest.begin ∷ [])))
    ∙ sym (append_assoc (row_calls nodes) (open_calls older ++ (newest.begin ∷ row_calls newest.nodes)) (end_of newest.begin ∷ []))

pub added_so_far : (node : Node) (nodes : Nodes) (spine : List Open) (fs : List Frame) (past : List Call) → Match fs spine → Joins past (plain (so_far nodes spine ++ node_calls node))
    → Holding past fs (add node (outside_of nodes spine))
added_so_far node nodes [] fs past m j =
    let e : row_calls (nodes and node) ++ [] ≡ so_far nodes [] ++ node_calls node = append-nil (row_calls nodes ++ node_calls node) ∙ ap (λ x. x ++ node_calls node) (sym (append-nil (row_calls nodes))) in
    outside (nodes and node) [] m (subst (λ x. Joins past (plain x)) (sym e) j)
added_so_far node nodes (newest ∷ older) fs past m j =
    let last : Open = record { begin = newest.begin; nodes = newest.nodes and node } in
    let e : so_far nodes (last ∷ older) ≡ so_far nodes (newest ∷ older) ++ node_calls node =
    ap (λ x. row_calls nodes ++ x) (sym (append_assoc (open_calls older) (newest.begin ∷ row_calls newest.nodes) (node_calls node)))
    ∙ sym (append_assoc (row_calls nodes) (open_calls older ++ (newest.begin ∷ row_calls newest.nodes)) (node_calls node)) in
    outside nodes (last ∷ older) (match_row fs newest last older refl m) (subst (λ x. Joins past (plain x)) (sym e) j)

pub closed : (nodes : Nodes) (newest : Open) (older : List Open) (fs : List Frame) (past : List Call) (c : Call) → is_other c ≡ true → plain (end_of newest.begin ∷ []) ≡ c ∷ [] → Match fs older
    → Joins past (plain (so_far nodes (newest ∷ older))) → Holding (past ++ (c ∷ [])) fs (add (Container newest.begin newest.nodes) (outside_of nodes older))
closed nodes newest older fs past c h e m j =
    added_so_far (Container newest.begin newest.nodes) nodes older fs (past ++ (c ∷ [])) m
    (subst (λ x. Joins (past ++ (c ∷ [])) (plain x)) (sym (closed_calls nodes newest older))
    (subst (λ x. Joins (past ++ (c ∷ [])) x) (sym (filter_map-append plain_call (so_far nodes (newest ∷ older)) (end_of newest.begin ∷ [])))
    (joins-append j (subst (λ x. Joins (c ∷ []) x) (sym e) (as_is c h nothing)))))

-- ---- names: the end that replay makes is the end that was taken

pub tagged_end_is : (first : Call) (name ended : Name) → Fits (InTagged name) first → ended ≡ bare_name name → plain (end_of first ∷ []) ≡ TaggedEnd ended ∷ []
tagged_end_is first name ended (n, b, p) e =
    ap (λ x. plain (end_of x ∷ [])) b ∙ ap (λ x. TaggedEnd x ∷ []) (sym (bare_plain_name n) ∙ ap bare_name p ∙ sym e)

pub enum_end_is : (first : Call) (name ended : Name) → Fits (InEnum name) first → ended ≡ bare_name name → plain (end_of first ∷ []) ≡ EnumEnd ended ∷ []
enum_end_is first name ended (n, b, p) e =
    ap (λ x. plain (end_of x ∷ [])) b ∙ ap (λ x. EnumEnd x ∷ []) (sym (bare_plain_name n) ∙ ap bare_name p ∙ sym e)

pub end_is : (first : Call) (head ended : Head) (kind : tree.Kind) (left : Option ℕ) → Fits (InContainer head kind left) first → ended ≡ bare_head head → plain (end_of first ∷ []) ≡ End ended ∷ []
end_is first head ended kind left (h, size, b, p) e =
    ap (λ x. plain (end_of x ∷ [])) b ∙ ap (λ x. End x ∷ []) (sym (bare_plain_head h) ∙ ap bare_head p ∙ sym e)

pub part_end_is : (first : Call) (slot ended : Slot) → Fits (InPart slot) first → ended ≡ bare_slot slot → plain (end_of first ∷ []) ≡ PartEnd ended ∷ []
part_end_is first slot ended (s, b, p) e =
    ap (λ x. plain (end_of x ∷ [])) b ∙ ap (λ x. PartEnd x ∷ []) (sym (bare_plain_slot s) ∙ ap bare_slot p ∙ sym e)
