-- A fragment that is pushed into the parts of the program.
use Rattle.std.specs.Prelude.{◌≡◌, ℕ, suc, ◌+◌, ◌-◌, ◌<◌, Bool, List, [], ◌∷◌, ◌++◌, length, map, Option, Some, None, option_map, Result, Ok, Err, refl, slice_set, slice_index_or}
use Rattle.std.proofs.Common.{sym, ap, ◌∙◌, subst, arith, length-append}
use Rattle.std.proofs.lemmas.List.{map-append}
use Rattle.std.proofs.Math.Seq.{set-append_seam}
use Rattle.sval_buffer.specs.Pushes.{HeldBytes, pushed}
use Rattle.sval_buffer.specs.Forest.{Node, Single, Text, Binary, Container, Nodes, none, ◌and◌, Open, Forest, newest_row, with_row, held_as, push_node, push_last, CaptureAnswer, Becomes, Rejects, row_or, outside, push_into, push_may_grow, held_last, fragment_may_grow}
use Rattle.sval_buffer.specs.Flat as flat
use Rattle.sval_buffer.specs.Flat.{FlatKind, FlatPart, flat_part, flat_node, flat_row, flat_spine, push_flat}
use Rattle.sval_buffer.specs.declared.part.Medium.{Medium}
use Rattle.sval_buffer.specs.declared.part.Medium.TheVariants as media
use Rattle.sval_buffer.specs.FlatForest.{open_places}
use Rattle.sval_buffer.specs.Holders.{holders, holders_node, holders_row, holders_spine, newest_place}
use Rattle.sval_buffer.specs.SeenParts.{SeenPart, flat_part_of, holder, TellsForest, Pushed, FragmentPushes, IsPushCause}
use Rattle.sval_buffer.specs.declared.error.ErrorKind.{ErrorKind}
use Rattle.sval_buffer.specs.Capture.{Captures, IsCaptureCause, error_of}
use Rattle.sval_buffer.proofs.Flat.{map_map, push-flat, held_flat, held_flat-append, held-flat}
use Rattle.sval_buffer.proofs.Steps.{Is, is_told, tells_it, within_it, within-row, nothing}

-- the parts end in this one
pub record EndsIn {X : Type 0} (parts : List X) (last : X) : Type 0 where
  pub front : List X
  pub parts_are : parts ≡ front ++ (last ∷ [])

ends_later : {X : Type 0} (xs : List X) (x : X) → EndsIn xs x → (y : X) → EndsIn (y ∷ xs) x
ends_later xs x e y = record { front = y ∷ e.front; parts_are = ap (λ ys. y ∷ ys) e.parts_are }

pub ends_in : {X : Type 0} (parts : List X) (last : X) → 0 < length parts → last ≡ slice_index_or parts (length parts - 1) last → EndsIn parts last
ends_in [] last h e = absurd (omega arith)
ends_in (x ∷ []) last h e = record { front = []; parts_are = ap (λ y. y ∷ []) (sym e) }
ends_in (x ∷ next ∷ parts) last h e =
    let i : length (x ∷ next ∷ parts) - 1 ≡ suc (length (next ∷ parts) - 1) = omega arith in
    ends_later (next ∷ parts) last (ends_in (next ∷ parts) last (omega arith) (rw i at e)) x

pub set-last : {X : Type 0} (parts front : List X) (last next : X) → parts ≡ front ++ (last ∷ []) → slice_set parts (length parts - 1) next ≡ front ++ (next ∷ [])
set-last parts front last next e =
    let n : length (front ++ (last ∷ [])) - 1 ≡ length front = omega (arith, length-append front (last ∷ [])) in
    ap (λ xs. slice_set xs (length xs - 1) next) e ∙ ap (λ i. slice_set (front ++ (last ∷ [])) i next) n ∙ set-append_seam front last [] next

-- a leaf is held by what held it
of_leaf : (place : ℕ) (h : Option ℕ) (node : HeldBytes → Node) → ((held : HeldBytes) → holders_node place h (node held) ≡ h ∷ []) → (next : Node) (o : Option HeldBytes)
    → option_map node o ≡ Some next → holders_node place h next ≡ h ∷ []
of_leaf place h node is next None e = cc e
of_leaf place h node is next (Some held) e = let same : next ≡ node held = cc e in ap (holders_node place h) same ∙ is held

module _ (medium : Medium) (fragment : HeldBytes) where
  push-last : (xs : List FlatPart) (y : FlatPart) → push_flat medium fragment (xs ++ (y ∷ [])) ≡ option_map (λ k. xs ++ (flat_part k y.holds ∷ [])) (flat.push_part medium fragment y.kind)
  push-last [] y = refl
  push-last (x ∷ []) y = map_map (λ k. flat_part k y.holds ∷ []) (λ rest. x ∷ rest) (flat.push_part medium fragment y.kind)
  push-last (x ∷ next ∷ xs) y = ap (option_map (λ rest. x ∷ rest)) (push-last (next ∷ xs) y) ∙ map_map (λ k. (next ∷ xs) ++ (flat_part k y.holds ∷ [])) (λ rest. x ∷ rest) (flat.push_part medium fragment y.kind)

  mutual
    holders-node : (node next : Node) (place : ℕ) (h : Option ℕ) → push_node medium fragment node ≡ Some next
        → (holders_node place h next ≡ holders_node place h node)
    holders-node (Single call) next place h e = cc e
    holders-node (Text held) next place h e = of_leaf place h (λ text. Text (pushed text fragment)) (λ text. refl) next (held_as medium media.Text held) e
    holders-node (Binary held) next place h e = of_leaf place h (λ binary. Binary (pushed binary fragment)) (λ binary. refl) next (held_as medium media.Binary held) e
    holders-node (Container begin nodes) next place h e = go (push_last medium fragment nodes) (λ row. holders-last nodes row (place + 1) (Some place)) e
      where
        go : (o : Option Nodes) → ((row : Nodes) → o ≡ Some row → holders_row (place + 1) (Some place) row ≡ holders_row (place + 1) (Some place) nodes)
            → option_map (Container begin) o ≡ Some next → holders_node place h next ≡ h ∷ holders_row (place + 1) (Some place) nodes
        go None f e = cc e
        go (Some row) f e = let same : next ≡ Container begin row = cc e in ap (holders_node place h) same ∙ ap (λ rest. h ∷ rest) (f row refl)

    holders-last : (nodes row : Nodes) (place : ℕ) (h : Option ℕ) → push_last medium fragment nodes ≡ Some row
        → holders_row place h row ≡ holders_row place h nodes
    holders-last none row place h e = cc e
    holders-last (nodes and node) row place h e = go (push_node medium fragment node) (λ last. holders-node node last (place + length (flat_row nodes)) h) e
      where
        go : (o : Option Node) → ((last : Node) → o ≡ Some last → holders_node (place + length (flat_row nodes)) h last ≡ holders_node (place + length (flat_row nodes)) h node)
            → option_map (λ last. nodes and last) o ≡ Some row → holders_row place h row ≡ holders_row place h nodes ++ holders_node (place + length (flat_row nodes)) h node
        go None f e = cc e
        go (Some last) f e = let same : row ≡ (nodes and last) = cc e in ap (holders_row place h) same ∙ ap (λ rest. holders_row place h nodes ++ rest) (f last refl)

  holders-push : (nodes : Nodes) (spine : List Open) (within : Bool) (row : Nodes) → push_last medium fragment (newest_row nodes spine) ≡ Some row
      → holders (with_row row nodes spine within) ≡ holders_spine nodes spine
  holders-push nodes [] within row e = holders-last nodes row 0 None e
  holders-push nodes (newest ∷ older) within row e =
      let place = length (flat_row nodes ++ flat_spine older) in
      ap (λ rest. holders_spine nodes older ++ (newest_place nodes older ∷ rest)) (holders-last newest.nodes row (place + 1) (Some place) e)

  open-push : (nodes : Nodes) (spine : List Open) (within : Bool) (row : Nodes) → push_last medium fragment (newest_row nodes spine) ≡ Some row
      → (let g = with_row row nodes spine within in open_places g.nodes g.spine) ≡ open_places nodes spine
  open-push nodes [] within row e = refl
  open-push nodes (newest ∷ older) within row e = refl

  module _ {parts : List SeenPart} {places : List ℕ} {within : Bool} {f : Forest} (last : SeenPart) (is : Is parts places within f) (ends : EndsIn parts last) where
    -- what the flat list makes of it
    flat-pushed : option_map (λ row. flat.flat (with_row row f.nodes f.spine f.in_fragments)) (push_last medium fragment (newest_row f.nodes f.spine))
        ≡ option_map (λ k. map flat_part_of ends.front ++ (flat_part k last.holds ∷ [])) (flat.push_part medium fragment last.kind)
    flat-pushed =
        push-flat medium fragment f.nodes f.spine f.in_fragments
        ∙ ap (push_flat medium fragment) (sym (tells_it is).parts_are ∙ ap (map flat_part_of) ends.parts_are ∙ map-append flat_part_of ends.front (last ∷ []))
        ∙ push-last (map flat_part_of ends.front) (flat_part_of last)

    abbrev answer : CaptureAnswer
    answer = row_or (outside medium) f (push_last medium fragment (newest_row f.nodes f.spine))

    pub push_refused : flat.push_part medium fragment last.kind ≡ None → answer ≡ Rejects (outside medium)
    push_refused none_is = go (push_last medium fragment (newest_row f.nodes f.spine)) (flat-pushed ∙ ap (option_map (λ k. map flat_part_of ends.front ++ (flat_part k last.holds ∷ []))) none_is)
      where
        go : (o : Option Nodes) → option_map (λ row. flat.flat (with_row row f.nodes f.spine f.in_fragments)) o ≡ None → row_or (outside medium) f o ≡ Rejects (outside medium)
        go None e = refl
        go (Some row) e = cc e

    pub record Pushes (kind : FlatKind) : Type 0 where
      pub row : Nodes
      pub row_is : push_last medium fragment (newest_row f.nodes f.spine) ≡ Some row
      pub flat_is : flat.flat (with_row row f.nodes f.spine f.in_fragments) ≡ map flat_part_of ends.front ++ (flat_part kind last.holds ∷ [])

    pub push_taken : (kind : FlatKind) → flat.push_part medium fragment last.kind ≡ Some kind → Pushes kind
    push_taken kind some = go (push_last medium fragment (newest_row f.nodes f.spine)) refl (flat-pushed ∙ ap (option_map (λ k. map flat_part_of ends.front ++ (flat_part k last.holds ∷ []))) some)
      where
        go : (o : Option Nodes) → push_last medium fragment (newest_row f.nodes f.spine) ≡ o
            → option_map (λ row. flat.flat (with_row row f.nodes f.spine f.in_fragments)) o ≡ Some (map flat_part_of ends.front ++ (flat_part kind last.holds ∷ [])) → Pushes kind
        go None e g = cc g
        go (Some row) e g = let same : flat.flat (with_row row f.nodes f.spine f.in_fragments) ≡ map flat_part_of ends.front ++ (flat_part kind last.holds ∷ []) = cc g in
            record { row = row; row_is = e; flat_is = same }

    pub is_pushed : (next : SeenPart) (p : Pushed (flat.push_part medium fragment last.kind) last next) → let o = push_taken next.kind p.kind in Is (ends.front ++ (next ∷ [])) places within (with_row o.row f.nodes f.spine f.in_fragments)
    is_pushed next p =
        let o = push_taken next.kind p.kind in
        let g = with_row o.row f.nodes f.spine f.in_fragments in
        let t : TellsForest (ends.front ++ (next ∷ [])) places g = record {
          parts_are = map-append flat_part_of ends.front (next ∷ []) ∙ ap (λ holds. map flat_part_of ends.front ++ (flat_part next.kind holds ∷ [])) p.holds ∙ sym o.flat_is;
          places_are = (tells_it is).places_are ∙ sym (open-push f.nodes f.spine f.in_fragments o.row o.row_is);
          holders_are = map-append holder ends.front (next ∷ []) ∙ ap (λ h. map holder ends.front ++ (h ∷ [])) p.holder ∙ sym (map-append holder ends.front (last ∷ [])) ∙ ap (map holder) (sym ends.parts_are)
              ∙ (tells_it is).holders_are ∙ sym (holders-push f.nodes f.spine f.in_fragments o.row o.row_is);
        } in
        is_told (ends.front ++ (next ∷ [])) places within g t (within_it is ∙ sym (within-row o.row f.nodes f.spine f.in_fragments))

    pub push_answers : (next : SeenPart) (p : Pushed (flat.push_part medium fragment last.kind) last next) → let o = push_taken next.kind p.kind in answer ≡ Becomes (with_row o.row f.nodes f.spine f.in_fragments)
    push_answers next p = let o = push_taken next.kind p.kind in ap (row_or (outside medium) f) o.row_is

  -- nothing takes a fragment
  pub push_nothing : {parts : List SeenPart} {places : List ℕ} {within : Bool} {f : Forest} → Is parts places within f → length parts ≡ 0
      → row_or (outside medium) f (push_last medium fragment (newest_row f.nodes f.spine)) ≡ Rejects (outside medium)
  push_nothing {parts} {f = f} is h =
      let e = nothing parts h in
      go (push_last medium fragment (newest_row f.nodes f.spine)) (push-flat medium fragment f.nodes f.spine f.in_fragments ∙ ap (push_flat medium fragment) (sym (ap (map flat_part_of) (sym e) ∙ (tells_it is).parts_are)))
    where
      go : (o : Option Nodes) → option_map (λ row. flat.flat (with_row row f.nodes f.spine f.in_fragments)) o ≡ None → row_or (outside medium) f o ≡ Rejects (outside medium)
      go None e = refl
      go (Some row) e = cc e

  -- what the last part holds of the medium, the forest's last part does
  last-held : {parts : List SeenPart} {places : List ℕ} {within : Bool} {f : Forest} (last : SeenPart) → Is parts places within f → EndsIn parts last
      → held_last medium (newest_row f.nodes f.spine) ≡ flat.held_part medium last.kind
  last-held {f = f} last is ends =
      held-flat medium f.nodes f.spine
      ∙ ap (held_flat medium) (sym (tells_it is).parts_are ∙ ap (map flat_part_of) ends.parts_are ∙ map-append flat_part_of ends.front (last ∷ []))
      ∙ held_flat-append medium (map flat_part_of ends.front) (flat_part_of last) []

  -- what a part answers to a fragment, the whole buffer answers
  pub record PushesBy (parts : List SeenPart) (places : List ℕ) (within : Bool) (f : Forest) (r : Result (Unit {0}) ErrorKind) : Type 0 where
    pub next : Forest
    pub is : Is parts places within next
    pub answers : Captures (fragment_may_grow medium fragment.borrowed f) (push_into medium fragment f) f r next

  -- why a fragment is refused, by what the last part holds of the medium and what it becomes of it
  cause_of-held : (o : Option HeldBytes) (kind : HeldBytes → FlatKind) (grows : Bool) (a : CaptureAnswer) (why : ErrorKind) → IsPushCause medium fragment o why → grows ≡ push_may_grow fragment.borrowed o
      → (option_map kind o ≡ None → a ≡ Rejects (outside medium)) → ((k : FlatKind) → option_map kind o ≡ Some k → (next : Forest) × (a ≡ Becomes next)) → IsCaptureCause grows a why
  cause_of-held None kind grows a why cause same refused taken = subst (λ x. IsCaptureCause grows x why) (sym (refused refl)) cause
  cause_of-held (Some held) kind grows a why cause same refused taken =
      let t = taken (kind held) refl in
      subst (λ x. IsCaptureCause grows x why) (sym t.1) (record { no_alloc = cause.no_alloc; takes_memory = same ∙ cause.takes_memory })

  cause_of : (last : FlatKind) (grows : Bool) (a : CaptureAnswer) (why : ErrorKind) → IsPushCause medium fragment (flat.held_part medium last) why → grows ≡ push_may_grow fragment.borrowed (flat.held_part medium last)
      → (flat.push_part medium fragment last ≡ None → a ≡ Rejects (outside medium)) → ((k : FlatKind) → flat.push_part medium fragment last ≡ Some k → (next : Forest) × (a ≡ Becomes next)) → IsCaptureCause grows a why
  cause_of (flat.One call) = cause_of-held None flat.Words
  cause_of (flat.Words held) = cause_of-held (held_as medium media.Text held) (λ text. flat.Words (pushed text fragment))
  cause_of (flat.Bytes held) = cause_of-held (held_as medium media.Binary held) (λ binary. flat.Bytes (pushed binary fragment))
  cause_of (flat.Holder begin) = cause_of-held None flat.Words

  pub pushes_by : {parts : List SeenPart} {places : List ℕ} {within : Bool} {f : Forest} (last next : SeenPart) (r : Result (Unit {0}) ErrorKind) → Is parts places within f → (ends : EndsIn parts last)
      → FragmentPushes medium last fragment r next
      → PushesBy (ends.front ++ (next ∷ [])) places within f r
  pushes_by {f = f} last next (Ok done) is ends ok = record {
    next = with_row (push_taken last is ends next.kind ok.kind).row f.nodes f.spine f.in_fragments;
    is = is_pushed last is ends next ok;
    answers = push_answers last is ends next ok;
  }
  pushes_by {parts} {places} {within} {f} last next (Err why) is ends (same, cause) =
      let whole : parts ≡ ends.front ++ (next ∷ []) = ends.parts_are ∙ ap (λ p. ends.front ++ (p ∷ [])) (sym same) in
      record {
        next = f;
        is = subst (λ ps. Is ps places within f) whole is;
        answers = (
          refl,
          cause_of last.kind (fragment_may_grow medium fragment.borrowed f) (push_into medium fragment f) why cause
              (ap (push_may_grow fragment.borrowed) (last-held last is ends))
              (push_refused last is ends)
              (λ kind some. let o = push_taken last is ends kind some in (with_row o.row f.nodes f.spine f.in_fragments, ap (row_or (outside medium) f) o.row_is)),
        );
      }

  pub pushes_nothing : {parts : List SeenPart} {places : List ℕ} {within : Bool} {f : Forest} → Is parts places within f → length parts ≡ 0
      → PushesBy parts places within f (Err (error_of (outside medium)))
  pushes_nothing {f = f} is h = record {
    next = f;
    is = is;
    answers = (refl, subst (λ a. IsCaptureCause (fragment_may_grow medium fragment.borrowed f) a (error_of (outside medium))) (sym (push_nothing is h)) refl);
  }
