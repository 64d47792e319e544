-- Each step of a forest on the parts of the program.
use Rattle.std.specs.Prelude.{◌≡◌, ℕ, suc, ◌+◌, ◌-◌, ◌<◌, zero, Bool, true, false, List, [], ◌∷◌, ◌++◌, length, map, Option, Some, None, Result, Ok, Err, is_ok, if◌then◌else◌, not, refl, slice_set, slice_get, slice_index_or}
use Rattle.std.proofs.Common.{sym, ap, ◌∙◌, subst, arith, length-append}
use Rattle.std.proofs.lemmas.List.{map-append, length-map}
use mathlib.Core.List.{append_assoc}
use Rattle.sval_label.specs.Calls.{Call}
use Rattle.sval_buffer.specs.Forest.{Node, Container, Nodes, none, ◌and◌, Open, Forest, empty_forest, newest_row, with_row, with_flag, add, begun, close, Becomes, is_complete, has_all_ends}
use Rattle.sval_buffer.specs.Flat as flat
use Rattle.sval_buffer.specs.Flat.{FlatKind, FlatPart, flat_part, flat_node, flat_row, flat_spine}
use Rattle.sval_buffer.specs.FlatForest.{open_places, forest_of}
use Rattle.sval_buffer.proofs.BuiltBack.{built_back, some_parts}
use Rattle.sval_buffer.specs.Holders.{holders, holders_node, holders_row, holders_spine, newest_place}
use Rattle.sval_buffer.specs.SeenParts.{SeenPart, flat_part_of, holder, with_length, TellsForest, told}
use Rattle.sval_buffer.proofs.Flat.{flat-add, flat-begun, flat-close}

-- ---- the view

-- the parts and places of a forest tell that forest
pub told_is : (parts : List SeenPart) (places : List ℕ) (within : Bool) (f : Forest) → TellsForest parts places f → within ≡ f.in_fragments → told parts places within ≡ f
told_is parts places within f t e =
    ap (λ (xs : List FlatPart). forest_of xs places within) t.parts_are
    ∙ ap (λ (qs : List ℕ). forest_of (flat.flat f) qs within) t.places_are
    ∙ ap (forest_of (flat.flat f) (open_places f.nodes f.spine)) e
    ∙ built_back f

pub told_within : (parts : List SeenPart) (places : List ℕ) (within : Bool) → (told parts places within).in_fragments ≡ within
unfolding forest_of
told_within parts places within = refl

-- what stands for the forest stands for its view
pub tells_view : (parts : List SeenPart) (places : List ℕ) (within : Bool) (f : Forest) → TellsForest parts places f → within ≡ f.in_fragments → TellsForest parts places (told parts places within)
tells_view parts places within f t e = subst (TellsForest parts places) (sym (told_is parts places within f t e)) t

pub tells_nothing : TellsForest [] [] empty_forest
tells_nothing = record { parts_are = refl; places_are = refl; holders_are = refl }

-- ---- a part at the end

pub holders-add : (node : Node) (nodes : Nodes) (spine : List Open) (within : Bool)
    → holders (add node (record { nodes = nodes; spine = spine; in_fragments = within })) ≡ holders_spine nodes spine ++ holders_node (length (flat_row nodes ++ flat_spine spine)) (newest_place nodes spine) node
holders-add node nodes [] within =
    let e : 0 + length (flat_row nodes) ≡ length (flat_row nodes ++ []) = omega (arith, length-append (flat_row nodes) []) in
    ap (λ place. holders_row 0 None nodes ++ holders_node place None node) e
holders-add node nodes (newest ∷ older) within =
    let place = length (flat_row nodes ++ flat_spine older) in
    let inner = flat_row newest.nodes in
    let own = flat_part (flat.Holder newest.begin) 0 ∷ inner in
    let e : place + 1 + length inner ≡ length (flat_row nodes ++ (flat_spine older ++ own)) =
    omega (arith, ap (λ xs. length xs) (append_assoc (flat_row nodes) (flat_spine older) own), length-append (flat_row nodes ++ flat_spine older) own) in
    let first = holders_spine nodes older in
    let second = newest_place nodes older ∷ holders_row (place + 1) (Some place) newest.nodes in
    sym (append_assoc first second (holders_node (place + 1 + length inner) (Some place) node))
    ∙ ap (λ at. (first ++ second) ++ holders_node at (Some place) node) e

pub open-add : (node : Node) (f : Forest) → let g = add node f in open_places g.nodes g.spine ≡ open_places f.nodes f.spine
open-add node f = go f.nodes f.spine
  where
    go : (nodes : Nodes) (spine : List Open) → let g = add node (record { nodes = nodes; spine = spine; in_fragments = f.in_fragments }) in open_places g.nodes g.spine ≡ open_places nodes spine
    go nodes [] = refl
    go nodes (newest ∷ older) = refl

pub tells-add : (parts : List SeenPart) (places : List ℕ) (f : Forest) (p : SeenPart) (node : Node) → TellsForest parts places f
    → flat_node node ≡ flat_part_of p ∷ [] → ((place : ℕ) (h : Option ℕ) → holders_node place h node ≡ h ∷ []) → p.holder ≡ newest_place f.nodes f.spine
    → TellsForest (parts ++ (p ∷ [])) places (add node f)
tells-add parts places f p node t one own held = record {
  parts_are = map-append flat_part_of parts (p ∷ []) ∙ ap (λ xs. xs ++ (flat_part_of p ∷ [])) t.parts_are ∙ ap (λ xs. flat.flat f ++ xs) (sym one) ∙ sym (flat-add node f.nodes f.spine f.in_fragments);
  places_are = t.places_are ∙ sym (open-add node f);
  holders_are = map-append holder parts (p ∷ []) ∙ ap (λ xs. xs ++ (p.holder ∷ [])) t.holders_are ∙ ap (λ h. holders f ++ (h ∷ [])) held
      ∙ ap (λ xs. holders f ++ xs) (sym (own (length (flat.flat f)) (newest_place f.nodes f.spine))) ∙ sym (holders-add node f.nodes f.spine f.in_fragments);
}

pub tells-begun : (parts : List SeenPart) (places : List ℕ) (f : Forest) (p : SeenPart) (begin : Call) (place : ℕ) → TellsForest parts places f
    → flat_part_of p ≡ flat_part (flat.Holder begin) 0 → p.holder ≡ newest_place f.nodes f.spine → place ≡ length parts
    → TellsForest (parts ++ (p ∷ [])) (places ++ (place ∷ [])) (begun begin f)
tells-begun parts places f p begin place t one held at = record {
  parts_are = map-append flat_part_of parts (p ∷ []) ∙ ap (λ xs. xs ++ (flat_part_of p ∷ [])) t.parts_are ∙ ap (λ x. flat.flat f ++ (x ∷ [])) one ∙ sym (flat-begun begin f);
  places_are = ap (λ qs. qs ++ (place ∷ [])) t.places_are ∙ ap (λ n. open_places f.nodes f.spine ++ (n ∷ [])) (at ∙ sym (length-map parts flat_part_of) ∙ ap (λ xs. length xs) t.parts_are);
  holders_are = map-append holder parts (p ∷ []) ∙ ap (λ xs. xs ++ (p.holder ∷ [])) t.holders_are ∙ ap (λ h. holders f ++ (h ∷ [])) held;
}

-- what is known of an open buffer that is this forest
pub record Is (parts : List SeenPart) (places : List ℕ) (within : Bool) (f : Forest) : Type 0 where
  pub view : told parts places within ≡ f
  pub invariant : TellsForest parts places (told parts places within)

pub is_told : (parts : List SeenPart) (places : List ℕ) (within : Bool) (f : Forest) → TellsForest parts places f → within ≡ f.in_fragments → Is parts places within f
is_told parts places within f t e = record { view = told_is parts places within f t e; invariant = tells_view parts places within f t e }

pub tells_it : {parts : List SeenPart} {places : List ℕ} {within : Bool} {f : Forest} → Is parts places within f → TellsForest parts places f
tells_it {parts} {places} {within} {f} is = subst (TellsForest parts places) is.view is.invariant

pub within_it : {parts : List SeenPart} {places : List ℕ} {within : Bool} {f : Forest} → Is parts places within f → within ≡ f.in_fragments
within_it {parts} {places} {within} {f} is = sym (told_within parts places within) ∙ ap (λ (g : Forest). g.in_fragments) is.view

pub within-row : (row nodes : Nodes) (spine : List Open) (within : Bool) → (with_row row nodes spine within).in_fragments ≡ within
within-row row nodes [] within = refl
within-row row nodes (newest ∷ older) within = refl

pub is_nothing : Is [] [] false empty_forest
is_nothing = is_told [] [] false empty_forest tells_nothing refl

pub is_flagged : {parts : List SeenPart} {places : List ℕ} {within : Bool} {f : Forest} (flag : Bool) → Is parts places within f → Is parts places flag (with_flag flag f)
is_flagged {parts} {places} {f = f} flag is =
    let t = tells_it is in
    is_told parts places flag (with_flag flag f) (record { parts_are = t.parts_are; places_are = t.places_are; holders_are = t.holders_are }) refl

pub seam : {X : Type 0} (xs : List X) (y : X) → slice_get (xs ++ (y ∷ [])) (length xs) ≡ Some y
seam [] y = refl
seam (x ∷ xs) y = seam xs y

-- the place of the newest container without an end is the last of the places
pub last-place : (nodes : Nodes) (spine : List Open) → slice_get (open_places nodes spine) (length (open_places nodes spine) - 1) ≡ newest_place nodes spine
last-place nodes [] = refl
last-place nodes (newest ∷ older) =
    let front = open_places nodes older in
    let place = length (flat_row nodes ++ flat_spine older) in
    let e : length (front ++ (place ∷ [])) - 1 ≡ length front = omega (arith, length-append front (place ∷ [])) in
    ap (slice_get (front ++ (place ∷ []))) e ∙ seam front place

pub is_added : {parts : List SeenPart} {places : List ℕ} {within : Bool} {f : Forest} (p : SeenPart) (node : Node) → Is parts places within f
    → flat_node node ≡ flat_part_of p ∷ [] → ((place : ℕ) (h : Option ℕ) → holders_node place h node ≡ h ∷ []) → p.holder ≡ slice_get places (length places - 1)
    → Is (parts ++ (p ∷ [])) places within (add node f)
is_added {parts} {places} {within} {f} p node is one own held =
    let t = tells_it is in
    let e = held ∙ ap (λ (qs : List ℕ). slice_get qs (length qs - 1)) t.places_are ∙ last-place f.nodes f.spine in
    is_told (parts ++ (p ∷ [])) places within (add node f) (tells-add parts places f p node t one own e)
    (within_it is ∙ sym (within-row (newest_row f.nodes f.spine and node) f.nodes f.spine f.in_fragments))

pub is_begun : {parts : List SeenPart} {places : List ℕ} {within : Bool} {f : Forest} (p : SeenPart) (begin : Call) (place : ℕ) → Is parts places within f
    → flat_part_of p ≡ flat_part (flat.Holder begin) 0 → p.holder ≡ slice_get places (length places - 1) → place ≡ length parts
    → Is (parts ++ (p ∷ [])) (places ++ (place ∷ [])) within (begun begin f)
is_begun {parts} {places} {within} {f} p begin place is one held at =
    let t = tells_it is in
    let e = held ∙ ap (λ (qs : List ℕ). slice_get qs (length qs - 1)) t.places_are ∙ last-place f.nodes f.spine in
    is_told (parts ++ (p ∷ [])) (places ++ (place ∷ [])) within (begun begin f) (tells-begun parts places f p begin place t one e at) (within_it is)

-- ---- an end

pub snoc_inj : {X : Type 0} (xs ys : List X) (x y : X) → xs ++ (x ∷ []) ≡ ys ++ (y ∷ []) → (xs ≡ ys) × (x ≡ y)
snoc_inj [] [] x y e = let same : x ≡ y = cc e in (refl, same)
snoc_inj [] (b ∷ []) x y e = cc e
snoc_inj [] (b ∷ c ∷ ys) x y e = cc e
snoc_inj (a ∷ []) [] x y e = cc e
snoc_inj (a ∷ c ∷ xs) [] x y e = cc e
snoc_inj (a ∷ xs) (b ∷ ys) x y e =
    let heads : a ≡ b = cc e in
    let tails : xs ++ (x ∷ []) ≡ ys ++ (y ∷ []) = cc e in
    let rest = snoc_inj xs ys x y tails in
    let whole : a ∷ xs ≡ b ∷ ys = cc (heads, rest.0) in (whole, rest.1)

-- the newest container without an end, by its place
pub record Newest (nodes : Nodes) (spine : List Open) (places : List ℕ) (place : ℕ) : Type 0 where
  pub newest : Open
  pub older : List Open
  pub spine_is : spine ≡ newest ∷ older
  pub places_are : places ≡ open_places nodes older
  pub place_is : place ≡ length (flat_row nodes ++ flat_spine older)

pub newest_of : (nodes : Nodes) (spine : List Open) (places : List ℕ) (place : ℕ) → places ++ (place ∷ []) ≡ open_places nodes spine → Newest nodes spine places place
newest_of nodes [] [] place e = cc e
newest_of nodes [] (p ∷ places) place e = cc e
newest_of nodes (newest ∷ older) places place e =
    let same = snoc_inj places (open_places nodes older) place (length (flat_row nodes ++ flat_spine older)) e in
    record { newest = newest; older = older; spine_is = refl; places_are = same.0; place_is = same.1 }

pub no_places : (nodes : Nodes) (spine : List Open) → [] ≡ open_places nodes spine → spine ≡ []
no_places nodes [] e = refl
no_places nodes (newest ∷ older) e = go (open_places nodes older) (length (flat_row nodes ++ flat_spine older)) e
  where
    go : (qs : List ℕ) (n : ℕ) → [] ≡ qs ++ (n ∷ []) → newest ∷ older ≡ []
    go [] n e = cc e
    go (q ∷ qs) n e = cc e

pub newest_is : {parts : List SeenPart} {places : List ℕ} {within : Bool} {f : Forest} (rest : List ℕ) (place : ℕ) → Is parts places within f → places ≡ rest ++ (place ∷ []) → Newest f.nodes f.spine rest place
newest_is {f = f} rest place is e = newest_of f.nodes f.spine rest place (sym e ∙ (tells_it is).places_are)

pub none_newest : {parts : List SeenPart} {places : List ℕ} {within : Bool} {f : Forest} → Is parts places within f → places ≡ [] → f.spine ≡ []
none_newest {f = f} is e = no_places f.nodes f.spine (sym e ∙ (tells_it is).places_are)

pub flat-split : (nodes : Nodes) (newest : Open) (older : List Open)
    → flat_row nodes ++ flat_spine (newest ∷ older) ≡ (flat_row nodes ++ flat_spine older) ++ (flat_part (flat.Holder newest.begin) 0 ∷ flat_row newest.nodes)
flat-split nodes newest older = sym (append_assoc (flat_row nodes) (flat_spine older) (flat_part (flat.Holder newest.begin) 0 ∷ flat_row newest.nodes))

pub length-parts : {parts : List SeenPart} {places : List ℕ} {within : Bool} {f : Forest} → Is parts places within f → length parts ≡ length (flat.flat f)
length-parts {parts} is = sym (length-map parts flat_part_of) ∙ ap (λ xs. length xs) (tells_it is).parts_are

-- the newest container without an end is a part
pub place_within : {parts : List SeenPart} {places : List ℕ} {within : Bool} {f : Forest} (rest : List ℕ) (place : ℕ) → Is parts places within f → places ≡ rest ++ (place ∷ []) → place < length parts
place_within {parts} {places} {within} {f} rest place is e =
    let n = newest_is rest place is e in
    let front = flat_row f.nodes ++ flat_spine n.older in
    let own = flat_part (flat.Holder n.newest.begin) 0 ∷ flat_row n.newest.nodes in
    let size : length parts ≡ length (front ++ own) = length-parts is ∙ ap (λ spine. length (flat_row f.nodes ++ flat_spine spine)) n.spine_is ∙ ap (λ xs. length xs) (flat-split f.nodes n.newest n.older) in
    omega (arith, size, n.place_is, length-append front own)

pub map-set : {X Y : Type 0} (g : X → Y) (xs : List X) (i : ℕ) (y : X) → map g (slice_set xs i y) ≡ slice_set (map g xs) i (g y)
map-set g [] i y = refl
map-set g (x ∷ xs) zero y = refl
map-set g (x ∷ xs) (suc i) y = ap (λ rest. g x ∷ rest) (map-set g xs i y)

pub set-same : {X : Type 0} (xs : List X) (i : ℕ) (d : X) → slice_set xs i (slice_index_or xs i d) ≡ xs
set-same [] i d = refl
set-same (x ∷ xs) zero d = refl
set-same (x ∷ xs) (suc i) d = ap (λ rest. x ∷ rest) (set-same xs i d)

pub get-map : {X Y : Type 0} (g : X → Y) (xs : List X) (i : ℕ) (d : X) → i < length xs → (e : Y) → slice_index_or (map g xs) i e ≡ g (slice_index_or xs i d)
get-map g [] i d h e = absurd (omega arith)
get-map g (x ∷ xs) zero d h e = refl
get-map g (x ∷ xs) (suc i) d h e = get-map g xs i d (omega arith) e

pub get-seam : {X : Type 0} (xs : List X) (y : X) (ys : List X) (d : X) → slice_index_or (xs ++ (y ∷ ys)) (length xs) d ≡ y
get-seam [] y ys d = refl
get-seam (x ∷ xs) y ys d = get-seam xs y ys d

pub held-kind : (p : SeenPart) (begin : Call) (n : ℕ) → p.kind ≡ flat.Holder begin → flat_part_of (with_length p n) ≡ flat_part (flat.Holder begin) n
held-kind p begin n e = rw e refl

pub holders-closed : (nodes : Nodes) (newest : Open) (older : List Open) (within : Bool)
    → holders (add (Container newest.begin newest.nodes) (record { nodes = nodes; spine = older; in_fragments = within })) ≡ holders_spine nodes (newest ∷ older)
holders-closed nodes newest older within = holders-add (Container newest.begin newest.nodes) nodes older within

module _ {parts : List SeenPart} {places : List ℕ} {within : Bool} {f : Forest} (rest : List ℕ) (place : ℕ) (d p : SeenPart) (is : Is parts places within f) (e : places ≡ rest ++ (place ∷ []))
    (same : p ≡ (let old = slice_index_or parts place d in with_length old (length parts - place - 1))) where
  abbrev n : Newest f.nodes f.spine rest place
  n = newest_is rest place is e

  abbrev front : List FlatPart
  front = flat_row f.nodes ++ flat_spine n.older

  abbrev head : FlatPart
  head = flat_part (flat.Holder n.newest.begin) 0

  abbrev old : SeenPart
  old = slice_index_or parts place d

  flat_is : flat.flat f ≡ flat_row f.nodes ++ flat_spine (n.newest ∷ n.older)
  flat_is = ap (λ spine. flat_row f.nodes ++ flat_spine spine) n.spine_is

  split_is : flat.flat f ≡ front ++ (head ∷ flat_row n.newest.nodes)
  split_is = flat_is ∙ flat-split f.nodes n.newest n.older

  old_is : flat_part_of old ≡ head
  old_is =
      sym (get-map flat_part_of parts place d (place_within rest place is e) head)
      ∙ ap (λ xs. slice_index_or xs place head) ((tells_it is).parts_are ∙ split_is)
      ∙ ap (λ i. slice_index_or (front ++ (head ∷ flat_row n.newest.nodes)) i head) n.place_is
      ∙ get-seam front head (flat_row n.newest.nodes) head

  new_is : flat_part_of p ≡ flat_part (flat.Holder n.newest.begin) (length (flat.flat f) - place - 1)
  new_is =
      ap flat_part_of same
      ∙ held-kind old n.newest.begin (length parts - place - 1) (ap (λ (x : FlatPart). x.kind) old_is)
      ∙ ap (λ k. flat_part (flat.Holder n.newest.begin) (k - place - 1)) (length-parts is)

  abbrev closed_by : List FlatPart → ℕ → List FlatPart
  closed_by xs i = slice_set xs i (flat_part (flat.Holder n.newest.begin) (length xs - i - 1))

  closed_parts : map flat_part_of (slice_set parts place p) ≡ flat.flat (add (Container n.newest.begin n.newest.nodes) (record { nodes = f.nodes; spine = n.older; in_fragments = f.in_fragments }))
  closed_parts =
      map-set flat_part_of parts place p
      ∙ ap (λ xs. slice_set xs place (flat_part_of p)) (tells_it is).parts_are
      ∙ ap (slice_set (flat.flat f) place) new_is
      ∙ ap (λ xs. closed_by xs place) flat_is
      ∙ ap (closed_by (flat_row f.nodes ++ flat_spine (n.newest ∷ n.older))) n.place_is
      ∙ sym (flat-close f.nodes n.newest n.older f.in_fragments)

  closed_holders : map holder (slice_set parts place p) ≡ holders f
  closed_holders =
      map-set holder parts place p
      ∙ ap (λ (x : SeenPart). slice_set (map holder parts) place x.holder) same
      ∙ ap (slice_set (map holder parts) place) (sym (get-map holder parts place d (place_within rest place is e) None))
      ∙ set-same (map holder parts) place None
      ∙ (tells_it is).holders_are

  pub is_closed : Is (slice_set parts place p) rest within (add (Container n.newest.begin n.newest.nodes) (record { nodes = f.nodes; spine = n.older; in_fragments = f.in_fragments }))
  is_closed =
      let node = Container n.newest.begin n.newest.nodes in
      let before : Forest = record { nodes = f.nodes; spine = n.older; in_fragments = f.in_fragments } in
      let t : TellsForest (slice_set parts place p) rest (add node before) = record {
        parts_are = closed_parts;
        places_are = n.places_are ∙ sym (open-add node before);
        holders_are = closed_holders ∙ ap (holders_spine f.nodes) n.spine_is ∙ sym (holders-closed f.nodes n.newest n.older f.in_fragments);
      } in
      is_told (slice_set parts place p) rest within (add node before) t (within_it is ∙ sym (within-row (newest_row f.nodes n.older and node) f.nodes n.older f.in_fragments))

  pub closes : close f.nodes f.spine f.in_fragments ≡ Becomes (add (Container n.newest.begin n.newest.nodes) (record { nodes = f.nodes; spine = n.older; in_fragments = f.in_fragments }))
  closes = ap (λ spine. close f.nodes spine f.in_fragments) n.spine_is

-- ---- a part that was kept, or not

pub was_pushed : {X T E : Type 0} (r : Result T E) {new : List X} (xs ys : List X) → new ≡ (if is_ok r then ys else xs) → is_ok r ≡ true → new ≡ ys
was_pushed (Ok x) xs ys e h = e
was_pushed (Err x) xs ys e h = cc h

-- ---- a buffer that is complete

pub nothing : {X : Type 0} (xs : List X) → length xs ≡ 0 → xs ≡ []
nothing [] h = refl
nothing (x ∷ xs) h = absurd (omega arith)

pub no_row : (nodes : Nodes) (rest : List FlatPart) → [] ≡ flat_row nodes ++ rest → nodes ≡ none
no_row none rest e = refl
no_row (nodes and node) rest e = go (flat_row nodes) (flat_node node) (some_parts node) e
  where
    go : (xs ys : List FlatPart) → 0 < length ys → [] ≡ (xs ++ ys) ++ rest → nodes and node ≡ none
    go (x ∷ xs) ys h e = cc e
    go [] (y ∷ ys) h e = cc e
    go [] [] h e = absurd (omega arith)

pub none_complete : {parts : List SeenPart} {places : List ℕ} {within : Bool} {f : Forest} → Is parts places within f → length parts ≡ 0 → is_complete f ≡ false
none_complete {parts} {f = f} is h =
    let e = nothing parts h in
    ap (λ nodes. has_all_ends nodes f.spine f.in_fragments) (no_row f.nodes (flat_spine f.spine) (ap (map flat_part_of) (sym e) ∙ (tells_it is).parts_are))

pub unended : (nodes : Nodes) (spine : List Open) (within : Bool) → 0 < length (open_places nodes spine) → has_all_ends nodes spine within ≡ false
unended nodes [] within h = absurd (omega arith)
unended none (newest ∷ older) within h = refl
unended (nodes and node) (newest ∷ older) within h = refl

pub open_incomplete : {parts : List SeenPart} {places : List ℕ} {within : Bool} {f : Forest} → Is parts places within f → 0 < length places → is_complete f ≡ false
open_incomplete {f = f} is h = let same = ap (λ xs. length xs) (tells_it is).places_are in unended f.nodes f.spine f.in_fragments (omega (arith, same))

pub ended_all : (nodes : Nodes) (within : Bool) → 0 < length (flat_row nodes ++ []) → has_all_ends nodes [] within ≡ not within
ended_all none within h = absurd (omega arith)
ended_all (nodes and node) within h = refl

pub complete_is : {parts : List SeenPart} {places : List ℕ} {within : Bool} {f : Forest} → Is parts places within f → 0 < length parts → length places ≡ 0 → not within ≡ is_complete f
complete_is {parts} {places} {within} {f} is h none_open =
    let e = nothing places none_open in
    let spine = none_newest is e in
    let size : length parts ≡ length (flat_row f.nodes ++ []) = length-parts is ∙ ap (λ open_spine. length (flat_row f.nodes ++ flat_spine open_spine)) spine in
    let some : 0 < length (flat_row f.nodes ++ []) = omega arith in
    ap not (within_it is) ∙ sym (ended_all f.nodes f.in_fragments some) ∙ ap (λ open_spine. has_all_ends f.nodes open_spine f.in_fragments) (sym spine)
