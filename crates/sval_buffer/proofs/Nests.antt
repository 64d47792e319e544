-- In the parts of a forest each part is held by the newest container that goes on there.
use Rattle.std.specs.Prelude.{◌≡◌, ℕ, suc, ◌+◌, ◌≤◌, ◌<◌, ◌==◌, nat_le, true, false, List, [], ◌∷◌, ◌++◌, length, map, Option, Some, None, refl, slice_get}
use Rattle.std.proofs.Common.{sym, ap, ◌∙◌, subst, arith, length-append}
use Rattle.std.proofs.lemmas.Bool.Decides.{nat_tests}
use mathlib.Core.List.{append_assoc, append-nil}
use Rattle.sval_label.specs.Calls.{Call}
use Rattle.sval_buffer.specs.Forest.{Node, Single, Text, Binary, Container, Nodes, none, ◌and◌, Open, Forest, end_of}
use Rattle.sval_buffer.specs.Flat as flat
use Rattle.sval_buffer.specs.Flat.{FlatKind, FlatPart, flat_part}
use Rattle.sval_buffer.proofs.BuiltBack.{some_parts}
use Rattle.sval_buffer.specs.Flat.{flat_node, flat_row, flat_spine}
use Rattle.sval_buffer.specs.Holders.{holders, holders_node, holders_row, holders_spine, newest_place}
use Rattle.sval_buffer.specs.SeenParts.{SeenPart, flat_part_of, TellsForest}
use Rattle.sval_buffer.specs.Nested.{Going, still, opens_part, newest_place_of, outer_at, outer_of, Nested, IsNested}

-- ---- places in the whole list

record At (whole : List FlatPart) (i : ℕ) (rest : List FlatPart) : Type 0 where
  front : List FlatPart
  whole_is : whole ≡ front ++ rest
  count : length front ≡ i

seam : (xs : List FlatPart) (y : FlatPart) (ys : List FlatPart) → slice_get (xs ++ (y ∷ ys)) (length xs) ≡ Some y
seam [] y ys = refl
seam (x ∷ xs) y ys = seam xs y ys

at_get : {whole : List FlatPart} {i : ℕ} {p : FlatPart} {rest : List FlatPart} → At whole i (p ∷ rest) → slice_get whole i ≡ Some p
at_get {whole} {i} {p} {rest} at =
    ap (λ n. slice_get whole n) (sym at.count) ∙ ap (λ xs. slice_get xs (length at.front)) at.whole_is ∙ seam at.front p rest

at_later : {whole : List FlatPart} {i : ℕ} (xs ys : List FlatPart) → At whole i (xs ++ ys) → At whole (i + length xs) ys
at_later xs ys at = record {
  front = at.front ++ xs;
  whole_is = at.whole_is ∙ sym (append_assoc at.front xs ys);
  count = length-append at.front xs ∙ ap (λ n. n + length xs) at.count;
}

at_next : {whole : List FlatPart} {i : ℕ} (p : FlatPart) (rest : List FlatPart) → At whole i (p ∷ rest) → At whole (i + 1) rest
at_next p rest at = at_later (p ∷ []) rest at

at_same : {whole : List FlatPart} {i : ℕ} {xs ys : List FlatPart} → xs ≡ ys → At whole i xs → At whole i ys
at_same {whole} {i} e at = subst (At whole i) e at

at_moved : {whole : List FlatPart} {i j : ℕ} {xs : List FlatPart} → i ≡ j → At whole i xs → At whole j xs
at_moved {whole} {xs = xs} e at = subst (λ n. At whole n xs) e at

outer_is : {whole : List FlatPart} {i : ℕ} {p : FlatPart} {rest : List FlatPart} → At whole i (p ∷ rest) → outer_of whole (Some i) ≡ outer_at i (Some p)
outer_is {i = i} at = ap (outer_at i) (at_get at)

-- ---- one part more

abbrev Fits : ℕ → ℕ → List Going → Type 0
Fits i k [] = Unit {0}
Fits i k (newest ∷ older) = i + k ≤ newest.pending.stop

still_fits : (i k : ℕ) (gs : List Going) → 0 < k → Fits i k gs → still i gs ≡ gs
still_fits i k [] h f = refl
still_fits i k (newest ∷ older) h f = let e : nat_le newest.pending.stop i ≡ false = grind (arith, nat_tests) in rw e refl

fits-less : (i k m : ℕ) (gs : List Going) → k ≤ m → Fits i m gs → Fits i k gs
fits-less i k m [] h f = tt
fits-less i k m (newest ∷ older) h f = omega arith

fits-later : (i a b : ℕ) (gs : List Going) → Fits i (a + b) gs → Fits (i + a) b gs
fits-later i a b [] f = tt
fits-later i a b (newest ∷ older) f = omega arith

module _ (whole : List FlatPart) where
  moved : (i j : ℕ) (gs : List Going) (parts : List FlatPart) (hs : List (Option ℕ)) → i ≡ j → Nested whole i gs parts hs → Nested whole j gs parts hs
  moved i j gs parts hs e n = subst (λ k. Nested whole k gs parts hs) e n

  nested-leaf : (i k : ℕ) (gs : List Going) (p : FlatPart) (h : Option ℕ) (more : List FlatPart) (hs : List (Option ℕ)) → 0 < k → Fits i k gs → outer_of whole h ≡ newest_place_of gs
      → Nested whole (i + 1) (opens_part i p.holds p.kind gs) more hs → Nested whole i gs (p ∷ more) (h ∷ hs)
  nested-leaf i k gs p h more hs some f held rest =
      let e = still_fits i k gs some f in
      (held ∙ ap newest_place_of (sym e), subst (λ xs. Nested whole (i + 1) (opens_part i p.holds p.kind xs) more hs) (sym e) rest)

  nested-ended : (i : ℕ) (newest : Going) (older : List Going) (parts : List FlatPart) (hs : List (Option ℕ)) → newest.pending.stop ≤ i → Nested whole i older parts hs → Nested whole i (newest ∷ older) parts hs
  nested-ended i newest older [] hs h n = (h, n)
  nested-ended i newest older (p ∷ parts) [] h n = n
  nested-ended i newest older (p ∷ parts) (k ∷ hs) h n =
      let e : nat_le newest.pending.stop i ≡ true = grind (arith, nat_tests) in
      let s : still i older ≡ still i (newest ∷ older) = rw e refl in
      subst (λ xs. (outer_of whole k ≡ newest_place_of xs) × Nested whole (i + 1) (opens_part i p.holds p.kind xs) parts hs) s n

  abbrev gone : ℕ → Call → ℕ → Going
  gone i begin n = record { place = i; pending = record { stop = i + 1 + n; end = end_of begin } }

  held_here : (i n : ℕ) (begin : Call) (rest : List FlatPart) → At whole i (flat_part (flat.Holder begin) n ∷ rest) → 0 < n → outer_of whole (Some i) ≡ Some i
  held_here i n begin rest at h = let e : (n == 0) ≡ false = grind (arith, nat_tests) in outer_is at ∙ rw e refl

  mutual
    nested-node : (i : ℕ) (gs : List Going) (node : Node) (h : Option ℕ) (more : List FlatPart) (hs : List (Option ℕ)) → At whole i (flat_node node ++ more) → Fits i (length (flat_node node)) gs → outer_of whole h ≡ newest_place_of gs
        → Nested whole (i + length (flat_node node)) gs more hs → Nested whole i gs (flat_node node ++ more) (holders_node i h node ++ hs)
    nested-node i gs (Single call) h more hs at f held n = nested-leaf i 1 gs (flat_part (flat.One call) 0) h more hs (omega arith) f held n
    nested-node i gs (Text text) h more hs at f held n = nested-leaf i 1 gs (flat_part (flat.Words text) 0) h more hs (omega arith) f held n
    nested-node i gs (Binary bytes) h more hs at f held n = nested-leaf i 1 gs (flat_part (flat.Bytes bytes) 0) h more hs (omega arith) f held n
    nested-node i gs (Container begin nodes) h more hs at f held n =
        let k = length (flat_row nodes) in
        let p = flat_part (flat.Holder begin) k in
        let inner = holders_row (i + 1) (Some i) nodes in
        nested-leaf i (suc k) gs p h (flat_row nodes ++ more) (inner ++ hs) (omega arith) f held
        (nested-row (i + 1) (gone i begin k ∷ gs) nodes (Some i) more hs (at_next p (flat_row nodes ++ more) at) (omega arith) (λ some. held_here i k begin (flat_row nodes ++ more) at some)
        (nested-ended (i + 1 + k) (gone i begin k) gs more hs (omega arith) (moved (i + suc k) (i + 1 + k) gs more hs (omega arith) n)))

    nested-row : (i : ℕ) (gs : List Going) (nodes : Nodes) (h : Option ℕ) (more : List FlatPart) (hs : List (Option ℕ)) → At whole i (flat_row nodes ++ more) → Fits i (length (flat_row nodes)) gs
        → (0 < length (flat_row nodes) → outer_of whole h ≡ newest_place_of gs)
        → Nested whole (i + length (flat_row nodes)) gs more hs → Nested whole i gs (flat_row nodes ++ more) (holders_row i h nodes ++ hs)
    nested-row i gs none h more hs at f held n = moved (i + 0) i gs more hs (omega arith) n
    nested-row i gs (nodes and node) h more hs at f held n =
        let a = flat_row nodes in
        let b = flat_node node in
        let m = length a in
        let k = length b in
        let count : length (a ++ b) ≡ m + k = length-append a b in
        let some = some_parts node in
        let top_is : outer_of whole h ≡ newest_place_of gs = held (omega arith) in
        let here : At whole i (a ++ (b ++ more)) = at_same (append_assoc a b more) at in
        let there : At whole (i + m) (b ++ more) = at_later a (b ++ more) here in
        let last = moved (i + length (a ++ b)) (i + m + k) gs more hs (omega arith) n in
        let second = nested-node (i + m) gs node h more hs there (fits-later i m k gs (rw count at f)) top_is last in
        let both = nested-row i gs nodes h (b ++ more) (holders_node (i + m) h node ++ hs) here (fits-less i m (length (a ++ b)) gs (omega arith) f) (λ _. top_is) second in
        subst (λ xs. Nested whole i gs xs ((holders_row i h nodes ++ holders_node (i + m) h node) ++ hs)) (sym (append_assoc a b more))
        (subst (λ ks. Nested whole i gs (a ++ (b ++ more)) ks) (sym (append_assoc (holders_row i h nodes) (holders_node (i + m) h node) hs)) both)

  split : (nodes : Nodes) (newest : Open) (older : List Open) (more : List FlatPart)
      → (flat_row nodes ++ flat_spine (newest ∷ older)) ++ more ≡ (flat_row nodes ++ flat_spine older) ++ (flat_part (flat.Holder newest.begin) 0 ∷ (flat_row newest.nodes ++ more))
  split nodes newest older more =
      let own = flat_part (flat.Holder newest.begin) 0 ∷ flat_row newest.nodes in
      ap (λ xs. xs ++ more) (sym (append_assoc (flat_row nodes) (flat_spine older) own)) ∙ append_assoc (flat_row nodes ++ flat_spine older) own more

  -- a container without an end holds no part in replay
  open_here : (nodes : Nodes) (newest : Open) (older : List Open) (more : List FlatPart) → At whole 0 ((flat_row nodes ++ flat_spine (newest ∷ older)) ++ more)
      → At whole (length (flat_row nodes ++ flat_spine older)) (flat_part (flat.Holder newest.begin) 0 ∷ (flat_row newest.nodes ++ more))
  open_here nodes newest older more at =
      at_moved (omega arith) (at_later (flat_row nodes ++ flat_spine older) (flat_part (flat.Holder newest.begin) 0 ∷ (flat_row newest.nodes ++ more)) (at_same (split nodes newest older more) at))

  none_held : (nodes : Nodes) (spine : List Open) (more : List FlatPart) → At whole 0 ((flat_row nodes ++ flat_spine spine) ++ more) → outer_of whole (newest_place nodes spine) ≡ None
  none_held nodes [] more at = refl
  none_held nodes (newest ∷ older) more at = outer_is (open_here nodes newest older more at)

  nested-spine : (nodes : Nodes) (spine : List Open) (more : List FlatPart) (hs : List (Option ℕ)) → At whole 0 ((flat_row nodes ++ flat_spine spine) ++ more)
      → Nested whole (length (flat_row nodes ++ flat_spine spine)) [] more hs → Nested whole 0 [] ((flat_row nodes ++ flat_spine spine) ++ more) (holders_spine nodes spine ++ hs)
  nested-spine nodes [] more hs at n =
      let e = append-nil (flat_row nodes) in
      subst (λ xs. Nested whole 0 [] (xs ++ more) (holders_row 0 None nodes ++ hs)) (sym e)
      (nested-row 0 [] nodes None more hs (subst (λ xs. At whole 0 (xs ++ more)) e at) tt (λ _. refl)
      (moved (length (flat_row nodes ++ [])) (0 + length (flat_row nodes)) [] more hs (ap length e ∙ omega arith) n))
  nested-spine nodes (newest ∷ older) more hs at n =
      let front = flat_row nodes ++ flat_spine older in
      let place = length front in
      let inner = flat_row newest.nodes in
      let p = flat_part (flat.Holder newest.begin) 0 in
      let row = holders_row (place + 1) (Some place) newest.nodes in
      let before : At whole 0 (front ++ (p ∷ (inner ++ more))) = at_same (split nodes newest older more) at in
      let here : At whole place (p ∷ (inner ++ more)) = open_here nodes newest older more at in
      let count : length (flat_row nodes ++ flat_spine (newest ∷ older)) ≡ place + 1 + length inner =
      omega (arith, ap (λ xs. length xs) (append_assoc (flat_row nodes) (flat_spine older) (p ∷ inner)), length-append front (p ∷ inner)) in
      let last = moved (length (flat_row nodes ++ flat_spine (newest ∷ older))) (place + 1 + length inner) [] more hs count n in
      let later = nested-row (place + 1) [] newest.nodes (Some place) more hs (at_next p (inner ++ more) here) tt (λ _. outer_is here) last in
      let ended = nested-ended (place + 1) (gone place newest.begin 0) [] (inner ++ more) (row ++ hs) (omega arith) later in
      let own = nested-leaf place 1 [] p (newest_place nodes older) (inner ++ more) (row ++ hs) (omega arith) tt (none_held nodes older (p ∷ (inner ++ more)) before) ended in
      let all = nested-spine nodes older (p ∷ (inner ++ more)) (newest_place nodes older ∷ (row ++ hs)) before own in
      subst (λ xs. Nested whole 0 [] xs ((holders_spine nodes older ++ (newest_place nodes older ∷ row)) ++ hs)) (sym (split nodes newest older more))
      (subst (λ ks. Nested whole 0 [] (front ++ (p ∷ (inner ++ more))) ks) (sym (append_assoc (holders_spine nodes older) (newest_place nodes older ∷ row) hs)) all)

nested-flat : (f : Forest) → Nested (flat.flat f) 0 [] (flat.flat f) (holders f)
nested-flat f =
    let whole = flat.flat f in
    let at : At whole 0 (whole ++ []) = record { front = []; whole_is = sym (append-nil whole); count = refl } in
    let all = nested-spine whole f.nodes f.spine [] [] at tt in
    subst (λ xs. Nested whole 0 [] xs (holders f)) (append-nil whole) (subst (λ ks. Nested whole 0 [] (whole ++ []) ks) (append-nil (holders f)) all)

-- and so of the parts that tell a forest
pub tells_nested : (parts : List SeenPart) (places : List ℕ) (f : Forest) → TellsForest parts places f → IsNested parts
tells_nested parts places f t =
    subst (λ ks. Nested (map flat_part_of parts) 0 [] (map flat_part_of parts) ks) (sym t.holders_are)
    (subst (λ xs. Nested xs 0 [] xs (holders f)) (sym t.parts_are) (nested-flat f))
