-- The flat list of a forest, with the places of its containers without an end, tells that forest.
use Rattle.std.specs.Prelude.{◌≡◌, ℕ, suc, ◌+◌, ◌-◌, ◌≤◌, ◌<◌, ◌==◌, nat_lt, true, false, List, [], ◌∷◌, ◌++◌, length, refl}
use Rattle.std.proofs.Common.{sym, ap, ◌∙◌, arith, length-append}
use Rattle.std.proofs.lemmas.Bool.Decides.{nat_tests}
use mathlib.Core.List.{append_assoc, append-nil}
use Rattle.sval_label.specs.Calls.{Call}
use Rattle.sval_buffer.specs.Forest.{Node, Single, Text, Binary, Container, Nodes, none, ◌and◌, Open, Forest}
use Rattle.sval_buffer.specs.Flat.{One, Words, Bytes, Holder, FlatPart, flat_part, flat_node, flat_row, flat_spine, flat}
use Rattle.sval_buffer.specs.FlatForest.{open_places, Built, row_onto, front_of, after_parts, with_part, with_holder, is_open_at, beyond, built, forest_of}

-- ---- rows as lists

-- the nodes of a row before these
abbrev listed : Nodes → List Node → List Node
listed none rest = rest
listed (nodes and node) rest = listed nodes (node ∷ rest)

abbrev joined : Nodes → Nodes → Nodes
joined first none = first
joined first (nodes and node) = joined first nodes and node

joined-none : (nodes : Nodes) → joined none nodes ≡ nodes
joined-none none = refl
joined-none (nodes and node) = ap (λ row. row and node) (joined-none nodes)

onto-listed : (first nodes : Nodes) (rest : List Node) → row_onto first (listed nodes rest) ≡ row_onto (joined first nodes) rest
onto-listed first none rest = refl
onto-listed first (nodes and node) rest = onto-listed first nodes (node ∷ rest)

row-listed : (nodes : Nodes) → row_onto none (listed nodes []) ≡ nodes
row-listed nodes = onto-listed none nodes [] ∙ joined-none nodes

pub some_parts : (node : Node) → 0 < length (flat_node node)
some_parts (Single call) = omega arith
some_parts (Text held) = omega arith
some_parts (Binary held) = omega arith
some_parts (Container begin nodes) = omega arith

front-none : (rest : List Node) → front_of 0 rest ≡ []
front-none [] = refl
front-none (node ∷ rest) =
    let some = some_parts node in
    let e : nat_lt 0 (length (flat_node node)) ≡ true = grind (arith, nat_tests) in rw e refl

after-none : (rest : List Node) → after_parts 0 rest ≡ rest
after-none [] = refl
after-none (node ∷ rest) =
    let some = some_parts node in
    let e : nat_lt 0 (length (flat_node node)) ≡ true = grind (arith, nat_tests) in rw e refl

front-node : (n : ℕ) (node : Node) (rest : List Node) → front_of (length (flat_node node) + n) (node ∷ rest) ≡ node ∷ front_of n rest
front-node n node rest =
    let k = length (flat_node node) in
    let e : nat_lt (k + n) k ≡ false = grind (arith, nat_tests) in
    let d : k + n - k ≡ n = omega arith in rw (e, d) refl

after-node : (n : ℕ) (node : Node) (rest : List Node) → after_parts (length (flat_node node) + n) (node ∷ rest) ≡ after_parts n rest
after-node n node rest =
    let k = length (flat_node node) in
    let e : nat_lt (k + n) k ≡ false = grind (arith, nat_tests) in
    let d : k + n - k ≡ n = omega arith in rw (e, d) refl

more-parts : (nodes : Nodes) (node : Node) (n : ℕ) → length (flat_row nodes ++ flat_node node) + n ≡ length (flat_row nodes) + (length (flat_node node) + n)
more-parts nodes node n = omega (arith, length-append (flat_row nodes) (flat_node node))

front-listed : (n : ℕ) (nodes : Nodes) (rest : List Node) → front_of (length (flat_row nodes) + n) (listed nodes rest) ≡ listed nodes (front_of n rest)
front-listed n none rest = let e : 0 + n ≡ n = omega arith in rw e refl
front-listed n (nodes and node) rest =
    ap (λ m. front_of m (listed nodes (node ∷ rest))) (more-parts nodes node n)
    ∙ front-listed (length (flat_node node) + n) nodes (node ∷ rest)
    ∙ ap (listed nodes) (front-node n node rest)

after-listed : (n : ℕ) (nodes : Nodes) (rest : List Node) → after_parts (length (flat_row nodes) + n) (listed nodes rest) ≡ after_parts n rest
after-listed n none rest = let e : 0 + n ≡ n = omega arith in rw e refl
after-listed n (nodes and node) rest =
    ap (λ m. after_parts m (listed nodes (node ∷ rest))) (more-parts nodes node n)
    ∙ after-listed (length (flat_node node) + n) nodes (node ∷ rest)
    ∙ after-node n node rest

front-row : (nodes : Nodes) (rest : List Node) → front_of (length (flat_row nodes)) (listed nodes rest) ≡ listed nodes []
front-row nodes rest =
    let e : length (flat_row nodes) ≡ length (flat_row nodes) + 0 = omega arith in
    ap (λ m. front_of m (listed nodes rest)) e ∙ front-listed 0 nodes rest ∙ ap (listed nodes) (front-none rest)

after-row : (nodes : Nodes) (rest : List Node) → after_parts (length (flat_row nodes)) (listed nodes rest) ≡ rest
after-row nodes rest =
    let e : length (flat_row nodes) ≡ length (flat_row nodes) + 0 = omega arith in
    ap (λ m. after_parts m (listed nodes rest)) e ∙ after-listed 0 nodes rest ∙ after-none rest

-- ---- parts that belong to no container without an end

-- no container without an end stands at the k places from i on
abbrev Fits : ℕ → ℕ → List ℕ → Type 0
Fits i k [] = Unit {0}
Fits i k (place ∷ places) = i + k ≤ place

none_open : (i k : ℕ) (places : List ℕ) → 0 < k → Fits i k places → (is_open_at i places ≡ false) × (beyond i places ≡ places)
none_open i k [] h f = (refl, refl)
none_open i k (place ∷ places) h f =
    let e : (place == i) ≡ false = grind (arith, nat_tests) in (e, rw e refl)

fits-less : (i k m : ℕ) (places : List ℕ) → k ≤ m → Fits i m places → Fits i k places
fits-less i k m [] h f = tt
fits-less i k m (place ∷ places) h f = omega arith

fits-later : (i a b : ℕ) (places : List ℕ) → Fits i (a + b) places → Fits (i + a) b places
fits-later i a b [] f = tt
fits-later i a b (place ∷ places) f = omega arith

moved : (i j : ℕ) (places : List ℕ) (parts : List FlatPart) → i ≡ j → built i places parts ≡ built j places parts
moved i j places parts e = rw e refl

built-leaf : (i k : ℕ) (places : List ℕ) (p : FlatPart) (more : List FlatPart) → 0 < k → Fits i k places
    → built i places (p ∷ more) ≡ with_part false p.kind p.holds (built (i + 1) places more)
unfolding built
built-leaf i k places p more h f = let (e, g) = none_open i k places h f in rw (e, g) refl

abbrev with_node : Node → Built → Built
with_node node b = record { row = node ∷ b.row; spine = b.spine }

abbrev with_nodes : Nodes → Built → Built
with_nodes nodes b = record { row = listed nodes b.row; spine = b.spine }

holder-row : (begin : Call) (nodes : Nodes) (b : Built) → with_holder false begin (length (flat_row nodes)) (with_nodes nodes b) ≡ with_node (Container begin nodes) b
holder-row begin nodes b =
    ap (λ (row : List Node). let r : Built = record { row = Container begin (row_onto none row) ∷ after_parts (length (flat_row nodes)) (listed nodes b.row); spine = b.spine } in r) (front-row nodes b.row)
    ∙ ap (λ (row : Nodes). let r : Built = record { row = Container begin row ∷ after_parts (length (flat_row nodes)) (listed nodes b.row); spine = b.spine } in r) (row-listed nodes)
    ∙ ap (λ (rest : List Node). let r : Built = record { row = Container begin nodes ∷ rest; spine = b.spine } in r) (after-row nodes b.row)

mutual
  built-node : (i : ℕ) (places : List ℕ) (node : Node) (more : List FlatPart) → Fits i (length (flat_node node)) places
      → built i places (flat_node node ++ more) ≡ with_node node (built (i + length (flat_node node)) places more)
  built-node i places (Single call) more f = built-leaf i 1 places (flat_part (One call) 0) more (omega arith) f
  built-node i places (Text held) more f = built-leaf i 1 places (flat_part (Words held) 0) more (omega arith) f
  built-node i places (Binary held) more f = built-leaf i 1 places (flat_part (Bytes held) 0) more (omega arith) f
  built-node i places (Container begin nodes) more f =
      let n = length (flat_row nodes) in
      let within = fits-later i 1 n places (fits-less i (1 + n) (suc n) places (omega arith) f) in
      built-leaf i (suc n) places (flat_part (Holder begin) n) (flat_row nodes ++ more) (omega arith) f
      ∙ ap (with_holder false begin n) (built-row (i + 1) places nodes more within)
      ∙ holder-row begin nodes (built (i + 1 + n) places more)
      ∙ ap (with_node (Container begin nodes)) (moved (i + 1 + n) (i + suc n) places more (omega arith))

  built-row : (i : ℕ) (places : List ℕ) (nodes : Nodes) (more : List FlatPart) → Fits i (length (flat_row nodes)) places
      → built i places (flat_row nodes ++ more) ≡ with_nodes nodes (built (i + length (flat_row nodes)) places more)
  built-row i places none more f = moved i (i + 0) places more (omega arith)
  built-row i places (nodes and node) more f =
      let m = length (flat_row nodes) in
      let n = length (flat_node node) in
      let count : length (flat_row nodes ++ flat_node node) ≡ m + n = length-append (flat_row nodes) (flat_node node) in
      ap (built i places) (append_assoc (flat_row nodes) (flat_node node) more)
      ∙ built-row i places nodes (flat_node node ++ more) (fits-less i m (length (flat_row nodes ++ flat_node node)) places (omega arith) f)
      ∙ ap (with_nodes nodes) (
      built-node (i + m) places node more (fits-later i m n places (rw count at f))
      ∙ ap (with_node node) (moved (i + m + n) (i + length (flat_row nodes ++ flat_node node)) places more (omega arith)))

-- ---- the containers without an end

abbrev just : List Open → Built
just spine = record { row = []; spine = spine }

open_here : (i : ℕ) (places : List ℕ) (begin : Call) (more : List FlatPart) → built i (i ∷ places) (flat_part (Holder begin) 0 ∷ more) ≡ with_holder true begin 0 (built (i + 1) places more)
unfolding built
open_here i places begin more = let e : (i == i) ≡ true = grind (arith, nat_tests) in rw e refl

built-open : (i : ℕ) (places : List ℕ) (newest : Open) (more : List FlatPart) (spine : List Open) → Fits (i + 1) (length (flat_row newest.nodes)) places
    → built (i + 1 + length (flat_row newest.nodes)) places more ≡ just spine
    → built i (i ∷ places) (flat_part (Holder newest.begin) 0 ∷ (flat_row newest.nodes ++ more)) ≡ just (spine ++ (newest ∷ []))
built-open i places newest more spine f e =
    open_here i places newest.begin (flat_row newest.nodes ++ more)
    ∙ ap (with_holder true newest.begin 0) (built-row (i + 1) places newest.nodes more f ∙ ap (with_nodes newest.nodes) e)
    ∙ ap (λ (row : Nodes). just (spine ++ (record { begin = newest.begin; nodes = row } ∷ []))) (row-listed newest.nodes)

built-spine : (nodes : Nodes) (spine : List Open) (places : List ℕ) (more : List FlatPart) (later : List Open)
    → Fits (length (flat_row nodes ++ flat_spine spine)) 0 places
    → built (length (flat_row nodes ++ flat_spine spine)) places more ≡ just later
    → built (length (flat_row nodes)) (open_places nodes spine ++ places) (flat_spine spine ++ more) ≡ just (later ++ spine)
built-spine nodes [] places more later f e =
    moved (length (flat_row nodes)) (length (flat_row nodes ++ [])) places more (ap length (sym (append-nil (flat_row nodes)))) ∙ e ∙ ap just (sym (append-nil later))
built-spine nodes (newest ∷ older) places more later f e =
    let front = flat_row nodes ++ flat_spine older in
    let place = length front in
    let inner = flat_row newest.nodes in
    let own = flat_part (Holder newest.begin) 0 ∷ inner in
    let count : length (flat_row nodes ++ (flat_spine older ++ own)) ≡ place + 1 + length inner =
    omega (arith, ap (λ xs. length xs) (append_assoc (flat_row nodes) (flat_spine older) own), length-append front own) in
    ap (λ qs. built (length (flat_row nodes)) qs ((flat_spine older ++ own) ++ more)) (append_assoc (open_places nodes older) (place ∷ []) places)
    ∙ ap (built (length (flat_row nodes)) (open_places nodes older ++ (place ∷ places))) (append_assoc (flat_spine older) own more)
    ∙ built-spine nodes older (place ∷ places) (own ++ more) (later ++ (newest ∷ [])) (omega arith)
    (built-open place places newest more later (fits-from place (length inner) places count f) (moved (place + 1 + length inner) (length (flat_row nodes ++ (flat_spine older ++ own))) places more (sym count) ∙ e))
    ∙ ap just (append_assoc later (newest ∷ []) older)
  where
    fits-from : (place k : ℕ) (places : List ℕ) {n : ℕ} → n ≡ place + 1 + k → Fits n 0 places → Fits (place + 1) k places
    fits-from place k [] e f = tt
    fits-from place k (p ∷ ps) e f = omega arith

fits-first : (n : ℕ) (places : List ℕ) (place : ℕ) → Fits 0 n places → n ≤ place → Fits 0 n (places ++ (place ∷ []))
fits-first n [] place f h = omega arith
fits-first n (p ∷ places) place f h = f

fits-open : (nodes : Nodes) (spine : List Open) → Fits 0 (length (flat_row nodes)) (open_places nodes spine)
fits-open nodes [] = tt
fits-open nodes (newest ∷ older) =
    fits-first (length (flat_row nodes)) (open_places nodes older) (length (flat_row nodes ++ flat_spine older)) (fits-open nodes older) (omega (arith, length-append (flat_row nodes) (flat_spine older)))

built-nothing : (i : ℕ) → built i [] [] ≡ just []
unfolding built
built-nothing i = refl

built-flat : (nodes : Nodes) (spine : List Open) → built 0 (open_places nodes spine) (flat_row nodes ++ flat_spine spine) ≡ with_nodes nodes (just spine)
built-flat nodes spine =
    built-row 0 (open_places nodes spine) nodes (flat_spine spine) (fits-open nodes spine)
    ∙ ap (with_nodes nodes) (
    moved (0 + length (flat_row nodes)) (length (flat_row nodes)) (open_places nodes spine) (flat_spine spine) (omega arith)
    ∙ ap (λ qs. built (length (flat_row nodes)) qs (flat_spine spine)) (sym (append-nil (open_places nodes spine)))
    ∙ ap (built (length (flat_row nodes)) (open_places nodes spine ++ [])) (sym (append-nil (flat_spine spine)))
    ∙ built-spine nodes spine [] [] [] tt (built-nothing (length (flat_row nodes ++ flat_spine spine))))

-- the flat list of a forest tells that forest
pub built_back : (f : Forest) → forest_of (flat f) (open_places f.nodes f.spine) f.in_fragments ≡ f
unfolding forest_of
built_back f =
    let whole : Built → Forest = λ b. record { nodes = row_onto none b.row; spine = b.spine; in_fragments = f.in_fragments } in
    ap whole (built-flat f.nodes f.spine)
    ∙ ap (λ (row : Nodes). let g : Forest = record { nodes = row; spine = f.spine; in_fragments = f.in_fragments } in g) (row-listed f.nodes)
