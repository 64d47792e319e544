-- Begins that count their nodes: in some of the nodes, and while a text is read.
use Rattle.std.specs.Prelude.{◌≡◌, ℕ, zero, suc, ◌+◌, ◌-◌, ◌<◌, ◌≤◌, min, List, [], ◌∷◌, ◌++◌, map, length, take, drop, get_or, slice_set, refl}
use Rattle.std.specs.List.{AllByRecursion}
use Rattle.std.proofs.Common.{sym, ap, subst, ◌∙◌, arith, append_assoc, append-nil, length-append}
use Rattle.std.proofs.Math.Nat.{min-zero, zero-min}
use Rattle.std.proofs.Math.Seq.{set-append_seam, get_or-append_seam}
use Rattle.sval_json_read.specs.declared.node.Place as made_place
use Rattle.sval_json_read.specs.declared.node.Node.{Node}
use Rattle.sval_json_read.specs.declared.node.Node.TheVariants as node
use Rattle.sval_json_read.specs.declared.stack.Opened.{Opened}
use Rattle.sval_json_read.specs.declared.stack.Opened.TheVariants as opened
use Rattle.sval_json_read.specs.NodeSpans.{depth_behind, while_open, span}
use Rattle.sval_json_read.specs.SeenNodes.{seen_node, StandsIn}
use Rattle.sval_json_read.specs.Offsets.{number_of}
use Rattle.sval_json_read.proofs.Offsets.{number_back}
use Rattle.sval_json_read.specs.NodeCounts.{begin_of, end_of, count_in, with_count, uncounted, IsLeaf, CountsSpan, AreCounted, AreSettled, AreWhole, IsChain, nothing_open, opened_in}

-- ---- some of the nodes

front_step : (n : ℕ) (nodes : List Node) → ((depth : ℕ) → span depth (map seen_node (take n nodes)) ≡ min n (span depth (map seen_node nodes))) → (depth : ℕ)
    → suc (while_open depth (span depth (map seen_node (take n nodes)))) ≡ min (suc n) (suc (while_open depth (span depth (map seen_node nodes))))
front_step n nodes shorter zero = omega arith
front_step n nodes shorter (suc depth) = let e = shorter (suc depth) in omega (arith, e)

span_front : (depth n : ℕ) (nodes : List Node) → span depth (map seen_node (take n nodes)) ≡ min n (span depth (map seen_node nodes))
span_front depth zero nodes = sym (zero-min (span depth (map seen_node nodes)))
span_front depth (suc n) [] = sym (min-zero (suc n))
span_front depth (suc n) (one ∷ nodes) = front_step n nodes (λ d. span_front d n nodes) (depth_behind (seen_node one).kept depth)

length_front : (n : ℕ) (nodes : List Node) → length (take n nodes) ≡ min n (length nodes)
length_front zero nodes = sym (zero-min (length nodes))
length_front (suc n) [] = sym (min-zero (suc n))
length_front (suc n) (one ∷ nodes) = let e = length_front n nodes in omega (arith, e)

begin_front : (count n : ℕ) (nodes : List Node) → min count (length nodes) ≡ span 0 (map seen_node nodes) → min count (length (take n nodes)) ≡ span 0 (map seen_node (take n nodes))
begin_front count n nodes e =
    let l = length_front n nodes in
    let s = span_front 0 n nodes in
    omega (arith, l, s, e)

counts_front : (one : Node) (n : ℕ) (nodes : List Node) → CountsSpan one (one ∷ nodes) → CountsSpan one (one ∷ take n nodes)
counts_front (node.Null p) n nodes c = tt
counts_front (node.Bool p b) n nodes c = tt
counts_front (node.Number p from size) n nodes c = tt
counts_front (node.Text p from size) n nodes c = tt
counts_front (node.BeginArray p count) n nodes c = begin_front (number_of count) (suc n) (node.BeginArray p count ∷ nodes) c
counts_front (node.EndArray p) n nodes c = tt
counts_front (node.BeginObject p count) n nodes c = begin_front (number_of count) (suc n) (node.BeginObject p count ∷ nodes) c
counts_front (node.EndObject p) n nodes c = tt

pub counted_front : (n : ℕ) (nodes : List Node) → AreCounted nodes → AreCounted (take n nodes)
counted_front zero nodes c = tt
counted_front (suc n) [] c = tt
counted_front (suc n) (one ∷ nodes) c = (counts_front one n nodes c.0, counted_front n nodes c.1)

pub counted_behind : (n : ℕ) (nodes : List Node) → AreCounted nodes → AreCounted (drop n nodes)
counted_behind zero nodes c = c
counted_behind (suc n) [] c = tt
counted_behind (suc n) (one ∷ nodes) c = counted_behind n nodes c.1

-- ---- what stays in sight

seen_one : (count : ℕ) (one : Node) → seen_node (with_count count one) ≡ seen_node one
seen_one count (node.Null p) = refl
seen_one count (node.Bool p b) = refl
seen_one count (node.Number p from size) = refl
seen_one count (node.Text p from size) = refl
seen_one count (node.BeginArray p held) = refl
seen_one count (node.EndArray p) = refl
seen_one count (node.BeginObject p held) = refl
seen_one count (node.EndObject p) = refl

pub seen_uncounted : (nodes : List Node) → map seen_node (map uncounted nodes) ≡ map seen_node nodes
seen_uncounted [] = refl
seen_uncounted (one ∷ nodes) = ap (λ first. first ∷ map seen_node (map uncounted nodes)) (seen_one 0 one) ∙ ap (λ row. seen_node one ∷ row) (seen_uncounted nodes)

stands_one : (bytes : List ℕ) (one : Node) → StandsIn bytes (uncounted one) → StandsIn bytes one
stands_one bytes (node.Null p) s = tt
stands_one bytes (node.Bool p b) s = tt
stands_one bytes (node.Number p from size) s = s
stands_one bytes (node.Text p from size) s = s
stands_one bytes (node.BeginArray p held) s = tt
stands_one bytes (node.EndArray p) s = tt
stands_one bytes (node.BeginObject p held) s = tt
stands_one bytes (node.EndObject p) s = tt

pub stand_uncounted : (bytes : List ℕ) (nodes : List Node) → AllByRecursion (StandsIn bytes) (map uncounted nodes) → AllByRecursion (StandsIn bytes) nodes
stand_uncounted bytes [] s = tt
stand_uncounted bytes (one ∷ nodes) s = (stands_one bytes one s.0, stand_uncounted bytes nodes s.1)

uncounted_append : (nodes others : List Node) → map uncounted (nodes ++ others) ≡ map uncounted nodes ++ map uncounted others
uncounted_append [] others = refl
uncounted_append (one ∷ nodes) others = ap (λ row. uncounted one ∷ row) (uncounted_append nodes others)

uncounted_twice : (count : ℕ) (one : Node) → uncounted (with_count count one) ≡ uncounted one
uncounted_twice count (node.Null p) = refl
uncounted_twice count (node.Bool p b) = refl
uncounted_twice count (node.Number p from size) = refl
uncounted_twice count (node.Text p from size) = refl
uncounted_twice count (node.BeginArray p held) = refl
uncounted_twice count (node.EndArray p) = refl
uncounted_twice count (node.BeginObject p held) = refl
uncounted_twice count (node.EndObject p) = refl

leaf_stays : (one : Node) → IsLeaf one → uncounted one ≡ one
leaf_stays (node.Null p) l = refl
leaf_stays (node.Bool p b) l = refl
leaf_stays (node.Number p from size) l = refl
leaf_stays (node.Text p from size) l = refl
leaf_stays (node.BeginArray p held) l = absurd l
leaf_stays (node.EndArray p) l = absurd l
leaf_stays (node.BeginObject p held) l = absurd l
leaf_stays (node.EndObject p) l = absurd l

pub end_stays : (container : Opened) (p : made_place.Place) → uncounted (end_of container p) ≡ end_of container p
end_stays opened.Array p = refl
end_stays opened.Object p = refl

-- a node more, as it is seen
pub seen_more : (nodes : List Node) (one : Node) → map uncounted (nodes ++ (one ∷ [])) ≡ map uncounted nodes ++ (uncounted one ∷ [])
seen_more nodes one = uncounted_append nodes (one ∷ [])

-- ---- whole values

-- values one behind the other
settled_both : (nodes others : List Node) → AreSettled nodes → AreSettled others → AreSettled (nodes ++ others)
settled_both nodes others a b behind c = subst AreCounted (sym (append_assoc nodes others behind)) (a (others ++ behind) (b behind c))

whole_both : (nodes others : List Node) → AreWhole nodes → AreWhole others → AreWhole (nodes ++ others)
whole_both nodes others a b = record {
  settled = settled_both nodes others a.settled b.settled;
  passed = λ depth behind.
      let row = ap (λ all. span (suc depth) (map seen_node all)) (append_assoc nodes others behind) in
      let first = a.passed depth (others ++ behind) in
      let then = b.passed depth behind in
      let l = length-append nodes others in
      omega (arith, row, first, then, l);
}

none_more : (n : ℕ) → n ≡ 0 + n
none_more n = omega arith

one_more : (n : ℕ) → suc n ≡ 1 + n
one_more n = omega arith

pub nothing_whole : AreWhole []
nothing_whole = record { settled = λ behind c. c; passed = λ depth behind. none_more (span (suc depth) (map seen_node behind)) }

leaf_whole : (one : Node) → IsLeaf one → AreWhole (one ∷ [])
leaf_whole (node.Null p) l = record { settled = λ behind c. (tt, c); passed = λ depth behind. one_more (span (suc depth) (map seen_node behind)) }
leaf_whole (node.Bool p b) l = record { settled = λ behind c. (tt, c); passed = λ depth behind. one_more (span (suc depth) (map seen_node behind)) }
leaf_whole (node.Number p from size) l = record { settled = λ behind c. (tt, c); passed = λ depth behind. one_more (span (suc depth) (map seen_node behind)) }
leaf_whole (node.Text p from size) l = record { settled = λ behind c. (tt, c); passed = λ depth behind. one_more (span (suc depth) (map seen_node behind)) }
leaf_whole (node.BeginArray p held) l = absurd l
leaf_whole (node.EndArray p) l = absurd l
leaf_whole (node.BeginObject p held) l = absurd l
leaf_whole (node.EndObject p) l = absurd l

end_settled : (container : Opened) (p : made_place.Place) → AreSettled (end_of container p ∷ [])
end_settled opened.Array p behind c = (tt, c)
end_settled opened.Object p behind c = (tt, c)

-- ---- the begin of an array or object

held_by : (container : Opened) (p : made_place.Place) (held : ℕ) → count_in (begin_of container p held) ≡ held
held_by opened.Array p held = number_back held
held_by opened.Object p held = number_back held

recounted : (container : Opened) (p : made_place.Place) (held count : ℕ) → with_count count (begin_of container p held) ≡ begin_of container p count
recounted opened.Array p held count = refl
recounted opened.Object p held count = refl

span_begin : (container : Opened) (p : made_place.Place) (held depth : ℕ) (nodes : List Node) → span depth (map seen_node (begin_of container p held ∷ nodes)) ≡ suc (span (suc depth) (map seen_node nodes))
span_begin opened.Array p held depth nodes = refl
span_begin opened.Object p held depth nodes = refl

counts_begin : (container : Opened) (p : made_place.Place) (count : ℕ) (nodes : List Node) → min count (suc (length nodes)) ≡ suc (span 1 (map seen_node nodes))
    → CountsSpan (begin_of container p count) (begin_of container p count ∷ nodes)
counts_begin opened.Array p count nodes e = ap (λ n. min n (suc (length nodes))) (number_back count) ∙ e
counts_begin opened.Object p count nodes e = ap (λ n. min n (suc (length nodes))) (number_back count) ∙ e

one_less : (n : ℕ) → suc n - 1 ≡ n
one_less n = omega arith

span_end : (container : Opened) (p : made_place.Place) (depth : ℕ) (nodes : List Node)
    → span (suc depth) (map seen_node (end_of container p ∷ nodes)) ≡ suc (while_open depth (span depth (map seen_node nodes)))
span_end opened.Array p depth nodes = ap (λ d. suc (while_open d (span d (map seen_node nodes)))) (one_less depth)
span_end opened.Object p depth nodes = ap (λ d. suc (while_open d (span d (map seen_node nodes)))) (one_less depth)

-- with its end it is whole
module _ (container other : Opened) (p q : made_place.Place) (inner : List Node) (w : AreWhole inner) (count : ℕ) (e : count ≡ length inner + 2) where
  abbrev closed : List Node
  closed = begin_of container p count ∷ (inner ++ (end_of other q ∷ []))

  span_inner : (depth : ℕ) (behind : List Node)
      → span (suc depth) (map seen_node ((inner ++ (end_of other q ∷ [])) ++ behind)) ≡ length inner + suc (while_open depth (span depth (map seen_node behind)))
  span_inner depth behind =
      let row = ap (λ nodes. span (suc depth) (map seen_node nodes)) (append_assoc inner (end_of other q ∷ []) behind) in
      let first = w.passed depth (end_of other q ∷ behind) in
      let end = span_end other q depth behind in
      omega (arith, row, first, end)

  length_closed : (behind : List Node) → length ((inner ++ (end_of other q ∷ [])) ++ behind) ≡ length inner + 1 + length behind
  length_closed behind =
      let l = length-append (inner ++ (end_of other q ∷ [])) behind in
      let k = length-append inner (end_of other q ∷ []) in
      omega (arith, l, k)

  pub closed_whole : AreWhole closed
  closed_whole = record {
    settled = λ behind c. (
      counts_begin container p count ((inner ++ (end_of other q ∷ [])) ++ behind) (let l = length_closed behind in let s = span_inner 0 behind in omega (arith, l, s, e)),
      subst AreCounted (sym (append_assoc inner (end_of other q ∷ []) behind)) (w.settled (end_of other q ∷ behind) (end_settled other q behind c)),
    );
    passed = λ depth behind.
        let b = span_begin container p count (suc depth) ((inner ++ (end_of other q ∷ [])) ++ behind) in
        let s = span_inner (suc depth) behind in
        let l = length-append inner (end_of other q ∷ []) in
        omega (arith, b, s, l);
  }

-- ---- while a text is read

pub chain_start : IsChain [] 0
chain_start = nothing_open (λ behind c. c)

chain_more : (others : List Node) → AreWhole others → {nodes : List Node} {innermost : ℕ} → IsChain nodes innermost → IsChain (nodes ++ others) innermost
chain_more others w (nothing_open {nodes = nodes} s) = nothing_open (settled_both nodes others s w.settled)
chain_more others w (opened_in {around = around} {whole = whole} {outer = outer} container p c inner) =
    subst (λ row. IsChain row (suc (length around))) (sym (append_assoc around (begin_of container p outer ∷ whole) others))
    (opened_in container p c (whole_both whole others inner w))

pub chain_leaf : {nodes : List Node} {innermost : ℕ} (one : Node) → IsLeaf one → IsChain nodes innermost → IsChain (nodes ++ (one ∷ [])) innermost
chain_leaf one l c = chain_more (one ∷ []) (leaf_whole one l) c

pub chain_begin : {nodes : List Node} {innermost : ℕ} (container : Opened) (p : made_place.Place) → IsChain nodes innermost
    → IsChain (nodes ++ (begin_of container p innermost ∷ [])) (length (nodes ++ (begin_of container p innermost ∷ [])))
chain_begin {nodes = nodes} {innermost = innermost} container p c =
    let l = length-append nodes (begin_of container p innermost ∷ []) in
    subst (IsChain (nodes ++ (begin_of container p innermost ∷ []))) (let e : suc (length nodes) ≡ length (nodes ++ (begin_of container p innermost ∷ [])) = omega (arith, l) in e) (opened_in container p c nothing_whole)

pub chain_stray : {nodes : List Node} {innermost : ℕ} (container : Opened) (p : made_place.Place) → IsChain nodes innermost → innermost ≡ 0 → IsChain (nodes ++ (end_of container p ∷ [])) innermost
chain_stray container p (nothing_open {nodes = nodes} s) e = nothing_open (settled_both nodes (end_of container p ∷ []) s (end_settled container p))
chain_stray container p (opened_in around_container q c inner) e = absurd (omega (arith, e))

pub chain_within : {nodes : List Node} {innermost : ℕ} → IsChain nodes innermost → innermost ≤ length nodes
chain_within (nothing_open s) = omega arith
chain_within (opened_in {around = around} {whole = whole} {outer = outer} container p c inner) = let l = length-append around (begin_of container p outer ∷ whole) in omega (arith, l)

-- what the innermost begin without an end stands between
pub record Innermost (nodes : List Node) (innermost : ℕ) : Type 0 where
  pub around : List Node
  pub whole : List Node
  pub outer : ℕ
  pub container : Opened
  pub place : made_place.Place
  pub nodes_are : nodes ≡ around ++ (begin_of container place outer ∷ whole)
  pub innermost_is : innermost ≡ suc (length around)
  pub chain : IsChain around outer
  pub inner : AreWhole whole

pub innermost_of : {nodes : List Node} {innermost : ℕ} → IsChain nodes innermost → 0 < innermost → Innermost nodes innermost
innermost_of (nothing_open s) l = absurd (omega (arith, l))
innermost_of (opened_in {around = around} {whole = whole} {outer = outer} container p c inner) l =
    record { around = around; whole = whole; outer = outer; container = container; place = p; nodes_are = refl; innermost_is = refl; chain = c; inner = inner }

pub same_uncounted : (count at : ℕ) (nodes : List Node) (d : Node) → map uncounted (slice_set nodes at (with_count count (get_or nodes at d))) ≡ map uncounted nodes
same_uncounted count at [] d = refl
same_uncounted count zero (one ∷ nodes) d = ap (λ first. first ∷ map uncounted nodes) (uncounted_twice count one)
same_uncounted count (suc at) (one ∷ nodes) d = ap (λ row. uncounted one ∷ row) (same_uncounted count at nodes d)

-- the begin counts, and other nodes stand behind
module _ {nodes : List Node} {innermost : ℕ} (i : Innermost nodes innermost) (behind : List Node) where
  abbrev with_behind : List Node
  with_behind = i.around ++ (begin_of i.container i.place i.outer ∷ (i.whole ++ behind))

  all_are : nodes ++ behind ≡ with_behind
  all_are = ap (λ row. row ++ behind) i.nodes_are ∙ append_assoc i.around (begin_of i.container i.place i.outer ∷ i.whole) behind

  at_begin : innermost - 1 ≡ length i.around
  at_begin = let e = i.innermost_is in omega (arith, e)

  pub begin_at : innermost - 1 < length (nodes ++ behind)
  begin_at =
      let l = length-append nodes behind in
      let k = ap (λ (row : List Node). length row) i.nodes_are in
      let m = length-append i.around (begin_of i.container i.place i.outer ∷ i.whole) in
      let e = at_begin in
      omega (arith, l, k, m, e)

  pub begin_is : (d : Node) → get_or (nodes ++ behind) (innermost - 1) d ≡ begin_of i.container i.place i.outer
  begin_is d =
      ap (λ row. get_or row (innermost - 1) d) all_are ∙ ap (λ n. get_or with_behind n d) at_begin
      ∙ get_or-append_seam i.around (begin_of i.container i.place i.outer) (i.whole ++ behind) d

  pub outer_is : (d : Node) → count_in (get_or (nodes ++ behind) (innermost - 1) d) ≡ i.outer
  outer_is d = ap count_in (begin_is d) ∙ held_by i.container i.place i.outer

  abbrev counted_count : ℕ
  counted_count = suc (length (i.whole ++ behind))

  count_is : length (nodes ++ behind) - (innermost - 1) ≡ counted_count
  count_is =
      let k = ap (λ (row : List Node). length row) all_are in
      let m = length-append i.around (begin_of i.container i.place i.outer ∷ (i.whole ++ behind)) in
      let e = at_begin in
      omega (arith, k, m, e)

  pub set_is : (d : Node) → slice_set (nodes ++ behind) (innermost - 1) (with_count (length (nodes ++ behind) - (innermost - 1)) (get_or (nodes ++ behind) (innermost - 1) d))
      ≡ i.around ++ (begin_of i.container i.place counted_count ∷ (i.whole ++ behind))
  set_is d =
      ap (λ one. slice_set (nodes ++ behind) (innermost - 1) (with_count (length (nodes ++ behind) - (innermost - 1)) one)) (begin_is d)
      ∙ ap (λ n. slice_set (nodes ++ behind) (innermost - 1) (with_count n (begin_of i.container i.place i.outer))) count_is
      ∙ ap (slice_set (nodes ++ behind) (innermost - 1)) (recounted i.container i.place i.outer counted_count)
      ∙ ap (λ row. slice_set row (innermost - 1) (begin_of i.container i.place counted_count)) all_are
      ∙ ap (λ n. slice_set with_behind n (begin_of i.container i.place counted_count)) at_begin
      ∙ set-append_seam i.around (begin_of i.container i.place i.outer) (i.whole ++ behind) (begin_of i.container i.place counted_count)

-- an end comes
pub chain_end : {nodes : List Node} {innermost : ℕ} (other : Opened) (p : made_place.Place) (i : Innermost nodes innermost) (new : List Node) (outer : ℕ)
    → new ≡ i.around ++ (begin_of i.container i.place (suc (length (i.whole ++ (end_of other p ∷ [])))) ∷ (i.whole ++ (end_of other p ∷ []))) → outer ≡ i.outer → IsChain new outer
chain_end other p i new outer e o =
    let l = length-append i.whole (end_of other p ∷ []) in
    let count : suc (length (i.whole ++ (end_of other p ∷ []))) ≡ length i.whole + 2 = omega (arith, l) in
    subst (IsChain new) (sym o) (subst (λ row. IsChain row i.outer) (sym e) (chain_more _ (closed_whole i.container other i.place p i.whole i.inner _ count) i.chain))

-- ---- the begins that have no end

-- those before some place are left; those behind count all nodes from them on
pub record IsSettling (nodes : List Node) (innermost : ℕ) : Type 0 where
  pub front : List Node
  pub behind : List Node
  pub same : nodes ≡ front ++ behind
  pub chain : IsChain front innermost
  pub counted : AreCounted behind
  pub passed : (depth : ℕ) → span (suc depth) (map seen_node behind) ≡ length behind

pub settling_start : (nodes : List Node) (innermost : ℕ) → IsChain nodes innermost → IsSettling nodes innermost
settling_start nodes innermost c = record { front = nodes; behind = []; same = sym (append-nil nodes); chain = c; counted = tt; passed = λ depth. refl }

settled_end : {nodes : List Node} {innermost : ℕ} → IsChain nodes innermost → innermost ≡ 0 → AreSettled nodes
settled_end (nothing_open s) e = s
settled_end (opened_in container p c inner) e = absurd (omega (arith, e))

pub settling_end : (nodes : List Node) (innermost : ℕ) → IsSettling nodes innermost → innermost ≡ 0 → AreCounted nodes
settling_end nodes innermost s e = subst AreCounted (sym s.same) (settled_end s.chain e s.behind s.counted)

module _ (nodes : List Node) (innermost : ℕ) (s : IsSettling nodes innermost) (some : 0 < innermost) (d : Node) where
  i : Innermost s.front innermost
  i = innermost_of s.chain some

  pub settles_within : innermost - 1 < length nodes
  settles_within = subst (λ row. innermost - 1 < length row) (sym s.same) (begin_at i s.behind)

  abbrev then_behind : List Node
  then_behind = begin_of i.container i.place (counted_count i s.behind) ∷ (i.whole ++ s.behind)

  then_passed : (depth : ℕ) → span (suc depth) (map seen_node then_behind) ≡ length then_behind
  then_passed depth =
      let b = span_begin i.container i.place (counted_count i s.behind) (suc depth) (i.whole ++ s.behind) in
      let w = i.inner.passed (suc depth) s.behind in
      let p = s.passed (suc depth) in
      let l = length-append i.whole s.behind in
      omega (arith, b, w, p, l)

  then_counted : AreCounted then_behind
  then_counted = (
    counts_begin i.container i.place (counted_count i s.behind) (i.whole ++ s.behind)
        (let w = i.inner.passed 0 s.behind in let p = s.passed 0 in let l = length-append i.whole s.behind in omega (arith, w, p, l)),
    i.inner.settled s.behind s.counted,
  )

  pub settles_on : (new : List Node) (outer : ℕ) → new ≡ slice_set nodes (innermost - 1) (with_count (length nodes - (innermost - 1)) (get_or nodes (innermost - 1) d))
      → outer ≡ count_in (get_or nodes (innermost - 1) d) → IsSettling new outer × (outer < innermost)
  settles_on new outer e o =
      let is : outer ≡ i.outer = o ∙ ap (λ row. count_in (get_or row (innermost - 1) d)) s.same ∙ outer_is i s.behind d in
      let row : new ≡ i.around ++ then_behind =
      e ∙ ap (λ row. slice_set row (innermost - 1) (with_count (length row - (innermost - 1)) (get_or row (innermost - 1) d))) s.same ∙ set_is i s.behind d in
      let least = chain_within i.chain in
      let most = i.innermost_is in (
        record { front = i.around; behind = then_behind; same = row; chain = subst (IsChain i.around) (sym is) i.chain; counted = then_counted; passed = then_passed },
        omega (arith, is, least, most),
      )
