use Rattle.std.proofs.Common.{◌≡◌, ◌∙◌, ◌++◌, ◌+◌, ◌<◌, ◌≤◌, sym, subst, arith, append-nil, codes}
use Rattle.sval_json.specs.Json.{comma}
use Rattle.sval_cbor_read.specs.ItemJson.{text_of, BodyAt, ItemAt}
use Rattle.sval_cbor_read.proofs.ReadStrings.{some_map}
use Rattle.sval_cbor_read.proofs.ItemJson.{text_body, number_body, item_by_head, tagged_body, false_at, true_at, null_at}
use Rattle.sval_cbor_read.proofs.ContainerJson.{one_item_more, one_pair_more, all_items, all_pairs, array_body, map_body, one_item_on, one_pair_on, array_broken, map_broken}
use Rattle.sval_cbor_read.proofs.item_json.+items.Goals as goal

pub array-loop-index-preserved : goal.array-loop-index-preserved
array-loop-index-preserved t c =
    let s = c.loop-index.invariant in
    let i = c.in_ok-at.ensures in
    let below : c.loop-index.index < c.args.head.number = omega (arith, c.loop-index-test.true) in
    record {
      later = let l = i.later in let k = s.later in omega (arith, l, k);
      within = i.within;
      few = omega (arith, below);
      all = one_item_more c.args.head.number c.loop-index.index c.args.bytes.now c.args.head.next c.loop-index.at c.in_ok-at.at (text_of c.join.new.self) (text_of c.loop-index.out) (text_of c.item.new.out) below s.all i;
    }

pub array-returns : goal.array-returns
array-returns t c =
    let s = c.loop-index.invariant in
    let past : c.args.head.number ≤ c.loop-index.index = omega (arith, c.loop-index-test.false) in
    let all = all_items c.args.head.number c.loop-index.index c.args.bytes.now c.args.head.next c.loop-index.at (text_of c.join.new.self) (text_of c.loop-index.out) past s.all in
    array_body c.args.bytes.now c.args.head c.loop-index.at s.later s.within c.requires.is c.join.ensures.text all (subst (λ now. text_of c.join-2.new.self ≡ now ++ codes "]") c.in_ok-make_room.ensures.same c.join-2.ensures.text)

pub map-loop-index-preserved : goal.map-loop-index-preserved
map-loop-index-preserved t c =
    let s = c.loop-index.invariant in
    let p = c.in_ok-at.ensures in
    let below : c.loop-index.index < c.args.head.number = omega (arith, c.loop-index-test.true) in
    record {
      later = let l = p.value.later in let m = p.key.later in let k = s.later in omega (arith, l, m, k);
      within = p.value.within;
      few = omega (arith, below);
      all = one_pair_more c.args.head.number c.loop-index.index c.args.bytes.now c.args.head.next c.loop-index.at c.in_ok-at.at (text_of c.join.new.self) (text_of c.loop-index.out) (text_of c.pair.new.out) below s.all p;
    }

pub map-returns : goal.map-returns
map-returns t c =
    let s = c.loop-index.invariant in
    let past : c.args.head.number ≤ c.loop-index.index = omega (arith, c.loop-index-test.false) in
    let all = all_pairs c.args.head.number c.loop-index.index c.args.bytes.now c.args.head.next c.loop-index.at (text_of c.join.new.self) (text_of c.loop-index.out) past s.all in
    map_body c.args.bytes.now c.args.head c.loop-index.at s.later s.within c.requires.is c.join.ensures.text all (subst (λ now. text_of c.join-2.new.self ≡ now ++ codes "}") c.in_ok-make_room.ensures.same c.join-2.ensures.text)

pub array_to_break-loop-out-preserved : goal.array_to_break-loop-out-preserved
array_to_break-loop-out-preserved t c =
    let s = c.loop-out.invariant in
    let i = c.in_ok-at.ensures in
    record {
      later = let l = i.later in let k = s.later in omega (arith, l, k);
      within = i.within;
      all = one_item_on c.args.bytes.now (c.args.from + 1) c.loop-out.at c.in_ok-at.at (text_of c.join.new.self) (text_of c.loop-out.out) (text_of c.item.new.out) s.later s.all i;
    }

pub map_to_break-loop-out-preserved : goal.map_to_break-loop-out-preserved
map_to_break-loop-out-preserved t c =
    let s = c.loop-out.invariant in
    let p = c.in_ok-at.ensures in
    record {
      later = let l = p.value.later in let m = p.key.later in let k = s.later in omega (arith, l, m, k);
      within = p.value.within;
      all = one_pair_on c.args.bytes.now (c.args.from + 1) c.loop-out.at c.in_ok-at.at (text_of c.join.new.self) (text_of c.loop-out.out) (text_of c.pair.new.out) s.later s.all p;
    }

pub array_to_break-returns : goal.array_to_break-returns
array_to_break-returns t c =
    let s = c.loop-out.invariant in
    array_broken c.args.bytes.now c.args.from c.loop-out.at c.requires.within s.later c.in_ok-get.ensures.lookup.3.0 (sym (c.in_ok-get.ensures.lookup.3.1 0) ∙ c.if-branch.false) c.requires.is c.join.ensures.text s.all (subst (λ now. text_of c.join-2.new.self ≡ now ++ codes "]") c.in_ok-make_room.ensures.same c.join-2.ensures.text)

pub map_to_break-returns : goal.map_to_break-returns
map_to_break-returns t c =
    let s = c.loop-out.invariant in
    map_broken c.args.bytes.now c.args.from c.loop-out.at c.requires.within s.later c.in_ok-get.ensures.lookup.3.0 (sym (c.in_ok-get.ensures.lookup.3.1 0) ∙ c.if-branch.false) c.requires.is c.join.ensures.text s.all (subst (λ now. text_of c.join-2.new.self ≡ now ++ codes "}") c.in_ok-make_room.ensures.same c.join-2.ensures.text)

pub body-returns-in-3 : goal.body-returns-in-3
body-returns-in-3 t c =
    some_map c.text.result
    (λ next b. subst (λ old. BodyAt c.args.bytes.now c.args.head next old (text_of c.text.new.out)) (append-nil (text_of c.args.out.now)) (text_body c.args.bytes.now c.args.head next c.in-3.is c.requires.within b))
    c.text.ensures

pub body-returns-in_ok-number-in_default : goal.body-returns-in_ok-number-in_default
body-returns-in_ok-number-in_default t c = number_body c.args.bytes.now c.args.head c.requires.within c.in_ok-number-in_default.ensures.written

pub item-returns-in-Some : goal.item-returns-in-Some
item-returns-in-Some t c =
    some_map c.text.result
    (λ next b.
    let i = item_by_head c.args.bytes.now c.args.at c.in-Some.head next c.in-Some.ensures.found (text_body c.args.bytes.now c.in-Some.head next c.in-Some.ensures.text c.in-Some.ensures.found.1.2 b) in
    subst (λ old. ItemAt c.args.bytes.now c.args.at next (old ++ comma c.args.is_first) (text_of c.text.new.out)) c.in_ok-make_room.ensures.same i)
    c.text.ensures

pub item-returns-in-244 : goal.item-returns-in-244
item-returns-in-244 t c = false_at c.args.bytes.now c.args.at (omega (arith, c.if-at-bytes.false)) c.in-244.is (subst (λ now. text_of c.join_comma.new.self ≡ now ++ comma c.args.is_first) c.in_ok-make_room.ensures.same c.join_comma.ensures.text) c.join.ensures.text

pub item-returns-in-245 : goal.item-returns-in-245
item-returns-in-245 t c = true_at c.args.bytes.now c.args.at (omega (arith, c.if-at-bytes.false)) c.in-245.is (subst (λ now. text_of c.join_comma.new.self ≡ now ++ comma c.args.is_first) c.in_ok-make_room.ensures.same c.join_comma.ensures.text) c.join-in-245.ensures.text

pub item-returns-in-246 : goal.item-returns-in-246
item-returns-in-246 t c = null_at c.args.bytes.now c.args.at (omega (arith, c.if-at-bytes.false)) c.in-246.is (subst (λ now. text_of c.join_comma.new.self ≡ now ++ comma c.args.is_first) c.in_ok-make_room.ensures.same c.join_comma.ensures.text) c.join-in-246.ensures.text

pub item-returns-in_ok-head-in_default-bytes : goal.item-returns-in_ok-head-in_default-bytes
item-returns-in_ok-head-in_default-bytes t c =
    some_map c.body.result
    (λ next b.
    let i = item_by_head c.args.bytes.now c.args.at c.in_ok-head-in_default-bytes.head next c.in_ok-head-in_default-bytes.ensures.found b in
    subst (λ old. ItemAt c.args.bytes.now c.args.at next old (text_of c.body.new.out)) (subst (λ now. text_of c.join_comma.new.self ≡ now ++ comma c.args.is_first) c.in_ok-make_room.ensures.same c.join_comma.ensures.text) i)
    c.body.ensures

pub tagged-returns : goal.tagged-returns
tagged-returns t c = some_map c.item.result (λ next i. tagged_body c.args.bytes.now c.args.head next c.requires.is c.if-head-eq2.false c.if-head-eq3.false i) c.item.ensures
