use Rattle.std.proofs.Common.{length, refl, ◌-◌, ◌<◌, ◌≤◌, sym, subst, arith, rules}
use Rattle.sval_buffer.specs.SeenParts.{seen_part, seen_parts}
use Rattle.sval_buffer.specs.Nested.{still, IsBelow, Linked}
use Rattle.sval_buffer.proofs.Replaying.{IsWalked, linked_within, walk-none, walk-goes_on, walk-step, walk-stop, walk-below, ends_stopped, nearer}
use Rattle.sval_buffer.proofs.KeptParts.{part_at, is_at, outer_again, seen_at, kept_at, seen_length}
use Rattle.sval_buffer.proofs.one_pass.end_before.Goals as goal

pub bounds-parts-at : goal.bounds-parts-at
bounds-parts-at g c =
    let s = c.args.stores.now in
    let seen = seen_parts s c.args.parts.now in
    let w = c.loop-newest.invariant c.requires.linked.0 c.requires.linked.1 in
    omega (arith, seen_length s c.args.parts.now, linked_within seen c.in-Some.at w.rest (subst (λ o. Linked seen o w.rest) c.in-Some.is w.linked))

pub offset_bounds-parts-at : goal.offset_bounds-parts-at
offset_bounds-parts-at g c =
    let s = c.args.stores.now in
    let seen = seen_parts s c.args.parts.now in
    let w = c.loop-newest.invariant c.requires.linked.0 c.requires.linked.1 in
    let lt : c.in-Some.at < length c.args.parts.now = omega (arith, seen_length s c.args.parts.now, linked_within seen c.in-Some.at w.rest (subst (λ o. Linked seen o w.rest) c.in-Some.is w.linked)) in
    search rules

pub returns-then-holds-saturating_sub : goal.returns-then-holds-saturating_sub
returns-then-holds-saturating_sub g c gs l =
    let s = c.args.stores.now in
    let seen = seen_parts s c.args.parts.now in
    let first = c.loop-newest.invariant c.requires.linked.0 c.requires.linked.1 in
    let lt : c.in-Some.at < length c.args.parts.now = omega (arith, seen_length s c.args.parts.now, linked_within seen c.in-Some.at first.rest (subst (λ o. Linked seen o first.rest) c.in-Some.is first.linked)) in
    let p = seen_part s (part_at c.args.parts.now c.in-Some.at) in
    let same = seen_at s c.args.parts.now c.in-Some.at (part_at c.args.parts.now c.in-Some.at) lt (is_at c.args.parts.now c.in-Some.at lt) in
    let w = subst (λ o. IsWalked g.S.Stream.law (g.S.Stream.standing c.args.stream.now) (g.S.Stream.standing c.loop-newest.stream) seen c.args.place o gs) c.in-Some.is (c.loop-newest.invariant gs l) in
    let h : c.args.place - c.in-Some.at ≤ p.holds = omega (arith, c.holds.ensures, c.saturating_sub.ensures, c.if-holds-saturating_sub.true) in
    walk-goes_on c.in-Some.at p w same h

pub returns-in_err-stream_end : goal.returns-in_err-stream_end
returns-in_err-stream_end g c gs l =
    let s = c.args.stores.now in
    let seen = seen_parts s c.args.parts.now in
    let first = c.loop-newest.invariant c.requires.linked.0 c.requires.linked.1 in
    let lt : c.in-Some.at < length c.args.parts.now = omega (arith, seen_length s c.args.parts.now, linked_within seen c.in-Some.at first.rest (subst (λ o. Linked seen o first.rest) c.in-Some.is first.linked)) in
    let p = seen_part s (part_at c.args.parts.now c.in-Some.at) in
    let same = seen_at s c.args.parts.now c.in-Some.at (part_at c.args.parts.now c.in-Some.at) lt (is_at c.args.parts.now c.in-Some.at lt) in
    let w = subst (λ o. IsWalked g.S.Stream.law (g.S.Stream.standing c.args.stream.now) (g.S.Stream.standing c.loop-newest.stream) seen c.args.place o gs) c.in-Some.is (c.loop-newest.invariant gs l) in
    let h : p.holds < c.args.place - c.in-Some.at = omega (arith, c.holds.ensures, c.saturating_sub.ensures, c.if-holds-saturating_sub.false) in
    ends_stopped seen c.args.place gs c.from_residual.result c.from_residual.ensures.0 (walk-stop c.in-Some.at p w same h c.in_err-stream_end.ensures)

pub loop-newest-preserved : goal.loop-newest-preserved
loop-newest-preserved g c gs l =
    let s = c.args.stores.now in
    let seen = seen_parts s c.args.parts.now in
    let first = c.loop-newest.invariant c.requires.linked.0 c.requires.linked.1 in
    let lt : c.in-Some.at < length c.args.parts.now = omega (arith, seen_length s c.args.parts.now, linked_within seen c.in-Some.at first.rest (subst (λ o. Linked seen o first.rest) c.in-Some.is first.linked)) in
    let p = seen_part s (part_at c.args.parts.now c.in-Some.at) in
    let same = seen_at s c.args.parts.now c.in-Some.at (part_at c.args.parts.now c.in-Some.at) lt (is_at c.args.parts.now c.in-Some.at lt) in
    let w = subst (λ o. IsWalked g.S.Stream.law (g.S.Stream.standing c.args.stream.now) (g.S.Stream.standing c.loop-newest.stream) seen c.args.place o gs) c.in-Some.is (c.loop-newest.invariant gs l) in
    let h : p.holds < c.args.place - c.in-Some.at = omega (arith, c.holds.ensures, c.saturating_sub.ensures, c.if-holds-saturating_sub.false) in
    subst (λ o. IsWalked g.S.Stream.law (g.S.Stream.standing c.args.stream.now) (g.S.Stream.standing c.stream_end.new.stream) seen c.args.place o gs) (sym (outer_again s c.args.parts.now (c.outer-newest.ensures s) c.holder.ensures))
    (walk-step c.in-Some.at p w same h c.in_ok-stream_end.ensures)

pub loop-newest-smaller : goal.loop-newest-smaller
loop-newest-smaller g c =
    let s = c.args.stores.now in
    let seen = seen_parts s c.args.parts.now in
    let first = c.loop-newest.invariant c.requires.linked.0 c.requires.linked.1 in
    let lt : c.in-Some.at < length c.args.parts.now = omega (arith, seen_length s c.args.parts.now, linked_within seen c.in-Some.at first.rest (subst (λ o. Linked seen o first.rest) c.in-Some.is first.linked)) in
    let p = seen_part s (part_at c.args.parts.now c.in-Some.at) in
    let same = seen_at s c.args.parts.now c.in-Some.at (part_at c.args.parts.now c.in-Some.at) lt (is_at c.args.parts.now c.in-Some.at lt) in
    let w = subst (λ o. IsWalked g.S.Stream.law (g.S.Stream.standing c.args.stream.now) (g.S.Stream.standing c.loop-newest.stream) seen c.args.place o c.requires.linked.0) c.in-Some.is (c.loop-newest.invariant c.requires.linked.0 c.requires.linked.1) in
    let h : p.holds < c.args.place - c.in-Some.at = omega (arith, c.holds.ensures, c.saturating_sub.ensures, c.if-holds-saturating_sub.false) in
    nearer c.outer-newest.result c.loop-newest.newest c.in-Some.at c.in-Some.is (subst (λ o. IsBelow o c.in-Some.at) (sym (outer_again s c.args.parts.now (c.outer-newest.ensures s) c.holder.ensures)) (walk-below c.in-Some.at p w same h))

pub returns : goal.returns
returns g c gs l =
    let s = c.args.stores.now in
    let seen = seen_parts s c.args.parts.now in
    let w = subst (λ o. IsWalked g.S.Stream.law (g.S.Stream.standing c.args.stream.now) (g.S.Stream.standing c.loop-newest.stream) seen c.args.place o gs) c.in_default.is (c.loop-newest.invariant gs l) in
    let made = walk-none w in
    record { streams = made.streams; linked = subst (λ o. Linked seen o (still c.args.place gs)) (sym c.in_default.is) made.linked }

pub stream_end-requires : goal.stream_end-requires
stream_end-requires g c κs =
    let s = c.args.stores.now in
    let seen = seen_parts s c.args.parts.now in
    let first = c.loop-newest.invariant c.requires.linked.0 c.requires.linked.1 in
    let lt : c.in-Some.at < length c.args.parts.now = omega (arith, seen_length s c.args.parts.now, linked_within seen c.in-Some.at first.rest (subst (λ o. Linked seen o first.rest) c.in-Some.is first.linked)) in
    let p = seen_part s (part_at c.args.parts.now c.in-Some.at) in
    let same = seen_at s c.args.parts.now c.in-Some.at (part_at c.args.parts.now c.in-Some.at) lt (is_at c.args.parts.now c.in-Some.at lt) in
    ((refl, tt), kept_at s c.args.parts.now c.in-Some.at (part_at c.args.parts.now c.in-Some.at) c.requires.kept lt (is_at c.args.parts.now c.in-Some.at lt))
