use Rattle.std.proofs.Common.{refl, ◌≡◌, ◌+◌, ◌<◌, ◌≤◌, length, sym, ◌∙◌, subst, arith, Option, ℕ}
use Rattle.sval_buffer.specs.SeenParts.{seen_part, seen_parts}
use Rattle.sval_buffer.proofs.Replaying.{IsReplayed, replay-step, replay-stop_ends, replay-stop_head, replay-stop_last, replay-end, newest_opened, newest_kept}
use Rattle.sval_core.proofs.Emissions.{passes_on}
use Rattle.sval_buffer.proofs.KeptParts.{part_at, is_at, seen_at, kept_at, seen_length}
use Rattle.sval_buffer.proofs.one_pass.replay_parts.Goals as goal
use Rattle.sval_buffer.proofs.one_pass.replay_parts.Goals.{then-is_container, else-is_container}

pub returns-in_err-going : goal.returns-in_err-going
returns-in_err-going g c =
    let s = c.args.stores.now in
    let seen = seen_parts s c.args.parts.now in
    let size = seen_length s c.args.parts.now in
    let at : c.loop-place.place < length c.args.parts.now = omega (arith, c.loop-place-test.true) in
    let lt_seen : c.loop-place.place < length seen = omega (arith, size, at) in
    let p = seen_part s (part_at c.args.parts.now c.loop-place.place) in
    let same = seen_at s c.args.parts.now c.loop-place.place (part_at c.args.parts.now c.loop-place.place) at (is_at c.args.parts.now c.loop-place.place at) in
    let r = c.loop-place.invariant in
    passes_on c.from_residual.result c.from_residual.ensures.0 (replay-stop_ends p r lt_seen same (c.in_err-going.ensures r.gs r.linked))

pub returns-in_err-stream_head : goal.returns-in_err-stream_head
returns-in_err-stream_head g c =
    let s = c.args.stores.now in
    let seen = seen_parts s c.args.parts.now in
    let size = seen_length s c.args.parts.now in
    let at : c.loop-place.place < length c.args.parts.now = omega (arith, c.loop-place-test.true) in
    let lt_seen : c.loop-place.place < length seen = omega (arith, size, at) in
    let p = seen_part s (part_at c.args.parts.now c.loop-place.place) in
    let same = seen_at s c.args.parts.now c.loop-place.place (part_at c.args.parts.now c.loop-place.place) at (is_at c.args.parts.now c.loop-place.place at) in
    let r = c.loop-place.invariant in
    passes_on c.from_residual-in_err-stream_head.result c.from_residual-in_err-stream_head.ensures.0
    (replay-stop_head p r lt_seen same (c.in_ok-going.ensures r.gs r.linked).streams c.in_err-stream_head.ensures)

pub loop-place-preserved : goal.loop-place-preserved
loop-place-preserved g c =
    let s = c.args.stores.now in
    let seen = seen_parts s c.args.parts.now in
    let size = seen_length s c.args.parts.now in
    let at : c.loop-place.place < length c.args.parts.now = omega (arith, c.loop-place-test.true) in
    let lt_seen : c.loop-place.place < length seen = omega (arith, size, at) in
    let p = seen_part s (part_at c.args.parts.now c.loop-place.place) in
    let same = seen_at s c.args.parts.now c.loop-place.place (part_at c.args.parts.now c.loop-place.place) at (is_at c.args.parts.now c.loop-place.place at) in
    let r = c.loop-place.invariant in
    let step = replay-step p r lt_seen same (c.in_ok-going.ensures r.gs r.linked).streams c.in_ok-going.going (c.in_ok-going.ensures r.gs r.linked).linked c.in_ok-stream_head.ensures in
    let to : Option ℕ → Type 0 = λ o. IsReplayed g.S.Stream.law (g.S.Stream.standing c.args.stream.now) (g.S.Stream.standing c.stream_head.new.stream) seen (c.loop-place.place + 1) o in
    elim c.if-is_container.branch [
      | then-is_container w ↦ subst to (newest_opened c.loop-place.place p.kind c.in_ok-going.going c.is_container.result (c.is_container.ensures s) w.if-is_container.true ∙ sym w.going-is) step
      | else-is_container w ↦ subst to (newest_kept c.loop-place.place p.kind c.in_ok-going.going c.is_container.result (c.is_container.ensures s) w.if-is_container.false ∙ sym w.going-is) step
    ]

pub returns-in_err-end_before : goal.returns-in_err-end_before
returns-in_err-end_before g c =
    let s = c.args.stores.now in
    let seen = seen_parts s c.args.parts.now in
    let size = seen_length s c.args.parts.now in
    let r = c.loop-place.invariant in
    let end : length c.args.parts.now ≡ c.loop-place.place = omega (arith, size, c.loop-place-test.false, c.loop-place.auto.place-end) in
    let left : length seen ≤ c.loop-place.place = omega (arith, size, c.loop-place-test.false) in
    passes_on c.from_residual-in_err-end_before.result c.from_residual-in_err-end_before.ensures.0 (replay-stop_last r left _ end (c.in_err-end_before.ensures r.gs r.linked))

pub returns : goal.returns
returns g c =
    let s = c.args.stores.now in
    let seen = seen_parts s c.args.parts.now in
    let size = seen_length s c.args.parts.now in
    let r = c.loop-place.invariant in
    let end : length c.args.parts.now ≡ c.loop-place.place = omega (arith, size, c.loop-place-test.false, c.loop-place.auto.place-end) in
    let left : length seen ≤ c.loop-place.place = omega (arith, size, c.loop-place-test.false) in
    replay-end r left _ end (c.in_ok-end_before.ensures r.gs r.linked).streams

pub stream_head-requires : goal.stream_head-requires
stream_head-requires g c κs =
    let s = c.args.stores.now in
    let seen = seen_parts s c.args.parts.now in
    let size = seen_length s c.args.parts.now in
    let at : c.loop-place.place < length c.args.parts.now = omega (arith, c.loop-place-test.true) in
    let lt_seen : c.loop-place.place < length seen = omega (arith, size, at) in
    let p = seen_part s (part_at c.args.parts.now c.loop-place.place) in
    let same = seen_at s c.args.parts.now c.loop-place.place (part_at c.args.parts.now c.loop-place.place) at (is_at c.args.parts.now c.loop-place.place at) in
    ((refl, tt), kept_at s c.args.parts.now c.loop-place.place (part_at c.args.parts.now c.loop-place.place) c.requires.kept at (is_at c.args.parts.now c.loop-place.place at))
