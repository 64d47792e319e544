use Rattle.std.proofs.Common.{rules, refl, arith, ◌≡◌, ◌≤◌, ◌<◌, ◌∙◌, length}
use Rattle.std.proofs.lemmas.List.{length-take-le}
use Rattle.std.proofs.lemmas.Result.{err_from_is_err_and}
use Rattle.sval_io.proofs.ReadParts.{read_long, read_short, read_nothing, below_nothing}
use Rattle.sval_program.proofs.ReadScripts.{reads-none, reads-more, reads-all}
use Rattle.sval_program.proofs.reading.read_script.Goals as goal

pub loop-taken-init : goal.loop-taken-init
loop-taken-init g c = record {
  reading = reads-none (g.I.Source.told c.args.input.now) c.new-reader.result c.new-reader.ensures;
  short = omega arith;
  buffer = c.in_ok-buffer.ensures.len;
}

pub returns-in_err-buffer-clause-err : goal.returns-in_err-buffer-clause-err
returns-in_err-buffer-clause-err g c =
    let p = err_from_is_err_and c.from_residual.result c.from_residual.ensures.1 in
    rw (p.1, p.2) record {
      fault = λ e. cc e;
      moved = λ m. absurd (omega (arith, m));
      long = λ e. cc e;
      short = λ n. read_nothing (g.I.Source.told c.args.input.now).left;
      want = λ e. below_nothing (g.I.Source.told c.args.input.now);
      faults = omega arith;
    }

pub loop-taken-preserved : goal.loop-taken-preserved
loop-taken-preserved g c =
    let part = c.in_ok-count.ensures.ok in
    let size : length c.deref_mut.result.now ≡ 65536 = c.deref_mut.ensures.len ∙ c.loop-taken.invariant.buffer in
    let least : c.min-room.result ≤ length c.deref_mut.result.now = omega (arith, size, c.min-room.ensures) in
    let room : c.in_ok-count.count ≤ c.min-room.result =
    omega (arith, part.gives.within, c.read_part.auto.buffer, length-take-le c.min-room.result c.deref_mut.result.now least) in
    record {
      reading = reads-more (g.I.Source.told c.read_part.new.input) c.read_part.new.reader c.read_part.new.buffer c.in_ok-count.count c.loop-taken.invariant.reading part c.if-count-eq0.false;
      short = omega (arith, room, c.min-room.ensures, c.loop-taken.invariant.short);
      buffer = c.loop-taken.invariant.buffer;
    }

pub returns-then-count-eq0-clause-ok : goal.returns-then-count-eq0-clause-ok
returns-then-count-eq0-clause-ok g c =
    let part = c.in_ok-count.ensures.ok in
    let size : length c.deref_mut.result.now ≡ 65536 = c.deref_mut.ensures.len ∙ c.loop-taken.invariant.buffer in
    let least : c.min-room.result ≤ length c.deref_mut.result.now = omega (arith, size, c.min-room.ensures) in
    let below : c.loop-taken.taken < 16777216 = search rules in
    let some : 0 < length c.read_part.new.buffer =
    omega (arith, below, c.min-room.ensures, c.read_part.auto.buffer, length-take-le c.min-room.result c.deref_mut.result.now least) in
    rw (part.nothing c.if-count-eq0.true)
    (reads-all (g.I.Source.told c.read_part.new.input) c.read_part.new.buffer c.in_ok-count.count c.loop-taken.invariant.reading part.gives c.if-count-eq0.true some c.loop-taken.invariant.short)

pub returns-in_err-count-clause-err : goal.returns-in_err-count-clause-err
returns-in_err-count-clause-err g c =
    let p = err_from_is_err_and c.from_residual-in_err-count.result c.from_residual-in_err-count.ensures.1 in
    let r = c.loop-taken.invariant.reading in
    let no = c.in_err-count.ensures.err in
    rw (p.1, p.2) record {
      fault = λ e. rw (← r.faults) no.cause;
      moved = λ m. refl;
      long = λ e. cc e;
      short = λ n. read_short _ _ _ r.bytes r.read (omega (arith, r.size, c.loop-taken.invariant.short)) no.left;
      want = λ e. cc e;
      faults = omega (arith, r.faults, no.faults);
    }

pub returns-in-0-clause-ok : goal.returns-in-0-clause-ok
returns-in-0-clause-ok g c =
    reads-all (g.I.Source.told c.read.new.self) c.read.new.buffer c.in_ok-read.field-0 c.loop-taken.invariant.reading c.in_ok-read.ensures c.in-0.is (omega (arith, c.read.auto.buffer)) c.loop-taken.invariant.short

pub returns-in_err-read-clause-err : goal.returns-in_err-read-clause-err
returns-in_err-read-clause-err g c =
    let p = err_from_is_err_and c.from_residual-in_err-read.result c.from_residual-in_err-read.ensures.1 in
    let r = c.loop-taken.invariant.reading in
    let no = c.in_err-read.ensures in
    rw (p.1, p.2) record {
      fault = λ e. rw (← r.faults) no.cause;
      moved = λ m. refl;
      long = λ e. cc e;
      short = λ n. read_short _ _ _ r.bytes r.read (omega (arith, r.size, c.loop-taken.invariant.short)) no.left;
      want = λ e. cc e;
      faults = omega (arith, r.faults, no.faults);
    }

pub returns-in_default-clause-err : goal.returns-in_default-clause-err
returns-in_default-clause-err g c =
    let r = c.loop-taken.invariant.reading in
    let full : length r.bytes ≡ 16777216 = omega (arith, r.size, c.loop-taken.invariant.short) in
    let one : c.in_ok-read.field-0 ≡ 1 = search rules in
    record {
      fault = λ e. cc e;
      moved = λ m. absurd (omega (arith, m, c.in_ok-read.ensures.faults, r.faults));
      long = λ e. read_long _ _ _ r.bytes c.read.new.buffer c.in_ok-read.field-0 r.read full c.in_ok-read.ensures one;
      short = λ n. absurd (n refl);
      want = λ e. cc e;
      faults = omega (arith, c.in_ok-read.ensures.faults, r.faults);
    }
