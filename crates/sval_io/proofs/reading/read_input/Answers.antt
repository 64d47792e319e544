use Rattle.std.proofs.Common.{rules, arith, ◌≡◌, ◌∙◌, take, length, IfSome, refl, subst}
use Rattle.std.proofs.lemmas.List.{length-take-le, take_all}
use Rattle.std.proofs.lemmas.Result.{err_from_is_err_and}
use Rattle.sval_io.specs.WholeInputs.{TakesAll}
use Rattle.sval_io.proofs.ReadParts.{read_whole, read_long, read_short, part_read}
use Rattle.sval_io.proofs.reading.read_input.Goals as goal

pub loop-filled-preserved : goal.loop-filled-preserved
loop-filled-preserved g c =
    let room = c.in_ok-make_room.ensures in
    let held : length c.loop-filled.bytes.items ≡ c.loop-filled.bytes.len = search rules in
    let longer : length c.make_room.new.bytes.items ≡ c.make_room.new.bytes.len = search rules in
    let part = part_read _ _ _ c.loop-filled.bytes.items c.make_room.new.bytes.items c.deref_mut.result.now c.read.new.buffer _ _ c.loop-filled.filled c.make_room.new.bytes.len c.in_ok-count.count c.loop-filled.invariant.read (omega (arith, c.loop-filled.invariant.filled, held)) room.kept room.room c.deref_mut.ensures.value longer c.read.auto.buffer c.in_ok-count.ensures in
    record {
      read = part.0;
      filled = omega (arith, part.1, longer);
      short = omega (arith, room.short, longer);
      faults = c.in_ok-count.ensures.faults ∙ c.loop-filled.invariant.faults;
    }

pub returns-in_err-read-clause-err : goal.returns-in_err-read-clause-err
returns-in_err-read-clause-err g c =
    let p = err_from_is_err_and c.from_residual-in_err-read.result c.from_residual-in_err-read.ensures.1 in
    let no = c.in_err-read.ensures in
    let held : length c.loop-filled.bytes.items ≡ c.loop-filled.bytes.len = search rules in
    let size : length (take c.loop-filled.filled c.loop-filled.bytes.items) ≡ c.loop-filled.filled =
    length-take-le c.loop-filled.filled c.loop-filled.bytes.items (omega (arith, c.loop-filled.invariant.filled, held)) in
    rw (p.1, p.2) record {
      fault = λ e. rw (← c.loop-filled.invariant.faults) no.cause;
      moved = λ m. refl;
      long = λ e. cc e;
      short = λ n. read_short _ _ _ (take c.loop-filled.filled c.loop-filled.bytes.items) c.loop-filled.invariant.read (omega (arith, size, c.loop-filled.invariant.filled, c.loop-filled.invariant.short)) no.left;
      want = λ e. cc e;
      faults = omega (arith, c.loop-filled.invariant.faults, no.faults);
    }

pub returns-in-0-clause-ok : goal.returns-in-0-clause-ok
returns-in-0-clause-ok g c =
    let held : length c.loop-filled.bytes.items ≡ c.loop-filled.bytes.len = search rules in
    let all : take c.loop-filled.filled c.loop-filled.bytes.items ≡ c.loop-filled.bytes.items =
    take_all c.loop-filled.filled c.loop-filled.bytes.items (omega (arith, held, c.loop-filled.invariant.short, c.loop-filled-test.false)) in
    record {
      taken = subst (λ bytes. IfSome (g.I.Source.told c.args.input.now).left (λ whole. TakesAll whole bytes (g.I.Source.told c.read-2.new.self).left)) all
          (read_whole _ _ _ (take c.loop-filled.filled c.loop-filled.bytes.items) c.read-2.new.buffer c.in_ok-read.field-0 c.loop-filled.invariant.read c.in_ok-read.ensures c.in-0.is (omega (arith, c.read-2.auto.buffer)));
      short = omega (arith, held, c.loop-filled.invariant.short);
      faults = c.in_ok-read.ensures.faults ∙ c.loop-filled.invariant.faults;
    }

pub returns-in_default-clause-err : goal.returns-in_default-clause-err
returns-in_default-clause-err g c =
    let held : length c.loop-filled.bytes.items ≡ c.loop-filled.bytes.len = search rules in
    let full : length (take c.loop-filled.filled c.loop-filled.bytes.items) ≡ 16777216 =
    length-take-le c.loop-filled.filled c.loop-filled.bytes.items (omega (arith, c.loop-filled.invariant.filled, held)) ∙ omega (arith, c.loop-filled.invariant.filled, c.loop-filled.invariant.short, c.loop-filled-test.false) in
    let one : c.in_ok-read.field-0 ≡ 1 = search rules in
    record {
      fault = λ e. cc e;
      moved = λ m. absurd (omega (arith, m, c.in_ok-read.ensures.faults, c.loop-filled.invariant.faults));
      long = λ e. read_long _ _ _ (take c.loop-filled.filled c.loop-filled.bytes.items) c.read-2.new.buffer c.in_ok-read.field-0 c.loop-filled.invariant.read full c.in_ok-read.ensures one;
      short = λ n. absurd (n refl);
      want = λ e. cc e;
      faults = omega (arith, c.in_ok-read.ensures.faults, c.loop-filled.invariant.faults);
    }
