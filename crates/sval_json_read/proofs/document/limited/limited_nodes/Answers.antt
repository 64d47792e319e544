use Rattle.std.proofs.Common.{◌≡◌, ℕ, ◌<◌, ◌≤◌, length, take, get_or, Some, List, IsUtf8, refl, sym, ap, subst, ◌∙◌, arith, take_all}
use Rattle.std.proofs.lemmas.Result.{err_from_is_err_and}
use Rattle.sval_io.specs.declared.limits.Limits.{Limits}
use Rattle.sval_json_read.specs.declared.document.limited.LimitedError.{LimitedError}
use Rattle.sval_json_read.specs.declared.document.limited.LimitedError.TheVariants.{Read, TooDeep, TooMany}
use Rattle.sval_json_read.specs.Documents.{IsBadJson, IsDocument}
use Rattle.sval_json_read.specs.JsonLimits.{IsWithinTo, IsTooDeep, IsTooMany, IsLimitedTextError}
use Rattle.sval_json_read.specs.Outlines.{begun_nodes}
use Rattle.sval_json_read.specs.Nodes.{tokens_in}
use Rattle.sval_json_read.specs.SeenReader.{seen_state}
use Rattle.sval_json_read.specs.SeenLimits.{PassesLimit}
use Rattle.sval_json_read.specs.Reader.{ReaderState, reader_start, after_bytes}
use Rattle.sval_json_read.specs.declared.reader.Reader.{Reader}
use Rattle.sval_json_read.proofs.Loop.{refused-at, ended-bad, ended-document}
use Rattle.sval_json_read.proofs.PlainRuns.{byte_and_run, reads_behind}
use Rattle.sval_json_read.proofs.ReaderPlaces.{reads_start}
use Rattle.sval_json_read.proofs.KeptTokens.{kept_at, kept_end}
use Rattle.sval_json_read.proofs.LimitedFronts.{counts-on, stays-within, too-deep, too-many, starts-within}
use Rattle.sval_json_read.proofs.document.limited.limited_nodes.Goals as goal

-- at the end all bytes were taken
all_taken : (bytes : List ℕ) (at : ℕ) (reader : Reader) → length bytes ≤ at → at ≤ length bytes → after_bytes reader_start (take at bytes) ≡ Some (seen_state bytes at reader)
    → after_bytes reader_start bytes ≡ Some (seen_state bytes (length bytes) reader)
all_taken bytes at reader l w e =
    let s : at ≡ length bytes = omega arith in
    ap (after_bytes reader_start) (sym (take_all at bytes l)) ∙ subst (λ n. after_bytes reader_start (take at bytes) ≡ Some (seen_state bytes n reader)) s e

pub loop-at-init : goal.loop-at-init
loop-at-init c = record {
  within = omega arith;
  reached = ap Some (sym (c.new-reader.ensures.starts c.args.bytes.now));
  reads = reads_start c.args.bytes.now _ _ c.requires c.new-reader.ensures.from c.new-reader.ensures.nodes;
  counted = refl;
  kept = starts-within c.args.bytes.now c.args.limits;
}

pub loop-at-preserved : goal.loop-at-preserved
loop-at-preserved c =
    let bytes = c.args.bytes.now in
    let at = c.loop-at.at in
    let state = seen_state bytes at c.loop-at.reader in
    let old = c.loop-at.invariant in
    let gives = (rw c.in-Ok-true.field-0-test at c.in-Ok-true.ensures.gives) in
    let more = c.in_ok-begun.ensures.ok in
    record {
      within = omega (arith, c.plain_run.ensures.within);
      reached = byte_and_run bytes at c.plain_run.result state c.step.new.self c.loop-at-test.true old.reached gives c.plain_run.ensures.passes;
      reads = reads_behind bytes at c.plain_run.result c.in-Ok-true.ensures.reads;
      counted = counts-on bytes at c.args.limits state c.loop-at-test.true old.reached old.kept c.plain_run.result c.loop-at.begun c.in_ok-begun.begun c.step.new.self old.counted more gives c.plain_run.ensures.passes;
      kept = stays-within bytes at c.args.limits state c.loop-at-test.true old.reached old.kept c.plain_run.result c.loop-at.begun c.in_ok-begun.begun c.step.new.self old.counted more gives c.plain_run.ensures.passes;
    }

-- the limit that a byte passes
passed : (bytes : List ℕ) (limits : Limits) (at begun : ℕ) (state : ReaderState) (error : LimitedError) → IsUtf8 bytes → at < length bytes → after_bytes reader_start (take at bytes) ≡ Some state → IsWithinTo bytes limits at
    → begun ≡ begun_nodes (take at bytes) → PassesLimit state.expected (length state.opened) (get_or bytes at 0) begun limits at error → IsLimitedTextError bytes limits error
passed bytes limits at begun state (Read error) u l e k n h = absurd h
passed bytes limits at begun state (TooDeep place) u l e k n h = subst (IsTooDeep bytes limits) (sym h.0) (too-deep bytes at limits state l e k u h.1 h.2 h.3)
passed bytes limits at begun state (TooMany place) u l e k n h = subst (IsTooMany bytes limits) (sym h.0) (too-many bytes at limits state l e k u h.1 begun n h.2 h.3)

pub returns-in_err-begun-clause-err : goal.returns-in_err-begun-clause-err
returns-in_err-begun-clause-err c =
    let state = seen_state c.args.bytes.now c.loop-at.at c.loop-at.reader in
    let old = c.loop-at.invariant in
    let p = err_from_is_err_and c.from_residual.result c.from_residual.ensures.1 in
    rw (p.1, p.2) (passed c.args.bytes.now c.args.limits c.loop-at.at c.loop-at.begun state c.in_err-begun.field-0.0 c.requires c.loop-at-test.true old.reached old.kept old.counted c.in_err-begun.ensures.err)

pub returns-in-Ok-false-clause-err : goal.returns-in-Ok-false-clause-err
returns-in-Ok-false-clause-err c = (
  refused-at c.args.bytes.now c.loop-at.at (seen_state c.args.bytes.now c.loop-at.at c.loop-at.reader) c.loop-at-test.true c.loop-at.invariant.reached
      (rw c.in-Ok-false.field-0-test at c.in-Ok-false.ensures.gives) c.requires,
  c.loop-at.invariant.kept,
)

pub returns-in-Ok-true-finish-clause-ok : goal.returns-in-Ok-true-finish-clause-ok
returns-in-Ok-true-finish-clause-ok c =
    subst (λ row. IsDocument c.args.bytes.now (tokens_in c.args.bytes.now row)) (sym c.into_nodes.ensures.seen)
    (ended-document c.args.bytes.now (seen_state c.args.bytes.now (length c.args.bytes.now) c.loop-at.reader) c.requires
    (all_taken c.args.bytes.now c.loop-at.at c.loop-at.reader c.loop-at-test.false c.loop-at.invariant.within c.loop-at.invariant.reached)
    _ (rw c.in-Ok-true-finish.field-0-test at c.in-Ok-true-finish.ensures.ends))

pub returns-in-Ok-true-finish-clause-stand : goal.returns-in-Ok-true-finish-clause-stand
returns-in-Ok-true-finish-clause-stand c = c.into_nodes.ensures.stand c.args.bytes.now c.in-Ok-true-finish.ensures.reads.stand

pub returns-in-Ok-false-finish-clause-err : goal.returns-in-Ok-false-finish-clause-err
returns-in-Ok-false-finish-clause-err c =
    let s : length c.args.bytes.now ≡ c.loop-at.at = omega (arith, c.loop-at-test.false, c.loop-at.invariant.within) in (
      subst (IsBadJson c.args.bytes.now) s
          (ended-bad c.args.bytes.now (seen_state c.args.bytes.now (length c.args.bytes.now) c.loop-at.reader) c.requires
          (all_taken c.args.bytes.now c.loop-at.at c.loop-at.reader c.loop-at-test.false c.loop-at.invariant.within c.loop-at.invariant.reached)
          (rw c.in-Ok-false-finish.field-0-test at c.in-Ok-false-finish.ensures.ends)),
      c.loop-at.invariant.kept,
    )

pub returns-in-Err-clause-err : goal.returns-in-Err-clause-err
returns-in-Err-clause-err c =
    subst (IsLimitedTextError c.args.bytes.now c.args.limits) (sym c.from.ensures)
    (kept_at c.args.bytes.now c.loop-at.at (seen_state c.args.bytes.now c.loop-at.at c.loop-at.reader) c.loop-at-test.true c.loop-at.invariant.reached c.in-Err.ensures.no_memory)

pub returns-in-Err-finish-clause-err : goal.returns-in-Err-finish-clause-err
returns-in-Err-finish-clause-err c =
    subst (IsLimitedTextError c.args.bytes.now c.args.limits) (sym c.from-in-Err-finish.ensures)
    (kept_end c.args.bytes.now (seen_state c.args.bytes.now (length c.args.bytes.now) c.loop-at.reader)
    (all_taken c.args.bytes.now c.loop-at.at c.loop-at.reader c.loop-at-test.false c.loop-at.invariant.within c.loop-at.invariant.reached) c.in-Err-finish.ensures.no_memory)
