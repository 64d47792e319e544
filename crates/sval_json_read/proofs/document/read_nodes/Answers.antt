use Rattle.std.proofs.Common.{◌≡◌, ℕ, ◌≤◌, length, take, Some, List, sym, ap, subst, ◌∙◌, arith, take_all}
use Rattle.sval_json_read.specs.Documents.{IsBadJson, IsDocument}
use Rattle.sval_json_read.specs.ReadErrors.{IsTextReadError}
use Rattle.sval_json_read.specs.Nodes.{tokens_in}
use Rattle.sval_json_read.specs.SeenReader.{seen_state}
use Rattle.sval_json_read.specs.Reader.{reader_start, after_bytes}
use Rattle.sval_json_read.specs.declared.reader.Reader.{Reader}
use Rattle.sval_json_read.proofs.Loop.{after-byte, refused-at, ended-bad, ended-document}
use Rattle.sval_json_read.proofs.ReaderPlaces.{reads_start}
use Rattle.sval_json_read.proofs.KeptTokens.{kept_at, kept_end}
use Rattle.sval_json_read.proofs.document.read_nodes.Goals as goal

-- at the end all bytes were taken
all_taken : (bytes : List ℕ) (at : ℕ) (reader : Reader) → length bytes ≤ at → at ≤ length bytes → after_bytes reader_start (take at bytes) ≡ Some (seen_state bytes at reader)
    → after_bytes reader_start bytes ≡ Some (seen_state bytes (length bytes) reader)
all_taken bytes at reader l w e =
    let s : at ≡ length bytes = omega arith in
    ap (after_bytes reader_start) (sym (take_all at bytes l)) ∙ subst (λ n. after_bytes reader_start (take at bytes) ≡ Some (seen_state bytes n reader)) s e

pub loop-at-init : goal.loop-at-init
loop-at-init c = record {
  within = omega arith;
  reached = ap Some (sym (c.new-reader.ensures.starts c.args.bytes.now));
  reads = reads_start c.args.bytes.now _ _ c.requires c.new-reader.ensures.from c.new-reader.ensures.nodes;
}

pub returns-in-Ok-false-clause-err : goal.returns-in-Ok-false-clause-err
returns-in-Ok-false-clause-err c =
    refused-at c.args.bytes.now c.loop-at.at (seen_state c.args.bytes.now c.loop-at.at c.loop-at.reader) c.loop-at-test.true c.loop-at.invariant.reached
    (rw c.in-Ok-false.field-0-test at c.in-Ok-false.ensures.gives) c.requires

pub loop-at-preserved : goal.loop-at-preserved
loop-at-preserved c =
    let bytes = c.args.bytes.now in
    record {
      within = c.pass_over-at.ensures.within;
      reached =
          c.pass_over-at.ensures.reaches
          (after-byte bytes c.loop-at.at (seen_state bytes c.loop-at.at c.loop-at.reader) c.loop-at-test.true c.loop-at.invariant.reached
          ∙ (rw c.in-Ok-true.field-0-test at c.in-Ok-true.ensures.gives));
      reads = c.pass_over-at.ensures.reads;
    }

pub returns-in-Ok-true-finish-clause-ok : goal.returns-in-Ok-true-finish-clause-ok
returns-in-Ok-true-finish-clause-ok c =
    subst (λ row. IsDocument c.args.bytes.now (tokens_in c.args.bytes.now row)) (sym c.into_nodes.ensures.seen)
    (ended-document c.args.bytes.now (seen_state c.args.bytes.now (length c.args.bytes.now) c.loop-at.reader) c.requires
    (all_taken c.args.bytes.now c.loop-at.at c.loop-at.reader c.loop-at-test.false c.loop-at.invariant.within c.loop-at.invariant.reached)
    _ (rw c.in-Ok-true-finish.field-0-test at c.in-Ok-true-finish.ensures.ends))

pub returns-in-Ok-true-finish-clause-stand : goal.returns-in-Ok-true-finish-clause-stand
returns-in-Ok-true-finish-clause-stand c = c.into_nodes.ensures.stand c.args.bytes.now c.in-Ok-true-finish.ensures.reads.stand

pub returns-in-Ok-false-finish-clause-err : goal.returns-in-Ok-false-finish-clause-err
returns-in-Ok-false-finish-clause-err c =
    let s : length c.args.bytes.now ≡ c.loop-at.at = omega (arith, c.loop-at-test.false, c.loop-at.invariant.within) in
    subst (IsBadJson c.args.bytes.now) s
    (ended-bad c.args.bytes.now (seen_state c.args.bytes.now (length c.args.bytes.now) c.loop-at.reader) c.requires
    (all_taken c.args.bytes.now c.loop-at.at c.loop-at.reader c.loop-at-test.false c.loop-at.invariant.within c.loop-at.invariant.reached)
    (rw c.in-Ok-false-finish.field-0-test at c.in-Ok-false-finish.ensures.ends))

pub returns-in-Err-clause-err : goal.returns-in-Err-clause-err
returns-in-Err-clause-err c =
    subst (IsTextReadError c.args.bytes.now) (sym c.from.ensures)
    (kept_at c.args.bytes.now c.loop-at.at (seen_state c.args.bytes.now c.loop-at.at c.loop-at.reader) c.loop-at-test.true c.loop-at.invariant.reached c.in-Err.ensures.no_memory)

pub returns-in-Err-finish-clause-err : goal.returns-in-Err-finish-clause-err
returns-in-Err-finish-clause-err c =
    subst (IsTextReadError c.args.bytes.now) (sym c.from-in-Err-finish.ensures)
    (kept_end c.args.bytes.now (seen_state c.args.bytes.now (length c.args.bytes.now) c.loop-at.reader)
    (all_taken c.args.bytes.now c.loop-at.at c.loop-at.reader c.loop-at-test.false c.loop-at.invariant.within c.loop-at.invariant.reached) c.in-Err-finish.ensures.no_memory)
