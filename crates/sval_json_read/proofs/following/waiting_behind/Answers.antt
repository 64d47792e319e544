use Rattle.std.proofs.Common.{◌≡◌, ℕ, ◌≤◌, length, take, Some, List, sym, ap, ◌∙◌, arith, take_all}
use Rattle.sval_json_read.specs.SeenReader.{seen_state}
use Rattle.sval_json_read.specs.Reader.{reader_start, after_bytes}
use Rattle.sval_json_read.specs.declared.reader.Reader.{Reader}
use Rattle.sval_json_read.proofs.Continued.{possible_behind, end_behind, none_possible, none_ends}
use Rattle.sval_json_read.proofs.KeptTokens.{kept_at}
use Rattle.sval_json_read.proofs.TakenFronts.{refused-front}
use Rattle.sval_json_read.proofs.PlainRuns.{byte_and_run, reads_behind}
use Rattle.sval_json_read.proofs.ReaderPlaces.{reads_start}
use Rattle.sval_json_read.proofs.following.waiting_behind.Goals as goal

pub loop-at-init : goal.loop-at-init
loop-at-init c = record {
  within = omega arith;
  reached = ap Some (sym (c.new-reader.ensures.starts c.args.bytes.now));
  reads = reads_start c.args.bytes.now _ _ c.requires c.new-reader.ensures.from c.new-reader.ensures.nodes;
}

pub returns-in-Ok-false-clause-characters : goal.returns-in-Ok-false-clause-characters
returns-in-Ok-false-clause-characters c =
    none_possible c.args.bytes.now
    (refused-front c.args.bytes.now c.loop-at.at (seen_state c.args.bytes.now c.loop-at.at c.loop-at.reader) c.requires c.loop-at-test.true c.loop-at.invariant.reached
    (rw c.in-Ok-false.field-0-test at c.in-Ok-false.ensures.gives))

pub returns-in-Ok-false-clause-end : goal.returns-in-Ok-false-clause-end
returns-in-Ok-false-clause-end c =
    none_ends c.args.bytes.now
    (refused-front c.args.bytes.now c.loop-at.at (seen_state c.args.bytes.now c.loop-at.at c.loop-at.reader) c.requires c.loop-at-test.true c.loop-at.invariant.reached
    (rw c.in-Ok-false.field-0-test at c.in-Ok-false.ensures.gives))

pub returns-in-Err-clause-no_memory : goal.returns-in-Err-clause-no_memory
returns-in-Err-clause-no_memory c =
    kept_at c.args.bytes.now c.loop-at.at (seen_state c.args.bytes.now c.loop-at.at c.loop-at.reader) c.loop-at-test.true c.loop-at.invariant.reached c.in-Err.ensures.no_memory

pub loop-at-preserved : goal.loop-at-preserved
loop-at-preserved c =
    let bytes = c.args.bytes.now in
    record {
      within = omega (arith, c.plain_run.ensures.within);
      reached =
          byte_and_run bytes c.loop-at.at c.plain_run.result (seen_state bytes c.loop-at.at c.loop-at.reader) c.step.new.self c.loop-at-test.true c.loop-at.invariant.reached
          (rw c.in-Ok-true.field-0-test at c.in-Ok-true.ensures.gives) c.plain_run.ensures.passes;
      reads = reads_behind bytes c.loop-at.at c.plain_run.result c.in-Ok-true.ensures.reads;
    }

-- at the end all bytes were taken
all_taken : (bytes : List ℕ) (at : ℕ) (reader : Reader) → length bytes ≤ at → after_bytes reader_start (take at bytes) ≡ Some (seen_state bytes at reader)
    → after_bytes reader_start bytes ≡ Some (seen_state bytes at reader)
all_taken bytes at reader l e = ap (after_bytes reader_start) (sym (take_all at bytes l)) ∙ e

pub returns-clause-characters : goal.returns-clause-characters
returns-clause-characters c =
    possible_behind c.args.bytes.now c.loop-at.reader c.waiting.result c.requires c.loop-at.at
    (all_taken c.args.bytes.now c.loop-at.at c.loop-at.reader c.loop-at-test.false c.loop-at.invariant.reached) c.waiting.ensures.expected c.waiting.ensures.innermost

pub returns-clause-end : goal.returns-clause-end
returns-clause-end c =
    end_behind c.args.bytes.now c.loop-at.reader c.waiting.result c.requires c.loop-at.at
    (all_taken c.args.bytes.now c.loop-at.at c.loop-at.reader c.loop-at-test.false c.loop-at.invariant.reached) c.waiting.ensures.expected c.waiting.ensures.innermost
