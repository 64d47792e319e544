use Rattle.std.proofs.Common.{◌≡◌, ◌+◌, ◌-◌, false, take, get_or, Some, refl, sym, ap, subst, arith}
use Rattle.sval_json.specs.Grammar.{is_space}
use Rattle.sval_json_read.specs.Documents.{IsDocument}
use Rattle.sval_json_read.specs.JsonFronts.{IsTextFrontError}
use Rattle.sval_json_read.specs.Nodes.{tokens_in}
use Rattle.sval_json_read.specs.SeenReader.{seen_state}
use Rattle.sval_json_read.proofs.FrontEnds.{space_behind, past_next, starts_before}
use Rattle.sval_json_read.proofs.ReadFronts.{ends-front, front-document, bad-front, refused-fails, ended-fails}
use Rattle.sval_json_read.proofs.PlainRuns.{byte_and_run, reads_behind}
use Rattle.sval_json_read.proofs.ReaderPlaces.{reads_start}
use Rattle.sval_json_read.proofs.KeptTokens.{kept_at}
use Rattle.sval_json_read.proofs.document.front.front_nodes.Goals as goal

pub loop-reader-init : goal.loop-reader-init
loop-reader-init c = record {
  within = omega arith;
  reached = ap Some (sym (c.new-reader.ensures.starts c.args.bytes.now));
  reads = reads_start c.args.bytes.now _ _ c.requires c.new-reader.ensures.from c.new-reader.ensures.nodes;
  fresh = λ p. absurd (starts_before c.args.bytes.now c.new-reader.result (c.new-reader.ensures.starts c.args.bytes.now) p);
}

pub loop-reader-preserved : goal.loop-reader-preserved
loop-reader-preserved c =
    let bytes = c.args.bytes.now in
    let at = c.loop-reader.at in
    let gives = (rw c.in-Ok-true.field-0-test at c.in-Ok-true.ensures.gives) in
    record {
      within = omega (arith, c.front_run.ensures.within);
      reached = byte_and_run bytes at c.front_run.result (seen_state bytes at c.loop-reader.reader) c.step.new.self (omega arith) c.loop-reader.invariant.reached gives c.front_run.ensures.passes;
      reads = reads_behind bytes at c.front_run.result c.in-Ok-true.ensures.reads;
      fresh = λ p.
          let e : at ≡ at + (1 + c.front_run.result) - 1 = let s = c.front_run.ensures.stays p in omega (arith, s) in
          subst (λ n. is_space (get_or bytes n 0) ≡ false) e
          (space_behind bytes at c.loop-reader.reader.from c.step.new.self.from (at + 1) c.loop-reader.reader.expected c.step.new.self.expected (seen_state bytes at c.loop-reader.reader) (seen_state bytes (at + 1) c.step.new.self) refl refl
          (sym c.loop-reader-test.ensures) gives p);
    }

pub returns-in-Ok-false-clause-err : goal.returns-in-Ok-false-clause-err
returns-in-Ok-false-clause-err c =
    let bytes = c.args.bytes.now in
    let state = seen_state bytes c.loop-reader.at c.loop-reader.reader in
    let gives = (rw c.in-Ok-false.field-0-test at c.in-Ok-false.ensures.gives) in
    bad-front bytes c.loop-reader.at state c.requires c.loop-reader.invariant.within c.loop-reader.invariant.reached (sym c.loop-reader-test.ensures) (λ l. gives)
    (refused-fails bytes c.loop-reader.at state c.requires (omega arith) c.loop-reader.invariant.reached gives)

pub returns-then-at-bytes-clause-err : goal.returns-then-at-bytes-clause-err
returns-then-at-bytes-clause-err c =
    let bytes = c.args.bytes.now in
    let state = seen_state bytes c.loop-reader.at c.loop-reader.reader in
    bad-front bytes c.loop-reader.at state c.requires c.loop-reader.invariant.within c.loop-reader.invariant.reached (sym c.loop-reader-test.ensures) (λ l. absurd (omega (arith, l)))
    (ended-fails bytes c.loop-reader.at state c.requires (omega arith) c.loop-reader.invariant.reached)

pub returns-in-Err-clause-err : goal.returns-in-Err-clause-err
returns-in-Err-clause-err c =
    subst (IsTextFrontError c.args.bytes.now) (sym c.from.ensures)
    (kept_at c.args.bytes.now c.loop-reader.at (seen_state c.args.bytes.now c.loop-reader.at c.loop-reader.reader) (omega arith) c.loop-reader.invariant.reached c.in-Err.ensures.no_memory)

pub returns-in-Ok-clause-ok : goal.returns-in-Ok-clause-ok
returns-in-Ok-clause-ok c =
    let bytes = c.args.bytes.now in
    subst (λ row. IsDocument (take c.loop-reader.at bytes) (tokens_in bytes row)) (sym c.into_nodes.ensures.seen)
    (front-document c.args.bytes.now c.loop-reader.at (seen_state c.args.bytes.now c.loop-reader.at c.loop-reader.reader) c.requires c.loop-reader.invariant.within c.loop-reader.invariant.reached
    (sym c.loop-reader-test.ensures) _ c.in-Ok.ensures.ends)

pub returns-in-Ok-clause-stand : goal.returns-in-Ok-clause-stand
returns-in-Ok-clause-stand c = c.into_nodes.ensures.stand c.args.bytes.now c.in-Ok.ensures.reads.stand

pub returns-in-Ok-clause-ends : goal.returns-in-Ok-clause-ends
returns-in-Ok-clause-ends c =
    ends-front c.args.bytes.now c.loop-reader.at (seen_state c.args.bytes.now c.loop-reader.at c.loop-reader.reader) c.requires c.loop-reader.invariant.within c.loop-reader.invariant.reached
    (sym c.loop-reader-test.ensures) (λ x o. c.loop-reader.invariant.fresh (past_next c.args.bytes.now c.loop-reader.at c.loop-reader.reader x o))
