use Rattle.std.proofs.Common.{◌≡◌, ◌+◌, ◌-◌, arith, subst, take, length}
use Rattle.std.specs.List.{AllPass}
use Rattle.sval_json.specs.Escape.{is_plain}
use Rattle.std.proofs.lemmas.List.{take_rest}
use Rattle.sval_json.proofs.EscapedPieces.{plain_joins}
use Rattle.sval_json.proofs.EscapeLanes.{plain_until}
use Rattle.sval_json.proofs.escape.plain_by_lanes.Goals as goal

pub returns-then-run-clause-plain : goal.returns-then-run-clause-plain
returns-then-run-clause-plain g c =
    let start = c.loop-start.start in
    plain_joins c.args.bytes.now _ start _ (take_rest c.args.bytes.now start) c.loop-start.invariant.plain c.plain_ahead-run.ensures.plain

pub loop-start-preserved : goal.loop-start-preserved
loop-start-preserved g c =
    let start = c.loop-start.start in
    let whole : c.plain_ahead-run.result ≡ g.row.N = omega (arith, c.plain_ahead-run.ensures.within, c.if-run.false) in
    record {
      end = omega (arith, c.requires.long, c.requires.some);
      within = omega (arith, c.requires.long, c.requires.some, c.loop-start-test.true);
      plain = subst (λ run. AllPass is_plain (take (start + run) c.args.bytes.now)) whole
          (plain_joins c.args.bytes.now _ start _ (take_rest c.args.bytes.now start) c.loop-start.invariant.plain c.plain_ahead-run.ensures.plain);
    }

pub returns-clause-plain : goal.returns-clause-plain
returns-clause-plain g c =
    let bytes = c.args.bytes.now in
    let last = length bytes - g.row.N in
    plain_joins bytes _ last _ (take_rest bytes last) (plain_until bytes last c.loop-start.start (omega (arith, c.loop-start-test.false)) c.loop-start.invariant.plain) c.plain_ahead.ensures.plain
