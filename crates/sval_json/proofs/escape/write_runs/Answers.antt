use Rattle.std.proofs.Common.{rules, ◌+◌}
use Rattle.sval_json.proofs.EscapedPieces.{after_run, after_escape, from_place, stops_in_run, stops_in_escape, escaped_whole, ends_plain}
use Rattle.sval_json.proofs.escape.write_runs.Goals as goal

pub returns-in_err-write_all : goal.returns-in_err-write_all
returns-in_err-write_all g c =
    let stops = stops_in_run c.loop-run.run c.loop-run.invariant.due c.loop-run.invariant.plain c.in_err-write_all.ensures.writes in search rules

pub returns-in_err-write_escape : goal.returns-in_err-write_escape
returns-in_err-write_escape g c =
    let run = after_run c.loop-run.run c.loop-run.invariant.due c.loop-run.invariant.plain c.in_ok-write_all.ensures.writes in
    let stops = stops_in_escape c.loop-run.rest.now c.loop-run.run c.loop-run-test.true run c.in_err-write_escape.ensures in search rules

pub loop-run-preserved : goal.loop-run-preserved
loop-run-preserved g c =
    let run = after_run c.loop-run.run c.loop-run.invariant.due c.loop-run.invariant.plain c.in_ok-write_all.ensures.writes in record {
      due = from_place c.loop-run.rest.now (c.loop-run.run + 1) (after_escape c.loop-run.rest.now c.loop-run.run c.loop-run-test.true run c.in_ok-write_escape.ensures);
      within = c.first_escape-run.ensures.within;
      plain = c.first_escape-run.ensures.plain;
      found = c.first_escape-run.ensures.found;
    }

pub returns : goal.returns
returns g c =
    let due = c.loop-run.invariant in
    ends_plain (g.K.Sink.told c.write_all-2.new.sink) c.write_all-2.result due.due (escaped_whole c.loop-run.rest.now c.loop-run.run (search rules) due.plain) c.write_all-2.ensures.writes
