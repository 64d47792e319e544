use Rattle.sval_relay.proofs.laws.verdict_laws.Goals as goal
use Rattle.sval_relay.proofs.Verdicts.{one_verdict, both_json_ways_agree, scripts_are_canonical}
use Rattle.sval_relay.proofs.OneDue.{one_due}
use Rattle.sval_relay.proofs.TreeVerdicts.{tree_gives_json, only_json_gives_text}
use Rattle.sval_relay.proofs.LeftTexts.{one_text_left, left_by_verdict, left_is_written, slices_leave_trees}

pub returns : goal.returns
returns c = record {
  one_due = one_due;
  one_verdict = one_verdict;
  both_json_ways_agree = both_json_ways_agree;
  tree_gives_json = tree_gives_json;
  only_json_gives_text = only_json_gives_text;
  one_text_left = one_text_left;
  left_by_verdict = left_by_verdict;
  left_is_written = left_is_written;
  slices_leave_trees = slices_leave_trees;
  scripts_are_canonical = scripts_are_canonical;
}
