use Rattle.sval_c.specs.OfFilters.{FilteredTextDue}
use Rattle.sval_c.proofs.Reported.{reported}
use Rattle.sval_c.proofs.filter.sval_json_filter.Goals as goal

pub returns : goal.returns
returns c =
    reported (FilteredTextDue c.args.rule c.args.input.now c.args.paths.now) c.by_number.result (λ bytes. bytes.items) c.answer.result c.args.out.now c.answer.new.out c.by_number.ensures c.answer.ensures
