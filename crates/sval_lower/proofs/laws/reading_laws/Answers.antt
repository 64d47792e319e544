use Rattle.sval_lower.proofs.laws.reading_laws.Goals as goal
use Rattle.sval_lower.proofs.FoundItems.{last_is_found, only_is_found, tag_is_held}

pub returns-clause-last_truth_is_found : goal.returns-clause-last_truth_is_found
returns-clause-last_truth_is_found c = last_is_found

pub returns-clause-last_number_is_found : goal.returns-clause-last_number_is_found
returns-clause-last_number_is_found c = last_is_found

pub returns-clause-only_bytes_are_found : goal.returns-clause-only_bytes_are_found
returns-clause-only_bytes_are_found c = only_is_found

pub returns-clause-tag_is_held : goal.returns-clause-tag_is_held
returns-clause-tag_is_held c = tag_is_held
