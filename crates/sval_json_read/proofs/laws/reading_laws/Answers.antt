use Rattle.sval_json_read.proofs.laws.reading_laws.Goals as goal
use Rattle.sval_json_read.proofs.Documents.{document-read, read-document, refused-bad, read-or-bad, not-both}
use Rattle.sval_json_read.proofs.Fails.{stops-fails, fails-once}
use Rattle.sval_json_read.proofs.OneDue.{one_due}

pub returns-clause-one_due : goal.returns-clause-one_due
returns-clause-one_due c = one_due

pub returns-clause-reads_the_documents : goal.returns-clause-reads_the_documents
returns-clause-reads_the_documents c = λ bytes tokens. (document-read bytes tokens, read-document bytes tokens)

pub returns-clause-refuses_the_others : goal.returns-clause-refuses_the_others
returns-clause-refuses_the_others c = refused-bad

pub returns-clause-is_read_or_bad : goal.returns-clause-is_read_or_bad
returns-clause-is_read_or_bad c = read-or-bad

pub returns-clause-not_both : goal.returns-clause-not_both
returns-clause-not_both c = not-both

pub returns-clause-stops_where_they_fail : goal.returns-clause-stops_where_they_fail
returns-clause-stops_where_they_fail c = stops-fails

pub returns-clause-fails_at_one_place : goal.returns-clause-fails_at_one_place
returns-clause-fails_at_one_place c = fails-once
