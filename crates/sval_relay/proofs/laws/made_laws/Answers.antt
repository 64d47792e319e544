use Rattle.sval_relay.proofs.MadeScripts.{made_tells, made_shape, made_reads_back, made_is_text}
use Rattle.sval_relay.proofs.MadeAnswers.{one_made_line}
use Rattle.sval_relay.proofs.laws.made_laws.Goals as goal

pub returns-clause-lines_read_back : goal.returns-clause-lines_read_back
returns-clause-lines_read_back c = made_reads_back

pub returns-clause-calls_spell : goal.returns-clause-calls_spell
returns-clause-calls_spell c = λ count. (made_tells count).spells

pub returns-clause-trees_have_json : goal.returns-clause-trees_have_json
returns-clause-trees_have_json c = made_shape

pub returns-clause-scripts_are_text : goal.returns-clause-scripts_are_text
returns-clause-scripts_are_text c = made_is_text

pub returns-clause-one_line : goal.returns-clause-one_line
returns-clause-one_line c = one_made_line
