use Rattle.sval_script.proofs.laws.script_laws.Goals as goal
use Rattle.sval_script.proofs.PrintedLines.{lines-printed}
use Rattle.sval_script.proofs.Printers.{prints_all}
use Rattle.sval_script.proofs.PrintableTrees.{scripts-real, script_trees, one_canon, one_canon_all}
use Rattle.sval_script.proofs.ExactCalls.{exact_print_canon}
use Rattle.sval_script.proofs.KnownTags.{exact_known}
use Rattle.sval_script.proofs.CanonicalScripts.{canon-reads_back, canon-one_tree, canons-read_back, canons-one_list}

pub returns-clause-printed_lines_read_back : goal.returns-clause-printed_lines_read_back
returns-clause-printed_lines_read_back c = lines-printed

pub returns-clause-printers_print : goal.returns-clause-printers_print
returns-clause-printers_print c = prints_all

pub returns-clause-canonical_script_reads_back : goal.returns-clause-canonical_script_reads_back
returns-clause-canonical_script_reads_back c = canon-reads_back

pub returns-clause-canonical_script_is_of_one_tree : goal.returns-clause-canonical_script_is_of_one_tree
returns-clause-canonical_script_is_of_one_tree c = canon-one_tree

pub returns-clause-canonical_scripts_read_back : goal.returns-clause-canonical_scripts_read_back
returns-clause-canonical_scripts_read_back c = canons-read_back

pub returns-clause-canonical_scripts_are_of_one_list : goal.returns-clause-canonical_scripts_are_of_one_list
returns-clause-canonical_scripts_are_of_one_list c = canons-one_list

pub returns-clause-exact_calls_print_canon : goal.returns-clause-exact_calls_print_canon
returns-clause-exact_calls_print_canon c = exact_print_canon

pub returns-clause-exact_calls_have_known_tags : goal.returns-clause-exact_calls_have_known_tags
returns-clause-exact_calls_have_known_tags c = exact_known

pub returns-clause-scripts_are_real : goal.returns-clause-scripts_are_real
returns-clause-scripts_are_real c = scripts-real

pub returns-clause-scripts_spell_printable_trees : goal.returns-clause-scripts_spell_printable_trees
returns-clause-scripts_spell_printable_trees c = script_trees

pub returns-clause-one_canonical_script_if_one_tree : goal.returns-clause-one_canonical_script_if_one_tree
returns-clause-one_canonical_script_if_one_tree c = one_canon

pub returns-clause-one_canonical_script_if_one_list : goal.returns-clause-one_canonical_script_if_one_list
returns-clause-one_canonical_script_if_one_list c = one_canon_all
