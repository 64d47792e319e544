-- What the program's words ask for.
use Rattle.std.specs.Prelude.{List, map, string_bytes, String, Option}
use Rattle.sval_filter.specs.Paths.{Path, Rule, labels_of}
use Rattle.sval_filter.specs.Words.{rule_and_paths}

-- a rule and paths
abbrev pub FilterForm : Type 0
FilterForm = Rule × List Path

-- a rule and the paths of words
abbrev pub asked_by : {A : Type 0} → Rule → List (String A) → FilterForm
asked_by rule words = (rule, map labels_of (map string_bytes words))

-- what the program's words ask for, which are those after its name, if they are a form
abbrev pub filter_form_of : {A : Type 0} → List (String A) → Option FilterForm
filter_form_of words = rule_and_paths (map string_bytes words)
