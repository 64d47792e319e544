-- What the program's words ask for: a rule, and then one or more paths.
use Rattle.std.specs.Prelude.{ℕ, if◌then◌else◌, List, ◌∷◌, map, Option, Some, None, option_map, codes, bytes_eq}
use Rattle.std.specs.List.{list_any}
use Rattle.sval_filter.specs.Paths.{Path, Rule, Drop, Keep, labels_of, is_bad_word}

-- the rule of this name
abbrev pub rule_of : List ℕ → Option Rule
rule_of word = if bytes_eq word (codes "drop") then Some Drop else if bytes_eq word (codes "keep") then Some Keep else None

-- a rule and paths, if the words are such a form
abbrev pub rule_and_paths : List (List ℕ) → Option (Rule × List Path)
rule_and_paths (rule ∷ word ∷ words) =
    if list_any is_bad_word (word ∷ words) then None else option_map (λ found. (found, map labels_of (word ∷ words))) (rule_of rule)
rule_and_paths words = None
