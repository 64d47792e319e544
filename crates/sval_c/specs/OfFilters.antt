-- What is due of a text of JSON, a rule and paths: the JSON of what the rule and the paths leave of its value.
use Rattle.std.specs.Prelude.{◌≡◌, ℕ, zero, suc, ◌+◌, ◌-◌, ◌^◌, min, false, true, List, [], ◌∷◌, ◌++◌, map, length, Option, Some, None, Result, Ok, Err, IsUtf8}
use Rattle.std.specs.List.{AllByRecursion}
use Rattle.std.specs.Str.Lines.{lines}
use Rattle.sval_json.specs.Grammar.{JsonValue}
use Rattle.sval_filter.specs.declared.paths.Rule.{Rule}
use Rattle.sval_filter.specs.declared.paths.Rule.TheVariants.{Drop, Keep}
use Rattle.sval_filter.specs.Paths.{Path, labels_of, is_bad_word}
use Rattle.sval_filter.specs.Pruned.{pruned}
use Rattle.sval_filter.specs.Verdict.{IsJson}
use Rattle.sval_json_read.specs.Trees.{tree_of}
use Rattle.sval_c.specs.declared.fault.Fault.{Fault}
use Rattle.sval_c.specs.declared.fault.Fault.TheVariants as fault
use Rattle.sval_c.specs.declared.lack.Lack.{Lack}
use Rattle.sval_c.specs.Due.{OfText}
use Rattle.sval_c.specs.OfTapes.{IsBadChoice}
use Rattle.sval_c.specs.Lacks.{IsLacking}

-- ---- paths

-- the line is a path: a word of labels with dots between them, none of which is empty
abbrev pub IsPath : List ℕ → Type 0
IsPath word = is_bad_word word ≡ false

-- the text is UTF-8, and these are the paths of its lines
pub record ArePaths (text : List ℕ) (paths : List Path) : Type 0 where
  pub utf8 : IsUtf8 text
  pub good : AllByRecursion IsPath (lines text)
  pub are : paths ≡ map labels_of (lines text)

-- the line of this number, counted from 1, is the first that is no path; the number stops at the greatest u64
pub record IsFirstBadPath (text : List ℕ) (line : ℕ) : Type 0 where
  pub front : List (List ℕ)
  pub word : List ℕ
  pub rest : List (List ℕ)
  pub whole : lines text ≡ front ++ (word ∷ rest)
  pub before : AllByRecursion IsPath front
  pub bad : is_bad_word word ≡ true
  pub number : line ≡ min (length front + 1) (2 ^ 64 - 1)

-- why a text gives no paths: it is not UTF-8, or a line of it is no path
pub data HasNoPaths (text : List ℕ) : Option Fault → List ℕ → Type 0 where
  no_utf8 : (IsUtf8 text → ⊥) → HasNoPaths text (Some (fault.BadPath 0)) []
  bad_path : (line : ℕ) → IsUtf8 text → IsFirstBadPath text line → HasNoPaths text (Some (fault.BadPath line)) []

-- what reading paths answers
abbrev pub ReadsPaths : {Paths : Type 0} → List ℕ → Result Paths Lack → (Paths → List Path) → Type 0
ReadsPaths text (Ok paths) view = ArePaths text (view paths)
ReadsPaths text (Err why) view = IsLacking (HasNoPaths text) why

-- ---- what is left

-- the JSON of what a rule and paths leave of a value
abbrev pub LeftOf : Rule → List Path → JsonValue → Option Fault → List ℕ → Type 0
LeftOf rule paths value None bytes = IsJson bytes (pruned rule paths (tree_of value))
LeftOf rule paths value (Some why) bytes = ⊥

-- by this rule: the paths are read first
pub data FilteredBy (rule : Rule) (input text : List ℕ) : Option Fault → List ℕ → Type 0 where
  is_left : {found : Option Fault} {bytes : List ℕ} (paths : List Path) → ArePaths text paths → OfText (LeftOf rule paths) input found bytes → FilteredBy rule input text found bytes
  no_paths : {found : Option Fault} {bytes : List ℕ} → HasNoPaths text found bytes → FilteredBy rule input text found bytes

-- by the rule of this number: 0 drops what the paths name, 1 keeps it
abbrev pub FilteredTextDue : ℕ → List ℕ → List ℕ → Option Fault → List ℕ → Type 0
FilteredTextDue zero input text found bytes = FilteredBy Drop input text found bytes
FilteredTextDue (suc zero) input text found bytes = FilteredBy Keep input text found bytes
FilteredTextDue (suc (suc rule)) input text found bytes = IsBadChoice found bytes
