-- What the words of the command line ask for.
use Rattle.std.specs.Prelude.{◌≡◌, ℕ, ◌+◌, ◌==◌, nat_lt, Bool, true, false, ◌&&◌, not, if◌then◌else◌, List, [], ◌∷◌, ◌++◌, length, map, codes, Option, Some, None, Result, Ok, Err, option_map, bytes_eq, string_bytes}
use Rattle.std.specs.List.{before_first, after_first, filter_map, list_any, position_or_len}
use Rattle.sval_filter.specs.Paths.{Path}
use Rattle.sval_filter.specs.declared.paths.Rule.{Rule}
use Rattle.sval_filter.specs.declared.paths.Rule.TheVariants.{Drop, Keep}
use Rattle.sval_tool.specs.PathWords.{path_labels, is_bad_path}
use Rattle.sval_tool.specs.Switches.{SeenRow, option_rows, row_named, row_shortened}
use Rattle.sval_tool.specs.declared.switch.Switch.{Switch}
use Rattle.sval_tool.specs.declared.switch.Switch.TheVariants as switch
use Rattle.sval_tool.specs.declared.switch.Flag.{Flag}
use Rattle.sval_tool.specs.declared.switch.Flag.TheVariants as flag
use Rattle.sval_tool.specs.declared.switch.Setting.{Setting}
use Rattle.sval_tool.specs.declared.switch.Setting.TheVariants as setting
use Rattle.sval_tool.specs.declared.words.Command.{Command}
use Rattle.sval_tool.specs.declared.words.Command.TheVariants as command
use Rattle.sval_tool.specs.declared.words.Input.{Input}
use Rattle.sval_tool.specs.declared.words.Input.TheVariants as input
use Rattle.sval_tool.specs.declared.words.Output.{Output}
use Rattle.sval_tool.specs.declared.words.Output.TheVariants as output
use Rattle.sval_tool.specs.declared.words.Options.{Options}
use Rattle.sval_tool.specs.declared.words.Complaint.{Complaint}
use Rattle.sval_tool.specs.declared.words.Complaint.TheVariants as complaint
use Rattle.sval_tool.specs.declared.words.Stop.{Stop}
use Rattle.sval_tool.specs.declared.words.Stop.TheVariants as stop

-- what is asked for
pub record Asked : Type 0 where
  pub command : Command
  pub from : Option Input
  pub to : Option Output
  pub lines : Bool
  pub beside : Bool
  pub progress : Bool
  pub rule : Option Rule
  pub paths : List Path
  pub pointer : Option (List ℕ)
  pub files : List (List ℕ)

-- what options ask for
abbrev pub asked_by_options : Options → Asked
asked_by_options options = record {
  command = options.command;
  from = options.from;
  to = options.to;
  lines = options.lines;
  beside = options.beside;
  progress = options.progress;
  rule = options.rule;
  paths = options.paths;
  pointer = option_map string_bytes options.pointer;
  files = map string_bytes options.files.items;
}

-- ---- what words say

-- a part of what words say: an option without an argument, an option's argument, a file, or what is wrong. A number is
-- the index of the word, counted from 0
pub data Part : Type 0 where
  Turned : Flag → Part
  Given : ℕ → Setting → List ℕ → Part
  Named : List ℕ → Part
  Wrong : ℕ → Complaint → Part

-- what a word says where an option may come: a part, an option whose argument is the next word, or that only files follow
pub data Saying : Type 0 where
  Says : Part → Saying
  Needs : Setting → Saying
  Ends : Saying

-- an option, and the argument behind its `=` if there is one
abbrev pub said_by_switch : ℕ → Switch → Option (List ℕ) → Saying
said_by_switch at (switch.Flag flag) None = Says (Turned flag)
said_by_switch at (switch.Flag flag) (Some argument) = Says (Wrong at (complaint.UnwantedArgument flag))
said_by_switch at (switch.Setting setting) None = Needs setting
said_by_switch at (switch.Setting setting) (Some argument) = Says (Given at setting argument)

-- `sval check` is asked for
abbrev pub is_check : Command → Bool
is_check command.Convert = false
is_check command.Check = true

-- an option by its row of the table, if it has one. Not each is one of `sval check`
abbrev pub said_by_row : Command → ℕ → Option SeenRow → Option (List ℕ) → Saying
said_by_row what at None argument = Says (Wrong at complaint.UnknownOption)
said_by_row what at (Some row) argument =
    if is_check what && not row.checks then Says (Wrong at complaint.NotOfCheck) else said_by_switch at row.switch argument

-- what is before the first `=`
abbrev pub name_in : List ℕ → List ℕ
name_in text = before_first (λ byte. byte == 61) text

-- what is behind it, if there is one
abbrev pub argument_in : List ℕ → Option (List ℕ)
argument_in text = if nat_lt (position_or_len (λ byte. byte == 61) text) (length text) then Some (after_first (λ byte. byte == 61) text) else None

-- what is behind a `-`, if the word begins with one
abbrev pub behind_dash : List ℕ → Option (List ℕ)
behind_dash [] = None
behind_dash (byte ∷ bytes) = if byte == 45 then Some bytes else None

-- the letters behind one `-`, and the text behind a second one if there is one
abbrev pub said_by_option : Command → ℕ → List ℕ → Option (List ℕ) → Saying
said_by_option what at letters None = said_by_row what at (row_shortened letters option_rows) None
said_by_option what at letters (Some text) = said_by_row what at (row_named (name_in text) option_rows) (argument_in text)

-- a word, and what is behind its `-` if it begins with one
abbrev pub said_by_dashes : Command → ℕ → List ℕ → Option (List ℕ) → Saying
said_by_dashes what at word None = Says (Named word)
said_by_dashes what at word (Some letters) = said_by_option what at letters (behind_dash letters)

-- a word at this index: `-` is a file, and only files follow `--`
abbrev pub said_by : Command → ℕ → List ℕ → Saying
said_by what at word =
    if bytes_eq word (codes "-") then Says (Named word)
    else if bytes_eq word (codes "--") then Ends
    else said_by_dashes what at word (behind_dash word)

-- the last word by what it says: an option whose argument doesn't come is wrong
abbrev pub last_parts : ℕ → Saying → List Part
last_parts at (Says part) = part ∷ []
last_parts at (Needs setting) = Wrong at (complaint.NoArgument setting) ∷ []
last_parts at Ends = []

-- a word by what it says, before others: `here` are the parts from the next word on, and `later` those from the word
-- behind that on
abbrev pub parts_before : ℕ → List ℕ → List (List ℕ) → Saying → List Part → List Part → List Part
parts_before at next words (Says part) here later = part ∷ here
parts_before at next words (Needs setting) here later = Given (at + 1) setting next ∷ later
parts_before at next words Ends here later = map Named (next ∷ words)

-- the parts of words, of which the first has this index
abbrev pub parts_of_words : Command → ℕ → List (List ℕ) → List Part
parts_of_words what at [] = []
parts_of_words what at (word ∷ []) = last_parts at (said_by what at word)
parts_of_words what at (word ∷ next ∷ words) =
    parts_before at next words (said_by what at word) (parts_of_words what (at + 1) (next ∷ words)) (parts_of_words what (at + 1 + 1) words)

-- ---- what the parts ask for

-- a format that is read
abbrev pub input_named : List ℕ → Option Input
input_named word =
    if bytes_eq word (codes "json") then Some input.Json
    else if bytes_eq word (codes "cbor") then Some input.Cbor
    else if bytes_eq word (codes "script") then Some input.Script else None

-- a format that is written
abbrev pub output_named : List ℕ → Option Output
output_named word =
    if bytes_eq word (codes "json") then Some output.Json
    else if bytes_eq word (codes "pretty") then Some output.Pretty
    else if bytes_eq word (codes "cbor") then Some output.Cbor
    else if bytes_eq word (codes "script") then Some output.Script
    else if bytes_eq word (codes "logfmt") then Some output.Logfmt else None

-- a JSON Pointer (RFC 6901, section 3): it is empty, or begins with `/`
abbrev pub pointer_named : List ℕ → Option (List ℕ)
pointer_named [] = Some []
pointer_named (byte ∷ bytes) = if byte == 47 then Some (byte ∷ bytes) else None

-- the format, the rule, the path, the pointer or the file that a part asks for
abbrev pub input_in : Part → Option Input
input_in (Given at setting.From word) = input_named word
input_in _ = None

abbrev pub output_in : Part → Option Output
output_in (Given at setting.To word) = output_named word
output_in _ = None

abbrev pub rule_of_part : Part → Option Rule
rule_of_part (Given at setting.Keep word) = Some Keep
rule_of_part (Given at setting.Drop word) = Some Drop
rule_of_part _ = None

abbrev pub path_in : Part → Option Path
path_in (Given at setting.Keep word) = Some (path_labels word)
path_in (Given at setting.Drop word) = Some (path_labels word)
path_in _ = None

abbrev pub pointer_in : Part → Option (List ℕ)
pointer_in (Given at setting.Pointer word) = pointer_named word
pointer_in _ = None

abbrev pub file_in : Part → Option (List ℕ)
file_in (Named word) = Some word
file_in _ = None

-- a part is `--lines`
abbrev pub is_lines : Part → Bool
is_lines (Turned flag.Lines) = true
is_lines _ = false

-- a part is `--beside`
abbrev pub is_beside : Part → Bool
is_beside (Turned flag.Beside) = true
is_beside _ = false

-- a part is `--progress`
abbrev pub is_progress : Part → Bool
is_progress (Turned flag.Progress) = true
is_progress _ = false

-- the first of a list, if it isn't empty
abbrev pub first_of : {A : Type 0} → List A → Option A
first_of [] = None
first_of (first ∷ others) = Some first

-- what parts ask for of which none is wrong
abbrev pub asked_for : Command → List Part → Asked
asked_for what parts = record {
  command = what;
  from = first_of (filter_map input_in parts);
  to = first_of (filter_map output_in parts);
  lines = list_any is_lines parts;
  beside = list_any is_beside parts;
  progress = list_any is_progress parts;
  rule = first_of (filter_map rule_of_part parts);
  paths = filter_map path_in parts;
  pointer = first_of (filter_map pointer_in parts);
  files = filter_map file_in parts;
}

-- ---- what is wrong

-- an argument that may come once, and is this if it is one
abbrev pub once : {A : Type 0} → ℕ → Setting → Option A → Option A → Option Stop
once at setting before None = Some (stop.Usage at (complaint.BadArgument setting))
once at setting (Some before) (Some it) = Some (stop.Usage at (complaint.Twice setting))
once at setting None (Some it) = None

-- a path of this rule may not come with one of the other
abbrev pub is_other : Rule → Option Rule → Bool
is_other Keep (Some Drop) = true
is_other Drop (Some Keep) = true
is_other _ _ = false

-- the argument of `--keep` or `--drop`
abbrev pub stop_at_path : ℕ → Setting → Rule → Option Rule → List ℕ → Option Stop
stop_at_path at setting rule before word =
    if is_other rule before then Some (stop.Usage at complaint.KeepAndDrop)
    else if is_bad_path word then Some (stop.Usage at (complaint.BadArgument setting)) else None

-- where this was given before, a path beside a pointer, and else the other stop
abbrev pub stop_beside : {A : Type 0} → ℕ → Option A → Option Stop → Option Stop
stop_beside at (Some before) other = Some (stop.Usage at complaint.PointerAndPath)
stop_beside at None other = other

-- why a part ends the reading, if it does, where those before it ask for this
abbrev pub stop_at : Asked → Part → Option Stop
stop_at before (Turned flag.Lines) = None
stop_at before (Turned flag.Beside) = None
stop_at before (Turned flag.Progress) = None
stop_at before (Turned flag.Help) = Some stop.Help
stop_at before (Turned flag.Version) = Some stop.Version
stop_at before (Given at setting.From word) = once at setting.From before.from (input_named word)
stop_at before (Given at setting.To word) = once at setting.To before.to (output_named word)
stop_at before (Given at setting.Keep word) = stop_beside at before.pointer (stop_at_path at setting.Keep Keep before.rule word)
stop_at before (Given at setting.Drop word) = stop_beside at before.pointer (stop_at_path at setting.Drop Drop before.rule word)
stop_at before (Given at setting.Pointer word) = stop_beside at before.rule (once at setting.Pointer before.pointer (pointer_named word))
stop_at before (Named word) = None
stop_at before (Wrong at why) = Some (stop.Usage at why)

-- the first stop of two
abbrev pub first_stop : Option Stop → Option Stop → Option Stop
first_stop (Some why) later = Some why
first_stop None later = later

-- why the first of parts that ends the reading does, if one does; `before` came before them
abbrev pub stop_within : Command → List Part → List Part → Option Stop
stop_within what before [] = None
stop_within what before (part ∷ parts) = first_stop (stop_at (asked_for what before) part) (stop_within what (before ++ (part ∷ [])) parts)

-- ---- the whole

-- a stop, or else this
abbrev pub unless : Option Stop → Asked → Result Asked Stop
unless (Some why) asked = Err why
unless None asked = Ok asked

-- what parts ask for, or the first that ends the reading
abbrev pub asked_by_parts : Command → List Part → Result Asked Stop
asked_by_parts what parts = unless (stop_within what [] parts) (asked_for what parts)

-- what words ask for, or the first that ends the reading. The first word may be `check`
abbrev pub asked_by_words : List (List ℕ) → Result Asked Stop
asked_by_words [] = Ok (asked_for command.Convert [])
asked_by_words (word ∷ words) =
    if bytes_eq word (codes "check") then asked_by_parts command.Check (parts_of_words command.Check 1 words)
    else asked_by_parts command.Convert (parts_of_words command.Convert 0 (word ∷ words))

-- ---- answers

-- this stop is due; or memory was wanting
abbrev pub IsStop : {A : Type 0} → Result A Stop → Stop → Type 0
IsStop due stop.NoMemory = Unit {0}
IsStop due why = due ≡ Err why

-- what is due was read; or this stop is due
abbrev pub GivesOrStops : {A B : Type 0} → (A → B) → Result B Stop → Result A Stop → Type 0
GivesOrStops seen due (Ok it) = due ≡ Ok (seen it)
GivesOrStops seen due (Err why) = IsStop due why
