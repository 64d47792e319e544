-- How words are read one by one.
use Rattle.std.specs.Prelude.{◌≡◌, ℕ, ◌+◌, ◌-◌, ◌==◌, Bool, true, false, ◌&&◌, if◌then◌else◌, List, [], ◌∷◌, ◌++◌, codes, Option, Some, None, Result, Ok, Err, bytes_eq}
use Rattle.sval_filter.specs.declared.paths.Rule.{Rule}
use Rattle.sval_filter.specs.declared.paths.Rule.TheVariants.{Drop, Keep}
use Rattle.sval_tool.specs.PathWords.{path_labels}
use Rattle.sval_tool.specs.Words.{Asked, Part, Turned, Given, Named, Wrong, Saying, Says, Needs, Ends, IsStop, asked_for, asked_by_options, input_named, output_named, pointer_named, said_by, stop_at}
use Rattle.sval_tool.specs.declared.switch.Flag.TheVariants as flag
use Rattle.sval_tool.specs.declared.switch.Setting.{Setting}
use Rattle.sval_tool.specs.declared.switch.Setting.TheVariants as setting
use Rattle.sval_tool.specs.declared.words.Command.TheVariants as command
use Rattle.sval_tool.specs.declared.words.Complaint.TheVariants as complaint
use Rattle.sval_tool.specs.declared.words.Stop.{Stop}
use Rattle.sval_tool.specs.declared.words.Stop.TheVariants as stop
use Rattle.sval_tool.specs.declared.words.reader.WordReader.{WordReader}

-- what was asked for so far, the option whose argument comes next, and whether only files follow
pub record Reading : Type 0 where
  pub asked : Asked
  pub due : Option Setting
  pub ended : Bool

-- what a reader has read
abbrev pub reading_in : WordReader → Reading
reading_in reader = record { asked = asked_by_options reader.options; due = reader.due; ended = reader.ended }

-- before the first word
abbrev pub before_words : Reading
before_words = record { asked = asked_for command.Convert []; due = None; ended = false }

-- what is asked for with a path more of this rule
abbrev pub asked_with_path : Rule → Asked → List ℕ → Asked
asked_with_path rule asked word = record asked { rule = Some rule; paths = asked.paths ++ (path_labels word ∷ []) }

-- what is asked for with a part more that ends no reading
abbrev pub asked_with_part : Asked → Part → Asked
asked_with_part asked (Turned flag.Lines) = record asked { lines = true }
asked_with_part asked (Turned flag.Beside) = record asked { beside = true }
asked_with_part asked (Turned flag.Progress) = record asked { progress = true }
asked_with_part asked (Turned _) = asked
asked_with_part asked (Given at setting.From word) = record asked { from = input_named word }
asked_with_part asked (Given at setting.To word) = record asked { to = output_named word }
asked_with_part asked (Given at setting.Keep word) = asked_with_path Keep asked word
asked_with_part asked (Given at setting.Drop word) = asked_with_path Drop asked word
asked_with_part asked (Given at setting.Pointer word) = record asked { pointer = pointer_named word }
asked_with_part asked (Named word) = record asked { files = asked.files ++ (word ∷ []) }
asked_with_part asked (Wrong at why) = asked

-- with this asked for, unless there is a stop
abbrev pub reads_unless : Option Stop → Reading → Asked → Result Reading Stop
reads_unless (Some why) reading asked = Err why
reads_unless None reading asked = Ok (record { asked = asked; due = None; ended = reading.ended })

-- with a part more
abbrev pub reads_part : Reading → Part → Result Reading Stop
reads_part reading part = reads_unless (stop_at reading.asked part) reading (asked_with_part reading.asked part)

-- with what a word says
abbrev pub reads_saying : Reading → Saying → Result Reading Stop
reads_saying reading (Says part) = reads_part reading part
reads_saying reading (Needs setting) = Ok (record reading { due = Some setting })
reads_saying reading Ends = Ok (record reading { ended = true })

-- with a word that isn't an option's argument
abbrev pub reads_free : ℕ → Reading → List ℕ → Result Reading Stop
reads_free at reading word =
    if reading.ended then reads_part reading (Named word)
    else if (at == 0) && bytes_eq word (codes "check") then Ok (record reading { asked = record reading.asked { command = command.Check } })
    else reads_saying reading (said_by reading.asked.command at word)

-- with a word, by the option whose argument it is
abbrev pub reads_word_for : ℕ → Option Setting → Reading → List ℕ → Result Reading Stop
reads_word_for at (Some setting) reading word = reads_part reading (Given at setting word)
reads_word_for at None reading word = reads_free at reading word

-- with a word more, at this index
abbrev pub reads_word : ℕ → Reading → List ℕ → Result Reading Stop
reads_word at reading word = reads_word_for at reading.due reading word

-- behind the last word
abbrev pub at_last : ℕ → Option Setting → Asked → Result Asked Stop
at_last count (Some setting) asked = Err (stop.Usage (count - 1) (complaint.NoArgument setting))
at_last count None asked = Ok asked

-- what follows what was read, if that ends no reading
abbrev pub if_read : {A B E : Type 0} → Result A E → (A → Result B E) → Result B E
if_read (Ok it) next = next it
if_read (Err why) next = Err why

-- these words, of which the first has this index, after what was read
abbrev pub reads_from : ℕ → Reading → List (List ℕ) → Result Asked Stop
reads_from at reading [] = at_last at reading.due reading.asked
reads_from at reading (word ∷ words) = if_read (reads_word at reading word) (λ next. reads_from (at + 1) next words)

-- what is due was read, and this is known now; or a stop is due
abbrev pub ReadsOrStops : {A : Type 0} → Result A Stop → Result (Unit {0}) Stop → A → Type 0
ReadsOrStops due (Ok done) new = due ≡ Ok new
ReadsOrStops due (Err why) new = IsStop due why
