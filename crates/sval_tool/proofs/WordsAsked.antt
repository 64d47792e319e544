-- Reading words one by one gives what they ask for.
use Rattle.std.specs.Prelude.{◌≡◌, ◌≢◌, ℕ, ◌+◌, ◌-◌, ◌==◌, ◌<◌, Bool, true, false, ◌&&◌, List, [], ◌∷◌, codes, map, Option, Some, None, Result, Ok, bytes_eq, if◌then◌else◌, refl}
use Rattle.std.proofs.Common.{ap, ◌∙◌, arith, ne_eqb}
use Rattle.sval_tool.specs.Words.{Asked, Part, Turned, Given, Named, Wrong, Saying, Says, Needs, Ends, asked_by_words, asked_by_parts, asked_for, last_parts, parts_before, parts_of_words, said_by, stop_at, unless}
use Rattle.sval_tool.specs.WordReading.{Reading, if_read, before_words, reads_free, reads_from, reads_saying, reads_unless, asked_with_part}
use Rattle.sval_tool.specs.declared.switch.Flag.TheVariants as flag
use Rattle.sval_tool.specs.declared.switch.Setting.{Setting}
use Rattle.sval_tool.specs.declared.switch.Setting.TheVariants as setting
use Rattle.sval_tool.specs.declared.words.Command.{Command}
use Rattle.sval_tool.specs.declared.words.Command.TheVariants as command
use Rattle.sval_tool.specs.declared.words.Complaint.TheVariants as complaint
use Rattle.sval_tool.specs.declared.words.Stop.{Stop}
use Rattle.sval_tool.specs.declared.words.Stop.TheVariants as stop
use Rattle.sval_tool.proofs.PartsAsked.{after_stop, parts_asked, with_parts}

-- where an option may come
abbrev free : Asked → Reading
free asked = record { asked = asked; due = None; ended = false }

-- where only files follow
abbrev ended : Asked → Reading
ended asked = record { asked = asked; due = None; ended = true }

-- a part leaves the command as it is
same_command : (asked : Asked) (part : Part) → (asked_with_part asked part).command ≡ asked.command
same_command asked (Turned flag.Lines) = refl
same_command asked (Turned flag.Beside) = refl
same_command asked (Turned flag.Progress) = refl
same_command asked (Turned flag.Help) = refl
same_command asked (Turned flag.Version) = refl
same_command asked (Given at setting.From word) = refl
same_command asked (Given at setting.To word) = refl
same_command asked (Given at setting.Keep word) = refl
same_command asked (Given at setting.Drop word) = refl
same_command asked (Given at setting.Pointer word) = refl
same_command asked (Named word) = refl
same_command asked (Wrong at why) = refl

-- files alone
files_read : (at : ℕ) (asked : Asked) (words : List (List ℕ)) → reads_from at (ended asked) words ≡ with_parts asked (map Named words)
files_read at asked [] = refl
files_read at asked (word ∷ words) = files_read (at + 1) (asked_with_part asked (Named word)) words

-- the last word, by what it says
last_read : (at : ℕ) (asked : Asked) (saying : Saying) → if_read (reads_saying (free asked) saying) (λ (next : Reading). reads_from (at + 1) next []) ≡ with_parts asked (last_parts at saying)
last_read at asked (Says part) = by_stop (stop_at asked part)
  where
    by_stop : (s : Option Stop) → if_read (reads_unless s (free asked) (asked_with_part asked part)) (λ (next : Reading). reads_from (at + 1) next []) ≡ after_stop s (Ok (asked_with_part asked part))
    by_stop (Some why) = refl
    by_stop None = refl
last_read at asked (Needs which) =
    let e : at + 1 - 1 ≡ at = omega arith in
    ap (λ (i : ℕ). unless (Some (stop.Usage i (complaint.NoArgument which))) asked) e
last_read at asked Ends = refl

-- the words from an index on ask for what their parts do
abbrev IsRead : ℕ → List (List ℕ) → Type 0
IsRead at words = (asked : Asked) → reads_from at (free asked) words ≡ with_parts asked (parts_of_words asked.command at words)

-- a part, and then words
part_read : (at : ℕ) (asked : Asked) (part : Part) (due : Option Setting) (words : List (List ℕ)) → IsRead at words
    → if_read (reads_unless (stop_at asked part) (record { asked = asked; due = due; ended = false }) (asked_with_part asked part)) (λ (next : Reading). reads_from at next words)
    ≡ after_stop (stop_at asked part) (with_parts (asked_with_part asked part) (parts_of_words asked.command at words))
part_read at asked part due words rest = by_stop (stop_at asked part)
  where
    by_stop : (s : Option Stop)
        → if_read (reads_unless s (record { asked = asked; due = due; ended = false }) (asked_with_part asked part)) (λ (next : Reading). reads_from at next words)
        ≡ after_stop s (with_parts (asked_with_part asked part) (parts_of_words asked.command at words))
    by_stop (Some why) = refl
    by_stop None = rest (asked_with_part asked part) ∙ ap (λ (what : Command). with_parts (asked_with_part asked part) (parts_of_words what at words)) (same_command asked part)

-- a word before others, by what it says
said_read : (at : ℕ) (asked : Asked) (next : List ℕ) (words : List (List ℕ)) (saying : Saying) → IsRead (at + 1) (next ∷ words) → IsRead (at + 1 + 1) words
    → if_read (reads_saying (free asked) saying) (λ (reading : Reading). reads_from (at + 1) reading (next ∷ words))
    ≡ with_parts asked (parts_before at next words saying (parts_of_words asked.command (at + 1) (next ∷ words)) (parts_of_words asked.command (at + 1 + 1) words))
said_read at asked next words (Says part) here later = part_read (at + 1) asked part None (next ∷ words) here
said_read at asked next words (Needs which) here later =
    part_read (at + 1 + 1) asked (Given (at + 1) which next) (Some which) words later
said_read at asked next words Ends here later = files_read (at + 1) asked (next ∷ words)

by_false : (b : Bool) (x y : Result Reading Stop) → b ≡ false → (if b then x else y) ≡ y
by_false true x y off = cc
by_false false x y off = refl

-- a word that isn't `check` in the first place
plain_read : (at : ℕ) (asked : Asked) (word : List ℕ) → ((at == 0) && bytes_eq word (codes "check")) ≡ false → reads_free at (free asked) word ≡ reads_saying (free asked) (said_by asked.command at word)
plain_read at asked word plain = by_false ((at == 0) && bytes_eq word (codes "check")) _ (reads_saying (free asked) (said_by asked.command at word)) plain

-- behind the first word
not_first : (at : ℕ) (word : List ℕ) → 0 < at → ((at == 0) && bytes_eq word (codes "check")) ≡ false
not_first at word some = let ne : at ≢ 0 = omega arith in ap (λ (b : Bool). b && bytes_eq word (codes "check")) (ne_eqb at 0 ne)

words_read : (at : ℕ) (words : List (List ℕ)) → 0 < at → IsRead at words
words_read at [] some asked = refl
words_read at (word ∷ []) some asked =
    ap (λ (r : Result Reading Stop). if_read r (λ (next : Reading). reads_from (at + 1) next [])) (plain_read at asked word (not_first at word some))
    ∙ last_read at asked (said_by asked.command at word)
words_read at (word ∷ next ∷ words) some asked =
    ap (λ (r : Result Reading Stop). if_read r (λ (reading : Reading). reads_from (at + 1) reading (next ∷ words))) (plain_read at asked word (not_first at word some))
    ∙ said_read at asked next words (said_by asked.command at word) (words_read (at + 1) (next ∷ words) (omega arith)) (words_read (at + 1 + 1) words (omega arith))

-- the first word, if it isn't `check`
first_read : (asked : Asked) (word : List ℕ) (words : List (List ℕ)) → if_read (reads_saying (free asked) (said_by asked.command 0 word)) (λ (reading : Reading). reads_from 1 reading words) ≡ with_parts asked (parts_of_words asked.command 0 (word ∷ words))
first_read asked word [] = last_read 0 asked (said_by asked.command 0 word)
first_read asked word (next ∷ words) =
    said_read 0 asked next words (said_by asked.command 0 word) (words_read 1 (next ∷ words) (omega arith)) (words_read 2 words (omega arith))

-- `check` in the first place
abbrev check_first : Result Reading Stop
check_first = Ok (record { asked = record (asked_for command.Convert []) { command = command.Check }; due = None; ended = false })

-- all words
pub words_asked : (words : List (List ℕ)) → reads_from 0 before_words words ≡ asked_by_words words
words_asked [] = refl
words_asked (word ∷ words) = by_check (bytes_eq word (codes "check"))
  where
    by_check : (b : Bool)
        → if_read (if b then check_first else reads_saying before_words (said_by command.Convert 0 word)) (λ (reading : Reading). reads_from 1 reading words)
        ≡ (if b then asked_by_parts command.Check (parts_of_words command.Check 1 words) else asked_by_parts command.Convert (parts_of_words command.Convert 0 (word ∷ words)))
    by_check true = words_read 1 words (omega arith) (asked_for command.Check []) ∙ parts_asked command.Check [] (parts_of_words command.Check 1 words)
    by_check false =
        first_read (asked_for command.Convert []) word words ∙ parts_asked command.Convert [] (parts_of_words command.Convert 0 (word ∷ words))
