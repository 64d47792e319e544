-- What the third device is told.
use Rattle.std.specs.Prelude.{ℕ, ◌<◌, ◌==◌, Bool, true, false, List, [], ◌∷◌, ◌++◌, length, Option, Some, None, codes, decimal, if◌then◌else◌}
use Rattle.sval_io.specs.Sinks.{Told, IsQuiet, NoCountFell, HoldsNothing, Appends, AppendsFront}
use Rattle.sval_program.specs.declared.status.TheConstants.{BAD_LINE, BAD_CALL, UNFINISHED, INVALID_KEY, INVALID_NUMBER, WRITE, READ, NO_MEMORY, TOO_LONG}

-- a number in a line, if there is one
abbrev pub shown : Option ℕ → List ℕ
shown None = []
shown (Some number) = decimal number

-- ---- the lines

-- the first line of a script that is no call, by its number, counted from 1
abbrev pub bad_line : ℕ → List ℕ
bad_line number = codes "line " ++ decimal number ++ codes ": not a call\n"

-- that of the first call that no value, or no list of values, goes on with
abbrev pub bad_call : ℕ → List ℕ
bad_call number = codes "line " ++ decimal number ++ codes ": no value goes on with this call\n"

-- calls that aren't whole, where one value has to come, and where many may
abbrev pub unfinished : Bool → List ℕ
unfinished false = codes "the calls are not one whole value\n"
unfinished true = codes "the calls are not whole values\n"

-- no key, and no number
abbrev pub invalid_key : List ℕ
invalid_key = codes "attempt to serialize a non-string key\n"

abbrev pub invalid_number : List ℕ
invalid_number = codes "attempt to serialize an invalid number\n"

-- a fault of the output, and one of the input
abbrev pub write_fault : List ℕ
write_fault = codes "write fault\n"

abbrev pub read_fault : List ℕ
read_fault = codes "read fault\n"

-- no memory, and an input that is too long
abbrev pub out_of_memory : List ℕ
out_of_memory = codes "out of memory\n"

abbrev pub too_long : List ℕ
too_long = codes "the input is longer than 16777216 bytes\n"

-- bytes that aren't UTF-8, and the place where a text fails that denotes no value of JSON
abbrev pub not_utf8 : List ℕ
not_utf8 = codes "the input is not UTF-8\n"

abbrev pub bad_json : ℕ → List ℕ
bad_json at = codes "byte " ++ decimal at ++ codes ": not JSON\n"

-- what CBOR can't take, and bytes that are no item of it
abbrev pub raw : List ℕ
raw = codes "attempt to write raw JSON as CBOR\n"

abbrev pub not_integer : List ℕ
not_integer = codes "attempt to write a number that is no whole number of 128 bits\n"

abbrev pub bad_cbor : List ℕ
bad_cbor = codes "not one CBOR item of this profile\n"

-- words that are no form, told as an error: a program has a line of its own for them
abbrev pub no_form_line : List ℕ
no_form_line = codes "the arguments are no form that the program takes\n"

-- ---- the text of a line, as an error prints it

-- bytes behind this one, without the line feed at their end
abbrev pub behind_byte : ℕ → List ℕ → List ℕ
behind_byte byte [] = if byte == 10 then [] else byte ∷ []
behind_byte byte (next ∷ bytes) = byte ∷ behind_byte next bytes

-- a line without the line feed at its end, if it has one
abbrev pub line_text : List ℕ → List ℕ
line_text [] = []
line_text (byte ∷ bytes) = behind_byte byte bytes

-- ---- tables of statuses and their lines

-- those of a script: whether many values may come, and the number of a line of it
abbrev pub script_reports : Bool → ℕ → List (ℕ × List ℕ)
script_reports many number =
    (BAD_LINE, bad_line number) ∷ (BAD_CALL, bad_call number) ∷ (UNFINISHED, unfinished many) ∷ (INVALID_KEY, invalid_key) ∷ (INVALID_NUMBER, invalid_number) ∷ []

-- those of the devices and of memory, which every program has
abbrev pub device_reports : List (ℕ × List ℕ)
device_reports = (WRITE, write_fault) ∷ (READ, read_fault) ∷ (NO_MEMORY, out_of_memory) ∷ (TOO_LONG, too_long) ∷ []

-- the line of the first row for this status; none where no row is for it
abbrev pub report_among : ℕ → List (ℕ × List ℕ) → List ℕ
report_among status [] = []
report_among status (row ∷ rows) = if row.0 == status then row.1 else report_among status rows

-- ---- telling

-- a first part of the line was taken; where no count rose all of it was, and none of it is held back
pub record TellsLine (old : Told) (line : List ℕ) (new : Told) : Type 0 where
  pub front : AppendsFront old line new
  pub whole : IsQuiet old new → Appends old line new
  pub passed_on : IsQuiet old new → 0 < length line → HoldsNothing new
  pub counts : NoCountFell old new
