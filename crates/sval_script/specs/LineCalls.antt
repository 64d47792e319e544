-- The calls of lines, whose bytes and numbers stand one after another in a store.
use Rattle.std.specs.Prelude.{◌≡◌, ℕ, ◌+◌, ◌*◌, ◌^◌, ◌≤◌, ⊤, pos, List, [], ◌∷◌, Some, None, take, drop, length, get_or}
use Rattle.std.specs.Int.{w64, w128, cast_signed}
use Rattle.std.specs.Str.{IsUtf8}
use Rattle.sval_label.specs.Calls as call
use Rattle.sval_label.specs.Calls.{Call}
use Rattle.sval_script.specs.Tags.{tag_text, tag_of}
use Rattle.sval_script.specs.FieldValues.{made_label, made_index}
use Rattle.sval_script.specs.NameNumbers.{name_count, label_len, name_with}
use Rattle.sval_script.specs.Words.{alone_call, opening_call, is_kept, word_call, head_of, part_call}
use Rattle.sval_script.specs.declared.line.Line.{Line}
use Rattle.sval_script.specs.declared.line.Line.TheVariants as made
use Rattle.sval_script.specs.declared.store.Store.{Store}

-- bytes and numbers, one after another
pub record Stored : Type 0 where
  pub bytes : List ℕ
  pub numbers : List ℕ

-- what the store has
abbrev pub stored : Store → Stored
stored store = record { bytes = store.bytes.items; numbers = store.numbers.items }

-- how many numbers of the store are the line's own
abbrev pub own_count : Line → ℕ
own_count made.U64 = 1
own_count made.U128 = 2
own_count made.I64 = 1
own_count made.I128 = 2
own_count (made.SizedOpening w) = 1
own_count (made.Named w parts) = name_count parts
own_count (made.NamedOpening w parts) = name_count parts
own_count (made.SizedNamedOpening w parts) = name_count parts + 1
own_count (made.Place side tag sign index) = 1
own_count (made.FieldPlace side tag label sign index) = 2
own_count line = 0

-- how many bytes of the store are the line's own, where these are its own numbers
abbrev pub own_len : Line → List ℕ → ℕ
own_len (made.TextFragment life len) numbers = len
own_len (made.BinaryFragment life len) numbers = len
own_len (made.Named w parts) numbers = label_len parts.label numbers
own_len (made.NamedOpening w parts) numbers = label_len parts.label numbers
own_len (made.SizedNamedOpening w parts) numbers = label_len parts.label numbers
own_len (made.Field side tag label len) numbers = len
own_len (made.FieldPlace side tag label sign index) numbers = get_or numbers 0 0
own_len line numbers = 0

-- the number of 128 bits that two of 64 bits are, the upper one first
abbrev pub wide : List ℕ → ℕ
wide numbers = get_or numbers 0 0 * 2 ^ 64 + get_or numbers 1 0

-- the call of a line whose own bytes and numbers are these
abbrev pub call_with : List ℕ → List ℕ → Line → Call
call_with bytes numbers (made.Alone w) = alone_call w
call_with bytes numbers (made.Bool b) = call.Truth b
call_with bytes numbers (made.U8 n) = call.Int call.U8 (pos n)
call_with bytes numbers (made.U16 n) = call.Int call.U16 (pos n)
call_with bytes numbers (made.U32 n) = call.Int call.U32 (pos n)
call_with bytes numbers made.U64 = call.Int call.U64 (pos (get_or numbers 0 0))
call_with bytes numbers made.U128 = call.Int call.U128 (pos (wide numbers))
call_with bytes numbers (made.I8 n) = call.Int call.I8 n
call_with bytes numbers (made.I16 n) = call.Int call.I16 n
call_with bytes numbers (made.I32 n) = call.Int call.I32 n
call_with bytes numbers made.I64 = call.Int call.I64 (cast_signed w64 (get_or numbers 0 0))
call_with bytes numbers made.I128 = call.Int call.I128 (cast_signed w128 (wide numbers))
call_with bytes numbers (made.Opening w) = opening_call w None
call_with bytes numbers (made.SizedOpening w) = opening_call w (Some (get_or numbers 0 0))
call_with bytes numbers (made.TextFragment life len) = call.TextFragment (is_kept life) bytes
call_with bytes numbers (made.BinaryFragment life len) = call.BinaryFragment (is_kept life) bytes
call_with bytes numbers (made.TagHint tag) = call.TagHint (tag_text tag)
call_with bytes numbers (made.Named w parts) = word_call w (name_with parts bytes numbers)
call_with bytes numbers (made.NamedOpening w parts) = call.Begin (head_of w (name_with parts bytes numbers)) None
call_with bytes numbers (made.SizedNamedOpening w parts) = call.Begin (head_of w (name_with parts bytes numbers)) (Some (get_or numbers (name_count parts) 0))
call_with bytes numbers (made.Field side tag label len) = part_call side (call.Field (tag_of tag) (made_label label bytes))
call_with bytes numbers (made.Place side tag sign index) = part_call side (call.Place (tag_of tag) (made_index sign index (get_or numbers 0 0)))
call_with bytes numbers (made.FieldPlace side tag label sign index) =
    part_call side (call.FieldPlace (tag_of tag) (made_label label bytes) (made_index sign index (get_or numbers 1 0)))

-- the line's own bytes are UTF-8, unless they are a binary's
abbrev pub IsUtf8Line : Line → List ℕ → Type 0
IsUtf8Line (made.BinaryFragment life len) bytes = ⊤
IsUtf8Line line bytes = IsUtf8 bytes

-- how many bytes at the front of the store are the line's own
abbrev pub next_len : Line → List ℕ → ℕ
next_len line numbers = own_len line (take (own_count line) numbers)

-- the call of a line whose own stands at the front of the store
abbrev pub next_call : List ℕ → List ℕ → Line → Call
next_call bytes numbers line = call_with (take (next_len line numbers) bytes) (take (own_count line) numbers) line

-- the front of the store is the line's own, with texts in UTF-8
abbrev pub HoldsNext : List ℕ → List ℕ → Line → Type 0
HoldsNext bytes numbers line =
    (own_count line ≤ length numbers) × (next_len line numbers ≤ length bytes) × IsUtf8Line line (take (next_len line numbers) bytes)

-- the calls of lines, of which each takes its bytes and numbers from the front of the store
abbrev pub calls_with : List ℕ → List ℕ → List Line → List Call
calls_with bytes numbers [] = []
calls_with bytes numbers (line ∷ lines) =
    next_call bytes numbers line ∷ calls_with (drop (next_len line numbers) bytes) (drop (own_count line) numbers) lines

-- the store holds the lines' bytes and numbers, with texts in UTF-8
abbrev pub HoldsLines : List ℕ → List ℕ → List Line → Type 0
HoldsLines bytes numbers [] = (bytes ≡ []) × (numbers ≡ [])
HoldsLines bytes numbers (line ∷ lines) =
    HoldsNext bytes numbers line × HoldsLines (drop (next_len line numbers) bytes) (drop (own_count line) numbers) lines
