-- The calls that a document makes: its tokens, one by one.
use Rattle.std.specs.Prelude.{ℕ, zero, suc, true, false, ◌==◌, if◌then◌else◌, List, [], ◌∷◌, ◌++◌, map, flat_map, length, drop, Option, Some, None}
use Rattle.std.specs.Char.{encode_utf8}
use Rattle.sval_label.specs.Calls.{Call, Slot, Head, I64}
use Rattle.sval_json.specs.Grammar.{escaped_byte, code_unit, is_high_surrogate, pair_of}
use Rattle.sval_json_read.specs.Trees.{number_name, fits_i64, whole_value}
use Rattle.sval_json_read.specs.Tokens.{Place, Alone, Item, Key, Value, Token, Null, Truth, Number, Text, BeginArray, EndArray, BeginObject, EndObject, Placed}

-- a longest run of unescaped bytes as they stand, or the bytes that one escape stands for
pub data Piece : Type 0 where
  run : List ℕ → Piece
  escape : List ℕ → Piece

-- the bytes of a string's text that the piece stands for
abbrev pub piece_bytes : Piece → List ℕ
piece_bytes (run bytes) = bytes
piece_bytes (escape bytes) = bytes

-- an unescaped byte before the pieces belongs to the run that they begin with
abbrev pub byte_before : ℕ → List Piece → List Piece
byte_before byte (run bytes ∷ pieces) = run (byte ∷ bytes) ∷ pieces
byte_before byte (escape bytes ∷ pieces) = run (byte ∷ []) ∷ escape bytes ∷ pieces
byte_before byte [] = run (byte ∷ []) ∷ []

-- the number of the four hex digits after a first byte
abbrev pub unit_after : List ℕ → Option ℕ
unit_after (u ∷ a ∷ b ∷ c ∷ d ∷ bytes) = code_unit a b c d
unit_after _ = None

-- what an escape stands for, and how many bytes follow its backslash
pub record Escape : Type 0 where
  pub stands_for : List ℕ
  pub follow : ℕ

-- a high surrogate and the low one after it are one escape
abbrev pub unit_escape : Option ℕ → Option ℕ → Escape
unit_escape (Some high) (Some low) =
    if is_high_surrogate high then record { stands_for = encode_utf8 (pair_of high low); follow = 11 } else record { stands_for = encode_utf8 high; follow = 5 }
unit_escape (Some unit) None = record { stands_for = encode_utf8 unit; follow = 5 }
unit_escape None _ = record { stands_for = []; follow = 0 }

-- the escape of one letter, where it stands for this byte, and else another escape
abbrev pub short_or : Option ℕ → Escape → Escape
short_or (Some byte) _ = record { stands_for = byte ∷ []; follow = 1 }
short_or None other = other

-- the escape whose backslash these bytes follow
abbrev pub escape_after : List ℕ → Escape
escape_after [] = record { stands_for = []; follow = 0 }
escape_after (letter ∷ bytes) = short_or (escaped_byte letter) (unit_escape (unit_after (letter ∷ bytes)) (unit_after (drop 6 (letter ∷ bytes))))

-- the pieces of a string's bytes after the first `skipped` ones
abbrev pub pieces_after : ℕ → List ℕ → List Piece
pieces_after skipped [] = []
pieces_after (suc skipped) (byte ∷ bytes) = pieces_after skipped bytes
pieces_after zero (byte ∷ bytes) =
    if byte == 92 then escape (escape_after bytes).stands_for ∷ pieces_after (escape_after bytes).follow bytes else byte_before byte (pieces_after 0 bytes)

-- the pieces of a string's bytes
abbrev pub pieces : List ℕ → List Piece
pieces bytes = pieces_after 0 bytes

-- a run is borrowed from the text, and what an escape stands for is computed
abbrev pub piece_call : Piece → Call
piece_call (run bytes) = Call.TextFragment true bytes
piece_call (escape bytes) = Call.TextFragment false bytes

-- a string: a text whose length isn't told, with a fragment for each piece
abbrev pub string_value_calls : List ℕ → List Call
string_value_calls bytes = Call.TextBegin None ∷ (map piece_call (pieces bytes) ++ (Call.TextEnd ∷ []))

-- a string that is a key of an object
abbrev pub key_calls : List ℕ → List Call
key_calls bytes = Call.PartBegin Slot.Key ∷ (string_value_calls bytes ++ (Call.PartEnd Slot.Key ∷ []))

-- a number: an `i64` where it has no fraction and no exponent and fits, and else its text under the tag `NUMBER`
abbrev pub number_calls : List ℕ → List Call
number_calls text =
    if fits_i64 text then Call.Int I64 (whole_value text) ∷ []
    else Call.TaggedBegin number_name ∷ Call.TextBegin (Some (length text)) ∷ Call.TextFragment true text ∷ Call.TextEnd ∷ Call.TaggedEnd number_name ∷ []

-- the begin of the part that a value in this place stands in, if it stands in one
abbrev pub place_begins : Place → List Call
place_begins Alone = []
place_begins Item = Call.PartBegin Slot.Item ∷ []
place_begins Key = Call.PartBegin Slot.Key ∷ []
place_begins Value = Call.PartBegin Slot.Value ∷ []

-- the end of the part that a value in this place stands in, if it stands in one
abbrev pub place_ends : Place → List Call
place_ends Alone = []
place_ends Item = Call.PartEnd Slot.Item ∷ []
place_ends Key = Call.PartEnd Slot.Key ∷ []
place_ends Value = Call.PartEnd Slot.Value ∷ []

-- the calls of a token in this place; arrays and objects are sequences and maps without sizes
abbrev pub calls_in : Place → Token → List Call
calls_in place Null = place_begins place ++ (Call.Null ∷ place_ends place)
calls_in place (Truth b) = place_begins place ++ (Call.Truth b ∷ place_ends place)
calls_in place (Number text) = place_begins place ++ (number_calls text ++ place_ends place)
calls_in place (Text bytes) = place_begins place ++ (string_value_calls bytes ++ place_ends place)
calls_in place BeginArray = place_begins place ++ (Call.Begin Head.Seq None ∷ [])
calls_in place EndArray = Call.End Head.Seq ∷ place_ends place
calls_in place BeginObject = place_begins place ++ (Call.Begin Head.Map None ∷ [])
calls_in place EndObject = Call.End Head.Map ∷ place_ends place

-- the calls of a token in its place
abbrev pub placed_token_calls : Placed → List Call
placed_token_calls placed = calls_in placed.place placed.token

-- the calls of the tokens, one token after the other
abbrev pub document_calls : List Placed → List Call
document_calls tokens = flat_map placed_token_calls tokens
