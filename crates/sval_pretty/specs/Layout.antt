-- Where line feeds and spaces come in a JSON text, byte by byte.
use Rattle.std.specs.Prelude.{ℕ, zero, suc, Bool, true, false, ◌||◌, ◌==◌, if◌then◌else◌, List, [], ◌∷◌, ◌++◌}
use Rattle.sval_json.specs.Grammar.{is_space}
use Rattle.sval_pretty.specs.declared.layout.Mark.{Mark}
use Rattle.sval_pretty.specs.declared.layout.Mark.TheVariants.{Space, Quote, Begin, End, Comma, Colon, Other}
use Rattle.sval_pretty.specs.declared.layout.Gap.{Gap}
use Rattle.sval_pretty.specs.declared.layout.Gap.TheVariants.{Nothing, First, Line, Blank}
use Rattle.sval_pretty.specs.declared.layout.Place.{Place}
use Rattle.sval_pretty.specs.declared.layout.Place.TheVariants.{Outside, Inside, Escaped}

-- ---- lines

-- two spaces for each level
abbrev pub indent : ℕ → List ℕ
indent zero = []
indent (suc depth) = 32 ∷ 32 ∷ indent depth

-- a line feed, and the indent of the line that it begins
abbrev pub new_line : ℕ → List ℕ
new_line depth = 10 ∷ indent depth

-- the depth around a container at this depth
abbrev pub one_less : ℕ → ℕ
one_less zero = zero
one_less (suc depth) = depth

-- ---- bytes

-- what a byte is outside strings
abbrev pub mark_of_byte : ℕ → Mark
mark_of_byte byte =
    if is_space byte then Space
    else if byte == 34 then Quote
    else if (byte == 91) || (byte == 123) then Begin
    else if (byte == 93) || (byte == 125) then End
    else if byte == 44 then Comma
    else if byte == 58 then Colon
    else Other

-- ---- places

-- behind a byte outside strings
abbrev pub place_behind : Gap → Mark → Place
place_behind gap Space = Outside gap
place_behind gap Quote = Inside
place_behind gap Begin = Outside First
place_behind gap End = Outside Nothing
place_behind gap Comma = Outside Line
place_behind gap Colon = Outside Blank
place_behind gap Other = Outside Nothing

-- the place behind a byte
abbrev pub next_place : Place → ℕ → Place
next_place (Outside gap) byte = place_behind gap (mark_of_byte byte)
next_place Inside byte = if byte == 34 then Outside Nothing else if byte == 92 then Escaped else Inside
next_place Escaped byte = Inside

-- behind a byte outside strings
abbrev pub depth_past : ℕ → Mark → ℕ
depth_past depth Begin = suc depth
depth_past depth End = one_less depth
depth_past depth _ = depth

-- the depth behind a byte
abbrev pub next_depth : Place → ℕ → ℕ → ℕ
next_depth (Outside gap) depth byte = depth_past depth (mark_of_byte byte)
next_depth _ depth byte = depth

-- ---- the layout

-- the white space of a gap
abbrev pub gap_text : Gap → ℕ → List ℕ
gap_text Nothing depth = []
gap_text First depth = new_line depth
gap_text Line depth = new_line depth
gap_text Blank depth = 32 ∷ []

-- before the end of a container: none where it has only begun
abbrev pub gap_at_end : Gap → ℕ → List ℕ
gap_at_end First depth = []
gap_at_end _ depth = new_line (one_less depth)

-- what is written of a byte outside strings
abbrev pub laid_outside : Gap → ℕ → ℕ → Mark → List ℕ
laid_outside gap depth byte Space = []
laid_outside gap depth byte End = gap_at_end gap depth ++ (byte ∷ [])
laid_outside gap depth byte _ = gap_text gap depth ++ (byte ∷ [])

-- what is written of a byte
abbrev pub laid_byte : Place → ℕ → ℕ → List ℕ
laid_byte (Outside gap) depth byte = laid_outside gap depth byte (mark_of_byte byte)
laid_byte _ depth byte = byte ∷ []

-- what is written of bytes that come at this place and depth
abbrev pub laid_out : Place → ℕ → List ℕ → List ℕ
laid_out place depth [] = []
laid_out place depth (byte ∷ bytes) =
    laid_byte place depth byte ++ laid_out (next_place place byte) (next_depth place depth byte) bytes

-- a JSON text with one line for each element and member
abbrev pub pretty : List ℕ → List ℕ
pretty text = laid_out (Outside Nothing) 0 text

-- the place behind these bytes
abbrev pub place_after : Place → List ℕ → Place
place_after place [] = place
place_after place (byte ∷ bytes) = place_after (next_place place byte) bytes

-- the depth behind these bytes
abbrev pub depth_after : Place → ℕ → List ℕ → ℕ
depth_after place depth [] = depth
depth_after place depth (byte ∷ bytes) = depth_after (next_place place byte) (next_depth place depth byte) bytes

-- ---- without white space

-- outside strings, in one, or right after a backslash in one
pub data StringPlace : Type 0 where
  Outer : StringPlace
  String : StringPlace
  Backslash : StringPlace

-- where the byte behind this one is
abbrev pub next_string_place : StringPlace → ℕ → StringPlace
next_string_place Outer byte = if byte == 34 then String else Outer
next_string_place String byte = if byte == 34 then Outer else if byte == 92 then Backslash else String
next_string_place Backslash byte = String

-- the bytes but for white space outside strings
abbrev pub unspaced_from : StringPlace → List ℕ → List ℕ
unspaced_from within [] = []
unspaced_from Outer (byte ∷ bytes) = if is_space byte then unspaced_from Outer bytes else byte ∷ unspaced_from (next_string_place Outer byte) bytes
unspaced_from String (byte ∷ bytes) = byte ∷ unspaced_from (next_string_place String byte) bytes
unspaced_from Backslash (byte ∷ bytes) = byte ∷ unspaced_from String bytes

-- a JSON text but for white space outside strings
abbrev pub unspaced : List ℕ → List ℕ
unspaced text = unspaced_from Outer text
