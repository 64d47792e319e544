-- How many arrays and objects are open behind the first bytes of a text, and how many values and names begin in them. It looks only at single bytes: at those of strings, and at the tokens of RFC 8259, section 2.
use Rattle.std.specs.Prelude.{ℕ, ◌+◌, ◌-◌, Bool, ◌||◌, ◌==◌, if◌then◌else◌, List, [], ◌∷◌}
use Rattle.sval_json.specs.Grammar.{is_space}

-- where the next byte of a text stands: between tokens, in a number or a word, in a string, or behind a backslash in one
pub data Outline : Type 0 where
  BetweenTokens : Outline
  InScalar : Outline
  InQuotes : Outline
  BehindBackslash : Outline

-- an array or an object begins
abbrev pub opens_level : ℕ → Bool
opens_level byte = (byte == 91) || (byte == 123)

-- an array or an object ends
abbrev pub closes_level : ℕ → Bool
closes_level byte = (byte == 93) || (byte == 125)

-- white space, a comma or a colon
abbrev pub is_separator : ℕ → Bool
is_separator byte = is_space byte || (byte == 44) || (byte == 58)

-- where the next byte stands, how many arrays and objects are open, and how many values and names have begun
pub record Outlined : Type 0 where
  pub outline : Outline
  pub levels : ℕ
  pub nodes : ℕ

-- an outline by its three parts
abbrev pub outlined : Outline → ℕ → ℕ → Outlined
outlined outline levels nodes = record { outline = outline; levels = levels; nodes = nodes }

-- one byte more: outside of strings a bracket or brace opens or closes a level; a quote, an opening bracket or brace, and the first byte of a number or a word begin a value or a name
abbrev pub outline_byte : Outline → ℕ → ℕ → ℕ → Outlined
outline_byte BetweenTokens levels nodes byte =
    if byte == 34 then outlined InQuotes levels (nodes + 1)
    else if opens_level byte then outlined BetweenTokens (levels + 1) (nodes + 1)
    else if closes_level byte then outlined BetweenTokens (levels - 1) nodes
    else if is_separator byte then outlined BetweenTokens levels nodes
    else outlined InScalar levels (nodes + 1)
outline_byte InScalar levels nodes byte =
    if closes_level byte then outlined BetweenTokens (levels - 1) nodes
    else if is_separator byte then outlined BetweenTokens levels nodes
    else outlined InScalar levels nodes
outline_byte InQuotes levels nodes byte =
    if byte == 34 then outlined BetweenTokens levels nodes
    else if byte == 92 then outlined BehindBackslash levels nodes
    else outlined InQuotes levels nodes
outline_byte BehindBackslash levels nodes byte = outlined InQuotes levels nodes

-- the bytes one after the other
abbrev pub outline_bytes : Outlined → List ℕ → Outlined
outline_bytes before [] = before
outline_bytes before (byte ∷ bytes) = outline_bytes (outline_byte before.outline before.levels before.nodes byte) bytes

-- what the bytes leave behind from the first on
abbrev pub outline_of : List ℕ → Outlined
outline_of bytes = outline_bytes (outlined BetweenTokens 0 0) bytes

-- how many arrays and objects the bytes leave open
abbrev pub open_levels : List ℕ → ℕ
open_levels bytes = (outline_of bytes).levels

-- how many values and names begin in the bytes
abbrev pub begun_nodes : List ℕ → ℕ
begun_nodes bytes = (outline_of bytes).nodes
