-- JSON as a value, and its pretty text.
use Rattle.std.specs.Prelude.{◌≡◌, ℕ, suc, Bool, true, false, List, [], ◌∷◌, ◌++◌, codes, ⊤}
use Rattle.sval_label.specs.Texts.{truth_text}
use Rattle.sval_json.specs.Escape.{escaped, in_quotes}
use Rattle.sval_json.specs.Grammar.{IsNumber, IsString}
use Rattle.sval_json.specs.Json.{Key, escaped_key, raw_key, Json, null, truth, number, text, quoted, raw, array, object, Items, no_item, item, Pairs, no_pair, pair, key_text, comma}
use Rattle.sval_pretty.specs.declared.layout.Mark.{Mark}
use Rattle.sval_pretty.specs.declared.layout.Mark.TheVariants.{Space, End}
use Rattle.sval_pretty.specs.declared.layout.Gap.TheVariants.{Nothing}
use Rattle.sval_pretty.specs.declared.layout.Place.TheVariants.{Outside}
use Rattle.sval_pretty.specs.Layout.{new_line, mark_of_byte, laid_out, place_after, depth_after, unspaced}

-- before the end of an array: no line where it is empty
abbrev pub end_line_of_items : ℕ → Items → List ℕ
end_line_of_items depth no_item = []
end_line_of_items depth (item json items) = new_line depth

-- the same of an object
abbrev pub end_line_of_pairs : ℕ → Pairs → List ℕ
end_line_of_pairs depth no_pair = []
end_line_of_pairs depth (pair key json pairs) = new_line depth

abbrev mutual
  -- the pretty text of JSON, whose first line is already indented
  pub pretty_json : ℕ → Json → List ℕ
  pretty_json depth null = codes "null"
  pretty_json depth (truth b) = truth_text b
  pretty_json depth (number bytes) = bytes
  pretty_json depth (text bytes) = in_quotes (escaped bytes)
  pretty_json depth (quoted bytes) = in_quotes bytes
  pretty_json depth (raw bytes) = laid_out (Outside Nothing) depth bytes
  pretty_json depth (array items) = codes "[" ++ pretty_items (suc depth) true items ++ end_line_of_items depth items ++ codes "]"
  pretty_json depth (object pairs) = codes "{" ++ pretty_pairs (suc depth) true pairs ++ end_line_of_pairs depth pairs ++ codes "}"

  -- each item on a line of its own; the flag says that the first of them is the array's first
  pub pretty_items : ℕ → Bool → Items → List ℕ
  pretty_items depth first no_item = []
  pretty_items depth first (item json items) = comma first ++ new_line depth ++ pretty_json depth json ++ pretty_items depth false items

  -- the same of the pairs of an object
  pub pretty_pairs : ℕ → Bool → Pairs → List ℕ
  pretty_pairs depth first no_pair = []
  pretty_pairs depth first (pair key json pairs) =
      comma first ++ new_line depth ++ key_text key ++ codes ": " ++ pretty_json depth json ++ pretty_pairs depth false pairs

-- ---- shapes that are laid out leaf by leaf

-- a byte that begins neither white space nor the end of a container
abbrev pub is_begin : Mark → Bool
is_begin Space = false
is_begin End = false
is_begin _ = true

-- a text that begins so
abbrev pub begins_at_once : List ℕ → Bool
begins_at_once [] = false
begins_at_once (byte ∷ bytes) = is_begin (mark_of_byte byte)

-- raw bytes that end at the depth where they begin, with no string open, and have no white space outside strings
pub record StandsAlone (bytes : List ℕ) : Type 0 where
  pub begins : begins_at_once bytes ≡ true
  pub place : place_after (Outside Nothing) bytes ≡ Outside Nothing
  pub depth : (depth : ℕ) → depth_after (Outside Nothing) depth bytes ≡ depth
  pub is_compact : unspaced bytes ≡ bytes

-- between quotes the bytes are a string of JSON
abbrev pub IsQuoted : List ℕ → Type 0
IsQuoted bytes = (text : List ℕ) × IsString (bytes ++ (34 ∷ [])) text []

-- the same of a key
abbrev pub IsQuotedKey : Key → Type 0
IsQuotedKey (escaped_key bytes) = ⊤
IsQuotedKey (raw_key bytes) = IsQuoted bytes

abbrev mutual
  -- numbers are numbers of JSON, quoted bytes are strings, and raw bytes stand alone
  pub HasLeaves : Json → Type 0
  HasLeaves (number bytes) = IsNumber bytes
  HasLeaves (quoted bytes) = IsQuoted bytes
  HasLeaves (raw bytes) = StandsAlone bytes
  HasLeaves (array items) = ItemsHaveLeaves items
  HasLeaves (object pairs) = PairsHaveLeaves pairs
  HasLeaves _ = ⊤

  -- the same of items
  pub ItemsHaveLeaves : Items → Type 0
  ItemsHaveLeaves no_item = ⊤
  ItemsHaveLeaves (item json items) = HasLeaves json × ItemsHaveLeaves items

  -- the same of pairs
  pub PairsHaveLeaves : Pairs → Type 0
  PairsHaveLeaves no_pair = ⊤
  PairsHaveLeaves (pair key json pairs) = IsQuotedKey key × HasLeaves json × PairsHaveLeaves pairs
