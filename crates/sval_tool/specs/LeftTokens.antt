-- The tokens of a document that a rule and paths leave.
use Rattle.std.specs.Prelude.{ℕ, Bool, true, false, List, [], ◌∷◌, Option, Some, None}
use Rattle.sval_label.specs.Calls.{Call}
use Rattle.sval_filter.specs.Paths.{Path}
use Rattle.sval_filter.specs.declared.paths.Rule.{Rule}
use Rattle.sval_filter.specs.Walks.{Walking, walk_start, walk_named, walk_begun, walk_ended, stays_by}
use Rattle.sval_json_read.specs.Calls.{placed_token_calls, document_calls}
use Rattle.sval_json_read.specs.TokenKinds.{member_name_in, kind_of_token}
use Rattle.sval_json_read.specs.Tokens.{Placed}
use Rattle.sval_json_read.specs.declared.json_tokens.TokenKind.{TokenKind}
use Rattle.sval_json_read.specs.declared.json_tokens.TokenKind.TheVariants.{Begin, End, Single}

-- where a walk is behind a name, or else a token of this kind
abbrev pub walk_behind : Option (List ℕ) → TokenKind → Walking → Walking
walk_behind (Some label) kind walk = walk_named label walk
walk_behind None Begin walk = walk_begun walk
walk_behind None End walk = walk_ended walk
walk_behind None Single walk = walk

-- the same of a token
abbrev pub walk_after : Walking → Placed → Walking
walk_after walk placed = walk_behind (member_name_in placed) (kind_of_token placed.token) walk

-- a name, or else a token of this kind, stays
abbrev pub stays_in : Option (List ℕ) → TokenKind → Walking → Bool
stays_in (Some label) kind walk = stays_by (walk_named label walk).innermost.entry
stays_in None End walk = stays_by walk.innermost.fate
stays_in None Begin walk = stays_by walk.innermost.entry
stays_in None Single walk = stays_by walk.innermost.entry

-- the same of a token
abbrev pub token_stays : Walking → Placed → Bool
token_stays walk placed = stays_in (member_name_in placed) (kind_of_token placed.token) walk

-- a token that stays, before others
abbrev pub staying : Bool → Placed → List Placed → List Placed
staying true placed tokens = placed ∷ tokens
staying false placed tokens = tokens

-- the tokens that stay, from where a walk is
abbrev pub left_tokens : Walking → List Placed → List Placed
left_tokens walk [] = []
left_tokens walk (placed ∷ tokens) = staying (token_stays walk placed) placed (left_tokens (walk_after walk placed) tokens)

-- the calls of the tokens of a document that stay
abbrev pub left_calls : Rule → List Path → List Placed → List Call
left_calls rule paths tokens = document_calls (left_tokens (walk_start rule paths) tokens)

-- the calls of a token, if it stays
abbrev pub passed_calls : Bool → Placed → List Call
passed_calls true placed = placed_token_calls placed
passed_calls false placed = []
