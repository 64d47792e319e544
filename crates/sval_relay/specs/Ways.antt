-- The ways to serve a script, and the words that name them.
use Rattle.std.specs.Prelude.{ℕ, nat_le, Bool, true, false, List, [], ◌∷◌, codes, bytes_eq, Option, Some, None, option_map, option_and_then, if◌then◌else◌}
use Rattle.sval_script.specs.Lines.{keep, natural}
use Rattle.sval_relay.specs.declared.way.Way.{Way}
use Rattle.sval_relay.specs.declared.way.Way.TheVariants.{Direct, Buffered, Calls, DirectBeside, BufferedBeside}
use Rattle.sval_relay.specs.declared.way.Form.{Form}
use Rattle.sval_relay.specs.declared.way.Form.TheVariants.{Serve, Made}

-- whether it captures the value before it writes
abbrev pub is_captured : Way → Bool
is_captured Direct = false
is_captured Buffered = true
is_captured Calls = true
is_captured DirectBeside = false
is_captured BufferedBeside = true

-- ---- the forms of the program's words

-- the way that a word names by itself
abbrev pub way_alone : List ℕ → Option Way
way_alone word =
    if bytes_eq word (codes "direct") then Some Direct
    else if bytes_eq word (codes "buffered") then Some Buffered
    else if bytes_eq word (codes "calls") then Some Calls
    else None

-- the way that it names before `beside`
abbrev pub way_beside : List ℕ → Option Way
way_beside word = if bytes_eq word (codes "direct") then Some DirectBeside else if bytes_eq word (codes "buffered") then Some BufferedBeside else None

-- the number of records that a word asks for: a decimal up to 50,000, without a sign or a leading zero
abbrev pub records_named : List ℕ → Option ℕ
records_named word = option_and_then (keep (λ n. nat_le n 50000)) (natural word)

-- a script of one value, or of many, where a way is named
abbrev pub served_in : Bool → Option Way → Option Form
served_in many = option_map (λ way. Serve (record { way = way; many = many }))

-- the form that words are, if they are one
abbrev pub relay_form : List (List ℕ) → Option Form
relay_form (word ∷ []) = served_in false (way_alone word)
relay_form (word ∷ last ∷ []) =
    if bytes_eq word (codes "made") then option_map Made (records_named last)
    else if bytes_eq last (codes "lines") then served_in true (way_alone word)
    else if bytes_eq last (codes "beside") then served_in false (way_beside word)
    else None
relay_form (word ∷ middle ∷ last ∷ []) =
    if bytes_eq middle (codes "beside") then (if bytes_eq last (codes "lines") then served_in true (way_beside word) else None) else None
relay_form words = None

-- whether the input is read: it isn't for a made script
abbrev pub is_read_for : Option Form → Bool
is_read_for (Some (Made count)) = false
is_read_for _ = true

-- whether memory may be wanting between two values, each of which is captured by itself
abbrev pub is_partly : (captured many : Bool) → Bool
is_partly true true = true
is_partly true false = false
is_partly false many = false

abbrev pub is_partly_for : Option Form → Bool
is_partly_for (Some (Serve task)) = is_partly (is_captured task.way) task.many
is_partly_for _ = false
