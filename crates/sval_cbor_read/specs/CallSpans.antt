-- How far the item reaches that some calls begin with, and its calls by itself.
use Rattle.std.specs.Prelude.{ℕ, zero, suc, List, [], ◌∷◌, ⊤}
use Rattle.sval_label.specs.Calls.{Call}

-- how many strings, arrays and maps are open where one more ends
abbrev pub one_closed : ℕ → ℕ
one_closed zero = zero
one_closed (suc depth) = depth

-- how many strings, arrays and maps are open behind a call, where so many are before it
abbrev pub cbor_open_behind : Call → ℕ → ℕ
cbor_open_behind (Call.TextBegin _) depth = suc depth
cbor_open_behind Call.TextEnd depth = one_closed depth
cbor_open_behind (Call.BinaryBegin _) depth = suc depth
cbor_open_behind Call.BinaryEnd depth = one_closed depth
cbor_open_behind (Call.Begin _ _) depth = suc depth
cbor_open_behind (Call.End _) depth = one_closed depth
cbor_open_behind _ depth = depth

-- no more calls where nothing is open
abbrev pub calls_while_open : ℕ → List Call → List Call
calls_while_open zero more = []
calls_while_open (suc depth) more = more

-- the calls up to the first behind which nothing is open
abbrev pub until_closed : ℕ → List Call → List Call
until_closed depth [] = []
until_closed depth (call ∷ more) = call ∷ calls_while_open (cbor_open_behind call depth) (until_closed (cbor_open_behind call depth) more)

-- the calls of the item that some calls begin with, without the part around it
abbrev pub item_by_itself : List Call → List Call
item_by_itself (Call.PartBegin _ ∷ made) = until_closed 0 made
item_by_itself made = until_closed 0 made

-- a call begins an item
abbrev pub begins_item : Call → Type 0
begins_item Call.Null = ⊤
begins_item (Call.Truth _) = ⊤
begins_item (Call.Int _ _) = ⊤
begins_item (Call.TextBegin _) = ⊤
begins_item (Call.BinaryBegin _) = ⊤
begins_item (Call.Begin _ _) = ⊤
begins_item _ = ⊥

-- the first of these calls begins an item
abbrev pub FirstBeginsItem : List Call → Type 0
FirstBeginsItem [] = ⊥
FirstBeginsItem (call ∷ more) = begins_item call
