-- The reader step by step, over bytes and a stack of what is open: no step recurses, and what it makes are the document's calls.
use Rattle.std.specs.Prelude.{◌≡◌, ℕ, zero, suc, ◌+◌, ◌*◌, ◌^◌, pos, negsuc, Bool, true, false, ◌&&◌, ◌==◌, nat_lt, nat_le, if◌then◌else◌, List, [], ◌∷◌, ◌++◌, length, take, drop, Option, Some, None}
use Rattle.sval_label.specs.Calls.{Call, U64, U128, I128}
use Rattle.sval_label.specs.Calls as calls
use Rattle.sval_cbor_read.specs.Items.{ItemHead, head, head_at_front, is_piece, negative_type, big_endian}

-- what is open: an array's items or a map's pairs, with how many are still to come, or none where a break ends them
pub data OpenItem : Type 0 where
  Items : Option ℕ → OpenItem
  Keys : Option ℕ → OpenItem
  Values : Option ℕ → OpenItem

-- what comes next, over the stack of what is open
pub data ItemState : Type 0 where
  -- an item, and after it what the frame says
  Item : List OpenItem → ItemState
  -- the next part of the last frame, or its end
  Part : List OpenItem → ItemState
  -- an item has ended
  Ended : List OpenItem → ItemState
  -- the pieces of a string of this major type
  Pieces : ℕ → List OpenItem → ItemState
  -- a byte string under this tag, and then its pieces, after those that are joined here
  Bignum : ℕ → List OpenItem → ItemState
  BignumPieces : ℕ → List ℕ → List OpenItem → ItemState

-- a step: the calls that it makes, the bytes that are left, and what comes next
pub record Move : Type 0 where
  pub calls : List Call
  pub left : List ℕ
  pub next : ItemState

-- a step by its three parts
abbrev pub moves : List Call → List ℕ → ItemState → Option Move
moves calls left next = Some (record { calls = calls; left = left; next = next })

-- ---- the first byte

-- the first bytes that stand by themselves: those of what a break ends, and the simple values
pub data Mark : Type 0 where
  BinaryPieces : Mark
  TextPieces : Mark
  SeqToBreak : Mark
  MapToBreak : Mark
  Falsehood : Mark
  Truth : Mark
  Null : Mark

-- which of them a byte is
abbrev pub mark_of : ℕ → Option Mark
mark_of first =
    if first == 0x5f then Some BinaryPieces
    else if first == 0x7f then Some TextPieces
    else if first == 0x9f then Some SeqToBreak
    else if first == 0xbf then Some MapToBreak
    else if first == 0xf4 then Some Falsehood
    else if first == 0xf5 then Some Truth
    else if first == 0xf6 then Some Null
    else None

-- what follows such a byte
abbrev pub marked : Mark → List ℕ → List OpenItem → Option Move
marked BinaryPieces bytes frames = moves (Call.BinaryBegin None ∷ []) bytes (Pieces 2 frames)
marked TextPieces bytes frames = moves (Call.TextBegin None ∷ []) bytes (Pieces 3 frames)
marked SeqToBreak bytes frames = moves (Call.Begin calls.Seq None ∷ []) bytes (Part (Items None ∷ frames))
marked MapToBreak bytes frames = moves (Call.Begin calls.Map None ∷ []) bytes (Part (Keys None ∷ frames))
marked Falsehood bytes frames = moves (Call.Truth false ∷ []) bytes (Ended frames)
marked Truth bytes frames = moves (Call.Truth true ∷ []) bytes (Ended frames)
marked Null bytes frames = moves (Call.Null ∷ []) bytes (Ended frames)

-- ---- heads

-- a definite string, which is a text where its major type is 3
abbrev pub string_calls : ℕ → ℕ → List ℕ → List Call
string_calls major n bytes =
    if major == 3 then Call.TextBegin (Some n) ∷ Call.TextFragment true bytes ∷ Call.TextEnd ∷ []
    else Call.BinaryBegin (Some n) ∷ Call.BinaryFragment true bytes ∷ Call.BinaryEnd ∷ []

-- a definite string
abbrev pub string_step : ℕ → ℕ → List ℕ → List OpenItem → Option Move
string_step major n after frames =
    if nat_le n (length after) && is_piece major (take n after) then moves (string_calls major n (take n after)) (drop n after) (Ended frames) else None

-- under the tags 2 and 3 stands a number, and any other is passed over
abbrev pub tag_step : ℕ → List ℕ → List OpenItem → Option Move
tag_step tag after frames = if tag == 2 then moves [] after (Bignum 2 frames) else if tag == 3 then moves [] after (Bignum 3 frames) else moves [] after (Item frames)

-- by the major type
abbrev pub body_step : ℕ → ℕ → List ℕ → List OpenItem → Option Move
body_step major n after frames =
    if major == 0 then moves (Call.Int U64 (pos n) ∷ []) after (Ended frames)
    else if major == 1 then moves (Call.Int (negative_type n) (negsuc n) ∷ []) after (Ended frames)
    else if major == 2 then string_step 2 n after frames
    else if major == 3 then string_step 3 n after frames
    else if major == 4 then moves (Call.Begin calls.Seq (Some n) ∷ []) after (Part (Items (Some n) ∷ frames))
    else if major == 5 then moves (Call.Begin calls.Map (Some n) ∷ []) after (Part (Keys (Some n) ∷ frames))
    else if major == 6 then tag_step n after frames
    else None

-- an item that begins with a head
abbrev pub head_step : Option ItemHead → List OpenItem → Option Move
head_step None frames = None
head_step (Some (head major n after)) frames = body_step major n after frames

-- an item by its first byte, or else by its head
abbrev pub first_step : Option Mark → List ℕ → Option ItemHead → List OpenItem → Option Move
first_step (Some mark) bytes _ frames = marked mark bytes frames
first_step None _ begun frames = head_step begun frames

-- an item begins
abbrev pub item_step : List ℕ → List OpenItem → Option Move
item_step [] frames = None
item_step (first ∷ bytes) frames = first_step (mark_of first) bytes (head_at_front (first ∷ bytes)) frames

-- ---- strings in pieces

-- a piece of a text or of a byte string
abbrev pub fragment_call : ℕ → List ℕ → Call
fragment_call major bytes = if major == 3 then Call.TextFragment true bytes else Call.BinaryFragment true bytes

-- the end of a text or of a byte string
abbrev pub string_end : ℕ → Call
string_end major = if major == 3 then Call.TextEnd else Call.BinaryEnd

-- a definite string of this major type, and then what is to be done with it and with the bytes after it
abbrev pub with_piece : ℕ → Option ItemHead → (List ℕ → List ℕ → Option Move) → Option Move
with_piece major None go = None
with_piece major (Some (head m n after)) go = if m == major && nat_le n (length after) && is_piece major (take n after) then go (take n after) (drop n after) else None

-- the next piece, or the break
abbrev pub piece_step : ℕ → List ℕ → List OpenItem → Option Move
piece_step major [] frames = None
piece_step major (first ∷ bytes) frames =
    if first == 0xff then moves (string_end major ∷ []) bytes (Ended frames)
    else with_piece major (head_at_front (first ∷ bytes)) (λ piece left. moves (fragment_call major piece ∷ []) left (Pieces major frames))

-- ---- numbers as byte strings

-- under the tag 2 stands a number of 128 bits, and under 3 a negative one, which is -1 less that number
abbrev pub fits : ℕ → List ℕ → Bool
fits tag content = if tag == 2 then nat_lt (big_endian content) (2 ^ 128) else nat_lt (big_endian content) (2 ^ 127)

-- its call
abbrev pub number_call : ℕ → List ℕ → Call
number_call tag content = if tag == 2 then Call.Int U128 (pos (big_endian content)) else Call.Int I128 (negsuc (big_endian content))

-- the number under a tag, where it has its bits
abbrev pub bignum_step : ℕ → List ℕ → List ℕ → List OpenItem → Option Move
bignum_step tag content left frames = if fits tag content then moves (number_call tag content ∷ []) left (Ended frames) else None

-- the byte string under a tag for numbers
abbrev pub bignum_begins : ℕ → List ℕ → List OpenItem → Option Move
bignum_begins tag [] frames = None
bignum_begins tag (first ∷ bytes) frames =
    if first == 0x5f then moves [] bytes (BignumPieces tag [] frames)
    else with_piece 2 (head_at_front (first ∷ bytes)) (λ piece left. bignum_step tag piece left frames)

-- the next piece of its pieces, or the break
abbrev pub bignum_piece : ℕ → List ℕ → List ℕ → List OpenItem → Option Move
bignum_piece tag content [] frames = None
bignum_piece tag content (first ∷ bytes) frames =
    if first == 0xff then bignum_step tag content bytes frames
    else with_piece 2 (head_at_front (first ∷ bytes)) (λ piece left. moves [] left (BignumPieces tag (content ++ piece) frames))

-- ---- parts of arrays and maps

-- the next part begins, or the container ends: where the count is at its end, or at a break
abbrev pub part_or_end : Option ℕ → List ℕ → Option Move → (Option ℕ → Option Move) → (List ℕ → Option Move) → Option Move
part_or_end (Some zero) bytes ends part broken = ends
part_or_end (Some (suc n)) bytes ends part broken = part (Some n)
part_or_end None [] ends part broken = None
part_or_end None (first ∷ bytes) ends part broken = if first == 0xff then broken bytes else part None

-- the next part of the newest frame, or its end; after a key there is no part but its value
abbrev pub part_step : List ℕ → List OpenItem → Option Move
part_step bytes [] = None
part_step bytes (Items left ∷ frames) =
    part_or_end left bytes (moves (Call.End calls.Seq ∷ []) bytes (Ended frames)) (λ more. moves (Call.PartBegin calls.Item ∷ []) bytes (Item (Items more ∷ frames)))
    (λ after. moves (Call.End calls.Seq ∷ []) after (Ended frames))
part_step bytes (Keys left ∷ frames) =
    part_or_end left bytes (moves (Call.End calls.Map ∷ []) bytes (Ended frames)) (λ more. moves (Call.PartBegin calls.Key ∷ []) bytes (Item (Keys more ∷ frames)))
    (λ after. moves (Call.End calls.Map ∷ []) after (Ended frames))
part_step bytes (Values left ∷ frames) = None

-- an item has ended; after a key its value comes
abbrev pub ended_step : List ℕ → List OpenItem → Option Move
ended_step bytes [] = None
ended_step bytes (Items left ∷ frames) = moves (Call.PartEnd calls.Item ∷ []) bytes (Part (Items left ∷ frames))
ended_step bytes (Keys left ∷ frames) = moves (Call.PartEnd calls.Key ∷ Call.PartBegin calls.Value ∷ []) bytes (Item (Values left ∷ frames))
ended_step bytes (Values left ∷ frames) = moves (Call.PartEnd calls.Value ∷ []) bytes (Part (Keys left ∷ frames))

-- the next step, where there is one
abbrev pub reading_step : ItemState → List ℕ → Option Move
reading_step (Item frames) bytes = item_step bytes frames
reading_step (Part frames) bytes = part_step bytes frames
reading_step (Ended frames) bytes = ended_step bytes frames
reading_step (Pieces major frames) bytes = piece_step major bytes frames
reading_step (Bignum tag frames) bytes = bignum_begins tag bytes frames
reading_step (BignumPieces tag content frames) bytes = bignum_piece tag content bytes frames

-- ReadsTo last state bytes calls: steps from here on end outside all that is open where these bytes are left, and make these calls
pub data ReadsTo (last : List ℕ) : ItemState → List ℕ → List Call → Type 0 where
  at_end : {left : List ℕ} → left ≡ last → ReadsTo last (Ended []) left []
  goes_on : {state : ItemState} {bytes : List ℕ} {move : Move} {more : List Call} → reading_step state bytes ≡ Some move → ReadsTo last move.next move.left more
      → ReadsTo last state bytes (move.calls ++ more)

-- the reader reads the bytes, and the document makes these calls
abbrev pub IsReadAs : List ℕ → List Call → Type 0
IsReadAs bytes calls = ReadsTo [] (Item []) bytes calls

-- Reached bytes state left calls: the steps from the first on lead to this state with these bytes left, and have made these calls
pub data Reached (bytes : List ℕ) : ItemState → List ℕ → List Call → Type 0 where
  at_start : Reached bytes (Item []) bytes []
  onward : {state : ItemState} {left : List ℕ} {made : List Call} {move : Move} → Reached bytes state left made → reading_step state left ≡ Some move
      → Reached bytes move.next move.left (made ++ move.calls)

-- no byte is left and nothing is open
abbrev pub IsAtEnd : ItemState → List ℕ → Type 0
IsAtEnd state left = (state ≡ Ended []) × (left ≡ [])

-- how far the end is at most: each step makes it less
abbrev pub distance : ItemState → List ℕ → ℕ
distance (Item frames) bytes = 6 * length bytes + 3 * length frames
distance (Part frames) bytes = 6 * length bytes + 3 * length frames + 1
distance (Ended frames) bytes = 6 * length bytes + 3 * length frames + 2
distance (Pieces _ frames) bytes = 6 * length bytes + 3 * length frames
distance (Bignum _ frames) bytes = 6 * length bytes + 3 * length frames
distance (BignumPieces _ _ frames) bytes = 6 * length bytes + 3 * length frames
