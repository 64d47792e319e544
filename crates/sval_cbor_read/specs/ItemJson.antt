-- What was written of items, keys and pairs as they were read.
use Rattle.std.specs.Prelude.{◌≡◌, ℕ, ◌+◌, ◌<◌, ◌≤◌, ℤ, Bool, true, false, List, ◌++◌, length, take, drop, codes, Ok, IsUtf8}
use Rattle.std.specs.Fmt.{signed_decimal}
use Rattle.sval_label.specs.Calls.{IntType}
use Rattle.sval_core.specs.Trees.{Tree, Int, Parts}
use Rattle.sval_json.specs.declared.style.Variants.TheVariants.{Inside}
use Rattle.sval_json.specs.Escape.{escaped}
use Rattle.sval_json.specs.Json as json
use Rattle.sval_json.specs.Json.{Json, comma, compact, compact_items, compact_pairs, key_text}
use Rattle.sval_json.specs.Shape.{shape, items, pairs}
use Rattle.sval_json.specs.Shape as shaping
use Rattle.sval_cbor_read.specs.declared.head.Head.{Head}
use Rattle.sval_cbor_read.specs.declared.item_json.written.Written.{Written}
use Rattle.sval_cbor_read.specs.Items.{IsItem, IsBody}

-- the text so far
abbrev pub text_of : Written → List ℕ
text_of out = out.passed.bytes ++ out.joined

-- an item stands between two places, and its JSON was written
pub record ItemAt (bytes : List ℕ) (at next : ℕ) (old new : List ℕ) : Type 0 where
  pub tree : Tree
  pub item : IsItem (drop at bytes) tree (drop next bytes)
  pub later : at < next
  pub within : next ≤ length bytes
  pub json : Json
  pub shape_is : shape Inside tree false ≡ Ok json
  pub written : new ≡ old ++ compact json

-- the same of an item that begins with a head
pub record BodyAt (bytes : List ℕ) (h : Head) (next : ℕ) (old new : List ℕ) : Type 0 where
  pub tree : Tree
  pub body : IsBody h.major h.number (drop h.next bytes) tree (drop next bytes)
  pub later : h.next ≤ next
  pub within : next ≤ length bytes
  pub json : Json
  pub shape_is : shape Inside tree false ≡ Ok json
  pub written : new ≡ old ++ compact json

-- the digits of a whole number were written, which is its head alone
pub record NumberAt (h : Head) (old new : List ℕ) : Type 0 where
  pub type : IntType
  pub value : ℤ
  pub body : (after : List ℕ) → IsBody h.major h.number after (Int type value) after
  pub written : new ≡ old ++ signed_decimal value

-- the text behind a head was written with its escapes, behind its quote and before what closes it
pub record TextAt (bytes : List ℕ) (h : Head) (closing : List ℕ) (next : ℕ) (old new : List ℕ) : Type 0 where
  pub next_is : next ≡ h.next + h.number
  pub within : next ≤ length bytes
  pub is_text : IsUtf8 (take h.number (drop h.next bytes))
  pub written : new ≡ old ++ (codes "\"" ++ (escaped (take h.number (drop h.next bytes)) ++ closing))

-- a key stands between two places, and was written with its colon
pub record KeyAt (bytes : List ℕ) (at next : ℕ) (old new : List ℕ) : Type 0 where
  pub tree : Tree
  pub item : IsItem (drop at bytes) tree (drop next bytes)
  pub later : at < next
  pub within : next ≤ length bytes
  pub key : json.Key
  pub key_is : shaping.key tree false ≡ Ok key
  pub written : new ≡ old ++ (key_text key ++ codes ":")

-- the same of a key that begins with a head
pub record KeyBodyAt (bytes : List ℕ) (h : Head) (next : ℕ) (old new : List ℕ) : Type 0 where
  pub tree : Tree
  pub body : IsBody h.major h.number (drop h.next bytes) tree (drop next bytes)
  pub later : h.next ≤ next
  pub within : next ≤ length bytes
  pub key : json.Key
  pub key_is : shaping.key tree false ≡ Ok key
  pub written : new ≡ old ++ (key_text key ++ codes ":")

-- a key and its value stand between two places, and were written with the colon
pub record PairAt (bytes : List ℕ) (at next : ℕ) (old new : List ℕ) : Type 0 where
  pub between : ℕ
  pub after_key : List ℕ
  pub key : KeyAt bytes at between old after_key
  pub value : ItemAt bytes between next after_key new

-- items stand in front of the rest, and were written with their commas; the flag says that the first is the array's first
pub record ItemsAt (Are : List ℕ → Parts → List ℕ → Type 0) (first : Bool) (bytes rest old new : List ℕ) : Type 0 where
  pub parts : Parts
  pub are : Are bytes parts rest
  pub shaped : json.Items
  pub shape_is : items Inside parts ≡ Ok shaped
  pub written : new ≡ old ++ compact_items first shaped

-- the same of pairs
pub record PairsAt (Are : List ℕ → Parts → List ℕ → Type 0) (first : Bool) (bytes rest old new : List ℕ) : Type 0 where
  pub parts : Parts
  pub are : Are bytes parts rest
  pub shaped : json.Pairs
  pub shape_is : pairs Inside parts ≡ Ok shaped
  pub written : new ≡ old ++ compact_pairs first shaped

-- the answer tells whether the text behind a head was written, which needs no escape, or all is as before
abbrev pub JoinsText : List ℕ → Head → (old new : List ℕ) → Bool → Type 0
JoinsText bytes h old new true =
    (h.next + h.number ≤ length bytes) × IsUtf8 (take h.number (drop h.next bytes)) × (new ≡ old ++ escaped (take h.number (drop h.next bytes)))
JoinsText bytes h old new false = new ≡ old
