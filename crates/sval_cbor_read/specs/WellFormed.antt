-- The well-formed items of CBOR (RFC 8949, section 3 and appendix C), whatever they mean, and whether or not this profile has them.
use Rattle.std.specs.Prelude.{◌≡◌, ℕ, zero, suc, ◌≤◌, List, ◌∷◌, length, drop, Option, Some, None}
use Rattle.sval_cbor_read.specs.Items.{head, head_at_front}
use Rattle.sval_cbor_read.specs.HeadFronts.{DueItems, OpensLevel}

-- a definite string of this major type, and the rest behind its bytes
pub data IsStringOf (major : ℕ) : List ℕ → List ℕ → Type 0 where
  string_bytes : {number : ℕ} {bytes after : List ℕ} → head_at_front bytes ≡ Some (head major number after) → number ≤ length after → IsStringOf major bytes (drop number after)

-- definite strings of this major type up to the break
pub data AreChunksOf (major : ℕ) : List ℕ → List ℕ → Type 0 where
  chunks_break : {rest : List ℕ} → AreChunksOf major (0xff ∷ rest) rest
  chunk_before : {bytes after rest : List ℕ} → IsStringOf major bytes after → AreChunksOf major after rest → AreChunksOf major bytes rest

mutual
  -- IsWellFormed bytes rest: the bytes are a well-formed item, and then the rest
  pub data IsWellFormed : List ℕ → List ℕ → Type 0 where
    headed : {bytes after rest : List ℕ} {major number : ℕ} → head_at_front bytes ≡ Some (head major number after) → IsContent major number after rest → IsWellFormed bytes rest
    -- a simple value in two bytes, of which the first is 0xf8, is at least 32
    simple_or_float : {first number : ℕ} {bytes rest : List ℕ} → head_at_front (first ∷ bytes) ≡ Some (head 7 number rest) → (first ≡ 0xf8 → 32 ≤ number)
        → IsWellFormed (first ∷ bytes) rest
    byte_chunks : {bytes rest : List ℕ} → AreChunksOf 2 bytes rest → IsWellFormed (0x5f ∷ bytes) rest
    text_chunks : {bytes rest : List ℕ} → AreChunksOf 3 bytes rest → IsWellFormed (0x7f ∷ bytes) rest
    array_to_break : {bytes rest : List ℕ} → HasItems None bytes rest → IsWellFormed (0x9f ∷ bytes) rest
    map_to_break : {bytes rest : List ℕ} → HasPairs None bytes rest → IsWellFormed (0xbf ∷ bytes) rest

  -- IsContent major number after rest: what follows a head with this major type and number, for major types below 7
  pub data IsContent : ℕ → ℕ → List ℕ → List ℕ → Type 0 where
    unsigned_integer : {n : ℕ} {rest : List ℕ} → IsContent 0 n rest rest
    negative_integer : {n : ℕ} {rest : List ℕ} → IsContent 1 n rest rest
    byte_string : {n : ℕ} {after : List ℕ} → n ≤ length after → IsContent 2 n after (drop n after)
    text_string : {n : ℕ} {after : List ℕ} → n ≤ length after → IsContent 3 n after (drop n after)
    array_of : {n : ℕ} {after rest : List ℕ} → HasItems (Some n) after rest → IsContent 4 n after rest
    map_of : {n : ℕ} {after rest : List ℕ} → HasPairs (Some n) after rest → IsContent 5 n after rest
    tagged_item : {n : ℕ} {after rest : List ℕ} → IsWellFormed after rest → IsContent 6 n after rest

  -- this many items, or where there is no number, items up to the break
  pub data HasItems : Option ℕ → List ℕ → List ℕ → Type 0 where
    items_came : {rest : List ℕ} → HasItems (Some zero) rest rest
    items_end_with_break : {rest : List ℕ} → HasItems None (0xff ∷ rest) rest
    item_of : {n : ℕ} {bytes after rest : List ℕ} → IsWellFormed bytes after → HasItems (Some n) after rest → HasItems (Some (suc n)) bytes rest
    item_before_break : {bytes after rest : List ℕ} → IsWellFormed bytes after → HasItems None after rest → HasItems None bytes rest

  -- this many pairs of items, or pairs up to the break
  pub data HasPairs : Option ℕ → List ℕ → List ℕ → Type 0 where
    pairs_came : {rest : List ℕ} → HasPairs (Some zero) rest rest
    pairs_end_with_break : {rest : List ℕ} → HasPairs None (0xff ∷ rest) rest
    pair_of : {n : ℕ} {bytes between after rest : List ℕ} → IsWellFormed bytes between → IsWellFormed between after → HasPairs (Some n) after rest
        → HasPairs (Some (suc n)) bytes rest
    pair_before_break : {bytes between after rest : List ℕ} → IsWellFormed bytes between → IsWellFormed between after → HasPairs None after rest → HasPairs None bytes rest

-- the bytes begin with an array or a map, or with tags and then one
pub data HoldsItems : List ℕ → Type 0 where
  holds_here : {bytes left : List ℕ} {inside : DueItems} → OpensLevel bytes inside left → HoldsItems bytes
  holds_under_tag : {tag : ℕ} {bytes after : List ℕ} → head_at_front bytes ≡ Some (head 6 tag after) → HoldsItems after → HoldsItems bytes
