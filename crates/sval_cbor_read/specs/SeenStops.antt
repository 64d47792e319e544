-- Where the reader's steps stop in bytes that no item begins.
use Rattle.std.specs.Prelude.{◌≡◌, ℕ, ◌≤◌, true, List, [], ◌++◌, length, drop}
use Rattle.sval_label.specs.Calls.{Call}
use Rattle.sval_cbor_read.specs.Items.{ArePieces, IsByteString}
use Rattle.sval_cbor_read.specs.HeadFronts.{FailsFrom}
use Rattle.sval_cbor_read.specs.Reading as reading
use Rattle.sval_cbor_read.specs.Reading.{OpenItem, tag_step, fits}
use Rattle.sval_cbor_read.specs.Steps.{spot, StopsWith}

-- under this tag stands a number
abbrev pub IsNumberTag : ℕ → Type 0
IsNumberTag tag = (after : List ℕ) (frames : List OpenItem) → tag_step tag after frames ≡ reading.moves [] after (reading.Bignum tag frames)

-- the bytes begin with no byte string that is a number under this tag
abbrev pub LacksNumber : ℕ → List ℕ → Type 0
LacksNumber tag bytes = (content rest : List ℕ) → IsByteString bytes content rest → fits tag content ≡ true → ⊥

-- and with no chunks that are one together with what came before
abbrev pub LacksChunks : ℕ → List ℕ → List ℕ → Type 0
LacksChunks tag front bytes = (content rest : List ℕ) → ArePieces 2 bytes content rest → fits tag (front ++ content) ≡ true → ⊥

-- where chunks of a number that lacks some are expected at the one place, the steps stop at the other
pub record ChunksStop (bytes : List ℕ) (from stop : ℕ) : Type 0 where
  pub stops : (tag : ℕ) (front : List ℕ) (frames : List OpenItem) (made : List Call) → LacksChunks tag front (drop from bytes)
      → StopsWith (spot (reading.BignumPieces tag front frames) (drop from bytes) made) (drop stop bytes)
  pub later : from ≤ stop
  pub within : stop ≤ length bytes

-- where a number under a tag is expected at the one place and lacks, the steps stop at the other
pub record NumberStops (bytes : List ℕ) (at stop : ℕ) : Type 0 where
  pub stops : (tag : ℕ) (frames : List OpenItem) (made : List Call) → LacksNumber tag (drop at bytes)
      → StopsWith (spot (reading.Bignum tag frames) (drop at bytes) made) (drop stop bytes)
  pub later : at ≤ stop
  pub within : stop ≤ length bytes

-- where an item is expected at the one place, the steps stop at the other
pub record ItemStops (bytes : List ℕ) (at stop : ℕ) : Type 0 where
  pub stops : (frames : List OpenItem) (made : List Call) → StopsWith (spot (reading.Item frames) (drop at bytes) made) (drop stop bytes)
  pub fails : FailsFrom bytes at stop
  pub within : stop ≤ length bytes
