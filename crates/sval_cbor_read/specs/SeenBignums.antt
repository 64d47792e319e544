-- Which numbers the code reads from byte strings.
use Rattle.std.specs.Prelude.{◌≡◌, ℕ, ◌^◌, ◌<◌, ◌≤◌, List, length, drop}
use Rattle.sval_cbor_read.specs.declared.bignum.Bignum.{Bignum}
use Rattle.sval_cbor_read.specs.Items.{ArePieces, IsByteString, big_endian}

-- a byte string stands at a place, and is this number
pub record IsNumberAt (bytes : List ℕ) (at : ℕ) (bignum : Bignum) : Type 0 where
  pub content : List ℕ
  pub stands : IsByteString (drop at bytes) content (drop bignum.next bytes)
  pub value : bignum.number ≡ big_endian content
  pub small : bignum.number < 2 ^ 128
  pub later : at < bignum.next
  pub within : bignum.next ≤ length bytes

-- no byte string that is a number of 128 bits begins the bytes
abbrev pub HasNoNumber : List ℕ → Type 0
HasNoNumber bytes = (content rest : List ℕ) → IsByteString bytes content rest → 2 ^ 128 ≤ big_endian content

-- pieces of a byte string stand from a place on, and are this number
pub record ArePiecesAt (bytes : List ℕ) (at : ℕ) (bignum : Bignum) : Type 0 where
  pub content : List ℕ
  pub stands : ArePieces 2 (drop at bytes) content (drop bignum.next bytes)
  pub value : bignum.number ≡ big_endian content
  pub small : bignum.number < 2 ^ 128
  pub later : at < bignum.next
  pub within : bignum.next ≤ length bytes

-- no pieces of a byte string that are a number of 128 bits begin the bytes
abbrev pub HasNoPieces : List ℕ → Type 0
HasNoPieces bytes = (content rest : List ℕ) → ArePieces 2 bytes content rest → 2 ^ 128 ≤ big_endian content
