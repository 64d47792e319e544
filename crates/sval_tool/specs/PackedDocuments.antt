-- What writing a tree as CBOR answers, and what it leaves of a sink.
use Rattle.std.specs.Prelude.{◌≡◌, ◌⊎◌, Ok, Err}
use Rattle.sval_core.specs.Trees.{Tree}
use Rattle.sval_io.specs.Sinks.{Told, WritesWhole, WritesFront}
use Rattle.sval_io.specs.declared.sink.SinkError.{SinkError}
use Rattle.sval_io.specs.declared.sink.SinkError.TheVariants as sink
use Rattle.sval_json.specs.Json.{Json}
use Rattle.sval_cbor.specs.Packs.{NotInteger, pack_of}
use Rattle.sval_cbor.specs.Cbor.{cbor}
use Rattle.sval_cbor.specs.Streamed.{CborAnswer}
use Rattle.sval_cbor.specs.declared.error.CborError.TheVariants as error

-- the tree packs, and exactly its bytes were written
pub record WritesPacked (tree : Tree) (old new : Told) : Type 0 where
  pub json : Json
  pub packs : pack_of tree ≡ Ok json
  pub writes : WritesWhole old (cbor json) new

-- the tree packs, and a first part of its bytes was written, not all of them
pub record StopsInPacked (why : SinkError) (tree : Tree) (old new : Told) : Type 0 where
  pub json : Json
  pub packs : pack_of tree ≡ Ok json
  pub stops : WritesFront why old (cbor json) new

-- exactly the bytes of what the tree packs to were written, or a first part where the sink declined. Nothing was written where a number isn't
-- whole, and where memory was wanting for the bytes; no other error comes
abbrev pub WritesPackedTree : {K : Type 0} → (K → Told) → Tree → CborAnswer → K → K → Type 0
WritesPackedTree told tree (Ok done) old new = WritesPacked tree (told old) (told new)
WritesPackedTree told tree (Err error.NotInteger) old new = (pack_of tree ≡ Err NotInteger) × (new ≡ old)
WritesPackedTree told tree (Err error.Write) old new = StopsInPacked sink.Failed tree (told old) (told new)
WritesPackedTree told tree (Err error.NoMemory) old new = StopsInPacked sink.NoMemory tree (told old) (told new) ⊎ (new ≡ old)
WritesPackedTree told tree (Err _) old new = ⊥
