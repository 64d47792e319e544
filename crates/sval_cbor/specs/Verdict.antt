-- What a script has to give.
use Rattle.std.specs.Prelude.{◌≡◌, ℕ, List, Result}
use Rattle.sval_core.specs.Trees.{Tree}
use Rattle.sval_program.specs.Verdict.{Verdict, IsVerdict}
use Rattle.sval_cbor.specs.Cbor.{cbor}
use Rattle.sval_cbor.specs.Packs.{PackRefusal, map_packed, pack_of}

-- a tree gives what it packs to, as bytes, or why it doesn't
abbrev pub GivesCbor : Result (List ℕ) PackRefusal → Tree → Type 0
GivesCbor due tree = due ≡ map_packed cbor (pack_of tree)

-- this is the script's verdict
abbrev pub IsCborVerdict : Verdict (Result (List ℕ) PackRefusal) → List ℕ → Type 0
IsCborVerdict answer script = IsVerdict GivesCbor answer script
