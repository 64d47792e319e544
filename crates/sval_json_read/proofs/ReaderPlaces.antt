-- Where what a reader keeps stands in the bytes, after one byte more or one node more.
use Rattle.std.specs.Prelude.{◌≡◌, ℕ, ◌+◌, ◌<◌, List, [], ◌∷◌, ◌++◌, length, get_or, IsUtf8, IsCharBoundary}
use Rattle.std.specs.List.{AllByRecursion}
use Rattle.std.proofs.Common.{sym, subst, arith}
use Rattle.std.proofs.lemmas.Str.{IsCharBoundary-before_ascii, IsCharBoundary-after_ascii, IsCharBoundary-start}
use Rattle.sval_json_read.specs.declared.node.Node.{Node}
use Rattle.sval_json_read.specs.SeenNodes.{StandsIn}
use Rattle.sval_json_read.specs.SeenReader.{ReadsIn}

-- what is being read still begins there
pub reads_on : (bytes : List ℕ) (at from : ℕ) (nodes : List Node) → ReadsIn bytes at from nodes → ReadsIn bytes (at + 1) from nodes
reads_on bytes at from nodes r = let b = r.before in record { utf8 = r.utf8; before = omega arith; whole = r.whole; stand = r.stand }

-- so it does after more bytes
pub reads_far : (bytes : List ℕ) (at n from : ℕ) (nodes : List Node) → ReadsIn bytes at from nodes → ReadsIn bytes (at + n) from nodes
reads_far bytes at n from nodes r = let b = r.before in record { utf8 = r.utf8; before = omega arith; whole = r.whole; stand = r.stand }

-- a string begins behind its quote
pub reads_string : (bytes : List ℕ) (at from : ℕ) (nodes : List Node) → ReadsIn bytes at from nodes → at < length bytes → get_or bytes at 0 ≡ 34 → ReadsIn bytes (at + 1) (at + 1) nodes
reads_string bytes at from nodes r l q =
    record { utf8 = r.utf8; before = omega arith; whole = IsCharBoundary-after_ascii bytes at r.utf8 l (omega arith); stand = r.stand }

-- a number begins with its first byte
pub reads_number : (bytes : List ℕ) (at from : ℕ) (nodes : List Node) → ReadsIn bytes at from nodes → at < length bytes → get_or bytes at 0 < 128 → ReadsIn bytes (at + 1) at nodes
reads_number bytes at from nodes r l q =
    record { utf8 = r.utf8; before = omega arith; whole = IsCharBoundary-before_ascii bytes at l q; stand = r.stand }

all_and_one : (bytes : List ℕ) (nodes : List Node) (node : Node) → AllByRecursion (StandsIn bytes) nodes → StandsIn bytes node → AllByRecursion (StandsIn bytes) (nodes ++ (node ∷ []))
all_and_one bytes [] node h k = (k, tt)
all_and_one bytes (first ∷ nodes) node h k = (h.0, all_and_one bytes nodes node h.1 k)

-- a node more
pub reads_node : (bytes : List ℕ) (at from : ℕ) (nodes : List Node) (node : Node) → ReadsIn bytes at from nodes → StandsIn bytes node → ReadsIn bytes at from (nodes ++ (node ∷ []))
reads_node bytes at from nodes node r s = record { utf8 = r.utf8; before = r.before; whole = r.whole; stand = all_and_one bytes nodes node r.stand s }

-- a closing quote is where a string may be cut
pub cut_at_quote : (bytes : List ℕ) (at : ℕ) → at < length bytes → get_or bytes at 0 ≡ 34 → IsCharBoundary bytes at
cut_at_quote bytes at l q = IsCharBoundary-before_ascii bytes at l (omega arith)

-- before the first byte
pub reads_start : (bytes : List ℕ) (from : ℕ) (nodes : List Node) → IsUtf8 bytes → from ≡ 0 → nodes ≡ [] → ReadsIn bytes 0 from nodes
reads_start bytes from nodes u f n =
    subst (λ k. ReadsIn bytes 0 k nodes) (sym f) (subst (ReadsIn bytes 0 0) (sym n) (record { utf8 = u; before = omega arith; whole = IsCharBoundary-start bytes u; stand = tt }))
