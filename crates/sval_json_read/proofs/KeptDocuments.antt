-- What is kept of a document can be cut from its bytes, and makes its calls.
use Rattle.std.specs.Prelude.{◌≡◌, ℕ, zero, suc, ◌+◌, ◌-◌, ◌<◌, ◌≤◌, true, List, [], ◌∷◌, map, length, drop, get_or, refl, IsUtf8, IsCharBoundary}
use Rattle.std.specs.List.{between, list_all, AllByRecursion}
use Rattle.std.proofs.Common.{sym, subst, ◌∙◌, arith, inl, inr, length-drop, length-take-le, get_or-drop}
use Rattle.std.proofs.lemmas.Bool.{cases_lt, and_parts}
use Rattle.std.proofs.lemmas.List.{get_or-take}
use Rattle.std.proofs.lemmas.Str.{IsCharBoundary-before_ascii, IsCharBoundary-after_ascii}
use Rattle.sval_json.specs.Digits.{is_number_byte, is_json_number}
use Rattle.sval_json.proofs.NumberGrammar.{number_bytes, tested_number}
use Rattle.sval_json_read.specs.Offsets.{number_of}
use Rattle.sval_json_read.specs.declared.node.Node.{Node}
use Rattle.sval_json_read.specs.declared.node.Node.TheVariants as node
use Rattle.sval_json_read.specs.Nodes.{token_in, tokens_in}
use Rattle.sval_json_read.specs.Documents.{IsDocument}
use Rattle.sval_json_read.specs.RawStrings.{IsProperToken, AreProperTokens}
use Rattle.sval_json_read.specs.SeenNodes.{seen_node, StandsIn, IsCutFrom, AreKeptOf}
use Rattle.sval_json_read.specs.NodeCounts.{AreCounted}
use Rattle.sval_json_read.specs.ReadErrors.{IsReadText}
use Rattle.sval_json.specs.Grammar.{Denotes}
use Rattle.sval_json_read.specs.Calls.{document_calls}
use Rattle.sval_json_read.specs.Tokens.{Placed}
use Rattle.sval_json_read.specs.KeptDocuments.{IsKeptDocument}
use Rattle.sval_json_read.specs.SeenValues.{value_in}
use Rattle.sval_json_read.specs.ValueNodes.{IsOfValue, alone, AreOfValue}
use Rattle.sval_json_read.proofs.SeenValues.{value-seen}
use Rattle.sval_json_read.proofs.Documents.{document-calls}
use Rattle.sval_json_read.proofs.Boundaries.{no_number_byte}
use Rattle.sval_json_read.proofs.RawStrings.{document-tokens}

number_byte_low : (byte : ℕ) → is_number_byte byte ≡ true → byte < 128
number_byte_low byte h = elim (cases_lt byte 128) [ inl low ↦ low | inr high ↦ let n = no_number_byte byte high in absurd (cc) ]

low_at : (text : List ℕ) (i : ℕ) → list_all is_number_byte text ≡ true → i < length text → get_or text i 0 < 128
low_at [] i h l = absurd (omega arith)
low_at (byte ∷ text) zero h l = number_byte_low byte (and_parts (is_number_byte byte) (list_all is_number_byte text) h).0
low_at (byte ∷ text) (suc i) h l = low_at text i (and_parts (is_number_byte byte) (list_all is_number_byte text) h).1 (omega arith)

module _ (bytes : List ℕ) (from size : ℕ) (w : from + size ≤ length bytes) (n : is_json_number (between from (from + size) bytes) ≡ true) where
  number_length : length (between from (from + size) bytes) ≡ size
  number_length =
      let l = length-drop from bytes in
      length-take-le (from + size - from) (drop from bytes) (omega (arith, l, w)) ∙ (let e : from + size - from ≡ size = omega arith in e)

  low_in : (i : ℕ) → i < size → get_or bytes (from + i) 0 < 128
  low_in i l =
      let e : get_or (between from (from + size) bytes) i 0 ≡ get_or bytes (from + i) 0 = get_or-take (from + size - from) (drop from bytes) i 0 (omega (arith, l)) ∙ get_or-drop from bytes i 0 in
      let k = number_length in
      let low = low_at (between from (from + size) bytes) i (number_bytes (between from (from + size) bytes) (tested_number (between from (from + size) bytes) n)) (omega (arith, k, l)) in
      subst (λ b. b < 128) e low

some_bytes : (text : List ℕ) → is_json_number text ≡ true → 0 < length text
some_bytes [] h = absurd (cc h)
some_bytes (byte ∷ text) h = omega arith

-- a number is ASCII
pub number_cut : (bytes : List ℕ) (from size : ℕ) → IsUtf8 bytes → from + size ≤ length bytes → is_json_number (between from (from + size) bytes) ≡ true
    → IsCharBoundary bytes from × IsCharBoundary bytes (from + size)
number_cut bytes from size u w n =
    let k = number_length bytes from size w n in
    let s = some_bytes (between from (from + size) bytes) n in
    let first = low_in bytes from size w n 0 (omega (arith, k, s)) in
    let last = low_in bytes from size w n (size - 1) (omega (arith, k, s)) in (
      IsCharBoundary-before_ascii bytes from (omega (arith, k, s, w)) (subst (λ i. get_or bytes i 0 < 128) (let e : from + 0 ≡ from = omega arith in e) first),
      subst (IsCharBoundary bytes) (let e : from + (size - 1) + 1 ≡ from + size = omega (arith, k, s) in e) (IsCharBoundary-after_ascii bytes (from + (size - 1)) u (omega (arith, k, s, w)) last),
    )

cut_one : (bytes : List ℕ) (kept : Node) → IsUtf8 bytes → StandsIn bytes kept → IsProperToken (token_in bytes (seen_node kept).kept) → IsCutFrom bytes kept
cut_one bytes (node.Null place) u s p = tt
cut_one bytes (node.Bool place value) u s p = tt
cut_one bytes (node.Number place from size) u s p = number_cut bytes (number_of from) size u s p
cut_one bytes (node.Text place from size) u s p = s
cut_one bytes (node.BeginArray place held) u s p = tt
cut_one bytes (node.EndArray place) u s p = tt
cut_one bytes (node.BeginObject place held) u s p = tt
cut_one bytes (node.EndObject place) u s p = tt

cut_all : (bytes : List ℕ) (nodes : List Node) → IsUtf8 bytes → AllByRecursion (StandsIn bytes) nodes → AreProperTokens (tokens_in bytes (map seen_node nodes)) → AreKeptOf bytes nodes
cut_all bytes [] u s p = tt
cut_all bytes (node ∷ nodes) u s p = (record { cut = cut_one bytes node u s.0 p.0; proper = p.0 }, cut_all bytes nodes u s.1 p.1)

pub document-kept : (bytes denoting : List ℕ) (nodes : List Node) → IsUtf8 bytes → AllByRecursion (StandsIn bytes) nodes → IsDocument denoting (tokens_in bytes (map seen_node nodes)) → AreKeptOf bytes nodes
document-kept bytes denoting nodes u s d = cut_all bytes nodes u s (document-tokens denoting (tokens_in bytes (map seen_node nodes)) d)

pub root-is : {bytes : List ℕ} {tokens : List Placed} (d : IsDocument bytes tokens) → IsOfValue tokens d.value
root-is d = subst (λ row. IsOfValue row d.value) (sym d.same) (alone d.denotes.is_value)

pub kept-document : (bytes denoting : List ℕ) (nodes : List Node) → IsUtf8 bytes → AllByRecursion (StandsIn bytes) nodes → AreCounted nodes → IsDocument denoting (tokens_in bytes (map seen_node nodes)) → IsKeptDocument bytes nodes
kept-document bytes denoting nodes u s c d = record { kept = document-kept bytes denoting nodes u s d; counted = c; denoting = denoting; document = d }

-- and they are those of a value, which the calls spell
pub root-nodes : (bytes : List ℕ) (nodes : List Node) → IsKeptDocument bytes nodes → AreOfValue bytes nodes
root-nodes bytes nodes k = record { kept = k.kept; counted = k.counted; value = k.document.value; is_of = root-is k.document }

-- which is the one that the bytes denote
pub document-denotes : (bytes : List ℕ) (tokens : List Placed) → IsDocument bytes tokens → Denotes bytes (value_in tokens)
document-denotes bytes tokens d = subst (Denotes bytes) (sym (value-seen (root-is d))) d.denotes

pub document-read : (bytes : List ℕ) (tokens : List Placed) → IsDocument bytes tokens → IsReadText bytes (document_calls tokens)
document-read bytes tokens d = record { tokens = tokens; document = d; same = refl; spells = document-calls bytes tokens d }
