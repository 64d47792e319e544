-- Documents, and what the machine reads.
use Rattle.std.specs.Prelude.{◌≡◌, ℕ, zero, suc, Bool, true, false, cond, ◌==◌, List, [], ◌∷◌, Option, Some, None, ◌⊎◌, refl, IsUtf8}
use Rattle.std.proofs.Common.{sym, ap, subst, ◌∙◌, inl, inr}
use Rattle.sval_core.specs.Spells.{Spells}
use Rattle.sval_json.specs.Grammar.{JsonValue, Denotes}
use Rattle.sval_json_read.specs.Trees.{tree_of}
use Rattle.sval_json_read.specs.Tokens.{Placed}
use Rattle.sval_json_read.specs.Documents.{IsDocument, IsBadJson}
use Rattle.sval_json_read.specs.Calls.{Piece, run, escape, byte_before, escape_after, pieces_after, pieces, document_calls}
use Rattle.sval_json_read.specs.Laws.{AreLongest}
use Rattle.sval_json_read.specs.Reader.{tokens_read, bytes_taken}
use Rattle.sval_json_read.proofs.ReadTexts.{denoted-read}
use Rattle.sval_json_read.proofs.SpelledTrees.{document-spells}
use Rattle.sval_json_read.proofs.Fails.{read-denotes, stops-fails, same_some}

pub document-calls : (bytes : List ℕ) (tokens : List Placed) (d : IsDocument bytes tokens) → Spells (document_calls tokens) (tree_of d.value)
document-calls bytes tokens d = subst (λ x. Spells (document_calls x) (tree_of d.value)) (sym d.same) (document-spells d.denotes)

pub document-read : (bytes : List ℕ) (tokens : List Placed) → IsDocument bytes tokens → tokens_read bytes ≡ Some tokens
document-read bytes tokens d = denoted-read d.denotes ∙ ap Some (sym d.same)

pub read-document : (bytes : List ℕ) (tokens : List Placed) → IsUtf8 bytes → tokens_read bytes ≡ Some tokens → IsDocument bytes tokens
read-document bytes tokens u e = let d = read-denotes bytes tokens u e in record { value = d.0; denotes = d.1; same = d.2 }

pub one-document : (bytes : List ℕ) (tokens others : List Placed) → IsDocument bytes tokens → IsDocument bytes others → tokens ≡ others
one-document bytes tokens others d e = same_some (sym (document-read bytes tokens d) ∙ document-read bytes others e)

pub refused-denotes_none : (bytes : List ℕ) (value : JsonValue) → tokens_read bytes ≡ None → Denotes bytes value → ⊥
refused-denotes_none bytes value e d = let f = denoted-read d in cc

pub refused-bad : (bytes : List ℕ) → IsUtf8 bytes → tokens_read bytes ≡ None → IsBadJson bytes (bytes_taken bytes)
refused-bad bytes u e = record { utf8 = u; denotes_none = λ value d. refused-denotes_none bytes value e d; fails_at = stops-fails bytes u }

pub read-or-bad : (bytes : List ℕ) → IsUtf8 bytes → ((tokens : List Placed) × IsDocument bytes tokens) ⊎ ((n : ℕ) × IsBadJson bytes n)
read-or-bad bytes u = go (tokens_read bytes) refl
  where
    go : (o : Option (List Placed)) → tokens_read bytes ≡ o → ((tokens : List Placed) × IsDocument bytes tokens) ⊎ ((n : ℕ) × IsBadJson bytes n)
    go (Some tokens) e = inl (tokens, read-document bytes tokens u e)
    go None e = inr (bytes_taken bytes, refused-bad bytes u e)

pub not-both : (bytes : List ℕ) (tokens : List Placed) (n : ℕ) → IsDocument bytes tokens → IsBadJson bytes n → ⊥
not-both bytes tokens n d b = b.denotes_none d.value d.denotes

-- ---- longest runs

before_longest : (byte : ℕ) (row : List Piece) → AreLongest row → AreLongest (byte_before byte row)
before_longest byte [] h = tt
before_longest byte (run [] ∷ row) h = absurd h
before_longest byte (run (first ∷ bytes) ∷ []) h = tt
before_longest byte (run (first ∷ bytes) ∷ run others ∷ row) h = absurd h
before_longest byte (run (first ∷ bytes) ∷ escape others ∷ row) h = h
before_longest byte (escape bytes ∷ row) h = h

after_longest : (skipped : ℕ) (bytes : List ℕ) → AreLongest (pieces_after skipped bytes)
after_longest skipped [] = tt
after_longest (suc skipped) (byte ∷ bytes) = after_longest skipped bytes
after_longest zero (byte ∷ bytes) = go (byte == 92) (λ n. after_longest n bytes)
  where
    go : (b : Bool) → ((n : ℕ) → AreLongest (pieces_after n bytes))
        → AreLongest (cond b (escape (escape_after bytes).stands_for ∷ pieces_after (escape_after bytes).follow bytes) (byte_before byte (pieces_after 0 bytes)))
    go true h = h (escape_after bytes).follow
    go false h = before_longest byte (pieces_after 0 bytes) (h 0)

pub runs-longest : (bytes : List ℕ) → AreLongest (pieces bytes)
runs-longest bytes = after_longest 0 bytes
