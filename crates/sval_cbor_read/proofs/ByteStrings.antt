-- The content of a byte string is found from its bytes.
use Rattle.std.specs.Prelude.{◌≡◌, ℕ, zero, suc, ◌<◌, ◌≤◌, List, [], ◌∷◌, ◌++◌, length, take, refl}
use Rattle.std.proofs.Common.{ap, subst, arith}
use Rattle.std.proofs.lemmas.List.{length-drop}
use Rattle.sval_cbor_read.specs.Items.{head, string, ArePieces, break, piece, IsByteString, definite, in_pieces}
use Rattle.sval_cbor_read.specs.SeenNodes.{joined_strings, byte_string}
use Rattle.sval_cbor_read.proofs.Strings.{no_head, no_break, no_pieces}
use Rattle.sval_cbor_read.proofs.Nearer.{IsShorter, head_shorter}

pub joined_is : {bytes content rest : List ℕ} (most : ℕ) → ArePieces 2 bytes content rest → length bytes ≤ most → joined_strings most bytes ≡ content
joined_is zero (break {rest = rest}) l = absurd (omega arith)
joined_is (suc most) (break {rest = rest}) l = refl
joined_is most (piece {bytes = []} (string e k u) p) l = absurd (no_head e)
joined_is zero (piece {bytes = first ∷ bytes} s p) l = absurd (omega arith)
joined_is (suc most) (piece {bytes = first ∷ bytes} {more = more} (string {number = n} {after = after} e k u) p) l =
    let shorter : length after < length (first ∷ bytes) = subst (IsShorter (first ∷ bytes)) e (head_shorter (first ∷ bytes)) in
    let rest = joined_is most p (omega (arith, length-drop n after)) in
    rw (no_break first bytes (head 2 n after) e, e) (ap (λ x. take n after ++ x) rest)

pub byte_string_is : {bytes content rest : List ℕ} → IsByteString bytes content rest → byte_string bytes ≡ content
byte_string_is (definite {bytes = []} (string e k u)) = absurd (no_head e)
byte_string_is (definite {bytes = first ∷ bytes} (string {number = n} {after = after} e k u)) = rw (no_pieces first bytes (head 2 n after) e, e) refl
byte_string_is (in_pieces {bytes = bytes} p) = joined_is (length bytes) p (omega arith)
