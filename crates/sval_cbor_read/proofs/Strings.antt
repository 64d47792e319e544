-- The reader reads definite strings, strings in pieces, and numbers as byte strings.
use Rattle.std.specs.Prelude.{◌≡◌, ℕ, ◌≤◌, Bool, true, false, ◌&&◌, ◌==◌, nat_le, if◌then◌else◌, List, [], ◌∷◌, ◌++◌, map, length, take, drop, Option, Some, None, IsTrue, refl}
use Rattle.std.specs.List.{concat}
use Rattle.std.proofs.Common.{sym, ap, ◌∙◌, subst, arith, append_assoc, append-nil}
use Rattle.std.proofs.lemmas.Bool.Decides.{nat_tests}
use Rattle.sval_label.specs.Calls.{Call}
use Rattle.sval_cbor_read.specs.Items.{ItemHead, head, head_at_front, is_piece, IsDefiniteString, string, ArePieces, break, piece, IsByteString, definite, in_pieces}
use Rattle.sval_cbor_read.specs.Reading.{OpenItem, Ended, Pieces, Bignum, BignumPieces, Move, moves, string_calls, string_step, fragment_call, string_end, with_piece, piece_step, fits, number_call, bignum_step, bignum_begins, bignum_piece, ReadsTo, goes_on}
use Rattle.sval_cbor_read.specs.Document.{pieces_of}
use Rattle.sval_cbor_read.proofs.OneTree.{no_head_95, no_head_255}

-- ---- definite strings

pub fits_piece : (major n : ℕ) (after : List ℕ) → n ≤ length after → IsTrue (is_piece major (take n after)) → (nat_le n (length after) && is_piece major (take n after)) ≡ true
fits_piece major n after l k = let e : nat_le n (length after) ≡ true = grind (arith, nat_tests) in rw (e, k) refl

pub string_goes : (major n : ℕ) (after : List ℕ) (frames : List OpenItem) → n ≤ length after → IsTrue (is_piece major (take n after))
    → string_step major n after frames ≡ moves (string_calls major n (take n after)) (drop n after) (Ended frames)
string_goes major n after frames l k = rw (fits_piece major n after l k) refl

piece_fits : (major n : ℕ) (after : List ℕ) → n ≤ length after → IsTrue (is_piece major (take n after)) → (major == major && nat_le n (length after) && is_piece major (take n after)) ≡ true
piece_fits major n after l k =
    let e : nat_le n (length after) ≡ true = grind (arith, nat_tests) in
    let f : (major == major) ≡ true = grind (arith, nat_tests) in
    rw (f, e, k) refl

pub piece_goes : (major : ℕ) (bytes content rest : List ℕ) (next : List ℕ → List ℕ → Option Move) → IsDefiniteString major bytes content rest → with_piece major (head_at_front bytes) next ≡ next content rest
piece_goes major bytes content rest next (string {number = n} {after = after} e l k) = rw (e, piece_fits major n after l k) refl

-- a head begins with neither the break nor the byte of pieces
pub no_break : (first : ℕ) (bytes : List ℕ) (h : ItemHead) → head_at_front (first ∷ bytes) ≡ Some h → (first == 0xff) ≡ false
no_break first bytes h e = go (first == 0xff) refl
  where
    go : (b : Bool) → (first == 0xff) ≡ b → b ≡ false
    go true g = let is : first ≡ 0xff = grind (arith, nat_tests) in absurd (no_head_255 bytes (subst (λ x. head_at_front (x ∷ bytes) ≡ Some h) is e))
    go false g = refl

pub no_pieces : (first : ℕ) (bytes : List ℕ) (h : ItemHead) → head_at_front (first ∷ bytes) ≡ Some h → (first == 0x5f) ≡ false
no_pieces first bytes h e = go (first == 0x5f) refl
  where
    go : (b : Bool) → (first == 0x5f) ≡ b → b ≡ false
    go true g = let is : first ≡ 0x5f = grind (arith, nat_tests) in absurd (no_head_95 bytes (subst (λ x. head_at_front (x ∷ bytes) ≡ Some h) is e))
    go false g = refl

pub no_head : {h : ItemHead} → head_at_front [] ≡ Some h → ⊥
unfolding head_at_front
no_head e = cc e

pub piece_read : (major : ℕ) (bytes content rest : List ℕ) (frames : List OpenItem) → IsDefiniteString major bytes content rest → piece_step major bytes frames ≡ moves (fragment_call major content ∷ []) rest (Pieces major frames)
piece_read major [] content rest frames (string e l k) = absurd (no_head e)
piece_read major (first ∷ bytes) content rest frames (string {number = n} {after = after} e l k) =
    rw (no_break first bytes (head major n after) e) (piece_goes major (first ∷ bytes) (take n after) (drop n after) (λ piece left. moves (fragment_call major piece ∷ []) left (Pieces major frames)) (string e l k))

pub bignum_read : (tag : ℕ) (bytes content rest : List ℕ) (frames : List OpenItem) → IsDefiniteString 2 bytes content rest → bignum_begins tag bytes frames ≡ bignum_step tag content rest frames
bignum_read tag [] content rest frames (string e l k) = absurd (no_head e)
bignum_read tag (first ∷ bytes) content rest frames (string {number = n} {after = after} e l k) =
    rw (no_pieces first bytes (head 2 n after) e) (piece_goes 2 (first ∷ bytes) (take n after) (drop n after) (λ piece left. bignum_step tag piece left frames) (string e l k))

pub bignum_piece_read : (tag : ℕ) (front bytes content rest : List ℕ) (frames : List OpenItem) → IsDefiniteString 2 bytes content rest
    → bignum_piece tag front bytes frames ≡ moves [] rest (BignumPieces tag (front ++ content) frames)
bignum_piece_read tag front [] content rest frames (string e l k) = absurd (no_head e)
bignum_piece_read tag front (first ∷ bytes) content rest frames (string {number = n} {after = after} e l k) =
    rw (no_break first bytes (head 2 n after) e) (piece_goes 2 (first ∷ bytes) (take n after) (drop n after) (λ piece left. moves [] left (BignumPieces tag (front ++ piece) frames)) (string e l k))

-- ---- numbers as byte strings

pub bignum_goes : (tag : ℕ) (content left : List ℕ) (frames : List OpenItem) → fits tag content ≡ true → bignum_step tag content left frames ≡ moves (number_call tag content ∷ []) left (Ended frames)
bignum_goes tag content left frames h = ap (λ b. if b then moves (number_call tag content ∷ []) left (Ended frames) else None) h

bignum_pieces : {last : List ℕ} (tag : ℕ) (front : List ℕ) {bytes content rest : List ℕ} → ArePieces 2 bytes content rest → fits tag (front ++ content) ≡ true → (frames : List OpenItem) (more : List Call)
    → ReadsTo last (Ended frames) rest more → ReadsTo last (BignumPieces tag front frames) bytes (number_call tag (front ++ content) ∷ more)
bignum_pieces {last = end} tag front (break {rest = rest}) h frames more r =
    let e = append-nil front in
    subst (λ x. ReadsTo end (BignumPieces tag front frames) (255 ∷ rest) (number_call tag x ∷ more)) (sym e) (goes_on (bignum_goes tag front rest frames (rw e at h)) r)
bignum_pieces {last = end} tag front (piece {bytes = bytes} {after = after} {content = content} {more = last} s p) h frames more r =
    let e = append_assoc front content last in
    subst (λ x. ReadsTo end (BignumPieces tag front frames) bytes (number_call tag x ∷ more)) e
    (goes_on (bignum_piece_read tag front bytes content after frames s) (bignum_pieces tag (front ++ content) p (rw e h) frames more r))

pub byte_string_read : {last : List ℕ} (tag : ℕ) {bytes content rest : List ℕ} → IsByteString bytes content rest → fits tag content ≡ true → (frames : List OpenItem) (more : List Call)
    → ReadsTo last (Ended frames) rest more → ReadsTo last (Bignum tag frames) bytes (number_call tag content ∷ more)
byte_string_read tag (definite {bytes = bytes} {content = content} {rest = rest} s) h frames more r = goes_on (bignum_read tag bytes content rest frames s ∙ bignum_goes tag content rest frames h) r
byte_string_read tag (in_pieces p) h frames more r = goes_on refl (bignum_pieces tag [] p h frames more r)

-- ---- strings in pieces

pub record ArePiecesRead (last : List ℕ) (pieces : List (List ℕ)) (major : ℕ) (bytes content rest : List ℕ) : Type 0 where
  pub joined : concat pieces ≡ content
  pub reads : (frames : List OpenItem) (more : List Call) → ReadsTo last (Ended frames) rest more → ReadsTo last (Pieces major frames) bytes (map (fragment_call major) pieces ++ string_end major ∷ more)

pub pieces_read : (last : List ℕ) {major : ℕ} {bytes content rest : List ℕ} (p : ArePieces major bytes content rest) → ArePiecesRead last (pieces_of p) major bytes content rest
pieces_read last break = record { joined = refl; reads = λ frames more r. goes_on refl r }
pieces_read last (piece {major = major} {bytes = bytes} {after = after} {content = content} {more = more} {rest = rest} s p) =
    let q = pieces_read last p in
    record {
      joined = ap (λ x. content ++ x) q.joined;
      reads = λ frames more r. goes_on (piece_read major bytes content after frames s) (q.reads frames more r);
    }
