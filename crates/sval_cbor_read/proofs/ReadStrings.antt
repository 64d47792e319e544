-- Definite strings that are read by their heads.
use Rattle.std.specs.Prelude.{◌≡◌, ℕ, ◌+◌, ◌<◌, ◌≤◌, List, length, take, drop, Option, Some, None, IfSome, IsTrue}
use Rattle.std.proofs.Common.{sym, ap, ◌∙◌, subst, arith}
use Rattle.std.proofs.lemmas.List.{length-drop, drop-drop}
use Rattle.sval_cbor_read.specs.declared.head.Head.{Head}
use Rattle.sval_cbor_read.specs.Items.{head_at_front, is_piece, IsDefiniteString, string}
use Rattle.sval_cbor_read.specs.Items as items
use Rattle.sval_cbor_read.specs.SeenHeads.{IsHead}
use Rattle.sval_cbor_read.specs.SeenStrings.{IsBehind, IsStringAt, HasNoString}

-- what holds of each value holds of the one that is there
pub some_map : {A : Type 0} {P Q : A → Type 0} (o : Option A) → ((x : A) → P x → Q x) → IfSome o P → IfSome o Q
some_map None f h = tt
some_map (Some x) f h = f x h

pub string_stands : (major : ℕ) (bytes : List ℕ) (at : ℕ) (h : Head) (content : List ℕ) (next : ℕ) → (at < h.next) × IsHead bytes at h (head_at_front (drop at bytes)) → h.major ≡ major
    → IsBehind bytes h content next → IsTrue (is_piece major content) → IsStringAt major bytes at content next
string_stands major bytes at h content next (later, (is, before, within)) m b k =
    let after = drop h.next bytes in
    let fits : h.number ≤ length after = let n = b.next_is in let w = b.within in omega (arith, length-drop h.next bytes) in
    let e : head_at_front (drop at bytes) ≡ Some (items.head major h.number after) = subst (λ x. head_at_front (drop at bytes) ≡ Some (items.head x h.number after)) m is in
    let s : IsDefiniteString major (drop at bytes) (take h.number after) (drop h.number after) = string e fits (subst (λ x. IsTrue (is_piece major x)) b.content_is k) in
    let rest : drop h.number after ≡ drop next bytes = drop-drop h.number h.next bytes ∙ ap (λ n. drop n bytes) (sym b.next_is) in
    record {
      stands = subst (λ x. IsDefiniteString major (drop at bytes) x (drop next bytes)) (sym b.content_is) (subst (IsDefiniteString major (drop at bytes) (take h.number after)) rest s);
      later = let n = b.next_is in omega arith;
      within = b.within;
    }

-- a head with other bytes behind it is none of these
pub same_head : {m n : ℕ} {after : List ℕ} {major number : ℕ} {other : List ℕ} {o : Option items.ItemHead} → o ≡ Some (items.head m n after) → o ≡ Some (items.head major number other)
    → (m ≡ major) × (n ≡ number) × (after ≡ other)
same_head e f = (cc, cc, cc)

-- a definite string has its head, its bytes, and UTF-8 where it is a text
pub string_needs : (major : ℕ) (bytes : List ℕ) (at : ℕ) (h : Head) (content rest : List ℕ) → (at < h.next) × IsHead bytes at h (head_at_front (drop at bytes)) → IsDefiniteString major (drop at bytes) content rest
    → (h.major ≡ major) × (h.next + h.number ≤ length bytes) × IsTrue (is_piece major (take h.number (drop h.next bytes)))
string_needs major bytes at h content rest (later, (is, before, within)) (string {number = n} {after = after} e l k) =
    let (m, number, same) = same_head is e in
    let fits : h.number ≤ length (drop h.next bytes) = rw (number, same) l in
    let utf8 : IsTrue (is_piece major (take h.number (drop h.next bytes))) = rw (number, same) k in
    (m, omega (arith, length-drop h.next bytes), utf8)

pub no_head_no_string : (major : ℕ) (bytes : List ℕ) → head_at_front bytes ≡ None → HasNoString major bytes
no_head_no_string major bytes e content rest (string f l k) = cc (sym e ∙ f)
