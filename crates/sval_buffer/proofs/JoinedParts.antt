-- What a text or a binary of the program holds when a fragment was put behind it.
use Rattle.std.specs.Prelude.{◌≡◌, ℕ, ◌-◌, ◌≤◌, List, [], ◌++◌, length, take, drop, slice_range, refl}
use Rattle.std.proofs.Common.{sym, ap, ◌∙◌, subst, arith, append-nil, length-append}
use Rattle.std.proofs.lemmas.Str.{IsUtf8-append, IsUtf8-nil}
use mathlib.Core.List.{append_assoc}
use Rattle.sval_buffer.specs.SeenStores.{SeenStores, with_bytes, Grows}
use Rattle.sval_buffer.specs.declared.holder.Holder.{Holder}
use Rattle.sval_buffer.specs.declared.part.Medium.{Medium}
use Rattle.sval_buffer.specs.declared.part.Medium.TheVariants as media
use Rattle.sval_buffer.specs.declared.part.Part.TheVariants as part
use Rattle.sval_buffer.specs.SeenParts.{of_medium, copied_bytes, HoldsBytes, Suits}
use Rattle.sval_buffer.proofs.Ranges.{drop-front, take-all, length-dropped}

pub suits_both : (medium : Medium) (xs ys : List ℕ) → Suits medium xs → Suits medium ys → Suits medium (xs ++ ys)
suits_both media.Text xs ys s t = IsUtf8-append xs ys s t
suits_both media.Binary xs ys s t = tt

pub suits_nothing : (medium : Medium) → Suits medium []
suits_nothing media.Text = IsUtf8-nil
suits_nothing media.Binary = tt

pub no_grow : (s : SeenStores) → Grows s s
no_grow s = record { calls = record { more = []; new_is = sym (append-nil s.calls) }; more = []; bytes = sym (append-nil s.bytes) }

pub grows_by : (s : SeenStores) (more : List ℕ) → Grows s (with_bytes s more)
grows_by s more = record { calls = record { more = []; new_is = sym (append-nil s.calls) }; more = more; bytes = refl }

pub grows_twice : {s t u : SeenStores} → Grows s t → Grows t u → Grows s u
grows_twice {s} {t} {u} g h = record {
  calls = record { more = g.calls.more ++ h.calls.more; new_is = h.calls.new_is ∙ ap (λ cs. cs ++ h.calls.more) g.calls.new_is ∙ append_assoc s.calls g.calls.more h.calls.more };
  more = g.more ++ h.more;
  bytes = h.bytes ∙ ap (λ bs. bs ++ h.more) g.bytes ∙ append_assoc s.bytes g.more h.more;
}

-- all bytes from a place on
pub range_to_end : (xs : List ℕ) (a b : ℕ) → b ≡ length xs → slice_range xs a b ≡ drop a xs
range_to_end xs a b e = ap (λ n. take (n - a) (drop a xs)) e ∙ ap (λ n. take n (drop a xs)) (sym (length-dropped xs a)) ∙ take-all (drop a xs)

pub empty_range : (xs : List ℕ) (a : ℕ) → slice_range xs a a ≡ []
empty_range xs a = let z : a - a ≡ 0 = omega arith in ap (λ n. take n (drop a xs)) z

-- nothing stands behind the end
pub drop_end : (xs : List ℕ) (a : ℕ) → a ≡ length xs → drop a xs ≡ []
drop_end xs a e = sym (range_to_end xs a a e) ∙ empty_range xs a

-- bytes that were put at the end
pub drop_seam : (xs ys : List ℕ) (a : ℕ) → a ≡ length xs → drop a (xs ++ ys) ≡ ys
drop_seam xs ys a e = drop-front xs ys a (omega (arith, e)) ∙ ap (λ zs. zs ++ ys) (drop_end xs a e)

-- a text or a binary that ends with the stores, and these bytes behind it
pub joined_last : (s : SeenStores) (medium : Medium) (holder : Holder) (start end : ℕ) (next : List ℕ) → start ≤ length s.bytes → Suits medium (drop start s.bytes) → Suits medium next
    → end ≡ length (s.bytes ++ next)
    → HoldsBytes (with_bytes s next) medium holder (copied_bytes (drop start s.bytes ++ next)) (part.Stored medium holder start end)
joined_last s medium holder start end next h suits more e =
    let n = length-append s.bytes next in
    let same : slice_range (s.bytes ++ next) start end ≡ drop start s.bytes ++ next = range_to_end (s.bytes ++ next) start end e ∙ drop-front s.bytes next start h in
    record {
      kind = ap (λ bytes. of_medium medium (copied_bytes bytes)) same;
      holds = refl;
      holder = refl;
      kept = record { order = omega arith; within = omega arith; suits = subst (Suits medium) (sym same) (suits_both medium (drop start s.bytes) next suits more) };
    }
