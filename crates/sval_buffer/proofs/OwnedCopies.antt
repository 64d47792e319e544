-- Parts that are copied one after another, with their texts and binaries owned.
use Rattle.std.specs.Prelude.{◌≡◌, ℕ, zero, suc, ◌+◌, ◌<◌, ◌≤◌, List, [], ◌∷◌, ◌++◌, length, map, take, get_or, refl}
use Rattle.std.proofs.Common.{sym, ap, ◌∙◌, subst, arith}
use Rattle.std.proofs.lemmas.List.{map-append}
use Rattle.sval_buffer.specs.SeenStores.{SeenStores, Grows}
use Rattle.sval_buffer.specs.declared.part.Part.{Part}
use Rattle.sval_buffer.specs.SeenParts.{seen_part, seen_parts, owned_part, IsKept, AllKept}
use Rattle.sval_buffer.proofs.KeptParts.{kept_append, kept_at, part_stays, parts_stay}
use Rattle.sval_buffer.proofs.JoinedParts.{no_grow, grows_twice}

-- the first parts, as many as that, are copied so, while the stores grew
pub record OwnsFirst (s t : SeenStores) (parts : List Part) (count : ℕ) (copies : List Part) : Type 0 where
  pub same : seen_parts t copies ≡ map owned_part (seen_parts s (take count parts))
  pub kept : AllKept t copies
  pub grows : Grows s t

pub owns_none : (s : SeenStores) (parts : List Part) → OwnsFirst s s parts 0 []
owns_none s parts = record { same = refl; kept = tt; grows = no_grow s }

take-suc : (parts : List Part) (i : ℕ) (p : Part) → i < length parts → p ≡ get_or parts i p → take (suc i) parts ≡ take i parts ++ (p ∷ [])
take-suc [] i p h e = absurd (omega arith)
take-suc (q ∷ parts) zero p h e = ap (λ x. x ∷ []) (sym e)
take-suc (q ∷ parts) (suc i) p h e = ap (λ xs. q ∷ xs) (take-suc parts i p (omega arith) e)

take-step : (parts : List Part) (i : ℕ) (p : Part) → i < length parts → p ≡ get_or parts i p → take (i + 1) parts ≡ take i parts ++ (p ∷ [])
take-step parts i p h e = let n : i + 1 ≡ suc i = omega arith in ap (λ m. take m parts) n ∙ take-suc parts i p h e

take-whole : (parts : List Part) (n : ℕ) → length parts ≤ n → take n parts ≡ parts
take-whole [] zero h = refl
take-whole [] (suc n) h = refl
take-whole (p ∷ parts) zero h = absurd (omega arith)
take-whole (p ∷ parts) (suc n) h = ap (λ xs. p ∷ xs) (take-whole parts n (omega arith))

module _ {s t : SeenStores} {parts copies : List Part} {i : ℕ} {p : Part} (owns : OwnsFirst s t parts i copies) (all : AllKept s parts) (h : i < length parts) (is : p ≡ get_or parts i p) where
  -- the next part is there still
  pub next_kept : IsKept t p
  next_kept = (part_stays p owns.grows (kept_at s parts i p all h is)).0

  pub owns_next : {u : SeenStores} {now : List Part} (copy : Part) → Grows t u → seen_part u copy ≡ owned_part (seen_part t p) → IsKept u copy → now ≡ copies ++ (copy ∷ [])
      → OwnsFirst s u parts (i + 1) now
  owns_next {u} {now} copy g same kept e =
      let stays = part_stays p owns.grows (kept_at s parts i p all h is) in
      let others = parts_stay copies g owns.kept in
      let front : seen_parts u copies ≡ map owned_part (seen_parts s (take i parts)) = others.1 ∙ owns.same in
      let last : seen_part u copy ≡ owned_part (seen_part s p) = same ∙ ap owned_part stays.1 in
      let whole : seen_parts u (copies ++ (copy ∷ [])) ≡ map owned_part (seen_parts s (take i parts)) ++ (owned_part (seen_part s p) ∷ []) =
      map-append (seen_part u) copies (copy ∷ []) ∙ ap (λ xs. xs ++ (seen_part u copy ∷ [])) front ∙ ap (λ x. map owned_part (seen_parts s (take i parts)) ++ (x ∷ [])) last in
      let due : map owned_part (seen_parts s (take (i + 1) parts)) ≡ map owned_part (seen_parts s (take i parts)) ++ (owned_part (seen_part s p) ∷ []) =
      ap (λ ps. map owned_part (seen_parts s ps)) (take-step parts i p h is) ∙ ap (map owned_part) (map-append (seen_part s) (take i parts) (p ∷ [])) ∙ map-append owned_part (seen_parts s (take i parts)) (seen_part s p ∷ []) in
      record {
        same = ap (seen_parts u) e ∙ whole ∙ sym due;
        kept = subst (AllKept u) (sym e) (kept_append u copies copy others.0 kept);
        grows = grows_twice owns.grows g;
      }

pub owns_all : {s t : SeenStores} {parts copies : List Part} {n : ℕ} → OwnsFirst s t parts n copies → length parts ≤ n → seen_parts t copies ≡ map owned_part (seen_parts s parts)
owns_all {s} {parts = parts} {n = n} owns h = owns.same ∙ ap (λ ps. map owned_part (seen_parts s ps)) (take-whole parts n h)
