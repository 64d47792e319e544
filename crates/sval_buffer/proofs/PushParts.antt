-- A fragment that is pushed into the parts of the program.
use Rattle.std.specs.Prelude.{◌≡◌, ℕ, zero, suc, ◌-◌, ◌<◌, Bool, true, false, List, [], ◌∷◌, ◌++◌, length, map, Option, Result, Err, refl, slice_index_or, slice_set}
use Rattle.std.proofs.Common.{sym, ap, ◌∙◌, subst, arith}
use Rattle.std.proofs.lemmas.List.{map-append}
use Rattle.sval_buffer.specs.Pushes.{HeldBytes}
use Rattle.sval_buffer.specs.Forest.{Forest, CaptureAnswer, outside, push_into, fragment_may_grow}
use Rattle.sval_buffer.specs.Capture.{Captures, error_of}
use Rattle.sval_buffer.specs.declared.error.ErrorKind.{ErrorKind}
use Rattle.sval_buffer.specs.declared.part.Medium.{Medium}
use Rattle.sval_buffer.specs.declared.part.Part.{Part}
use Rattle.sval_buffer.specs.SeenStores.{SeenStores, Grows}
use Rattle.sval_buffer.specs.SeenParts.{seen_part, seen_parts, places_around, told, IsKept, AllKept, FragmentPushes, PartsTell}
use Rattle.sval_buffer.proofs.Steps.{Is}
use Rattle.sval_buffer.proofs.PushSteps.{EndsIn, ends_in, set-last, pushes_by, pushes_nothing}
use Rattle.sval_buffer.proofs.KeptParts.{Holds, tell, seen_length, kept_append, kept_get, parts_stay}
use Rattle.sval_buffer.proofs.KeptPlaces.{still_newest}

-- the parts are now those of another forest, as the answer says
pub record HoldsBy (s : SeenStores) (parts : List Part) (places : List ℕ) (within : Bool) (f : Forest) (grows : Bool) (answer : CaptureAnswer) (r : Result (Unit {0}) ErrorKind) : Type 0 where
  pub next : Forest
  pub holds : Holds s parts places within next
  pub answers : Captures grows answer f r next

pub told_by : {s : SeenStores} {parts : List Part} {places : List ℕ} {within : Bool} {f : Forest} {grows : Bool} {answer : CaptureAnswer} {r : Result (Unit {0}) ErrorKind}
    → HoldsBy s parts places within f grows answer r → Captures grows answer f r (told (seen_parts s parts) places within)
told_by {f = f} {grows = grows} {answer = answer} {r = r} h = subst (λ (g : Forest). Captures grows answer f r g) (sym h.holds.is.view) h.answers

pub tells_by : {s : SeenStores} {parts : List Part} {places : List ℕ} {within : Bool} {f : Forest} {grows : Bool} {answer : CaptureAnswer} {r : Result (Unit {0}) ErrorKind}
    → HoldsBy s parts places within f grows answer r → PartsTell s parts places within
tells_by h = tell h.holds

-- the same by the newest container without an end, which a fragment leaves as it is
pub by_newest : (s : SeenStores) (parts : List Part) {t : SeenStores} {now : List Part} {within : Bool} {f : Forest} {grows : Bool} {answer : CaptureAnswer} {r : Result (Unit {0}) ErrorKind} (newest : Option ℕ)
    → HoldsBy t now (places_around (seen_parts s parts) newest) within f grows answer r → HoldsBy t now (places_around (seen_parts t now) newest) within f grows answer r
by_newest s parts newest h = record { next = h.next; holds = still_newest s parts newest h.holds; answers = h.answers }

is_zero : (n : ℕ) → (0 < n → false ≡ true) → n ≡ 0
is_zero zero none = refl
is_zero (suc n) none = let e : false ≡ true = none (omega arith) in cc e

kept_front : (s : SeenStores) (front : List Part) (last : Part) → AllKept s (front ++ (last ∷ [])) → AllKept s front
kept_front s [] last k = tt
kept_front s (p ∷ front) last k = (k.0, kept_front s front last k.1)

module _ {s : SeenStores} {parts : List Part} {places : List ℕ} {within : Bool} {f : Forest} (h : Holds s parts places within f) (medium : Medium) (fragment : HeldBytes) where
  -- the parts when a fragment was pushed into them
  abbrev pub HoldsPushed : SeenStores → List Part → Result (Unit {0}) ErrorKind → Type 0
  HoldsPushed t now r = HoldsBy t now places within f (fragment_may_grow medium fragment.borrowed f) (push_into medium fragment f) r

  pushed_at_end : {t : SeenStores} (last next : Part) (r : Result (Unit {0}) ErrorKind) (ends : EndsIn parts last) → Grows s t → IsKept t next
      → FragmentPushes medium (seen_part s last) fragment r (seen_part t next) → HoldsPushed t (ends.front ++ (next ∷ [])) r
  pushed_at_end {t} last next r ends g kept p =
      let seen_ends : EndsIn (seen_parts s parts) (seen_part s last) =
      record { front = seen_parts s ends.front; parts_are = ap (map (seen_part s)) ends.parts_are ∙ map-append (seen_part s) ends.front (last ∷ []) } in
      let by = pushes_by medium fragment (seen_part s last) (seen_part t next) r h.is seen_ends p in
      let (front_kept, front_same) = parts_stay ends.front g (kept_front s ends.front last (subst (AllKept s) ends.parts_are h.kept)) in
      let same : seen_parts t (ends.front ++ (next ∷ [])) ≡ seen_parts s ends.front ++ (seen_part t next ∷ []) =
      map-append (seen_part t) ends.front (next ∷ []) ∙ ap (λ ps. ps ++ (seen_part t next ∷ [])) front_same in
      record {
        next = by.next;
        holds = record {
          is = subst (λ ps. Is ps places within by.next) (sym same) by.is;
          kept = kept_append t ends.front next front_kept kept;
        };
        answers = by.answers;
      }

  -- the last part of n answers a fragment
  pub last_pushed : {t : SeenStores} (n : ℕ) (last next : Part) (r : Result (Unit {0}) ErrorKind) → n ≡ length parts → 0 < n → last ≡ slice_index_or parts (n - 1) last
      → Grows s t → IsKept t next → FragmentPushes medium (seen_part s last) fragment r (seen_part t next)
      → HoldsPushed t (slice_set parts (n - 1) next) r
  last_pushed {t} n last next r count some is g kept p =
      let ends : EndsIn parts last = ends_in parts last (omega arith) (is ∙ ap (λ k. slice_index_or parts (k - 1) last) count) in
      let whole = ap (λ k. slice_set parts (k - 1) next) count ∙ set-last parts ends.front last next ends.parts_are in
      rw whole (pushed_at_end last next r ends g kept p)

  -- the last part is kept
  pub last_kept : (n : ℕ) (last : Part) → n ≡ length parts → 0 < n → last ≡ slice_index_or parts (n - 1) last → IsKept s last
  last_kept n last count some is = subst (IsKept s) (sym is) (kept_get s parts (n - 1) last h.kept (omega arith))

  -- there is no part that could answer it
  pub nothing_pushed : (n : ℕ) → n ≡ length parts → (0 < n → false ≡ true) → HoldsPushed s parts (Err (error_of (outside medium)))
  nothing_pushed n count none =
      let by = pushes_nothing medium fragment h.is (seen_length s parts ∙ sym count ∙ is_zero n none) in
      record { next = by.next; holds = record { is = by.is; kept = h.kept }; answers = by.answers }
