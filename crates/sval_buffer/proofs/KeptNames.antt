-- What is kept of names stays as the store of texts grows.
use Rattle.std.specs.Prelude.{◌≡◌, Bool, true, ℕ, zero, suc, ◌-◌, ◌≤◌, ◌<◌, List, [], ◌∷◌, ◌++◌, length, map, take, drop, Option, Some, None, option_map, refl, slice_range, slice_index, get_or, IsUtf8, IsCharBoundary}
use Rattle.std.specs.Bool.{Decides, OnTrue}
use Rattle.std.proofs.Common.{sym, ap, ◌∙◌, subst, arith, append-nil, length-append, ◌⊎◌, inl, inr}
use Rattle.std.proofs.lemmas.List.{length-map}
use Rattle.std.proofs.lemmas.Bool.{OnTrue_from}
use Rattle.std.proofs.lemmas.Str.{IsUtf8-nil, IsCharBoundary-at_seam, IsCharBoundary-end}
use Rattle.sval_label.specs.Calls as calls
use Rattle.sval_label.specs.Calls.{Call}
use Rattle.sval_label.specs.SeenTags.{seen_tag}
use Rattle.sval_label.specs.SeenIndex.{seen_index}
use Rattle.sval_buffer.specs.declared.kept.KeptText.{KeptText}
use Rattle.sval_buffer.specs.declared.kept.KeptText.TheVariants.{Static, Stored}
use Rattle.sval_buffer.specs.declared.kept.KeptLabel.{KeptLabel}
use Rattle.sval_buffer.specs.declared.kept.NamedCall.{NamedCall}
use Rattle.sval_buffer.specs.declared.named.NamedKind.{NamedKind}
use Rattle.sval_buffer.specs.SeenNames.{HasName, kept_text, stored_label, stored_name, kept_call, TextStands, LabelStands, OptionStands, NameStands, AllStand, StoreGrows, named_call, call_at, KeepsNamedCall}
use Rattle.sval_buffer.proofs.Ranges.{drop-front, take-all, length-dropped}

pub grows_none : (xs : List ℕ) → StoreGrows xs xs
grows_none xs = record { more = []; utf8 = IsUtf8-nil; new_is = sym (append-nil xs) }

pub grows_by : (xs ys more : List ℕ) → IsUtf8 more → ys ≡ xs ++ more → StoreGrows xs ys
grows_by xs ys more u e = record { more = more; utf8 = u; new_is = e }

index-front : (xs ys : List ℕ) (i : ℕ) → i < length xs → slice_index (xs ++ ys) i ≡ slice_index xs i
index-front [] ys i h = absurd (omega arith)
index-front (x ∷ xs) ys zero h = refl
index-front (x ∷ xs) ys (suc i) h = index-front xs ys i (omega arith)

order : (a b : ℕ) → (a < b) ⊎ (b ≤ a)
order zero zero = inr (omega arith)
order zero (suc b) = inl (omega arith)
order (suc a) zero = inr (omega arith)
order (suc a) (suc b) = elim (order a b) [ inl h ↦ inl (omega arith) | inr h ↦ inr (omega arith) ]

boundary_more : (xs more : List ℕ) (i : ℕ) → IsUtf8 more → IsCharBoundary xs i → IsCharBoundary (xs ++ more) i
boundary_more xs more i u (le, cut) = elim (order i (length xs)) [ inl h ↦ within h | inr h ↦ at_end h ]
  where
    within : i < length xs → IsCharBoundary (xs ++ more) i
    within h = (omega (arith, length-append xs more), λ _. rw (index-front xs more i h) (cut h))

    at_end : length xs ≤ i → IsCharBoundary (xs ++ more) i
    at_end h = let e : length xs ≡ i = omega arith in subst (IsCharBoundary (xs ++ more)) e (IsCharBoundary-at_seam (xs ++ more) xs more refl u)

take-front : (xs ys : List ℕ) (n : ℕ) → n ≤ length xs → take n (xs ++ ys) ≡ take n xs
take-front xs ys zero h = refl
take-front [] ys (suc n) h = absurd (omega arith)
take-front (x ∷ xs) ys (suc n) h = ap (λ zs. x ∷ zs) (take-front xs ys n (omega arith))

pub range_more : (xs more : List ℕ) (a b : ℕ) → a ≤ b → b ≤ length xs → slice_range (xs ++ more) a b ≡ slice_range xs a b
range_more xs more a b h k =
    let n = length-dropped xs a in
    ap (take (b - a)) (drop-front xs more a (omega arith)) ∙ take-front (drop a xs) more (b - a) (omega arith)

text_more : (xs ys : List ℕ) (text : KeptText) → StoreGrows xs ys → TextStands xs text → TextStands ys text × (kept_text ys text ≡ kept_text xs text)
text_more xs ys (Static text) g s = (tt, refl)
text_more xs ys (Stored start end) g (le, from, to) = (
  subst (λ zs. TextStands zs (Stored start end)) (sym g.new_is) (le, boundary_more xs g.more start g.utf8 from, boundary_more xs g.more end g.utf8 to),
  ap (λ zs. slice_range zs start end) g.new_is ∙ range_more xs g.more start end le to.0,
)

pub label_more : (xs ys : List ℕ) (label : KeptLabel) → StoreGrows xs ys → LabelStands xs label → LabelStands ys label × (stored_label ys label ≡ stored_label xs label)
label_more xs ys label g s =
    let (stands, same) = text_more xs ys label.text g s in (stands, rw same refl)

option_more : (xs ys : List ℕ) (label : Option KeptLabel) → StoreGrows xs ys → OptionStands xs label
    → OptionStands ys label × (option_map (stored_label ys) label ≡ option_map (stored_label xs) label)
option_more xs ys None g s = (tt, refl)
option_more xs ys (Some label) g s = let (stands, same) = label_more xs ys label g s in (stands, ap Some same)

pub stands_more : (xs ys : List ℕ) (call : NamedCall) → StoreGrows xs ys → NameStands xs call → NameStands ys call × (kept_call ys call ≡ kept_call xs call)
stands_more xs ys call g s =
    let (stands, same) = option_more xs ys call.label g s.label in
    let name : stored_name ys call ≡ stored_name xs call = rw same refl in
    (record { label = stands; name = subst (HasName call.kind) (sym name) s.name }, rw name refl)

pub all_more : (xs ys : List ℕ) (kept : List NamedCall) → StoreGrows xs ys → AllStand xs kept → AllStand ys kept × (map (kept_call ys) kept ≡ map (kept_call xs) kept)
all_more xs ys [] g s = (tt, refl)
all_more xs ys (call ∷ kept) g (first, rest) =
    let (stands, same) = stands_more xs ys call g first in
    let (later, others) = all_more xs ys kept g rest in
    ((stands, later), rw (same, others) refl)

pub all_append : (xs : List ℕ) (kept : List NamedCall) (call : NamedCall) → AllStand xs kept → NameStands xs call → AllStand xs (kept ++ (call ∷ []))
all_append xs [] call s t = (t, tt)
all_append xs (first ∷ kept) call s t = (s.0, all_append xs kept call s.1 t)

-- a text that was put at the end of the store
pub new_stands : (xs ys more : List ℕ) (start end : ℕ) → IsUtf8 more → ys ≡ xs ++ more → start ≡ length xs → end ≡ length ys → TextStands ys (Stored start end)
new_stands xs ys more start end u e at to =
    let n = length-append xs more in
    let m = ap (λ zs. length zs) e in
    (omega arith, subst (IsCharBoundary ys) (sym at) (IsCharBoundary-at_seam ys xs more e u), subst (IsCharBoundary ys) (sym to) (IsCharBoundary-end ys))

drop-all : (xs ys : List ℕ) → drop (length xs) (xs ++ ys) ≡ ys
drop-all [] ys = refl
drop-all (x ∷ xs) ys = drop-all xs ys

pub new_text : (xs ys more : List ℕ) (start end : ℕ) → ys ≡ xs ++ more → start ≡ length xs → end ≡ length ys → kept_text ys (Stored start end) ≡ more
new_text xs ys more start end e at to =
    let n = length-append xs more in
    let m = ap (λ zs. length zs) e in
    let count : end - start ≡ length more = omega arith in
    ap (take (end - start)) (ap (drop start) e ∙ ap (λ k. drop k (xs ++ more)) at ∙ drop-all xs more) ∙ ap (λ k. take k more) count ∙ take-all more

-- ---- a call at a place

pub stands_at : (texts : List ℕ) (kept : List NamedCall) (at : ℕ) (call : NamedCall) → AllStand texts kept → at < length kept → call ≡ get_or kept at call → NameStands texts call
stands_at texts [] at call s h e = absurd (omega arith)
stands_at texts (first ∷ kept) zero call s h e = subst (NameStands texts) (sym e) s.0
stands_at texts (first ∷ kept) (suc at) call s h e = stands_at texts kept at call s.1 (omega arith) e

-- the call at a place, with the store of texts as it is shown
pub stands_shown : {texts shown : List ℕ} {seen : List Call} {call : NamedCall} (kept : List NamedCall) (at : ℕ)
    → AllStand texts kept → map (kept_call texts) kept ≡ seen → at < length seen → call ≡ get_or kept at call → shown ≡ texts → NameStands shown call
stands_shown {texts} {call = call} kept at stand view h e same =
    let within : at < length kept = subst (λ n. at < n) (sym (ap length view) ∙ length-map kept (kept_call texts)) h in
    subst (λ ts. NameStands ts call) (sym same) (stands_at texts kept at call stand within e)

-- the name that is shown says what the call says
pub has_shown_name : {shown : List ℕ} {call : NamedCall} {label : Option calls.Label} {name : calls.Name} → NameStands shown call → label ≡ option_map (stored_label shown) call.label
    → name ≡ record { tag = option_map seen_tag call.tag; label = label; index = option_map seen_index call.index } → HasName call.kind name
has_shown_name stands same e = rw (e, same) stands.name

pub call_stands : (texts : List ℕ) (kept : List NamedCall) (at : ℕ) (call : NamedCall) → at < length kept → call ≡ get_or kept at call → call_at (map (kept_call texts) kept) at ≡ kept_call texts call
call_stands texts [] at call h e = absurd (omega arith)
call_stands texts (first ∷ kept) zero call h e = ap (kept_call texts) (sym e)
call_stands texts (first ∷ kept) (suc at) call h e = call_stands texts kept at call (omega arith) e

-- the call that stands at a place is the one that is kept there
pub keeps_standing : {texts shown : List ℕ} {seen : List Call} {call : NamedCall} {kind : NamedKind} {name : calls.Name} {same : Bool} (kept : List NamedCall) (at : ℕ)
    → map (kept_call texts) kept ≡ seen → at < length kept → call ≡ get_or kept at call → shown ≡ texts
    → Decides same ((call.kind ≡ kind) × (stored_name shown call ≡ name)) → OnTrue same (KeepsNamedCall seen at (named_call kind name))
keeps_standing {texts} {shown} {seen} {call} {kind} {name} {same} kept at view within e show decides = OnTrue_from same _ keeps
  where
    keeps : same ≡ true → KeepsNamedCall seen at (named_call kind name)
    keeps found =
        let (of_kind, of_name) = decides.0 found in
        let n = length-map kept (kept_call texts) in
        rw (← view, ← of_kind, ← of_name, show) record { within = omega arith; is = call_stands texts kept at call within e }
