-- Tables of texts, of which a text's place finds its row.
use Rattle.std.specs.Prelude.{◌≡◌, ℕ, ◌<◌, Bool, true, false, List, [], ◌∷◌, length, get_or, map, bytes_eq, refl}
use Rattle.std.specs.List.{list_any}
use Rattle.std.specs.Borrow.{Bor}
use Rattle.std.proofs.Common.{ap, sym, ◌∙◌}
use Rattle.std.proofs.lemmas.List.{get_or-map, length-map}
use Rattle.std.proofs.lemmas.Slice.Eq.{bytes_eq-Decides}

-- what two functions answer alike of all rows they answer alike of each
pub same_at : {A B : Type 0} (f g : A → B) (xs : List A) (k : ℕ) (x : A) → map f xs ≡ map g xs → k < length xs → f (get_or xs k x) ≡ g (get_or xs k x)
same_at f g xs k x e h = sym (get_or-map f xs k x (f x) h) ∙ ap (λ ys. get_or ys k (f x)) e ∙ get_or-map g xs k x (f x) h

-- a table, as the code reads it
abbrev pub read_rows : {A : Type 0} → List (Bor (List ℕ) × A) → List (List ℕ × A)
read_rows = map (λ row. (row.0.now, row.1))

pub length_of : {A : Type 0} (rows : List (Bor (List ℕ) × A)) (table : List (List ℕ × A)) → read_rows rows ≡ table → length rows ≡ length table
length_of rows table e = sym (length-map rows _) ∙ ap length e

pub row_at : {A : Type 0} (rows : List (Bor (List ℕ) × A)) (table : List (List ℕ × A)) (k : ℕ) (row : Bor (List ℕ) × A) (none : List ℕ × A) → read_rows rows ≡ table → k < length table
    → let found : List ℕ × A = get_or table k none in ((get_or rows k row).0.now ≡ found.0) × ((get_or rows k row).1 ≡ found.1)
row_at {A = A} rows table k row none e h =
    let within : k < length rows = rw (length_of rows table e) h in
    let same = sym (get_or-map (λ (r : Bor (List ℕ) × A). let pair : List ℕ × A = (r.0.now, r.1) in pair) rows k row none within) ∙ ap (λ rs. get_or rs k none) e in
    (ap (λ (r : List ℕ × A). r.0) same, ap (λ (r : List ℕ × A). r.1) same)

-- a text that isn't the one found for it is none of the texts that are found
pub absent : (found : List ℕ → List ℕ) (texts : List (List ℕ)) (text : List ℕ) → map found texts ≡ texts → bytes_eq (found text) text ≡ false → list_any (bytes_eq text) texts ≡ false
absent found [] text e other = refl
absent found (first ∷ texts) text e other = by_test (bytes_eq text first) refl (absent found texts text tail other)
  where
    head : found first ≡ first
    head = cc e

    tail : map found texts ≡ texts
    tail = cc e

    by_test : (b : Bool) → bytes_eq text first ≡ b → list_any (bytes_eq text) texts ≡ false → list_any (bytes_eq text) (first ∷ texts) ≡ false
    by_test true is later =
        let same : text ≡ first = (bytes_eq-Decides text first).0 is in
        let here : found text ≡ text = ap found same ∙ head ∙ sym same in
        let yes : bytes_eq (found text) text ≡ true = (bytes_eq-Decides (found text) text).1 here in
        cc (sym yes, other)
    by_test false is later = rw is later
