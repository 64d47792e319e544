-- What is alike whether lengths are indefinite or definite, and what each takes of the counts.
use Rattle.std.specs.Prelude.{◌≡◌, ℕ, suc, Bool, true, false, if◌then◌else◌, List, [], ◌∷◌, ◌++◌, length, bytes_eq, codes, decimal, Option, Some, None, Result, Ok, Err, refl}
use Rattle.std.proofs.Common.{ap}
use Rattle.sval_label.specs.Calls.{Name, Label}
use Rattle.sval_json.specs.Json.{null, number}
use Rattle.sval_json.specs.Number as json
use Rattle.sval_json.specs.Shape.{handle_of, is_none_tag, label_or_index, own, byte_items}
use Rattle.sval_cbor.specs.declared.style.Lengths.{Lengths}
use Rattle.sval_cbor.specs.declared.style.Lengths.TheVariants.{Indefinite, Definite}
use Rattle.sval_cbor.specs.Packs.{NotInteger, map_packed, is_whole_number, number_pack}
use Rattle.sval_cbor.specs.Cbor.{held_count, row_head, item_count, cbor_as, cbor_items_as, cbor, cbor_items}
use Rattle.sval_cbor.specs.Writing.{first_count, later_counts}

-- ---- shapes without arrays and maps

own_by : (lengths : Lengths) (b : Bool) (label : Option Label) (digits : Option (List ℕ))
    → cbor (if b then null else label_or_index label digits) ≡ cbor_as lengths (if b then null else label_or_index label digits)
own_by lengths true label digits = refl
own_by lengths false (Some label) digits = refl
own_by lengths false None (Some digits) = refl
own_by lengths false None None = refl

pub own_alike : (lengths : Lengths) (name : Name) → cbor (own name) ≡ cbor_as lengths (own name)
own_alike lengths name = own_by lengths (is_none_tag name.tag) name.label (handle_of None name.index)

number_by : (lengths : Lengths) (a b : Bool) (digits : List ℕ)
    → map_packed cbor (if a then Ok null else if b then Ok (number digits) else Err NotInteger) ≡ map_packed (cbor_as lengths) (if a then Ok null else if b then Ok (number digits) else Err NotInteger)
number_by lengths true b digits = refl
number_by lengths false true digits = refl
number_by lengths false false digits = refl

pub number_alike : (lengths : Lengths) (r : Result (List ℕ) json.Refusal) → map_packed cbor (number_pack r) ≡ map_packed (cbor_as lengths) (number_pack r)
number_alike lengths (Ok digits) = number_by lengths (bytes_eq digits (codes "null")) (is_whole_number digits) digits
number_alike lengths (Err why) = refl

pub bytes_alike : (lengths : Lengths) (bytes : List ℕ) → cbor_items (byte_items bytes) ≡ cbor_items_as lengths (byte_items bytes)
bytes_alike lengths [] = refl
bytes_alike lengths (byte ∷ bytes) = ap (λ more. cbor (number (decimal byte)) ++ more) (bytes_alike lengths bytes)

pub bytes_counted : (bytes : List ℕ) → item_count (byte_items bytes) ≡ length bytes
bytes_counted [] = refl
bytes_counted (byte ∷ bytes) = ap suc (bytes_counted bytes)

-- ---- counts

-- the count of one container
abbrev pub own_count : Lengths → ℕ → List ℕ
own_count Indefinite n = []
own_count Definite n = held_count n ∷ []

pub head_counted : (lengths : Lengths) (major n : ℕ) (inner more : List ℕ) → row_head lengths major (first_count (own_count lengths n ++ inner ++ more)) ≡ row_head lengths major (held_count n)
head_counted Indefinite major n inner more = refl
head_counted Definite major n inner more = refl

pub counts_left : (lengths : Lengths) (n : ℕ) (inner more : List ℕ) → later_counts lengths (own_count lengths n ++ inner ++ more) ≡ inner ++ more
counts_left Indefinite n inner more = refl
counts_left Definite n inner more = refl
