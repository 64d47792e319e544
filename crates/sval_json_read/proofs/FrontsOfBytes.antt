-- The first value of bytes, of which some first ones were read.
use Rattle.std.specs.Prelude.{◌≡◌, ℕ, zero, suc, ◌+◌, ◌-◌, ◌<◌, ◌≤◌, true, false, nat_lt, List, [], ◌∷◌, ◌++◌, length, take, drop, get_or, Result, Ok, Err, IfOk, refl, IsUtf8}
use Rattle.std.specs.Str.{IsValidUpTo}
use Rattle.std.proofs.Common.{sym, ap, subst, ◌∙◌, arith, inl, inr, take-take, get_or-take, take-suc, take_all, length-take-le, append_assoc, append-nil}
use Rattle.std.proofs.Math.Seq.{take-add}
use Rattle.std.proofs.lemmas.Bool.{cases_lt, and_from}
use Rattle.std.proofs.lemmas.Bool.Decides.{nat_tests}
use Rattle.std.proofs.lemmas.Str.{IsUtf8-append}
use Rattle.sval_label.specs.Calls.{Call}
use Rattle.sval_json.specs.Grammar.{JsonValue, is_space, Denotes}
use Rattle.sval_json.specs.Fronts.{IsFront}
use Rattle.sval_json_read.specs.ReadErrors.{IsReadText}
use Rattle.sval_json.proofs.NumberTexts.{ascii_utf8}
use Rattle.sval_json_read.specs.JsonFronts.{EndsFront, HasNoFront, IsBadJsonFront}
use Rattle.sval_json_read.proofs.ReadFronts.{no_high_front, nothing_ends}

-- a front of more bytes begins with a front
shorter : (bytes : List ℕ) (n m : ℕ) → n ≤ m → IsFront (take m bytes) → IsFront (take n bytes)
shorter bytes n m l f = record {
  more = take (m - n) (drop n bytes) ++ f.more;
  value = f.value;
  denotes =
      let whole : take m bytes ≡ take n bytes ++ take (m - n) (drop n bytes) = ap (λ k. take k bytes) (let e : m ≡ n + (m - n) = omega (arith, l) in e) ∙ take-add n (m - n) bytes in
      subst (λ row. Denotes row f.value) (ap (λ row. row ++ f.more) whole ∙ append_assoc (take n bytes) (take (m - n) (drop n bytes)) f.more) f.denotes;
}

get_or_far : (xs : List ℕ) (i : ℕ) → length xs ≤ i → get_or xs i 0 ≡ 0
get_or_far [] i l = refl
get_or_far (x ∷ xs) zero l = absurd (omega (arith, l))
get_or_far (x ∷ xs) (suc i) l = get_or_far xs i (omega (arith, l))

front_of : (bytes : List ℕ) (value : JsonValue) → Denotes bytes value → IsFront bytes
front_of bytes value d = record { more = []; value = value; denotes = subst (λ x. Denotes x value) (sym (append-nil bytes)) d }

module _ (bytes : List ℕ) (n : ℕ) (w : n ≤ length bytes) where
  size : length (take n bytes) ≡ n
  size = length-take-le n bytes w

  pub ends_in_more : (used : ℕ) → used < n → EndsFront (take n bytes) used → EndsFront bytes used
  ends_in_more used l ends = record {
    within = omega (arith, l, w);
    no_space_behind = sym (ap is_space (get_or-take n bytes (used - 1) 0 (omega (arith, l)))) ∙ ends.no_space_behind;
    goes_no_further = λ k f.
        sym (ap is_space (get_or-take n bytes used 0 l))
        ∙ ends.goes_no_further (let s = size in omega (arith, s, l)) (subst IsFront (sym (take-take (used + 1) n bytes (omega (arith, l)))) f);
  }

  pub text_in_more : (used : ℕ) (calls : List Call) → used ≤ n → IsReadText (take used (take n bytes)) calls → IsReadText (take used bytes) calls
  text_in_more used calls l r = subst (λ row. IsReadText row calls) (take-take used n bytes l) r

  pub value_in_more : (used : ℕ) (value : JsonValue) → used ≤ n → Denotes (take used (take n bytes)) value → Denotes (take used bytes) value
  value_in_more used value l d = subst (λ row. Denotes row value) (take-take used n bytes l) d

  back : (used : ℕ) (value : JsonValue) → used ≤ n → HasNoFront (take n bytes) → Denotes (take used bytes) value → EndsFront bytes used → ⊥
  back used value l none d ends =
      none value used (subst (λ row. Denotes row value) (sym (take-take used n bytes l)) d) (record {
        within = (let s = size in omega (arith, s, l));
        no_space_behind = before used l ends.no_space_behind;
        goes_no_further = λ k f.
            let k' : used < n = (let s = size in omega (arith, s, k)) in
            ap is_space (get_or-take n bytes used 0 k') ∙ ends.goes_no_further (omega (arith, k', w)) (subst IsFront (take-take (used + 1) n bytes (omega (arith, k'))) f);
      })
    where
      before : (used : ℕ) → used ≤ n → is_space (get_or bytes (used - 1) 0) ≡ false → is_space (get_or (take n bytes) (used - 1) 0) ≡ false
      before used l h = elim (cases_lt (used - 1) n) [
        | inl k ↦ ap is_space (get_or-take n bytes (used - 1) 0 k) ∙ h
        | inr k ↦
            let s = size in
            ap is_space (get_or_far (take n bytes) (used - 1) (omega (arith, s, k)))
      ]

  module _ (at : ℕ) (l : at < n) (u : IsUtf8 (take n bytes)) (bad : IsBadJsonFront (take n bytes) at) where
    whole_text : IsFront (take n bytes) → ⊥
    whole_text f =
        let s = size in
        let all = take_all (length (take n bytes)) (take n bytes) (omega arith) in
        bad.fails_at.longest (length (take n bytes)) (omega (arith, s, l)) (omega arith) (subst IsUtf8 (sym all) u) (subst IsFront (sym all) f)

    none_in_more : HasNoFront bytes
    none_in_more value used d ends = elim (cases_lt n used) [
      | inl far ↦ whole_text (shorter bytes n used (omega (arith, far)) (front_of (take used bytes) value d))
      | inr near ↦ back used value near bad.has_none d ends
    ]

    pub bad_in_more : IsBadJsonFront bytes at
    bad_in_more = record {
      has_none = none_in_more;
      fails_at = record {
        within = omega (arith, l, w);
        whole = subst IsUtf8 (take-take at n bytes (omega (arith, l))) bad.fails_at.whole;
        front = subst IsFront (take-take at n bytes (omega (arith, l))) bad.fails_at.front;
        longest = λ m k v x f. elim (cases_lt n m) [
          | inl far ↦ whole_text (shorter bytes n m (omega (arith, far)) f)
          | inr near ↦
              let s = size in
              bad.fails_at.longest m k (omega (arith, s, near)) (subst IsUtf8 (sym (take-take m n bytes near)) x) (subst IsFront (sym (take-take m n bytes near)) f)
        ];
      };
    }

    pub utf8_further : IsValidUpTo bytes at → ⊥
    utf8_further v = v.longest n l u

-- ---- where they are UTF-8 no longer

low_utf8 : (byte : ℕ) → byte < 128 → IsUtf8 (byte ∷ [])
low_utf8 byte l = ascii_utf8 (byte ∷ []) (and_from (nat_lt byte 128) true (let t : nat_lt byte 128 ≡ true = grind (arith, nat_tests) in t) refl)

module _ (bytes : List ℕ) (n : ℕ) (v : IsValidUpTo bytes n) where
  short : n ≤ length bytes
  short = let l = v.short in omega arith

  pub ends_at_break : (value : JsonValue) → Denotes (take n (take n bytes)) value → EndsFront (take n bytes) n → EndsFront bytes n
  ends_at_break value d ends = record {
    within = short;
    no_space_behind = last ends.no_space_behind;
    goes_no_further = λ l f. absurd (no_high_front (take n bytes) (get_or bytes n 0) value (subst (λ row. Denotes row value) (take-take n n bytes (omega arith)) d) high (subst IsFront (one l) f));
  }
    where
      last : is_space (get_or (take n bytes) (n - 1) 0) ≡ false → is_space (get_or bytes (n - 1) 0) ≡ false
      last h = elim (cases_lt (n - 1) n) [
        | inl k ↦ sym (ap is_space (get_or-take n bytes (n - 1) 0 k)) ∙ h
        | inr k ↦ absurd (nothing_ends value (subst (λ m. Denotes (take m (take m bytes)) value) (let e : n ≡ 0 = omega (arith, k) in e) d))
      ]

      one : n < length bytes → take (n + 1) bytes ≡ take n bytes ++ (get_or bytes n 0 ∷ [])
      one l = ap (λ k. take k bytes) (let s : n + 1 ≡ suc n = omega arith in s) ∙ take-suc bytes n 0 l

      high : 128 ≤ get_or bytes n 0
      high = elim (cases_lt (get_or bytes n 0) 128) [
        | inl low ↦ absurd (v.longest (n + 1) (omega arith) (subst IsUtf8 (sym (one v.short)) (IsUtf8-append (take n bytes) (get_or bytes n 0 ∷ []) v.front (low_utf8 (get_or bytes n 0) low))))
        | inr above ↦ above
      ]

  pub none_at_break : IsBadJsonFront (take n bytes) n → IsBadJsonFront bytes n
  none_at_break bad = record {
    has_none = λ value used d ends. elim (cases_lt n used) [
      | inl far ↦ v.longest used far d.utf8
      | inr near ↦ back bytes n short used value near bad.has_none d ends
    ];
    fails_at = record {
      within = short;
      whole = v.front;
      front = subst IsFront (take-take n n bytes (omega arith)) bad.fails_at.front;
      longest = λ m l k x f. v.longest m l x;
    };
  }

-- ---- for the function that looks at more and more of them

same_text : (bytes text : List ℕ) (k : ℕ) → k ≤ length bytes → text ≡ take (length text) (take k bytes) → length text ≤ length (take k bytes) → text ≡ take (length text) bytes
same_text bytes text k w e l = let s = length-take-le k bytes w in e ∙ take-take (length text) k bytes (omega (arith, s, l))

pub bad_in_text : (bytes text : List ℕ) (at : ℕ) → length text ≤ length bytes → text ≡ take (length text) bytes → IsUtf8 text → (at ≡ length text → ⊥) → IsBadJsonFront text at
    → IsBadJsonFront bytes at × (IsValidUpTo bytes at → ⊥)
bad_in_text bytes text at w e u other bad =
    let within = bad.fails_at.within in
    let l : at < length text = elim (cases_lt at (length text)) [ inl less ↦ less | inr more ↦ absurd (other (omega (arith, within, more))) ] in (
      bad_in_more bytes (length text) w at l (subst IsUtf8 e u) (subst (λ row. IsBadJsonFront row at) e bad),
      utf8_further bytes (length text) w at l (subst IsUtf8 e u) (subst (λ row. IsBadJsonFront row at) e bad),
    )

pub bad_in_look : (bytes text : List ℕ) (k at : ℕ) → k ≤ length bytes → text ≡ take (length text) (take k bytes) → length text ≤ length (take k bytes) → IsUtf8 text → at < length text → IsBadJsonFront text at
    → IsBadJsonFront bytes at × (IsValidUpTo bytes at → ⊥)
bad_in_look bytes text k at w e l u less bad =
    let s = length-take-le k bytes w in
    bad_in_text bytes text at (omega (arith, s, l, w)) (same_text bytes text k w e l) u (λ same. absurd (omega (arith, same, less))) bad

pub bad_at_break : (bytes text : List ℕ) (at : ℕ) → text ≡ take (length text) bytes → at ≡ length text → (IsUtf8 bytes → ⊥) × IsValidUpTo bytes (length text) → IsBadJsonFront text at
    → (IsUtf8 bytes → ⊥) × IsValidUpTo bytes at × IsBadJsonFront bytes at
bad_at_break bytes text at e same longest bad =
    let here = subst (λ row. IsBadJsonFront row (length text)) e (subst (IsBadJsonFront text) same bad) in
    (longest.0, subst (IsValidUpTo bytes) (sym same) longest.1, subst (IsBadJsonFront bytes) (sym same) (none_at_break bytes (length text) longest.1 here))

ends_one : (bytes text : List ℕ) (used : ℕ) (value : JsonValue) → length text ≤ length bytes → text ≡ take (length text) bytes → (length text < length bytes → (IsUtf8 bytes → ⊥) × IsValidUpTo bytes (length text))
    → Denotes (take used text) value → EndsFront text used → EndsFront bytes used
ends_one bytes text used value w e longest d ends = elim (cases_lt used (length text)) [
  | inl less ↦ ends_in_more bytes (length text) w used less (subst (λ row. EndsFront row used) e ends)
  | inr more ↦
      let within = ends.within in
      let same : used ≡ length text = omega (arith, within, more) in
      elim (cases_lt (length text) (length bytes)) [
        | inl short ↦
            let here = subst (λ row. EndsFront row (length text)) e (subst (EndsFront text) same ends) in
            let denotes = subst (λ row. Denotes (take (length text) row) value) e (subst (λ n. Denotes (take n text) value) same d) in
            subst (EndsFront bytes) (sym same) (ends_at_break bytes (length text) (longest short).1 value denotes here)
        | inr whole ↦ subst (λ row. EndsFront row used) (e ∙ take_all (length text) bytes whole) ends
      ]
]

pub ends_in_text : {A E : Type 0} (bytes text : List ℕ) (used : A → ℕ) (value : A → JsonValue) (r : Result A E) → length text ≤ length bytes → text ≡ take (length text) bytes
    → (length text < length bytes → (IsUtf8 bytes → ⊥) × IsValidUpTo bytes (length text))
    → IfOk r (λ x. Denotes (take (used x) text) (value x)) → IfOk r (λ x. EndsFront text (used x)) → IfOk r (λ x. EndsFront bytes (used x))
ends_in_text bytes text used value (Ok x) w e longest d ends = ends_one bytes text (used x) (value x) w e longest d ends
ends_in_text bytes text used value (Err error) w e longest d ends = tt
