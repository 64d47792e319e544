-- Operands: what is read is what was written, and what was written is read again, whatever follows it.
use Rattle.std.proofs.Common.{◌≡◌, ℕ, zero, suc, ◌+◌, ◌-◌, ◌*◌, ◌/◌, ◌%◌, ◌^◌, ◌<◌, ◌≤◌, ◌≢◌, Bool, true, false, cond, ltb, eqb, List, [], ◌∷◌, ◌++◌, length, get_or, take, drop, Option, Some, None, refl, sym, ap, subst, ◌∙◌, append_assoc, arith, inl, inr}
use Rattle.std.specs.Prelude.{IfSome, option_map, option_and_then, ◌⊎◌, ⊤}
use Rattle.std.proofs.lemmas.Bool.{cases_lt, ltb-false, le-ltb, ltb-true, lt-ltb, ne_eqb, eqb-false}
use Rattle.std.proofs.lemmas.Option.{same_Some, cond_some}
use Rattle.std.proofs.lemmas.List.{take_at, drop_at, take-append-drop, length-append, length-take, get_or-drop}
use Rattle.sval_tape.specs.Tapes.{leb128_in, leb128, optional, tape_truth_bytes, block}
use Rattle.sval_tape.specs.Reading.{ReadsAtFront, nothing_at, seen_at, kept_at, both_at, optional_at, truth_at, above, leb128_at_in, leb128_at, cut_block, block_at}
use Rattle.sval_tape.specs.Taped.{IsBlock}

-- each is a byte
abbrev pub IsBytes : List ℕ → Type 0
IsBytes bytes = (i : ℕ) → get_or bytes i 0 < 256

pub bytes_rest : (byte : ℕ) (bytes : List ℕ) → IsBytes (byte ∷ bytes) → IsBytes bytes
bytes_rest byte bytes h i = h (suc i)

bytes_drop : (n : ℕ) (bytes : List ℕ) → IsBytes bytes → IsBytes (drop n bytes)
bytes_drop n bytes h i = rw get_or-drop (h (n + i))

-- the first bytes are these, and the rest are bytes too
pub record Takes (bytes text rest : List ℕ) : Type 0 where
  pub parts : bytes ≡ text ++ rest
  pub rest_fits : IsBytes rest

takes_both : (a x b y c : List ℕ) → Takes a x b → Takes b y c → Takes a (x ++ y) c
takes_both a x b y c p q = record { parts = p.parts ∙ ap (λ (t : List ℕ). x ++ t) q.parts ∙ sym (append_assoc x y c); rest_fits = q.rest_fits }

-- what is written is read again, whatever follows it; what is read was written, and fits
pub record IsOperand {A : Type 0} (Fits : A → Type 0) (put : A → List ℕ) (get : ReadsAtFront A) : Type 0 where
  pub again : (x : A) (rest : List ℕ) → Fits x → get (put x ++ rest) ≡ Some (x, rest)
  pub takes : (bytes : List ℕ) (x : A) (rest : List ℕ) → IsBytes bytes → get bytes ≡ Some (x, rest) → Takes bytes (put x) rest × Fits x

pub some_then : {A B : Type 0} (f : A → Option B) (o : Option A) (y : B) → option_and_then f o ≡ Some y → (x : A) × (o ≡ Some x) × (f x ≡ Some y)
some_then f None y e = absurd cc
some_then f (Some x) y e = (x, refl, e)

pub some_seen : {A B : Type 0} (f : A → B) (o : Option A) (y : B) → option_map f o ≡ Some y → (x : A) × (o ≡ Some x) × (f x ≡ y)
some_seen f None y e = absurd cc
some_seen f (Some x) y e = (x, refl, same_Some (f x) y e)

-- ---- how operands are built

pub nothing_operand : IsOperand (λ (x : Unit {0}). ⊤) (λ x. []) nothing_at
nothing_operand = record {
  again = λ x rest fits. refl;
  takes = λ bytes x rest fits e. (record { parts = ap (λ (p : Unit {0} × List ℕ). p.1) (same_Some (tt, bytes) (x, rest) e); rest_fits = subst (λ (p : Unit {0} × List ℕ). IsBytes p.1) (same_Some (tt, bytes) (x, rest) e) fits }, tt);
}

module _ {A : Type 0} {Fits : A → Type 0} {put : A → List ℕ} {get : ReadsAtFront A} (operand : IsOperand Fits put get) where
  -- the same with other words for what fits
  pub same_operand : (Now : A → Type 0) → ((x : A) → Now x → Fits x) → ((x : A) → Fits x → Now x) → IsOperand Now put get
  same_operand Now back forth = record {
    again = λ x rest fits. operand.again x rest (back x fits);
    takes = λ bytes x rest fits e. let t = operand.takes bytes x rest fits e in (t.0, forth x t.1);
  }

  pub seen_operand : {B : Type 0} (Now : B → Type 0) (now : B → List ℕ) (view : A → B)
      → ((y : B) → Now y → (x : A) × Fits x × (view x ≡ y) × (now y ≡ put x)) → ((x : A) → Fits x → Now (view x) × (now (view x) ≡ put x))
      → IsOperand Now now (seen_at view get)
  seen_operand {B} Now now view back forth = record {
    again = λ y rest fits.
        let (x, fit, is, written) = back y fits in
        ap (λ (w : List ℕ). seen_at view get (w ++ rest)) written ∙ ap (option_map (λ (r : A × List ℕ). (view r.0, r.1))) (operand.again x rest fit) ∙ ap (λ (w : B). Some (w, rest)) is;
    takes = λ bytes y rest fits e.
        let (x, got, is) = some_seen (λ (r : A × List ℕ). (view r.0, r.1)) (get bytes) (y, rest) e in
        let t = operand.takes bytes x.0 x.1 fits got in
        let f = forth x.0 t.1 in
        let made : Takes bytes (now (view x.0)) x.1 × Now (view x.0) = (record { parts = t.0.parts ∙ ap (λ (w : List ℕ). w ++ x.1) (sym f.1); rest_fits = t.0.rest_fits }, f.0) in
        subst (λ (r : B × List ℕ). Takes bytes (now r.0) r.1 × Now r.0) is made;
  }

  pub kept_operand : (test : A → Bool) → IsOperand (λ x. Fits x × (test x ≡ true)) put (kept_at test get)
  kept_operand test = record {
    again = λ x rest fits.
        ap (option_and_then (λ (r : A × List ℕ). cond (test r.0) (Some r) None)) (operand.again x rest fits.0)
        ∙ ap (λ b. cond b (Some (x, rest)) None) fits.1;
    takes = λ bytes y rest fits e.
        let (x, got, kept) = some_then (λ (r : A × List ℕ). cond (test r.0) (Some r) None) (get bytes) (y, rest) e in
        let (passed, is) = cond_some (test x.0) x (y, rest) kept in
        let t = operand.takes bytes x.0 x.1 fits got in
        let made : Takes bytes (put x.0) x.1 × (Fits x.0 × (test x.0 ≡ true)) = (t.0, (t.1, passed)) in
        subst (λ (r : A × List ℕ). Takes bytes (put r.0) r.1 × (Fits r.0 × (test r.0 ≡ true))) is made;
  }

  optional_again : (o : Option A) (rest : List ℕ) → IfSome o Fits → optional_at get (optional put o ++ rest) ≡ Some (o, rest)
  optional_again None rest fits = refl
  optional_again (Some x) rest fits = ap (option_map (λ (r : A × List ℕ). (Some r.0, r.1))) (operand.again x rest fits)

  optional_takes : (bytes : List ℕ) (o : Option A) (rest : List ℕ) → IsBytes bytes → optional_at get bytes ≡ Some (o, rest) → Takes bytes (optional put o) rest × IfSome o Fits
  optional_takes [] o rest fits e = absurd cc
  optional_takes (zero ∷ bytes) o rest fits e =
      let made : Takes (0 ∷ bytes) (0 ∷ []) bytes × ⊤ = (record { parts = refl; rest_fits = bytes_rest 0 bytes fits }, tt) in
      subst (λ (r : Option A × List ℕ). Takes (0 ∷ bytes) (optional put r.0) r.1 × IfSome r.0 Fits) (same_Some (None, bytes) (o, rest) e) made
  optional_takes (suc zero ∷ bytes) o rest fits e =
      let (x, got, is) = some_seen (λ (r : A × List ℕ). (Some r.0, r.1)) (get bytes) (o, rest) e in
      let t = operand.takes bytes x.0 x.1 (bytes_rest 1 bytes fits) got in
      let made : Takes (1 ∷ bytes) (optional put (Some x.0)) x.1 × IfSome (Some x.0) Fits = (record { parts = ap (λ (w : List ℕ). 1 ∷ w) t.0.parts; rest_fits = t.0.rest_fits }, t.1) in
      subst (λ (r : Option A × List ℕ). Takes (1 ∷ bytes) (optional put r.0) r.1 × IfSome r.0 Fits) is made
  optional_takes (suc (suc byte) ∷ bytes) o rest fits e = absurd cc

  pub optional_operand : IsOperand (λ o. IfSome o Fits) (optional put) (optional_at get)
  optional_operand = record { again = optional_again; takes = optional_takes }

module _ {A B : Type 0} {Fits : A → Type 0} {put : A → List ℕ} {get : ReadsAtFront A} {More : B → Type 0} {add : B → List ℕ} {go : ReadsAtFront B} (first : IsOperand Fits put get) (second : IsOperand More add go) where
  pub both_operand : IsOperand (λ (p : A × B). Fits p.0 × More p.1) (λ p. put p.0 ++ add p.1) (both_at get go)
  both_operand = record {
    again = λ p rest fits.
        ap (both_at get go) (append_assoc (put p.0) (add p.1) rest)
        ∙ ap (option_and_then (λ (x : A × List ℕ). option_map (λ (y : B × List ℕ). ((x.0, y.0), y.1)) (go x.1))) (first.again p.0 (add p.1 ++ rest) fits.0)
        ∙ ap (option_map (λ (y : B × List ℕ). ((p.0, y.0), y.1))) (second.again p.1 rest fits.1);
    takes = λ bytes p rest fits e.
        let (x, got, more) = some_then (λ (x : A × List ℕ). option_map (λ (y : B × List ℕ). ((x.0, y.0), y.1)) (go x.1)) (get bytes) (p, rest) e in
        let (y, went, is) = some_seen (λ (y : B × List ℕ). ((x.0, y.0), y.1)) (go x.1) (p, rest) more in
        let t = first.takes bytes x.0 x.1 fits got in
        let u = second.takes x.1 y.0 y.1 t.0.rest_fits went in
        let made : Takes bytes (put x.0 ++ add y.0) y.1 × (Fits x.0 × More y.0) = (takes_both bytes (put x.0) x.1 (add y.0) y.1 t.0 u.0, (t.1, u.1)) in
        subst (λ (r : (A × B) × List ℕ). Takes bytes (put r.0.0 ++ add r.0.1) r.1 × (Fits r.0.0 × More r.0.1)) is made;
  }

-- ---- truth values

truth_again : (b : Bool) (rest : List ℕ) → ⊤ → truth_at (tape_truth_bytes b ++ rest) ≡ Some (b, rest)
truth_again false rest fits = refl
truth_again true rest fits = refl

truth_takes : (bytes : List ℕ) (b : Bool) (rest : List ℕ) → IsBytes bytes → truth_at bytes ≡ Some (b, rest) → Takes bytes (tape_truth_bytes b) rest × ⊤
truth_takes [] b rest fits e = absurd cc
truth_takes (zero ∷ bytes) b rest fits e =
    let made : Takes (0 ∷ bytes) (tape_truth_bytes false) bytes = record { parts = refl; rest_fits = bytes_rest 0 bytes fits } in
    (subst (λ (r : Bool × List ℕ). Takes (0 ∷ bytes) (tape_truth_bytes r.0) r.1) (same_Some (false, bytes) (b, rest) e) made, tt)
truth_takes (suc zero ∷ bytes) b rest fits e =
    let made : Takes (1 ∷ bytes) (tape_truth_bytes true) bytes = record { parts = refl; rest_fits = bytes_rest 1 bytes fits } in
    (subst (λ (r : Bool × List ℕ). Takes (1 ∷ bytes) (tape_truth_bytes r.0) r.1) (same_Some (true, bytes) (b, rest) e) made, tt)
truth_takes (suc (suc byte) ∷ bytes) b rest fits e = absurd cc

pub truth_operand : IsOperand (λ (b : Bool). ⊤) tape_truth_bytes truth_at
truth_operand = record { again = truth_again; takes = truth_takes }

-- ---- numbers

-- what a number in so many bytes and one more is below
abbrev limit : ℕ → ℕ
limit zero = 128
limit (suc room) = 128 * limit room

above_is : (low q n : ℕ) (rest : List ℕ) → q ≢ 0 → q < 2 ^ 121 → low + 128 * q ≡ n → above low (q, rest) ≡ Some (n, rest)
above_is low q n rest positive small is =
    let f : eqb q 0 ≡ false = ne_eqb q 0 positive in
    let t : ltb q (2 ^ 121) ≡ true = lt-ltb q (2 ^ 121) small in
    rw (f, t) (ap (λ m. Some (m, rest)) is)

above_was : (low n : ℕ) (high : ℕ × List ℕ) (rest : List ℕ) → above low high ≡ Some (n, rest) → (high.0 ≢ 0) × (high.0 < 2 ^ 121) × (low + 128 * high.0 ≡ n) × (high.1 ≡ rest)
above_was low n high rest e = by_tests (eqb high.0 0) refl (ltb high.0 (2 ^ 121)) refl
  where
    by_tests : (a : Bool) → eqb high.0 0 ≡ a → (b : Bool) → ltb high.0 (2 ^ 121) ≡ b → (high.0 ≢ 0) × (high.0 < 2 ^ 121) × (low + 128 * high.0 ≡ n) × (high.1 ≡ rest)
    by_tests true p b q = absurd (let f = rw p at e in cc f)
    by_tests false p false q = absurd (let f = rw (p, q) at e in cc f)
    by_tests false p true q =
        let f = rw (p, q) at e in
        let s = same_Some (low + 128 * high.0, high.1) (n, rest) f in
        (eqb-false high.0 0 p, ltb-true high.0 (2 ^ 121) q, ap (λ (r : ℕ × List ℕ). r.0) s, ap (λ (r : ℕ × List ℕ). r.1) s)

-- a number of one byte
one_again : (room n : ℕ) (rest : List ℕ) → n < 128 → leb128_at_in (suc room) (leb128_in (suc room) n ++ rest) ≡ Some (n, rest)
one_again room n rest lt = let t : ltb n 128 ≡ true = lt-ltb n 128 lt in rw (t, t) refl

-- a number of more bytes, by those above the first
more_again : (room n : ℕ) (rest : List ℕ) → 128 ≤ n → n < 2 ^ 128 → leb128_at_in room (leb128_in room (n / 128) ++ rest) ≡ Some (n / 128, rest)
    → leb128_at_in (suc room) (leb128_in (suc room) n ++ rest) ≡ Some (n, rest)
more_again room n rest le small above_again =
    let f : ltb n 128 ≡ false = le-ltb n 128 le in
    let g : ltb (n % 128 + 128) 128 ≡ false = le-ltb (n % 128 + 128) 128 (omega arith) in
    let spelled : leb128_in (suc room) n ++ rest ≡ (n % 128 + 128) ∷ (leb128_in room (n / 128) ++ rest) = ap (λ b. cond b (n ∷ []) ((n % 128 + 128) ∷ leb128_in room (n / 128)) ++ rest) f in
    ap (leb128_at_in (suc room)) spelled
    ∙ ap (λ b. cond b (Some (n % 128 + 128, leb128_in room (n / 128) ++ rest)) (option_and_then (above (n % 128 + 128 - 128)) (leb128_at_in room (leb128_in room (n / 128) ++ rest)))) g
    ∙ ap (option_and_then (above (n % 128 + 128 - 128))) above_again
    ∙ above_is (n % 128 + 128 - 128) (n / 128) n rest (omega arith) (omega arith) (omega arith)

leb128_again_in : (room n : ℕ) (rest : List ℕ) → n < limit room → n < 2 ^ 128 → leb128_at_in (suc room) (leb128_in (suc room) n ++ rest) ≡ Some (n, rest)
leb128_again_in zero n rest within small = one_again zero n rest within
leb128_again_in (suc room) n rest within small = by_size (cases_lt n 128) (λ le. leb128_again_in room (n / 128) rest (omega (arith, within)) (omega (arith, small)))
  where
    by_size : (n < 128) ⊎ (128 ≤ n) → (128 ≤ n → leb128_at_in (suc room) (leb128_in (suc room) (n / 128) ++ rest) ≡ Some (n / 128, rest))
        → leb128_at_in (suc (suc room)) (leb128_in (suc (suc room)) n ++ rest) ≡ Some (n, rest)
    by_size (inl lt) above_again = one_again (suc room) n rest lt
    by_size (inr le) above_again = more_again (suc room) n rest le small (above_again le)

leb128_takes_in : (room : ℕ) (bytes : List ℕ) (n : ℕ) (rest : List ℕ) → IsBytes bytes → leb128_at_in room bytes ≡ Some (n, rest) → Takes bytes (leb128_in room n) rest × (n < 2 ^ 128)
leb128_takes_in zero bytes n rest fits e = absurd cc
leb128_takes_in (suc room) [] n rest fits e = absurd cc
leb128_takes_in (suc room) (byte ∷ bytes) n rest fits e = by_test (ltb byte 128) refl (λ high more got. leb128_takes_in room bytes high more (bytes_rest byte bytes fits) got)
  where
    by_test : (b : Bool) → ltb byte 128 ≡ b → ((high : ℕ) (more : List ℕ) → leb128_at_in room bytes ≡ Some (high, more) → Takes bytes (leb128_in room high) more × (high < 2 ^ 128))
        → Takes (byte ∷ bytes) (leb128_in (suc room) n) rest × (n < 2 ^ 128)
    by_test true t above_takes =
        let f = rw t at e in
        let s = same_Some (byte, bytes) (n, rest) f in
        let lt : byte < 128 = ltb-true byte 128 t in
        let made : Takes (byte ∷ bytes) (leb128_in (suc room) byte) bytes × (byte < 2 ^ 128) = (record { parts = ap (λ b. cond b (byte ∷ []) ((byte % 128 + 128) ∷ leb128_in room (byte / 128)) ++ bytes) (sym t); rest_fits = bytes_rest byte bytes fits }, omega arith) in
        subst (λ (r : ℕ × List ℕ). Takes (byte ∷ bytes) (leb128_in (suc room) r.0) r.1 × (r.0 < 2 ^ 128)) s made
    by_test false t above_takes =
        let f : option_and_then (above (byte - 128)) (leb128_at_in room bytes) ≡ Some (n, rest) = rw t at e in
        let (high, got, was) = some_then (above (byte - 128)) (leb128_at_in room bytes) (n, rest) f in
        let (positive, small, is, rest_is) = above_was (byte - 128) n high rest was in
        let u = above_takes high.0 high.1 got in
        let low : byte < 256 = fits 0 in
        let le : 128 ≤ byte = ltb-false byte 128 t in
        let g : ltb n 128 ≡ false = le-ltb n 128 (omega arith) in
        let lower : n % 128 + 128 ≡ byte = omega arith in
        let upper : n / 128 ≡ high.0 = omega arith in
        let spelled : leb128_in (suc room) n ≡ byte ∷ leb128_in room high.0 =
        ap (λ b. cond b (n ∷ []) ((n % 128 + 128) ∷ leb128_in room (n / 128))) g ∙ ap (λ k. k ∷ leb128_in room (n / 128)) lower ∙ ap (λ k. byte ∷ leb128_in room k) upper in
        (record { parts = ap (λ (w : List ℕ). byte ∷ w) u.0.parts ∙ ap (λ (w : List ℕ). w ++ high.1) (sym spelled) ∙ ap (λ (w : List ℕ). leb128_in (suc room) n ++ w) rest_is; rest_fits = subst IsBytes rest_is u.0.rest_fits }, omega arith)

leb128_again : (n : ℕ) (rest : List ℕ) → n < 2 ^ 128 → leb128_at (leb128 n ++ rest) ≡ Some (n, rest)
unfolding leb128 leb128_at
leb128_again n rest small = leb128_again_in 18 n rest (omega arith) small

leb128_takes : (bytes : List ℕ) (n : ℕ) (rest : List ℕ) → IsBytes bytes → leb128_at bytes ≡ Some (n, rest) → Takes bytes (leb128 n) rest × (n < 2 ^ 128)
unfolding leb128 leb128_at
leb128_takes bytes n rest fits e = leb128_takes_in 19 bytes n rest fits e

pub leb128_operand : IsOperand (λ n. n < 2 ^ 128) leb128 leb128_at
leb128_operand = record { again = leb128_again; takes = leb128_takes }

-- ---- texts and binaries

block_again : (bytes rest : List ℕ) → IsBlock bytes → block_at (block bytes ++ rest) ≡ Some (bytes, rest)
unfolding block_at
block_again bytes rest fits =
    let f : ltb (length (bytes ++ rest)) (length bytes) ≡ false = le-ltb _ _ (omega (arith, length-append bytes rest)) in
    ap (λ (w : List ℕ). option_and_then cut_block (leb128_at w)) (append_assoc (leb128 (length bytes)) bytes rest)
    ∙ ap (option_and_then cut_block) (leb128_again (length bytes) (bytes ++ rest) fits)
    ∙ rw (f, take_at bytes rest (length bytes) refl, drop_at bytes rest (length bytes) refl) refl

block_takes : (bytes text rest : List ℕ) → IsBytes bytes → block_at bytes ≡ Some (text, rest) → Takes bytes (block text) rest × IsBlock text
unfolding block_at
block_takes bytes text rest fits e =
    let (n, got, cut) = some_then cut_block (leb128_at bytes) (text, rest) e in
    let t = leb128_takes bytes n.0 n.1 fits got in
    cut_takes n.0 n.1 t.0 t.1 (ltb (length n.1) n.0) refl cut
  where
    cut_takes : (n : ℕ) (more : List ℕ) → Takes bytes (leb128 n) more → n < 2 ^ 128 → (b : Bool) → ltb (length more) n ≡ b → cut_block (n, more) ≡ Some (text, rest) → Takes bytes (block text) rest × IsBlock text
    cut_takes n more t small true p cut = absurd (let f = rw p at cut in cc f)
    cut_takes n more t small false p cut =
        let f = rw p at cut in
        let long : n ≤ length more = ltb-false (length more) n p in
        let len : length (take n more) ≡ n = omega (arith, length-take n more) in
        let second : Takes more (take n more) (drop n more) = record { parts = sym (take-append-drop n more); rest_fits = bytes_drop n more t.rest_fits } in
        let both = takes_both bytes (leb128 n) more (take n more) (drop n more) t second in
        let made : Takes bytes (block (take n more)) (drop n more) × IsBlock (take n more) = (subst (λ k. Takes bytes (leb128 k ++ take n more) (drop n more)) (sym len) both, rw len small) in
        subst (λ (r : List ℕ × List ℕ). Takes bytes (block r.0) r.1 × IsBlock r.0) (same_Some (take n more, drop n more) (text, rest) f) made

pub block_operand : IsOperand IsBlock block block_at
block_operand = record { again = block_again; takes = block_takes }
