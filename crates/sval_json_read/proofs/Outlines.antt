-- What single bytes do to an outline, and so what a run of them does.
use Rattle.std.specs.Prelude.{◌≡◌, ℕ, zero, suc, ◌+◌, ◌<◌, ◌≤◌, Bool, true, false, cond, ◌==◌, List, [], ◌∷◌, ◌++◌, length, take, drop, get_or, refl}
use Rattle.std.proofs.Common.{sym, ap, ◌∙◌, arith, take-suc}
use Rattle.std.proofs.Math.Seq.{take-add}
use Rattle.std.proofs.lemmas.Bool.Decides.{nat_tests}
use Rattle.sval_json_read.specs.Outlines.{Outline, BetweenTokens, InScalar, InQuotes, BehindBackslash, Outlined, outlined, outline_byte, outline_bytes, outline_of, opens_level, closes_level, is_separator}

either : (P : Outlined → Type 0) (t : Bool) {x y : Outlined} → P x → P y → P (cond t x y)
either P true h k = h
either P false h k = k

-- values and names never end, and no level opens where none begins
abbrev pub Grows : ℕ → ℕ → Outlined → Type 0
Grows levels nodes o = (nodes ≤ o.nodes) × (o.nodes ≡ nodes → o.levels ≤ levels)

pub grows : (o : Outline) (levels nodes byte : ℕ) → Grows levels nodes (outline_byte o levels nodes byte)
grows BetweenTokens levels nodes byte =
    either (Grows levels nodes) (byte == 34) (omega arith, λ e. omega (arith, e))
    (either (Grows levels nodes) (opens_level byte) (omega arith, λ e. omega (arith, e))
    (either (Grows levels nodes) (closes_level byte) (omega arith, λ e. omega arith)
    (either (Grows levels nodes) (is_separator byte) (omega arith, λ e. omega arith) (omega arith, λ e. omega (arith, e)))))
grows InScalar levels nodes byte =
    either (Grows levels nodes) (closes_level byte) (omega arith, λ e. omega arith)
    (either (Grows levels nodes) (is_separator byte) (omega arith, λ e. omega arith) (omega arith, λ e. omega arith))
grows InQuotes levels nodes byte =
    either (Grows levels nodes) (byte == 34) (omega arith, λ e. omega arith)
    (either (Grows levels nodes) (byte == 92) (omega arith, λ e. omega arith) (omega arith, λ e. omega arith))
grows BehindBackslash levels nodes byte = (omega arith, λ e. omega arith)

abbrev NoDeeper : ℕ → Outlined → Type 0
NoDeeper levels o = o.levels ≤ levels

-- a byte that opens no level leaves no more of them open
pub no-deeper : (o : Outline) (levels nodes byte : ℕ) → opens_level byte ≡ false → (outline_byte o levels nodes byte).levels ≤ levels
no-deeper BetweenTokens levels nodes byte h =
    rw h
    (either (NoDeeper levels) (byte == 34) (omega arith)
    (either (NoDeeper levels) (closes_level byte) (omega arith) (either (NoDeeper levels) (is_separator byte) (omega arith) (omega arith))))
no-deeper InScalar levels nodes byte h = either (NoDeeper levels) (closes_level byte) (omega arith) (either (NoDeeper levels) (is_separator byte) (omega arith) (omega arith))
no-deeper InQuotes levels nodes byte h = either (NoDeeper levels) (byte == 34) (omega arith) (either (NoDeeper levels) (byte == 92) (omega arith) (omega arith))
no-deeper BehindBackslash levels nodes byte h = omega arith

-- one that opens a level between tokens leaves one more
pub one-deeper : (levels nodes byte : ℕ) → opens_level byte ≡ true → (outline_byte BetweenTokens levels nodes byte).levels ≡ levels + 1
one-deeper levels nodes byte h =
    let q : (byte == 34) ≡ false = grind (arith, nat_tests) in
    rw (q, h) refl

-- ---- bytes one after the other

pub outline-append : (o : Outlined) (xs ys : List ℕ) → outline_bytes o (xs ++ ys) ≡ outline_bytes (outline_bytes o xs) ys
outline-append o [] ys = refl
outline-append o (byte ∷ xs) ys = outline-append (outline_byte o.outline o.levels o.nodes byte) xs ys

pub nodes-grow : (o : Outlined) (bytes : List ℕ) → o.nodes ≤ (outline_bytes o bytes).nodes
nodes-grow o [] = omega arith
nodes-grow o (byte ∷ bytes) =
    let g = grows o.outline o.levels o.nodes byte in
    let h = nodes-grow (outline_byte o.outline o.levels o.nodes byte) bytes in
    omega (arith, g.0, h)

-- where nothing begins in a run, no part of it goes deeper
pub run-grows : (o : Outlined) (bytes : List ℕ) (k : ℕ) → (outline_bytes o bytes).nodes ≡ o.nodes
    → ((outline_bytes o (take k bytes)).levels ≤ o.levels) × ((outline_bytes o (take k bytes)).nodes ≤ o.nodes)
run-grows o bytes zero e = (omega arith, omega arith)
run-grows o [] (suc k) e = (omega arith, omega arith)
run-grows o (byte ∷ bytes) (suc k) e =
    let g = grows o.outline o.levels o.nodes byte in
    let next = outline_byte o.outline o.levels o.nodes byte in
    let h = nodes-grow next bytes in
    let same : next.nodes ≡ o.nodes = omega (arith, g.0, h, e) in
    let r = run-grows next bytes k (e ∙ sym same) in
    let d = g.1 same in
    (omega (arith, r.0, d), omega (arith, r.1, same))

-- the outline behind one byte more
pub outline-next : (bytes : List ℕ) (n : ℕ) → n < length bytes
    → outline_of (take (n + 1) bytes) ≡ outline_byte (outline_of (take n bytes)).outline (outline_of (take n bytes)).levels (outline_of (take n bytes)).nodes (get_or bytes n 0)
outline-next bytes n l =
    ap (λ m. outline_of (take m bytes)) (let s : n + 1 ≡ suc n = omega arith in s)
    ∙ ap outline_of (take-suc bytes n 0 l) ∙ outline-append (outlined BetweenTokens 0 0) (take n bytes) (get_or bytes n 0 ∷ [])

-- the outline behind a run
pub outline-run : (bytes : List ℕ) (n k : ℕ) → outline_of (take (n + k) bytes) ≡ outline_bytes (outline_of (take n bytes)) (take k (drop n bytes))
outline-run bytes n k = ap outline_of (take-add n k bytes) ∙ outline-append (outlined BetweenTokens 0 0) (take n bytes) (take k (drop n bytes))
