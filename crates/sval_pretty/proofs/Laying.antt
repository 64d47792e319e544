-- What is written of bytes in a row.
use Rattle.std.specs.Prelude.{◌≡◌, ℕ, zero, suc, Bool, true, false, ◌==◌, List, [], ◌∷◌, ◌++◌, refl}
use Rattle.std.proofs.Common.{sym, ap, ◌∙◌, append_assoc}
use Rattle.sval_pretty.specs.declared.layout.Mark.{Mark}
use Rattle.sval_pretty.specs.declared.layout.Mark.TheVariants.{Space, Quote, Begin, End, Comma, Colon, Other}
use Rattle.sval_pretty.specs.declared.layout.Gap.{Gap}
use Rattle.sval_pretty.specs.declared.layout.Gap.TheVariants.{Nothing, First, Line, Blank}
use Rattle.sval_pretty.specs.declared.layout.Place.{Place}
use Rattle.sval_pretty.specs.declared.layout.Place.TheVariants.{Outside, Inside, Escaped}
use Rattle.sval_pretty.specs.Layout.{mark_of_byte, place_behind, next_place, depth_past, next_depth, gap_text, laid_outside, laid_byte, laid_out, place_after, depth_after}
use Rattle.sval_pretty.specs.PrettyJson.{is_begin}

pub laid-append : (place : Place) (depth : ℕ) (xs ys : List ℕ)
    → laid_out place depth (xs ++ ys) ≡ laid_out place depth xs ++ laid_out (place_after place xs) (depth_after place depth xs) ys
laid-append place depth [] ys = refl
laid-append place depth (x ∷ xs) ys =
    ap (λ r. laid_byte place depth x ++ r) (laid-append (next_place place x) (next_depth place depth x) xs ys)
    ∙ sym (append_assoc (laid_byte place depth x) (laid_out (next_place place x) (next_depth place depth x) xs)
    (laid_out (place_after (next_place place x) xs) (depth_after (next_place place x) (next_depth place depth x) xs) ys))

-- a byte that begins a value comes behind the gap
pub begun : (gap : Gap) (depth byte : ℕ) (bytes : List ℕ) → is_begin (mark_of_byte byte) ≡ true
    → laid_out (Outside gap) depth (byte ∷ bytes) ≡ gap_text gap depth ++ laid_out (Outside Nothing) depth (byte ∷ bytes)
begun gap depth byte bytes h = at (mark_of_byte byte) h
  where
    at : (m : Mark) → is_begin m ≡ true → laid_outside gap depth byte m ++ laid_out (place_behind gap m) (depth_past depth m) bytes
        ≡ gap_text gap depth ++ (laid_outside Nothing depth byte m ++ laid_out (place_behind Nothing m) (depth_past depth m) bytes)
    at Space f = cc f
    at End f = cc f
    at Quote f = append_assoc (gap_text gap depth) (byte ∷ []) _
    at Begin f = append_assoc (gap_text gap depth) (byte ∷ []) _
    at Comma f = append_assoc (gap_text gap depth) (byte ∷ []) _
    at Colon f = append_assoc (gap_text gap depth) (byte ∷ []) _
    at Other f = append_assoc (gap_text gap depth) (byte ∷ []) _

-- in a string a byte that is neither a quote nor a backslash is kept
pub inside_kept : (depth byte : ℕ) (bytes : List ℕ) → (byte == 34) ≡ false → (byte == 92) ≡ false
    → laid_out Inside depth (byte ∷ bytes) ≡ byte ∷ laid_out Inside depth bytes
inside_kept depth byte bytes q b = rw (q, b) refl
