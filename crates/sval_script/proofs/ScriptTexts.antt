-- The store of a script's lines, as it grows.
use Rattle.std.specs.Prelude.{◌≡◌, ℕ, List, [], ◌∷◌, ◌++◌, take, drop, length, refl}
use Rattle.std.proofs.Common.{arith, ap}
use Rattle.std.proofs.lemmas.List.{take-append-le, drop-append-le, take_all, length-append, length-drop}
use Rattle.sval_script.specs.declared.line.Line.{Line}
use Rattle.sval_script.specs.LineCalls.{own_len, own_count, next_len, call_with, calls_with, IsUtf8Line, HoldsLines}

pub take_whole : (n : ℕ) (xs : List ℕ) → length xs ≡ n → take n xs ≡ xs
take_whole n xs e = take_all n xs (omega arith)

pub drop_whole : (n : ℕ) (xs : List ℕ) → length xs ≡ n → drop n xs ≡ []
drop_whole n xs e = none (drop n xs) (omega (arith, length-drop n xs))
  where
    none : (xs : List ℕ) → length xs ≡ 0 → xs ≡ []
    none [] h = refl
    none (x ∷ xs) h = absurd (omega arith)

module _ (new_bytes new_numbers : List ℕ) (line : Line) where
  pub holds-more : (bytes numbers : List ℕ) (lines : List Line) → HoldsLines bytes numbers lines → length new_bytes ≡ own_len line new_numbers → length new_numbers ≡ own_count line → IsUtf8Line line new_bytes
      → HoldsLines (bytes ++ new_bytes) (numbers ++ new_numbers) (lines ++ (line ∷ []))
  holds-more bytes numbers [] (h, k) e f u =
      rw (h, k, take_whole (own_count line) new_numbers f)
      ((omega arith, omega arith, rw (take_whole (own_len line new_numbers) new_bytes e) u), (drop_whole (own_len line new_numbers) new_bytes e, drop_whole (own_count line) new_numbers f))
  holds-more bytes numbers (first ∷ lines) ((count, within, text), rest) e f u =
      rw (take-append-le (own_count first) numbers new_numbers count) (
        (
          omega (arith, length-append numbers new_numbers),
          omega (arith, length-append bytes new_bytes),
          rw (take-append-le (next_len first numbers) bytes new_bytes within) text,
        ),
        rw (drop-append-le (next_len first numbers) bytes new_bytes within, drop-append-le (own_count first) numbers new_numbers count)
            (holds-more (drop (next_len first numbers) bytes) (drop (own_count first) numbers) lines rest e f u),
      )

  pub calls-more : (bytes numbers : List ℕ) (lines : List Line) → HoldsLines bytes numbers lines → length new_bytes ≡ own_len line new_numbers → length new_numbers ≡ own_count line
      → calls_with (bytes ++ new_bytes) (numbers ++ new_numbers) (lines ++ (line ∷ [])) ≡ calls_with bytes numbers lines ++ (call_with new_bytes new_numbers line ∷ [])
  calls-more bytes numbers [] (h, k) e f = rw (h, k, take_whole (own_count line) new_numbers f, take_whole (own_len line new_numbers) new_bytes e) refl
  calls-more bytes numbers (first ∷ lines) ((count, within, text), rest) e f =
      rw (
        take-append-le (own_count first) numbers new_numbers count,
        drop-append-le (own_count first) numbers new_numbers count,
        take-append-le (next_len first numbers) bytes new_bytes within,
        drop-append-le (next_len first numbers) bytes new_bytes within,
      )
      (ap (λ calls. call_with (take (next_len first numbers) bytes) (take (own_count first) numbers) first ∷ calls)
      (calls-more (drop (next_len first numbers) bytes) (drop (own_count first) numbers) lines rest e f))

-- each line has one call
pub length-calls_with : (bytes numbers : List ℕ) (lines : List Line) → length (calls_with bytes numbers lines) ≡ length lines
length-calls_with bytes numbers [] = refl
length-calls_with bytes numbers (line ∷ lines) = let rest = length-calls_with (drop (next_len line numbers) bytes) (drop (own_count line) numbers) lines in omega arith
