-- The lines of a script, from the first one on.
use Rattle.std.specs.Prelude.{◌≡◌, ℕ, ◌+◌, ◌<◌, Bool, true, false, ◌==◌, if◌then◌else◌, List, [], ◌∷◌, ◌++◌, Option, Some, None, MatchOption, option_map, length, refl}
use Rattle.std.proofs.Common.{arith, sym, ap, ◌∙◌, append_assoc}
use Rattle.sval_label.specs.Calls.{Call}
use Rattle.sval_script.specs.Lines.{Lines, Good, Bad, line_of, call_of_fields, with_call, after_last, lines_from, cut_at}
use Rattle.sval_script.specs.Fields.{cut_line}
use Rattle.sval_script.specs.NextFields.{call_before, first_call}
use Rattle.sval_script.specs.Readings.{after_calls}
use Rattle.sval_script.proofs.Cut.{cut-some, lines-first}

pub after_none : (left : Lines) → after_calls [] left ≡ left
after_none (Good more) = refl
after_none (Bad n) = refl

pub after_one : (calls : List Call) (n : ℕ) (call : Call) (left : Lines) → after_calls calls (with_call n (Some call) left) ≡ after_calls (calls ++ (call ∷ [])) left
after_one calls n call (Good more) = ap Good (sym (append_assoc calls (call ∷ []) more))
after_one calls n call (Bad m) = refl

-- the line that bytes begin with is the first of their parts
pub first_part : (rest : List ℕ) → MatchOption (cut_line rest) (cut_at 10 rest ≡ rest ∷ []) (λ line. (cut_at 10 rest ≡ line.0 ∷ cut_at 10 line.1) × (length line.1 < length rest))
first_part [] = refl
first_part (byte ∷ rest) = by_feed (byte == 10) (cut_line rest) refl (first_part rest)
  where
    by_feed : (b : Bool) (line : Option (List ℕ × List ℕ)) → (byte == 10) ≡ b
        → MatchOption line (cut_at 10 rest ≡ rest ∷ []) (λ l. (cut_at 10 rest ≡ l.0 ∷ cut_at 10 l.1) × (length l.1 < length rest))
        → MatchOption (if b then Some ([], rest) else option_map (λ (l : List ℕ × List ℕ). let pair : List ℕ × List ℕ = (byte ∷ l.0, l.1) in pair) line) (cut_at 10 (byte ∷ rest) ≡ (byte ∷ rest) ∷ [])
        (λ l. (cut_at 10 (byte ∷ rest) ≡ l.0 ∷ cut_at 10 l.1) × (length l.1 < length (byte ∷ rest)))
    by_feed true line is later = (rw is refl, omega arith)
    by_feed false None is later = rw (is, later) refl
    by_feed false (Some l) is (cut, shorter) = (rw (is, cut) refl, omega arith)

spelled : (made : Option Call) (behind : List ℕ) (call : Call) (rest : List ℕ) → option_map (λ c. let pair : Call × List ℕ = (c, behind) in pair) made ≡ Some (call, rest)
    → (made ≡ Some call) × (behind ≡ rest)
spelled None behind call rest e = cc e
spelled (Some c) behind call rest e =
    let same : (c ≡ call) × (behind ≡ rest) = grind arith in
    (ap Some same.0, same.1)

unspelled : (made : Option Call) (behind : List ℕ) → option_map (λ c. let pair : Call × List ℕ = (c, behind) in pair) made ≡ None → made ≡ None
unspelled None behind e = refl
unspelled (Some c) behind e = cc e

-- the lines from one that spells a call
pub at_call : (n : ℕ) (rest behind : List ℕ) (call : Call) → first_call rest ≡ Some (call, behind)
    → (lines_from line_of n (cut_at 10 rest) ≡ with_call n (Some call) (lines_from line_of (n + 1) (cut_at 10 behind))) × (length behind < length rest)
unfolding line_of
at_call n rest behind call e = by_line (cut_line rest) (first_part rest) e
  where
    by_line : (line : Option (List ℕ × List ℕ)) → MatchOption line (cut_at 10 rest ≡ rest ∷ []) (λ l. (cut_at 10 rest ≡ l.0 ∷ cut_at 10 l.1) × (length l.1 < length rest))
        → call_before call_of_fields (option_map (λ (l : List ℕ × List ℕ). let pair : List (List ℕ) × List ℕ = (cut_at 32 l.0, l.1) in pair) line) ≡ Some (call, behind)
        → (lines_from line_of n (cut_at 10 rest) ≡ with_call n (Some call) (lines_from line_of (n + 1) (cut_at 10 behind))) × (length behind < length rest)
    by_line None cut e = cc e
    by_line (Some l) (cut, shorter) e =
        let (is, same) = spelled (call_of_fields (cut_at 32 l.0)) l.1 call behind e in
        let (next, more, some) = cut-some 10 l.1 in
        let spells : line_of l.0 ≡ Some call = is in (
          ap (lines_from line_of n) cut ∙ lines-first line_of n l.0 next (cut_at 10 l.1) more some ∙ ap (λ made. with_call n made (lines_from line_of (n + 1) (cut_at 10 l.1))) spells
              ∙ ap (λ left. with_call n (Some call) (lines_from line_of (n + 1) (cut_at 10 left))) same,
          rw (← same) shorter,
        )

-- the lines from one that spells none, or that nothing ends
pub at_none : (n : ℕ) (rest : List ℕ) → first_call rest ≡ None → 0 < length rest → lines_from line_of n (cut_at 10 rest) ≡ Bad n
unfolding line_of
at_none n rest e some = by_line (cut_line rest) (first_part rest) e
  where
    unended : (bytes : List ℕ) → 0 < length bytes → after_last n bytes ≡ Bad n
    unended [] h = absurd (omega arith)
    unended (byte ∷ bytes) h = refl

    by_line : (line : Option (List ℕ × List ℕ)) → MatchOption line (cut_at 10 rest ≡ rest ∷ []) (λ l. (cut_at 10 rest ≡ l.0 ∷ cut_at 10 l.1) × (length l.1 < length rest))
        → call_before call_of_fields (option_map (λ (l : List ℕ × List ℕ). let pair : List (List ℕ) × List ℕ = (cut_at 32 l.0, l.1) in pair) line) ≡ None
        → lines_from line_of n (cut_at 10 rest) ≡ Bad n
    by_line None cut e = ap (lines_from line_of n) cut ∙ unended rest some
    by_line (Some l) (cut, shorter) e =
        let (next, more, some) = cut-some 10 l.1 in
        let spells : line_of l.0 ≡ None = unspelled (call_of_fields (cut_at 32 l.0)) l.1 e in
        ap (lines_from line_of n) cut ∙ lines-first line_of n l.0 next (cut_at 10 l.1) more some ∙ ap (λ made. with_call n made (lines_from line_of (n + 1) (cut_at 10 l.1))) spells
