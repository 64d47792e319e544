-- The first field of a line, which the first space or line feed ends.
use Rattle.std.specs.Prelude.{◌≡◌, ℕ, zero, suc, ◌+◌, ◌-◌, ◌<◌, Bool, true, false, ◌||◌, ◌==◌, if◌then◌else◌, List, [], ◌∷◌, Option, length, take, drop, get_or, Some, None, option_map, refl}
use Rattle.std.specs.List.{onto_first}
use Rattle.std.proofs.Common.{arith, add-one, sym, ap, ◌∙◌}
use Rattle.std.proofs.lemmas.Bool.{false_from_ne_true}
use Rattle.std.proofs.lemmas.Bool.Decides.{nat_tests}
use Rattle.std.proofs.lemmas.List.{take_rest}
use Rattle.memchr.specs.Find.{IsFirstByte, is_byte2}
use Rattle.sval_script.specs.Lines.{cut_at, complete}
use Rattle.sval_label.specs.Calls.{Call}
use Rattle.sval_script.specs.Fields.{LineLeft, cut_line, line_ahead, line_left}
use Rattle.sval_script.specs.NextFields.{with_field, call_before}
use Rattle.sval_script.specs.declared.fields.Fields.TheInside.{Inside}
use Rattle.sval_script.proofs.Cut.{cut-some}

neither : (a b : Bool) → (a || b) ≡ false → (a ≡ false) × (b ≡ false)
neither true b h = cc h
neither false b h = (refl, h)

-- the first field has this byte before its others
abbrev pub with_byte : ℕ → LineLeft → LineLeft
with_byte byte None = None
with_byte byte (Some (fields, behind)) = Some (onto_first byte fields, behind)

-- a byte inside the first field
inside : (byte : ℕ) (bytes : List ℕ) → is_byte2 32 10 byte ≡ false → line_ahead (byte ∷ bytes) ≡ with_byte byte (line_ahead bytes)
inside byte bytes h =
    let (space, feed) = neither (byte == 32) (byte == 10) h in
    by_line (cut_line bytes) space feed
  where
    by_line : (line : Option (List ℕ × List ℕ)) → (byte == 32) ≡ false → (byte == 10) ≡ false
        → option_map (λ (l : List ℕ × List ℕ). let pair : List (List ℕ) × List ℕ = (cut_at 32 l.0, l.1) in pair) (if byte == 10 then Some ([], bytes) else option_map (λ (l : List ℕ × List ℕ). let pair : List ℕ × List ℕ = (byte ∷ l.0, l.1) in pair) line)
        ≡ with_byte byte (option_map (λ (l : List ℕ × List ℕ). let pair : List (List ℕ) × List ℕ = (cut_at 32 l.0, l.1) in pair) line)
    by_line None space feed = rw feed refl
    by_line (Some (line, behind)) space feed = rw (feed, space) refl

-- a space ends the first field
space_ends : (byte : ℕ) (bytes : List ℕ) → (byte == 32) ≡ true → line_ahead (byte ∷ bytes) ≡ with_field [] (line_ahead bytes)
space_ends byte bytes space =
    let feed : (byte == 10) ≡ false = grind (arith, nat_tests) in
    by_line (cut_line bytes) feed
  where
    by_line : (line : Option (List ℕ × List ℕ)) → (byte == 10) ≡ false
        → option_map (λ (l : List ℕ × List ℕ). let pair : List (List ℕ) × List ℕ = (cut_at 32 l.0, l.1) in pair) (if byte == 10 then Some ([], bytes) else option_map (λ (l : List ℕ × List ℕ). let pair : List ℕ × List ℕ = (byte ∷ l.0, l.1) in pair) line)
        ≡ with_field [] (option_map (λ (l : List ℕ × List ℕ). let pair : List (List ℕ) × List ℕ = (cut_at 32 l.0, l.1) in pair) line)
    by_line None feed = rw feed refl
    by_line (Some (line, behind)) feed = rw (feed, space) refl

-- what is left behind a field that this byte ends
abbrev pub left_behind : Bool → List ℕ → LineLeft
left_behind is_feed bytes = if is_feed then Some ([], bytes) else line_ahead bytes

with_more : (byte : ℕ) (first : List ℕ) (line : LineLeft) → with_byte byte (with_field first line) ≡ with_field (byte ∷ first) line
with_more byte first None = refl
with_more byte first (Some (fields, behind)) = refl

pub field_at : (s : List ℕ) (k : ℕ) → k < length s → ((j : ℕ) → j < k → is_byte2 32 10 (get_or s j 0) ≡ false) → is_byte2 32 10 (get_or s k 0) ≡ true
    → line_ahead s ≡ with_field (take k s) (left_behind (get_or s k 0 == 10) (drop (suc k) s))
field_at [] k h before here = absurd (omega arith)
field_at (x ∷ xs) zero h before here = by_feed (x == 10) refl
  where
    by_feed : (b : Bool) → (x == 10) ≡ b → line_ahead (x ∷ xs) ≡ with_field [] (left_behind (x == 10) xs)
    by_feed true is = rw is refl
    by_feed false is =
        let space : (x == 32) ≡ true = grind (arith, nat_tests) in
        space_ends x xs space ∙ ap (λ b. with_field [] (left_behind b xs)) (sym is)
field_at (x ∷ xs) (suc k) h before here =
    let later = field_at xs k (omega arith) (λ j below. before (suc j) (omega arith)) here in
    rw (inside x xs (before 0 (omega arith)), later) (with_more x (take k xs) (left_behind (get_or xs k 0 == 10) (drop (suc k) xs)))

unended : (s : List ℕ) → ((j : ℕ) → j < length s → is_byte2 32 10 (get_or s j 0) ≡ false) → line_ahead s ≡ None
unended [] none = refl
unended (x ∷ xs) none = rw (inside x xs (none 0 (omega arith)), unended xs (λ j below. none (suc j) (omega arith))) refl

-- without a space or a line feed no line feed ends the line
pub no_end : (s : List ℕ) → IsFirstByte (is_byte2 32 10) s None → line_ahead s ≡ None
no_end s none = unended s (λ j below. false_from_ne_true _ (none j (omega arith) below))

-- the bytes behind a place
abbrev pub behind_place : ℕ → List ℕ → List ℕ
behind_place k s = take (length s - (k + 1)) (drop (k + 1) s)

-- the first space or line feed ends the first field
pub first_field : (s : List ℕ) (k : ℕ) → IsFirstByte (is_byte2 32 10) s (Some k)
    → line_ahead s ≡ with_field (take k s) (left_behind (get_or s k 0 == 10) (behind_place k s))
first_field s k found =
    let e = field_at s k found.0.high (λ j below. false_from_ne_true _ (found.0.before j (omega arith) below)) found.1 in
    rw (take_rest s (k + 1), add-one) e

pub in_line : (fields : Inside) → fields.is_over ≡ false → line_left fields ≡ line_ahead fields.rest.now
in_line fields h = rw h refl

-- a line that begins has a field
pub not_over : (script : List ℕ) (call : Call) → call_before (complete call) (line_ahead script) ≡ None
not_over script call = by_line (cut_line script)
  where
    by_line : (line : Option (List ℕ × List ℕ)) → call_before (complete call) (option_map (λ (l : List ℕ × List ℕ). let pair : List (List ℕ) × List ℕ = (cut_at 32 l.0, l.1) in pair) line) ≡ None
    by_line None = refl
    by_line (Some l) = let (first, rest, some) = cut-some 32 l.0 in rw some refl
