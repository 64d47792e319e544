-- Where a script is cut: what is known at each line of the first part.
use Rattle.std.specs.Prelude.{◌≡◌, ℕ, ◌+◌, ◌-◌, ◌≤◌, ◌<◌, List, [], ◌∷◌, ◌++◌, take, drop, length, get_or, refl}
use Rattle.std.proofs.Common.{arith, sym, ap, ◌∙◌, append_assoc}
use Rattle.std.proofs.Math.Seq.{take-append_seam, drop-append_seam}
use Rattle.std.proofs.lemmas.List.{take-append-drop, take_more, take_all, drop_all, length-take-le, length-append}
use Rattle.sval_label.specs.Calls.{Call}
use Rattle.sval_script.specs.declared.line.Line.{Line}
use Rattle.sval_script.specs.LineCalls.{own_count, next_len, next_call, calls_with, HoldsLines}
use Rattle.sval_script.proofs.ScriptTexts.{holds-more, calls-more, length-calls_with}
use Rattle.sval_script.proofs.ScriptStreams.{here}

-- these lines stand before the cut and those behind it, and so do their bytes and numbers, of which those behind are these
pub record IsCutAt (all : List Call) (bytes numbers bytes_behind numbers_behind : List ℕ) (first behind : List Line) : Type 0 where
  pub own_bytes : List ℕ
  pub own_numbers : List ℕ
  pub bytes_are : bytes ≡ own_bytes ++ bytes_behind
  pub numbers_are : numbers ≡ own_numbers ++ numbers_behind
  pub holds : HoldsLines own_bytes own_numbers first
  pub holds_behind : HoldsLines bytes_behind numbers_behind behind
  pub calls_are : all ≡ calls_with own_bytes own_numbers first ++ calls_with bytes_behind numbers_behind behind

-- before the first line
pub cut_start : (all : List Call) (bytes numbers : List ℕ) (lines first behind : List Line) → HoldsLines bytes numbers lines → calls_with bytes numbers lines ≡ all → lines ≡ first ++ behind
    → IsCutAt all bytes numbers bytes numbers [] (first ++ behind)
cut_start all bytes numbers lines first behind holds view are = record {
  own_bytes = [];
  own_numbers = [];
  bytes_are = refl;
  numbers_are = refl;
  holds = (refl, refl);
  holds_behind = rw are at holds;
  calls_are = sym view ∙ ap (calls_with bytes numbers) are;
}

split_more : (own behind : List ℕ) (n : ℕ) → own ++ behind ≡ (own ++ take n behind) ++ drop n behind
split_more own behind n = ap (λ xs. own ++ xs) (sym (take-append-drop n behind)) ∙ sym (append_assoc own (take n behind) (drop n behind))

-- behind one line more
one_more : {all : List Call} {bytes numbers bytes_behind numbers_behind : List ℕ} {first : List Line} (line : Line) (behind : List Line)
    → IsCutAt all bytes numbers bytes_behind numbers_behind first (line ∷ behind)
    → IsCutAt all bytes numbers (drop (next_len line numbers_behind) bytes_behind) (drop (own_count line) numbers_behind) (first ++ (line ∷ [])) behind
one_more {bytes_behind = bytes_behind} {numbers_behind = numbers_behind} {first = first} line behind c =
    let len = next_len line numbers_behind in
    let count = own_count line in
    let rest = calls_with (drop len bytes_behind) (drop count numbers_behind) behind in
    let call = next_call bytes_behind numbers_behind line in
    let holds_next = c.holds_behind.0 in
    let has_len : length (take len bytes_behind) ≡ len = length-take-le len bytes_behind holds_next.1 in
    let has_count : length (take count numbers_behind) ≡ count = length-take-le count numbers_behind holds_next.0 in
    record {
      own_bytes = c.own_bytes ++ take len bytes_behind;
      own_numbers = c.own_numbers ++ take count numbers_behind;
      bytes_are = c.bytes_are ∙ split_more c.own_bytes bytes_behind len;
      numbers_are = c.numbers_are ∙ split_more c.own_numbers numbers_behind count;
      holds = holds-more (take len bytes_behind) (take count numbers_behind) line c.own_bytes c.own_numbers first c.holds has_len has_count holds_next.2;
      holds_behind = c.holds_behind.1;
      calls_are =
          c.calls_are ∙ sym (append_assoc (calls_with c.own_bytes c.own_numbers first) (call ∷ []) rest)
          ∙ ap (λ calls. calls ++ rest) (sym (calls-more (take len bytes_behind) (take count numbers_behind) line c.own_bytes c.own_numbers first c.holds has_len has_count));
    }

module _ {all : List Call} {bytes numbers bytes_behind numbers_behind : List ℕ} (first behind : List Line) (i : ℕ) (d : Line) where
  pub cut_step : IsCutAt all bytes numbers bytes_behind numbers_behind (take i first) (drop i first ++ behind) → i < length first
      → IsCutAt all bytes numbers (drop (next_len (get_or first i d) numbers_behind) bytes_behind) (drop (own_count (get_or first i d)) numbers_behind) (take (i + 1) first) (drop (i + 1) first ++ behind)
  cut_step c h = rw (take_more first i d h) (one_more (get_or first i d) (drop (i + 1) first ++ behind) (rw (here first i d h) at c))

  -- the next line's own stands in front
  pub cut_holds : IsCutAt all bytes numbers bytes_behind numbers_behind (take i first) (drop i first ++ behind) → i < length first
      → HoldsLines bytes_behind numbers_behind (get_or first i d ∷ (drop (i + 1) first ++ behind))
  cut_holds c h = rw (here first i d h) at c.holds_behind

-- what is behind is no longer than all
pub cut_fits : {all : List Call} {bytes numbers bytes_behind numbers_behind : List ℕ} {first behind : List Line} → IsCutAt all bytes numbers bytes_behind numbers_behind first behind
    → (length bytes_behind ≤ length bytes) × (length numbers_behind ≤ length numbers)
cut_fits {bytes_behind = bytes_behind} {numbers_behind = numbers_behind} c = (
  omega (arith, ap length c.bytes_are, length-append c.own_bytes bytes_behind),
  omega (arith, ap length c.numbers_are, length-append c.own_numbers numbers_behind),
)

-- the two parts of a store, by the length of what is behind
seam : (xs own behind : List ℕ) → xs ≡ own ++ behind → (take (length xs - length behind) xs ≡ own) × (drop (length xs - length behind) xs ≡ behind)
seam xs own behind e =
    let count : length xs - length behind ≡ length own = omega (arith, ap length e, length-append own behind) in
    rw (count, e) (take-append_seam own behind, drop-append_seam own behind)

-- all lines of the first part were passed
pub record IsCut (all : List Call) (bytes numbers : List ℕ) (bytes_behind numbers_behind : List ℕ) (first behind : List Line) : Type 0 where
  pub holds : HoldsLines (take (length bytes - length bytes_behind) bytes) (take (length numbers - length numbers_behind) numbers) first
  pub holds_behind : HoldsLines (drop (length bytes - length bytes_behind) bytes) (drop (length numbers - length numbers_behind) numbers) behind
  pub first_calls : calls_with (take (length bytes - length bytes_behind) bytes) (take (length numbers - length numbers_behind) numbers) first ≡ take (length first) all
  pub behind_calls : calls_with (drop (length bytes - length bytes_behind) bytes) (drop (length numbers - length numbers_behind) numbers) behind ≡ drop (length first) all

cut_at : {all : List Call} {bytes numbers bytes_behind numbers_behind : List ℕ} {first behind : List Line} → IsCutAt all bytes numbers bytes_behind numbers_behind first behind
    → IsCut all bytes numbers bytes_behind numbers_behind first behind
cut_at {all} {bytes} {numbers} {bytes_behind} {numbers_behind} {first} {behind} c =
    let b = seam bytes c.own_bytes bytes_behind c.bytes_are in
    let n = seam numbers c.own_numbers numbers_behind c.numbers_are in
    let calls = calls_with c.own_bytes c.own_numbers first in
    let rest = calls_with bytes_behind numbers_behind behind in
    let count : length first ≡ length calls = sym (length-calls_with c.own_bytes c.own_numbers first) in
    record {
      holds = rw (b.0, n.0) c.holds;
      holds_behind = rw (b.1, n.1) c.holds_behind;
      first_calls = rw (b.0, n.0, count, c.calls_are) (sym (take-append_seam calls rest));
      behind_calls = rw (b.1, n.1, count, c.calls_are) (sym (drop-append_seam calls rest));
    }

pub cut_done : {all : List Call} {bytes numbers bytes_behind numbers_behind : List ℕ} (first behind : List Line) (i : ℕ)
    → IsCutAt all bytes numbers bytes_behind numbers_behind (take i first) (drop i first ++ behind) → length first ≤ i → IsCut all bytes numbers bytes_behind numbers_behind first behind
cut_done first behind i c h = cut_at (rw (take_all i first h, drop_all i first h) at c)
