-- Lines that come again, and what is remembered of a line that was read.
use Rattle.std.specs.Prelude.{◌≡◌, ℕ, ◌==◌, ◌+◌, ◌-◌, ◌≤◌, suc, Bool, true, false, List, [], ◌∷◌, ◌++◌, Option, Some, None, option_map, length, take, drop, if◌then◌else◌, refl}
use Rattle.std.proofs.Common.{arith, sym, ap, subst, ◌∙◌}
use Rattle.std.proofs.lemmas.List.{take-append-drop, drop_at, length-append}
use Rattle.sval_label.specs.Calls.{Call}
use Rattle.sval_script.specs.Lines.{LineForm, call_of_fields, cut_at}
use Rattle.sval_script.specs.Fields.{LineLeft, cut_line, line_ahead}
use Rattle.sval_script.specs.NextFields.{call_before, first_call}
use Rattle.sval_script.specs.LineCalls.{Stored, call_with, own_len, own_count, IsUtf8Line}
use Rattle.sval_script.specs.MadeLines.{Puts, IsMade}
use Rattle.sval_script.specs.KnownLines.{SaysLine, IsKeptLine, StoresLine}
use Rattle.sval_script.specs.declared.known.KeptLine.{KeptLine}
use Rattle.sval_script.specs.declared.line.Line.{Line}
use Rattle.sval_script.proofs.ScriptPieces.{cut-more}

-- what stands before the rest behind a line is that line alone
cut-own : (s : List ℕ) (line : List ℕ × List ℕ) → cut_line s ≡ Some line
    → (length line.1 ≤ length s) × (cut_line (take (length s - length line.1) s) ≡ Some (line.0, []))
cut-own [] line e = cc e
cut-own (byte ∷ s) line e = by_feed (byte == 10) (cut_line s) refl (cut-own s) refl e
  where
    by_feed : (feed : Bool) (rest : Option (List ℕ × List ℕ)) → (byte == 10) ≡ feed
        → ((l : List ℕ × List ℕ) → cut_line s ≡ Some l → (length l.1 ≤ length s) × (cut_line (take (length s - length l.1) s) ≡ Some (l.0, []))) → cut_line s ≡ rest
        → (if feed then Some ([], s) else option_map (λ (l : List ℕ × List ℕ). let pair : List ℕ × List ℕ = (byte ∷ l.0, l.1) in pair) rest) ≡ Some line
        → (length line.1 ≤ suc (length s)) × (cut_line (take (suc (length s) - length line.1) (byte ∷ s)) ≡ Some (line.0, []))
    by_feed true rest is later same e =
        let whole : line ≡ ([], s) = cc e in
        let one : suc (length s) - length s ≡ 1 = omega arith in
        rw (whole, one) (omega arith, rw is refl)
    by_feed false None is later same e = cc e
    by_feed false (Some l) is later same e =
        let (within, own) = later l same in
        let whole : line ≡ (byte ∷ l.0, l.1) = cc e in
        let more : suc (length s) - length l.1 ≡ suc (length s - length l.1) = omega (arith, within) in
        rw (whole, more) (omega (arith, within), rw (is, own) refl)

-- the call of a line and what stands behind it
call-and-rest : (made : Option Call) (rest : List ℕ) (call : Call) (behind : List ℕ) → option_map (λ (c : Call). let pair : Call × List ℕ = (c, rest) in pair) made ≡ Some (call, behind)
    → (made ≡ Some call) × (rest ≡ behind)
call-and-rest None rest call behind e = cc e
call-and-rest (Some c) rest call behind e =
    let same : (c, rest) ≡ (call, behind) = cc e in
    (ap (λ (p : Call × List ℕ). Some p.0) same, ap (λ (p : Call × List ℕ). p.1) same)

-- the first line is that which stands before the rest
pub first-own : (s behind : List ℕ) (call : Call) → first_call s ≡ Some (call, behind)
    → (length behind ≤ length s) × (first_call (take (length s - length behind) s) ≡ Some (call, []))
first-own s behind call e = by_line (cut_line s) refl e
  where
    by_line : (line : Option (List ℕ × List ℕ)) → cut_line s ≡ line
        → call_before call_of_fields (option_map (λ (l : List ℕ × List ℕ). let pair : List (List ℕ) × List ℕ = (cut_at 32 l.0, l.1) in pair) line) ≡ Some (call, behind)
        → (length behind ≤ length s) × (first_call (take (length s - length behind) s) ≡ Some (call, []))
    by_line None same e = cc e
    by_line (Some l) same e =
        let (made, rest) = call-and-rest (call_of_fields (cut_at 32 l.0)) l.1 call behind e in
        let (within, own) = cut-own s l same in
        (rw (← rest) within, rw (← rest) (rw (own, made) refl))

-- a line is read the same, whatever follows it
pub first-more : (s more : List ℕ) (call : Call) → first_call s ≡ Some (call, []) → first_call (s ++ more) ≡ Some (call, more)
first-more s more call e = by_line (cut_line s) refl e
  where
    by_line : (line : Option (List ℕ × List ℕ)) → cut_line s ≡ line
        → call_before call_of_fields (option_map (λ (l : List ℕ × List ℕ). let pair : List (List ℕ) × List ℕ = (cut_at 32 l.0, l.1) in pair) line) ≡ Some (call, [])
        → first_call (s ++ more) ≡ Some (call, more)
    by_line None same e = cc e
    by_line (Some l) same e =
        let (made, rest) = call-and-rest (call_of_fields (cut_at 32 l.0)) l.1 call [] e in
        rw (cut-more s more l same, rest, made) refl

-- a script that begins with a kept line, whose own was put behind what stood before it
pub kept_made : (script : List ℕ) (n : ℕ) (kept : KeptLine) (old new : Stored) → IsKeptLine (take n script) kept
    → new.bytes ≡ old.bytes ++ take kept.text_len kept.text → new.numbers ≡ old.numbers ++ take kept.count kept.numbers
    → IsMade (first_call script) (drop n script) old new kept.line
kept_made script n kept old new k bytes numbers =
    let own = take kept.text_len kept.text in
    let say = take kept.count kept.numbers in
    let whole = first-more (take n script) (drop n script) (call_with own say kept.line) k.says.spells in
    record {
      bytes = own;
      numbers = say;
      spells = ap first_call (sym (take-append-drop n script)) ∙ whole;
      puts = record {
        has_text = k.says.has_text;
        bytes_stored = bytes;
        numbers_stored = numbers;
        has_len = k.says.has_len;
        has_count = k.says.has_count;
      };
    }

-- a line that was read is stored from the places where the store ended before
pub made_stores : (script rest : List ℕ) (start count : ℕ) (old new : Stored) (line : Line) → start ≡ length old.bytes → count ≡ length old.numbers
    → IsMade (first_call script) rest old new line → (length rest ≤ length script) × StoresLine (take (length script - length rest) script) start count new line
made_stores script rest start count old new line from after made =
    let (within, own) = first-own script rest (call_with made.bytes made.numbers line) made.spells in
    let bytes : drop start new.bytes ≡ made.bytes = rw (from, made.puts.bytes_stored) (drop_at old.bytes made.bytes (length old.bytes) refl) in
    let numbers : drop count new.numbers ≡ made.numbers = rw (after, made.puts.numbers_stored) (drop_at old.numbers made.numbers (length old.numbers) refl) in
    let all : length new.bytes ≡ length old.bytes + length made.bytes = ap length made.puts.bytes_stored ∙ length-append old.bytes made.bytes in
    let each : length new.numbers ≡ length old.numbers + length made.numbers = ap length made.puts.numbers_stored ∙ length-append old.numbers made.numbers in (
      within,
      record {
        bytes_within = omega (arith, all);
        numbers_within = omega (arith, each);
        says = record {
          spells = rw (bytes, numbers) own;
          has_text = rw bytes made.puts.has_text;
          has_len = rw (bytes, numbers) made.puts.has_len;
          has_count = rw numbers made.puts.has_count;
        };
      },
    )
