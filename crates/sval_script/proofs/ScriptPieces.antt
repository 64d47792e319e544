-- What reading a script in pieces knows at each line feed.
use Rattle.std.specs.Prelude.{◌≡◌, ℕ, ◌+◌, ◌<◌, Bool, true, false, ◌==◌, if◌then◌else◌, List, [], ◌∷◌, ◌++◌, Option, Some, None, option_map, length, refl}
use Rattle.std.proofs.Common.{arith, sym, ap, ◌∙◌, append_assoc}
use Rattle.std.proofs.lemmas.List.{length-append, append-nil}
use Rattle.sval_label.specs.Calls.{Call}
use Rattle.sval_script.specs.Lines.{Bad, line_of, call_of_fields, lines_from, lines, cut_at}
use Rattle.sval_script.specs.Fields.{cut_line}
use Rattle.sval_script.specs.NextFields.{first_call}
use Rattle.sval_script.specs.LineCalls.{Stored, stored, call_with}
use Rattle.sval_script.specs.MadeLines.{IsMade}
use Rattle.sval_script.specs.Readings.{after_calls, lines_after}
use Rattle.sval_script.specs.ReadLines.{line_calls, lines_with, StoreHoldsLines, EndsLine, ReadsLinesOn, IsFirstBadLine, EndsIn}
use Rattle.sval_script.specs.declared.reader.ReadLines.{ReadLines}
use Rattle.sval_script.specs.declared.script.ScriptError.{ScriptError}
use Rattle.sval_script.specs.declared.line.Line.{Line}
use Rattle.sval_script.proofs.ScriptTexts.{holds-more, calls-more, length-calls_with}
use Rattle.sval_script.proofs.ScriptLines.{at_call, at_none, after_none, after_one}

-- a whole line stays the first, whatever follows
pub cut-more : (bytes more : List ℕ) (line : List ℕ × List ℕ) → cut_line bytes ≡ Some line → cut_line (bytes ++ more) ≡ Some (line.0, line.1 ++ more)
cut-more [] more line e = cc e
cut-more (byte ∷ bytes) more line e = by_feed (byte == 10) (cut_line bytes) refl (cut-more bytes more) refl e
  where
    by_feed : (b : Bool) (rest : Option (List ℕ × List ℕ)) → (byte == 10) ≡ b
        → ((l : List ℕ × List ℕ) → cut_line bytes ≡ Some l → cut_line (bytes ++ more) ≡ Some (l.0, l.1 ++ more)) → cut_line bytes ≡ rest
        → (if b then Some ([], bytes) else option_map (λ (l : List ℕ × List ℕ). let pair : List ℕ × List ℕ = (byte ∷ l.0, l.1) in pair) rest) ≡ Some line
        → cut_line (byte ∷ (bytes ++ more)) ≡ Some (line.0, line.1 ++ more)
    by_feed true rest is later same e = rw is (grind arith)
    by_feed false None is later same e = cc e
    by_feed false (Some l) is later same e = rw (is, later l same) (grind arith)

-- whole bytes that aren't empty begin with a whole line, and whole bytes stand behind it
pub cut-whole : (bytes : List ℕ) → EndsLine bytes → 0 < length bytes → (line : List ℕ × List ℕ) × (cut_line bytes ≡ Some line) × EndsLine line.1
cut-whole [] whole some = absurd (omega arith)
cut-whole (byte ∷ []) whole some = (([], []), rw whole refl, tt)
cut-whole (byte ∷ next ∷ bytes) whole some = by_feed (byte == 10) refl (cut-whole (next ∷ bytes) whole (omega arith))
  where
    by_feed : (b : Bool) → (byte == 10) ≡ b → (line : List ℕ × List ℕ) × (cut_line (next ∷ bytes) ≡ Some line) × EndsLine line.1
        → (line : List ℕ × List ℕ) × (cut_line (byte ∷ next ∷ bytes) ≡ Some line) × EndsLine line.1
    by_feed true is later = (([], next ∷ bytes), rw is refl, whole)
    by_feed false is (line, cut, ends) = ((byte ∷ line.0, line.1), rw (is, cut) refl, ends)

call-more : (bytes more : List ℕ) (line : List ℕ × List ℕ) → cut_line bytes ≡ Some line
    → (first_call bytes ≡ option_map (λ c. let pair : Call × List ℕ = (c, line.1) in pair) (call_of_fields (cut_at 32 line.0)))
    × (first_call (bytes ++ more) ≡ option_map (λ c. let pair : Call × List ℕ = (c, line.1 ++ more) in pair) (call_of_fields (cut_at 32 line.0)))
call-more bytes more line cut = (rw cut refl, rw (cut-more bytes more line cut) refl)

-- the first call of whole bytes, and what follows
pub spells-more : (bytes more : List ℕ) (call : Call) (behind : List ℕ) → EndsLine bytes → 0 < length bytes → first_call bytes ≡ Some (call, behind)
    → (first_call (bytes ++ more) ≡ Some (call, behind ++ more)) × EndsLine behind
spells-more bytes more call behind whole some e =
    let (line, cut, ends) = cut-whole bytes whole some in
    let (here, there) = call-more bytes more line cut in
    by_call (call_of_fields (cut_at 32 line.0)) line.1 ends (sym here ∙ e) there
  where
    by_call : (made : Option Call) (left : List ℕ) → EndsLine left → option_map (λ c. let pair : Call × List ℕ = (c, left) in pair) made ≡ Some (call, behind)
        → first_call (bytes ++ more) ≡ option_map (λ c. let pair : Call × List ℕ = (c, left ++ more) in pair) made
        → (first_call (bytes ++ more) ≡ Some (call, behind ++ more)) × EndsLine behind
    by_call None left ends e there = cc e
    by_call (Some c) left ends e there =
        let same : (c ≡ call) × (left ≡ behind) = grind arith in
        (there ∙ rw (same.0, same.1) refl, rw (← same.1) ends)

pub spells-none : (bytes more : List ℕ) → EndsLine bytes → 0 < length bytes → first_call bytes ≡ None → first_call (bytes ++ more) ≡ None
spells-none bytes more whole some e =
    let (line, cut, ends) = cut-whole bytes whole some in
    let (here, there) = call-more bytes more line cut in
    by_call (call_of_fields (cut_at 32 line.0)) line.1 (sym here ∙ e) there
  where
    by_call : (made : Option Call) (left : List ℕ) → option_map (λ c. let pair : Call × List ℕ = (c, left) in pair) made ≡ None
        → first_call (bytes ++ more) ≡ option_map (λ c. let pair : Call × List ℕ = (c, left ++ more) in pair) made → first_call (bytes ++ more) ≡ None
    by_call None left e there = there
    by_call (Some c) left e there = cc e

-- some first lines were read, and the rest of the bytes is left
pub record IsReadUpTo (old : List Call) (bytes rest : List ℕ) (store : Stored) (made : List Line) : Type 0 where
  pub holds : StoreHoldsLines made store
  pub whole : EndsLine rest
  pub here : (more : List ℕ) → lines_after old (bytes ++ more) ≡ lines_after (line_calls made store) (rest ++ more)

pub read-start : (bytes : List ℕ) (store : Stored) (made : List Line) → StoreHoldsLines made store → EndsLine bytes → IsReadUpTo (line_calls made store) bytes bytes store made
read-start bytes store made holds whole = record { holds = holds; whole = whole; here = λ more. refl }

pub read-step : {old : List Call} {bytes rest : List ℕ} {store : Stored} {made : List Line} (new : Stored) (line : Line) (behind : List ℕ) → IsReadUpTo old bytes rest store made
    → 0 < length rest → IsMade (first_call rest) behind store new line → IsReadUpTo old bytes behind new (made ++ (line ∷ []))
read-step {old = old} {bytes = bytes} {rest = rest} {store = store} {made = made} new line behind r some m =
    let calls = line_calls made store in
    let call = call_with m.bytes m.numbers line in
    let more : line_calls (made ++ (line ∷ [])) new ≡ calls ++ (call ∷ []) =
    rw (m.puts.bytes_stored, m.puts.numbers_stored) (calls-more m.bytes m.numbers line store.bytes store.numbers made r.holds m.puts.has_len m.puts.has_count) in
    record {
      holds = rw (m.puts.bytes_stored, m.puts.numbers_stored)
          (holds-more m.bytes m.numbers line store.bytes store.numbers made r.holds m.puts.has_len m.puts.has_count m.puts.has_text);
      whole = (spells-more rest [] call behind r.whole some m.spells).1;
      here = λ after.
          let left = lines_from line_of (length calls + 1 + 1) (cut_at 10 (behind ++ after)) in
          let longer : length (calls ++ (call ∷ [])) ≡ length calls + 1 = length-append calls (call ∷ []) in
          let first = (spells-more rest after call behind r.whole some m.spells).0 in
          r.here after ∙ ap (after_calls calls) (at_call (length calls + 1) (rest ++ after) (behind ++ after) call first).0 ∙ after_one calls (length calls + 1) call left ∙ rw (more, longer) refl;
    }

pub read-shorter : (rest : List ℕ) (store new : Stored) (line : Line) (behind : List ℕ) → IsMade (first_call rest) behind store new line → length behind < length rest
read-shorter rest store new line behind m = (at_call 1 rest behind (call_with m.bytes m.numbers line) m.spells).1

pub read-bad : {old : List Call} {bytes rest : List ℕ} {store : Stored} {made : List Line} → IsReadUpTo old bytes rest store made → first_call rest ≡ None → 0 < length rest
    → (more : List ℕ) → lines_after old (bytes ++ more) ≡ Bad (length made + 1)
read-bad {rest = rest} {store = store} {made = made} r none some more =
    let calls = line_calls made store in
    let count : length calls ≡ length made = length-calls_with store.bytes store.numbers made in
    let longer : 0 < length (rest ++ more) = omega (arith, length-append rest more, some) in
    r.here more ∙ ap (after_calls calls) (at_none (length calls + 1) (rest ++ more) (spells-none rest more r.whole some none) longer) ∙ rw count refl

pub none : (bytes : List ℕ) → length bytes ≡ 0 → bytes ≡ []
none [] h = refl
none (byte ∷ bytes) h = absurd (omega arith)

-- a line that is bad stays so, whatever follows
pub bad-more : (calls : List Call) (a b : List ℕ) (why : ScriptError) → IsFirstBadLine calls a why → IsFirstBadLine calls (a ++ b) why
bad-more calls a b why bad n more e = ap (lines_after calls) (append_assoc a b more) ∙ bad n (b ++ more) e

-- the line that is begun goes on
pub begun-on : (calls : List Call) (begun piece more : List ℕ) → lines_after calls (begun ++ piece ++ more) ≡ lines_after calls (begun ++ (piece ++ more))
begun-on calls begun piece more = ap (lines_after calls) (append_assoc begun piece more)

-- whole lines, and the line that is begun behind them
pub pieces-on : (old mid : ReadLines) (whole behind tail piece more : List ℕ) (new : List Line) (after : Stored) → EndsIn old whole behind mid
    → ReadsLinesOn mid.lines.items (stored mid.store) behind new after → whole ++ tail ≡ piece → lines_after (line_calls new after) (tail ++ more) ≡ lines_with old (piece ++ more)
pieces-on old mid whole behind tail piece more new after ends reads same =
    sym (reads.goes_on (tail ++ more)) ∙ ends.goes_on (tail ++ more)
    ∙ ap (λ bytes. lines_with old bytes) (sym (append_assoc whole tail more) ∙ ap (λ bytes. bytes ++ more) same)

-- a bad line behind the one that was begun
pub bad-behind : (old mid : ReadLines) (whole behind tail piece : List ℕ) (why : ScriptError) → EndsIn old whole behind mid
    → IsFirstBadLine (line_calls mid.lines.items (stored mid.store)) behind why → whole ++ tail ≡ piece → IsFirstBadLine (line_calls old.lines.items (stored old.store)) (old.begun.items ++ piece) why
bad-behind old mid whole behind tail piece why ends bad same n more e =
    begun-on (line_calls old.lines.items (stored old.store)) old.begun.items piece more
    ∙ ap (λ bytes. lines_with old bytes) (ap (λ bytes. bytes ++ more) (sym same) ∙ append_assoc whole tail more)
    ∙ sym (ends.goes_on (tail ++ more)) ∙ bad n (tail ++ more) e

-- before the first piece the script is what comes
pub none-yet : (more : List ℕ) → lines_after [] more ≡ lines more
unfolding lines
none-yet more = after_none (lines_from line_of 1 (cut_at 10 more))

-- a line that is begun and never ends
pub never-ends : (calls : List Call) (begun : List ℕ) → cut_line begun ≡ None → 0 < length begun → lines_after calls (begun ++ []) ≡ Bad (length calls + 1)
never-ends calls begun none some =
    let first : first_call begun ≡ None = rw none refl in
    ap (lines_after calls) (append-nil begun) ∙ ap (after_calls calls) (at_none (length calls + 1) begun first some)
