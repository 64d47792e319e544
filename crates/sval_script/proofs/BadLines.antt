-- Bad lines: what follows a line that ended changes nothing of it.
use Rattle.std.specs.Prelude.{◌≡◌, ℕ, zero, suc, ◌+◌, ◌<◌, Bool, true, false, ◌==◌, cond, ⊤, List, [], ◌∷◌, ◌++◌, length, get_or, Option, Some, None, IsSome, Result, Ok, Err, IfErr, refl}
use Rattle.std.specs.List.{onto_first}
use Rattle.std.proofs.Common.{arith, sym, ap, ◌∙◌, append_assoc, inl, inr}
use Rattle.std.proofs.lemmas.List.{append-nil}
use Rattle.sval_label.specs.Calls.{Call}
use Rattle.sval_script.specs.Lines.{Good, Bad, line_of, lines_from, with_call, cut_at}
use Rattle.sval_script.specs.Fields.{cut_line}
use Rattle.sval_script.specs.LineCalls.{stored, Stored}
use Rattle.sval_script.specs.Readings.{after_calls, lines_after, HasBadLineAt}
use Rattle.sval_script.specs.ReadLines.{line_calls, lines_with, ReadsLinesOn, IsFirstBadLine, NamesBadLine, AreReadLines, EndsIn, ReadsPiece}
use Rattle.sval_script.specs.declared.reader.ReadLines.{ReadLines}
use Rattle.sval_script.specs.declared.script.ScriptError.{ScriptError}
use Rattle.sval_script.specs.declared.script.ScriptError.TheVariants.{BadLine, NoMemory}
use Rattle.sval_script.specs.declared.line.Line.{Line}
use Rattle.sval_script.proofs.ScriptLines.{first_part}

-- the first bad one among parts of which all but the last have ended
record BadAt (read : List ℕ → Option Call) (parts : List (List ℕ)) (place : ℕ) : Type 0 where
  ended : place + 1 < length parts
  bad : read (get_or parts place []) ≡ None
  good : (k : ℕ) → k < place → IsSome (read (get_or parts k []))

bad_at : {bytes : List ℕ} {place : ℕ} → HasBadLineAt bytes place → BadAt line_of (cut_at 10 bytes) place
bad_at has = record { ended = has.ended; bad = has.bad; good = has.good }

behind_first : {read : List ℕ → Option Call} {part : List ℕ} {parts : List (List ℕ)} {place : ℕ} → BadAt read (part ∷ parts) (suc place) → BadAt read parts place
behind_first b = record { ended = let some = b.ended in omega arith; bad = b.bad; good = λ k below. b.good (suc k) (omega arith) }

first_bad : (read : List ℕ → Option Call) (n : ℕ) (parts : List (List ℕ)) (place : ℕ) → BadAt read parts place → lines_from read n parts ≡ Bad (n + place)
first_bad read n [] place b = let ended = b.ended in absurd (omega arith)
first_bad read n (part ∷ []) place b = let ended = b.ended in absurd (omega arith)
first_bad read n (part ∷ next ∷ parts) zero b = rw b.bad (grind arith)
first_bad read n (part ∷ next ∷ parts) (suc place) b = by_call (read part) (b.good 0 (omega arith)) (first_bad read (n + 1) (next ∷ parts) place (behind_first b))
  where
    by_call : (made : Option Call) → IsSome made → lines_from read (n + 1) (next ∷ parts) ≡ Bad (n + 1 + place) → with_call n made (lines_from read (n + 1) (next ∷ parts)) ≡ Bad (n + suc place)
    by_call None some e = cc some
    by_call (Some call) some e = rw e (ap Bad (omega arith))

-- two lists of parts that differ in the last one alone
abbrev DifferInLast : List (List ℕ) → List (List ℕ) → Type 0
DifferInLast (a ∷ []) (b ∷ []) = ⊤
DifferInLast (a ∷ x ∷ xs) (b ∷ y ∷ ys) = (a ≡ b) × DifferInLast (x ∷ xs) (y ∷ ys)
DifferInLast _ _ = ⊥

differ_behind : (xs ys : List (List ℕ)) → DifferInLast xs ys → DifferInLast ([] ∷ xs) ([] ∷ ys)
differ_behind [] ys d = absurd d
differ_behind (a ∷ []) [] d = absurd d
differ_behind (a ∷ x ∷ xs) [] d = absurd d
differ_behind (a ∷ xs) (b ∷ ys) d = (refl, d)

differ_onto : (byte : ℕ) (xs ys : List (List ℕ)) → DifferInLast xs ys → DifferInLast (onto_first byte xs) (onto_first byte ys)
differ_onto byte [] ys d = absurd d
differ_onto byte (a ∷ []) [] d = absurd d
differ_onto byte (a ∷ []) (b ∷ []) d = tt
differ_onto byte (a ∷ []) (b ∷ y ∷ ys) d = absurd d
differ_onto byte (a ∷ x ∷ xs) [] d = absurd d
differ_onto byte (a ∷ x ∷ xs) (b ∷ []) d = absurd d
differ_onto byte (a ∷ x ∷ xs) (b ∷ y ∷ ys) d = (ap (λ part. byte ∷ part) d.0, d.1)

-- bytes without a line feed change no line before the last
differ_in_last : (s t : List ℕ) → cut_at 10 t ≡ t ∷ [] → DifferInLast (cut_at 10 s) (cut_at 10 (s ++ t))
differ_in_last [] t one = rw one tt
differ_in_last (byte ∷ s) t one = by_feed (byte == 10) (differ_in_last s t one)
  where
    by_feed : (feed : Bool) → DifferInLast (cut_at 10 s) (cut_at 10 (s ++ t))
        → DifferInLast (cond feed ([] ∷ cut_at 10 s) (onto_first byte (cut_at 10 s))) (cond feed ([] ∷ cut_at 10 (s ++ t)) (onto_first byte (cut_at 10 (s ++ t))))
    by_feed true d = differ_behind (cut_at 10 s) (cut_at 10 (s ++ t)) d
    by_feed false d = differ_onto byte (cut_at 10 s) (cut_at 10 (s ++ t)) d

bad_before_last : (read : List ℕ → Option Call) (xs ys : List (List ℕ)) (place : ℕ) → DifferInLast xs ys → BadAt read ys place → BadAt read xs place
bad_before_last read [] ys place d b = absurd d
bad_before_last read (a ∷ []) [] place d b = absurd d
bad_before_last read (a ∷ []) (c ∷ []) place d b = let ended = b.ended in absurd (omega arith)
bad_before_last read (a ∷ []) (c ∷ y ∷ ys) place d b = absurd d
bad_before_last read (a ∷ x ∷ xs) [] place d b = absurd d
bad_before_last read (a ∷ x ∷ xs) (c ∷ []) place d b = absurd d
bad_before_last read (a ∷ x ∷ xs) (c ∷ y ∷ ys) zero d b = record { ended = omega arith; bad = rw d.0 b.bad; good = λ k below. absurd (omega arith) }
bad_before_last read (a ∷ x ∷ xs) (c ∷ y ∷ ys) (suc place) d b =
    let behind = bad_before_last read (x ∷ xs) (y ∷ ys) place d.1 (behind_first b) in
    record {
      ended = let ended = behind.ended in omega arith;
      bad = behind.bad;
      good = by_place (b.good 0 (omega arith)) behind.good;
    }
  where
    by_place : IsSome (read c) → ((k : ℕ) → k < place → IsSome (read (get_or (x ∷ xs) k []))) → (k : ℕ) → k < suc place → IsSome (read (get_or (a ∷ x ∷ xs) k []))
    by_place first later zero below = rw d.0 first
    by_place first later (suc k) below = later k (omega arith)

one_part : (bytes : List ℕ) → cut_line bytes ≡ None → cut_at 10 bytes ≡ bytes ∷ []
one_part bytes none = rw none at (first_part bytes)

-- bytes without a line feed have no bad line
pub none_ended : (bytes : List ℕ) (place : ℕ) → cut_line bytes ≡ None → ¬ HasBadLineAt bytes place
none_ended bytes place none has =
    let count : length (cut_at 10 bytes) ≡ 1 = ap length (one_part bytes none) in
    let ended = has.ended in
    omega arith

-- no byte ends no line
pub reads_nothing : (read : ReadLines) (piece : List ℕ) → AreReadLines read → length piece ≡ 0 → ReadsPiece read piece read
reads_nothing read [] is empty = record {
  is_read = is;
  good = λ place has. none_ended read.begun.items place is.begun (rw (← append-nil read.begun.items) has);
  goes_on = λ more. refl;
}
reads_nothing read (byte ∷ piece) is empty = absurd (omega arith)

-- lines that spell calls have no bad line among them, also before a line that is begun
pub none_bad : (calls made : List Call) (bytes tail : List ℕ) (place : ℕ) → lines_after calls bytes ≡ Good made → cut_line tail ≡ None → ¬ HasBadLineAt (bytes ++ tail) place
none_bad calls made bytes tail place good none has =
    let before = bad_before_last line_of (cut_at 10 bytes) (cut_at 10 (bytes ++ tail)) place (differ_in_last bytes tail (one_part tail none)) (bad_at has) in
    let bad : lines_after calls bytes ≡ Bad (length calls + 1 + place) = ap (after_calls calls) (first_bad line_of (length calls + 1) (cut_at 10 bytes) place before) in
    cc

-- the piece is good where its lines were read, and what stands behind them has no line feed
pub good_piece : (old mid : ReadLines) (whole behind tail piece : List ℕ) (new : List Line) (after : Stored) → EndsIn old whole behind mid
    → ReadsLinesOn mid.lines.items (stored mid.store) behind new after → whole ++ tail ≡ piece → cut_line tail ≡ None → (place : ℕ) → ¬ HasBadLineAt (old.begun.items ++ piece) place
good_piece old mid whole behind tail piece new after ends reads same none place has =
    let calls = line_calls old.lines.items (stored old.store) in
    let begun = old.begun.items in
    let all : begun ++ piece ≡ (begun ++ whole) ++ tail = ap (λ bytes. begun ++ bytes) (sym same) ∙ sym (append_assoc begun whole tail) in
    let good : lines_after calls (begun ++ whole) ≡ Good (line_calls new after ++ []) =
    ap (λ bytes. lines_with old bytes) (sym (append-nil whole)) ∙ sym (ends.goes_on []) ∙ reads.goes_on [] in
    none_bad calls (line_calls new after ++ []) (begun ++ whole) tail place good none (rw (← all) has)

-- a reader that finds the first bad line names that of the bytes
names : (calls : List Call) (bytes : List ℕ) (why : ScriptError) → IsFirstBadLine calls bytes why → NamesBadLine calls bytes why
names calls bytes NoMemory first place has = record { cause = inr refl }
names calls bytes (BadLine n) first place has =
    let here : lines_after calls bytes ≡ Bad n = ap (lines_after calls) (sym (append-nil bytes)) ∙ first n [] refl in
    let bad : lines_after calls bytes ≡ Bad (length calls + 1 + place) = ap (after_calls calls) (first_bad line_of (length calls + 1) (cut_at 10 bytes) place (bad_at has)) in
    let same : Bad n ≡ Bad (length calls + 1 + place) = sym here ∙ bad in
    let number : n ≡ length calls + 1 + place = cc in
    record { cause = inl (ap (λ n. Some (BadLine n)) (omega arith)) }

pub names_bad_line : (calls : List Call) (bytes : List ℕ) (result : Result (Unit {0}) ScriptError) → IfErr result (IsFirstBadLine calls bytes) → IfErr result (NamesBadLine calls bytes)
names_bad_line calls bytes (Ok done) first = tt
names_bad_line calls bytes (Err why) first = names calls bytes why first
