-- A script that is read part by part.
use Rattle.std.specs.Prelude.{◌≡◌, ◌≢◌, ◌⊎◌, ℕ, ◌+◌, ◌^◌, ◌<◌, ◌≤◌, List, [], ◌++◌, take, length, Option, Some, None, Err, refl}
use Rattle.std.proofs.Common.{sym, ap, inl, inr, ◌∙◌, arith, append_assoc}
use Rattle.std.proofs.lemmas.List.{length-take-le, length-append, append-nil}
use Rattle.sval_io.specs.Sources.{Supply, Gives}
use Rattle.sval_io.proofs.ReadParts.{IsPartlyRead, read_on, read_whole}
use Rattle.sval_program.specs.Inputs.{GivesPart, HasRead}
use Rattle.sval_script.specs.Lines.{lines}
use Rattle.sval_script.specs.Readings.{ScriptReading, answer_to, answer_with, TakesPiece}
use Rattle.sval_script.specs.declared.script.ScriptError.TheVariants.{NoMemory}

-- what a reader answers that was given these bytes
abbrev pub KnowsInput : ScriptReading → List ℕ → Type 0
KnowsInput reader bytes =
    ((more : List ℕ) → answer_with reader more ≡ answer_to (lines (bytes ++ more))) ⊎ (((more : List ℕ) → answer_with reader more ≡ Err NoMemory) × (0 < length bytes))

-- some first bytes were given to the reader, and the others are left
pub record IsReading (old mid : Supply) (reader : ScriptReading) (count : ℕ) : Type 0 where
  pub bytes : List ℕ
  pub read : IsPartlyRead old.left mid.left bytes
  pub size : length bytes ≡ count
  pub faults : mid.faults ≡ old.faults
  pub knows : KnowsInput reader bytes

knows-more : (old new : ScriptReading) (bytes piece : List ℕ) → 0 < length piece → KnowsInput old bytes → TakesPiece old piece new → KnowsInput new (bytes ++ piece)
knows-more old new bytes piece some (inl knows) (inl takes) =
    inl (λ more. takes more ∙ knows (piece ++ more) ∙ ap (λ b. answer_to (lines b)) (sym (append_assoc bytes piece more)))
knows-more old new bytes piece some (inr wants) (inl takes) = inr (λ more. takes more ∙ wants.0 (piece ++ more), omega (arith, length-append bytes piece, some))
knows-more old new bytes piece some knows (inr wants) = inr (wants, omega (arith, length-append bytes piece, some))

-- one part more
pub reads-more : {old mid : Supply} {reader : ScriptReading} {count : ℕ} (new : Supply) (after : ScriptReading) (b : List ℕ) (n : ℕ) → IsReading old mid reader count → GivesPart n mid b new reader after → n ≢ 0
    → IsReading old new after (count + n)
reads-more {old = old} {mid = mid} {reader = reader} {count = count} new after b n r part more =
    let g : Gives n mid b new = part.gives in
    let size : length (take n b) ≡ n = length-take-le n b g.within in
    let some : 0 < length (take n b) = omega (arith, size, more) in
    record {
      bytes = r.bytes ++ take n b;
      read = read_on old.left mid new r.bytes b n r.read g;
      size = omega (arith, length-append r.bytes (take n b), size, r.size);
      faults = g.faults ∙ r.faults;
      knows = knows-more reader after r.bytes (take n b) some r.knows part.takes;
    }

-- where nothing more came, all was given to the reader
pub reads-all : {old mid : Supply} {reader : ScriptReading} {count : ℕ} (new : Supply) (b : List ℕ) (n : ℕ) → IsReading old mid reader count → Gives n mid b new → n ≡ 0 → 0 < length b → count ≤ 2 ^ 24
    → HasRead old reader new
reads-all {old = old} {mid = mid} {reader = reader} {count = count} new b n r g none some short = record {
  script = r.bytes;
  reads = record {
    taken = read_whole old.left mid new r.bytes b n r.read g none some;
    short = omega (arith, r.size, short);
    faults = g.faults ∙ r.faults;
  };
  answer = answers r.knows;
}
  where
    answers : KnowsInput reader r.bytes → (answer_with reader [] ≡ answer_to (lines r.bytes)) ⊎ ((answer_with reader [] ≡ Err NoMemory) × (0 < length r.bytes))
    answers (inl knows) = inl (knows [] ∙ ap (λ b. answer_to (lines b)) (append-nil r.bytes))
    answers (inr wants) = inr (wants.0 [], wants.1)

-- before the first part
pub reads-none : (old : Supply) (reader : ScriptReading) → ((more : List ℕ) → answer_with reader more ≡ answer_to (lines more)) → IsReading old old reader 0
reads-none old reader knows = record { bytes = []; read = from old.left; size = refl; faults = refl; knows = inl knows }
  where
    from : (left : Option (List ℕ)) → IsPartlyRead left left []
    from None = tt
    from (Some all) = record { there = omega arith; taken = refl; left = refl }
