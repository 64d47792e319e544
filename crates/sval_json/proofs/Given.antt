-- Why there are no bytes: what stopped the writer over a sink in memory.
use Rattle.std.specs.Prelude.{◌≡◌, None, Some, Err, refl}
use Rattle.std.proofs.Common.{sym, ap, ◌∙◌, inl, inr, arith}
use Rattle.sval_core.specs.Law.{Emission, Rose}
use Rattle.sval_io.specs.Taken.{Taken, taken_told}
use Rattle.sval_json.specs.declared.style.Variants.{Variants}
use Rattle.sval_json.specs.Number.{Refusal, InvalidKey, InvalidNumber}
use Rattle.sval_json.specs.declared.error.ErrorKind.{ErrorKind}
use Rattle.sval_json.specs.declared.error.ErrorKind.TheVariants.{Generic, IO}
use Rattle.sval_json.specs.declared.error.ErrorKind.TheVariants as kind
use Rattle.sval_json.specs.ErrorKinds.{refusal_kind}
use Rattle.sval_json.specs.Steps.{written_in}
use Rattle.sval_json.specs.Written.{StreamsJson, RefusesItself}
use Rattle.sval_json.specs.Given.{ComesInMemory, GivesJson}

-- a sink in memory has no fault
no_fault : Rose 0 0 → ⊥
no_fault rose = omega (arith, rose)

module _ {style : Variants} {e : Emission} {old new : Taken} (found : ErrorKind) (streams : StreamsJson style e (Err found) (taken_told old) (taken_told new)) where
  refused : (why : Refusal) → found ≡ refusal_kind why → (written_in style e.calls).refusal ≡ Some why
  refused InvalidKey is = (streams.invalid_key (ap Err is)).refusal
  refused InvalidNumber is = (streams.invalid_number (ap Err is)).refusal

  itself : found ≡ Generic → RefusesItself style e
  itself is = let ended = streams.generic (ap Err is) in record { refuses = ended.refuses; refusal = ended.written.refusal }

  -- which error it is decides what it can stand in place of
  itself_comes : (k : ErrorKind) → found ≡ k → RefusesItself style e → ComesInMemory Generic (Err found)
  itself_comes Generic is r = inl (ap Err is)
  itself_comes IO is r = absurd (no_fault (streams.io (ap Err is)))
  itself_comes kind.InvalidKey is r = let none : None ≡ Some InvalidKey = sym r.refusal ∙ refused InvalidKey is in cc none
  itself_comes kind.InvalidNumber is r = let none : None ≡ Some InvalidNumber = sym r.refusal ∙ refused InvalidNumber is in cc none
  itself_comes kind.NoMemory is r = inr (ap Err is)

  same_refusal : (why other : Refusal) → found ≡ refusal_kind other → (written_in style e.calls).refusal ≡ Some why → found ≡ refusal_kind why
  same_refusal why other is some = let both : Some other ≡ Some why = sym (refused other is) ∙ some in let one : other ≡ why = cc both in is ∙ ap refusal_kind one

  step_comes : (k : ErrorKind) → found ≡ k → (why : Refusal) → (written_in style e.calls).refusal ≡ Some why → ComesInMemory (refusal_kind why) (Err found)
  step_comes Generic is why some = let none : Some why ≡ None = sym some ∙ (itself is).refusal in cc none
  step_comes IO is why some = absurd (no_fault (streams.io (ap Err is)))
  step_comes kind.InvalidKey is why some = inl (ap Err (same_refusal why InvalidKey is some))
  step_comes kind.InvalidNumber is why some = inl (ap Err (same_refusal why InvalidNumber is some))
  step_comes kind.NoMemory is why some = inr (ap Err is)

  -- an error was answered
  pub given_none : GivesJson style e (Err found)
  given_none = record {
    written = tt;
    tree = tt;
    denotes = tt;
    utf8 = tt;
    willing = tt;
    generic_comes = itself_comes found refl;
    generic = λ f. itself (cc f);
    refused_comes = step_comes found refl;
    refused = λ why f. refused why (cc f);
    tree_refused = λ why f. streams.tree_refused why (let same : found ≡ refusal_kind why = cc f in ap Err same);
    io = λ f. no_fault (streams.io (let same : found ≡ IO = cc f in ap Err same));
    no_memory = λ f. let same : found ≡ kind.NoMemory = cc f in let cut = streams.no_memory_short (ap Err same) in omega (arith, cut.within);
  }
