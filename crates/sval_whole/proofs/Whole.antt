-- What writing answers, by what the check and the writer answer.
use Rattle.std.specs.Prelude.{◌≡◌, ◌⊎◌, ℕ, true, false, Result, Ok, Err, refl}
use Rattle.std.proofs.Common.{sym, ap, ◌∙◌, inl, inr, arith}
use Rattle.sval_core.specs.Law.{Emission}
use Rattle.sval_core.specs.Spells.{Spells}
use Rattle.sval_core.specs.Trees.{Tree}
use Rattle.sval_io.specs.Sinks.{Told}
use Rattle.sval_io.proofs.Appending.{appends_nothing, all_is_front, steady_alone, steady_counts}
use Rattle.sval_check.specs.Checks.{CheckAnswer, IsCheckDue, IsOneValue, IsFirstBadCall, OnlyRefuses, IsUnfinished, NeedsMemory}
use Rattle.sval_check.specs.declared.error.CheckError.{CheckError}
use Rattle.sval_check.specs.declared.error.CheckError.TheVariants as check
use Rattle.sval_check.proofs.OneAnswer.{one_due}
use Rattle.sval_json.specs.declared.style.Variants.{Variants}
use Rattle.sval_json.specs.declared.error.ErrorKind.{ErrorKind}
use Rattle.sval_json.specs.declared.error.ErrorKind.TheVariants as kind
use Rattle.sval_json.specs.ErrorKinds.{refusal_kind}
use Rattle.sval_json.specs.Json.{Json, compact}
use Rattle.sval_json.specs.Number.{Refusal, InvalidKey, InvalidNumber}
use Rattle.sval_json.specs.Shape.{json_in}
use Rattle.sval_json.specs.Written.{WritesSpelledTree, RefusesSpelledTree, BeginsSpelledTree, StreamsJson}
use Rattle.sval_whole.specs.declared.error.WriteError.TheVariants as error
use Rattle.sval_whole.specs.Whole.{of_check_error, of_json_error, WriteAnswer, IsWriteDue, ComesOrDeclined, IsWriteCause, WritesJson}

-- ---- what the check answers where this is due

-- of a value that has no JSON it answers Ok
abbrev pub checked_answer : WriteAnswer → CheckAnswer
checked_answer (Ok done) = Ok tt
checked_answer (Err (error.BadCall at)) = Err (check.BadCall at)
checked_answer (Err error.Unfinished) = Err check.Unfinished
checked_answer (Err error.Refused) = Err check.Refused
checked_answer (Err error.InvalidKey) = Ok tt
checked_answer (Err error.InvalidNumber) = Ok tt
checked_answer (Err error.Write) = Err check.NoMemory
checked_answer (Err error.NoMemory) = Err check.NoMemory

pub due_of_check : (style : Variants) (e : Emission) (due : WriteAnswer) → IsWriteDue style e due → IsCheckDue e (checked_answer due)
due_of_check style e (Ok done) d = d.value
due_of_check style e (Err (error.BadCall at)) d = d
due_of_check style e (Err error.Unfinished) d = d
due_of_check style e (Err error.Refused) d = d
due_of_check style e (Err error.InvalidKey) d = d.value
due_of_check style e (Err error.InvalidNumber) d = d.value
due_of_check style e (Err error.Write) d = d
due_of_check style e (Err error.NoMemory) d = d

-- ---- the calls didn't pass the check

-- what the check found is what is due
pub found_is_due : (style : Variants) (e : Emission) (found : CheckError) (due : WriteAnswer) → IsWriteDue style e due → ◌≡◌ {A = CheckAnswer} (Err found) (checked_answer due)
    → ◌≡◌ {A = WriteAnswer} (Err (of_check_error found)) due
found_is_due style e found (Ok done) d is = cc is
found_is_due style e found (Err (error.BadCall at)) d is = let same : found ≡ check.BadCall at = cc is in ap (λ f. Err (of_check_error f)) same
found_is_due style e found (Err error.Unfinished) d is = let same : found ≡ check.Unfinished = cc is in ap (λ f. Err (of_check_error f)) same
found_is_due style e found (Err error.Refused) d is = let same : found ≡ check.Refused = cc is in ap (λ f. Err (of_check_error f)) same
found_is_due style e found (Err error.InvalidKey) d is = cc is
found_is_due style e found (Err error.InvalidNumber) d is = cc is
found_is_due style e found (Err error.Write) d is = absurd d
found_is_due style e found (Err error.NoMemory) d is = absurd d

-- the sink is as it was
nothing_begins : (style : Variants) (e : Emission) (told : Told) → BeginsSpelledTree style e.calls told told
nothing_begins style e told tree json spells shape = record { count = 0; within = omega arith; appends = appends_nothing told }

module _ {K : Type 0} (style : Variants) (e : Emission) (told : K → Told) (out : K) (found : CheckError) where
  not_checked : IsWriteCause style e told (of_check_error found) out out → ((due : CheckAnswer) → IsCheckDue e due → (◌≡◌ {A = CheckAnswer} (Err found) due) ⊎ (◌≡◌ {A = CheckAnswer} (Err found) (Err check.NoMemory)))
      → WritesJson style e told (Err (of_check_error found)) out out
  not_checked cause comes = record {
    done = tt;
    cause = cause;
    comes = λ due d. by_answer due d (comes (checked_answer due) (due_of_check style e due d));
    prefix = nothing_begins style e (told out);
    counts = steady_counts (steady_alone (told out));
  }
    where
      by_answer : (due : WriteAnswer) → IsWriteDue style e due → (◌≡◌ {A = CheckAnswer} (Err found) (checked_answer due)) ⊎ (◌≡◌ {A = CheckAnswer} (Err found) (Err check.NoMemory))
          → ComesOrDeclined due (Err (of_check_error found))
      by_answer due d (inl is) = inl (found_is_due style e found due d is)
      by_answer due d (inr is) = let want : found ≡ check.NoMemory = cc is in inr (inr (ap (λ f. Err (of_check_error f)) want))

-- whatever the check found
pub unchecked_writes : {K : Type 0} (style : Variants) (e : Emission) (told : K → Told) (out : K) (found : CheckError)
    → ((at : ℕ) → ◌≡◌ {A = CheckAnswer} (Err found) (Err (check.BadCall at)) → IsFirstBadCall e.calls at)
    → (◌≡◌ {A = CheckAnswer} (Err found) (Err check.Refused) → OnlyRefuses e)
    → (◌≡◌ {A = CheckAnswer} (Err found) (Err check.Unfinished) → IsUnfinished e)
    → (◌≡◌ {A = CheckAnswer} (Err found) (Err check.NoMemory) → NeedsMemory e.calls)
    → ((due : CheckAnswer) → IsCheckDue e due → (◌≡◌ {A = CheckAnswer} (Err found) due) ⊎ (◌≡◌ {A = CheckAnswer} (Err found) (Err check.NoMemory)))
    → WritesJson style e told (Err (of_check_error found)) out out
unchecked_writes style e told out (check.BadCall at) bad refused unfinished needs comes = not_checked style e told out (check.BadCall at) (bad at refl, refl) comes
unchecked_writes style e told out check.Refused bad refused unfinished needs comes = not_checked style e told out check.Refused (refused refl, refl) comes
unchecked_writes style e told out check.Unfinished bad refused unfinished needs comes = not_checked style e told out check.Unfinished (unfinished refl, refl) comes
unchecked_writes style e told out check.NoMemory bad refused unfinished needs comes = not_checked style e told out check.NoMemory (inl (needs refl, refl)) comes

-- ---- the calls are one whole value

module _ (style : Variants) (e : Emission) (one : IsOneValue e) where
  -- the check finds nothing
  none_found : (found : CheckError) → IsCheckDue e (Err found) → ⊥
  none_found found d = let never = one_due e (Ok tt) (Err found) one d in cc never

  -- it has a JSON, or has none
  never_both : (why : Refusal) → RefusesSpelledTree style why e.calls → ((tree : Tree) → Spells e.calls tree → (json : Json) × (json_in style tree ≡ Ok json)) → ⊥
  never_both why lacks has =
      let tree = one.spells.0 in
      let spells = one.spells.1 in
      let never : Ok (has tree spells).0 ≡ Err why = sym (has tree spells).1 ∙ lacks tree spells in cc never

  pub written_is_due : (due : WriteAnswer) → IsWriteDue style e due → ((tree : Tree) → Spells e.calls tree → (json : Json) × (json_in style tree ≡ Ok json)) → Ok tt ≡ due
  written_is_due (Ok done) d has = refl
  written_is_due (Err (error.BadCall at)) d has = absurd (none_found (check.BadCall at) d)
  written_is_due (Err error.Unfinished) d has = absurd (none_found check.Unfinished d)
  written_is_due (Err error.Refused) d has = absurd (none_found check.Refused d)
  written_is_due (Err error.InvalidKey) d has = absurd (never_both InvalidKey d.shape has)
  written_is_due (Err error.InvalidNumber) d has = absurd (never_both InvalidNumber d.shape has)
  written_is_due (Err error.Write) d has = absurd d
  written_is_due (Err error.NoMemory) d has = absurd d

  -- it has none for one cause alone
  one_cause : (why other : Refusal) → RefusesSpelledTree style why e.calls → RefusesSpelledTree style other e.calls → why ≡ other
  one_cause why other lacks also =
      let both : ◌≡◌ {A = Result Json Refusal} (Err why) (Err other) = sym (lacks one.spells.0 one.spells.1) ∙ also one.spells.0 one.spells.1 in cc both

  pub refused_is_due : (why : Refusal) (due : WriteAnswer) → RefusesSpelledTree style why e.calls → IsWriteDue style e due → ◌≡◌ {A = WriteAnswer} (Err (of_json_error (refusal_kind why))) due
  refused_is_due why (Ok done) lacks d = absurd (never_both why lacks d.shape)
  refused_is_due why (Err (error.BadCall at)) lacks d = absurd (none_found (check.BadCall at) d)
  refused_is_due why (Err error.Unfinished) lacks d = absurd (none_found check.Unfinished d)
  refused_is_due why (Err error.Refused) lacks d = absurd (none_found check.Refused d)
  refused_is_due why (Err error.InvalidKey) lacks d = ap (λ w. Err (of_json_error (refusal_kind w))) (one_cause why InvalidKey lacks d.shape)
  refused_is_due why (Err error.InvalidNumber) lacks d = ap (λ w. Err (of_json_error (refusal_kind w))) (one_cause why InvalidNumber lacks d.shape)
  refused_is_due why (Err error.Write) lacks d = absurd d
  refused_is_due why (Err error.NoMemory) lacks d = absurd d

module _ {K : Type 0} (style : Variants) (e : Emission) (told : K → Told) (old new : K) (one : IsOneValue e) where
  -- its text begins with all of it
  all_begins : WritesSpelledTree style e.calls (told old) (told new) → BeginsSpelledTree style e.calls (told old) (told new)
  all_begins writes tree json spells shape =
      let wrote = writes tree spells in
      let both : ◌≡◌ {A = Result Json Refusal} (Ok wrote.json) (Ok json) = sym wrote.shape ∙ shape in
      let same : wrote.json ≡ json = cc both in
      rw (sym same) (all_is_front (compact wrote.json) wrote.appends)

  pub checked_writes : StreamsJson style e (Ok tt) (told old) (told new) → WritesJson style e told (Ok tt) old new
  checked_writes s = record {
    done = record { value = one; tree = s.tree; denotes = s.denotes; written = s.written; utf8 = s.utf8; steady = s.steady };
    cause = tt;
    comes = λ due d. inl (written_is_due style e one due d (λ tree spells. let wrote = s.tree tree spells in (wrote.json, wrote.shape)));
    prefix = all_begins s.tree;
    counts = s.counts;
  }

  pub checked_stops : (found : ErrorKind) → StreamsJson style e (Err found) (told old) (told new) → WritesJson style e told (Err (of_json_error found)) old new
  checked_stops kind.Generic s = let never : true ≡ false = sym (s.generic refl).refuses ∙ one.willing in cc never
  checked_stops kind.IO s = record {
    done = tt;
    cause = record { value = one; fault = s.io refl; full = s.io_room refl; cut = s.io_short refl };
    comes = λ due d. inr (inl refl);
    prefix = s.tree_prefix;
    counts = s.counts;
  }
  checked_stops kind.InvalidKey s = record {
    done = tt;
    cause = record { lacks = record { value = one; shape = s.tree_refused InvalidKey refl }; left = s.invalid_key refl };
    comes = λ due d. inl (refused_is_due style e one InvalidKey due (s.tree_refused InvalidKey refl) d);
    prefix = s.tree_prefix;
    counts = s.counts;
  }
  checked_stops kind.InvalidNumber s = record {
    done = tt;
    cause = record { lacks = record { value = one; shape = s.tree_refused InvalidNumber refl }; left = s.invalid_number refl };
    comes = λ due d. inl (refused_is_due style e one InvalidNumber due (s.tree_refused InvalidNumber refl) d);
    prefix = s.tree_prefix;
    counts = s.counts;
  }
  checked_stops kind.NoMemory s = record {
    done = tt;
    cause = inr (record { value = one; want = s.no_memory refl; cut = s.no_memory_short refl });
    comes = λ due d. inr (inr refl);
    prefix = s.tree_prefix;
    counts = s.counts;
  }
