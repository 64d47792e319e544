-- From what reading, checking and writing a script answered to what serving it answers.
use Rattle.std.specs.Prelude.{◌≡◌, ℕ, ◌+◌, ◌<◌, ◌^◌, ◌⊎◌, true, List, [], ◌∷◌, length, Some, Result, Ok, Err, refl}
use Rattle.std.proofs.Common.{ap, ◌∙◌, sym, subst, arith, inl, inr}
use Rattle.std.proofs.lemmas.List.{length-append}
use Rattle.sval_label.specs.Calls.{Call}
use Rattle.sval_core.specs.Law.{Emission, Rose}
use Rattle.sval_core.specs.Trees.{Tree}
use Rattle.sval_io.specs.Sinks.{Told, IsSteady, NoCountFell, LacksRoom, AppendsFront}
use Rattle.sval_io.proofs.Appending.{all_is_front, steady_counts}
use Rattle.sval_check.specs.declared.error.CheckError.{CheckError}
use Rattle.sval_check.specs.declared.error.CheckError.TheVariants as checking
use Rattle.sval_check.specs.Checks.{IsFirstBadCall, IsUnfinished}
use Rattle.sval_check.specs.ManyChecks.{IsFirstBadOfList, IsUnfinishedList}
use Rattle.sval_json.specs.Number.{Refusal, InvalidKey, InvalidNumber}
use Rattle.sval_script.specs.declared.script.ScriptError.{ScriptError}
use Rattle.sval_script.specs.declared.script.ScriptError.TheVariants as reading
use Rattle.sval_script.specs.Lines.{Good, Bad, lines}
use Rattle.sval_relay.specs.declared.way.Way.{Way}
use Rattle.sval_relay.specs.declared.way.Task.{Task}
use Rattle.sval_relay.specs.declared.relaying.RelayError.{RelayError}
use Rattle.sval_relay.specs.declared.relaying.RelayError.TheVariants as answer
use Rattle.sval_program.specs.Outputs.{Grows}
use Rattle.sval_relay.specs.Verdict.{RelayVerdict, BadLine, BadCall, Unfinished, Key, Number, Text, asked_in, ending, texts, left, text_verdict, one_in, all_in, SpellTrees, IsRelayVerdict, OnVerdict}
use Rattle.sval_relay.specs.Relays.{of_script, of_check, is_of_script, WritesVerdictText, WritesMeant, VerdictMayLeave, LacksRoomFor, WritesValue, WritesUpTo, IsWantIn, IsAnswerTo, Relays}
use Rattle.sval_relay.specs.WrittenTrees.{FailsFull, WritesTexts, RefusesSome, IsCauseAmong, WritesTrees}
use Rattle.sval_relay.proofs.Verdicts.{of_each, one_spelled, verdict_bad_line, verdict_bad_call, verdict_unfinished, verdict_trees}
use Rattle.sval_relay.proofs.LeftTexts.{texts_left}
use Rattle.sval_program.proofs.Growing.{counts_stay, grows_by_nothing, grows_by_front}
use Rattle.sval_relay.proofs.Writing.{may_stay, want_before}

-- ---- what each answer of the parts says of the script

pub first_bad : (script : List ℕ) (way : Way) (calls : List Call) (at : ℕ) → length calls < 2 ^ 64 → lines script ≡ Good calls → IsFirstBadCall calls at → IsRelayVerdict (BadCall at) script (one_in way)
first_bad script way calls at small e bad =
    let size : length calls ≡ length bad.front + (length bad.rest + 1) = ap length bad.whole ∙ length-append bad.front (bad.call ∷ bad.rest) ∙ omega arith in
    let number : length bad.front + 1 ≡ at = omega (arith, bad.number) in
    subst (λ n. IsRelayVerdict (BadCall n) script (one_in way)) number (verdict_bad_call script (one_in way) bad.front bad.rest bad.call (e ∙ ap Good bad.whole) bad.before bad.bad)

pub first_bad_of_list : (script : List ℕ) (way : Way) (calls : List Call) (at : ℕ) → length calls < 2 ^ 64 → lines script ≡ Good calls → IsFirstBadOfList calls at → IsRelayVerdict (BadCall at) script (all_in way)
first_bad_of_list script way calls at small e bad =
    let size : length calls ≡ length bad.front + (length bad.rest + 1) = ap length bad.whole ∙ length-append bad.front (bad.call ∷ bad.rest) ∙ omega arith in
    let number : length bad.front + 1 ≡ at = omega (arith, bad.number) in
    subst (λ n. IsRelayVerdict (BadCall n) script (all_in way)) number (verdict_bad_call script (all_in way) bad.front bad.rest bad.call (e ∙ ap Good bad.whole) bad.before bad.bad)

pub not_finished : (script : List ℕ) (way : Way) (e : Emission) → lines script ≡ Good e.calls → IsUnfinished e → IsRelayVerdict Unfinished script (one_in way)
not_finished script way e is u = verdict_unfinished script (one_in way) e.calls is u.viable (λ trees s. u.no_tree s.0 s.2)

pub list_not_finished : (script : List ℕ) (way : Way) (e : Emission) → lines script ≡ Good e.calls → IsUnfinishedList e → IsRelayVerdict Unfinished script (all_in way)
list_not_finished script way e is u = verdict_unfinished script (all_in way) e.calls is u.viable u.no_trees

-- ---- the answer that is due

due : (script : List ℕ) (task : Task) (found : RelayVerdict) (result : Result (Unit {0}) RelayError) → IsRelayVerdict found script task → IsAnswerTo found result
    → OnVerdict (λ found. IsAnswerTo found result ⊎ (result ≡ Err answer.NoMemory)) script task
due script task found result v p = of_each script task found (λ other. IsAnswerTo other result ⊎ (result ≡ Err answer.NoMemory)) v (inl p)

-- why serving stopped
abbrev IsReason : {K : Type 0} → RelayError → (K → Told) → List ℕ → Task → K → K → Type 0
IsReason (answer.BadLine n) told script task old new = IsRelayVerdict (BadLine n) script task × (new ≡ old)
IsReason (answer.BadCall n) told script task old new = IsRelayVerdict (BadCall n) script task × (new ≡ old)
IsReason answer.Unfinished told script task old new = IsRelayVerdict Unfinished script task × (new ≡ old)
IsReason answer.InvalidKey told script task old new = WritesUpTo Key (told old) (told new) script task
IsReason answer.InvalidNumber told script task old new = WritesUpTo Number (told old) (told new) script task
IsReason answer.Write told script task old new = Rose (told old).faults (told new).faults
IsReason answer.NoMemory told script task old new = IsWantIn task told old new

relays_stopped : {K : Type 0} (told : K → Told) (script : List ℕ) (task : Task) (old new : K) (why : RelayError) → IsReason why told script task old new → OnVerdict (VerdictMayLeave (told old) (told new)) script task
    → Grows (told old) (told new) → NoCountFell (told old) (told new) → Relays told script task (Err why) old new
relays_stopped {K} told script task old new why reason leaves grows counts = record {
  done = λ f. cc f;
  denotes = λ f. cc f;
  bad_line = λ n f. (at (answer.BadLine n) (cc f)).0;
  bad_call = λ n f. (at (answer.BadCall n) (cc f)).0;
  unfinished = λ f. (at answer.Unfinished (cc f)).0;
  invalid_key = λ f. at answer.InvalidKey (cc f);
  invalid_number = λ f. at answer.InvalidNumber (cc f);
  write = λ f. at answer.Write (cc f);
  own_want = λ f. at answer.NoMemory (cc f);
  comes = comes why reason;
  untouched = untouched why reason;
  leaves = leaves;
  grows = grows;
  steady = λ f. cc f;
  counts = counts;
}
  where
    at : (other : RelayError) → why ≡ other → IsReason other told script task old new
    at other same = subst (λ w. IsReason w told script task old new) same reason

    comes : (w : RelayError) → IsReason w told script task old new → (Rose (told old).faults (told new).faults → ⊥) → OnVerdict (λ found. IsAnswerTo found (Err w) ⊎ (◌≡◌ {A = Result (Unit {0}) RelayError} (Err w) (Err answer.NoMemory))) script task
    comes (answer.BadLine n) r quiet = due script task (BadLine n) _ r.0 refl
    comes (answer.BadCall n) r quiet = due script task (BadCall n) _ r.0 refl
    comes answer.Unfinished r quiet = due script task Unfinished _ r.0 refl
    comes answer.InvalidKey r quiet = due script task (Key r.written) _ r.is refl
    comes answer.InvalidNumber r quiet = due script task (Number r.written) _ r.is refl
    comes answer.Write r quiet = absurd (quiet r)
    comes answer.NoMemory r quiet = λ found is. inr refl

    untouched : (w : RelayError) → IsReason w told script task old new → is_of_script w ≡ true → new ≡ old
    untouched (answer.BadLine n) r h = r.1
    untouched (answer.BadCall n) r h = r.1
    untouched answer.Unfinished r h = r.1
    untouched answer.InvalidKey r h = cc h
    untouched answer.InvalidNumber r h = cc h
    untouched answer.Write r h = cc h
    untouched answer.NoMemory r h = cc h

-- ---- before anything is written

pub relays_refused : {K : Type 0} (told : K → Told) (script : List ℕ) (task : Task) (out : K) (why : RelayError) → IsReason why told script task out out → Relays told script task (Err why) out out
relays_refused told script task out why reason = relays_stopped told script task out out why reason (λ found is. may_stay (told out) found) (grows_by_nothing (told out)) (counts_stay (told out))

-- the script wasn't read
pub relays_unread : {K : Type 0} (told : K → Told) (script : List ℕ) (task : Task) (out : K) (e : ScriptError)
    → ((n : ℕ) → ◌≡◌ {A = Result (List Call) ScriptError} (Err e) (Err (reading.BadLine n)) → lines script ≡ Bad n) → Relays told script task (Err (of_script e)) out out
relays_unread told script task out (reading.BadLine n) bad = relays_refused told script task out (answer.BadLine n) (verdict_bad_line script task n (bad n refl), refl)
relays_unread told script task out reading.NoMemory bad = relays_refused told script task out answer.NoMemory (want_before task told out)

-- no reader answers that the sink failed
pub read_before_write : (e : ScriptError) → ◌≡◌ {A = Result (Unit {0}) RelayError} (Err (of_script e)) (Err answer.Write) → ⊥
read_before_write (reading.BadLine n) never = cc never
read_before_write reading.NoMemory never = cc never

-- its calls are no value, or there was no memory to check them
pub relays_unchecked : {K : Type 0} (told : K → Told) (script : List ℕ) (task : Task) (out : K) (e : CheckError) (why : RelayError) → of_check e ≡ Some why
    → ((n : ℕ) → e ≡ checking.BadCall n → IsRelayVerdict (BadCall n) script task) → (e ≡ checking.Unfinished → IsRelayVerdict Unfinished script task) → Relays told script task (Err why) out out
relays_unchecked told script task out (checking.BadCall n) why is bad unfinished =
    let same : answer.BadCall n ≡ why = cc is in
    subst (λ w. Relays told script task (Err w) out out) same (relays_refused told script task out (answer.BadCall n) (bad n refl, refl))
relays_unchecked told script task out checking.Unfinished why is bad unfinished =
    let same : answer.Unfinished ≡ why = cc is in
    subst (λ w. Relays told script task (Err w) out out) same (relays_refused told script task out answer.Unfinished (unfinished refl, refl))
relays_unchecked told script task out checking.NoMemory why is bad unfinished =
    let same : answer.NoMemory ≡ why = cc is in
    subst (λ w. Relays told script task (Err w) out out) same (relays_refused told script task out answer.NoMemory (want_before task told out))
relays_unchecked told script task out checking.Refused why is bad unfinished = absurd (cc is)

-- ---- after the text was written

all_may_stay : {old new : Told} {script : List ℕ} {task : Task} → WritesVerdictText old new script task → OnVerdict (VerdictMayLeave old new) script task
all_may_stay {old} {new} {script} {task} w = of_each script task (Text w.text) (VerdictMayLeave old new) w.is (all_is_front w.text w.appends)

relays_text : {K : Type 0} (told : K → Told) (script : List ℕ) (task : Task) (old new : K) → WritesVerdictText (told old) (told new) script task → WritesValue (told old) (told new) script task → IsSteady (told old) (told new)
    → Relays told script task (Ok tt) old new
relays_text told script task old new w v s = record {
  done = λ f. w;
  denotes = λ f. v;
  bad_line = λ m f. cc f;
  bad_call = λ m f. cc f;
  unfinished = λ f. cc f;
  invalid_key = λ f. cc f;
  invalid_number = λ f. cc f;
  write = λ f. cc f;
  own_want = λ f. cc f;
  comes = λ quiet. due script task (Text w.text) _ w.is refl;
  untouched = tt;
  leaves = all_may_stay w;
  grows = (w.text, w.appends);
  steady = λ f. s;
  counts = steady_counts s;
}

-- ---- what writing answered

module _ (script : List ℕ) (task : Task) (calls : List Call) (trees : List Tree) (is : lines script ≡ Good calls) (spell : SpellTrees task.many calls trees) where
  -- the verdict, where the trees' texts are so
  pub verdict_of : (found : Result (List ℕ) Refusal) → texts (asked_in task.way) (ending (asked_in task.way) task.many) trees ≡ found
      → IsRelayVerdict (text_verdict found (left (asked_in task.way) (ending (asked_in task.way) task.many) trees)) script task
  verdict_of found e =
      subst (λ found. IsRelayVerdict (text_verdict found (left (asked_in task.way) (ending (asked_in task.way) task.many) trees)) script task) e (verdict_trees script task calls trees is spell)

  writes_text : {old new : Told} → WritesTexts (asked_in task.way) (ending (asked_in task.way) task.many) trees old new → WritesVerdictText old new script task
  writes_text w = record { text = w.text; is = verdict_of (Ok w.text) w.is; appends = w.appends }

  writes_value : {old new : Told} → WritesTexts (asked_in task.way) (ending (asked_in task.way) task.many) trees old new → WritesValue old new script task
  writes_value {old} {new} w others them other spell_them =
      let e : Good calls ≡ Good others = sym is ∙ other in
      let same : others ≡ calls = cc e in
      let one : trees ≡ them = one_spelled task.many calls trees them spell (subst (λ x. SpellTrees task.many x them) same spell_them) in
      subst (λ trees. WritesMeant task trees old new) one (record { bytes = w.text; are = w.meant; appends = w.appends })

  -- some tree was refused
  writes_up_to : {old new : Told} (why : Refusal) → RefusesSome (asked_in task.way) (ending (asked_in task.way) task.many) why trees old new → (refusal : List ℕ → RelayVerdict)
      → ((written : List ℕ) → text_verdict (Err why) written ≡ refusal written) → WritesUpTo refusal old new script task
  writes_up_to why r refusal same = record {
    written = left (asked_in task.way) (ending (asked_in task.way) task.many) trees;
    is = subst (λ found. IsRelayVerdict found script task) (same (left (asked_in task.way) (ending (asked_in task.way) task.many) trees)) (verdict_of (Err why) r.is);
    appends = r.appends;
    steady = r.steady;
  }

  -- a fact on what is due of the trees, as a fact on the verdict
  on_due : (P : List ℕ → Type 0) (Q : RelayVerdict → Type 0) → ((bytes : List ℕ) → P bytes → Q (Text bytes) × Q (Key bytes) × Q (Number bytes))
      → P (left (asked_in task.way) (ending (asked_in task.way) task.many) trees) → OnVerdict Q script task
  on_due P Q all p = by_texts (texts (asked_in task.way) (ending (asked_in task.way) task.many) trees) refl
    where
      by_texts : (found : Result (List ℕ) Refusal) → texts (asked_in task.way) (ending (asked_in task.way) task.many) trees ≡ found → OnVerdict Q script task
      by_texts (Ok text) e =
          let same = texts_left (asked_in task.way) (ending (asked_in task.way) task.many) trees text e in
          of_each script task (Text text) Q (verdict_of (Ok text) e) (all text (subst P same p)).0
      by_texts (Err InvalidKey) e = of_each script task _ Q (verdict_of (Err InvalidKey) e) (all _ p).1
      by_texts (Err InvalidNumber) e = of_each script task _ Q (verdict_of (Err InvalidNumber) e) (all _ p).2

  front_may_stay : {old new : Told} → AppendsFront old (left (asked_in task.way) (ending (asked_in task.way) task.many) trees) new → OnVerdict (VerdictMayLeave old new) script task
  front_may_stay {old} {new} begun = on_due (λ bytes. AppendsFront old bytes new) (VerdictMayLeave old new) (λ bytes front. (front, front, front)) begun

  full_for_due : (old : Told) → LacksRoom old (left (asked_in task.way) (ending (asked_in task.way) task.many) trees) → OnVerdict (LacksRoomFor old) script task
  full_for_due old full = on_due (LacksRoom old) (LacksRoomFor old) (λ bytes lacks. (lacks, lacks, lacks)) full

  pub relays_written : {K : Type 0} (told : K → Told) (Want : K → K → Type 0) (old new : K) (result : Result (Unit {0}) RelayError)
      → WritesTrees result Want told (asked_in task.way) (ending (asked_in task.way) task.many) trees old new → (Want old new → IsWantIn task told old new) → Relays told script task result old new
  relays_written told Want old new (Ok done) w wants = relays_text told script task old new (writes_text w) (writes_value w) w.steady
  relays_written told Want old new (Err why) w wants = relays_stopped told script task old new why (by_cause why w.cause) (front_may_stay w.begins) (grows_by_front w.begins) w.counts
    where
      by_cause : (e : RelayError) → IsCauseAmong e Want told (asked_in task.way) (ending (asked_in task.way) task.many) trees old new → IsReason e told script task old new
      by_cause (answer.BadLine n) c = absurd c
      by_cause (answer.BadCall n) c = absurd c
      by_cause answer.Unfinished c = absurd c
      by_cause answer.InvalidKey c = writes_up_to InvalidKey c Key (λ written. refl)
      by_cause answer.InvalidNumber c = writes_up_to InvalidNumber c Number (λ written. refl)
      by_cause answer.Write c = c.fault
      by_cause answer.NoMemory c = wants c

  -- the sink failed only where there was no room
  pub full_where_failed : {K : Type 0} (told : K → Told) (Want : K → K → Type 0) (old new : K) (result : Result (Unit {0}) RelayError)
      → WritesTrees result Want told (asked_in task.way) (ending (asked_in task.way) task.many) trees old new → result ≡ Err answer.Write → OnVerdict (LacksRoomFor (told old)) script task
  full_where_failed told Want old new (Ok done) w e = cc e
  full_where_failed told Want old new (Err why) w e =
      let same : why ≡ answer.Write = cc e in
      let cause : FailsFull (left (asked_in task.way) (ending (asked_in task.way) task.many) trees) (told old) (told new) =
      subst (λ why. IsCauseAmong why Want told (asked_in task.way) (ending (asked_in task.way) task.many) trees old new) same w.cause in
      full_for_due (told old) cause.full
