-- What a run over the output's buffer says of the writer behind it.
use Rattle.std.specs.Prelude.{◌≡◌, ℕ, Bool, true, false, List, [], ◌∷◌, length, Option, Some, None, refl}
use Rattle.std.proofs.Common.{sym, ap, subst, ◌∙◌, append-nil}
use Rattle.std.specs.Option.{is_some}
use Rattle.std.specs.Io.KnownBytes.{Keeps, Appends as Extends, append_known}
use Rattle.sval_io.specs.Known.{known_if, IsPassedOn}
use Rattle.sval_io.specs.OverBuffer.{buffered_told, known_supply}
use Rattle.sval_io.specs.Sinks.{Told, HoldsNothing, appended, Appends}
use Rattle.sval_io.specs.Sources.{Supply}
use Rattle.sval_program.specs.declared.status.TheConstants.{DONE}
use Rattle.sval_program.specs.Jobs.{Terms}
use Rattle.sval_program.specs.Inputs.{input_if}
use Rattle.sval_program.specs.Runs.{Ends, TakesDue, is_unwritten, reads}
use Rattle.sval_program.specs.Streams.{reader_supply, writer_told, EndsBuffered, AppendsDue, AppendsAllDue}
use Rattle.sval_program.proofs.JobRuns.{on_both}
use Rattle.sval_program.proofs.ToldRuns.{as_told, told_run}

-- ---- before the run

known_is : (tells : Bool) (bytes : Option (List ℕ)) → is_some bytes ≡ tells → known_if tells bytes ≡ bytes
known_is true bytes told = refl
known_is false None told = refl
known_is false (Some held) told = absurd (cc told)

pub told_before : {tells : Bool} {buffer : List ℕ} {faults : ℕ} (text held : Option (List ℕ)) → is_some held ≡ tells → text ≡ known_if tells held → buffer ≡ [] → faults ≡ 0 → buffered_told text buffer faults ≡ writer_told held
told_before {tells} text held told is empty none = rw empty (rw none (ap writer_told (is ∙ known_is tells held told)))

pub left_before : (tells : Bool) (left : Option (List ℕ)) → is_some left ≡ tells → known_supply (known_if tells left) 0 ≡ reader_supply left
left_before tells left told = ap reader_supply (known_is tells left told)

-- what the devices tell of a run
pub run_told : {Form I K : Type 0} {terms : Terms Form} {source : I → Supply} {sink : K → Told} {words : List (List ℕ)} {before after : I} {old new : K} {status : ℕ} {left held : Option (List ℕ)} → Ends terms source sink words before after old new status
    → source before ≡ reader_supply left → sink old ≡ writer_told held → Ends terms as_told as_told words (reader_supply left) (source after) (writer_told held) (sink new) status
run_told {terms = terms} {source} {sink} {words} {before} {after} {old} {new} {status} {left} {held} ends supply told =
    subst (λ out. Ends terms as_told as_told words (reader_supply left) (source after) out (sink new) status) told
    (subst (λ input. Ends terms as_told as_told words input (source after) (sink old) (sink new) status) supply (told_run ends))

-- ---- behind the run

keeps_known : (tells : Bool) (taken : Option (List ℕ)) (rest : List ℕ) (new : Option (List ℕ)) → is_some taken ≡ tells → Keeps taken (append_known (known_if tells new) rest) → Keeps taken (append_known new rest)
keeps_known true taken rest new told keeps = keeps
keeps_known false None rest new told keeps = tt
keeps_known false (Some text) rest new told keeps = absurd (cc told)

nothing : (bytes : List ℕ) → length bytes ≡ 0 → bytes ≡ []
nothing [] none = refl
nothing (byte ∷ bytes) none = absurd (cc none)

pub ends_buffered : {Form : Type 0} {terms : Terms Form} {words : List (List ℕ)} {left old : Option (List ℕ)} {status : ℕ} (tells : Bool) (input : Supply) (taken : Option (List ℕ)) (buffer : List ℕ) (faults : ℕ) (new : Option (List ℕ)) → is_some taken ≡ tells
    → Ends terms as_told as_told words (reader_supply left) input (writer_told old) (buffered_told taken buffer faults) status
    → IsPassedOn taken buffer (known_if tells new) → EndsBuffered terms words left old new status
ends_buffered tells input taken buffer faults new told ends passed = record {
  input = input;
  out = buffered_told taken buffer faults;
  ends = ends;
  rest = passed.rest;
  passed_on = keeps_known tells taken passed.rest new told passed.keeps;
  nothing_left = λ holds. passed.empty (nothing buffer holds);
}

-- ---- what the writer holds

keeps_whole : (old new : Option (List ℕ)) → Keeps old (append_known new []) → Keeps old new
keeps_whole None new keeps = tt
keeps_whole (Some held) None keeps = absurd keeps
keeps_whole (Some held) (Some written) keeps = sym (append-nil written) ∙ keeps

extends : (old new : Option (List ℕ)) (bytes : List ℕ) → Keeps (appended old bytes) (append_known new []) → Extends old new bytes
extends None new bytes keeps = tt
extends (Some held) None bytes keeps = absurd keeps
extends (Some held) (Some written) bytes keeps = sym (append-nil written) ∙ keeps

-- what was passed on, where nothing is held back
all_passed_on : {Form : Type 0} {terms : Terms Form} {words : List (List ℕ)} {left old new : Option (List ℕ)} {status : ℕ} (e : EndsBuffered terms words left old new status) → HoldsNothing e.out → Keeps e.out.text (append_known new [])
all_passed_on {new = new} e holds = subst (λ rest. Keeps e.out.text (append_known new rest)) (e.nothing_left holds) e.passed_on

pub appends_all_due : {Form : Type 0} {terms : Terms Form} {words : List (List ℕ)} {left old new : Option (List ℕ)} {status : ℕ} → EndsBuffered terms words left old new status → status ≡ DONE → AppendsAllDue terms words left old new
appends_all_due {Form} {terms} {words} {left} {old} {new} e done = record {
  appends = on_both (terms.form_named words) (input_if (reads terms words) (reader_supply left)) (TakesDue terms None (writer_told old) e.out) (AppendsDue terms old new) due (e.ends.done done);
}
  where
    due : (input : List ℕ) (asked : Form) → TakesDue terms None (writer_told old) e.out input asked → AppendsDue terms old new input asked
    due input asked takes = (takes.bytes, takes.due, extends old new takes.bytes (subst (λ text. Keeps text (append_known new [])) takes.appends.text (all_passed_on e (e.ends.flushed done))))

pub keeps_unwritten : {Form : Type 0} {terms : Terms Form} {words : List (List ℕ)} {left old new : Option (List ℕ)} {status : ℕ} → EndsBuffered terms words left old new status → is_unwritten terms status ≡ true → Keeps old new
keeps_unwritten {old = old} {new = new} e unwritten =
    let same = e.ends.untouched unwritten in
    let held : HoldsNothing e.out = subst HoldsNothing (sym same) refl in
    keeps_whole old new (subst (λ text. Keeps text (append_known new [])) (ap (λ (told : Told). told.text) same) (all_passed_on e held))
