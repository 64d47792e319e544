-- What is due of a script that was served in memory, and why it has no JSON.
use Rattle.std.specs.Prelude.{◌≡◌, ℕ, false, List, [], Some, None, Ok, Err, refl}
use Rattle.std.proofs.Common.{sym, subst}
use Rattle.sval_io.specs.Taken.{Taken, taken_told}
use Rattle.sval_c.specs.declared.fault.Fault.TheVariants as fault
use Rattle.sval_relay.specs.declared.relaying.RelayError.{RelayError}
use Rattle.sval_relay.specs.declared.relaying.RelayError.TheVariants as answer
use Rattle.sval_relay.specs.declared.way.Way.TheVariants.{Direct}
use Rattle.sval_relay.specs.Verdict.{Text, asked_in, ending, one_in}
use Rattle.sval_relay.specs.Relays.{AreMeant, Relays}
use Rattle.sval_c.specs.declared.lack.Lack.{Lack}
use Rattle.sval_c.specs.declared.lack.Lack.TheVariants as lack
use Rattle.sval_c.specs.Due.{IsScriptVerdict, JsonOfScriptDue, a_text, bad_line, bad_call, unfinished, key_refused, number_refused}
use Rattle.sval_c.specs.Lacks.{lack_of_relay, IsLacking}
use Rattle.sval_c.proofs.Taken.{no_rise, taken_whole}

module _ (script : List ℕ) (old new : Taken) where
  pub served : old.bytes ≡ [] → Relays taken_told script (one_in Direct) (Ok tt) old new → JsonOfScriptDue script None new.bytes
  served empty relays =
      let wrote = relays.done refl in
      let same = taken_whole old new wrote.text empty wrote.appends in
      a_text (subst (λ text. IsScriptVerdict (Text text) script) (sym same) wrote.is)
      (λ calls trees good spell.
      let meant = relays.denotes refl calls trees good spell in
      let is = taken_whole old new meant.bytes empty meant.appends in
      subst (AreMeant (asked_in Direct) (ending (asked_in Direct) false) trees) (sym is) meant.are)

  pub write_never : Relays taken_told script (one_in Direct) (Err answer.Write) old new → ⊥
  write_never relays = no_rise (relays.write refl)

  pub unserved : (why : RelayError) (found : Lack) → lack_of_relay why ≡ Some found → Relays taken_told script (one_in Direct) (Err why) old new → IsLacking (JsonOfScriptDue script) found
  unserved (answer.BadLine line) found is relays =
      let same : lack.Fault (fault.BadLine line) ≡ found = cc is in subst (IsLacking (JsonOfScriptDue script)) same ([], bad_line line (relays.bad_line line refl))
  unserved (answer.BadCall line) found is relays =
      let same : lack.Fault (fault.BadCall line) ≡ found = cc is in subst (IsLacking (JsonOfScriptDue script)) same ([], bad_call line (relays.bad_call line refl))
  unserved answer.Unfinished found is relays =
      let same : lack.Fault fault.Unfinished ≡ found = cc is in subst (IsLacking (JsonOfScriptDue script)) same ([], unfinished (relays.unfinished refl))
  unserved answer.InvalidKey found is relays =
      let same : lack.Fault fault.InvalidKey ≡ found = cc is in
      let up_to = relays.invalid_key refl in
      subst (IsLacking (JsonOfScriptDue script)) same ([], key_refused up_to.written up_to.is)
  unserved answer.InvalidNumber found is relays =
      let same : lack.Fault fault.InvalidNumber ≡ found = cc is in
      let up_to = relays.invalid_number refl in
      subst (IsLacking (JsonOfScriptDue script)) same ([], number_refused up_to.written up_to.is)
  unserved answer.NoMemory found is relays = let same : lack.NoMemory ≡ found = cc is in subst (IsLacking (JsonOfScriptDue script)) same tt
  unserved answer.Write found is relays = let never : None ≡ Some found = is in absurd (cc never)
