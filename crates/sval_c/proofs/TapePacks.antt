-- What is due of a tape that was read, as CBOR, and why it has none.
use Rattle.std.specs.Prelude.{◌≡◌, ℕ, List, [], Some, None, Ok, Err, refl}
use Rattle.std.proofs.Common.{sym, subst}
use Rattle.sval_label.specs.Calls.{Call}
use Rattle.sval_core.specs.Values.{makes}
use Rattle.sval_io.specs.Taken.{Taken, taken_told}
use Rattle.sval_tape.specs.Taped.{IsTape}
use Rattle.sval_cbor.specs.declared.error.CborError.{CborError}
use Rattle.sval_cbor.specs.declared.error.CborError.TheVariants as error
use Rattle.sval_cbor.specs.Cbor.{cbor}
use Rattle.sval_cbor.specs.Packs.{PackRefusal, BadKey, BadNumber, RawJson, NotInteger}
use Rattle.sval_cbor.specs.Streamed.{StreamsCbor, IsRefusedAs}
use Rattle.sval_c.specs.declared.fault.Fault.TheVariants as fault
use Rattle.sval_c.specs.declared.lack.Lack.{Lack}
use Rattle.sval_c.specs.declared.lack.Lack.TheVariants as lack
use Rattle.sval_c.specs.Faults.{fault_of_pack}
use Rattle.sval_c.specs.Lacks.{lack_of_pack, IsLacking}
use Rattle.sval_c.specs.OfTapes.{CborOfTapeDue, has_cbor, no_cbor, spells_none, bad_call, unfinished}
use Rattle.sval_c.proofs.Taken.{no_rise, taken_whole}
use Rattle.sval_c.proofs.TapeTexts.{spelled}

module _ (calls : List Call) (old new : Taken) where
  -- ---- errors that don't come

  pub write_never : StreamsCbor (makes calls) (Err error.Write) (taken_told old) (taken_told new) → ⊥
  write_never streams = no_rise (streams.write refl)

  pub refusal_never : StreamsCbor (makes calls) (Err error.Refused) (taken_told old) (taken_told new) → ⊥
  refusal_never streams = let never = (streams.only_where tt).refuses in cc never

  module _ (tape : List ℕ) (is : IsTape tape calls) where
    pub packed : old.bytes ≡ [] → StreamsCbor (makes calls) (Ok tt) (taken_told old) (taken_told new) → CborOfTapeDue tape None new.bytes
    packed empty streams =
        let value = streams.value in
        let wrote = streams.written value.spells.0 value.spells.1 in
        subst (CborOfTapeDue tape None) (sym (taken_whole old new (cbor wrote.json) empty wrote.appends))
        (has_cbor value.spells.0 wrote.json (spelled tape calls is value) wrote.packs)

    refused : (why : PackRefusal) → IsRefusedAs (makes calls) why → IsLacking (CborOfTapeDue tape) (lack.Fault (fault_of_pack why))
    refused why r = ([], no_cbor r.value.spells.0 why (spelled tape calls is r.value) (r.packs r.value.spells.0 r.value.spells.1))

    pub unpacked : (why : CborError) (found : Lack) → lack_of_pack why ≡ Some found → StreamsCbor (makes calls) (Err why) (taken_told old) (taken_told new)
        → IsLacking (CborOfTapeDue tape) found
    unpacked error.Key found e streams =
        let same : lack.Fault fault.InvalidKey ≡ found = cc e in subst (IsLacking (CborOfTapeDue tape)) same (refused BadKey (streams.only_where tt))
    unpacked error.Number found e streams =
        let same : lack.Fault fault.InvalidNumber ≡ found = cc e in subst (IsLacking (CborOfTapeDue tape)) same (refused BadNumber (streams.only_where tt))
    unpacked error.Raw found e streams =
        let same : lack.Fault fault.Raw ≡ found = cc e in subst (IsLacking (CborOfTapeDue tape)) same (refused RawJson (streams.only_where tt))
    unpacked error.NotInteger found e streams =
        let same : lack.Fault fault.NotInteger ≡ found = cc e in subst (IsLacking (CborOfTapeDue tape)) same (refused NotInteger (streams.only_where tt))
    unpacked error.NoMemory found e streams = let same : lack.NoMemory ≡ found = cc e in subst (IsLacking (CborOfTapeDue tape)) same tt
    unpacked error.Write found e streams = let never : None ≡ Some found = e in absurd (cc never)
    unpacked (error.BadCall at) found e streams =
        let same : lack.Fault (fault.BadCall at) ≡ found = cc e in subst (IsLacking (CborOfTapeDue tape)) same ([], spells_none (fault.BadCall at) (bad_call at calls is (streams.only_where tt)))
    unpacked error.Unfinished found e streams =
        let same : lack.Fault fault.Unfinished ≡ found = cc e in subst (IsLacking (CborOfTapeDue tape)) same ([], spells_none fault.Unfinished (unfinished calls is (streams.only_where tt)))
    unpacked error.Refused found e streams = let never : None ≡ Some found = e in absurd (cc never)
