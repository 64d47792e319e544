-- What is due of a text of JSON that was read, as CBOR, and why it has none.
use Rattle.std.specs.Prelude.{◌≡◌, ℕ, List, [], Some, None, Ok, Err, refl}
use Rattle.std.proofs.Common.{subst, inl, inr}
use Rattle.sval_label.specs.Calls.{Call}
use Rattle.sval_core.specs.Values.{makes}
use Rattle.sval_io.specs.Taken.{Taken, taken_told}
use Rattle.sval_check.specs.Checks.{IsOneValue}
use Rattle.sval_c.specs.declared.fault.Fault.TheVariants as fault
use Rattle.sval_json_read.specs.ReadErrors.{IsReadText}
use Rattle.sval_json_read.specs.Trees.{tree_of}
use Rattle.sval_cbor.specs.declared.error.CborError.{CborError}
use Rattle.sval_cbor.specs.declared.error.CborError.TheVariants as error
use Rattle.sval_cbor.specs.Cbor.{cbor}
use Rattle.sval_cbor.specs.Packs.{PackRefusal, BadKey, BadNumber, RawJson, NotInteger}
use Rattle.sval_cbor.specs.Streamed.{StreamsCbor, IsRefusedAs}
use Rattle.sval_c.specs.declared.lack.Lack.{Lack}
use Rattle.sval_c.specs.declared.lack.Lack.TheVariants as lack
use Rattle.sval_c.specs.Due.{denotes, CborOfTextDue}
use Rattle.sval_c.specs.Faults.{fault_of_pack}
use Rattle.sval_c.specs.Lacks.{lack_of_pack, IsLacking}
use Rattle.sval_c.proofs.Taken.{no_rise, taken_whole}
use Rattle.sval_c.proofs.NoTrees.{no_tree_never}

module _ (input : List ℕ) (calls : List Call) (r : IsReadText input calls) (old new : Taken) where
  one_value : IsOneValue (makes calls)
  one_value = record { willing = refl; spells = (tree_of r.document.value, r.spells) }

  pub packed : old.bytes ≡ [] → StreamsCbor (makes calls) (Ok tt) (taken_told old) (taken_told new) → CborOfTextDue input None new.bytes
  packed empty streams =
      let wrote = streams.written (tree_of r.document.value) r.spells in
      denotes r.document.value r.document.denotes (wrote.json, wrote.packs, taken_whole old new (cbor wrote.json) empty wrote.appends)

  -- ---- errors that don't come

  pub write_never : StreamsCbor (makes calls) (Err error.Write) (taken_told old) (taken_told new) → ⊥
  write_never streams = no_rise (streams.write refl)

  pub refusal_never : StreamsCbor (makes calls) (Err error.Refused) (taken_told old) (taken_told new) → ⊥
  refusal_never streams = let never = (streams.only_where tt).refuses in cc never

  -- ---- the others

  refused : (why : PackRefusal) → IsRefusedAs (makes calls) why → IsLacking (CborOfTextDue input) (lack.Fault (fault_of_pack why))
  refused why is = ([], denotes r.document.value r.document.denotes (why, is.packs (tree_of r.document.value) r.spells, refl, refl))

  pub unpacked : (why : CborError) (found : Lack) → lack_of_pack why ≡ Some found → StreamsCbor (makes calls) (Err why) (taken_told old) (taken_told new) → IsLacking (CborOfTextDue input) found
  unpacked error.Key found is streams =
      let same : lack.Fault fault.InvalidKey ≡ found = cc is in subst (IsLacking (CborOfTextDue input)) same (refused BadKey (streams.only_where tt))
  unpacked error.Number found is streams =
      let same : lack.Fault fault.InvalidNumber ≡ found = cc is in subst (IsLacking (CborOfTextDue input)) same (refused BadNumber (streams.only_where tt))
  unpacked error.Raw found is streams =
      let same : lack.Fault fault.Raw ≡ found = cc is in subst (IsLacking (CborOfTextDue input)) same (refused RawJson (streams.only_where tt))
  unpacked error.NotInteger found is streams =
      let same : lack.Fault fault.NotInteger ≡ found = cc is in subst (IsLacking (CborOfTextDue input)) same (refused NotInteger (streams.only_where tt))
  unpacked error.NoMemory found is streams = let same : lack.NoMemory ≡ found = cc is in subst (IsLacking (CborOfTextDue input)) same tt
  unpacked error.Write found is streams = let never : None ≡ Some found = is in absurd (cc never)
  unpacked (error.BadCall at) found is streams = absurd (no_tree_never (makes calls) one_value (inl (at, streams.only_where tt)))
  unpacked error.Unfinished found is streams = absurd (no_tree_never (makes calls) one_value (inr (streams.only_where tt)))
  unpacked error.Refused found is streams = let never : None ≡ Some found = is in absurd (cc never)
