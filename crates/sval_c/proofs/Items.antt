-- What is due of an item of CBOR that was read, and why one wasn't.
use Rattle.std.specs.Prelude.{◌≡◌, ℕ, List, [], Some, None, Ok, Err, refl}
use Rattle.std.proofs.Common.{subst}
use Rattle.sval_label.specs.Calls.{Call}
use Rattle.sval_core.specs.Values.{makes}
use Rattle.sval_json.specs.declared.style.Variants.TheVariants.{Inside}
use Rattle.sval_json.specs.declared.error.ErrorKind.{ErrorKind}
use Rattle.sval_json.specs.declared.error.ErrorKind.TheVariants as kind
use Rattle.sval_json.specs.Given.{GivesJson}
use Rattle.sval_json.specs.Number.{InvalidKey, InvalidNumber}
use Rattle.sval_c.specs.declared.fault.Fault.TheVariants as fault
use Rattle.sval_cbor_read.specs.declared.document.CborReadError.{CborReadError}
use Rattle.sval_cbor_read.specs.declared.document.CborReadError.TheVariants as reading
use Rattle.sval_cbor_read.specs.ReadErrors.{IsReadItem, IsCborReadError}
use Rattle.sval_cbor_read.specs.JsonFronts.{IsJsonOfItem}
use Rattle.sval_cbor_read.specs.Serves.{IsInMemory}
use Rattle.sval_cbor_read.proofs.DueTexts.{no_number_refusal, tells_json}
use Rattle.sval_cbor_read.proofs.ItemTrees.{item_promises}
use Rattle.sval_c.specs.declared.lack.Lack.{Lack}
use Rattle.sval_c.specs.declared.lack.Lack.TheVariants as lack
use Rattle.sval_c.specs.Due.{JsonOfCborDue, has_json, bad_key, no_item}
use Rattle.sval_c.specs.Lacks.{lack_of_cbor, lack_of_writing, IsLacking}

pub unread : (input : List ℕ) (why : CborReadError) → IsCborReadError input why → IsLacking (JsonOfCborDue input) (lack_of_cbor why)
unread input (reading.Malformed at) cause = ([], no_item cause.0.no_item)
unread input (reading.Unsupported at) cause = ([], no_item cause.0.no_item)
unread input reading.NoMemory cause = tt

pub at_once : (input text : List ℕ) → IsInMemory input → IsJsonOfItem input text → JsonOfCborDue input None text
at_once input text m is = has_json is.tree is.item (let t = tells_json m is.item is.is in record { json = t.json; shape = t.shape; is_text = t.is_text; value = t.value; is = t.is })

module _ (input : List ℕ) (calls : List Call) (r : IsReadItem input calls) where
  pub written : IsInMemory input → (bytes : List ℕ) → GivesJson Inside (makes calls) (Ok bytes) → JsonOfCborDue input None bytes
  written m bytes given =
      let is = given.denotes r.tree r.spells (item_promises m r.item) in
      has_json r.tree r.item (record { json = is.json; shape = is.shape; is_text = is.text; value = is.value; is = is.is })

  -- ---- errors that don't come

  pub fault_never : GivesJson Inside (makes calls) (Err kind.IO) → ⊥
  fault_never given = given.io refl

  pub number_never : GivesJson Inside (makes calls) (Err kind.InvalidNumber) → ⊥
  number_never given = no_number_refusal input calls r (given.tree_refused InvalidNumber refl r.tree r.spells)

  pub refusal_never : GivesJson Inside (makes calls) (Err kind.Generic) → ⊥
  refusal_never given = let never = (given.generic refl).refuses in cc never

  -- ---- the others

  pub unwritten : (why : ErrorKind) (found : Lack) → lack_of_writing why ≡ Some found → GivesJson Inside (makes calls) (Err why) → IsLacking (JsonOfCborDue input) found
  unwritten kind.InvalidKey found is given =
      let same : lack.Fault fault.InvalidKey ≡ found = cc is in
      subst (IsLacking (JsonOfCborDue input)) same ([], bad_key r.tree r.item (given.tree_refused InvalidKey refl r.tree r.spells))
  unwritten kind.NoMemory found is given = let same : lack.NoMemory ≡ found = cc is in subst (IsLacking (JsonOfCborDue input)) same tt
  unwritten kind.IO found is given = let never : None ≡ Some found = is in absurd (cc never)
  unwritten kind.InvalidNumber found is given = let never : None ≡ Some found = is in absurd (cc never)
  unwritten kind.Generic found is given = let never : None ≡ Some found = is in absurd (cc never)
