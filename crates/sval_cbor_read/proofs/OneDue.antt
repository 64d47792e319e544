-- Of an input at most one thing is due.
use Rattle.std.specs.Prelude.{◌≡◌, ℕ, List, [], Option, Some, None, Result, Ok, Err, refl}
use Rattle.std.proofs.Common.{sym, ap, ◌∙◌}
use Rattle.sval_core.specs.Trees.{Tree}
use Rattle.sval_json.specs.Json.{Json}
use Rattle.sval_json.specs.Number.{Refusal}
use Rattle.sval_json.specs.Shape.{json_of}
use Rattle.sval_program.specs.declared.failure.Fault.{Fault}
use Rattle.sval_program.specs.declared.failure.Fault.TheVariants as fault
use Rattle.sval_program.specs.Jobs.{OneDue}
use Rattle.sval_program.specs.declared.form.ReadForm.{ReadForm}
use Rattle.sval_program.specs.declared.form.ReadForm.TheVariants as form
use Rattle.sval_cbor_read.specs.Items.{IsItemOf}
use Rattle.sval_cbor_read.specs.Serves.{IsTextOfTree, IsWrittenUpToKey, IsNoItem, CborReadDue, a_text, up_to_key, no_item, cbor_read_terms, most_of}
use Rattle.sval_cbor_read.proofs.DueTexts.{one_tree, due_is_most, up_to_key_is_most}

-- ---- bytes that are an item

-- the fault of a shape: an item has none only where what stands in the place of a key can't be one
abbrev fault_of_shape : Result Json Refusal → Option Fault
fault_of_shape (Ok json) = None
fault_of_shape (Err why) = Some fault.InvalidKey

-- the fault of an item's tree
abbrev fault_of_tree : ReadForm → Tree → Option Fault
fault_of_tree form.Json tree = fault_of_shape (json_of tree)
fault_of_tree form.Calls tree = None

fault_of_text : (asked : ReadForm) (tree : Tree) (text : List ℕ) → IsTextOfTree asked tree text → fault_of_tree asked tree ≡ None
fault_of_text form.Json tree text is = ap fault_of_shape is.shape
fault_of_text form.Calls tree text is = refl

fault_of_key : {input written : List ℕ} (asked : ReadForm) (is : IsWrittenUpToKey written input asked) → fault_of_tree asked is.tree ≡ Some fault.InvalidKey
fault_of_key form.Json is = ap fault_of_shape is.refused
fault_of_key form.Calls is = let never = is.json in cc never

-- what is due of an item is what its tree says, and all that is written of it
record IsByItem (asked : ReadForm) {input : List ℕ} {tree : Tree} (item : IsItemOf input tree) (found : Option Fault) (bytes : List ℕ) : Type 0 where
  is_fault : found ≡ fault_of_tree asked tree
  are_bytes : bytes ≡ most_of asked item

by_item : {input : List ℕ} {tree : Tree} (asked : ReadForm) (item : IsItemOf input tree) (found : Option Fault) (bytes : List ℕ) → CborReadDue asked input found bytes → IsByItem asked item found bytes
by_item asked item _ bytes (a_text due meant) =
    record { is_fault = sym (fault_of_text asked due.tree bytes due.is) ∙ ap (fault_of_tree asked) (one_tree due.item item); are_bytes = due_is_most asked item due }
by_item asked item _ bytes (up_to_key is) =
    record { is_fault = sym (fault_of_key asked is) ∙ ap (fault_of_tree asked) (one_tree is.item item); are_bytes = up_to_key_is_most asked item is }
by_item {tree = tree} asked item _ _ (no_item none) = absurd (none tree item)

of_item : {input : List ℕ} {tree : Tree} (asked : ReadForm) (item : IsItemOf input tree) (found other : Option Fault) (bytes others : List ℕ) → CborReadDue asked input found bytes → CborReadDue asked input other others
    → (found ≡ other) × (bytes ≡ others)
of_item asked item found other bytes others due also =
    let one = by_item asked item found bytes due in
    let two = by_item asked item other others also in
    (one.is_fault ∙ sym two.is_fault, one.are_bytes ∙ sym two.are_bytes)

-- ---- bytes that are none

of_no_item : (asked : ReadForm) (input : List ℕ) → IsNoItem input asked → (found : Option Fault) (bytes : List ℕ) → CborReadDue asked input found bytes → (found ≡ Some fault.BadCbor) × (bytes ≡ [])
of_no_item asked input none _ bytes (a_text due meant) = absurd (none due.tree due.item)
of_no_item asked input none _ bytes (up_to_key is) = absurd (none is.tree is.item)
of_no_item asked input none _ _ (no_item also) = (refl, refl)

pub one_due : OneDue cbor_read_terms
one_due asked input _ other bytes others (a_text due meant) also = of_item asked due.item None other bytes others (a_text due meant) also
one_due asked input _ other bytes others (up_to_key is) also = of_item asked is.item (Some fault.InvalidKey) other bytes others (up_to_key is) also
one_due asked input _ other _ others (no_item none) also = let none_also = of_no_item asked input none other others also in (sym none_also.0, sym none_also.1)
