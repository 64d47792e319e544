-- The faults for which a tree has no JSON or no CBOR.
use Rattle.sval_json.specs.Number.{Refusal, InvalidKey, InvalidNumber}
use Rattle.sval_cbor.specs.Packs.{PackRefusal, BadKey, BadNumber, RawJson, NotInteger}
use Rattle.sval_c.specs.declared.fault.Fault.{Fault}
use Rattle.sval_c.specs.declared.fault.Fault.TheVariants as fault

-- the fault for which a tree has no JSON
abbrev pub fault_of_refusal : Refusal → Fault
fault_of_refusal InvalidKey = fault.InvalidKey
fault_of_refusal InvalidNumber = fault.InvalidNumber

-- the fault for which a tree has no CBOR
abbrev pub fault_of_pack : PackRefusal → Fault
fault_of_pack BadKey = fault.InvalidKey
fault_of_pack BadNumber = fault.InvalidNumber
fault_of_pack RawJson = fault.Raw
fault_of_pack NotInteger = fault.NotInteger
