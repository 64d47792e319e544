-- What is due of an input, for each export: bytes, or the fault for which there are none.
use Rattle.std.specs.Prelude.{◌≡◌, ℕ, List, [], Option, Some, None, Ok, Err, IsUtf8}
use Rattle.std.specs.Str.{IsValidUpTo}
use Rattle.sval_core.specs.Trees.{Tree}
use Rattle.sval_json.specs.Grammar.{JsonValue, Denotes}
use Rattle.sval_json.specs.Json.{Json}
use Rattle.sval_json.specs.Number.{InvalidKey}
use Rattle.sval_json.specs.Shape.{json_of}
use Rattle.sval_pretty.specs.Layout.{pretty}
use Rattle.sval_c.specs.declared.fault.Fault.{Fault}
use Rattle.sval_c.specs.declared.fault.Fault.TheVariants as fault
use Rattle.sval_c.specs.Faults.{fault_of_pack}
use Rattle.sval_json_read.specs.Documents.{IsBadJson}
use Rattle.sval_json_read.specs.Serves.{IsJsonOfValue}
use Rattle.sval_json_read.specs.Trees.{tree_of}
use Rattle.sval_cbor.specs.Cbor.{cbor}
use Rattle.sval_cbor.specs.Packs.{PackRefusal, pack_of}
use Rattle.sval_cbor_read.specs.Items.{IsItemOf}
use Rattle.sval_cbor_read.specs.Serves.{TellsTreeValue}
use Rattle.sval_relay.specs.declared.way.Way.TheVariants.{Direct}
use Rattle.sval_relay.specs.Relays.{MeansAll}
use Rattle.sval_relay.specs.Verdict as verdict
use Rattle.sval_relay.specs.Verdict.{RelayVerdict, one_in, IsRelayVerdict}

-- ---- of a text of JSON (RFC 8259), where this is due of the value that it denotes

pub data OfText (Of : JsonValue → Option Fault → List ℕ → Type 0) (input : List ℕ) : Option Fault → List ℕ → Type 0 where
  denotes : {found : Option Fault} {bytes : List ℕ} (value : JsonValue) → Denotes input value → Of value found bytes → OfText Of input found bytes
  no_utf8 : (at : ℕ) → (IsUtf8 input → ⊥) → IsValidUpTo input at → OfText Of input (Some (fault.NotUtf8 at)) []
  no_json : (at : ℕ) → IsBadJson input at → OfText Of input (Some (fault.BadJson at)) []

-- of each value nothing is due, and it has no fault
abbrev pub NothingOf : JsonValue → Option Fault → List ℕ → Type 0
NothingOf value found bytes = (found ≡ None) × (bytes ≡ [])

-- its JSON without white space
abbrev pub CompactOf : JsonValue → Option Fault → List ℕ → Type 0
CompactOf value None bytes = IsJsonOfValue value bytes
CompactOf value (Some why) bytes = ⊥

-- the same, with a line for each element and member
abbrev pub PrettyOf : JsonValue → Option Fault → List ℕ → Type 0
PrettyOf value None bytes = (text : List ℕ) × IsJsonOfValue value text × (bytes ≡ pretty text)
PrettyOf value (Some why) bytes = ⊥

-- its CBOR (RFC 8949)
abbrev pub CborOf : JsonValue → Option Fault → List ℕ → Type 0
CborOf value None bytes = (json : Json) × (pack_of (tree_of value) ≡ Ok json) × (bytes ≡ cbor json)
CborOf value (Some why) bytes = (refusal : PackRefusal) × (pack_of (tree_of value) ≡ Err refusal) × (why ≡ fault_of_pack refusal) × (bytes ≡ [])

-- ---- of each export

-- the text is JSON
abbrev pub CheckDue : List ℕ → Option Fault → Type 0
CheckDue input found = OfText NothingOf input found []

abbrev pub CompactDue : List ℕ → Option Fault → List ℕ → Type 0
CompactDue = OfText CompactOf

abbrev pub PrettyDue : List ℕ → Option Fault → List ℕ → Type 0
PrettyDue = OfText PrettyOf

abbrev pub CborOfTextDue : List ℕ → Option Fault → List ℕ → Type 0
CborOfTextDue = OfText CborOf

-- of an item of CBOR (RFC 8949): the JSON of its tree, which denotes what is meant
pub data JsonOfCborDue (input : List ℕ) : Option Fault → List ℕ → Type 0 where
  has_json : {text : List ℕ} (tree : Tree) → IsItemOf input tree → TellsTreeValue tree text → JsonOfCborDue input None text
  bad_key : (tree : Tree) → IsItemOf input tree → json_of tree ≡ Err InvalidKey → JsonOfCborDue input (Some fault.InvalidKey) []
  no_item : ((tree : Tree) → IsItemOf input tree → ⊥) → JsonOfCborDue input (Some fault.BadCbor) []

-- what a script gives, where the JSON of one value is asked for
abbrev pub IsScriptVerdict : RelayVerdict → List ℕ → Type 0
IsScriptVerdict found script = IsRelayVerdict found script (one_in Direct)

-- of a script, by its verdict: the JSON of the one value that its calls spell, which denotes what is meant
pub data JsonOfScriptDue (script : List ℕ) : Option Fault → List ℕ → Type 0 where
  a_text : {text : List ℕ} → IsScriptVerdict (verdict.Text text) script → MeansAll text script (one_in Direct) → JsonOfScriptDue script None text
  bad_line : (line : ℕ) → IsScriptVerdict (verdict.BadLine line) script → JsonOfScriptDue script (Some (fault.BadLine line)) []
  bad_call : (line : ℕ) → IsScriptVerdict (verdict.BadCall line) script → JsonOfScriptDue script (Some (fault.BadCall line)) []
  unfinished : IsScriptVerdict verdict.Unfinished script → JsonOfScriptDue script (Some fault.Unfinished) []
  key_refused : (written : List ℕ) → IsScriptVerdict (verdict.Key written) script → JsonOfScriptDue script (Some fault.InvalidKey) []
  number_refused : (written : List ℕ) → IsScriptVerdict (verdict.Number written) script → JsonOfScriptDue script (Some fault.InvalidNumber) []
