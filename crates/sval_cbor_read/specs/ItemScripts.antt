-- The canonical script of a document's calls, with each text and each byte string in one fragment.
use Rattle.std.specs.Prelude.{◌≡◌, ℕ, ◌+◌, List, [], ◌∷◌, ◌++◌, codes, decimal, length, Option, Some, None, unwrap_or}
use Rattle.std.specs.Fmt.{signed_decimal}
use Rattle.hex.specs.Hex.{encode_lower}
use Rattle.sval_label.specs.Texts.{truth_text}
use Rattle.sval_label.specs.Calls.{Call, Seq, Map, Item, Key, Value}
use Rattle.sval_script.specs.Printed.{type_word}
use Rattle.sval_cbor_read.specs.declared.node.Kind.TheVariants as kind
use Rattle.sval_cbor_read.specs.declared.node.Node.{Node}
use Rattle.sval_cbor_read.specs.SeenNodes.{cbor_node_calls, streamed_items}

-- the length of all fragments that some calls begin with
abbrev pub chunks_length : List Call → ℕ
chunks_length [] = 0
chunks_length (Call.TextFragment borrowed text ∷ calls) = length text + chunks_length calls
chunks_length (Call.BinaryFragment borrowed bytes ∷ calls) = length bytes + chunks_length calls
chunks_length (call ∷ calls) = 0

-- What a call adds to the script before what follows. A string that tells no size has this one; its fragments add digits alone, since its
-- begin and its end have what is around them.
abbrev pub script_before : ℕ → Call → List ℕ → List ℕ
script_before size Call.Null more = codes "null\n" ++ more
script_before size (Call.Truth b) more = codes "bool " ++ (truth_text b ++ (codes "\n" ++ more))
script_before size (Call.Int type number) more = type_word type ++ (codes " " ++ (signed_decimal number ++ (codes "\n" ++ more)))
script_before size (Call.TextBegin told) more = codes "text_begin " ++ (decimal (unwrap_or told size) ++ (codes "\ntext_fragment =" ++ more))
script_before size (Call.TextFragment borrowed text) more = encode_lower text ++ more
script_before size Call.TextEnd more = codes "\ntext_end\n" ++ more
script_before size (Call.BinaryBegin told) more = codes "binary_begin " ++ (decimal (unwrap_or told size) ++ (codes "\nbinary_fragment =" ++ more))
script_before size (Call.BinaryFragment borrowed bytes) more = encode_lower bytes ++ more
script_before size Call.BinaryEnd more = codes "\nbinary_end\n" ++ more
script_before size (Call.Begin Seq told) more = codes "seq_begin -\n" ++ more
script_before size (Call.Begin Map told) more = codes "map_begin -\n" ++ more
script_before size (Call.End Seq) more = codes "seq_end\n" ++ more
script_before size (Call.End Map) more = codes "map_end\n" ++ more
script_before size (Call.PartBegin Item) more = codes "seq_value_begin\n" ++ more
script_before size (Call.PartBegin Key) more = codes "map_key_begin\n" ++ more
script_before size (Call.PartBegin Value) more = codes "map_value_begin\n" ++ more
script_before size (Call.PartEnd Item) more = codes "seq_value_end\n" ++ more
script_before size (Call.PartEnd Key) more = codes "map_key_end\n" ++ more
script_before size (Call.PartEnd Value) more = codes "map_value_end\n" ++ more
script_before size call more = more

-- what some calls add, where a string that tells no size has this one
abbrev pub script_within : ℕ → List Call → List ℕ
script_within size [] = []
script_within size (call ∷ calls) = script_before size call (script_within size calls)

-- the same of calls in which each string tells its size
abbrev pub sized_script : List Call → List ℕ
sized_script calls = script_within 0 calls

-- the script of a document's calls: a string that tells no size has that of the fragments behind its begin
abbrev pub item_script : List Call → List ℕ
item_script [] = []
item_script (call ∷ calls) = script_before (chunks_length calls) call (item_script calls)

-- the length of the chunk that a node is, if it is one
abbrev pub IsChunkLength : List ℕ → Node → Option ℕ → Type 0
IsChunkLength bytes node None = (more : List Call) → chunks_length (cbor_node_calls bytes node ++ more) ≡ 0
IsChunkLength bytes node (Some size) = (more : List Call) → chunks_length (cbor_node_calls bytes node ++ more) ≡ size + chunks_length more

-- the size of the string that a node begins, whose chunks are the first of the nodes behind it
abbrev pub IsStringSize : List ℕ → Node → List Node → ℕ → Type 0
IsStringSize bytes node behind size = node.kind ≡ kind.Begin → size ≡ chunks_length (streamed_items bytes behind)
