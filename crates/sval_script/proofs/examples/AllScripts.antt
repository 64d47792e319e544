-- Lines of all calls and the calls that they spell, as they compute.
use Rattle.std.specs.Prelude.{◌≡◌, ℕ, ◌+◌, ◌^◌, ◌-◌, pos, negsuc, true, false, List, [], ◌∷◌, ◌++◌, Some, None, codes, refl}
use Rattle.std.specs.Str.{is_utf8, chars}
use Rattle.std.specs.Char.{encode_utf8}
use Rattle.std.specs.Fmt.{digits}
use Rattle.hex.specs.Hex.{decode_pairs, encode_with}
use Rattle.sval_label.specs.Calls.{Call, Slot, Name, Label}
use Rattle.sval_label.specs.Calls.{Null, Truth, Int, Standalone, TagHint, TextBegin, TextFragment, TextEnd, BinaryFragment, TaggedBegin, TaggedEnd, Begin, End, PartBegin, PartEnd}
use Rattle.sval_label.specs.Calls.{Seq, Map, RecordTuple, Item, Key, Value, Place, FieldPlace}
use Rattle.sval_label.specs.Calls.{U128, I32, I128}
use Rattle.sval_script.specs.Lines.{Lines, Good, Bad, line_of, lines, forms}
use Rattle.sval_core.specs.Trees as tree
use Rattle.sval_script.specs.Printed.{line, printed, printed_canonically}
use Rattle.sval_script.specs.Canon.{canon_all}

one_null : (lines (codes "null\n") ≡ Good (Null ∷ [])) × (lines (codes "null") ≡ Bad 1) × (lines [] ≡ Good [])
unfolding lines line_of forms
one_null = (refl, refl, refl)

abbrev field_label : ℕ → Label
field_label digit = record { text = codes "field_" ++ (digit ∷ []); tag = Some (codes "VALUE_IDENT"); is_static = false }

abbrev field_place : ℕ → Slot
field_place n = FieldPlace None (field_label (48 + n)) (record { number = pos n; tag = Some (codes "VALUE_OFFSET") })

abbrev record_name : Name
record_name = record {
  tag = None;
  label = Some (record { text = codes "MyRecord"; tag = Some (codes "VALUE_IDENT"); is_static = false });
  index = None;
}

abbrev record_tuple_calls : List Call
record_tuple_calls = Begin (RecordTuple record_name) (Some 3)
    ∷ PartBegin (field_place 0) ∷ Int I32 (pos 1) ∷ PartEnd (field_place 0)
    ∷ PartBegin (field_place 1) ∷ Truth true ∷ PartEnd (field_place 1)
    ∷ PartBegin (field_place 2) ∷ TextBegin (Some 9) ∷ TextFragment true (codes "some text") ∷ TextEnd ∷ PartEnd (field_place 2)
    ∷ End (RecordTuple record_name) ∷ []

abbrev record_tuple_script : List ℕ
record_tuple_script = codes "record_tuple_begin - =4d795265636f7264:VALUE_IDENT - 3\nrecord_tuple_value_begin - =6669656c645f30:VALUE_IDENT 0:VALUE_OFFSET\ni32 1\nrecord_tuple_value_end - =6669656c645f30:VALUE_IDENT 0:VALUE_OFFSET\nrecord_tuple_value_begin - =6669656c645f31:VALUE_IDENT 1:VALUE_OFFSET\nbool true\nrecord_tuple_value_end - =6669656c645f31:VALUE_IDENT 1:VALUE_OFFSET\nrecord_tuple_value_begin - =6669656c645f32:VALUE_IDENT 2:VALUE_OFFSET\ntext_begin 9\ntext_fragment =736f6d652074657874\ntext_end\nrecord_tuple_value_end - =6669656c645f32:VALUE_IDENT 2:VALUE_OFFSET\nrecord_tuple_end - =4d795265636f7264:VALUE_IDENT -\n"

record_tuple_lines : lines record_tuple_script ≡ Good record_tuple_calls
unfolding lines line_of forms decode_pairs is_utf8 chars encode_utf8
record_tuple_lines = refl

record_tuple_printed : printed record_tuple_calls ≡ record_tuple_script
unfolding printed line encode_with digits
record_tuple_printed = refl

-- what a whole script prints as: canonically, and line by line
abbrev reprinted : Lines → List ℕ
reprinted (Good calls) = printed calls
reprinted (Bad n) = []

abbrev reprinted_canonically : Lines → List ℕ
reprinted_canonically (Good calls) = printed_canonically calls
reprinted_canonically (Bad n) = []

abbrev map_script : List ℕ
map_script = codes "map_begin 2\nmap_key_begin\ni32 0\nmap_key_end\nmap_value_begin\nbool false\nmap_value_end\nmap_key_begin\ni32 1\nmap_key_end\nmap_value_begin\nbool true\nmap_value_end\nmap_end\n"

map_lines : (lines map_script ≡ Good (Begin Map (Some 2)
    ∷ PartBegin Key ∷ Int I32 (pos 0) ∷ PartEnd Key ∷ PartBegin Value ∷ Truth false ∷ PartEnd Value
    ∷ PartBegin Key ∷ Int I32 (pos 1) ∷ PartEnd Key ∷ PartBegin Value ∷ Truth true ∷ PartEnd Value ∷ End Map ∷ []))
    × (reprinted (lines map_script) ≡ map_script)
    × (reprinted_canonically (lines map_script) ≡ codes "map_begin -\nmap_key_begin\ni32 0\nmap_key_end\nmap_value_begin\nbool false\nmap_value_end\nmap_key_begin\ni32 1\nmap_key_end\nmap_value_begin\nbool true\nmap_value_end\nmap_end\n")
unfolding lines line_of forms printed line digits
map_lines = (refl, refl, refl)

abbrev option_key_script : List ℕ
option_key_script = codes "map_begin 1\nmap_key_begin\ntagged_begin RUST_OPTION_SOME =536f6d65:VALUE_IDENT 1:VALUE_OFFSET\ntext_begin 1\ntext_fragment =6b\ntext_end\ntagged_end RUST_OPTION_SOME =536f6d65 1\nmap_key_end\nmap_value_begin\nrecord_begin - =52 - -\nrecord_value_begin - =61\ni32 1\nrecord_value_end - =61\nrecord_end - =52 -\nmap_value_end\nmap_end\n"

option_key_lines : reprinted (lines option_key_script) ≡ option_key_script
unfolding lines line_of forms decode_pairs is_utf8 chars encode_utf8 printed line digits encode_with
option_key_lines = refl

number_in_pieces : lines (codes "tagged_begin NUMBER - -\ntext_begin -\ntext_fragment =2d30\ntext_fragment =30312e35\ntext_fragment =30652b33\ntext_end\ntagged_end NUMBER - -\n")
    ≡ Good (TaggedBegin (record { tag = Some (codes "NUMBER"); label = None; index = None }) ∷ TextBegin None
    ∷ TextFragment true (codes "-0") ∷ TextFragment true (codes "01.5") ∷ TextFragment true (codes "0e+3") ∷ TextEnd
    ∷ TaggedEnd (record { tag = Some (codes "NUMBER"); label = None; index = None }) ∷ [])
unfolding lines line_of forms decode_pairs is_utf8 chars encode_utf8
number_in_pieces = refl

wrong_sizes : (lines (codes "seq_begin 2\nseq_value_begin\nnull\nseq_value_end\nseq_end\n")
    ≡ Good (Begin Seq (Some 2) ∷ PartBegin Item ∷ Null ∷ PartEnd Item ∷ End Seq ∷ []))
    × (lines (codes "seq_begin 18446744073709551615\n") ≡ Good (Begin Seq (Some 18446744073709551615) ∷ []))
    × (lines (codes "text_begin 3\ntext_fragment =61626364\ntext_end\n") ≡ Good (TextBegin (Some 3) ∷ TextFragment true (codes "abcd") ∷ TextEnd ∷ []))
unfolding lines line_of forms decode_pairs is_utf8 chars encode_utf8
wrong_sizes = (refl, refl, refl)

widest_numbers : (line_of (codes "u128 340282366920938463463374607431768211455") ≡ Some (Int U128 (pos (2 ^ 128 - 1))))
    × (line_of (codes "i128 -170141183460469231731687303715884105728") ≡ Some (Int I128 (negsuc (2 ^ 127 - 1))))
    × (line_of (codes "u128 340282366920938463463374607431768211456") ≡ None)
    × (line_of (codes "i128 -170141183460469231731687303715884105729") ≡ None)
unfolding line_of forms
widest_numbers = (refl, refl, refl, refl)

hint_between : lines (codes "text_begin 2\ntext_fragment =61\ntag_hint NUMBER\ntext_fragment =62\ntext_end\n")
    ≡ Good (TextBegin (Some 2) ∷ TextFragment true (codes "a") ∷ TagHint (codes "NUMBER") ∷ TextFragment true (codes "b") ∷ TextEnd ∷ [])
unfolding lines line_of forms decode_pairs is_utf8 chars encode_utf8
hint_between = refl

-- fields in either case of hex, the bounds of sizes and indexes, and the empty text
accepted : (line_of (codes "text_fragment =C3a9") ≡ Some (TextFragment true (195 ∷ 169 ∷ [])))
    × (line_of (codes "text_fragment_computed =") ≡ Some (TextFragment false []))
    × (line_of (codes "binary_fragment =00ff") ≡ Some (BinaryFragment true (0 ∷ 255 ∷ [])))
    × (line_of (codes "tuple_value_begin - -9223372036854775808") ≡ Some (PartBegin (Place None (record { number = negsuc (2 ^ 63 - 1); tag = None }))))
    × (line_of (codes "tag - =:NUMBER -") ≡ Some (Standalone (record { tag = None; label = Some (record { text = []; tag = Some (codes "NUMBER"); is_static = false }); index = None })))
unfolding line_of forms decode_pairs is_utf8 chars encode_utf8
accepted = (refl, refl, refl, refl, refl)

-- what is no line: spaces too many or at an end, a tab, a carriage return, nothing, another word, decimals that
-- are not plain or out of range, hex that is odd, no UTF-8, an unknown tag, a hint with no tag, a missing or a surplus field
refused : (line_of (codes "seq_begin  1") ≡ None) × (line_of (codes "null ") ≡ None) × (line_of (codes " null") ≡ None)
    × (line_of (codes "seq_begin\t1") ≡ None) × (line_of (codes "null\r") ≡ None) × (line_of [] ≡ None) × (line_of (codes "Null") ≡ None)
    × (line_of (codes "u8 01") ≡ None) × (line_of (codes "i8 -0") ≡ None) × (line_of (codes "u8 +1") ≡ None)
    × (line_of (codes "u8 256") ≡ None) × (line_of (codes "u8 -1") ≡ None) × (line_of (codes "i8 128") ≡ None) × (line_of (codes "u8 ") ≡ None)
    × (line_of (codes "seq_begin 18446744073709551616") ≡ None)
    × (line_of (codes "text_fragment =6") ≡ None) × (line_of (codes "text_fragment =ff") ≡ None) × (line_of (codes "text_fragment 61") ≡ None)
    × (line_of (codes "tag_hint -") ≡ None) × (line_of (codes "tag_hint OTHER") ≡ None)
    × (line_of (codes "record_value_begin - -") ≡ None) × (line_of (codes "tag - =61: -") ≡ None) × (line_of (codes "tag - =61:NUMBER:NUMBER -") ≡ None)
    × (line_of (codes "tuple_value_begin - -9223372036854775809") ≡ None) × (line_of (codes "bool True") ≡ None)
    × (line_of (codes "tag - -") ≡ None) × (line_of (codes "null -") ≡ None)
unfolding line_of forms decode_pairs is_utf8 chars encode_utf8
refused = (refl, refl, refl, refl, refl, refl, refl, refl, refl, refl, refl, refl, refl, refl, refl, refl, refl, refl, refl, refl, refl, refl, refl, refl, refl, refl, refl)

-- an empty line, and the number of the first bad one
numbered : (lines (codes "null\n\nnull\n") ≡ Bad 2) × (lines (codes "null\nnull\nnul\nbad") ≡ Bad 3) × (lines (codes "null\nnull") ≡ Bad 2)
unfolding lines line_of forms
numbered = (refl, refl, refl)

-- the canonical scripts of a null and of an empty sequence, one after the other, and of no tree
joined_scripts : (canon_all (tree.Null ∷ tree.Container Seq tree.none ∷ []) ≡ codes "null\nseq_begin -\nseq_end\n") × (canon_all [] ≡ [])
unfolding printed line
joined_scripts = (refl, refl)
