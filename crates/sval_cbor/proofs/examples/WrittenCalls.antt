-- Calls and the bytes that they are written as.
use Rattle.std.specs.Prelude.{◌≡◌, ℕ, true, false, List, [], ◌∷◌, codes, pos, Some, None, Ok, Err, refl}
use Rattle.std.specs.Fmt.{digits}
use Rattle.sval_label.specs.Calls.{Call, Name, I32, Seq, Map, Item, Key, Value}
use Rattle.sval_cbor.specs.declared.style.TheConstants.Style.{BYTE_STRINGS, DEFINITE}
use Rattle.sval_cbor.specs.Packs.{BadKey, RawJson}
use Rattle.sval_cbor.specs.Cbor.{head_bytes}
use Rattle.sval_cbor.specs.Writing.{NoText, written_as, written_cbor, are_whole}

abbrev tagged : List ℕ → Name
tagged tag = record { tag = Some tag; label = None; index = None }

abbrev named : List ℕ → Name
named bytes = record { tag = None; label = Some (record { text = bytes; tag = None; is_static = false }); index = None }

map_of_two : written_cbor (Call.Begin Map (Some 2)
    ∷ Call.PartBegin Key ∷ Call.Int I32 (pos 0) ∷ Call.PartEnd Key ∷ Call.PartBegin Value ∷ Call.Truth false ∷ Call.PartEnd Value
    ∷ Call.PartBegin Key ∷ Call.Int I32 (pos 1) ∷ Call.PartEnd Key ∷ Call.PartBegin Value ∷ Call.Truth true ∷ Call.PartEnd Value ∷ Call.End Map ∷ [])
    ≡ Ok (0xbf ∷ 0x61 ∷ 0x30 ∷ 0xf4 ∷ 0x61 ∷ 0x31 ∷ 0xf5 ∷ 0xff ∷ [])
unfolding head_bytes digits
map_of_two = refl

hinted_binary : written_cbor (Call.BinaryBegin (Some 2) ∷ Call.TagHint (codes "x") ∷ Call.BinaryFragment true (0x00 ∷ 0xff ∷ []) ∷ Call.BinaryEnd ∷ []) ≡ Ok (0x9f ∷ 0x00 ∷ 0x18 ∷ 0xff ∷ 0xff ∷ [])
unfolding head_bytes digits
hinted_binary = refl

hinted_byte_string : written_as BYTE_STRINGS (Call.BinaryBegin (Some 2) ∷ Call.TagHint (codes "x") ∷ Call.BinaryFragment true (0x00 ∷ 0xff ∷ []) ∷ Call.BinaryEnd ∷ []) ≡ Ok (0x42 ∷ 0x00 ∷ 0xff ∷ [])
unfolding head_bytes digits
hinted_byte_string = refl

-- sizes that aren't told are counted
counted_items : written_as DEFINITE (Call.Begin Seq None ∷ Call.PartBegin Item ∷ Call.Int I32 (pos 1) ∷ Call.PartEnd Item ∷ Call.PartBegin Item ∷ Call.Begin Map None ∷ Call.End Map ∷ Call.PartEnd Item ∷ Call.End Seq ∷ [])
    ≡ Ok (0x82 ∷ 0x01 ∷ 0xa0 ∷ [])
unfolding head_bytes digits
counted_items = refl

counted_pairs : written_as DEFINITE (Call.Begin Map None ∷ Call.PartBegin Key ∷ Call.Int I32 (pos 0) ∷ Call.PartEnd Key ∷ Call.PartBegin Value ∷ Call.Begin Seq None ∷ Call.End Seq ∷ Call.PartEnd Value ∷ Call.End Map ∷ [])
    ≡ Ok (0xa1 ∷ 0x61 ∷ 0x30 ∷ 0x80 ∷ [])
unfolding head_bytes digits
counted_pairs = refl

variant_number : written_cbor (Call.EnumBegin (named (codes "E")) ∷ Call.TaggedBegin (record { tag = Some (codes "NUMBER"); label = (named (codes "N")).label; index = None })
    ∷ Call.TextBegin (Some 2) ∷ Call.TextFragment true (codes "01") ∷ Call.TextEnd
    ∷ Call.TaggedEnd (record { tag = Some (codes "NUMBER"); label = (named (codes "N")).label; index = None }) ∷ Call.EnumEnd (named (codes "E")) ∷ [])
    ≡ Ok (0xbf ∷ 0x61 ∷ 0x4e ∷ 0x01 ∷ 0xff ∷ [])
unfolding head_bytes digits
variant_number = refl

-- an enum that holds nothing, in an enum
variant_of_variant : written_cbor (Call.EnumBegin (named (codes "E1")) ∷ Call.EnumBegin (named (codes "E2")) ∷ Call.EnumEnd (named (codes "E2")) ∷ Call.EnumEnd (named (codes "E1")) ∷ [])
    ≡ Ok (0xbf ∷ 0x62 ∷ 0x45 ∷ 0x32 ∷ 0x62 ∷ 0x45 ∷ 0x32 ∷ 0xff ∷ [])
unfolding head_bytes
variant_of_variant = refl

-- the outer enum's end ends no map where the inner enum has no name
nameless_inside : written_cbor (Call.EnumBegin (named (codes "E")) ∷ Call.EnumBegin (record { tag = None; label = None; index = None }) ∷ Call.TaggedBegin (named (codes "V"))
    ∷ Call.Int I32 (pos 1) ∷ Call.TaggedEnd (named (codes "V")) ∷ Call.EnumEnd (record { tag = None; label = None; index = None }) ∷ Call.EnumEnd (named (codes "E")) ∷ [])
    ≡ Ok (0xbf ∷ 0x61 ∷ 0x56 ∷ 0x01 ∷ 0xff ∷ [])
unfolding head_bytes digits
nameless_inside = refl

raw_text_key : written_cbor (Call.Begin Map (Some 1) ∷ Call.PartBegin Key ∷ Call.TaggedBegin (tagged (codes "JSON_TEXT")) ∷ Call.TextBegin None ∷ Call.TextFragment true [] ∷ Call.TextEnd
    ∷ Call.TaggedEnd (tagged (codes "JSON_TEXT")) ∷ Call.PartEnd Key ∷ Call.PartBegin Value ∷ Call.Null ∷ Call.PartEnd Value ∷ Call.End Map ∷ []) ≡ Err RawJson
raw_text_key = refl

raw_value_key : written_cbor (Call.Begin Map (Some 1) ∷ Call.PartBegin Key ∷ Call.TaggedBegin (tagged (codes "JSON_VALUE")) ∷ Call.TextBegin None ∷ Call.TextFragment true [] ∷ Call.TextEnd
    ∷ Call.TaggedEnd (tagged (codes "JSON_VALUE")) ∷ Call.PartEnd Key ∷ Call.PartBegin Value ∷ Call.Null ∷ Call.PartEnd Value ∷ Call.End Map ∷ []) ≡ Err BadKey
raw_value_key = refl

-- a text in two fragments is none of those that the writer is for
cut_text : are_whole (Some NoText) (Call.TextBegin None ∷ Call.TextFragment true (codes "a") ∷ Call.TextFragment true (codes "b") ∷ Call.TextEnd ∷ []) ≡ false
cut_text = refl
