-- Trees, what they pack to, and the bytes of that.
use Rattle.std.specs.Prelude.{◌≡◌, ℕ, ◌^◌, ◌-◌, true, false, List, [], ◌∷◌, codes, pos, negsuc, Some, None, Result, Ok, Err, refl}
use Rattle.std.specs.Fmt.{digits}
use Rattle.sval_label.specs.Calls.{Name, U16, U128, I32, I64, I128, Seq, Map, Record, Item, Key, Value, Field}
use Rattle.sval_core.specs.Trees.{Tree, Null, Truth, Int, Text, Binary, Tagged, Enum, Container, none, part}
use Rattle.sval_json.specs.Json.{escaped_key, null, truth, number, text, quoted, array, object, Items, no_item, item, no_pair, pair}
use Rattle.sval_cbor.specs.declared.style.Lengths.TheVariants.{Definite}
use Rattle.sval_cbor.specs.declared.style.TheConstants.Style.{BYTE_STRINGS, DEFINITE}
use Rattle.sval_cbor.specs.Packs.{PackRefusal, BadKey, BadNumber, RawJson, NotInteger, map_packed, pack_as, pack_of}
use Rattle.sval_cbor.specs.Cbor.{head_bytes, without_zero_bytes, short_bytes, cbor_as, cbor}

abbrev bytes_of_tree : Tree → Result (List ℕ) PackRefusal
bytes_of_tree tree = map_packed cbor (pack_of tree)

abbrev named : List ℕ → Name
named bytes = record { tag = None; label = Some (record { text = bytes; tag = None; is_static = false }); index = None }

abbrev tagged : List ℕ → Name
tagged tag = record { tag = Some tag; label = None; index = None }

abbrev numbers : List (List ℕ) → Items
numbers [] = no_item
numbers (digits ∷ row) = item (number digits) (numbers row)

-- ---- trees

map_of_two : bytes_of_tree (Container Map (part Key (Int I32 (pos 0)) (part Value (Truth false) (part Key (Int I32 (pos 1)) (part Value (Truth true) none)))))
    ≡ Ok (0xbf ∷ 0x61 ∷ 0x30 ∷ 0xf4 ∷ 0x61 ∷ 0x31 ∷ 0xf5 ∷ 0xff ∷ [])
unfolding head_bytes without_zero_bytes short_bytes digits
map_of_two = refl

greatest_and_least : bytes_of_tree (Container Seq (part Item (Int U128 (pos (2 ^ 128 - 1))) (part Item (Int I128 (negsuc (2 ^ 127 - 1))) none)))
    ≡ Ok (0x9f ∷ 0xc2 ∷ 0x50 ∷ 0xff ∷ 0xff ∷ 0xff ∷ 0xff ∷ 0xff ∷ 0xff ∷ 0xff ∷ 0xff ∷ 0xff ∷ 0xff ∷ 0xff ∷ 0xff ∷ 0xff ∷ 0xff ∷ 0xff ∷ 0xff ∷ 0xc3 ∷ 0x50 ∷ 0x7f ∷ 0xff ∷ 0xff ∷ 0xff ∷ 0xff ∷ 0xff ∷ 0xff ∷ 0xff ∷ 0xff ∷ 0xff ∷ 0xff ∷ 0xff ∷ 0xff ∷ 0xff ∷ 0xff ∷ 0xff ∷ 0xff ∷ [])
unfolding head_bytes without_zero_bytes short_bytes digits
greatest_and_least = refl

binary : bytes_of_tree (Binary (0x00 ∷ 0xff ∷ []))
    ≡ Ok (0x9f ∷ 0x00 ∷ 0x18 ∷ 0xff ∷ 0xff ∷ [])
unfolding head_bytes without_zero_bytes short_bytes digits
binary = refl

byte_string : map_packed cbor (pack_as BYTE_STRINGS (Binary (0x00 ∷ 0xff ∷ [])))
    ≡ Ok (0x42 ∷ 0x00 ∷ 0xff ∷ [])
unfolding head_bytes without_zero_bytes short_bytes digits
byte_string = refl

byte_string_in_a_variant : map_packed cbor (pack_as BYTE_STRINGS (Enum (named (codes "E")) (Tagged (named (codes "V")) (Binary (0x61 ∷ [])))))
    ≡ Ok (0xbf ∷ 0x61 ∷ 0x56 ∷ 0x41 ∷ 0x61 ∷ 0xff ∷ [])
unfolding head_bytes without_zero_bytes short_bytes digits
byte_string_in_a_variant = refl

-- RFC 8949, appendix A
definite_items : map_packed (cbor_as Definite) (pack_as DEFINITE (Container Seq (part Item (Int U16 (pos 1)) (part Item (Container Seq (part Item (Int U16 (pos 2)) (part Item (Int U16 (pos 3)) none))) none))))
    ≡ Ok (0x82 ∷ 0x01 ∷ 0x82 ∷ 0x02 ∷ 0x03 ∷ [])
unfolding head_bytes without_zero_bytes short_bytes digits
definite_items = refl

definite_variant : map_packed (cbor_as Definite) (pack_as DEFINITE (Enum (named (codes "E")) (Tagged (named (codes "V")) (Binary (0x61 ∷ [])))))
    ≡ Ok (0xa1 ∷ 0x61 ∷ 0x56 ∷ 0x41 ∷ 0x61 ∷ [])
unfolding head_bytes without_zero_bytes short_bytes digits
definite_variant = refl

variant_number : bytes_of_tree (Enum (named (codes "E")) (Tagged (record { tag = Some (codes "NUMBER"); label = (named (codes "N")).label; index = None }) (Text (codes "01"))))
    ≡ Ok (0xbf ∷ 0x61 ∷ 0x4e ∷ 0x01 ∷ 0xff ∷ [])
unfolding head_bytes without_zero_bytes short_bytes digits
variant_number = refl

minus_one : bytes_of_tree (Int I64 (negsuc 0))
    ≡ Ok (0x20 ∷ [])
unfolding head_bytes without_zero_bytes short_bytes digits
minus_one = refl

two_bytes : bytes_of_tree (Int U16 (pos 256))
    ≡ Ok (0x19 ∷ 0x01 ∷ 0x00 ∷ [])
unfolding head_bytes without_zero_bytes short_bytes digits
two_bytes = refl

minus_zero_text : bytes_of_tree (Tagged (tagged (codes "NUMBER")) (Text (codes "-00")))
    ≡ Ok (0x00 ∷ [])
unfolding head_bytes without_zero_bytes short_bytes digits
minus_zero_text = refl

negative_text : bytes_of_tree (Tagged (tagged (codes "NUMBER")) (Text (codes "-0100")))
    ≡ Ok (0x38 ∷ 0x63 ∷ [])
unfolding head_bytes without_zero_bytes short_bytes digits
negative_text = refl

infinite_text : bytes_of_tree (Tagged (tagged (codes "NUMBER")) (Text (codes "-inf")))
    ≡ Ok (0xf6 ∷ [])
unfolding head_bytes without_zero_bytes short_bytes digits
infinite_text = refl

number_as_key : bytes_of_tree (Container Map (part Key (Tagged (tagged (codes "NUMBER")) (Text (codes "01.50"))) (part Value Null none)))
    ≡ Ok (0xbf ∷ 0x64 ∷ 0x31 ∷ 0x2e ∷ 0x35 ∷ 0x30 ∷ 0xf6 ∷ 0xff ∷ [])
unfolding head_bytes without_zero_bytes short_bytes digits
number_as_key = refl

identifier_label : bytes_of_tree (Container (Record (named [])) (part (Field None (record { text = codes "\""; tag = Some (codes "VALUE_IDENT"); is_static = false })) Null none))
    ≡ Ok (0xbf ∷ 0x61 ∷ 0x22 ∷ 0xf6 ∷ 0xff ∷ [])
unfolding head_bytes without_zero_bytes short_bytes digits
identifier_label = refl

-- ---- refused trees

fraction : bytes_of_tree (Tagged (tagged (codes "NUMBER")) (Text (codes "-001.50e+3")))
    ≡ Err NotInteger
unfolding head_bytes without_zero_bytes short_bytes digits
fraction = refl

past_128_bits : bytes_of_tree (Tagged (tagged (codes "NUMBER")) (Text (codes "340282366920938463463374607431768211456")))
    ≡ Err NotInteger
unfolding head_bytes without_zero_bytes short_bytes digits
past_128_bits = refl

below_128_bits : bytes_of_tree (Tagged (tagged (codes "NUMBER")) (Text (codes "-170141183460469231731687303715884105729")))
    ≡ Err NotInteger
unfolding head_bytes without_zero_bytes short_bytes digits
below_128_bits = refl

no_number : bytes_of_tree (Tagged (tagged (codes "NUMBER")) (Text (codes "1.")))
    ≡ Err BadNumber
unfolding head_bytes without_zero_bytes short_bytes digits
no_number = refl

raw_value : bytes_of_tree (Tagged (tagged (codes "JSON_VALUE")) (Text (codes "[1, 2]")))
    ≡ Err RawJson
unfolding head_bytes without_zero_bytes short_bytes digits
raw_value = refl

raw_text_key : bytes_of_tree (Container Map (part Key (Tagged (tagged (codes "JSON_TEXT")) (Text [])) (part Value Null none)))
    ≡ Err RawJson
unfolding head_bytes without_zero_bytes short_bytes digits
raw_text_key = refl

raw_value_key : bytes_of_tree (Container Map (part Key (Tagged (tagged (codes "JSON_VALUE")) (Text [])) (part Value Null none)))
    ≡ Err BadKey
unfolding head_bytes without_zero_bytes short_bytes digits
raw_value_key = refl

wrapped_raw_key : bytes_of_tree (Container Map (part Key (Enum (named (codes "E")) (Tagged (record { tag = Some (codes "JSON_TEXT"); label = (named (codes "N")).label; index = None }) (Text []))) (part Value Null none)))
    ≡ Err BadKey
unfolding head_bytes without_zero_bytes short_bytes digits
wrapped_raw_key = refl

bad_number_key : bytes_of_tree (Container Map (part Key (Tagged (tagged (codes "NUMBER")) (Text (codes "x"))) (part Value Null none)))
    ≡ Err BadNumber
unfolding head_bytes without_zero_bytes short_bytes digits
bad_number_key = refl

binary_key : map_packed cbor (pack_as BYTE_STRINGS (Container Map (part Key (Binary []) (part Value Null none))))
    ≡ Err BadKey
unfolding head_bytes without_zero_bytes short_bytes digits
binary_key = refl

key_before_value : bytes_of_tree (Container Map (part Key (Container Seq none) (part Value (Tagged (tagged (codes "JSON_VALUE")) (Text [])) none)))
    ≡ Err BadKey
unfolding head_bytes without_zero_bytes short_bytes digits
key_before_value = refl

-- ---- the examples of RFC 8949, appendix A, that are in this profile

example-0 : cbor (number (codes "0"))
    ≡ 0x00 ∷ []
unfolding head_bytes without_zero_bytes short_bytes digits
example-0 = refl

example-1 : cbor (number (codes "1"))
    ≡ 0x01 ∷ []
unfolding head_bytes without_zero_bytes short_bytes digits
example-1 = refl

example-10 : cbor (number (codes "10"))
    ≡ 0x0a ∷ []
unfolding head_bytes without_zero_bytes short_bytes digits
example-10 = refl

example-23 : cbor (number (codes "23"))
    ≡ 0x17 ∷ []
unfolding head_bytes without_zero_bytes short_bytes digits
example-23 = refl

example-24 : cbor (number (codes "24"))
    ≡ 0x18 ∷ 0x18 ∷ []
unfolding head_bytes without_zero_bytes short_bytes digits
example-24 = refl

example-25 : cbor (number (codes "25"))
    ≡ 0x18 ∷ 0x19 ∷ []
unfolding head_bytes without_zero_bytes short_bytes digits
example-25 = refl

example-100 : cbor (number (codes "100"))
    ≡ 0x18 ∷ 0x64 ∷ []
unfolding head_bytes without_zero_bytes short_bytes digits
example-100 = refl

example-1000 : cbor (number (codes "1000"))
    ≡ 0x19 ∷ 0x03 ∷ 0xe8 ∷ []
unfolding head_bytes without_zero_bytes short_bytes digits
example-1000 = refl

example-1000000 : cbor (number (codes "1000000"))
    ≡ 0x1a ∷ 0x00 ∷ 0x0f ∷ 0x42 ∷ 0x40 ∷ []
unfolding head_bytes without_zero_bytes short_bytes digits
example-1000000 = refl

example-1000000000000 : cbor (number (codes "1000000000000"))
    ≡ 0x1b ∷ 0x00 ∷ 0x00 ∷ 0x00 ∷ 0xe8 ∷ 0xd4 ∷ 0xa5 ∷ 0x10 ∷ 0x00 ∷ []
unfolding head_bytes without_zero_bytes short_bytes digits
example-1000000000000 = refl

example-18446744073709551615 : cbor (number (codes "18446744073709551615"))
    ≡ 0x1b ∷ 0xff ∷ 0xff ∷ 0xff ∷ 0xff ∷ 0xff ∷ 0xff ∷ 0xff ∷ 0xff ∷ []
unfolding head_bytes without_zero_bytes short_bytes digits
example-18446744073709551615 = refl

example-18446744073709551616 : cbor (number (codes "18446744073709551616"))
    ≡ 0xc2 ∷ 0x49 ∷ 0x01 ∷ 0x00 ∷ 0x00 ∷ 0x00 ∷ 0x00 ∷ 0x00 ∷ 0x00 ∷ 0x00 ∷ 0x00 ∷ []
unfolding head_bytes without_zero_bytes short_bytes digits
example-18446744073709551616 = refl

example-minus-18446744073709551616 : cbor (number (codes "-18446744073709551616"))
    ≡ 0x3b ∷ 0xff ∷ 0xff ∷ 0xff ∷ 0xff ∷ 0xff ∷ 0xff ∷ 0xff ∷ 0xff ∷ []
unfolding head_bytes without_zero_bytes short_bytes digits
example-minus-18446744073709551616 = refl

example-minus-18446744073709551617 : cbor (number (codes "-18446744073709551617"))
    ≡ 0xc3 ∷ 0x49 ∷ 0x01 ∷ 0x00 ∷ 0x00 ∷ 0x00 ∷ 0x00 ∷ 0x00 ∷ 0x00 ∷ 0x00 ∷ 0x00 ∷ []
unfolding head_bytes without_zero_bytes short_bytes digits
example-minus-18446744073709551617 = refl

example-minus-1 : cbor (number (codes "-1"))
    ≡ 0x20 ∷ []
unfolding head_bytes without_zero_bytes short_bytes digits
example-minus-1 = refl

example-minus-10 : cbor (number (codes "-10"))
    ≡ 0x29 ∷ []
unfolding head_bytes without_zero_bytes short_bytes digits
example-minus-10 = refl

example-minus-100 : cbor (number (codes "-100"))
    ≡ 0x38 ∷ 0x63 ∷ []
unfolding head_bytes without_zero_bytes short_bytes digits
example-minus-100 = refl

example-minus-1000 : cbor (number (codes "-1000"))
    ≡ 0x39 ∷ 0x03 ∷ 0xe7 ∷ []
unfolding head_bytes without_zero_bytes short_bytes digits
example-minus-1000 = refl

example-false : cbor (truth false)
    ≡ 0xf4 ∷ []
unfolding head_bytes without_zero_bytes short_bytes digits
example-false = refl

example-true : cbor (truth true)
    ≡ 0xf5 ∷ []
unfolding head_bytes without_zero_bytes short_bytes digits
example-true = refl

example-null : cbor null
    ≡ 0xf6 ∷ []
unfolding head_bytes without_zero_bytes short_bytes digits
example-null = refl

example-empty_bytes : cbor (quoted [])
    ≡ 0x40 ∷ []
unfolding head_bytes without_zero_bytes short_bytes digits
example-empty_bytes = refl

example-bytes : cbor (quoted (0x01 ∷ 0x02 ∷ 0x03 ∷ 0x04 ∷ []))
    ≡ 0x44 ∷ 0x01 ∷ 0x02 ∷ 0x03 ∷ 0x04 ∷ []
unfolding head_bytes without_zero_bytes short_bytes digits
example-bytes = refl

example-empty_text : cbor (text [])
    ≡ 0x60 ∷ []
unfolding head_bytes without_zero_bytes short_bytes digits
example-empty_text = refl

example-a : cbor (text (codes "a"))
    ≡ 0x61 ∷ 0x61 ∷ []
unfolding head_bytes without_zero_bytes short_bytes digits
example-a = refl

example-ietf : cbor (text (codes "IETF"))
    ≡ 0x64 ∷ 0x49 ∷ 0x45 ∷ 0x54 ∷ 0x46 ∷ []
unfolding head_bytes without_zero_bytes short_bytes digits
example-ietf = refl

example-escapes : cbor (text (0x22 ∷ 0x5c ∷ []))
    ≡ 0x62 ∷ 0x22 ∷ 0x5c ∷ []
unfolding head_bytes without_zero_bytes short_bytes digits
example-escapes = refl

example-umlaut : cbor (text (0xc3 ∷ 0xbc ∷ []))
    ≡ 0x62 ∷ 0xc3 ∷ 0xbc ∷ []
unfolding head_bytes without_zero_bytes short_bytes digits
example-umlaut = refl

example-water : cbor (text (0xe6 ∷ 0xb0 ∷ 0xb4 ∷ []))
    ≡ 0x63 ∷ 0xe6 ∷ 0xb0 ∷ 0xb4 ∷ []
unfolding head_bytes without_zero_bytes short_bytes digits
example-water = refl

example-four_bytes : cbor (text (0xf0 ∷ 0x90 ∷ 0x85 ∷ 0x91 ∷ []))
    ≡ 0x64 ∷ 0xf0 ∷ 0x90 ∷ 0x85 ∷ 0x91 ∷ []
unfolding head_bytes without_zero_bytes short_bytes digits
example-four_bytes = refl

example-empty_array : cbor (array no_item)
    ≡ 0x9f ∷ 0xff ∷ []
unfolding head_bytes without_zero_bytes short_bytes digits
example-empty_array = refl

example-array_of_25 : cbor (array (numbers (codes "1" ∷ codes "2" ∷ codes "3" ∷ codes "4" ∷ codes "5" ∷ codes "6" ∷ codes "7" ∷ codes "8" ∷ codes "9" ∷ codes "10" ∷ codes "11" ∷ codes "12" ∷ codes "13" ∷ codes "14" ∷ codes "15" ∷ codes "16" ∷ codes "17" ∷ codes "18" ∷ codes "19" ∷ codes "20" ∷ codes "21" ∷ codes "22" ∷ codes "23" ∷ codes "24" ∷ codes "25" ∷ [])))
    ≡ 0x9f ∷ 0x01 ∷ 0x02 ∷ 0x03 ∷ 0x04 ∷ 0x05 ∷ 0x06 ∷ 0x07 ∷ 0x08 ∷ 0x09 ∷ 0x0a ∷ 0x0b ∷ 0x0c ∷ 0x0d ∷ 0x0e ∷ 0x0f ∷ 0x10 ∷ 0x11 ∷ 0x12 ∷ 0x13 ∷ 0x14 ∷ 0x15 ∷ 0x16 ∷ 0x17 ∷ 0x18 ∷ 0x18 ∷ 0x18 ∷ 0x19 ∷ 0xff ∷ []
unfolding head_bytes without_zero_bytes short_bytes digits
example-array_of_25 = refl

example-map_and_array : cbor (object (pair (escaped_key (codes "a")) (number (codes "1")) (pair (escaped_key (codes "b")) (array (numbers (codes "2" ∷ codes "3" ∷ []))) no_pair)))
    ≡ 0xbf ∷ 0x61 ∷ 0x61 ∷ 0x01 ∷ 0x61 ∷ 0x62 ∷ 0x9f ∷ 0x02 ∷ 0x03 ∷ 0xff ∷ 0xff ∷ []
unfolding head_bytes without_zero_bytes short_bytes digits
example-map_and_array = refl

example-fun : cbor (object (pair (escaped_key (codes "Fun")) (truth true) (pair (escaped_key (codes "Amt")) (number (codes "-2")) no_pair)))
    ≡ 0xbf ∷ 0x63 ∷ 0x46 ∷ 0x75 ∷ 0x6e ∷ 0xf5 ∷ 0x63 ∷ 0x41 ∷ 0x6d ∷ 0x74 ∷ 0x21 ∷ 0xff ∷ []
unfolding head_bytes without_zero_bytes short_bytes digits
example-fun = refl
