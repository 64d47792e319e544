-- The script of one record, and what is told of two, as they compute.
use Rattle.std.specs.Prelude.{◌≡◌, codes, length, refl}
use Rattle.std.specs.Fmt.{digits}
use Rattle.hex.specs.Hex.{encode_with}
use Rattle.sval_json.specs.Json.{compact}
use Rattle.sval_script.specs.Printed.{line, printed}
use Rattle.sval_relay.specs.Made.{id_calls, name_calls, record_calls, made_calls, made_script, sizes_line}
use Rattle.sval_relay.specs.MadeLaws.{made_json}

one_record : made_script 1 ≡ codes "seq_begin 1\nseq_value_begin\nrecord_begin - - - 2\nrecord_value_begin - =6964:VALUE_IDENT\nu64 0\nrecord_value_end - =6964:VALUE_IDENT\nrecord_value_begin - =6e616d65:VALUE_IDENT\ntext_begin -\ntext_fragment =6e\ntext_fragment_computed =30\ntext_end\nrecord_value_end - =6e616d65:VALUE_IDENT\nrecord_end - - -\nseq_value_end\nseq_end\n"
unfolding printed line record_calls id_calls name_calls digits encode_with
one_record = refl

two_as_json : compact (made_json 2) ≡ codes "[{\"id\":0,\"name\":\"n0\"},{\"id\":1,\"name\":\"n1\"}]"
unfolding digits
two_as_json = refl

none_told : sizes_line (length (made_calls 0)) (length (compact (made_json 0))) ≡ codes "calls 2 json 2\n"
unfolding digits
none_told = refl

two_told : sizes_line (length (made_calls 2)) (length (compact (made_json 2))) ≡ codes "calls 28 json 43\n"
unfolding digits record_calls id_calls name_calls
two_told = refl
