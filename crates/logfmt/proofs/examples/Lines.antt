-- Trees and their lines.
use Rattle.std.specs.Prelude.{◌≡◌, ℕ, true, false, List, codes, pos, None, Ok, Err, refl}
use Rattle.std.specs.Fmt.{digits}
use Rattle.sval_label.specs.Calls.{U16, Field, FieldPlace, Seq, Record, RecordTuple, Map}
use Rattle.sval_core.specs.Names.{no_name}
use Rattle.sval_core.specs.Trees.{Tree, Null, Truth, Int, Text, Container, Parts, none, part}
use Rattle.logfmt.specs.declared.LogfmtError.TheVariants.{NotFlat, InvalidKey}
use Rattle.logfmt.specs.Pairs.{record_line}

abbrev field : List ℕ → Tree → Parts → Parts
field name value parts = part (Field None (record { text = name; tag = None; is_static = false })) value parts

three_fields : record_line (Container (Record no_name) (field (codes "level") (Text (codes "info")) (field (codes "status") (Int U16 (pos 200)) (field (codes "ok") (Truth true) none))))
    ≡ Ok (codes "level=\"info\" status=200 ok=true")
unfolding digits
three_fields = refl

one_field_of_a_struct : record_line (Container (RecordTuple no_name) (part (FieldPlace None (record { text = codes "ok"; tag = None; is_static = false }) (record { number = pos 0; tag = None })) (Truth true) none))
    ≡ Ok (codes "ok=true")
one_field_of_a_struct = refl

no_field : record_line (Container (Record no_name) none) ≡ Ok (codes "")
no_field = refl

escaped_text : record_line (Container (Record no_name) (field (codes "said") (Text (codes "a \"b\"\n")) none)) ≡ Ok (codes "said=\"a \\\"b\\\"\\n\"")
escaped_text = refl

empty_key : record_line (Container (Record no_name) (field (codes "") Null none)) ≡ Err InvalidKey
empty_key = refl

key_with_a_space : record_line (Container (Record no_name) (field (codes "a b") Null none)) ≡ Err InvalidKey
key_with_a_space = refl

nested : record_line (Container (Record no_name) (field (codes "a") (Container Seq none) none)) ≡ Err NotFlat
nested = refl

map : record_line (Container Map none) ≡ Err NotFlat
map = refl
