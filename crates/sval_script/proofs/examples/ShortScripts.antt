-- Scripts and the calls that they spell, as they compute.
use Rattle.std.specs.Prelude.{◌≡◌, ◌-◌, ◌^◌, pos, negsuc, true, false, [], ◌∷◌, Some, None, codes, refl}
use Rattle.std.specs.Str.{is_utf8, chars}
use Rattle.std.specs.Char.{encode_utf8}
use Rattle.hex.specs.Hex.{decode_pairs}
use Rattle.sval_label.specs.Calls.{Null, Truth, Int, I64, TextBegin, TextFragment, TextEnd, Begin, End, PartBegin, PartEnd, Seq, Item}
use Rattle.sval_script.specs.Lines.{Good, Bad, line_of, lines, forms}

one_null : (lines (codes "null\n") ≡ Good (Null ∷ [])) × (lines (codes "null") ≡ Bad 1) × (lines [] ≡ Good [])
unfolding lines line_of forms
one_null = (refl, refl, refl)

truths : (lines (codes "bool true\nbool false\n") ≡ Good (Truth true ∷ Truth false ∷ [])) × (lines (codes "null\nbool True\n") ≡ Bad 2) × (lines (codes "bool\n") ≡ Bad 1)
unfolding lines line_of forms
truths = (refl, refl, refl)

-- both ends of the range, and one past each
ends_of_range : (lines (codes "i64 9223372036854775807\ni64 -9223372036854775808\n") ≡ Good (Int I64 (pos (2 ^ 63 - 1)) ∷ Int I64 (negsuc (2 ^ 63 - 1)) ∷ []))
    × (lines (codes "i64 9223372036854775808\n") ≡ Bad 1) × (lines (codes "i64 -9223372036854775809\n") ≡ Bad 1)
unfolding lines line_of forms
ends_of_range = (refl, refl, refl)

-- a decimal has no leading zero, no plus and no `-0`
not_decimal : (lines (codes "i64 -0\n") ≡ Bad 1) × (lines (codes "i64 +1\n") ≡ Bad 1) × (lines (codes "i64 01\n") ≡ Bad 1) × (lines (codes "i64 \n") ≡ Bad 1) × (lines (codes "i64 -\n") ≡ Bad 1)
unfolding lines line_of forms
not_decimal = (refl, refl, refl, refl, refl)

-- two spaces, a tab, a carriage return, an empty line and a trailing space
not_lines : (lines (codes "i64  1\n") ≡ Bad 1) × (lines (codes "bool\ttrue\n") ≡ Bad 1) × (lines (codes "null\r\n") ≡ Bad 1) × (lines (codes "null\n\n") ≡ Bad 2) × (lines (codes "null \n") ≡ Bad 1)
unfolding lines line_of forms
not_lines = (refl, refl, refl, refl, refl)

texts : (lines (codes "text_begin 2\ntext_fragment =61\ntext_fragment_computed =C3a9\ntext_fragment =\ntext_end\n") ≡ Good (TextBegin (Some 2) ∷ TextFragment true (codes "a") ∷ TextFragment false (195 ∷ 169 ∷ []) ∷ TextFragment true [] ∷ TextEnd ∷ []))
    × (lines (codes "text_fragment 61\n") ≡ Bad 1) × (lines (codes "text_fragment =6\n") ≡ Bad 1) × (lines (codes "text_fragment =6g\n") ≡ Bad 1) × (lines (codes "text_fragment =c3\n") ≡ Bad 1)
unfolding lines line_of forms decode_pairs is_utf8 chars encode_utf8
texts = (refl, refl, refl, refl, refl)

sizes : (lines (codes "seq_begin -\nseq_value_begin\nseq_value_end\nseq_end\n") ≡ Good (Begin Seq None ∷ PartBegin Item ∷ PartEnd Item ∷ End Seq ∷ []))
    × (lines (codes "seq_begin 18446744073709551615\n") ≡ Good (Begin Seq (Some (2 ^ 64 - 1)) ∷ [])) × (lines (codes "seq_begin 18446744073709551616\n") ≡ Bad 1) × (lines (codes "seq_begin 00\n") ≡ Bad 1)
unfolding lines line_of forms
sizes = (refl, refl, refl, refl)
