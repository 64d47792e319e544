-- What a label of the program is seen as.
use Rattle.std.specs.Prelude.{ℕ, Bool, true, false, List, option_map, string_bytes}
use Rattle.sval_label.specs.Calls.{Label}
use Rattle.sval_label.specs.SeenTags.{seen_tag}
use Rattle.sval_label.specs.declared.label.Label.TheInside.{Inside}
use Rattle.sval_label.specs.declared.label.LabelText.{LabelText}
use Rattle.sval_label.specs.declared.label.LabelText.TheVariants as is

-- the text of a label, whether it is static, borrowed for the call or owned
abbrev pub label_text : LabelText → List ℕ
label_text (is.Static text) = text.now
label_text (is.Computed text) = text.now
label_text (is.Owned text) = string_bytes text

-- the text lives as long as the program
abbrev pub is_static : LabelText → Bool
is_static (is.Static text) = true
is_static _ = false

-- its text, its tag, if it has one, and whether the text lives as long as the program
abbrev pub seen_label : Inside → Label
seen_label inside = record { text = label_text inside.text; tag = option_map seen_tag inside.tag; is_static = is_static inside.text }
