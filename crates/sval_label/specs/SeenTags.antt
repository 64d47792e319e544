-- What a tag of the program is seen as.
use Rattle.std.specs.Borrow.{Bor}
use Rattle.sval_label.specs.declared.tag.Tag as program
use Rattle.sval_label.specs.Calls as calls

-- its text
abbrev pub seen_tag : program.Tag → calls.Tag
seen_tag tag = tag.text.now

-- the text of the tag that is referred to
abbrev pub seen_ref_tag : Bor program.Tag → calls.Tag
seen_ref_tag tag = seen_tag tag.now
