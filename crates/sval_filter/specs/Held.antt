-- What holding a call of a key says.
use Rattle.std.specs.Prelude.{◌≡◌, Bool, true, false, Result, Ok, Err}
use Rattle.sval_label.specs.declared.error.NoMemory.{NoMemory}
use Rattle.sval_label.specs.Calls.{Call, TextEnd, BinaryEnd, EnumEnd, TaggedEnd, End, PartEnd}
use Rattle.sval_core.specs.Law.{computed}
use Rattle.sval_buffer.specs.Forest.{Forest, take}
use Rattle.sval_buffer.specs.Capture.{forest_by}
use Rattle.sval_filter.specs.Filtering.{Holding, key_may_grow}

-- the call ends what has begun
abbrev pub is_end : Call → Bool
is_end TextEnd = true
is_end BinaryEnd = true
is_end (EnumEnd name) = true
is_end (TaggedEnd name) = true
is_end (End head) = true
is_end (PartEnd slot) = true
is_end call = false

-- the key has the call, with its fragment as a computed one, or memory was wanting for it
abbrev pub HoldsCall : Call → Forest → Result (Unit {0}) NoMemory → Forest → Type 0
HoldsCall call old (Ok done) new = new ≡ forest_by (take old (computed call)) old
HoldsCall call old (Err want) new = (new ≡ old) × (key_may_grow Holding old call ≡ true)
