-- The laws of readers, as facts.
use Rattle.std.specs.Prelude.{◌≡◌, Bool, true, false, Option, None}
use Rattle.sval_label.specs.Calls.{Tag, Call}
use Rattle.sval_core.specs.Law.{Law, Emission, Streams, Stops}
use Rattle.sval_lower.specs.Readers.{last_of, only_of, found, first_tag}
use Rattle.sval_lower.specs.Reading.{holding, item_law, tag_law}

-- where the stream took all calls it holds what the reader finds, and where it was stopped the reader finds nothing
pub record IsFound {T : Type 0} (law : Law (Option T)) (reader : Emission → Option T) : Type 0 where
  pub on_ok : (e : Emission) (held : Option T) → Streams law (holding None) e (holding held) → held ≡ reader e
  pub on_err : (e : Emission) (held : Option T) → Stops law (holding None) e (holding held) → None ≡ reader e

-- for the stream that holds the last item
abbrev pub LastIsFound : Type 0 → Type 0
LastIsFound T = (read : Call → Option T) (over : Call → Bool) → IsFound (item_law false read over) (found last_of read over)

-- for the stream that holds the only one
abbrev pub OnlyIsFound : Type 0 → Type 0
OnlyIsFound T = (read : Call → Option T) (over : Call → Bool) → IsFound (item_law true read over) (found only_of read over)

-- the stream for tags holds the tag, whether it took all calls or was stopped
abbrev pub TagIsHeld : Type 0
TagIsHeld =
    ((e : Emission) (held : Option Tag) → Streams tag_law (holding None) e (holding held) → held ≡ first_tag e)
    × ((e : Emission) (held : Option Tag) → Stops tag_law (holding None) e (holding held) → held ≡ first_tag e)
