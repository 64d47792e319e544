-- Trees that have a JSON in place of those that have none.
use Rattle.std.specs.Prelude.{◌≡◌, ℕ, false, List, Ok, Err}
use Rattle.sval_label.specs.Calls.{Head, Slot, Name}
use Rattle.sval_core.specs.Trees.{Tree, Text, Tagged, Enum, Container, Parts, none, part, Number, text_kind}
use Rattle.sval_json.specs.Json.{Key}
use Rattle.sval_json.specs.Number.{Refusal, normal}
use Rattle.sval_json.specs.Shape.{key}

mutual
  -- the other tree is this one, but that numbers that are none and keys that are none are others
  pub data Mends : Tree → Tree → Type 0 where
    same : {tree : Tree} → Mends tree tree
    number : {name : Name} {text other out : List ℕ} {why : Refusal} → text_kind name.tag ≡ Number → normal text ≡ Err why → normal other ≡ Ok out
        → Mends (Tagged name (Text text)) (Tagged name (Text other))
    tagged : {name : Name} {tree other : Tree} → Mends tree other → Mends (Tagged name tree) (Tagged name other)
    enum : {name : Name} {tree other : Tree} → Mends tree other → Mends (Enum name tree) (Enum name other)
    container : {head : Head} {parts others : Parts} → MendParts parts others → Mends (Container head parts) (Container head others)

  -- the same of the parts of a container
  pub data MendParts : Parts → Parts → Type 0 where
    no_part : MendParts none none
    a_part : {slot : Slot} {tree other : Tree} {parts others : Parts} → Mends tree other → MendParts parts others → MendParts (part slot tree parts) (part slot other others)
    a_key : {tree other : Tree} {parts others : Parts} {why : Refusal} {k : Key} → key tree false ≡ Err why → key other false ≡ Ok k → MendParts parts others
        → MendParts (part Slot.Key tree parts) (part Slot.Key other others)
