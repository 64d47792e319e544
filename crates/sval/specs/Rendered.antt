-- What rendering a value may do to the text that it is appended to.
use Rattle.std.specs.Prelude.{◌≡◌, ◌≢◌, ℕ, List, [], ◌++◌, Bool, true, Option, Some, Result, Ok, Err, IfSome}
use Rattle.sval.specs.declared.render.RenderError.{RenderError}
use Rattle.sval.specs.declared.render.RenderError.TheVariants.{Format, NoMemory}

-- a text stands in front of another one
pub record IsPrefixOf (front text : List ℕ) : Type 0 where
  pub rest : List ℕ
  pub is : text ≡ front ++ rest

-- the old text stands in front, and behind it what the value prints, where that is told
pub record Appended (told : Option (List ℕ)) (old new : List ℕ) : Type 0 where
  pub stands : IsPrefixOf old new
  pub text : IfSome told (λ text. new ≡ old ++ text)

-- the old text stands in front, and behind it a first part of what the value prints, where that is told
pub record AppendedPart (told : Option (List ℕ)) (old new : List ℕ) : Type 0 where
  pub stands : IsPrefixOf old new
  pub part : IfSome told (λ text. IsPrefixOf new (old ++ text))

-- a value with this text prints something, as far as that is told
abbrev pub PrintsSome : Option (List ℕ) → Type 0
PrintsSome told = told ≢ Some []

-- the value was printed behind the old text; `Format` comes only from a value that may be unprintable, and `NoMemory` only from one
-- that prints something
abbrev pub Renders : (told : Option (List ℕ)) (unprintable : Bool) → Result (Unit {0}) RenderError → (old new : List ℕ) → Type 0
Renders told unprintable (Ok _) old new = Appended told old new
Renders told unprintable (Err Format) old new = (unprintable ≡ true) × AppendedPart told old new
Renders told unprintable (Err NoMemory) old new = PrintsSome told × AppendedPart told old new
