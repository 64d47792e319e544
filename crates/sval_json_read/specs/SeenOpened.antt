-- What the stack of the code stands for.
use Rattle.std.specs.Prelude.{◌≡◌, List, [], ◌∷◌, Option, Some, None}
use Rattle.sval_json_read.specs.declared.stack.Opened.{Opened}
use Rattle.sval_json_read.specs.declared.stack.Opened.TheVariants as opened
use Rattle.sval_json_read.specs.Reader as machine

-- a container of the code
abbrev pub opened_of : Opened → machine.Opened
opened_of opened.Array = machine.Array
opened_of opened.Object = machine.Object

-- the innermost container, if something is open
abbrev pub TopContainerIs : Option Opened → List machine.Opened → Type 0
TopContainerIs None all = all ≡ []
TopContainerIs (Some top) all = (outer : List machine.Opened) × (all ≡ opened_of top ∷ outer)

-- what is open around the innermost container
abbrev pub around_container : List machine.Opened → List machine.Opened
around_container [] = []
around_container (top ∷ rest) = rest
