-- When a value makes the calls that are expected.
use Rattle.std.specs.Prelude.{◌≡◌, List}
use Rattle.sval_label.specs.Calls.{Call}
use Rattle.sval_core.specs.Law.{Emission}
use Rattle.sval_check.specs.Tokens.{all_compared}

-- its calls are these, as far as tokens are compared
abbrev pub MakesTokens : Emission → List Call → Type 0
MakesTokens e calls = all_compared e.calls ≡ all_compared calls
