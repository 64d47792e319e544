-- What writing a text leaves, where want of memory is kept and the rest is dropped.
use Rattle.std.specs.Prelude.{◌≡◌, ℕ, List, [], ◌++◌, None}
use Rattle.std.specs.String.{string_bytes}
use Rattle.sval.specs.declared.std_display.Written.{Written}

-- where memory wasn't wanting by then, it wasn't before, and the text was appended; an empty text changes nothing of that
pub record Wrote (old : Written) (text : List ℕ) (new : Written) : Type 0 where
  pub earlier : new.want ≡ None → old.want ≡ None
  pub appended : new.want ≡ None → string_bytes new.text ≡ string_bytes old.text ++ text
  pub unchanged : text ≡ [] → new.want ≡ old.want
