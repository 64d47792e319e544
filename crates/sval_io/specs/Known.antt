-- Bytes that a writer or a reader tells always, or never.
use Rattle.std.specs.Prelude.{◌≡◌, ℕ, Bool, true, false, List, [], Option, Some, None, refl}
use Rattle.std.specs.Option.{is_some}
use Rattle.std.specs.Io.KnownBytes.{Keeps, append_known}

-- the bytes where they are told, and else none
abbrev pub known_if : Bool → Option (List ℕ) → Option (List ℕ)
known_if true bytes = bytes
known_if false bytes = None

-- so they are told always, or never
pub told_if : (tells : Bool) (bytes : Option (List ℕ)) → (tells ≡ true → is_some bytes ≡ true) → is_some (known_if tells bytes) ≡ tells
told_if true bytes told = told refl
told_if false bytes told = refl

-- bytes with others behind them are told where they are
pub told_behind : {tells : Bool} (bytes : Option (List ℕ)) (behind : List ℕ) → is_some bytes ≡ tells → is_some (append_known bytes behind) ≡ tells
told_behind None behind told = told
told_behind (Some front) behind told = told

-- what a buffer had taken was passed on to the writer behind it, but for this rest: none, where the buffer was empty
pub record IsPassedOn (taken : Option (List ℕ)) (buffer : List ℕ) (written : Option (List ℕ)) : Type 0 where
  pub rest : List ℕ
  pub keeps : Keeps taken (append_known written rest)
  pub empty : buffer ≡ [] → rest ≡ []
