-- What a step towards the next line makes of the bytes that are read ahead.
use Rattle.std.specs.Prelude.{◌≡◌, ◌≢◌, ℕ, suc, ◌<◌, Bool, true, false, List, [], ◌∷◌, ◌++◌, take, drop, length, Option, Some, IfSome, MatchOption}
use Rattle.sval_io.specs.Sources.{Supply}
use Rattle.sval_lines.specs.SourceLines.{has_no_feed}

-- at this place of the bytes stands the first line feed
pub record IsFeedAt (bytes : List ℕ) (place : ℕ) : Type 0 where
  pub within : place < length bytes
  pub no_feed : has_no_feed (take place bytes) ≡ true
  pub same : bytes ≡ take place bytes ++ (10 ∷ drop (suc place) bytes)

-- the place of the first line feed, if there is one
abbrev pub IsFirstFeed : List ℕ → Option ℕ → Type 0
IsFirstFeed bytes place = MatchOption place (has_no_feed bytes ≡ true) (λ at. IsFeedAt bytes at)

-- the bytes up to a line feed went to the line, or all where there is none
pub record MovesUpToFeed (bytes line rest next : List ℕ) : Type 0 where
  pub part : List ℕ
  pub no_feed : has_no_feed part ≡ true
  pub same : bytes ≡ part ++ (10 ∷ rest)
  pub moved : next ≡ line ++ part

pub record MovesAll (bytes line rest next : List ℕ) : Type 0 where
  pub no_feed : has_no_feed bytes ≡ true
  pub empty : rest ≡ []
  pub moved : next ≡ line ++ bytes

abbrev pub MovesLine : Bool → List ℕ → List ℕ → List ℕ → List ℕ → Type 0
MovesLine true bytes line rest next = MovesUpToFeed bytes line rest next
MovesLine false bytes line rest next = MovesAll bytes line rest next

-- some first bytes of what was left are read ahead
pub record ReadsAhead (all bytes : List ℕ) (new : Option (List ℕ)) : Type 0 where
  pub rest : List ℕ
  pub same : all ≡ bytes ++ rest
  pub left : new ≡ Some rest

-- nothing was left
pub record HasNoMore (all : List ℕ) (new : Option (List ℕ)) : Type 0 where
  pub empty : all ≡ []
  pub left : new ≡ Some []

abbrev pub ReadsOrEnds : Bool → List ℕ → List ℕ → Option (List ℕ) → Type 0
ReadsOrEnds true all bytes new = ReadsAhead all bytes new
ReadsOrEnds false all bytes new = HasNoMore all new

-- bytes were read ahead, or nothing was left; no fault was counted
pub record Refills (some : Bool) (old : Supply) (bytes : List ℕ) (new : Supply) : Type 0 where
  pub read : IfSome old.left (λ all. ReadsOrEnds some all bytes new.left)
  pub filled : some ≡ true → bytes ≢ []
  pub none : some ≡ false → bytes ≡ []
  pub faults : new.faults ≡ old.faults
