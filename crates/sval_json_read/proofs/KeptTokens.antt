-- Where a reader wants memory: a token is kept.
use Rattle.std.specs.Prelude.{◌≡◌, ℕ, ◌+◌, ◌<◌, true, List, [], ◌∷◌, ◌++◌, length, take, get_or, Option, Some, None, Result, Ok, Err, IfErr, refl}
use Rattle.std.proofs.Common.{ap, ◌∙◌, arith, length-append, take_all, inl, inr}
use Rattle.sval_json_read.specs.declared.number.Phase.{Phase}
use Rattle.sval_json_read.specs.declared.reader.Reader.{Reader}
use Rattle.sval_json_read.specs.declared.reader.Expected.TheVariants.{InNumber}
use Rattle.sval_json_read.specs.Tokens.{Placed}
use Rattle.sval_json_read.specs.Numbers.{number_may_end}
use Rattle.sval_json_read.specs.Reader.{Opened, Expected, ReaderState, reader_start, reader_step, after_bytes}
use Rattle.sval_json_read.specs.SeenReader.{phase_of, expected_of, seen_state, ends_number, HasToken, KeepsToken, KeepsAt}
use Rattle.sval_json_read.specs.ReadErrors.{KeepsSome}
use Rattle.sval_json_read.proofs.Loop.{after-byte}

-- one token more
pub keeps_more : (state : ReaderState) (expected : Expected) (opened : List Opened) (tokens : List Placed) (placed : Placed)
    → KeepsAt state (Some (record { expected = expected; opened = opened; tokens = tokens ++ (placed ∷ []) }))
keeps_more state expected opened tokens placed = inr (omega (arith, length-append tokens (placed ∷ [])))

-- a number that may end
pub has_ended : (bytes : List ℕ) (upto : ℕ) (reader : Reader) (phase : Phase) → reader.expected ≡ InNumber phase → number_may_end (phase_of phase) ≡ true → HasToken (seen_state bytes upto reader)
has_ended bytes upto reader phase e m = inr (ap (λ x. ends_number (expected_of bytes reader.from upto x)) e ∙ m)

pub if_err : {A E : Type 0} {P : Type 0} (r : Result A E) → P → IfErr r (λ error. P)
if_err (Ok x) p = tt
if_err (Err e) p = p

-- ---- and so some first bytes keep one

pub kept_at : (bytes : List ℕ) (at : ℕ) (state : ReaderState) → at < length bytes → after_bytes reader_start (take at bytes) ≡ Some state → KeepsAt state (reader_step state (get_or bytes at 0)) → KeepsSome bytes
kept_at bytes at state l e (inl h) = record { count = at; within = omega arith; state = state; reached = e; keeps = h }
kept_at bytes at state l e (inr h) = go (reader_step state (get_or bytes at 0)) refl h
  where
    go : (next : Option ReaderState) → reader_step state (get_or bytes at 0) ≡ next → KeepsToken next → KeepsSome bytes
    go None f k = absurd k
    go (Some next) f k = record { count = at + 1; within = omega arith; state = next; reached = after-byte bytes at state l e ∙ f; keeps = inl k }

pub kept_end : (bytes : List ℕ) (state : ReaderState) → after_bytes reader_start bytes ≡ Some state → HasToken state → KeepsSome bytes
kept_end bytes state e h = record {
  count = length bytes;
  within = omega arith;
  state = state;
  reached = ap (after_bytes reader_start) (take_all (length bytes) bytes (omega arith)) ∙ e;
  keeps = h;
}
