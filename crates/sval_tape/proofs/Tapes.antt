-- Tapes, call by call.
use Rattle.std.specs.Prelude.{◌≡◌, List, [], ◌∷◌, ◌++◌, refl}
use Rattle.std.proofs.lemmas.List.Concat.{flat_map-cons}
use Rattle.sval_label.specs.Calls.{Call}
use Rattle.sval_tape.specs.Tapes.{call_bytes, tape_of}

pub tape-cons : (call : Call) (calls : List Call) → tape_of (call ∷ calls) ≡ call_bytes call ++ tape_of calls
unfolding tape_of
tape-cons call calls = flat_map-cons call_bytes call calls

pub tape-nil : tape_of [] ≡ []
unfolding tape_of
tape-nil = refl
