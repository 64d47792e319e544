-- Lists of trees, as they are spelled.
use Rattle.std.specs.Prelude.{◌≡◌, true, false, List, [], ◌∷◌, Some, codes, refl}
use Rattle.sval_label.specs.Calls.{Call, Head}
use Rattle.sval_core.specs.Trees.{Null, Container, none, Item}
use Rattle.sval_core.specs.Checker as machine
use Rattle.sval_core.specs.Many.{SpellsAll, IsViableAll, AreEnds, slice}
use Rattle.sval_core.specs.ManyChecker.{RunsAll, done, hint, more}
use Rattle.sval_core.proofs.Decided.{Stepped}
use Rattle.sval_core.proofs.ManyTaken.{viable_list_is_taken}
use Rattle.sval_core.proofs.ManyScanned.{after_step, not_taken}

-- no calls, and a hint alone, spell no tree
nothing_spelled : SpellsAll [] [] × SpellsAll (Call.TagHint (codes "NUMBER") ∷ []) [] × AreEnds (Call.TagHint (codes "NUMBER") ∷ []) [] []
nothing_spelled = (refl, refl, (refl, refl))

-- a null, and behind a hint an empty sequence
abbrev null_and_sequence : List Call
null_and_sequence = Call.Null ∷ Call.TagHint (codes "NUMBER") ∷ Call.Begin Head.Seq (Some 0) ∷ Call.End Head.Seq ∷ []

two_spelled : SpellsAll null_and_sequence (Null ∷ Container Head.Seq none ∷ [])
two_spelled = (
  Call.Null ∷ [],
  Call.TagHint (codes "NUMBER") ∷ Call.Begin Head.Seq (Some 0) ∷ Call.End Head.Seq ∷ [],
  refl,
  (tt, refl),
  (
    Call.TagHint (codes "NUMBER") ∷ Call.Begin Head.Seq (Some 0) ∷ Call.End Head.Seq ∷ [],
    [],
    refl,
    ((refl, tt, tt), (Some 0, Call.End Head.Seq ∷ [], refl, refl, refl)),
    refl,
  ),
)

-- the null ends with the first call, and the sequence with the fourth
two_ends : AreEnds null_and_sequence (Null ∷ Container Head.Seq none ∷ []) (1 ∷ 4 ∷ [])
two_ends = (
  [],
  Call.Null,
  Call.TagHint (codes "NUMBER") ∷ Call.Begin Head.Seq (Some 0) ∷ Call.End Head.Seq ∷ [],
  4 ∷ [],
  refl,
  λ e. absurd (cc e),
  (tt, refl),
  refl,
  (
    Call.TagHint (codes "NUMBER") ∷ Call.Begin Head.Seq (Some 0) ∷ [],
    Call.End Head.Seq,
    [],
    [],
    refl,
    λ e. absurd (cc e),
    ((refl, tt, tt), (Some 0, Call.End Head.Seq ∷ [], refl, refl, refl)),
    refl,
    (refl, refl),
  ),
)

-- the calls of each, the hint before those of the second one
two_slices : (slice 0 1 null_and_sequence ≡ Call.Null ∷ [])
    × (slice 1 4 null_and_sequence ≡ Call.TagHint (codes "NUMBER") ∷ Call.Begin Head.Seq (Some 0) ∷ Call.End Head.Seq ∷ [])
two_slices = (refl, refl)

-- the machine notes the same numbers
two_run : RunsAll 0 false [] null_and_sequence (1 ∷ 4 ∷ []) true []
two_run =
    more Call.Null Call.Null true [] refl (machine.null tt)
    (hint (Call.TagHint (codes "NUMBER")) refl
    (more (Call.Begin Head.Seq (Some 0)) (Call.Begin Head.Seq (Some 0)) false (machine.InContainer Head.Seq Item (Some 0) ∷ []) refl (machine.begin refl tt)
    (more (Call.End Head.Seq) (Call.End Head.Seq) true [] refl (machine.end refl tt refl) done)))

-- after a null nothing that has begun is left to end
pub not_completed : IsViableAll (Call.Null ∷ Call.End Head.Seq ∷ []) → ⊥
not_completed v =
    let taken = viable_list_is_taken (Call.Null ∷ Call.End Head.Seq ∷ []) v in
    let later = after_step {p = Call.Null} {cs = Call.End Head.Seq ∷ []} refl (machine.null tt) taken.1 in
    not_taken {p = Call.End Head.Seq} refl nothing_ends later.3
  where
    nothing_ends : Stepped false [] (Call.End Head.Seq) → ⊥
    nothing_ends (b, fs, s) = elim s [ ]
