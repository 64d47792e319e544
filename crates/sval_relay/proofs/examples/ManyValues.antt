-- What scripts and calls give where many values may come, as it computes.
use Rattle.std.specs.Prelude.{◌≡◌, Bool, pos, true, false, List, [], ◌∷◌, Some, None, codes, refl}
use Rattle.std.specs.Fmt.{digits}
use Rattle.sval_label.specs.Calls as call
use Rattle.sval_label.specs.Calls.{Call, Head, Slot}
use Rattle.sval_core.specs.Trees.{Tree, Null, Truth, Int, Container, none, part, Item}
use Rattle.sval_core.specs.Many.{SpellsAll}
use Rattle.sval_core.specs.Checker as machine
use Rattle.sval_core.specs.ManyChecker as all
use Rattle.sval_core.specs.ManyChecker.{Progress, kept_all}
use Rattle.sval_core.proofs.Completions.{viable_is_taken}
use Rattle.sval_core.proofs.Spellings.{spelling_is_viable}
use Rattle.sval_core.proofs.ManySpellings.{one_is_list, list_spelling_is_viable}
use Rattle.sval_core.proofs.ManyTaken.{taken_list_is_viable, trees_end}
use Rattle.sval_core.proofs.examples.ListsOfTrees.{not_completed}
use Rattle.sval_script.specs.Lines.{lines, line_of, forms}
use Rattle.sval_script.specs.Printed.{printed, line}
use Rattle.sval_relay.specs.declared.way.Way.TheVariants.{Direct, Buffered}
use Rattle.sval_relay.specs.Verdict.{BadCall, Unfinished, Key, Text, Script, asked_in, left, trees_verdict, ending, IsOfRelayCalls, bad_call, unfinished, whole, IsVerdictOn}

-- a null and a truth value, each with its line feed
two_lines : IsVerdictOn (Text (codes "null\ntrue\n")) (codes "null\nbool true\n") (asked_in Direct) true
unfolding lines line_of forms
two_lines = whole (Null ∷ Truth true ∷ []) (call.Null ∷ [], call.Truth true ∷ [], refl, (tt, refl), (call.Truth true ∷ [], [], refl, (tt, refl), refl))

-- nothing, and hints alone, give nothing
no_line : IsVerdictOn (Text []) [] (asked_in Direct) true
unfolding lines
no_line = whole [] refl

hint_alone : IsOfRelayCalls (call.TagHint (codes "NUMBER") ∷ []) (asked_in Direct) true (Text [])
hint_alone = whole [] refl

-- canonical scripts, one after the other
abbrev null_and_sequence : List Tree
null_and_sequence = Null ∷ Container Head.Seq none ∷ []

null_and_sequence_spelled : SpellsAll (call.Null ∷ call.TagHint (codes "NUMBER") ∷ call.Begin Head.Seq (Some 0) ∷ call.End Head.Seq ∷ []) null_and_sequence
null_and_sequence_spelled = (
  call.Null ∷ [],
  call.TagHint (codes "NUMBER") ∷ call.Begin Head.Seq (Some 0) ∷ call.End Head.Seq ∷ [],
  refl,
  (tt, refl),
  (
    call.TagHint (codes "NUMBER") ∷ call.Begin Head.Seq (Some 0) ∷ call.End Head.Seq ∷ [],
    [],
    refl,
    ((refl, tt, tt), (Some 0, call.End Head.Seq ∷ [], refl, refl, refl)),
    refl,
  ),
)

two_scripts : IsOfRelayCalls (call.Null ∷ call.TagHint (codes "NUMBER") ∷ call.Begin Head.Seq (Some 0) ∷ call.End Head.Seq ∷ []) Script true
    (Text (codes "null\nseq_begin -\nseq_end\n"))
unfolding printed line
two_scripts = whole null_and_sequence null_and_sequence_spelled

two_texts : IsOfRelayCalls (call.Null ∷ call.TagHint (codes "NUMBER") ∷ call.Begin Head.Seq (Some 0) ∷ call.End Head.Seq ∷ []) (asked_in Direct) true
    (Text (codes "null\n[]\n"))
two_texts = whole null_and_sequence null_and_sequence_spelled

-- the second tree's key is no text: the first tree's line stands, and what was written of the second one
abbrev sequence_as_key : Tree
sequence_as_key = Container Head.Map (part Slot.Key (Container Head.Seq none) (part Slot.Value Null none))

refused_second : (trees_verdict (asked_in Direct) true (Int call.I64 (pos 1) ∷ sequence_as_key ∷ []) ≡ Key (codes "1\n{\""))
    × (left (asked_in Direct) (ending (asked_in Direct) true) (Int call.I64 (pos 1) ∷ sequence_as_key ∷ []) ≡ codes "1\n{\"")
unfolding digits
refused_second = (refl, refl)

abbrev map_calls : List Call
map_calls =
    call.Begin Head.Map None ∷ call.PartBegin Slot.Key ∷ call.Begin Head.Seq None ∷ call.End Head.Seq ∷ call.PartEnd Slot.Key
    ∷ call.PartBegin Slot.Value ∷ call.Null ∷ call.PartEnd Slot.Value ∷ call.End Head.Map ∷ []

refused_second_calls : IsOfRelayCalls (call.Int call.I64 (pos 1) ∷ map_calls) (asked_in Direct) true (Key (codes "1\n{\""))
unfolding digits
refused_second_calls = whole (Int call.I64 (pos 1) ∷ sequence_as_key ∷ []) (
  call.Int call.I64 (pos 1) ∷ [],
  map_calls,
  refl,
  (tt, refl),
  (
    map_calls,
    [],
    refl,
    ((refl, (refl, (refl, tt)), (refl, (refl, tt, tt), (refl, tt, tt))), (None, _, tt, refl, (_, _, refl, (None, _, tt, refl, refl), (_, _, refl, refl, refl)))),
    refl,
  ),
)

-- a sequence that has no end yet
open_sequence : IsVerdictOn Unfinished (codes "null\nseq_begin -\n") (asked_in Buffered) true
unfolding lines line_of forms
open_sequence = unfinished (taken_list_is_viable opened now opened_run) (λ trees s. let e : (frame ∷ []) ≡ [] = trees_end opened now opened_run trees s in cc e)
  where
    opened : List Call
    opened = call.Null ∷ call.Begin Head.Seq None ∷ []

    frame : machine.Frame
    frame = machine.InContainer Head.Seq Item None

    now : Progress
    now = record { filled = false; frames = frame ∷ []; ends = 1 ∷ [] }

    opened_run : kept_all opened now
    opened_run = all.more call.Null call.Null true [] refl (machine.null tt)
        (all.more (call.Begin Head.Seq None) (call.Begin Head.Seq None) false (frame ∷ []) refl (machine.begin refl tt) all.done)

-- an end of nothing behind a value
end_of_nothing : IsVerdictOn (BadCall 2) (codes "null\nseq_end\n") (asked_in Direct) true
unfolding lines line_of forms
end_of_nothing = bad_call (call.Null ∷ []) (call.End Head.Seq) [] refl (list_spelling_is_viable (call.Null ∷ []) (Null ∷ []) (one_is_list (call.Null ∷ []) Null (tt, refl))) not_completed

-- a second value where one is asked for
two_for_one : IsVerdictOn (BadCall 2) (codes "null\nnull\n") (asked_in Direct) false
unfolding lines line_of forms
two_for_one = bad_call (call.Null ∷ []) call.Null [] refl (spelling_is_viable (call.Null ∷ []) Null (tt, refl)) (λ v. after_null (viable_is_taken (call.Null ∷ call.Null ∷ []) v).2)
  where
    after_null : {b : Bool} {fs : List machine.Frame} → machine.Runs false [] (call.Null ∷ call.Null ∷ []) b fs → ⊥
    after_null (machine.more (machine.null a) (machine.more s r)) = elim s [ ]
