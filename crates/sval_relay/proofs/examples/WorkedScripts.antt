-- Scripts and the JSON that they give, as they compute.
use Rattle.std.specs.Prelude.{◌≡◌, ℕ, negsuc, List, [], ◌∷◌, Some, None, Ok, Err, codes, refl, true, false}
use Rattle.std.specs.Str.{is_utf8, chars}
use Rattle.std.specs.Char.{encode_utf8}
use Rattle.std.specs.Fmt.{digits}
use Rattle.hex.specs.Hex.{decode_pairs}
use Rattle.sval_label.specs.Calls.{Call, Int, I64, TextBegin, TextFragment, TextEnd, Begin, End, PartBegin, PartEnd, Seq, Item}
use Rattle.sval_json.specs.declared.style.Variants.TheVariants.{Beside}
use Rattle.sval_program.specs.declared.failure.Fault.TheVariants as fault
use Rattle.sval_program.specs.declared.failure.Failure.TheVariants as failure
use Rattle.sval_program.specs.Failures as failures
use Rattle.sval_json.specs.Steps.{written, written_in}
use Rattle.sval_script.specs.Lines.{Good, lines, line_of, forms}
use Rattle.sval_relay.specs.declared.way.Way.TheVariants.{Direct, Buffered, Calls, DirectBeside, BufferedBeside}
use Rattle.sval_relay.specs.declared.way.Form.TheVariants.{Serve, Made}
use Rattle.sval_relay.specs.Serves.{relay_terms}
use Rattle.sval_relay.specs.Ways.{relay_form}
use Rattle.sval_relay.specs.Verdict.{one_in, all_in}

sequence_calls : List Call
sequence_calls = Begin Seq (Some 2) ∷ PartBegin Item ∷ Int I64 (negsuc 6) ∷ PartEnd Item
    ∷ PartBegin Item ∷ TextBegin None ∷ TextFragment true (codes "a") ∷ TextFragment false (10 ∷ codes "b") ∷ TextEnd ∷ PartEnd Item ∷ End Seq ∷ []

abbrev sequence_script : List ℕ
sequence_script = codes "seq_begin 2\nseq_value_begin\ni64 -7\nseq_value_end\nseq_value_begin\ntext_begin -\ntext_fragment =61\ntext_fragment_computed =0a62\ntext_end\nseq_value_end\nseq_end\n"

sequence_lines : lines sequence_script ≡ Good sequence_calls
unfolding lines line_of forms decode_pairs is_utf8 chars encode_utf8 sequence_calls
sequence_lines = refl

-- the stored run of the program: its text is the one that the steps write
sequence_text : (written sequence_calls).written ≡ codes "[-7,\"a\\nb\"]"
unfolding sequence_calls digits
sequence_text = refl

-- it holds no enum, so its text is the same in both styles
sequence_text_beside : (written_in Beside sequence_calls).written ≡ codes "[-7,\"a\\nb\"]"
unfolding sequence_calls digits
sequence_text_beside = refl

-- ---- the forms

alone : (relay_form (codes "direct" ∷ []) ≡ Some (Serve (one_in Direct))) × (relay_form (codes "buffered" ∷ []) ≡ Some (Serve (one_in Buffered)))
    × (relay_form (codes "calls" ∷ []) ≡ Some (Serve (one_in Calls)))
alone = (refl, refl, refl)

with_beside : (relay_form (codes "direct" ∷ codes "beside" ∷ []) ≡ Some (Serve (one_in DirectBeside)))
    × (relay_form (codes "buffered" ∷ codes "beside" ∷ []) ≡ Some (Serve (one_in BufferedBeside)))
with_beside = (refl, refl)

with_lines : (relay_form (codes "direct" ∷ codes "lines" ∷ []) ≡ Some (Serve (all_in Direct)))
    × (relay_form (codes "buffered" ∷ codes "lines" ∷ []) ≡ Some (Serve (all_in Buffered)))
    × (relay_form (codes "calls" ∷ codes "lines" ∷ []) ≡ Some (Serve (all_in Calls)))
    × (relay_form (codes "direct" ∷ codes "beside" ∷ codes "lines" ∷ []) ≡ Some (Serve (all_in DirectBeside)))
    × (relay_form (codes "buffered" ∷ codes "beside" ∷ codes "lines" ∷ []) ≡ Some (Serve (all_in BufferedBeside)))
with_lines = (refl, refl, refl, refl, refl)

made : (relay_form (codes "made" ∷ codes "0" ∷ []) ≡ Some (Made 0)) × (relay_form (codes "made" ∷ codes "50000" ∷ []) ≡ Some (Made 50000))
made = (refl, refl)

no_numbers : (relay_form (codes "made" ∷ codes "50001" ∷ []) ≡ None) × (relay_form (codes "made" ∷ codes "01" ∷ []) ≡ None)
    × (relay_form (codes "made" ∷ codes "+1" ∷ []) ≡ None) × (relay_form (codes "made" ∷ [] ∷ []) ≡ None) × (relay_form (codes "made" ∷ []) ≡ None)
no_numbers = (refl, refl, refl, refl, refl)

no_forms : (relay_form [] ≡ None) × (relay_form (codes "beside" ∷ []) ≡ None) × (relay_form (codes "lines" ∷ []) ≡ None)
    × (relay_form (codes "calls" ∷ codes "beside" ∷ []) ≡ None) × (relay_form (codes "direct" ∷ codes "direct" ∷ []) ≡ None)
    × (relay_form (codes "direct" ∷ codes "lines" ∷ codes "beside" ∷ []) ≡ None)
    × (relay_form (codes "direct" ∷ codes "beside" ∷ codes "beside" ∷ []) ≡ None)
no_forms = (refl, refl, refl, refl, refl, refl, refl)

-- ---- what the third device is told

usage : failures.failure_line relay_terms.usage (Err failure.Usage) ≡ codes "usage: sval_relay direct [beside] [lines]|buffered [beside] [lines]|calls [lines]|made N\n"
usage = refl

lines_that_are_named : (failures.failure_line [] (Err (failure.Fault (fault.BadLine 1))) ≡ codes "line 1: not a call\n")
    × (failures.failure_line [] (Err (failure.Fault (fault.BadCall 120))) ≡ codes "line 120: no value goes on with this call\n")
unfolding digits
lines_that_are_named = (refl, refl)

not_whole : (failures.failure_line [] (Err (failure.Fault (fault.Unfinished false))) ≡ codes "the calls are not one whole value\n")
    × (failures.failure_line [] (Err (failure.Fault (fault.Unfinished true))) ≡ codes "the calls are not whole values\n")
not_whole = (refl, refl)

nothing_is_told : failures.failure_line [] (Ok tt) ≡ []
nothing_is_told = refl
