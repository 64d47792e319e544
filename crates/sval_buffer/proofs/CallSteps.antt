-- What each call does to a buffer for texts, and to one for binaries, is what its lowered calls do.
use Rattle.std.specs.Prelude.{◌≡◌, true, false, [], ◌∷◌, refl}
use Rattle.sval_label.specs.Calls.{Head, Slot, Call}
use Rattle.sval_core.specs.Law.{Emission}
use Rattle.sval_lower.specs.Lowered.{lowered_call, lowered_within, is_for_texts, is_for_binaries}
use Rattle.sval_buffer.specs.Pushes.{HeldBytes}
use Rattle.sval_buffer.specs.Forest.{no_bytes}
use Rattle.sval_buffer.specs.declared.error.Word.TheVariants as word
use Rattle.sval_buffer.specs.Collected.{text_use, text_collected, binary_use, binary_collected}
use Rattle.sval_buffer.specs.CollectSteps.{text_step, steps_of, answer_after, binary_step, text_collects, binary_collects}
use Rattle.sval_buffer.specs.CollectLaws.{StreamCollects}
use Rattle.sval_buffer.proofs.CollectingFragments.{stream_collects}
use Rattle.sval_buffer.proofs.CollectedSteps.{steps_collect}
use Rattle.sval_buffer.proofs.TextSteps.{after_text, text_int, text_bytes, text_own}
use Rattle.sval_buffer.proofs.BinarySteps.{after_binary, binary_int, binary_own}

abbrev Meets : Call → HeldBytes → Type 0
Meets call held =
    (after_text held (lowered_call is_for_texts call) ≡ text_step held call) × (after_binary held (lowered_call is_for_binaries call) ≡ binary_step held call)

call_meets : (call : Call) (held : HeldBytes) → Meets call held
unfolding steps_of lowered_within
call_meets Call.Null held = (refl, refl)
call_meets (Call.Truth b) held = (refl, refl)
call_meets (Call.Int type n) held = (text_int type n held, binary_int type n held)
call_meets (Call.Standalone name) held = (text_own name held, binary_own name held)
call_meets (Call.TagHint tag) held = (refl, refl)
call_meets (Call.TextBegin size) held = (refl, refl)
call_meets (Call.TextFragment true text) held = (refl, refl)
call_meets (Call.TextFragment false text) held = (refl, refl)
call_meets Call.TextEnd held = (refl, refl)
call_meets (Call.BinaryBegin size) held = (refl, refl)
call_meets (Call.BinaryFragment true []) held = (refl, refl)
call_meets (Call.BinaryFragment true (byte ∷ bytes)) held = (refl, refl)
call_meets (Call.BinaryFragment false bytes) held = (text_bytes bytes held, refl)
call_meets Call.BinaryEnd held = (refl, refl)
call_meets (Call.EnumBegin name) held = (refl, refl)
call_meets (Call.EnumEnd name) held = (refl, refl)
call_meets (Call.TaggedBegin name) held = (refl, refl)
call_meets (Call.TaggedEnd name) held = (refl, refl)
call_meets (Call.Begin Head.Seq size) held = (refl, refl)
call_meets (Call.Begin Head.Map size) held = (refl, refl)
call_meets (Call.Begin (Head.Record name) size) held = (refl, refl)
call_meets (Call.Begin (Head.Tuple name) size) held = (refl, refl)
call_meets (Call.Begin (Head.RecordTuple name) size) held = (refl, refl)
call_meets (Call.End Head.Seq) held = (refl, refl)
call_meets (Call.End Head.Map) held = (refl, refl)
call_meets (Call.End (Head.Record name)) held = (refl, refl)
call_meets (Call.End (Head.Tuple name)) held = (refl, refl)
call_meets (Call.End (Head.RecordTuple name)) held = (refl, refl)
call_meets (Call.PartBegin Slot.Item) held = (refl, refl)
call_meets (Call.PartBegin Slot.Key) held = (refl, refl)
call_meets (Call.PartBegin Slot.Value) held = (refl, refl)
call_meets (Call.PartBegin (Slot.Field tag label)) held = (refl, refl)
call_meets (Call.PartBegin (Slot.Place tag index)) held = (refl, refl)
call_meets (Call.PartBegin (Slot.FieldPlace tag label index)) held = (refl, refl)
call_meets (Call.PartEnd Slot.Item) held = (refl, refl)
call_meets (Call.PartEnd Slot.Key) held = (refl, refl)
call_meets (Call.PartEnd Slot.Value) held = (refl, refl)
call_meets (Call.PartEnd (Slot.Field tag label)) held = (refl, refl)
call_meets (Call.PartEnd (Slot.Place tag index)) held = (refl, refl)
call_meets (Call.PartEnd (Slot.FieldPlace tag label index)) held = (refl, refl)

pub text_steps : (e : Emission) → answer_after word.Text e.refuses (steps_of text_step no_bytes e.calls) ≡ text_collected e
text_steps e = steps_collect word.Text is_for_texts text_use text_step (λ call held. (call_meets call held).0) e

-- for what collects a text
pub text_stream : StreamCollects text_collects text_collected
text_stream = stream_collects text_collects text_collected text_steps

pub binary_steps : (e : Emission) → answer_after word.Binary e.refuses (steps_of binary_step no_bytes e.calls) ≡ binary_collected e
binary_steps e = steps_collect word.Binary is_for_binaries binary_use binary_step (λ call held. (call_meets call held).1) e

-- for what collects a binary
pub binary_stream : StreamCollects binary_collects binary_collected
binary_stream = stream_collects binary_collects binary_collected binary_steps
