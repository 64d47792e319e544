-- What the steps write for a program's calls is UTF-8.
use Rattle.std.specs.Prelude.{◌≡◌, ℕ, ◌<◌, Bool, true, false, List, [], ◌∷◌, ◌++◌, codes, decimal, ◌==◌, nat_lt, if◌then◌else◌, Option, Some, None, IfSome, IsUtf8, refl}
use Rattle.std.specs.List.{AllByRecursion}
use Rattle.std.specs.Char.{is_ascii_digit}
use Rattle.std.specs.Fmt.{signed_decimal}
use Rattle.std.proofs.Common.{arith}
use Rattle.std.proofs.lemmas.Bool.Decides.{nat_tests}
use Rattle.std.proofs.lemmas.Str.{IsUtf8-append, IsUtf8-nil}
use Rattle.sval_label.specs.Calls.{Call, Head, Slot, Name, Label}
use Rattle.sval_label.specs.Texts.{truth_text}
use Rattle.sval_label.proofs.Decimals.{short_of_type}
use Rattle.sval_core.specs.Trees.{TextKind, Ordinary, Number, JsonValue, JsonText, JsonNumber, text_kind}
use Rattle.sval_core.specs.Real.{IsRealLabel, IsRealName, IsRealSlot, IsRealCall, head_name}
use Rattle.sval_json.specs.declared.style.Variants.{Variants}
use Rattle.sval_json.specs.declared.style.Variants.TheVariants.{Inside, Beside}
use Rattle.sval_json.specs.Escape.{escaped}
use Rattle.sval_json.specs.Digits.{minus, point, zero_digit, is_sign, is_exponent_mark}
use Rattle.sval_json.specs.Number.{Refusal, InvalidKey, Phase, Start, Signed, Zero, Whole, Point, Fraction, Exponent, ExponentSign, ExponentDigits, Word, Machine, NumberReading, begins_word, sign, word_or_stop, take_byte, take_bytes, number_at_end}
use Rattle.sval_json.specs.Shape.{handle, handle_of, is_identifier, is_none_tag}
use Rattle.sval_json.specs.Actions.{Handler, escapes, copies, reads, WriterState, writer_start, set_named, set_empty, set_quoted, set_handler, Outcome, Action, write, nothing, refuse, continue, ◌then◌, ◌sets◌, from, when}
use Rattle.sval_json.specs.Steps.{value_written, refuse_in_key, opens, closes, quote_if_quoted, handle_text, opens_handle, name_step, after_name, comma_unless_empty, item_begins, text_begins, fragment, fragment_by, number_ends, handler_ends, bytes_step, label_step, own_step, standalone_step, field_begins, ends_tagged, refuses_key, container_begins, container_ends, part_begins, part_ends, writer_step, writer_steps}
use Rattle.sval_json.specs.Laws.{WrittenIsUtf8}
use Rattle.sval_json.specs.Passed.{HasRealEnd, ArePassed}
use Rattle.sval_json.proofs.NumberTexts.{ascii_utf8, number_utf8, signed_number, natural_number, escaped_utf8}
use Rattle.sval_json.proofs.Meaning.{truth_utf8, comma_utf8, indexes_number, numbers_utf8, handle_utf8}

-- wherever it begins, an action writes UTF-8
pub record WritesUtf8 (action : Action) : Type 0 where
  pub at : (state : WriterState) → IsUtf8 (action state).written

-- ---- what actions are made of

write_utf8 : (bytes : List ℕ) → IsUtf8 bytes → WritesUtf8 (write bytes)
write_utf8 bytes u = record { at = λ state. u }

nothing_utf8 : WritesUtf8 nothing
nothing_utf8 = record { at = λ state. IsUtf8-nil }

refuse_utf8 : (why : Refusal) → WritesUtf8 (refuse why)
refuse_utf8 why = record { at = λ state. IsUtf8-nil }

continue_utf8 : (r : Option Refusal) (done : Outcome) (next : Action) → IsUtf8 done.written → WritesUtf8 next → IsUtf8 (continue r done next).written
continue_utf8 (Some why) done next u n = u
continue_utf8 None done next u n = IsUtf8-append _ _ u (n.at done.state)

then_utf8 : (first next : Action) → WritesUtf8 first → WritesUtf8 next → WritesUtf8 (first then next)
then_utf8 first next f n = record { at = λ state. continue_utf8 (first state).refusal (first state) next (f.at state) n }

sets_utf8 : (action : Action) (change : WriterState → WriterState) → WritesUtf8 action → WritesUtf8 (action sets change)
sets_utf8 action change a = record { at = λ state. a.at state }

from_utf8 : (change : WriterState → WriterState) (action : Action) → WritesUtf8 action → WritesUtf8 (from change action)
from_utf8 change action a = record { at = λ state. a.at (change state) }

chosen_utf8 : (b : Bool) (action : Action) (state : WriterState) → WritesUtf8 action → IsUtf8 ((if b then action else nothing) state).written
chosen_utf8 true action state a = a.at state
chosen_utf8 false action state a = IsUtf8-nil

when_utf8 : (test : WriterState → Bool) (action : Action) → WritesUtf8 action → WritesUtf8 (when test action)
when_utf8 test action a = record { at = λ state. chosen_utf8 (test state) action state a }

-- ---- actions

value_utf8 : (bytes : List ℕ) → IsUtf8 bytes → WritesUtf8 (value_written bytes)
value_utf8 bytes u = sets_utf8 (write bytes) (set_empty false) (write_utf8 bytes u)

key_utf8 : WritesUtf8 refuse_in_key
key_utf8 = when_utf8 _ (refuse InvalidKey) (refuse_utf8 InvalidKey)

opens_utf8 : (bytes : List ℕ) → IsUtf8 bytes → WritesUtf8 (opens bytes)
opens_utf8 bytes u = sets_utf8 (refuse_in_key then write bytes) (set_empty true) (then_utf8 refuse_in_key (write bytes) key_utf8 (write_utf8 bytes u))

closes_utf8 : (bytes : List ℕ) → IsUtf8 bytes → WritesUtf8 (closes bytes)
closes_utf8 bytes u = sets_utf8 (write bytes) (set_empty false) (write_utf8 bytes u)

quote_utf8 : WritesUtf8 quote_if_quoted
quote_utf8 = when_utf8 _ (write (codes "\"")) (write_utf8 (codes "\"") (ascii_utf8 (codes "\"") refl))

handle_text_utf8 : (style : Variants) (bytes : List ℕ) → IsUtf8 bytes → IsUtf8 (handle_text style bytes)
handle_text_utf8 Inside bytes u =
    IsUtf8-append _ _ (IsUtf8-append _ _ (ascii_utf8 (codes "{\"") refl) (escaped_utf8 bytes u)) (ascii_utf8 (codes "\":") refl)
handle_text_utf8 Beside bytes u =
    IsUtf8-append _ _ (IsUtf8-append _ _ (ascii_utf8 (codes "{\"variant\":\"") refl) (escaped_utf8 bytes u)) (ascii_utf8 (codes "\",\"value\":") refl)

opens_handle_utf8 : (style : Variants) (o : Option (List ℕ)) → IfSome o IsUtf8 → WritesUtf8 (opens_handle style o)
opens_handle_utf8 style None u = nothing_utf8
opens_handle_utf8 style (Some bytes) u =
    then_utf8 refuse_in_key (write (handle_text style bytes)) key_utf8 (write_utf8 (handle_text style bytes) (handle_text_utf8 style bytes u))

name_utf8 : (style : Variants) (o : Option (List ℕ)) → IfSome o IsUtf8 → WritesUtf8 (name_step style o)
name_utf8 style o u = sets_utf8 _ (set_named false) (when_utf8 (λ state. state.named) (opens_handle style o) (opens_handle_utf8 style o u))

named_utf8 : (style : Variants) (name : Name) → IsRealName name → WritesUtf8 (name_step style (handle name))
named_utf8 style name r = name_utf8 style (handle name) (handle_utf8 name.label name.index r.0 r.1)

comma_step_utf8 : WritesUtf8 comma_unless_empty
comma_step_utf8 = record { at = λ state. comma_utf8 state.empty }

item_utf8 : WritesUtf8 item_begins
item_utf8 = from_utf8 (set_named false) comma_unless_empty comma_step_utf8

text_begins_utf8 : WritesUtf8 text_begins
text_begins_utf8 = from_utf8 (set_empty false) quote_if_quoted quote_utf8

-- ---- numbers, whatever the machine

one_utf8 : (byte : ℕ) → nat_lt byte 128 ≡ true → IsUtf8 (byte ∷ [])
one_utf8 byte low = ascii_utf8 (byte ∷ []) (rw low refl)

sign_utf8 : (negative : Bool) → IsUtf8 (sign negative)
sign_utf8 true = ascii_utf8 (minus ∷ []) refl
sign_utf8 false = IsUtf8-nil

digit_low : (byte : ℕ) → is_ascii_digit byte ≡ true → nat_lt byte 128 ≡ true
digit_low byte h = grind (arith, nat_tests)

sign_low : (byte : ℕ) → is_sign byte ≡ true → nat_lt byte 128 ≡ true
sign_low byte h = grind (arith, nat_tests)

mark_low : (byte : ℕ) → is_exponent_mark byte ≡ true → nat_lt byte 128 ≡ true
mark_low byte h = grind (arith, nat_tests)

point_low : (byte : ℕ) → (byte == point) ≡ true → nat_lt byte 128 ≡ true
point_low byte h = grind (arith, nat_tests)

chosen_reading : (b : Bool) (x y : NumberReading) → (b ≡ true → IsUtf8 x.written) → IsUtf8 y.written → IsUtf8 (let r : NumberReading = if b then x else y in r).written
chosen_reading true x y f u = f refl
chosen_reading false x y f u = u

word_utf8 : (negative : Bool) (phase : Phase) (byte : ℕ) → IsUtf8 (word_or_stop negative phase byte).written
word_utf8 negative phase byte = chosen_reading (begins_word byte) _ _ (λ e. ascii_utf8 (codes "null") refl) IsUtf8-nil

signed_utf8 : (negative : Bool) (byte : ℕ) → nat_lt byte 128 ≡ true → IsUtf8 (sign negative ++ byte ∷ [])
signed_utf8 negative byte low = IsUtf8-append _ _ (sign_utf8 negative) (one_utf8 byte low)

after_zero_utf8 : (negative : Bool) (byte : ℕ) → nat_lt byte 128 ≡ true → IsUtf8 (sign negative ++ zero_digit ∷ byte ∷ [])
after_zero_utf8 negative byte low = IsUtf8-append _ _ (sign_utf8 negative) (ascii_utf8 (zero_digit ∷ byte ∷ []) (rw low refl))

byte_utf8 : (negative : Bool) (phase : Phase) (byte : ℕ) → IsUtf8 (take_byte negative phase byte).written
byte_utf8 negative Start byte =
    chosen_reading (is_sign byte) _ _ (λ e. IsUtf8-nil)
    (chosen_reading (byte == zero_digit) _ _ (λ e. IsUtf8-nil)
    (chosen_reading (is_ascii_digit byte) _ _ (λ e. one_utf8 byte (digit_low byte e)) (word_utf8 negative Start byte)))
byte_utf8 negative Signed byte =
    chosen_reading (byte == zero_digit) _ _ (λ e. IsUtf8-nil)
    (chosen_reading (is_ascii_digit byte) _ _ (λ e. signed_utf8 negative byte (digit_low byte e)) (word_utf8 negative Signed byte))
byte_utf8 negative Zero byte =
    chosen_reading (byte == zero_digit) _ _ (λ e. IsUtf8-nil)
    (chosen_reading (is_ascii_digit byte) _ _ (λ e. signed_utf8 negative byte (digit_low byte e))
    (chosen_reading (byte == point) _ _ (λ e. after_zero_utf8 negative byte (point_low byte e))
    (chosen_reading (is_exponent_mark byte) _ _ (λ e. after_zero_utf8 negative byte (mark_low byte e)) IsUtf8-nil)))
byte_utf8 negative Whole byte =
    chosen_reading (is_ascii_digit byte) _ _ (λ e. one_utf8 byte (digit_low byte e))
    (chosen_reading (byte == point) _ _ (λ e. one_utf8 byte (point_low byte e))
    (chosen_reading (is_exponent_mark byte) _ _ (λ e. one_utf8 byte (mark_low byte e)) IsUtf8-nil))
byte_utf8 negative Point byte = chosen_reading (is_ascii_digit byte) _ _ (λ e. one_utf8 byte (digit_low byte e)) IsUtf8-nil
byte_utf8 negative Fraction byte =
    chosen_reading (is_ascii_digit byte) _ _ (λ e. one_utf8 byte (digit_low byte e))
    (chosen_reading (is_exponent_mark byte) _ _ (λ e. one_utf8 byte (mark_low byte e)) IsUtf8-nil)
byte_utf8 negative Exponent byte =
    chosen_reading (is_sign byte) _ _ (λ e. one_utf8 byte (sign_low byte e))
    (chosen_reading (is_ascii_digit byte) _ _ (λ e. one_utf8 byte (digit_low byte e)) IsUtf8-nil)
byte_utf8 negative ExponentSign byte = chosen_reading (is_ascii_digit byte) _ _ (λ e. one_utf8 byte (digit_low byte e)) IsUtf8-nil
byte_utf8 negative ExponentDigits byte = chosen_reading (is_ascii_digit byte) _ _ (λ e. one_utf8 byte (digit_low byte e)) IsUtf8-nil
byte_utf8 negative Word byte = IsUtf8-nil

bytes_utf8 : (machine : Machine) (bytes : List ℕ) → IsUtf8 (take_bytes machine bytes).written
bytes_utf8 machine [] = IsUtf8-nil
bytes_utf8 machine (byte ∷ bytes) =
    let now : NumberReading = take_byte machine.negative machine.phase byte in
    let later : NumberReading = take_bytes now.machine bytes in
    chosen_reading now.valid (record { written = now.written ++ later.written; machine = later.machine; valid = later.valid }) now
    (λ e. IsUtf8-append _ _ (byte_utf8 machine.negative machine.phase byte) (bytes_utf8 now.machine bytes))
    (byte_utf8 machine.negative machine.phase byte)

end_utf8 : (phase : Phase) → WritesUtf8 (number_ends (number_at_end phase))
end_utf8 Start = refuse_utf8 _
end_utf8 Signed = refuse_utf8 _
end_utf8 Zero = write_utf8 _ (ascii_utf8 (zero_digit ∷ []) refl)
end_utf8 Whole = nothing_utf8
end_utf8 Point = refuse_utf8 _
end_utf8 Fraction = nothing_utf8
end_utf8 Exponent = refuse_utf8 _
end_utf8 ExponentSign = refuse_utf8 _
end_utf8 ExponentDigits = nothing_utf8
end_utf8 Word = nothing_utf8

handler_ends_utf8 : (handler : Handler) → WritesUtf8 (handler_ends handler)
handler_ends_utf8 escapes = nothing_utf8
handler_ends_utf8 copies = nothing_utf8
handler_ends_utf8 (reads machine) = end_utf8 machine.phase

-- ---- fragments and names

fragment_by_utf8 : (handler : Handler) (bytes : List ℕ) → IsUtf8 bytes → WritesUtf8 (fragment_by handler bytes)
fragment_by_utf8 escapes bytes u = write_utf8 (escaped bytes) (escaped_utf8 bytes u)
fragment_by_utf8 copies bytes u = write_utf8 bytes u
fragment_by_utf8 (reads machine) bytes u = record { at = λ state. bytes_utf8 machine bytes }

fragment_utf8 : (bytes : List ℕ) → IsUtf8 bytes → WritesUtf8 (fragment bytes)
fragment_utf8 bytes u = record { at = λ state. (fragment_by_utf8 state.handler bytes u).at state }

items_utf8 : (bytes : List ℕ) → AllByRecursion (λ byte. byte < 256) bytes → WritesUtf8 (bytes_step bytes)
items_utf8 [] h = nothing_utf8
items_utf8 (byte ∷ bytes) h =
    then_utf8 _ (bytes_step bytes)
    (then_utf8 item_begins (value_written (decimal byte)) item_utf8 (value_utf8 (decimal byte) (number_utf8 (decimal byte) (natural_number byte h.0))))
    (items_utf8 bytes h.1)

label_utf8 : (l : Option Label) (o : Option (List ℕ)) → IfSome l IsRealLabel → IfSome o IsUtf8 → WritesUtf8 (label_step l o)
label_utf8 (Some label) o u v =
    then_utf8 _ quote_if_quoted (then_utf8 text_begins (fragment label.text) text_begins_utf8 (fragment_utf8 label.text u)) quote_utf8
label_utf8 None (Some digits) u v = value_utf8 digits v
label_utf8 None None u v = value_utf8 (codes "null") (ascii_utf8 (codes "null") refl)

own_step_utf8 : (b : Bool) (l : Option Label) (o : Option (List ℕ)) → IfSome l IsRealLabel → IfSome o IsUtf8 → WritesUtf8 (own_step b l o)
own_step_utf8 true l o u v = value_utf8 (codes "null") (ascii_utf8 (codes "null") refl)
own_step_utf8 false l o u v = label_utf8 l o u v

standalone_utf8 : (name : Name) → IsRealName name → WritesUtf8 (standalone_step name)
standalone_utf8 name r =
    let own : WritesUtf8 (own_step (is_none_tag name.tag) name.label (handle_of None name.index)) =
    own_step_utf8 (is_none_tag name.tag) name.label (handle_of None name.index) r.0 (numbers_utf8 _ (indexes_number name.index r.1)) in
    record { at = λ state. own.at (set_empty false (set_named false state)) }

label_text_utf8 : (b : Bool) (text : List ℕ) → IsUtf8 text → IsUtf8 (if b then text else escaped text)
label_text_utf8 true text u = u
label_text_utf8 false text u = escaped_utf8 text u

field_utf8 : (label : Label) → IsRealLabel label → WritesUtf8 (field_begins label)
field_utf8 label u =
    then_utf8 item_begins _ item_utf8 (write_utf8 _ (IsUtf8-append _ _
    (IsUtf8-append _ _ (ascii_utf8 (codes "\"") refl) (label_text_utf8 (is_identifier label.tag) label.text u)) (ascii_utf8 (codes "\":") refl)))

-- ---- tagged values, containers and parts

refuses_key_utf8 : (kind : TextKind) → WritesUtf8 (refuses_key kind)
refuses_key_utf8 Ordinary = nothing_utf8
refuses_key_utf8 JsonText = nothing_utf8
refuses_key_utf8 JsonValue = key_utf8
refuses_key_utf8 JsonNumber = nothing_utf8
refuses_key_utf8 Number = nothing_utf8

ends_tagged_utf8 : (kind : TextKind) → WritesUtf8 (ends_tagged kind)
ends_tagged_utf8 Ordinary = nothing_utf8
ends_tagged_utf8 JsonText = record { at = λ state. IsUtf8-nil }
ends_tagged_utf8 JsonValue = record { at = λ state. IsUtf8-nil }
ends_tagged_utf8 JsonNumber = record { at = λ state. IsUtf8-nil }
ends_tagged_utf8 Number = record { at = λ state. (handler_ends_utf8 state.handler).at (set_quoted true (set_handler escapes state)) }

bracket : (bytes : List ℕ) → WritesUtf8 (opens bytes) → (style : Variants) (name : Name) → IsRealName name → WritesUtf8 (name_step style (handle name) then opens bytes)
bracket bytes o style name r = then_utf8 (name_step style (handle name)) (opens bytes) (named_utf8 style name r) o

open_row : WritesUtf8 (opens (codes "["))
open_row = opens_utf8 (codes "[") (ascii_utf8 (codes "[") refl)

open_pairs : WritesUtf8 (opens (codes "{"))
open_pairs = opens_utf8 (codes "{") (ascii_utf8 (codes "{") refl)

close_row : WritesUtf8 (closes (codes "]"))
close_row = closes_utf8 (codes "]") (ascii_utf8 (codes "]") refl)

close_pairs : WritesUtf8 (closes (codes "}"))
close_pairs = closes_utf8 (codes "}") (ascii_utf8 (codes "}") refl)

begins_utf8 : (style : Variants) (head : Head) → IsRealName (head_name head) → WritesUtf8 (container_begins style head)
begins_utf8 style Head.Seq r = open_row
begins_utf8 style Head.Map r = open_pairs
begins_utf8 style (Head.Record name) r = bracket (codes "{") open_pairs style name r
begins_utf8 style (Head.Tuple name) r = bracket (codes "[") open_row style name r
begins_utf8 style (Head.RecordTuple name) r = bracket (codes "{") open_pairs style name r

ends_utf8 : (head : Head) → WritesUtf8 (container_ends head)
ends_utf8 Head.Seq = close_row
ends_utf8 Head.Map = close_pairs
ends_utf8 (Head.Record name) = sets_utf8 _ (after_name name) close_pairs
ends_utf8 (Head.Tuple name) = sets_utf8 _ (after_name name) close_row
ends_utf8 (Head.RecordTuple name) = sets_utf8 _ (after_name name) close_pairs

part_begins_utf8 : (slot : Slot) → IsRealSlot slot → WritesUtf8 (part_begins slot)
part_begins_utf8 Slot.Item r = item_utf8
part_begins_utf8 Slot.Key r =
    sets_utf8 _ (set_quoted false) (then_utf8 (from (set_named false) comma_unless_empty) (write (codes "\"")) item_utf8 (write_utf8 (codes "\"") (ascii_utf8 (codes "\"") refl)))
part_begins_utf8 Slot.Value r = nothing_utf8
part_begins_utf8 (Slot.Field tag label) r = field_utf8 label r
part_begins_utf8 (Slot.Place tag index) r = item_utf8
part_begins_utf8 (Slot.FieldPlace tag label index) r = field_utf8 label r.0

part_ends_utf8 : (slot : Slot) → WritesUtf8 (part_ends slot)
part_ends_utf8 Slot.Item = nothing_utf8
part_ends_utf8 Slot.Key = record { at = λ state. ascii_utf8 (codes "\":") refl }
part_ends_utf8 Slot.Value = nothing_utf8
part_ends_utf8 (Slot.Field tag label) = nothing_utf8
part_ends_utf8 (Slot.Place tag index) = nothing_utf8
part_ends_utf8 (Slot.FieldPlace tag label index) = nothing_utf8

-- ---- calls

enum_end_utf8 : (name : Name) → IsRealName name → WritesUtf8 (when (λ state. state.empty) (standalone_step name) then when (λ state. state.named) (closes (codes "}")) sets after_name name)
enum_end_utf8 name r =
    sets_utf8 _ (after_name name) (then_utf8 _ _ (when_utf8 (λ state. state.empty) (standalone_step name) (standalone_utf8 name r))
    (when_utf8 (λ state. state.named) (closes (codes "}")) close_pairs))

step_utf8 : (style : Variants) (call : Call) → IsRealCall call → HasRealEnd call → WritesUtf8 (writer_step style call)
step_utf8 style Call.Null r e = value_utf8 (codes "null") (ascii_utf8 (codes "null") refl)
step_utf8 style (Call.Truth b) r e = value_utf8 (truth_text b) (truth_utf8 b)
step_utf8 style (Call.Int type n) r e = value_utf8 (signed_decimal n) (number_utf8 (signed_decimal n) (signed_number n (short_of_type type n r)))
step_utf8 style (Call.Standalone name) r e = standalone_utf8 name r
step_utf8 style (Call.TagHint tag) r e = nothing_utf8
step_utf8 style (Call.TextBegin size) r e = text_begins_utf8
step_utf8 style (Call.TextFragment borrowed bytes) r e = fragment_utf8 bytes r
step_utf8 style Call.TextEnd r e = quote_utf8
step_utf8 style (Call.BinaryBegin size) r e = open_row
step_utf8 style (Call.BinaryFragment borrowed bytes) r e = items_utf8 bytes r
step_utf8 style Call.BinaryEnd r e = close_row
step_utf8 style (Call.EnumBegin name) r e = record { at = λ state. (named_utf8 style name r).at state }
step_utf8 style (Call.EnumEnd name) r e = enum_end_utf8 name e
step_utf8 style (Call.TaggedBegin name) r e =
    let both : WritesUtf8 (refuses_key (text_kind name.tag) then name_step style (handle name)) =
    then_utf8 (refuses_key (text_kind name.tag)) (name_step style (handle name)) (refuses_key_utf8 (text_kind name.tag)) (named_utf8 style name r) in
    record { at = λ state. both.at state }
step_utf8 style (Call.TaggedEnd name) r e =
    sets_utf8 _ (after_name name) (then_utf8 (ends_tagged (text_kind name.tag)) _ (ends_tagged_utf8 (text_kind name.tag))
    (when_utf8 (λ state. state.empty) (standalone_step name) (standalone_utf8 name e)))
step_utf8 style (Call.Begin head size) r e = begins_utf8 style head r
step_utf8 style (Call.End head) r e = ends_utf8 head
step_utf8 style (Call.PartBegin slot) r e = part_begins_utf8 slot r
step_utf8 style (Call.PartEnd slot) r e = part_ends_utf8 slot

steps_utf8 : (style : Variants) (calls : List Call) → ArePassed calls → WritesUtf8 (writer_steps style calls)
steps_utf8 style [] r = nothing_utf8
steps_utf8 style (call ∷ calls) r = then_utf8 (writer_step style call) (writer_steps style calls) (step_utf8 style call r.0.0 r.0.1) (steps_utf8 style calls r.1)

pub written_is_utf8 : WrittenIsUtf8
written_is_utf8 style calls r = (steps_utf8 style calls r).at writer_start
