-- What each call does to a buffer that collects, at once and without its lower calls; and the buffer as a stream.
use Rattle.std.specs.Prelude.{◌≡◌, ℕ, ℤ, Bool, true, false, not, ◌&&◌, List, [], ◌∷◌, ◌++◌, nat_abs, if◌then◌else◌, IsOk, Option, Some, None, Result, Ok, Err}
use Rattle.std.specs.Fmt.{signed_decimal}
use Rattle.sval_label.specs.Calls.{Label, Name, IntType, Head, Slot, Call}
use Rattle.sval_label.specs.Texts.{is_empty}
use Rattle.sval_label.specs.Ranges.{is_signed}
use Rattle.sval_core.specs.Law.{Law, Standing}
use Rattle.sval_core.specs.Names.{says_none}
use Rattle.sval_buffer.specs.Pushes.{HeldBytes, pushed}
use Rattle.sval_buffer.specs.Forest.{no_bytes, push_may_grow}
use Rattle.sval_buffer.specs.Capture.{WantsMemory, wants_after_error}
use Rattle.sval_buffer.specs.declared.error.Word.{Word}
use Rattle.sval_buffer.specs.declared.error.Word.TheVariants as word
use Rattle.sval_buffer.specs.declared.error.ErrorKind.{ErrorKind}
use Rattle.sval_buffer.specs.declared.error.ErrorKind.TheVariants as error

-- the content after a call, or the kind of a call that doesn't fit
abbrev pub CollectStep : Type 0
CollectStep = HeldBytes → Call → Result HeldBytes Word

-- one more fragment
abbrev pub push : HeldBytes → Bool → List ℕ → Result HeldBytes Word
push held borrowed bytes = Ok (pushed held (record { borrowed = borrowed; bytes = bytes }))

-- a number of a type that goes up to 128 bits is told as digits where it doesn't fit 64 bits with a sign
abbrev pub goes_up : IntType → Bool
goes_up IntType.I8 = false
goes_up IntType.I16 = false
goes_up IntType.I32 = false
goes_up IntType.I64 = false
goes_up _ = true

-- a number that is told as digits
abbrev pub is_digits : IntType → ℤ → Bool
is_digits type n = goes_up type && not (is_signed 63 n)

-- the label of a tag by itself, where it isn't told as null
abbrev pub own_label : Name → Option Label
own_label name = if says_none name.tag then None else name.label

-- a label is a fragment, which is borrowed where it is static; none is told as null
abbrev pub push_label : HeldBytes → Option Label → Result HeldBytes Word
push_label held (Some label) = push held label.is_static label.text
push_label held None = Err word.Null

-- what a call does to a text
abbrev pub text_step : CollectStep
text_step held Call.Null = Err word.Null
text_step held (Call.Truth _) = Err word.Boolean
text_step held (Call.Int type n) = if is_digits type n then push held false (signed_decimal n) else Err word.Integer
text_step held (Call.Standalone name) = push_label held (own_label name)
text_step held (Call.TextFragment borrowed text) = push held borrowed text
text_step held (Call.BinaryBegin _) = Err word.Sequence
text_step held (Call.BinaryFragment _ bytes) = if is_empty bytes then Ok held else Err word.Sequence
text_step held Call.BinaryEnd = Err word.Sequence
text_step held (Call.Begin _ _) = Err word.Sequence
text_step held (Call.End _) = Err word.Sequence
text_step held (Call.PartBegin _) = Err word.Sequence
text_step held (Call.PartEnd _) = Err word.Sequence
text_step held _ = Ok held

-- what a label, or none, is to a buffer for binaries
abbrev pub word_for_label : Option Label → Word
word_for_label (Some _) = word.Text
word_for_label None = word.Null

-- sequences and tuples are passed, and maps and records are not
abbrev pub begin_binary : HeldBytes → Head → Result HeldBytes Word
begin_binary held Head.Seq = Ok held
begin_binary held (Head.Tuple _) = Ok held
begin_binary held _ = Err word.Map

-- a field's label is a text
abbrev pub begin_part : HeldBytes → Slot → Result HeldBytes Word
begin_part held (Slot.Field _ _) = Err word.Text
begin_part held (Slot.FieldPlace _ _ _) = Err word.Text
begin_part held _ = Ok held

-- a number of 8 bits is a byte; each other one is of another kind
abbrev pub push_number : HeldBytes → IntType → ℤ → Result HeldBytes Word
push_number held IntType.U8 n = push held false (nat_abs n ∷ [])
push_number held type n = Err (if is_digits type n then word.Text else word.Integer)

-- what a call does to a binary
abbrev pub binary_step : CollectStep
binary_step held Call.Null = Err word.Null
binary_step held (Call.Truth _) = Err word.Boolean
binary_step held (Call.Int type n) = push_number held type n
binary_step held (Call.Standalone name) = Err (word_for_label (own_label name))
binary_step held (Call.TextBegin _) = Err word.Text
binary_step held (Call.TextFragment _ _) = Err word.Text
binary_step held Call.TextEnd = Err word.Text
binary_step held (Call.BinaryFragment borrowed bytes) = push held borrowed bytes
binary_step held (Call.Begin head _) = begin_binary held head
binary_step held (Call.PartBegin slot) = begin_part held slot
binary_step held _ = Ok held

-- ---- memory

-- a push of this kind takes memory, unless it is a borrowed one onto no bytes
abbrev pub takes_memory : HeldBytes → Bool → Bool
takes_memory held borrowed = push_may_grow borrowed (Some held)

-- a label that is static is pushed as a borrowed fragment
abbrev pub label_takes_memory : HeldBytes → Option Label → Bool
label_takes_memory held (Some label) = takes_memory held label.is_static
label_takes_memory held None = false

-- a call may take memory for a text: a fragment, a number that is told as digits, and a label
abbrev pub text_takes_memory : HeldBytes → Call → Bool
text_takes_memory held (Call.TextFragment borrowed text) = takes_memory held borrowed
text_takes_memory held (Call.Int type n) = takes_memory held false
text_takes_memory held (Call.Standalone name) = label_takes_memory held (own_label name)
text_takes_memory held _ = false

-- the same for a binary: a fragment, and a byte
abbrev pub binary_takes_memory : HeldBytes → Call → Bool
binary_takes_memory held (Call.BinaryFragment borrowed bytes) = takes_memory held borrowed
binary_takes_memory held (Call.Int type n) = takes_memory held false
binary_takes_memory held _ = false

-- how a buffer collects: what kind it expects, what each call does to the content, and which calls may take memory
pub record Collects : Type 0 where
  pub expected : Word
  pub step : CollectStep
  pub grows : HeldBytes → Call → Bool

-- how a buffer for texts does
abbrev pub text_collects : Collects
text_collects = record { expected = word.Text; step = text_step; grows = text_takes_memory }

-- how a buffer for binaries does
abbrev pub binary_collects : Collects
binary_collects = record { expected = word.Binary; step = binary_step; grows = binary_takes_memory }

-- ---- all calls

-- the content after all calls, or the kind of the first one that doesn't fit
unfoldable pub steps_of : CollectStep → HeldBytes → List Call → Result HeldBytes Word
steps_of step held [] = Ok held
steps_of step held (call ∷ calls) = elim (step held call) [ Ok next ↦ steps_of step next calls | Err actual ↦ Err actual ]

-- what is answered in the end
abbrev pub answer_after : Word → Bool → Result HeldBytes Word → Result HeldBytes ErrorKind
answer_after expected refuses (Err actual) = Err (error.Unsupported actual expected)
answer_after expected true (Ok held) = Err (error.InvalidValue word.FailedToStream)
answer_after expected false (Ok held) = Ok held

-- Memory was wanting in one of the calls, where they meet this content: those before it fit, and so does this one, which
-- may take memory.
pub record LacksMemoryFrom (how : Collects) (start : HeldBytes) (calls : List Call) : Type 0 where
  pub before : List Call
  pub call : Call
  pub later : List Call
  pub calls_are : calls ≡ before ++ (call ∷ later)
  pub held : HeldBytes
  pub before_fit : steps_of how.step start before ≡ Ok held
  pub fits : IsOk (how.step held call)
  pub takes_memory : how.grows held call ≡ true

-- the same of calls that meet no content
abbrev pub LacksCollectMemory : Collects → List Call → Type 0
LacksCollectMemory how calls = LacksMemoryFrom how no_bytes calls

-- ---- the stream

-- what a stream that collects is: what it holds, why it refused a call last, and how often memory was wanting
pub record Collecting : Type 0 where
  pub held : HeldBytes
  pub refusal : Option ErrorKind
  pub wants : ℕ

-- what a stream is before the first call
abbrev pub nothing_collected : Collecting
nothing_collected = record { held = no_bytes; refusal = None; wants = 0 }

-- the content after a step, which stays where the call doesn't fit
abbrev pub held_by : Result HeldBytes Word → HeldBytes → HeldBytes
held_by (Ok next) held = next
held_by (Err actual) held = held

-- why a call that fits and may take memory, or doesn't, was refused
abbrev pub IsUnfitBy : Word → Bool → Result HeldBytes Word → ErrorKind → Type 0
IsUnfitBy expected grows (Ok next) why = WantsMemory grows why
IsUnfitBy expected grows (Err actual) why = why ≡ error.Unsupported actual expected

-- what a call leaves of the content, by whether it may take memory and what its step is
abbrev pub CollectsBy : Word → Bool → Result HeldBytes Word → HeldBytes → Result (Unit {0}) ErrorKind → HeldBytes → Type 0
CollectsBy expected grows step old (Ok done) new = step ≡ Ok new
CollectsBy expected grows step old (Err why) new = (new ≡ old) × IsUnfitBy expected grows step why

-- the same by how a buffer collects
abbrev pub CollectsCall : Collects → HeldBytes → Call → Result (Unit {0}) ErrorKind → HeldBytes → Type 0
CollectsCall how old call result new = CollectsBy how.expected (how.grows old call) (how.step old call) old result new

-- what a refused call leaves
pub record IsCollectLeft (how : Collects) (view : Collecting) (call : Call) (left : Collecting) : Type 0 where
  pub held : left.held ≡ view.held
  pub why : ErrorKind
  pub refusal : left.refusal ≡ Some why
  pub cause : IsUnfitBy how.expected (how.grows view.held call) (how.step view.held call) why
  pub wants : left.wants ≡ wants_after_error why view.wants

-- a call is accepted where it fits, leaves the content of its step, and moves nothing else
abbrev pub collect_law : Collects → Law Collecting
collect_law how = record {
  accepts = λ view call. IsOk (how.step view.held call);
  after = λ view call. record { held = held_by (how.step view.held call) view.held; refusal = view.refusal; wants = view.wants };
  stopped = IsCollectLeft how;
}

-- where a stream stands that is this
abbrev pub collecting : Collecting → Standing Collecting
collecting view = record { view = view; faults = 0; wants = view.wants }
