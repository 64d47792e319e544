-- What a buffer for texts and one for binaries collect from a value: what its calls push, as they are lowered for the buffer.
use Rattle.std.specs.Prelude.{◌≡◌, Bool, true, false, List, [], ◌∷◌, nat_abs, Result, Ok, Err, ⊤}
use Rattle.sval_label.specs.Calls.{IntType, Head, Call}
use Rattle.sval_core.specs.Law.{Emission}
use Rattle.sval_lower.specs.Lowered.{lowered, is_for_texts, is_for_binaries}
use Rattle.sval_buffer.specs.Pushes.{HeldBytes, content}
use Rattle.sval_buffer.specs.declared.error.Word.{Word}
use Rattle.sval_buffer.specs.declared.error.Word.TheVariants as word
use Rattle.sval_buffer.specs.declared.error.ErrorKind.{ErrorKind}
use Rattle.sval_buffer.specs.declared.error.ErrorKind.TheVariants as error

-- what a lowered call is to a buffer: a fragment to push, nothing to keep, or a call of another kind
pub data Use : Type 0 where
  Push : HeldBytes → Use
  Pass : Use
  Unfit : Word → Use

-- to a buffer for texts; the calls that are not listed are those of sequences
abbrev pub text_use : Call → Use
text_use (Call.TextBegin _) = Pass
text_use (Call.TextFragment borrowed text) = Push (record { borrowed = borrowed; bytes = text })
text_use Call.TextEnd = Pass
text_use Call.Null = Unfit word.Null
text_use (Call.Truth _) = Unfit word.Boolean
text_use (Call.Int _ _) = Unfit word.Integer
text_use _ = Unfit word.Sequence

-- To a buffer for binaries, which takes sequences too, and each number of 8 bits as a byte. The calls that are not listed
-- are the begin and the end of a binary and those of sequences, which keep nothing: any other is lowered before it comes.
abbrev pub binary_use : Call → Use
binary_use (Call.BinaryFragment borrowed bytes) = Push (record { borrowed = borrowed; bytes = bytes })
binary_use (Call.Int IntType.U8 n) = Push (record { borrowed = false; bytes = nat_abs n ∷ [] })
binary_use (Call.Int _ _) = Unfit word.Integer
binary_use Call.Null = Unfit word.Null
binary_use (Call.Truth _) = Unfit word.Boolean
binary_use (Call.TextBegin _) = Unfit word.Text
binary_use (Call.TextFragment _ _) = Unfit word.Text
binary_use Call.TextEnd = Unfit word.Text
binary_use (Call.Begin Head.Map _) = Unfit word.Map
binary_use _ = Pass

-- what a call is used as, before the pushes of those after it
abbrev pub before : Use → Result (List HeldBytes) Word → Result (List HeldBytes) Word
before (Push fragment) (Ok pushes) = Ok (fragment ∷ pushes)
before (Push fragment) (Err actual) = Err actual
before Pass rest = rest
before (Unfit actual) rest = Err actual

-- the pushes of lowered calls, or the kind of the first call of another kind
abbrev pub pushes_of : (Call → Use) → List Call → Result (List HeldBytes) Word
pushes_of use_of [] = Ok []
pushes_of use_of (call ∷ calls) = before (use_of call) (pushes_of use_of calls)

-- what is answered for pushes, or for such a kind, where the value refuses or doesn't
abbrev pub collect_answer : Word → Bool → Result (List HeldBytes) Word → Result HeldBytes ErrorKind
collect_answer expected refuses (Err actual) = Err (error.Unsupported actual expected)
collect_answer expected true (Ok pushes) = Err (error.InvalidValue word.FailedToStream)
collect_answer expected false (Ok pushes) = Ok (content pushes)

-- what a buffer for texts collects
abbrev pub text_collected : Emission → Result HeldBytes ErrorKind
text_collected e = collect_answer word.Text e.refuses (pushes_of text_use (lowered is_for_texts e.calls))

-- what a buffer for binaries collects
abbrev pub binary_collected : Emission → Result HeldBytes ErrorKind
binary_collected e = collect_answer word.Binary e.refuses (pushes_of binary_use (lowered is_for_binaries e.calls))

-- what is due is answered, unless memory is wanting
abbrev pub IsHeldDue : Result HeldBytes ErrorKind → Result HeldBytes ErrorKind → Type 0
IsHeldDue due (Err (error.NoAlloc method)) = ⊤
IsHeldDue due given = given ≡ due
