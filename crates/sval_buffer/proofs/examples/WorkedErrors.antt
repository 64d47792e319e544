-- What errors say of want of memory, as it computes.
use Rattle.std.specs.Prelude.{◌≡◌, codes, refl}
use Rattle.sval_buffer.specs.declared.error.Word.TheVariants as word
use Rattle.sval_buffer.specs.declared.error.ErrorKind.TheVariants as error
use Rattle.sval_buffer.specs.ErrorTexts.{buffer_error_text}

no_memory_for_a_sequence : buffer_error_text (error.NoAlloc word.Sequence) ≡ codes "cannot allocate for sequence"
no_memory_for_a_sequence = refl
