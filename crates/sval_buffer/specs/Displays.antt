-- Why what a value prints wasn't appended.
use Rattle.std.specs.Prelude.{◌≡◌, Bool, true, ⊤}
use Rattle.sval.specs.declared.render.RenderError.{RenderError}
use Rattle.sval.specs.declared.render.RenderError.TheVariants as render
use Rattle.sval_buffer.specs.declared.error.Word.TheVariants as word
use Rattle.sval_buffer.specs.declared.error.ErrorKind.{ErrorKind}
use Rattle.sval_buffer.specs.declared.error.ErrorKind.TheVariants as error

-- the value can't be printed, or memory was wanting
abbrev pub IsRenderCause : (unprintable : Bool) → RenderError → Type 0
IsRenderCause unprintable render.Format = unprintable ≡ true
IsRenderCause unprintable render.NoMemory = ⊤

-- the same of a buffer's error
abbrev pub IsDisplayCause : (unprintable : Bool) → ErrorKind → Type 0
IsDisplayCause unprintable (error.InvalidValue reason) = (unprintable ≡ true) × (reason ≡ word.FormattingFailed)
IsDisplayCause unprintable (error.NoAlloc method) = ⊤
IsDisplayCause unprintable _ = ⊥
