use Rattle.std.specs.Prelude.{IfErr, IsUtf8}
use Rattle.std.proofs.Common.{◌≡◌, ℕ, List, Result, Ok, Err, subst}
use Rattle.sval_io.specs.declared.limits.Limits.{Limits}
use Rattle.sval_json_read.specs.declared.document.ReadError.TheVariants as reading
use Rattle.sval_json_read.specs.declared.document.limited.LimitedError.{LimitedError}
use Rattle.sval_json_read.specs.declared.document.limited.LimitedError.TheVariants.{Read, TooDeep, TooMany}
use Rattle.sval_json_read.specs.JsonLimits.{IsLimitedTextError, IsLimitedJsonError}
use Rattle.sval_json_read.proofs.document.JsonDoc.read_with.Goals as goal

of_bytes : (bytes : List ℕ) (limits : Limits) (error : LimitedError) → IsUtf8 bytes → IsLimitedTextError bytes limits error → IsLimitedJsonError bytes limits error
of_bytes bytes limits (Read (reading.NotUtf8 at)) u h = absurd h
of_bytes bytes limits (Read (reading.BadJson at)) u h = (u, h)
of_bytes bytes limits (Read reading.NoMemory) u h = (u, h)
of_bytes bytes limits (TooDeep at) u h = (u, h)
of_bytes bytes limits (TooMany at) u h = (u, h)

-- an error of the text is one of the bytes
of_text : {A : Type 0} (bytes text : List ℕ) (limits : Limits) (r : Result A LimitedError) → text ≡ bytes → IsUtf8 bytes → IfErr r (IsLimitedTextError text limits) → IfErr r (IsLimitedJsonError bytes limits)
of_text bytes text limits (Ok doc) e u h = tt
of_text bytes text limits (Err error) e u h = of_bytes bytes limits error u (subst (λ row. IsLimitedTextError row limits error) e h)

pub returns-in-Ok-clause-err : goal.returns-in-Ok-clause-err
returns-in-Ok-clause-err c = of_text c.args.bytes.now c.in-Ok.text.now c.args.limits c.read_str_with.result c.in-Ok.ensures.cases.0 c.in-Ok.ensures.cases.1 c.read_str_with.ensures.err
