use Rattle.std.specs.Prelude.{IfErr, IsUtf8}
use Rattle.std.proofs.Common.{◌≡◌, ℕ, List, Result, Ok, Err, subst}
use Rattle.sval_json_read.specs.declared.document.ReadError.{ReadError}
use Rattle.sval_json_read.specs.declared.document.ReadError.TheVariants as reading
use Rattle.sval_json_read.specs.ReadErrors.{IsJsonReadError, IsTextReadError}
use Rattle.sval_json_read.proofs.document.JsonDoc.read.Goals as goal

of_bytes : (bytes : List ℕ) (error : ReadError) → IsUtf8 bytes → IsTextReadError bytes error → IsJsonReadError bytes error
of_bytes bytes (reading.NotUtf8 at) u h = absurd h
of_bytes bytes (reading.BadJson at) u h = h
of_bytes bytes reading.NoMemory u h = (u, h)

-- an error of the text is one of the bytes
of_text : {A : Type 0} (bytes text : List ℕ) (r : Result A ReadError) → text ≡ bytes → IsUtf8 bytes → IfErr r (IsTextReadError text) → IfErr r (IsJsonReadError bytes)
of_text bytes text (Ok doc) e u h = tt
of_text bytes text (Err error) e u h = of_bytes bytes error u (subst (λ row. IsTextReadError row error) e h)

pub returns-in-Ok-clause-err : goal.returns-in-Ok-clause-err
returns-in-Ok-clause-err c = of_text c.args.bytes.now c.in-Ok.text.now c.read_str.result c.in-Ok.ensures.cases.0 c.in-Ok.ensures.cases.1 c.read_str.ensures.err
