use Rattle.std.specs.Prelude.{◌≡◌, length}
use Rattle.std.specs.Fmt.{signed_decimal}
use Rattle.std.proofs.Common.{ap, arith}
use Rattle.sval_label.specs.Grouped.{int_number}
use Rattle.logfmt.proofs.Nonempty.{signed_some}
use Rattle.logfmt.proofs.writer.LogfmtWriter.step.Goals as goal

pub write-requires-in-Value-Int : goal.write-requires-in-Value-Int
write-requires-in-Value-Int c =
    let number = int_number c.in-Value-Int.number in
    let digits : c.format.result.now ≡ signed_decimal number = c.format.ensures in
    let bytes : c.as_bytes.result.now ≡ c.format.result.now = c.as_bytes.ensures.value in
    omega (arith, ap length bytes, ap length digits, signed_some number)
