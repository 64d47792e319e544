use Rattle.std.proofs.Common.{take, arith}
use Rattle.std.proofs.lemmas.List.{length-take-le}
use Rattle.memchr.specs.Find.{is_byte}
use Rattle.sval_script.proofs.NearPlaces.{marks_first, byte_tops}
use Rattle.sval_script.proofs.short.near_colons.Goals as goal

pub returns : goal.returns
returns c =
    let bytes = c.args.bytes.now in
    marks_first (is_byte 58) bytes _ 16 c.requires (omega arith) (byte_tops 58 (take 16 bytes) 16 (length-take-le 16 bytes c.requires))
