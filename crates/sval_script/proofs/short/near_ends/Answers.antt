use Rattle.std.proofs.Common.{take, arith}
use Rattle.std.proofs.lemmas.List.{length-take-le}
use Rattle.memchr.specs.Find.{is_byte2}
use Rattle.sval_script.proofs.NearPlaces.{marks_first, either_tops}
use Rattle.sval_script.proofs.short.near_ends.Goals as goal

pub returns : goal.returns
returns c =
    let bytes = c.args.bytes.now in
    marks_first (is_byte2 32 10) bytes _ 16 c.requires (omega arith) (either_tops 32 10 (take 16 bytes) 16 (length-take-le 16 bytes c.requires))
