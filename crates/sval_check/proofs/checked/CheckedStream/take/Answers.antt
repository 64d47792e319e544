use Rattle.std.proofs.Common.{ap}
use Rattle.sval_label.specs.Made.{call_of}
use Rattle.sval_check.specs.Checked.{seen}
use Rattle.sval_check.proofs.Refused.{refused_and_kept}
use Rattle.sval_check.proofs.checked.CheckedStream.take.Goals as goal

pub returns-in-Err : goal.returns-in-Err
returns-in-Err g c =
    let standing = g.S.Stream.standing in
    refused_and_kept g.S.Stream.law (seen standing c.args.self.now) (seen standing c.pass.new.checked) (seen standing c.keep.new.self)
    (call_of g.L.Lending.text g.L.Lending.bytes c.args.call) c.in-Err.why c.in-Err.ensures c.keep.ensures.machine (ap standing c.keep.ensures.inner)
    c.keep.ensures.why c.keep.ensures.wants c.keep.ensures.never_falls
