use Rattle.std.proofs.Common.{ap}
use Rattle.sval_label.specs.Made.{call_of}
use Rattle.sval_check.specs.Passing.{seen_passing}
use Rattle.sval_check.proofs.PassedOn.{refused_for}
use Rattle.sval_check.proofs.passing.PassingStream.take.Goals as goal

pub returns-in-Err : goal.returns-in-Err
returns-in-Err g c =
    let standing = g.S.Stream.standing in
    refused_for g.S.Stream.law (seen_passing standing c.args.self.now) (seen_passing standing c.pass.new.passing) (seen_passing standing c.count.new.self)
    (call_of g.L.Lending.text g.L.Lending.bytes c.args.call) c.in-Err.field-0 c.in-Err.ensures (ap standing c.count.ensures.inner) c.count.ensures.refusals c.count.ensures.never_falls
