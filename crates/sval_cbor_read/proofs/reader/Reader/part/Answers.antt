use Rattle.std.proofs.Common.{ap, ◌∙◌, ◌∷◌, drop}
use Rattle.sval_cbor_read.specs.Reading.{part_step}
use Rattle.sval_cbor_read.specs.SeenFrames.{frame_of}
use Rattle.sval_cbor_read.proofs.ReadsOn.{part_stuck}
use Rattle.sval_cbor_read.proofs.reader.Reader.part.Goals as goal

pub returns-in-Some-Values-clause-goes : goal.returns-in-Some-Values-clause-goes
returns-in-Some-Values-clause-goes c =
    let left = drop c.args.self.now.at c.args.bytes.now in
    part_stuck c.args.bytes.now c.args.self.now c.requires.is
    (ap (part_step left) c.in-Some-Values.ensures.1 ∙ ap (λ top. part_step left (frame_of top ∷ c.in-Some-Values.ensures.0)) c.in-Some-Values.field-0-is) c.requires.within

pub returns-in-None-clause-goes : goal.returns-in-None-clause-goes
returns-in-None-clause-goes c =
    part_stuck c.args.bytes.now c.args.self.now c.requires.is (ap (part_step (drop c.args.self.now.at c.args.bytes.now)) c.in-None.ensures) c.requires.within
