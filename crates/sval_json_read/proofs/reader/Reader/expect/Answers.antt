use Rattle.sval_json_read.proofs.Passed.{passes_byte}
use Rattle.sval_json_read.proofs.ReaderPlaces.{reads_on}
use Rattle.sval_json_read.proofs.reader.Reader.expect.Goals as goal

pub returns-clause-passes : goal.returns-clause-passes
returns-clause-passes c =
    passes_byte c.requires.at_in c.requires.steps (reads_on c.args.bytes.now c.args.at c.args.self.now.from c.args.self.now.nodes c.requires.reads)
