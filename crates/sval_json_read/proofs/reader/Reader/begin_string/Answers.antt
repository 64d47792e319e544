use Rattle.sval_json_read.proofs.ReaderPlaces.{reads_string}
use Rattle.sval_json_read.proofs.reader.Reader.begin_string.Goals as goal

pub returns-clause-reads : goal.returns-clause-reads
returns-clause-reads c =
    reads_string c.args.bytes.now c.args.at c.args.self.now.from c.args.self.now.nodes c.requires.reads c.requires.at_in c.requires.quote
