use Rattle.sval_json_read.proofs.Passed.{passes_none, passes_then, passes_word}
use Rattle.sval_json_read.proofs.reader.Reader.behind_word.Goals as goal

pub returns-then-starts_with : goal.returns-then-starts_with
returns-then-starts_with c =
    passes_then (passes_word c.args.bytes.now c.args.at c.args.self.now c.args.word _ c.requires.is c.letters-letters.ensures c.requires.at_in c.if-starts_with.ensures.value c.requires.reads)
    c.behind_comma.ensures

pub returns : goal.returns
returns c = passes_none c.requires.at_in c.requires.reads
