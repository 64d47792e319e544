use Rattle.std.proofs.Common.{Global, arith, string_bytes}
use Rattle.std.proofs.lemmas.Result.{err_from_is_err_and}
use Rattle.sval_tool.proofs.WordsRead.{stops_at}
use Rattle.sval_tool.proofs.words.read_words.Goals as goal

pub returns-in_err-word : goal.returns-in_err-word
returns-in_err-word c =
    let p = err_from_is_err_and c.from_residual.result c.from_residual.ensures.1 in
    rw (p.1, p.2)
    (stops_at (string_bytes {Z = Global}) c.args.words.now c.loop-at.at _ c.index-words-at.result c.as_str.result.now c.loop-at.reader c.in_err-word.field-0.0 c.index-words-at.is c.as_str.ensures.value (omega arith) c.loop-at.invariant.1 c.in_err-word.ensures)
