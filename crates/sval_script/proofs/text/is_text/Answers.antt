use Rattle.std.proofs.lemmas.Str.{IsUtf8-from_ascii}
use Rattle.sval_script.proofs.text.is_text.Goals as goal

pub returns-then-are_ascii : goal.returns-then-are_ascii
returns-then-are_ascii c = IsUtf8-from_ascii c.args.bytes.now (c.are_ascii.ensures c.if-are_ascii.true)
