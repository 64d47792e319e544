use Rattle.std.proofs.Common.{sym, inl}
use Rattle.sval_json_read.proofs.KeptTokens.{has_ended, if_err}
use Rattle.sval_json_read.proofs.reader.Reader.after_number.Goals as goal

pub returns-in_err-end_number-clause-no_memory : goal.returns-in_err-end_number-clause-no_memory
returns-in_err-end_number-clause-no_memory c =
    if_err c.from_residual.result (inl (has_ended c.args.bytes.now c.args.at c.args.self.now c.args.phase c.requires.is (sym c.if-not-may_end.ensures)))

pub returns-clause-no_memory : goal.returns-clause-no_memory
returns-clause-no_memory c =
    if_err c.follows.result (inl (has_ended c.args.bytes.now c.args.at c.args.self.now c.args.phase c.requires.is (sym c.if-not-may_end.ensures)))
