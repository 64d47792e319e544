use Rattle.std.proofs.Common.{ap, rules, ◌∙◌}
use Rattle.sval_io.specs.Taken.{Taken}
use Rattle.sval_relay.specs.Made.{made_calls}
use Rattle.sval_relay.proofs.MadeAnswers.{printed_whole}
use Rattle.sval_relay.proofs.MadeWants.{made_stop_is_want}
use Rattle.sval_relay.proofs.made.print_records.Goals as goal

pub returns-in-Ok-clause-script : goal.returns-in-Ok-clause-script
returns-in-Ok-clause-script c =
    let bytes = λ (sink : Taken). sink.bytes in
    let empty = ap bytes (c.new-printer.ensures.sink ∙ c.new.ensures) in
    c.into_vec.ensures ∙ ap bytes c.into_inner.ensures ∙ printed_whole (made_calls c.args.count) c.in-Ok.ensures empty

pub unreachable-requires : goal.unreachable-requires
unreachable-requires c =
    let want = c.why.ensures ∙ made_stop_is_want c.args.count c.in-Err.ensures in search rules
