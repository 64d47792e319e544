use Rattle.std.proofs.Common.{rules, inr}
use Rattle.sval_io.specs.declared.sink.SinkError.TheVariants.{Failed, NoMemory}
use Rattle.sval_json.specs.Number.{InvalidKey, InvalidNumber}
use Rattle.sval_buffer.specs.FlatForest.{forest_in}
use Rattle.sval_filter.specs.Pruned.{pruned}
use Rattle.sval_filter.proofs.LeftTexts.{writes_text, writes_to_refusal, stops_within}
use Rattle.sval_filter.proofs.running.write_json.Goals as goal

pub returns-in-Ok : goal.returns-in-Ok
returns-in-Ok g c = λ script asked l. writes_text (forest_in c.args.left.now) script asked l g.K.Sink.told c.args.out.now c.stream_to_io_write.new.out c.in-Ok.ensures.tree c.in-Ok.ensures.steady

pub returns-in-IO : goal.returns-in-IO
returns-in-IO g c = λ script asked l.
    stops_within (forest_in c.args.left.now) script asked l g.K.Sink.told c.args.out.now c.stream_to_io_write.new.out Failed (c.in-Err.ensures.io (search rules)) c.in-Err.ensures.prefix c.in-Err.ensures.counts

pub returns-in-NoMemory : goal.returns-in-NoMemory
returns-in-NoMemory g c = λ script asked l.
    stops_within (forest_in c.args.left.now) script asked l g.K.Sink.told c.args.out.now c.stream_to_io_write.new.out NoMemory (inr (c.in-Err.ensures.no_memory (search rules))) c.in-Err.ensures.prefix c.in-Err.ensures.counts

pub returns-in-InvalidKey : goal.returns-in-InvalidKey
returns-in-InvalidKey g c = λ script asked l.
    writes_to_refusal (forest_in c.args.left.now) script asked l g.K.Sink.told c.args.out.now c.stream_to_io_write.new.out InvalidKey
    (c.in-Err.ensures.tree_refused InvalidKey (search rules) (pruned asked.0 asked.1 l.is.tree) l.is.left) (c.in-Err.ensures.invalid_key (search rules))

pub returns-in-InvalidNumber : goal.returns-in-InvalidNumber
returns-in-InvalidNumber g c = λ script asked l.
    writes_to_refusal (forest_in c.args.left.now) script asked l g.K.Sink.told c.args.out.now c.stream_to_io_write.new.out InvalidNumber
    (c.in-Err.ensures.tree_refused InvalidNumber (search rules) (pruned asked.0 asked.1 l.is.tree) l.is.left) (c.in-Err.ensures.invalid_number (search rules))
