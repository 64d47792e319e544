use Rattle.std.proofs.Common.{rules}
use Rattle.sval_json.specs.Number.{InvalidKey, InvalidNumber}
use Rattle.sval_cbor_read.proofs.DueTexts.{no_number_refusal, writes_json, stops_at_key, json_fault, json_want}
use Rattle.sval_json.proofs.Streamed.{refuses_spelled}
use Rattle.sval_cbor_read.proofs.running.write_json.Goals as goal

pub returns-in-Ok : goal.returns-in-Ok
returns-in-Ok g c = λ input r m. writes_json input c.args.doc.now r g.K.Sink.told c.args.out.now c.write_json.new.out m c.in-Ok.ensures.written c.in-Ok.ensures.steady

pub returns-in-IO : goal.returns-in-IO
returns-in-IO g c = λ input r m.
    json_fault input c.args.doc.now r g.K.Sink.told c.args.out.now c.write_json.new.out m (c.in-Err.ensures.io (search rules)) c.in-Err.ensures.prefix c.in-Err.ensures.counts

pub returns-in-NoMemory : goal.returns-in-NoMemory
returns-in-NoMemory g c = λ input r m.
    json_want input c.args.doc.now r g.K.Sink.told c.args.out.now c.write_json.new.out m (c.in-Err.ensures.no_memory (search rules)) c.in-Err.ensures.prefix c.in-Err.ensures.counts

pub returns-in-InvalidKey : goal.returns-in-InvalidKey
returns-in-InvalidKey g c = λ input r m.
    let refused = c.in-Err.ensures.refused InvalidKey (search rules) in
    stops_at_key input c.args.doc.now r g.K.Sink.told c.args.out.now c.write_json.new.out m refused (refuses_spelled refused r.tree r.spells)

-- numbers of items are numbers
pub unreachable-requires : goal.unreachable-requires
unreachable-requires g c =
    let (input, r, m) = c.requires in
    let refused = refuses_spelled (c.in-Err.ensures.refused InvalidNumber (search rules)) r.tree r.spells in
    no_number_refusal input c.args.doc.now r refused
