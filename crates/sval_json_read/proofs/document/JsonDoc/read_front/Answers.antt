use Rattle.std.proofs.Common.{arith}
use Rattle.sval_json_read.proofs.FrontsOfBytes.{bad_in_text, bad_in_look, bad_at_break, ends_in_text}
use Rattle.sval_json_read.proofs.document.JsonDoc.read_front.Goals as goal

pub returns-then-at-text-clause-err : goal.returns-then-at-text-clause-err
returns-then-at-text-clause-err c =
    let text = c.utf8_front-text.result.now in
    bad_in_look c.args.bytes.now text _ c.in-Err-BadJson.at (omega arith) c.utf8_front-text.ensures.front c.utf8_front-text.ensures.within c.utf8_front-text.utf8 c.if-at-text.true (rw c.in-Err-BadJson.field-0-is at c.in-Err-BadJson.ensures.err)

pub returns-in-Err-BadJson-read_front_str-clause-err : goal.returns-in-Err-BadJson-read_front_str-clause-err
returns-in-Err-BadJson-read_front_str-clause-err c =
    bad_at_break c.args.bytes.now c.utf8_front-text-2.result.now c.in-Err-BadJson-read_front_str.at c.utf8_front-text-2.ensures.front c.if-at-text-2.true
    (c.utf8_front-text-2.ensures.longest c.if-text-bytes.true) (rw c.in-Err-BadJson-read_front_str.field-0-is at c.in-Err-BadJson-read_front_str.ensures.err)

pub returns-in_default-2-clause-err : goal.returns-in_default-2-clause-err
returns-in_default-2-clause-err c =
    bad_in_text c.args.bytes.now c.utf8_front-text-2.result.now c.in-Err-BadJson-read_front_str.at c.utf8_front-text-2.ensures.within c.utf8_front-text-2.ensures.front c.utf8_front-text-2.utf8
    c.if-at-text-2.false (rw c.in-Err-BadJson-read_front_str.field-0-is at c.in-Err-BadJson-read_front_str.ensures.err)

pub returns-in_default-4-clause-ends : goal.returns-in_default-4-clause-ends
returns-in_default-4-clause-ends c =
    ends_in_text c.args.bytes.now c.utf8_front-text-2.result.now (λ front. front.1) _ c.read_front_str-2.result c.utf8_front-text-2.ensures.within c.utf8_front-text-2.ensures.front
    c.utf8_front-text-2.ensures.longest c.read_front_str-2.ensures.value c.read_front_str-2.ensures.ends
