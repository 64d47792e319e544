use Rattle.std.proofs.Common.{refl}
use Rattle.sval_cbor_read.proofs.ReadStrings.{some_map}
use Rattle.sval_cbor_read.proofs.BegunItems.{marked_begins, headed_begins, headed_begins_nothing, no_head_begins_nothing, end_begins_nothing}
use Rattle.sval_cbor_read.proofs.item.item_at.Goals as goal

pub returns-then-at-bytes-clause-nothing : goal.returns-then-at-bytes-clause-nothing
returns-then-at-bytes-clause-nothing c = λ none. end_begins_nothing c.args.bytes.now c.args.at c.if-at-bytes.true

-- a short text
pub returns-in-Some-clause-nothing : goal.returns-in-Some-clause-nothing
returns-in-Some-clause-nothing c = λ none.
    headed_begins_nothing c.args.bytes.now c.args.at c.in-Some.head c.if-at-bytes.false c.in-Some.ensures.no_mark c.in-Some.ensures.found (c.text_item.ensures.nothing none)

pub returns-in-Some-clause-found : goal.returns-in-Some-clause-found
returns-in-Some-clause-found c =
    some_map c.text_item.result (λ begun b. headed_begins c.args.bytes.now c.args.at c.in-Some.head begun c.if-at-bytes.false c.in-Some.ensures.no_mark c.in-Some.ensures.found b) c.text_item.ensures.found

-- any other item
pub returns-in-Some-marked_item-clause-found : goal.returns-in-Some-marked_item-clause-found
returns-in-Some-marked_item-clause-found c = marked_begins c.args.bytes.now c.args.at _ c.if-at-bytes.false c.in-Some-marked_item.ensures.found

pub returns-in-None-read_head-clause-nothing : goal.returns-in-None-read_head-clause-nothing
returns-in-None-read_head-clause-nothing c = λ none.
    no_head_begins_nothing c.args.bytes.now c.args.at c.if-at-bytes.false (c.in-None.ensures.nothing refl) (c.in-None-read_head.ensures.nothing refl)

pub returns-in-Some-read_head-clause-nothing : goal.returns-in-Some-read_head-clause-nothing
returns-in-Some-read_head-clause-nothing c = λ none.
    headed_begins_nothing c.args.bytes.now c.args.at c.in-Some-read_head.head c.if-at-bytes.false (c.in-None.ensures.nothing refl) c.in-Some-read_head.ensures.found (c.headed_item.ensures.nothing none)

pub returns-in-Some-read_head-clause-found : goal.returns-in-Some-read_head-clause-found
returns-in-Some-read_head-clause-found c =
    some_map c.headed_item.result (λ begun b. headed_begins c.args.bytes.now c.args.at c.in-Some-read_head.head begun c.if-at-bytes.false (c.in-None.ensures.nothing refl) c.in-Some-read_head.ensures.found b)
    c.headed_item.ensures.found
