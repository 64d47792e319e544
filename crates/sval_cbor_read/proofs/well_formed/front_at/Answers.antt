use Rattle.std.proofs.Common.{arith, refl}
use Rattle.sval_cbor_read.proofs.WellFormedFronts.{no_byte_is_front, array_to_break_is_front, map_to_break_is_front, no_head_is_front}
use Rattle.sval_cbor_read.proofs.well_formed.front_at.Goals as goal

pub returns-then-at-bytes : goal.returns-then-at-bytes
returns-then-at-bytes c = no_byte_is_front c.args.bytes.now c.args.at c.if-at-bytes.true

pub returns-in-159 : goal.returns-in-159
returns-in-159 c = array_to_break_is_front c.args.bytes.now c.args.at c.if-at-bytes.false c.in-159.is

pub returns-in-191 : goal.returns-in-191
returns-in-191 c = map_to_break_is_front c.args.bytes.now c.args.at c.if-at-bytes.false c.in-191.is

pub returns-in-None : goal.returns-in-None
returns-in-None c =
    no_head_is_front c.args.bytes.now c.args.at c.if-at-bytes.false (omega arith) (omega arith) (omega arith) (omega arith) (c.in-None.ensures.nothing refl)
