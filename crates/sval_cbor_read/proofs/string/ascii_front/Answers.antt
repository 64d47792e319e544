use Rattle.sval_cbor_read.proofs.AsciiFront.{high_mask, all_ascii, front_within, front_ascii}
use Rattle.sval_cbor_read.proofs.string.ascii_front.Goals as goal

pub returns-then-high-eq0-clause-ascii : goal.returns-then-high-eq0-clause-ascii
returns-then-high-eq0-clause-ascii c = all_ascii c.args.bytes.now _ c.requires (high_mask c.args.bytes.now c.requires) c.if-high-eq0.true

pub returns-clause-within : goal.returns-clause-within
returns-clause-within c = front_within c.args.bytes.now _ c.requires (high_mask c.args.bytes.now c.requires) c.if-high-eq0.false

pub returns-clause-ascii : goal.returns-clause-ascii
returns-clause-ascii c = front_ascii c.args.bytes.now _ c.requires (high_mask c.args.bytes.now c.requires) c.if-high-eq0.false
