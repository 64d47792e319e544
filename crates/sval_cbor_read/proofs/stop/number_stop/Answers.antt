use Rattle.std.proofs.Common.{arith}
use Rattle.sval_cbor_read.proofs.Bignums.{not_pieces}
use Rattle.sval_cbor_read.proofs.Stops.{number_stops_here, number_stops_behind}
use Rattle.sval_cbor_read.proofs.stop.number_stop.Goals as goal

pub returns-then-at-bytes : goal.returns-then-at-bytes
returns-then-at-bytes c = number_stops_here c.args.bytes.now c.args.at c.requires (not_pieces c.args.bytes.now c.args.at (λ l. absurd (let k = c.if-at-bytes.true in omega arith)))

pub returns-then-bytes-at-eq95 : goal.returns-then-bytes-at-eq95
returns-then-bytes-at-eq95 c = number_stops_behind c.args.bytes.now c.args.at c.chunks_stop.result c.if-at-bytes.false c.if-bytes-at-eq95.true c.chunks_stop.ensures

pub returns : goal.returns
returns c = number_stops_here c.args.bytes.now c.args.at c.requires (not_pieces c.args.bytes.now c.args.at (λ l. c.if-bytes-at-eq95.false))
