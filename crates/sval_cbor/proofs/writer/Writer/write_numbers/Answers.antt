use Rattle.std.proofs.Common.{rules, ◌<◌, ◌^◌, length, refl}
use Rattle.sval_cbor.proofs.Doing.{stops_as}
use Rattle.sval_cbor.proofs.Combined.{numbers_done, numbers_stopped}
use Rattle.sval_cbor.proofs.writer.Writer.write_numbers.Goals as goal

pub returns-in_err-write_row_head : goal.returns-in_err-write_row_head
returns-in_err-write_row_head g c =
    let short : length c.args.bytes.now < 2 ^ 64 = search rules in
    stops_as c.from_residual.result c.from_residual.ensures.0 (numbers_stopped c.args.bytes.now (length c.args.bytes.now) refl short c.in_err-write_row_head.ensures)

pub returns : goal.returns
returns g c =
    let short : length c.args.bytes.now < 2 ^ 64 = search rules in
    numbers_done c.args.bytes.now (length c.args.bytes.now) c.write_items.result _ _ refl short c.in_ok-write_row_head.ensures c.write_items.ensures
