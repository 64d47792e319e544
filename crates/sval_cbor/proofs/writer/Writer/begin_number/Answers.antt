use Rattle.std.specs.Prelude.{[], true}
use Rattle.sval_cbor.specs.WriterLaw.{cbor_writer_state}
use Rattle.sval_json.specs.Marks.{seen_handle}
use Rattle.sval_cbor.specs.Writing.{CborState, Elsewhere, opening}
use Rattle.sval_cbor.proofs.Doing.{opened_changes, opened_stopped_changes, stops_as}
use Rattle.sval_cbor.proofs.writer.Writer.begin_number.Goals as goal

pub returns-in_err-open_named : goal.returns-in_err-open_named
returns-in_err-open_named g c =
    let state = cbor_writer_state c.args.self.now in
    stops_as c.from_residual.result c.from_residual.ensures.0
    (opened_stopped_changes (opening state.style.lengths (seen_handle c.args.label c.args.index) state.place state.in_key) [] (record state { place = Elsewhere }) (record state { place = Elsewhere; in_number = true }) c.in_err-open_named.ensures)

pub returns : goal.returns
returns g c =
    let state = cbor_writer_state c.args.self.now in
    opened_changes (opening state.style.lengths (seen_handle c.args.label c.args.index) state.place state.in_key) [] (record state { place = Elsewhere }) (λ (s : CborState). record s { in_number = true }) c.in_ok-open_named.ensures
