use Rattle.sval_cbor.specs.WriterLaw.{cbor_writer_state}
use Rattle.sval_json.specs.Marks.{seen_handle}
use Rattle.sval_cbor.specs.Writing.{CborState, Elsewhere, opening}
use Rattle.sval_cbor.proofs.Doing.{opened_then, opened_stopped, stops_as}
use Rattle.sval_cbor.proofs.writer.Writer.open_named.Goals as goal

pub returns-in_err-open_handle : goal.returns-in_err-open_handle
returns-in_err-open_handle g c =
    let state = cbor_writer_state c.args.self.now in
    stops_as c.from_residual.result c.from_residual.ensures.0
    (opened_stopped (opening state.style.lengths (seen_handle c.args.label c.args.index) state.place state.in_key) c.args.mark.now state (record state { place = Elsewhere }) c.in_err-open_handle.ensures)

pub returns : goal.returns
returns g c =
    let state = cbor_writer_state c.args.self.now in
    opened_then (opening state.style.lengths (seen_handle c.args.label c.args.index) state.place state.in_key) c.args.mark.now state (λ (s : CborState). record s { place = Elsewhere }) c.write.result _ _ c.in_ok-open_handle.ensures c.write.ensures
