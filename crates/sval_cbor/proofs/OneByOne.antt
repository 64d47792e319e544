-- Calls that are taken one by one are written as all of them are at once.
use Rattle.std.specs.Prelude.{◌≡◌, ℕ, List, [], ◌∷◌, ◌++◌, Ok, Err}
use Rattle.std.proofs.Common.{sym, ap, ◌∙◌, append_assoc, append-nil}
use Rattle.sval_label.specs.Calls.{Call}
use Rattle.sval_cbor.specs.Packs.{PackRefusal, on_packed}
use Rattle.sval_cbor.specs.Writing.{CborState, cbor_step, written_from, Went, at_start, onward}
use Rattle.sval_cbor.proofs.WritingPlain.{prepend, prepend_nothing, prepend_twice}

-- what further calls write comes after what was written
pub goes_on : {start : CborState} {calls : List Call} {bytes : List ℕ} {state : CborState} → Went start calls bytes state → (more : List Call) → written_from (calls ++ more) start ≡ prepend bytes (written_from more state)
goes_on (at_start {start = start}) more = sym (prepend_nothing (written_from more start))
goes_on (onward {start = start} {calls = calls} {bytes = bytes} {state = state} {done = done} call went e) more =
    ap (λ cs. written_from cs start) (append_assoc calls (call ∷ []) more) ∙ goes_on went (call ∷ more)
    ∙ ap (λ r. prepend bytes (on_packed r (λ done. prepend done.bytes (written_from more done.state)))) e ∙ prepend_twice bytes done.bytes (written_from more done.state)

pub taken_written : (start : CborState) (calls : List Call) (bytes : List ℕ) (state : CborState) → Went start calls bytes state → written_from calls start ≡ Ok bytes
taken_written start calls bytes state went = ap (λ cs. written_from cs start) (sym (append-nil calls)) ∙ goes_on went [] ∙ ap Ok (append-nil bytes)

pub refused_written : (start : CborState) (calls more : List Call) (bytes : List ℕ) (state : CborState) (call : Call) (why : PackRefusal) → Went start calls bytes state → cbor_step call state ≡ Err why → written_from (calls ++ call ∷ more) start ≡ Err why
refused_written start calls more bytes state call why went e =
    goes_on went (call ∷ more) ∙ ap (λ r. prepend bytes (on_packed r (λ done. prepend done.bytes (written_from more done.state)))) e
