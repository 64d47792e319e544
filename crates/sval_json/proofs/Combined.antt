-- What an action does that is made of others, by what these do.
use Rattle.std.specs.Prelude.{◌≡◌, ℕ, true, false, if◌then◌else◌, List, [], ◌∷◌, ◌++◌, length, codes, None, Result, Ok, Err, IsErr, refl}
use Rattle.std.specs.Fmt.{decimal}
use Rattle.std.proofs.Common.{ap, ◌∙◌, subst, arith}
use Rattle.sval_label.specs.declared.error.Error.{Error}
use Rattle.sval_label.specs.Calls.{Label}
use Rattle.sval_json.specs.Escape.{escaped}
use Rattle.sval_json.specs.Json.{comma}
use Rattle.sval_json.specs.Actions.{escapes, WriterState, set_named, Outcome, Action, write, ◌then◌, ◌sets◌, from}
use Rattle.sval_json.specs.Steps.{item_begins, value_written, text_begins, fragment, quote_if_quoted, bytes_step, key_label_text, field_begins}
use Rattle.sval_json.specs.WriterLaw.{WriterView, HasDone, IsStopped, IsOnlySet, Does, after_action}
use Rattle.sval_json.proofs.Doing.{nothing_done, done_then, stopped_first, stopped_later}

-- where a `?` passes on an error
pub stops_as : {action : Action} {old new : WriterView} (r : Result (Unit {0}) Error) → IsErr r → IsStopped action old new → Does action r old new
stops_as (Ok done) is stop = cc is
stops_as (Err refusal) is stop = stop

-- ---- one after another

pub does_then : (first next : Action) (r : Result (Unit {0}) Error) (old new : WriterView) {mid : WriterView} → HasDone first old mid → Does next r mid new → Does (first then next) r old new
does_then first next (Ok done) old new d e = done_then d e
does_then first next (Err refusal) old new d e = stopped_later d e

-- ---- a change of the state

pub done_sets : {action : Action} {old mid new : WriterView} (change : WriterState → WriterState) → HasDone action old mid → IsOnlySet change mid new → HasDone (action sets change) old new
done_sets {action} {old} {mid} {new} change d set =
    let view : new ≡ after_action (action sets change) old = set ∙ ap (λ (v : WriterView). let changed : WriterView = record v { state = change v.state } in changed) d.view in
    record { may = record { refusal = d.may.refusal; fits = d.may.fits }; view = view }

pub stops_sets : {action : Action} {old new : WriterView} (change : WriterState → WriterState) → IsStopped action old new → IsStopped (action sets change) old new
stops_sets change stop = record { left = stop.left; name = stop.name }

pub does_from : (action : Action) (change : WriterState → WriterState) (r : Result (Unit {0}) Error) (old new : WriterView) → Does action r (record old { state = change old.state }) new → Does (from change action) r old new
does_from action change (Ok done) old new d = record { may = record { refusal = d.may.refusal; fits = d.may.fits }; view = d.view }
does_from action change (Err refusal) old new stop = record { left = stop.left; name = stop.name }

-- ---- an action with the same outcome

by_outcome : (action : Action) (r : Result (Unit {0}) Error) (old new : WriterView) → Does action r old new → Does (λ state. action old.state) r old new
by_outcome action (Ok done) old new d = record { may = record { refusal = d.may.refusal; fits = d.may.fits }; view = d.view }
by_outcome action (Err refusal) old new stop = record { left = stop.left; name = stop.name }

from_outcome : (action : Action) (r : Result (Unit {0}) Error) (old new : WriterView) → Does (λ state. action old.state) r old new → Does action r old new
from_outcome action (Ok done) old new d = record { may = record { refusal = d.may.refusal; fits = d.may.fits }; view = d.view }
from_outcome action (Err refusal) old new stop = record { left = stop.left; name = stop.name }

pub does_alike : (action other : Action) (r : Result (Unit {0}) Error) (old new : WriterView) → action old.state ≡ other old.state → Does action r old new → Does other r old new
does_alike action other r old new e d = from_outcome other r old new (subst (λ (o : Outcome). Does (λ state. o) r old new) e (by_outcome action r old new d))

-- ---- a text

-- where texts bring their quotes and are escaped, the three parts of a text write this
pub text_is_quoted : (text : List ℕ) (state : WriterState) → state.quoted ≡ true → state.handler ≡ escapes → value_written (codes "\"" ++ escaped text ++ codes "\"") state ≡ (text_begins then fragment text then quote_if_quoted) state
text_is_quoted text state quoted handler = rw (quoted, handler) refl

-- ---- the bytes of a binary

-- the rest of the bytes is due
pub record IsDue (all : List ℕ) (begun : WriterView) (rest : List ℕ) (now : WriterView) : Type 0 where
  pub rest_of : (r : Result (Unit {0}) Error) (new : WriterView) → Does (bytes_step rest) r now new → Does (bytes_step all) r begun new

pub all_due : (all : List ℕ) (begun : WriterView) → IsDue all begun all begun
all_due all begun = record { rest_of = λ r new d. d }

pub next_done : {all rest : List ℕ} {byte : ℕ} {begun mid now : WriterView} → IsDue all begun (byte ∷ rest) mid → HasDone (item_begins then value_written (decimal byte)) mid now → IsDue all begun rest now
next_done {rest = rest} {byte = byte} {mid = mid} due d = record { rest_of = λ r new more. due.rest_of r new (does_then (item_begins then value_written (decimal byte)) (bytes_step rest) r mid new d more) }

pub next_stopped : {all rest : List ℕ} {byte : ℕ} {begun mid new : WriterView} (r : Result (Unit {0}) Error) → IsErr r → IsDue all begun (byte ∷ rest) mid
    → IsStopped (item_begins then value_written (decimal byte)) mid new → Does (bytes_step all) r begun new
next_stopped {rest = rest} {new = new} r is due stop = due.rest_of r new (stops_as r is (stopped_first (bytes_step rest) stop))

pub none_due : {all : List ℕ} {begun now : WriterView} (rest : List ℕ) → IsDue all begun rest now → length rest ≡ 0 → HasDone (bytes_step all) begun now
none_due {now = now} [] due none = due.rest_of (Ok tt) now (nothing_done now)
none_due (byte ∷ rest) due none = absurd (omega (arith, none))

-- ---- a field

-- a field begins by one text, with the comma in front unless it is the first
pub field_begun : (label : Label) (bytes : List ℕ) (r : Result (Unit {0}) Error) (old new : WriterView) → bytes ≡ comma old.state.empty ++ (codes "\"" ++ key_label_text label ++ codes "\":")
    → Does (write bytes) r (record old { state = set_named false old.state }) new → Does (field_begins label) r old new
field_begun label bytes r old new e d =
    does_alike (from (set_named false) (write bytes)) (field_begins label) r old new
    (ap (λ written. let o : Outcome = record { state = set_named false old.state; written = written; refusal = None } in o) e)
    (does_from (write bytes) (set_named false) r old new d)
