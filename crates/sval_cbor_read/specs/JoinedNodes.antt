-- What nodes add to JSON, where it is put together before the writer takes it.
use Rattle.std.specs.Prelude.{◌≡◌, ℕ, Bool, true, false, List, [], ◌++◌, codes, Option, Some, None, Result, Ok, Err}
use Rattle.sval_label.specs.Calls.{Call}
use Rattle.sval_label.specs.declared.error.Error.{Error}
use Rattle.sval_json.specs.declared.style.Variants.TheVariants.{Inside}
use Rattle.sval_json.specs.Actions.{WriterState, between}
use Rattle.sval_json.specs.Json.{comma}
use Rattle.sval_json.specs.Steps.{writer_steps}
use Rattle.sval_json.specs.WriterLaw.{WriterView, HasDone, IsStopped}
use Rattle.sval_cbor_read.specs.declared.node.Kind as made_kind
use Rattle.sval_cbor_read.specs.declared.node.Kind.TheVariants as kind
use Rattle.sval_cbor_read.specs.declared.node.Place as made_place
use Rattle.sval_cbor_read.specs.declared.node.Place.TheVariants as place
use Rattle.sval_cbor_read.specs.SeenNodes.{item_place_begins, item_place_ends}

-- the comma before an item in this place, where it isn't the first one
abbrev pub comma_in : Bool → made_place.Place → List ℕ
comma_in is_first place.Item = comma is_first
comma_in is_first place.Key = comma is_first
comma_in is_first place.Alone = []
comma_in is_first place.Value = []

-- a text in this place, between quotes, and with the colon behind a key
abbrev pub quoted_in : made_place.Place → List ℕ → List ℕ
quoted_in place.Key text = codes "\"" ++ (text ++ codes "\":")
quoted_in place text = codes "\"" ++ (text ++ codes "\"")

-- calls in this place
abbrev pub placed_calls : made_place.Place → List Call → List Call
placed_calls place calls = item_place_begins place ++ (calls ++ item_place_ends place)

-- the next item or key is the first one behind a begin
abbrev pub is_first_behind : made_kind.Kind → Bool
is_first_behind kind.Begin = true
is_first_behind kind = false

-- the writer writes this text for the calls, refuses none, and then an item or a key may come
abbrev pub WritesBetween : List Call → Bool → List ℕ → Bool → Type 0
WritesBetween calls is_first text then_first =
    writer_steps Inside calls (between is_first) ≡ record { state = between then_first; written = text; refusal = None }

-- the answer tells whether the text of these calls was joined to what was, or all is as before
abbrev pub JoinsCalls : Bool → List Call → Bool → Bool → (old new : List ℕ) → Type 0
JoinsCalls true calls is_first then_first old new = (text : List ℕ) × ((new ≡ old ++ text) × WritesBetween calls is_first text then_first)
JoinsCalls false calls is_first then_first old new = new ≡ old

-- What is joined stands for the calls that the writer doesn't have yet: for none where no item or key may come, and else for those that
-- write it.
abbrev pub StandsFor : WriterState → List Call → Option Bool → List ℕ → Type 0
StandsFor state ahead None joined = (ahead ≡ []) × (joined ≡ [])
StandsFor state ahead (Some is_first) joined = (first : Bool) × ((state ≡ between first) × WritesBetween ahead first joined is_first)

-- from a writer that stood there on these calls were made: it has the first of them, and what is joined stands for the others
pub record AreMade (start : WriterView) (calls : List Call) (now : WriterView) (is_first : Option Bool) (joined : List ℕ) : Type 0 where
  pub done : List Call
  pub ahead : List Call
  pub same : calls ≡ done ++ ahead
  pub has : HasDone (writer_steps Inside done) start now
  pub stands : StandsFor now.state ahead is_first joined

-- the answer tells whether these calls were made, or the writer was stopped in one of them
abbrev pub MakesCalls : Result (Unit {0}) Error → WriterView → List Call → WriterView → Option Bool → List ℕ → Type 0
MakesCalls (Ok done) start calls now is_first joined = AreMade start calls now is_first joined
MakesCalls (Err refusal) start calls now is_first joined = IsStopped (writer_steps Inside calls) start now
