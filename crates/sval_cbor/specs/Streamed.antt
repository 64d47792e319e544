-- What streaming a value to CBOR answers, and what it leaves of a sink.
use Rattle.std.specs.Prelude.{◌≡◌, ◌⊎◌, ℕ, List, Result, Ok, Err, OnOk, OnErr, ⊤}
use Rattle.sval_label.specs.Calls.{Call}
use Rattle.sval_core.specs.Law.{Emission, Rose}
use Rattle.sval_core.specs.Spells.{Spells}
use Rattle.sval_core.specs.Trees.{Tree}
use Rattle.sval_io.specs.Sinks.{Told, IsSteady, IsQuiet, IsCounted, NoCountFell, Appends, AppendsFront, AppendsPart, LacksRoom, WritesWhole, WritesFront}
use Rattle.sval_io.specs.declared.sink.SinkError.{SinkError}
use Rattle.sval_io.specs.declared.sink.SinkError.TheVariants as sink
use Rattle.sval_check.specs.Checks.{IsOneValue, IsFirstBadCall, OnlyRefuses, IsUnfinished, NeedsMemory}
use Rattle.sval_check.specs.declared.error.CheckError.{CheckError}
use Rattle.sval_check.specs.declared.error.CheckError.TheVariants as check
use Rattle.sval_json.specs.Json.{Json}
use Rattle.sval_cbor.specs.declared.error.CborError.{CborError}
use Rattle.sval_cbor.specs.declared.error.CborError.TheVariants as error
use Rattle.sval_cbor.specs.declared.error.Stop.{Stop}
use Rattle.sval_cbor.specs.declared.error.Stop.TheVariants as stop
use Rattle.sval_cbor.specs.declared.style.Style.{Style}
use Rattle.sval_cbor.specs.declared.style.TheConstants.Style.{DEFAULT}
use Rattle.sval_cbor.specs.Packs.{PackRefusal, BadKey, BadNumber, RawJson, NotInteger, pack_as, pack_of}
use Rattle.sval_cbor.specs.Cbor.{cbor_as}
use Rattle.sval_cbor.specs.SeenWriter.{seen_pack_refusal}

-- what streaming to CBOR answers
abbrev pub CborAnswer : Type 0
CborAnswer = Result (Unit {0}) CborError

-- the error that says why a tree doesn't pack
abbrev pub refusal_error : PackRefusal → CborError
refusal_error BadKey = error.Key
refusal_error BadNumber = error.Number
refusal_error RawJson = error.Raw
refusal_error NotInteger = error.NotInteger

-- the error that says why the calls were not accepted
abbrev pub check_error : CheckError → CborError
check_error (check.BadCall at) = error.BadCall at
check_error check.Unfinished = error.Unfinished
check_error check.Refused = error.Refused
check_error check.NoMemory = error.NoMemory

-- the error that says what stopped the writer
abbrev pub stop_error : Stop → CborError
stop_error (stop.Step why) = refusal_error (seen_pack_refusal why)
stop_error (stop.Sink sink.Failed) = error.Write
stop_error (stop.Sink sink.NoMemory) = error.NoMemory

-- ---- what the writer leaves of a sink, by the bytes that it is to write, or the first refusal

-- these bytes were to be written, and were taken
pub record WroteAll (due : Result (List ℕ) PackRefusal) (old new : Told) : Type 0 where
  pub bytes : List ℕ
  pub are : due ≡ Ok bytes
  pub whole : WritesWhole old bytes new

-- the sink declined, within these bytes where there is no refusal
pub record IsDeclined (why : SinkError) (due : Result (List ℕ) PackRefusal) (old new : Told) : Type 0 where
  pub cause : IsCounted why old new
  pub counts : NoCountFell old new
  pub front : (bytes : List ℕ) → due ≡ Ok bytes → WritesFront why old bytes new

-- what stopped the writer
abbrev pub IsHalted : Stop → Result (List ℕ) PackRefusal → Told → Told → Type 0
IsHalted (stop.Step why) due old new = due ≡ Err (seen_pack_refusal why)
IsHalted (stop.Sink why) due old new = IsDeclined why due old new

-- all was written, or the writer was stopped
abbrev pub WritesCalls : Result (Unit {0}) Stop → Result (List ℕ) PackRefusal → Told → Told → Type 0
WritesCalls (Ok done) due old new = WroteAll due old new
WritesCalls (Err why) due old new = IsHalted why due old new

-- what comes of bytes that are to be written: all of them, or a first part where the sink declined
abbrev pub AnswersBytes : CborAnswer → Told → List ℕ → Told → Type 0
AnswersBytes (Ok done) old bytes new = WritesWhole old bytes new
AnswersBytes (Err error.Write) old bytes new = WritesFront sink.Failed old bytes new
AnswersBytes (Err error.NoMemory) old bytes new = WritesFront sink.NoMemory old bytes new
AnswersBytes (Err _) old bytes new = ⊥

-- what comes of bytes that are to be written, or of a refusal, which leaves the sink
abbrev pub AnswersDue : CborAnswer → Told → Result (List ℕ) PackRefusal → Told → Type 0
AnswersDue result old (Ok bytes) new = AnswersBytes result old bytes new
AnswersDue result old (Err why) new = (result ≡ Err (refusal_error why)) × (new ≡ old)

-- ---- what a value gives

-- the calls are not one whole value: one of them can't be completed, or all can, and are not whole
abbrev pub IsNoTree : Emission → Type 0
IsNoTree e = ((at : ℕ) × IsFirstBadCall e.calls at) ⊎ IsUnfinished e

-- the calls are one whole value, and surely none of them is in the way of that
pub record IsChecked (e : Emission) : Type 0 where
  pub value : IsOneValue e
  pub surely : IsNoTree e → ⊥

-- the calls are one whole value, which doesn't pack, for this cause; that is the same in each style (`StylesRefuseAlike`)
pub record IsRefusedAs (e : Emission) (why : PackRefusal) : Type 0 where
  pub value : IsOneValue e
  pub packs : (tree : Tree) → Spells e.calls tree → pack_of tree ≡ Err why

-- the calls are one whole value, which packs
pub record HasCbor (e : Emission) : Type 0 where
  pub value : IsOneValue e
  pub packs : (tree : Tree) → Spells e.calls tree → (json : Json) × (pack_of tree ≡ Ok json)

-- the answer that is due, where the sink doesn't decline and memory isn't wanting
abbrev pub IsCborDue : Emission → CborAnswer → Type 0
IsCborDue e (Ok done) = HasCbor e
IsCborDue e (Err (error.BadCall at)) = IsFirstBadCall e.calls at
IsCborDue e (Err error.Unfinished) = IsUnfinished e
IsCborDue e (Err error.Refused) = OnlyRefuses e
IsCborDue e (Err error.Key) = IsRefusedAs e BadKey
IsCborDue e (Err error.Number) = IsRefusedAs e BadNumber
IsCborDue e (Err error.Raw) = IsRefusedAs e RawJson
IsCborDue e (Err error.NotInteger) = IsRefusedAs e NotInteger
IsCborDue e (Err error.Write) = ⊥
IsCborDue e (Err error.NoMemory) = ⊥

-- the tree packs in this style, and exactly its bytes were taken
pub record WritesCborTree (style : Style) (tree : Tree) (old new : Told) : Type 0 where
  pub json : Json
  pub packs : pack_as style tree ≡ Ok json
  pub appends : Appends old (cbor_as style.lengths json) new

-- the bytes of the tree that the calls spell were taken
abbrev pub WritesSpelled : Style → List Call → Told → Told → Type 0
WritesSpelled style calls old new = (tree : Tree) → Spells calls tree → WritesCborTree style tree old new

-- where the calls spell a tree that packs, a first part of its bytes was taken
abbrev pub BeginsSpelled : Style → List Call → Told → Told → Type 0
BeginsSpelled style calls old new = (tree : Tree) (json : Json) → Spells calls tree → pack_as style tree ≡ Ok json → AppendsFront old (cbor_as style.lengths json) new

-- where the calls spell a tree that packs, a first part of its bytes was taken, but not all of them
abbrev pub CutsSpelled : Style → List Call → Told → Told → Type 0
CutsSpelled style calls old new = (tree : Tree) (json : Json) → Spells calls tree → pack_as style tree ≡ Ok json → AppendsPart old (cbor_as style.lengths json) new

-- where the calls spell a tree that packs, its bytes have no place in the room that is told
abbrev pub LacksCborRoom : Style → List Call → Told → Type 0
LacksCborRoom style calls old = (tree : Tree) (json : Json) → Spells calls tree → pack_as style tree ≡ Ok json → LacksRoom old (cbor_as style.lengths json)

-- memory was wanting to check the value; or it is a whole one, and memory was wanting to capture it
abbrev pub TakesMemory : Emission → Type 0
TakesMemory e = NeedsMemory e.calls ⊎ IsOneValue e

-- the error's cause is not the sink's, nor want of memory
abbrev pub IsCauseOfValue : CborAnswer → Type 0
IsCauseOfValue (Ok done) = ⊥
IsCauseOfValue (Err error.Write) = ⊥
IsCauseOfValue (Err error.NoMemory) = ⊥
IsCauseOfValue (Err _) = ⊤

-- where memory was wanting the sink is as it was, or memory was wanting for the sink itself, for bytes that the value has
abbrev pub IsCborWant : {K : Type 0} → (K → Told) → Emission → K → K → Type 0
IsCborWant told e old new = (new ≡ old) ⊎ (Rose (told old).wants (told new).wants × HasCbor e)

-- On Ok the sink took the bytes of what the tree that the calls spell packs to in this style. Each error comes only where it is so, and where the sink
-- doesn't decline and memory isn't wanting, the answer that is due comes. An error of the value comes before anything is written, and after
-- one of the sink it took a first part of the bytes, not all of them.
pub record StreamsCborAs (style : Style) (e : Emission) (result : CborAnswer) (old new : Told) : Type 0 where
  pub value : OnOk result (IsOneValue e)
  pub written : OnOk result (WritesSpelled style e.calls old new)
  pub steady : OnOk result (IsSteady old new)
  pub only_where : IsCauseOfValue result → IsCborDue e result
  pub error_comes : (why : CborError) → IsCborDue e (Err why) → (result ≡ Err why) ⊎ (result ≡ Err error.NoMemory)
  pub ok_comes : HasCbor e → IsQuiet old new → (result ≡ Ok tt) ⊎ (result ≡ Err error.NoMemory)
  pub write : result ≡ Err error.Write → Rose old.faults new.faults
  pub write_room : result ≡ Err error.Write → LacksCborRoom style e.calls old
  pub write_short : result ≡ Err error.Write → CutsSpelled style e.calls old new
  pub write_value : result ≡ Err error.Write → HasCbor e
  pub no_memory : result ≡ Err error.NoMemory → (Rose old.wants new.wants × HasCbor e) ⊎ ((new ≡ old) × TakesMemory e)
  pub no_memory_short : result ≡ Err error.NoMemory → (new ≡ old) ⊎ CutsSpelled style e.calls old new
  pub counts : NoCountFell old new
  pub prefix : OnErr result (BeginsSpelled style e.calls old new)

-- the same in the default style
abbrev pub StreamsCbor : Emission → CborAnswer → Told → Told → Type 0
StreamsCbor e result old new = StreamsCborAs DEFAULT e result old new
