-- Why what is due of a document, or of a line, wasn't written.
use Rattle.std.specs.Prelude.{◌≡◌, ◌≢◌, ℕ, List, [], ◌∷◌, ◌++◌, Result, Ok, Err, OnOk, IfErr, refl}
use Rattle.std.proofs.Common.{sym, ap, subst, append-nil, inl, inr}
use Rattle.sval_io.specs.Sinks.{Told, WritesWhole, WritesFront}
use Rattle.sval_io.specs.declared.sink.SinkError.{SinkError}
use Rattle.sval_io.specs.declared.sink.SinkError.TheVariants as sink
use Rattle.sval_io.proofs.Appending.{appends_nothing, front_after, writes_nothing, writes_both, stops_after}
use Rattle.sval_core.specs.Trees.{Tree}
use Rattle.sval_filter.specs.Pruned.{pruned}
use Rattle.sval_json.specs.Json.{Json}
use Rattle.sval_json_read.specs.Documents.{IsDocument}
use Rattle.sval_json_read.specs.ReadErrors.{IsJsonReadError}
use Rattle.sval_json_read.specs.Tokens.{Placed}
use Rattle.sval_json_read.specs.Trees.{tree_of}
use Rattle.sval_json_read.specs.declared.document.ReadError.{ReadError}
use Rattle.sval_json_read.specs.declared.document.ReadError.TheVariants as read
use Rattle.sval_cbor.specs.Packs.{pack_of}
use Rattle.sval_cbor.specs.Cbor.{cbor}
use Rattle.sval_cbor.specs.declared.error.CborError.{CborError}
use Rattle.sval_cbor.specs.declared.error.CborError.TheVariants as packing
use Rattle.sval_tool.specs.Conversions.{IsTextOf, IsTextLeft, IsDocumentDue, IsFedDue, ending_of, WritesParts, WritesLeft, WritesDue, StopsInDue, IsDocumentCause, WritesAsked, error_of_read, error_of_sink, IsPackError, error_of_pack}
use Rattle.sval_tool.specs.ConvertedLines.{IsLineDue}
use Rattle.sval_tool.specs.PackedDocuments.{WritesPacked, StopsInPacked, WritesPackedTree}
use Rattle.sval_tool.specs.declared.convert.Conversion.{Conversion}
use Rattle.sval_tool.specs.declared.convert.Target.{Target}
use Rattle.sval_tool.specs.declared.convert.Target.TheVariants as target
use Rattle.sval_tool.specs.declared.error.DocumentError.{DocumentError}
use Rattle.sval_tool.specs.declared.error.DocumentError.TheVariants as document

-- ---- a document

-- it wasn't read
pub unread : {K : Type 0} (told : K → Told) (c : Conversion) (Due : List ℕ → Type 0) (bytes : List ℕ) (old : K) (why : ReadError) → IsJsonReadError bytes why → IsDocumentCause told c Due bytes (error_of_read why) old old
unread told c Due bytes old (read.NotUtf8 at) cause = (cause.0, cause.1, refl)
unread told c Due bytes old (read.BadJson at) cause = (cause, refl)
unread told c Due bytes old read.NoMemory cause = inl (record { utf8 = cause.0; keeps = cause.1; same = refl })

-- what is due of it was written in part
pub stopped : {K : Type 0} (told : K → Told) (c : Conversion) (Due : List ℕ → Type 0) (bytes : List ℕ) (old new : K) (why : SinkError) → StopsInDue why Due (told old) (told new)
    → IsDocumentCause told c Due bytes (error_of_sink why) old new
stopped told c Due bytes old new sink.Failed s = s
stopped told c Due bytes old new sink.NoMemory s = inr (inr s)

module _ (c : Conversion) (bytes : List ℕ) where
  -- its text was written
  pub left_done : (aim : Target) (old new : Told) → c.target ≡ aim → WritesLeft c.rule c.paths.now aim bytes (Ok tt) old new → WritesDue (IsDocumentDue c bytes) old new
  left_done aim old new is w =
      record { text = w.text; due = subst (λ (aim : Target). IsTextLeft c.rule c.paths.now aim bytes w.text) (sym is) w.due; writes = w.writes }

  pub left_stopped : {K : Type 0} (told : K → Told) (aim : Target) (old new : K) (why : SinkError) → c.target ≡ aim
      → WritesLeft c.rule c.paths.now aim bytes (Err why) (told old) (told new) → IsDocumentCause told c (IsDocumentDue c bytes) bytes (error_of_sink why) old new
  left_stopped told aim old new why is w =
      stopped told c (IsDocumentDue c bytes) bytes old new why
      (record { text = w.text; due = subst (λ (aim : Target). IsTextLeft c.rule c.paths.now aim bytes w.text) (sym is) w.due; stops = w.writes })

  -- its CBOR was written
  module _ (tokens : List Placed) (d : IsDocument bytes tokens) (is : c.target ≡ target.Cbor) where
    -- what is left of its tree
    abbrev left : Tree
    left = pruned c.rule c.paths.now (tree_of d.value)

    cbor_due : (json : Json) → pack_of left ≡ Ok json → IsDocumentDue c bytes (cbor json)
    cbor_due json packs = record {
      value = d.value;
      denotes = d.denotes;
      is = subst (λ (aim : Target). IsTextOf aim (cbor json) left) (sym is) (record { json = json; packs = packs; same = refl });
    }

    pub cbor_done : (old new : Told) → WritesPacked left old new → WritesDue (IsDocumentDue c bytes) old new
    cbor_done old new w = record { text = cbor w.json; due = cbor_due w.json w.packs; writes = w.writes }

    cbor_front : (why : SinkError) (old new : Told) → StopsInPacked why left old new → StopsInDue why (IsDocumentDue c bytes) old new
    cbor_front why old new s = record { text = cbor s.json; due = cbor_due s.json s.packs; stops = inl s.stops }

    pub known_refusal : {K : Type 0} (told : K → Told) (why : CborError) (old new : K) → WritesPackedTree told left (Err why) old new → IsPackError why
    known_refusal told (packing.BadCall at) old new w = w
    known_refusal told packing.Unfinished old new w = w
    known_refusal told packing.Key old new w = w
    known_refusal told packing.Number old new w = w
    known_refusal told packing.Raw old new w = w
    known_refusal told packing.NotInteger old new w = tt
    known_refusal told packing.Write old new w = tt
    known_refusal told packing.NoMemory old new w = tt
    known_refusal told packing.Refused old new w = w

    pub cbor_stopped : {K : Type 0} (told : K → Told) (why : CborError) (old new : K) → WritesPackedTree told left (Err why) old new
        → IsDocumentCause told c (IsDocumentDue c bytes) bytes (error_of_pack why) old new
    cbor_stopped told (packing.BadCall at) old new w = absurd w
    cbor_stopped told packing.Unfinished old new w = absurd w
    cbor_stopped told packing.Key old new w = absurd w
    cbor_stopped told packing.Number old new w = absurd w
    cbor_stopped told packing.Raw old new w = absurd w
    cbor_stopped told packing.NotInteger old new w = (record { to_cbor = is; value = d.value; denotes = d.denotes; refused = w.0 }, w.1)
    cbor_stopped told packing.Write old new w = cbor_front sink.Failed (told old) (told new) w
    cbor_stopped told packing.NoMemory old new (inl s) = inr (inr (cbor_front sink.NoMemory (told old) (told new) s))
    cbor_stopped told packing.NoMemory old new (inr same) = inr (inl (record { to_cbor = is; value = d.value; denotes = d.denotes; same = same }))
    cbor_stopped told packing.Refused old new w = absurd w

module _ {K : Type 0} (told : K → Told) (c : Conversion) (bytes : List ℕ) where
  -- what was asked for was written, or wasn't
  pub asked_done : (result : Result (Unit {0}) DocumentError) (old new : K) → WritesAsked told c bytes result old new → OnOk result (WritesDue (IsDocumentDue c bytes) (told old) (told new))
  asked_done (Ok done) old new w = w
  asked_done (Err why) old new w = tt

  pub asked_stopped : (result : Result (Unit {0}) DocumentError) (old new : K) → WritesAsked told c bytes result old new
      → IfErr result (λ why. IsDocumentCause told c (IsDocumentDue c bytes) bytes why old new)
  asked_stopped (Ok done) old new w = tt
  asked_stopped (Err why) old new w = w

-- ---- a document and what is written behind it

longer_front : {why : SinkError} {old new : Told} (text more : List ℕ) → WritesParts (Err why) old text new → WritesParts (Err why) old (text ++ more) new
longer_front {why} {old} text more (inl w) = inl (stops_after [] text more (writes_nothing old) refl w)
longer_front {why} {old} text more (inr p) = inr (record { want = p.want; front = front_after [] text more (appends_nothing old) refl p.front; steady = p.steady })

module _ (c : Conversion) (bytes : List ℕ) where
  stops_in_fed : (why : SinkError) (old new : Told) → StopsInDue why (IsDocumentDue c bytes) old new → StopsInDue why (IsFedDue c bytes) old new
  stops_in_fed why old new s = record { text = s.text ++ ending_of c.target; due = (s.text, s.due, refl); stops = longer_front s.text (ending_of c.target) s.stops }

  -- the document wasn't converted
  pub fed_cause : {K : Type 0} (told : K → Told) (why : DocumentError) (old new : K) → IsDocumentCause told c (IsDocumentDue c bytes) bytes why old new
      → IsDocumentCause told c (IsFedDue c bytes) bytes why old new
  fed_cause told (document.NotUtf8 at) old new cause = cause
  fed_cause told (document.BadJson at) old new cause = cause
  fed_cause told document.NotInteger old new cause = cause
  fed_cause told document.WriteFault old new cause = stops_in_fed sink.Failed (told old) (told new) cause
  fed_cause told document.NoMemory old new (inl unread) = inl unread
  fed_cause told document.NoMemory old new (inr (inl unpacked)) = inr (inl unpacked)
  fed_cause told document.NoMemory old new (inr (inr s)) = inr (inr (stops_in_fed sink.NoMemory (told old) (told new) s))

  -- what is written behind it
  pub feed_done : (old mid new : Told) → WritesDue (IsDocumentDue c bytes) old mid → WritesWhole mid (ending_of c.target) new → WritesDue (IsFedDue c bytes) old new
  feed_done old mid new d w = record { text = d.text ++ ending_of c.target; due = (d.text, d.due, refl); writes = writes_both d.text (ending_of c.target) d.writes w }

  pub feed_stopped : {K : Type 0} (told : K → Told) (old new : K) (mid : Told) (why : SinkError) → WritesDue (IsDocumentDue c bytes) (told old) mid
      → WritesFront why mid (ending_of c.target) (told new) → IsDocumentCause told c (IsFedDue c bytes) bytes (error_of_sink why) old new
  feed_stopped told old new mid why d w =
      stopped told c (IsFedDue c bytes) bytes old new why
      (record { text = d.text ++ ending_of c.target; due = (d.text, d.due, refl); stops = inl (stops_after d.text (ending_of c.target) [] d.writes (ap (λ (x : List ℕ). d.text ++ x) (sym (append-nil (ending_of c.target)))) w) })

-- ---- a line

module _ (c : Conversion) where
  -- nothing is due of an empty line
  pub empty_done : (line : List ℕ) (old : Told) → line ≡ [] → WritesDue (IsLineDue c line) old old
  empty_done [] old e = record { text = []; due = refl; writes = writes_nothing old }
  empty_done (byte ∷ line) old e = absurd (cc e)

  -- and of another one its document and what is written behind it
  pub line_done : (line : List ℕ) (old new : Told) → line ≢ [] → WritesDue (IsFedDue c line) old new → WritesDue (IsLineDue c line) old new
  line_done [] old new n w = absurd (n refl)
  line_done (byte ∷ line) old new n w = w

  pub line_stopped : {K : Type 0} (told : K → Told) (line : List ℕ) (why : DocumentError) (old new : K) → line ≢ [] → IsDocumentCause told c (IsFedDue c line) line why old new
      → IsDocumentCause told c (IsLineDue c line) line why old new
  line_stopped told [] why old new n cause = absurd (n refl)
  line_stopped told (byte ∷ line) why old new n cause = cause
