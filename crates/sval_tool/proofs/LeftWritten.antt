-- From what was streamed of a document to what was written of what is left of it.
use Rattle.std.specs.Prelude.{◌≡◌, ℕ, true, false, List, [], ◌++◌, Result, Ok, Err, refl}
use Rattle.std.specs.Borrow.{MutBor}
use Rattle.std.proofs.Common.{sym, ap, subst, ◌∙◌, inl, inr}
use Rattle.sval_label.specs.Calls.{Call}
use Rattle.sval_core.specs.Law.{Streams, Stops}
use Rattle.sval_core.specs.Spells.{Spells}
use Rattle.sval_core.specs.Trees.{Tree}
use Rattle.sval_core.specs.Values.{makes}
use Rattle.sval_io.specs.Sinks.{Told, LacksRoom, AppendsFront, AppendsPart, WritesAll}
use Rattle.sval_io.specs.declared.sink.SinkError.{SinkError}
use Rattle.sval_io.specs.declared.sink.SinkError.TheVariants.{Failed, NoMemory}
use Rattle.sval_io.proofs.Appending.{appends_nothing, all_is_front, front_after}
use Rattle.sval_json.specs.ErrorKinds.{error_kind, refusal_kind}
use Rattle.sval_json.specs.Json.{Json, compact}
use Rattle.sval_json.specs.Laws.{IsWrittenAs}
use Rattle.sval_json.specs.Number.{Refusal, InvalidKey, InvalidNumber}
use Rattle.sval_json.specs.Shape.{json_of}
use Rattle.sval_json.specs.Steps.{written_in}
use Rattle.sval_json.specs.Written.{StreamsJson}
use Rattle.sval_json.specs.WriterLaw.{fresh_writer, sink_of, stop_of, writer_law, writer_standing}
use Rattle.sval_json.specs.declared.error.ErrorKind.{ErrorKind}
use Rattle.sval_json.specs.declared.error.ErrorKind.TheVariants as kind
use Rattle.sval_json.specs.declared.style.Variants.TheVariants.{Inside}
use Rattle.sval_json.specs.declared.writer.JsonWriter.{JsonWriter}
use Rattle.sval_json.proofs.Refused.{written_as_they_come}
use Rattle.sval_json.proofs.Streaming.{ran_is_written, stopped_is_begun}
use Rattle.sval_json.proofs.WritingPlain.{spelling_written}
use Rattle.sval_filter.specs.Paths.{Path}
use Rattle.sval_filter.specs.declared.paths.Rule.{Rule}
use Rattle.sval_filter.specs.declared.paths.Rule.TheVariants as by
use Rattle.sval_filter.specs.Pruned.{pruned}
use Rattle.sval_filter.proofs.NothingDropped.{drop_nothing}
use Rattle.sval_json_read.specs.Documents.{IsDocument}
use Rattle.sval_json_read.specs.Tokens.{Placed}
use Rattle.sval_json_read.specs.Trees.{tree_of}
use Rattle.sval_tool.specs.Conversions.{IsTextLeft, WritesLeftJson, WritesParts}
use Rattle.sval_tool.specs.LeftTokens.{left_calls}
use Rattle.sval_tool.specs.Passing.{TakesFirstCalls, StopsAt, IsSinkStop, sink_error_of}
use Rattle.sval_tool.specs.declared.convert.Target.TheVariants as target
use Rattle.sval_tool.specs.declared.left.Halt.{Halt}
use Rattle.sval_tool.specs.declared.left.Halt.TheVariants as halt
use Rattle.sval_tool.proofs.LeftJson.{HasJson, left_has_json}
use Rattle.sval_tool.proofs.LeftTokens.{left_spells}

module _ (rule : Rule) (paths : List Path) (input : List ℕ) (tokens : List Placed) (r : IsDocument input tokens) where
  -- what is left of the document's tree
  abbrev left : Tree
  left = pruned rule paths (tree_of r.value)

  has_json : HasJson left
  has_json = left_has_json rule paths r.denotes

  left_due : (found : Json) → json_of left ≡ Ok found → IsTextLeft rule paths target.Json input (compact found)
  left_due found shape = record { value = r.value; denotes = r.denotes; is = record { json = found; shape = shape; is_text = refl } }

  -- the calls of the tokens that stay
  abbrev due : List Call
  due = left_calls rule paths tokens

  due_spells : Spells due left
  due_spells = left_spells rule paths input tokens r

  due_written : (spelled : List Call) (found : Json) → Spells spelled left → json_of left ≡ Ok found → (written_in Inside spelled).written ≡ compact found
  due_written spelled found spells shape = (subst (λ found. IsWrittenAs found (written_in Inside spelled)) shape (spelling_written Inside spelled left spells)).0

  module _ (old new : Told) where
    pub writes_left : (taken : List Call) → Spells taken left → StreamsJson Inside (makes taken) (Ok tt) old new → WritesLeftJson rule paths input (Ok tt) old new
    writes_left taken spells s =
        let t = s.tree left spells in record { text = compact t.json; due = left_due t.json t.shape; writes = record { appends = t.appends; steady = s.steady } }

    pub fails_left : (spelled : List Call) → Spells spelled left → StreamsJson Inside (makes spelled) (Err kind.IO) old new → WritesLeftJson rule paths input (Err Failed) old new
    fails_left spelled spells s =
        let e = due_written spelled has_json.0 spells has_json.1 in
        record {
          text = compact has_json.0;
          due = left_due has_json.0 has_json.1;
          writes = inl (record {
            front = subst (λ bytes. AppendsFront old bytes new) e s.prefix;
            part = subst (λ bytes. AppendsPart old bytes new) e (s.io_short refl);
            cause = s.io refl;
            full = λ _. subst (λ bytes. LacksRoom old bytes) e (s.io_room refl);
            counts = s.counts;
          });
        }

    pub lacks_left : (spelled : List Call) → Spells spelled left → StreamsJson Inside (makes spelled) (Err kind.NoMemory) old new → WritesLeftJson rule paths input (Err NoMemory) old new
    lacks_left spelled spells s =
        let e = due_written spelled has_json.0 spells has_json.1 in
        record {
          text = compact has_json.0;
          due = left_due has_json.0 has_json.1;
          writes = inl (record {
            front = subst (λ bytes. AppendsFront old bytes new) e s.prefix;
            part = subst (λ bytes. AppendsPart old bytes new) e (s.no_memory_short refl);
            cause = s.no_memory refl;
            full = λ is. absurd (cc is);
            counts = s.counts;
          });
        }

    -- it is refused for no other cause
    pub no_refusal : (spelled : List Call) (why : Refusal) → Spells spelled left → StreamsJson Inside (makes spelled) (Err (refusal_kind why)) old new → ⊥
    no_refusal spelled why spells s =
        let never : Ok has_json.0 ≡ Err why = sym has_json.1 ∙ s.tree_refused why refl left spells in cc never

    pub no_generic : (spelled : List Call) → StreamsJson Inside (makes spelled) (Err kind.Generic) old new → ⊥
    no_generic spelled s = let never : false ≡ true = (s.generic refl).refuses in cc never

    -- memory was wanting between two calls
    pub pauses_left : (first rest : List Call) → due ≡ first ++ rest → StreamsJson Inside (makes first) (Ok tt) old new → WritesLeftJson rule paths input (Err NoMemory) old new
    pauses_left first rest same s =
        let on = (written_as_they_come Inside first rest).begins in
        let bytes = (written_in Inside first).written in
        let whole : compact has_json.0 ≡ bytes ++ ([] ++ on.0) =
        sym (due_written due has_json.0 due_spells has_json.1) ∙ ap (λ x. (written_in Inside x).written) same ∙ on.1 in
        record {
          text = compact has_json.0;
          due = left_due has_json.0 has_json.1;
          writes = inr (record { want = refl; front = front_after bytes [] on.0 s.written.appends whole (all_is_front [] (appends_nothing new)); steady = s.steady });
        }

    -- the writer was stopped
    pub by_kind : (spelled : List Call) (found : ErrorKind) → Spells spelled left → StreamsJson Inside (makes spelled) (Err found) old new → WritesLeftJson rule paths input (Err (sink_error_of halt.Refused found)) old new
    by_kind spelled kind.IO p s = fails_left spelled p s
    by_kind spelled kind.NoMemory p s = lacks_left spelled p s
    by_kind spelled kind.InvalidKey p s = absurd (no_refusal spelled InvalidKey p s)
    by_kind spelled kind.InvalidNumber p s = absurd (no_refusal spelled InvalidNumber p s)
    by_kind spelled kind.Generic p s = absurd (no_generic spelled s)

    pub known_kind : (spelled : List Call) (found : ErrorKind) → Spells spelled left → StreamsJson Inside (makes spelled) (Err found) old new → IsSinkStop halt.Refused found
    known_kind spelled kind.IO p s = tt
    known_kind spelled kind.NoMemory p s = tt
    known_kind spelled kind.InvalidKey p s = no_refusal spelled InvalidKey p s
    known_kind spelled kind.InvalidNumber p s = no_refusal spelled InvalidNumber p s
    known_kind spelled kind.Generic p s = no_generic spelled s

  -- ---- a fresh writer

  module _ {K : Type 0} (told : K → Told) (sink : MutBor K) (begun now : JsonWriter K) (is : begun ≡ fresh_writer sink Inside) where
    -- the writer still has its sink
    abbrev Keeps : Type 0
    Keeps = (sink_of now).ghost_name ≡ sink.ghost_name

    pub all_written : Streams writer_law (writer_standing told begun) (makes due) (writer_standing told now) → WritesLeftJson rule paths input (Ok tt) (told sink.now) (told (sink_of now).now) × Keeps
    all_written s =
        let after = ran_is_written told sink Inside (makes due) now begun is s.willing s.ran in
        (writes_left (told sink.now) (told (sink_of now).now) due due_spells after.0, after.1)

    paused_written : TakesFirstCalls writer_law (writer_standing told begun) due (writer_standing told now) → WritesLeftJson rule paths input (Err NoMemory) (told sink.now) (told (sink_of now).now) × Keeps
    paused_written t =
        let after = ran_is_written told sink Inside (makes t.taken) now begun is t.streams.willing t.streams.ran in
        (pauses_left (told sink.now) (told (sink_of now).now) t.taken t.rest t.same after.0, after.1)

    stopped_written : Stops writer_law (writer_standing told begun) (makes due) (writer_standing told now) → StreamsJson Inside (makes due) (Err (error_kind (stop_of now))) (told sink.now) (told (sink_of now).now) × Keeps
    stopped_written s = stopped_is_begun told sink Inside (makes due) now begun is s

    -- the streaming stopped
    pub part_written : (why : Halt) → StopsAt writer_law why (writer_standing told begun) due (writer_standing told now)
        → WritesLeftJson rule paths input (Err (sink_error_of why (error_kind (stop_of now)))) (told sink.now) (told (sink_of now).now) × Keeps
    part_written halt.NoMemory h = paused_written h
    part_written halt.Refused h =
        let s = stopped_written h in (by_kind (told sink.now) (told (sink_of now).now) due (error_kind (stop_of now)) due_spells s.0, s.1)

    pub known_stop : (why : Halt) → StopsAt writer_law why (writer_standing told begun) due (writer_standing told now) → IsSinkStop why (error_kind (stop_of now))
    known_stop halt.NoMemory h = tt
    known_stop halt.Refused h = known_kind (told sink.now) (told (sink_of now).now) due (error_kind (stop_of now)) due_spells (stopped_written h).0

-- where nothing is dropped, the JSON of a document's own tree is what is left
pub whole_written : (input : List ℕ) (tokens : List Placed) (r : IsDocument input tokens) (old new : Told) (result : Result (Unit {0}) SinkError)
    → ((json : Json) → json_of (tree_of r.value) ≡ Ok json → WritesAll result old (compact json) new) → WritesLeftJson by.Drop [] input result old new
whole_written input tokens r old new result w =
    let found = has_json by.Drop [] input tokens r in
    let own : json_of (tree_of r.value) ≡ Ok found.0 = ap json_of (sym (drop_nothing (tree_of r.value))) ∙ found.1 in
    record { text = compact found.0; due = left_due by.Drop [] input tokens r found.0 found.1; writes = parts result (w found.0 own) }
  where
    parts : (result : Result (Unit {0}) SinkError) → WritesAll result old (compact (has_json by.Drop [] input tokens r).0) new → WritesParts result old (compact (has_json by.Drop [] input tokens r).0) new
    parts (Ok done) w = w
    parts (Err why) w = inl w
