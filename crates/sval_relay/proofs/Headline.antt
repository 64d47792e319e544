-- The headline, by what ends of a run say.
use Rattle.std.specs.Prelude.{◌≡◌, ℕ, List, Some, None}
use Rattle.std.proofs.Common.{subst, inl, inr}
use Rattle.sval_io.specs.Sources.{Supply}
use Rattle.sval_io.specs.Sinks.{Told, Appends}
use Rattle.sval_json.specs.declared.style.Variants.TheVariants.{Inside}
use Rattle.sval_json.specs.Json.{Json, compact}
use Rattle.sval_program.specs.Inputs.{OnBoth}
use Rattle.sval_program.specs.Runs.{Ends, OnNamed, TakesDue}
use Rattle.sval_relay.specs.declared.way.Form.{Form}
use Rattle.sval_relay.specs.declared.way.Form.TheVariants.{Serve}
use Rattle.sval_relay.specs.declared.way.Way.TheVariants.{Direct, Buffered}
use Rattle.sval_relay.specs.Headline.{WritesJsonOfTree, IsDoneOnlyWithJson}
use Rattle.sval_relay.specs.Laws.{ScriptSpellsJson}
use Rattle.sval_relay.specs.Serves.{RelayDue, a_text, relay_terms}
use Rattle.sval_relay.specs.Verdict.{one_in}
use Rattle.sval_relay.proofs.TreeVerdicts.{only_json_gives_text}

-- the text that is due is that of the JSON of the script's tree
direct_due : (script bytes : List ℕ) → RelayDue (Serve (one_in Direct)) script None bytes → (json : Json) × ScriptSpellsJson script Inside json × (bytes ≡ compact json)
direct_due script bytes (a_text is means) = only_json_gives_text script bytes Inside is

buffered_due : (script bytes : List ℕ) → RelayDue (Serve (one_in Buffered)) script None bytes → (json : Json) × ScriptSpellsJson script Inside json × (bytes ≡ compact json)
buffered_due script bytes (a_text is means) = only_json_gives_text script bytes Inside is

module _ {I K : Type 0} {source : I → Supply} {sink : K → Told} {words : List (List ℕ)} {before after : I} {old new : K} {status : ℕ} (ends : Ends relay_terms source sink words before after old new status) where
  abbrev Takes : List ℕ → Form → Type 0
  Takes = TakesDue relay_terms None (sink old) (sink new)

  writes_json : (script bytes : List ℕ) → Appends (sink old) bytes (sink new) → status ≡ 0 → (json : Json) × ScriptSpellsJson script Inside json × (bytes ≡ compact json) → WritesJsonOfTree script (sink old) (sink new)
  writes_json script bytes appends is due = record {
    json = due.0;
    spells = due.1;
    writes = subst (λ text. Appends (sink old) text (sink new)) due.2 appends;
    flushed = ends.flushed is;
  }

  pub headline : IsDoneOnlyWithJson words (source before) (sink old) (sink new) status
  headline is (inl asks) script left =
      let named : OnBoth (Some (Serve (one_in Direct))) (source before).left Takes = subst (λ given. OnNamed relay_terms given (source before) Takes) asks (ends.done is) in
      let takes : Takes script (Serve (one_in Direct)) = subst (λ input. OnBoth (Some (Serve (one_in Direct))) input Takes) left named in
      writes_json script takes.bytes takes.appends is (direct_due script takes.bytes takes.due)
  headline is (inr asks) script left =
      let named : OnBoth (Some (Serve (one_in Buffered))) (source before).left Takes = subst (λ given. OnNamed relay_terms given (source before) Takes) asks (ends.done is) in
      let takes : Takes script (Serve (one_in Buffered)) = subst (λ input. OnBoth (Some (Serve (one_in Buffered))) input Takes) left named in
      writes_json script takes.bytes takes.appends is (buffered_due script takes.bytes takes.due)
