-- The calls of a value taken by itself, in the order in which the code makes them.
use Rattle.std.specs.Prelude.{◌≡◌, ℕ, ◌-◌, List, [], ◌∷◌, ◌++◌, map, length, take, drop, get_or, None, Result, Ok, Err, refl, ⊤}
use Rattle.std.proofs.Common.{sym, ap, subst, ◌∙◌, arith, append-nil}
use Rattle.std.proofs.lemmas.Grind.{flat_map-append}
use Rattle.sval_label.specs.declared.error.Error.{Error}
use Rattle.sval_label.specs.Calls.{Call, Head}
use Rattle.sval_core.specs.Law.{Standing, Law, emits, then_emits, Takes, Refuses, Answers, Streams, Stops, Emits}
use Rattle.sval_core.specs.Values.{makes}
use Rattle.sval_core.proofs.Emissions.{streams_one, stops_one, streams_then, stops_first, stops_later}
use Rattle.sval_json.specs.Grammar.{JsonValue, IsValue, null, truth, falsehood, number, string, empty_array, array, empty_object, object}
use Rattle.sval_json_read.specs.declared.offset.Offset.{Offset}
use Rattle.sval_json_read.specs.declared.node.Node.{Node}
use Rattle.sval_json_read.specs.declared.node.Node.TheVariants as node
use Rattle.sval_json_read.specs.declared.node.Place as made_place
use Rattle.sval_json_read.specs.declared.node.Place.TheVariants as place
use Rattle.sval_json_read.specs.Tokens as token
use Rattle.sval_json_read.specs.Tokens.{Place, Alone, Item, Value, Token, Placed, placed_at, tokens_of}
use Rattle.sval_json_read.specs.Calls.{number_calls, string_value_calls, calls_in, placed_token_calls, document_calls}
use Rattle.sval_json_read.specs.NodeCalls.{token_own_calls}
use Rattle.sval_json_read.specs.Nodes.{token_in, tokens_in, streamed}
use Rattle.sval_json_read.specs.Parts.{by_itself}
use Rattle.sval_json_read.specs.SeenNodes.{seen_node}
use Rattle.sval_json_read.specs.ValueNodes.{IsOfValue, alone, item, of_pair, AreOfValue}
use Rattle.sval_json_read.proofs.FirstNodes.{some_nodes}
use Rattle.sval_json_read.proofs.InnerNodes.{StandsBetween, array_tokens, object_tokens}
use Rattle.sval_json_read.proofs.KeptNodes.{streamed-calls}
use Rattle.sval_json_read.proofs.Parts.{ends-set}

-- ---- a begin, what is within, and an end

container-calls : (place : Place) (begin end : Token) (mid : List Placed) (first last : Call) → calls_in Alone begin ≡ first ∷ [] → calls_in Alone end ≡ last ∷ []
    → document_calls (by_itself (placed_at place begin ∷ (mid ++ (placed_at place end ∷ [])))) ≡ first ∷ (document_calls mid ++ (last ∷ []))
container-calls place begin end mid first last f g =
    ap document_calls (ends-set (placed_at place begin) (placed_at place end) mid)
    ∙ ap (λ calls. calls ++ document_calls (mid ++ (placed_at Alone end ∷ []))) f
    ∙ ap (λ calls. first ∷ calls) (flat_map-append placed_token_calls mid (placed_at Alone end ∷ []) ∙ ap (λ calls. document_calls mid ++ calls) (append-nil (calls_in Alone end) ∙ g))

module _ {V : Type 0} {law : Law V} {old : Standing V} (begin end : Call) (inner : List Call) {calls : List Call} (whole : calls ≡ begin ∷ (inner ++ (end ∷ []))) where
  pub stops-at-begin : {new : Standing V} → Refuses law old begin new → Stops law old (makes calls) new
  unfolding then_emits emits
  stops-at-begin {new = new} r =
      let stops : Stops law old (makes (begin ∷ (inner ++ (end ∷ [])))) new = stops_first (makes (inner ++ (end ∷ []))) (stops_one r) in
      subst (λ row. Stops law old (makes row) new) (sym whole) stops

  pub stops-within : {mid new : Standing V} → Takes law old begin mid → Stops law mid (makes inner) new → Stops law old (makes calls) new
  unfolding then_emits emits
  stops-within {new = new} t s =
      let stops : Stops law old (makes (begin ∷ (inner ++ (end ∷ [])))) new = stops_later (streams_one t) (stops_first (emits end) s) in
      subst (λ row. Stops law old (makes row) new) (sym whole) stops

  pub emits-whole : {mid behind : Standing V} (r : Result (Unit {0}) Error) (new : Standing V) → Takes law old begin mid → Streams law mid (makes inner) behind → Answers law r behind end new
      → Emits law r old (makes calls) new
  unfolding then_emits emits
  emits-whole (Ok done) new t s e =
      let streams : Streams law old (makes (begin ∷ (inner ++ (end ∷ [])))) new = streams_then (streams_one t) (streams_then s (streams_one e)) in
      subst (λ row. Streams law old (makes row) new) (sym whole) streams
  emits-whole (Err refusal) new t s e =
      let stops : Stops law old (makes (begin ∷ (inner ++ (end ∷ [])))) new = stops_later (streams_one t) (stops_later s (stops_one e)) in
      subst (λ row. Stops law old (makes row) new) (sym whole) stops

-- ---- a value of one token

own-calls : (token : Token) → document_calls (placed_at Alone token ∷ []) ≡ token_own_calls token
own-calls token.Null = refl
own-calls (token.Truth b) = refl
own-calls (token.Number text) = append-nil (number_calls text ++ []) ∙ append-nil (number_calls text)
own-calls (token.Text bytes) = append-nil (string_value_calls bytes ++ []) ∙ append-nil (string_value_calls bytes)
own-calls token.BeginArray = refl
own-calls token.EndArray = refl
own-calls token.BeginObject = refl
own-calls token.EndObject = refl

abbrev begins_nothing : Token → Type 0
begins_nothing token.BeginArray = ⊥
begins_nothing token.BeginObject = ⊥
begins_nothing _ = ⊤

abbrev FirstBeginsNothing : List Placed → Type 0
FirstBeginsNothing [] = ⊥
FirstBeginsNothing (placed ∷ tokens) = begins_nothing placed.token

record OneToken (tokens : List Placed) : Type 0 where
  place : Place
  token : Token
  same : tokens ≡ placed_at place token ∷ []

one-token : {bytes rest : List ℕ} {value : JsonValue} (place : Place) (is_value : IsValue bytes value rest) → FirstBeginsNothing (tokens_of place is_value) → OneToken (tokens_of place is_value)
one-token place null h = record { place = place; token = _; same = refl }
one-token place truth h = record { place = place; token = _; same = refl }
one-token place falsehood h = record { place = place; token = _; same = refl }
one-token place (number e n) h = record { place = place; token = _; same = refl }
one-token place (string s) h = record { place = place; token = _; same = refl }
one-token place (empty_array e) h = absurd h
one-token place (array are) h = absurd h
one-token place (empty_object e) h = absurd h
one-token place (object are) h = absurd h

one-token-of : {tokens : List Placed} {value : JsonValue} → IsOfValue tokens value → FirstBeginsNothing tokens → OneToken tokens
one-token-of (alone is_value) h = one-token Alone is_value h
one-token-of (item is_value) h = one-token Item is_value h
one-token-of (of_pair is_value) h = one-token Value is_value h

abbrev first_token : List Placed → Token
first_token [] = token.Null
first_token (placed ∷ tokens) = placed.token

-- ---- by the first node

-- the nodes without the first and the last are those within
module _ {bytes : List ℕ} {nodes : List Node} (a : AreOfValue bytes nodes) (inner : List Node) (same : inner ≡ take (length nodes - 1 - 1) (drop 1 nodes)) where
  between-calls : (begin end : Token) (first last : Call) → StandsBetween bytes nodes inner begin end → calls_in Alone begin ≡ first ∷ [] → calls_in Alone end ≡ last ∷ []
      → document_calls (by_itself (tokens_in bytes (map seen_node nodes))) ≡ first ∷ (streamed bytes (map seen_node inner) ++ (last ∷ []))
  between-calls begin end first last parts f g =
      ap (λ tokens. document_calls (by_itself tokens)) parts.same ∙ container-calls parts.place begin end (tokens_in bytes (map seen_node inner)) first last f g
      ∙ ap (λ calls. first ∷ (calls ++ (last ∷ []))) (sym (streamed-calls bytes (map seen_node inner)))

  pub array-calls : (p : made_place.Place) (held : Offset) → get_or nodes 0 (node.Null place.Alone) ≡ node.BeginArray p held
      → document_calls (by_itself (tokens_in bytes (map seen_node nodes))) ≡ Call.Begin Head.Seq None ∷ (streamed bytes (map seen_node inner) ++ (Call.End Head.Seq ∷ []))
  array-calls p held e =
      let parts = subst (λ row. StandsBetween bytes nodes row token.BeginArray token.EndArray) (sym same) (array_tokens bytes nodes a p held e) in
      between-calls token.BeginArray token.EndArray (Call.Begin Head.Seq None) (Call.End Head.Seq) parts refl refl

  pub object-calls : (p : made_place.Place) (held : Offset) → get_or nodes 0 (node.Null place.Alone) ≡ node.BeginObject p held
      → document_calls (by_itself (tokens_in bytes (map seen_node nodes))) ≡ Call.Begin Head.Map None ∷ (streamed bytes (map seen_node inner) ++ (Call.End Head.Map ∷ []))
  object-calls p held e =
      let parts = subst (λ row. StandsBetween bytes nodes row token.BeginObject token.EndObject) (sym same) (object_tokens bytes nodes a p held e) in
      between-calls token.BeginObject token.EndObject (Call.Begin Head.Map None) (Call.End Head.Map) parts refl refl

not-begin : (bytes : List ℕ) (one : Node) → ((p : made_place.Place) (held : Offset) → one ≡ node.BeginArray p held → ⊥) → ((p : made_place.Place) (held : Offset) → one ≡ node.BeginObject p held → ⊥)
    → begins_nothing (token_in bytes (seen_node one).kept)
not-begin bytes (node.Null p) n o = tt
not-begin bytes (node.Bool p b) n o = tt
not-begin bytes (node.Number p from size) n o = tt
not-begin bytes (node.Text p from size) n o = tt
not-begin bytes (node.BeginArray p held) n o = n p held refl
not-begin bytes (node.EndArray p) n o = tt
not-begin bytes (node.BeginObject p held) n o = o p held refl
not-begin bytes (node.EndObject p) n o = tt

pub single-calls : (bytes : List ℕ) (nodes : List Node) (d : Node) → AreOfValue bytes nodes → ((p : made_place.Place) (held : Offset) → get_or nodes 0 d ≡ node.BeginArray p held → ⊥)
    → ((p : made_place.Place) (held : Offset) → get_or nodes 0 d ≡ node.BeginObject p held → ⊥)
    → document_calls (by_itself (tokens_in bytes (map seen_node nodes))) ≡ token_own_calls (token_in bytes (seen_node (get_or nodes 0 d)).kept)
single-calls bytes [] d a n o = let l = some_nodes bytes [] a in absurd (omega (arith, l))
single-calls bytes (one ∷ nodes) d a n o =
    let whole = one-token-of a.is_of (not-begin bytes one n o) in
    ap (λ tokens. document_calls (by_itself tokens)) whole.same ∙ own-calls whole.token ∙ ap token_own_calls (sym (ap first_token whole.same))
