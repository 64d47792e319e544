-- A text within limits denotes a value that is within them.
use Rattle.std.specs.Prelude.{◌≡◌, ℕ, ◌+◌, ◌-◌, ◌≤◌, Bool, true, false, cond, ◌==◌, List, [], ◌∷◌, ◌++◌, length, take, suc, Option, Some, None, option_map, option_and_then, refl}
use Rattle.std.proofs.Common.{sym, ap, subst, ◌∙◌, arith, append_assoc, append-nil, take_all, inl, inr}
use Rattle.std.proofs.lemmas.Bool.{cases_lt}
use Rattle.sval_io.specs.declared.limits.Limits.{Limits}
use Rattle.sval_json.specs.Digits.{is_number_byte}
use Rattle.sval_json.specs.Grammar as json
use Rattle.sval_json.specs.Grammar.{JsonValue, Values, Members, IsValue, AreJsonValues, last_value, more_values, AreMembers, last_member, more_members, is_space}
use Rattle.sval_json_read.specs.Tokens as token
use Rattle.sval_json_read.specs.Tokens.{Token, Placed, placed_at, tokens_of, item_tokens, pair_tokens}
use Rattle.sval_json_read.specs.Numbers.{first_phase, next_phase, number_may_end}
use Rattle.sval_json_read.specs.Strings.{Plain, next_within, closes_string}
use Rattle.sval_json_read.specs.Documents.{IsDocument}
use Rattle.sval_json_read.specs.Reader.{Opened, Array, Object, Expected, AValue, FirstItem, FirstKey, NextKey, Colon, Next, Letter, InNumber, InString, ReaderState, reader_start, reader_step, after_bytes, place_in, begins, begins_key, comma_or_close, follows, letters_left, string_ends, step_in, at_end_in, tokens_at_end, tokens_read}
use Rattle.sval_json_read.specs.Outlines.{Outlined, BetweenTokens, outlined, outline_byte, outline_bytes, open_levels, begun_nodes}
use Rattle.sval_json_read.specs.SeenLimits.{begins_node}
use Rattle.sval_json_read.specs.SeenValues.{value_in}
use Rattle.sval_json_read.specs.JsonLimits.{IsWithin}
use Rattle.sval_json_read.specs.ValueSizes.{depth_of, depth_of_values, depth_of_members, nodes_of, nodes_of_values, nodes_of_members, FitsIn}
use Rattle.sval_json_read.proofs.ReadTexts.{denoted-read}
use Rattle.sval_json_read.proofs.SeenValues.{value-seen}
use Rattle.sval_json_read.proofs.KeptDocuments.{root-is}
use Rattle.sval_json_read.proofs.Outlining.{token_nodes, in_progress, Agrees}
use Rattle.sval_json_read.proofs.LimitedFronts.{agrees_then, one_agrees, start-agrees, front-agrees}

-- ---- how many nodes tokens have

nodes-append : (xs ys : List Placed) → token_nodes (xs ++ ys) ≡ token_nodes xs + token_nodes ys
nodes-append [] ys = omega arith
nodes-append (first ∷ xs) ys = let h = nodes-append xs ys in omega (arith, h)

mutual
  value_nodes : {bytes rest : List ℕ} {value : JsonValue} (place : token.Place) (v : IsValue bytes value rest) → token_nodes (tokens_of place v) ≡ nodes_of value
  value_nodes place json.null = refl
  value_nodes place json.truth = refl
  value_nodes place json.falsehood = refl
  value_nodes place (json.number e n) = refl
  value_nodes place (json.string s) = refl
  value_nodes place (json.empty_array e) = refl
  value_nodes place (json.array values) =
      let h = items_nodes values in let a = nodes-append (item_tokens values) (placed_at place token.EndArray ∷ []) in omega (arith, h, a)
  value_nodes place (json.empty_object e) = refl
  value_nodes place (json.object members) =
      let h = pairs_nodes members in let a = nodes-append (pair_tokens members) (placed_at place token.EndObject ∷ []) in omega (arith, h, a)

  items_nodes : {bytes rest : List ℕ} {values : Values} (v : AreJsonValues bytes values rest) → token_nodes (item_tokens v) ≡ nodes_of_values values
  items_nodes (last_value value e) = let h = value_nodes token.Item value in omega (arith, h)
  items_nodes (more_values value e values) =
      let h = value_nodes token.Item value in let k = items_nodes values in let a = nodes-append (tokens_of token.Item value) (item_tokens values) in omega (arith, h, k, a)

  pairs_nodes : {bytes rest : List ℕ} {members : Members} (m : AreMembers bytes members rest) → token_nodes (pair_tokens m) ≡ nodes_of_members members
  pairs_nodes (last_member key e value f) = let h = value_nodes token.Value value in omega (arith, h)
  pairs_nodes (more_members key e value f members) =
      let h = value_nodes token.Value value in let k = pairs_nodes members in let a = nodes-append (tokens_of token.Value value) (pair_tokens members) in omega (arith, h, k, a)

-- ---- how deep tokens go

abbrev level_after : ℕ → Token → ℕ
level_after level token.BeginArray = level + 1
level_after level token.BeginObject = level + 1
level_after level token.EndArray = level - 1
level_after level token.EndObject = level - 1
level_after level _ = level

abbrev levels_after : ℕ → List Placed → ℕ
levels_after level [] = level
levels_after level (first ∷ tokens) = levels_after (level_after level first.token) tokens

-- no level above this one is open before, between or behind the tokens
abbrev StaysUnder : ℕ → ℕ → List Placed → Type 0
StaysUnder top level [] = level ≤ top
StaysUnder top level (first ∷ tokens) = (level ≤ top) × StaysUnder top (level_after level first.token) tokens

levels-append : (level : ℕ) (xs ys : List Placed) → levels_after level (xs ++ ys) ≡ levels_after (levels_after level xs) ys
levels-append level [] ys = refl
levels-append level (first ∷ xs) ys = levels-append (level_after level first.token) xs ys

under-append : (top level : ℕ) (xs ys : List Placed) → StaysUnder top level xs → StaysUnder top (levels_after level xs) ys → StaysUnder top level (xs ++ ys)
under-append top level [] ys h k = k
under-append top level (first ∷ xs) ys h k = (h.0, under-append top (level_after level first.token) xs ys h.1 k)

under_front : (top level : ℕ) (xs ys : List Placed) → StaysUnder top level (xs ++ ys) → StaysUnder top (levels_after level xs) ys
under_front top level [] ys h = h
under_front top level (first ∷ xs) ys h = under_front top (level_after level first.token) xs ys h.1

under_starts : (top level : ℕ) (xs : List Placed) → StaysUnder top level xs → level ≤ top
under_starts top level [] h = h
under_starts top level (first ∷ xs) h = h.0

under_first : (top level : ℕ) (xs ys : List Placed) → StaysUnder top level (xs ++ ys) → StaysUnder top level xs
under_first top level [] ys h = under_starts top level ys h
under_first top level (first ∷ xs) ys h = (h.0, under_first top (level_after level first.token) xs ys h.1)

mutual
  value_levels : {bytes rest : List ℕ} {value : JsonValue} (place : token.Place) (v : IsValue bytes value rest) (level : ℕ) → levels_after level (tokens_of place v) ≡ level
  value_levels place json.null level = refl
  value_levels place json.truth level = refl
  value_levels place json.falsehood level = refl
  value_levels place (json.number e n) level = refl
  value_levels place (json.string s) level = refl
  value_levels place (json.empty_array e) level = omega arith
  value_levels place (json.array values) level =
      let h = items_levels values (level + 1) in let a = levels-append (level + 1) (item_tokens values) (placed_at place token.EndArray ∷ []) in omega (arith, h, a)
  value_levels place (json.empty_object e) level = omega arith
  value_levels place (json.object members) level =
      let h = pairs_levels members (level + 1) in let a = levels-append (level + 1) (pair_tokens members) (placed_at place token.EndObject ∷ []) in omega (arith, h, a)

  items_levels : {bytes rest : List ℕ} {values : Values} (v : AreJsonValues bytes values rest) (level : ℕ) → levels_after level (item_tokens v) ≡ level
  items_levels (last_value value e) level = value_levels token.Item value level
  items_levels (more_values value e values) level =
      levels-append level (tokens_of token.Item value) (item_tokens values) ∙ ap (λ l. levels_after l (item_tokens values)) (value_levels token.Item value level) ∙ items_levels values level

  pairs_levels : {bytes rest : List ℕ} {members : Members} (m : AreMembers bytes members rest) (level : ℕ) → levels_after level (pair_tokens m) ≡ level
  pairs_levels (last_member key e value f) level = value_levels token.Value value level
  pairs_levels (more_members key e value f members) level =
      levels-append level (tokens_of token.Value value) (pair_tokens members) ∙ ap (λ l. levels_after l (pair_tokens members)) (value_levels token.Value value level) ∙ pairs_levels members level

mutual
  value_depth : {bytes rest : List ℕ} {value : JsonValue} (top : ℕ) (place : token.Place) (v : IsValue bytes value rest) (level : ℕ) → StaysUnder top level (tokens_of place v) → level + depth_of value ≤ top
  value_depth top place json.null level h = omega (arith, h.0)
  value_depth top place json.truth level h = omega (arith, h.0)
  value_depth top place json.falsehood level h = omega (arith, h.0)
  value_depth top place (json.number e n) level h = omega (arith, h.0)
  value_depth top place (json.string s) level h = omega (arith, h.0)
  value_depth top place (json.empty_array e) level h = omega (arith, h.1.0)
  value_depth top place (json.array values) level h =
      let i = items_depth top values (level + 1) (under_first top (level + 1) (item_tokens values) (placed_at place token.EndArray ∷ []) h.1) in omega (arith, i)
  value_depth top place (json.empty_object e) level h = omega (arith, h.1.0)
  value_depth top place (json.object members) level h =
      let i = pairs_depth top members (level + 1) (under_first top (level + 1) (pair_tokens members) (placed_at place token.EndObject ∷ []) h.1) in omega (arith, i)

  items_depth : {bytes rest : List ℕ} {values : Values} (top : ℕ) (v : AreJsonValues bytes values rest) (level : ℕ) → StaysUnder top level (item_tokens v) → level + depth_of_values values ≤ top
  items_depth top (last_value value e) level h = let i = value_depth top token.Item value level h in omega (arith, i)
  items_depth top (more_values value e values) level h =
      let i = value_depth top token.Item value level (under_first top level (tokens_of token.Item value) (item_tokens values) h) in
      let behind = subst (λ l. StaysUnder top l (item_tokens values)) (value_levels token.Item value level) (under_front top level (tokens_of token.Item value) (item_tokens values) h) in
      let j = items_depth top values level behind in
      omega (arith, i, j)

  pairs_depth : {bytes rest : List ℕ} {members : Members} (top : ℕ) (m : AreMembers bytes members rest) (level : ℕ) → StaysUnder top level (pair_tokens m) → level + depth_of_members members ≤ top
  pairs_depth top (last_member key e value f) level h = let i = value_depth top token.Value value level h.1 in omega (arith, i)
  pairs_depth top (more_members key e value f members) level h =
      let i = value_depth top token.Value value level (under_first top level (tokens_of token.Value value) (pair_tokens members) h.1) in
      let behind = subst (λ l. StaysUnder top l (pair_tokens members)) (value_levels token.Value value level) (under_front top level (tokens_of token.Value value) (pair_tokens members) h.1) in
      let j = pairs_depth top members level behind in
      omega (arith, i, j)

-- ---- what a step adds

-- a step adds these tokens, which open no more levels than are open before it or behind it
pub data Adds (levels : ℕ) (tokens : List Placed) : Option ReaderState → Type 0 where
  adds_none : Adds levels tokens None
  adds : {state : ReaderState} (added : List Placed) → state.tokens ≡ tokens ++ added → levels_after levels added ≡ length state.opened
      → ((top : ℕ) → levels ≤ top → length state.opened ≤ top → StaysUnder top levels added) → Adds levels tokens (Some state)

module _ (tokens : List Placed) where
  nothing : (expected : Expected) (opened : List Opened) → Adds (length opened) tokens (Some (record { expected = expected; opened = opened; tokens = tokens }))
  nothing expected opened = adds [] (sym (append-nil tokens)) refl (λ top a b. a)

  or_adds : (levels : ℕ) (test : Bool) (some others : Option ReaderState) → Adds levels tokens some → Adds levels tokens others → Adds levels tokens (cond test some others)
  or_adds levels true some others h k = h
  or_adds levels false some others h k = k

  -- a token that opens and closes nothing
  one : (expected : Expected) (opened : List Opened) (place : token.Place) (t : Token) → ((level : ℕ) → level_after level t ≡ level)
      → Adds (length opened) tokens (Some (record { expected = expected; opened = opened; tokens = tokens ++ (placed_at place t ∷ []) }))
  one expected opened place t h = adds (placed_at place t ∷ []) refl (h (length opened)) (λ top a b. (a, subst (λ l. l ≤ top) (sym (h (length opened))) a))

  begin : (expected : Expected) (opened : List Opened) (container : Opened) (place : token.Place) (t : Token) → ((level : ℕ) → level_after level t ≡ level + 1)
      → Adds (length opened) tokens (Some (record { expected = expected; opened = container ∷ opened; tokens = tokens ++ (placed_at place t ∷ []) }))
  begin expected opened container place t h =
      let e = h (length opened) in
      adds (placed_at place t ∷ []) refl (omega (arith, e)) (λ top a b. (a, omega (arith, e, b)))

  end : (around : List Opened) (container : Opened) (place : token.Place) (t : Token) → ((level : ℕ) → level_after level t ≡ level - 1)
      → Adds (length (container ∷ around)) tokens (Some (record { expected = Next; opened = around; tokens = tokens ++ (placed_at place t ∷ []) }))
  end around container place t h =
      let e = h (length (container ∷ around)) in
      adds (placed_at place t ∷ []) refl (omega (arith, e)) (λ top a b. (a, omega (arith, e, b)))

  closes : (expected : Expected) (all opened : List Opened) (byte : ℕ) → all ≡ opened → Adds (length opened) tokens (comma_or_close (record { expected = expected; opened = all; tokens = tokens }) opened byte)
  closes expected all [] byte s = adds_none
  closes expected all (Array ∷ around) byte s =
      subst (λ a. Adds (length (Array ∷ around)) tokens (comma_or_close (record { expected = expected; opened = a; tokens = tokens }) (Array ∷ around) byte)) (sym s)
      (or_adds _ (byte == 44) _ _ (nothing AValue (Array ∷ around)) (or_adds _ (byte == 93) _ _ (end around Array (place_in around) token.EndArray (λ l. refl)) adds_none))
  closes expected all (Object ∷ around) byte s =
      subst (λ a. Adds (length (Object ∷ around)) tokens (comma_or_close (record { expected = expected; opened = a; tokens = tokens }) (Object ∷ around) byte)) (sym s)
      (or_adds _ (byte == 44) _ _ (nothing NextKey (Object ∷ around)) (or_adds _ (byte == 125) _ _ (end around Object (place_in around) token.EndObject (λ l. refl)) adds_none))

  follows_adds : (expected : Expected) (opened : List Opened) (byte : ℕ) → Adds (length opened) tokens (follows (record { expected = expected; opened = opened; tokens = tokens }) byte)
  follows_adds expected opened byte = or_adds _ (is_space byte) _ _ (nothing Next opened) (closes expected opened opened byte refl)

  mapped : {T : Type 0} (opened : List Opened) (f : T → Expected) (o : Option T) → Adds (length opened) tokens (option_map (λ x. record { expected = f x; opened = opened; tokens = tokens }) o)
  mapped opened f None = adds_none
  mapped opened f (Some x) = nothing (f x) opened

  begins_adds : (expected : Expected) (opened : List Opened) (byte : ℕ) → Adds (length opened) tokens (begins (record { expected = expected; opened = opened; tokens = tokens }) byte)
  begins_adds expected opened byte =
      or_adds _ (byte == 34) _ _ (nothing (InString false Plain []) opened)
      (or_adds _ (byte == 91) _ _ (begin FirstItem opened Array (place_in opened) token.BeginArray (λ l. refl))
      (or_adds _ (byte == 123) _ _ (begin FirstKey opened Object (place_in opened) token.BeginObject (λ l. refl))
      (or_adds _ (byte == 110) _ _ (one (Letter 117 (108 ∷ 108 ∷ [])) opened (place_in opened) token.Null (λ l. refl))
      (or_adds _ (byte == 116) _ _ (one (Letter 114 (117 ∷ 101 ∷ [])) opened (place_in opened) (token.Truth true) (λ l. refl))
      (or_adds _ (byte == 102) _ _ (one (Letter 97 (108 ∷ 115 ∷ 101 ∷ [])) opened (place_in opened) (token.Truth false) (λ l. refl))
      (mapped opened (λ phase. InNumber phase (byte ∷ [])) (first_phase byte)))))))

  key_adds : (expected : Expected) (opened : List Opened) (byte : ℕ) → Adds (length opened) tokens (begins_key (record { expected = expected; opened = opened; tokens = tokens }) byte)
  key_adds expected opened byte = or_adds _ (byte == 34) _ _ (nothing (InString true Plain []) opened) adds_none

  text_adds : (opened : List Opened) (is_key : Bool) (expected : Expected) (text : List ℕ) → Adds (length opened) tokens (Some (string_ends (record { expected = expected; opened = opened; tokens = tokens }) is_key text))
  text_adds opened true expected text = one Colon opened token.Key (token.Text text) (λ l. refl)
  text_adds opened false expected text = one Next opened (place_in opened) (token.Text text) (λ l. refl)

-- a number, and what the byte behind it adds
behind_number : (opened : List Opened) (tokens : List Placed) (place : token.Place) (text : List ℕ) (given : Option ReaderState) → Adds (length opened) (tokens ++ (placed_at place (token.Number text) ∷ [])) given → Adds (length opened) tokens given
behind_number opened tokens place text None h = adds_none
behind_number opened tokens place text (Some state) (adds added same levels under) =
    adds (placed_at place (token.Number text) ∷ added) (same ∙ append_assoc tokens (placed_at place (token.Number text) ∷ []) added) levels (λ top a b. (a, under top a b))

step_adds : (expected : Expected) (opened : List Opened) (tokens : List Placed) (byte : ℕ) → Adds (length opened) tokens (step_in expected (record { expected = expected; opened = opened; tokens = tokens }) byte)
step_adds AValue opened tokens byte = or_adds tokens _ (is_space byte) _ _ (nothing tokens AValue opened) (begins_adds tokens AValue opened byte)
step_adds FirstItem opened tokens byte = or_adds tokens _ (is_space byte) _ _ (nothing tokens FirstItem opened) (or_adds tokens _ (byte == 93) _ _ (follows_adds tokens FirstItem opened byte) (begins_adds tokens FirstItem opened byte))
step_adds FirstKey opened tokens byte = or_adds tokens _ (is_space byte) _ _ (nothing tokens FirstKey opened) (or_adds tokens _ (byte == 125) _ _ (follows_adds tokens FirstKey opened byte) (key_adds tokens FirstKey opened byte))
step_adds NextKey opened tokens byte = or_adds tokens _ (is_space byte) _ _ (nothing tokens NextKey opened) (key_adds tokens NextKey opened byte)
step_adds Colon opened tokens byte = or_adds tokens _ (is_space byte) _ _ (nothing tokens Colon opened) (or_adds tokens _ (byte == 58) _ _ (nothing tokens AValue opened) adds_none)
step_adds Next opened tokens byte = follows_adds tokens Next opened byte
step_adds (Letter first letters) opened tokens byte = or_adds tokens _ (byte == first) _ _ (nothing tokens (letters_left letters) opened) adds_none
step_adds (InNumber phase text) opened tokens byte =
    or_adds tokens _ (is_number_byte byte) _ _ (mapped tokens opened (λ next. InNumber next (text ++ (byte ∷ []))) (next_phase phase byte))
    (or_adds tokens _ (number_may_end phase) _ _
    (behind_number opened tokens (place_in opened) text _ (follows_adds (tokens ++ (placed_at (place_in opened) (token.Number text) ∷ [])) Next opened byte)) adds_none)
step_adds (InString is_key within text) opened tokens byte =
    or_adds tokens _ (closes_string within byte) _ _ (text_adds tokens opened is_key (InString is_key within text) text)
    (mapped tokens opened (λ next. InString is_key next (text ++ (byte ∷ []))) (next_within within byte))

-- ---- along the bytes

record Settled (top : ℕ) (state : ReaderState) : Type 0 where
  levels : levels_after 0 state.tokens ≡ length state.opened
  under : StaysUnder top 0 state.tokens

under_ends : (top level : ℕ) (xs : List Placed) → StaysUnder top level xs → levels_after level xs ≤ top
under_ends top level [] h = h
under_ends top level (first ∷ xs) h = under_ends top (level_after level first.token) xs h.1

settled_then : (top : ℕ) (state next : ReaderState) (given : Option ReaderState) → Settled top state → Adds (length state.opened) state.tokens given → given ≡ Some next → length next.opened ≤ top → Settled top next
settled_then top state next None s a e l = absurd (cc e)
settled_then top state next (Some given) s (adds added same levels under) e l =
    let is : given ≡ next = cc e in
    let tokens : next.tokens ≡ state.tokens ++ added = ap (λ x. x.tokens) (sym is) ∙ same in
    let opened : length given.opened ≡ length next.opened = ap (λ x. length x.opened) is in
    let ends = under_ends top 0 state.tokens s.under in
    let start : length state.opened ≤ top = let k = s.levels in omega (arith, ends, k) in
    record {
      levels = ap (levels_after 0) tokens ∙ levels-append 0 state.tokens added ∙ ap (λ l. levels_after l added) s.levels ∙ levels ∙ opened;
      under =
          subst (StaysUnder top 0) (sym tokens)
          (under-append top 0 state.tokens added s.under (subst (λ l. StaysUnder top l added) (sym s.levels) (under top start (omega (arith, opened, l)))));
    }

settles_on : (top : ℕ) (bytes : List ℕ) (o : Outlined) (state last : ReaderState) → Agrees o state → Settled top state → ((m : ℕ) → (outline_bytes o (take m bytes)).levels ≤ top) → after_bytes state bytes ≡ Some last → Settled top last
settles_on top [] o state last a s h e = let same : state ≡ last = cc e in subst (Settled top) same s
settles_on top (byte ∷ bytes) o state last a s h e =
    go (reader_step state byte) refl e (λ next b t k. settles_on top bytes (outline_byte o.outline o.levels o.nodes byte) next last b t (λ m. h (suc m)) k)
  where
    go : (given : Option ReaderState) → reader_step state byte ≡ given → option_and_then (λ next. after_bytes next bytes) given ≡ Some last
        → ((next : ReaderState) → Agrees (outline_byte o.outline o.levels o.nodes byte) next → Settled top next → after_bytes next bytes ≡ Some last → Settled top last) → Settled top last
    go None f k on = absurd (cc k)
    go (Some next) f k on =
        let b = (agrees_then (outline_byte o.outline o.levels o.nodes byte) o.nodes (begins_node state.expected byte) (reader_step state byte) next (one_agrees o state a byte) f).0 in
        let within = h 1 in
        let levels = b.levels in
        on next b (settled_then top state next (reader_step state byte) s (step_adds state.expected state.opened state.tokens byte) f (omega (arith, within, levels))) k

-- ---- at the end

record Ended (top : ℕ) (nodes : ℕ) (tokens : List Placed) : Type 0 where
  under : StaysUnder top 0 tokens
  nodes_are : nodes ≡ token_nodes tokens

ended_in : (top nodes : ℕ) (expected : Expected) (opened : List Opened) (tokens found : List Placed) → levels_after 0 tokens ≡ length opened → StaysUnder top 0 tokens → nodes ≡ token_nodes tokens + in_progress expected
    → at_end_in expected opened tokens ≡ Some found → Ended top nodes found
ended_in top nodes Next [] tokens found l u n e =
    let same : tokens ≡ found = cc e in
    subst (Ended top nodes) same (record { under = u; nodes_are = omega (arith, n) })
ended_in top nodes Next (first ∷ opened) tokens found l u n e = absurd (cc e)
ended_in top nodes (InNumber phase text) [] tokens found l u n e = go (number_may_end phase) e
  where
    go : (b : Bool) → cond b (let o : Option (List Placed) = Some (tokens ++ (placed_at token.Alone (token.Number text) ∷ [])) in o) None ≡ Some found → Ended top nodes found
    go false k = absurd (cc k)
    go true k =
        let same : tokens ++ (placed_at token.Alone (token.Number text) ∷ []) ≡ found = cc k in
        let ends = under_ends top 0 tokens u in
        let count = nodes-append tokens (placed_at token.Alone (token.Number text) ∷ []) in
        subst (Ended top nodes) same (record { under = under-append top 0 tokens (placed_at token.Alone (token.Number text) ∷ []) u (ends, ends); nodes_are = omega (arith, n, count) })
ended_in top nodes (InNumber phase text) (first ∷ opened) tokens found l u n e = absurd (cc e)
ended_in top nodes expected opened tokens found l u n e = absurd (cc e)

module _ (bytes : List ℕ) (limits : Limits) (within : IsWithin bytes limits) where
  all_within : (m : ℕ) → (outline_bytes (outlined BetweenTokens 0 0) (take m bytes)).levels ≤ limits.depth
  all_within m = elim (cases_lt (length bytes) m) [
    | inl more ↦
        let all = (within (length bytes) (omega arith)).0 in
        let same : take m bytes ≡ take (length bytes) bytes = take_all m bytes (omega (arith, more)) ∙ sym (take_all (length bytes) bytes (omega arith)) in
        subst (λ row. open_levels row ≤ limits.depth) (sym same) all
    | inr less ↦ (within m less).0
  ]

  ends_within : (tokens : List Placed) → tokens_read bytes ≡ Some tokens → Ended limits.depth (begun_nodes bytes) tokens
  ends_within tokens e = go (after_bytes reader_start bytes) refl e
    where
      go : (given : Option ReaderState) → after_bytes reader_start bytes ≡ given → option_and_then tokens_at_end given ≡ Some tokens → Ended limits.depth (begun_nodes bytes) tokens
      go None f k = absurd (cc k)
      go (Some state) f k =
          let start : Settled limits.depth reader_start = record { levels = refl; under = omega arith } in
          let s = settles_on limits.depth bytes (outlined BetweenTokens 0 0) reader_start state start-agrees start all_within f in
          ended_in limits.depth (begun_nodes bytes) state.expected state.opened state.tokens tokens s.levels s.under (front-agrees bytes state f).nodes k

  pub fits-in : (tokens : List Placed) → IsDocument bytes tokens → FitsIn limits (value_in tokens)
  fits-in tokens d =
      let e = ends_within (tokens_of token.Alone d.denotes.is_value) (denoted-read d.denotes) in
      let deep = value_depth limits.depth token.Alone d.denotes.is_value 0 e.under in
      let count = value_nodes token.Alone d.denotes.is_value in
      let all = subst (λ row. begun_nodes row ≤ limits.nodes) (take_all (length bytes) bytes (omega arith)) (within (length bytes) (omega arith)).1 in
      let n = e.nodes_are in
      subst (FitsIn limits) (sym (value-seen (root-is d))) (record { depth = omega (arith, deep); nodes = omega (arith, n, count, all) })
