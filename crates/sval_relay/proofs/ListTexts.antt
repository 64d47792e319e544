-- How what is written of trees joins: tree after tree.
use Rattle.std.specs.Prelude.{◌≡◌, ℕ, Bool, true, false, List, [], ◌∷◌, ◌++◌, Result, Ok, Err, refl}
use Rattle.std.proofs.Common.{sym, ap, ◌∙◌, subst, append_assoc, append-nil, inl, inr}
use Rattle.sval_core.specs.Law.{Rose}
use Rattle.sval_core.specs.Trees.{Tree}
use Rattle.sval_io.specs.declared.sink.SinkError.{SinkError}
use Rattle.sval_io.specs.declared.sink.SinkError.TheVariants as sink
use Rattle.sval_io.specs.Sinks.{Told, IsSteady, IsCounted, LacksRoom, Appends, AppendsFront, WritesWhole, WritesFront}
use Rattle.sval_io.proofs.Appending.{lacks_both, appends_nothing, appends_both, front_after, steady_alone, steady_both, counts_since, counted_since}
use Rattle.sval_json.specs.Number.{Refusal, InvalidKey, InvalidNumber}
use Rattle.sval_json.specs.Shape.{on_ok, map_ok}
use Rattle.sval_relay.specs.declared.relaying.RelayError.{RelayError}
use Rattle.sval_relay.specs.declared.relaying.RelayError.TheVariants as answer
use Rattle.sval_relay.specs.Verdict.{TreeFormat, tree_text, tree_written, tree_due, due_of, with_text, texts, left}
use Rattle.sval_relay.specs.Relays.{of_sink, IsMeant, AreMeant}
use Rattle.sval_relay.specs.WrittenTrees.{IsWantOfTree, IsWantAmong, FailsFull, WritesTextOf, RefusesTree, IsCauseOf, StopsTree, WritesTreeText, WritesTexts, RefusesSome, IsCauseAmong, StopsAmong, WritesTrees}
use Rattle.sval_program.proofs.Growing.{lacks_more}

-- ---- a tree in front of others

-- a text with its ending, by itself and in front of more
beside_more : (text end more : List ℕ) → text ++ (end ++ more) ≡ (text ++ (end ++ [])) ++ more
beside_more text end more = ap (λ x. text ++ (x ++ more)) (sym (append-nil end)) ∙ sym (append_assoc text (end ++ []) more)

mapped_same : (f g : List ℕ → List ℕ) → ((x : List ℕ) → f x ≡ g x) → (r : Result (List ℕ) Refusal) → map_ok f r ≡ map_ok g r
mapped_same f g h (Ok x) = ap Ok (h x)
mapped_same f g h (Err why) = refl

mapped_twice : (f g : List ℕ → List ℕ) (r : Result (List ℕ) Refusal) → map_ok f (map_ok g r) ≡ map_ok (λ x. f (g x)) r
mapped_twice f g (Ok x) = refl
mapped_twice f g (Err why) = refl

module _ (asked : TreeFormat) (end : List ℕ) where
  -- the first tree's text, with its ending, is in front of the others'
  texts_after : (tree : Tree) (rest : List Tree) (first : List ℕ) → texts asked end (tree ∷ []) ≡ Ok first → texts asked end (tree ∷ rest) ≡ map_ok (λ more. first ++ more) (texts asked end rest)
  texts_after tree rest first e = by_text (tree_text asked tree) e
    where
      by_text : (found : Result (List ℕ) Refusal) → on_ok found (λ text. Ok (text ++ (end ++ []))) ≡ Ok first → on_ok found (λ text. map_ok (λ more. text ++ (end ++ more)) (texts asked end rest)) ≡ map_ok (λ more. first ++ more) (texts asked end rest)
      by_text (Ok text) h = let same : text ++ (end ++ []) ≡ first = cc h in mapped_same _ _ (λ more. beside_more text end more ∙ ap (λ x. x ++ more) same) (texts asked end rest)
      by_text (Err why) h = cc h

  left_after : (tree : Tree) (rest : List Tree) (first : List ℕ) → texts asked end (tree ∷ []) ≡ Ok first → left asked end (tree ∷ rest) ≡ first ++ left asked end rest
  left_after tree rest first e = by_text (tree_text asked tree) e
    where
      by_text : (found : Result (List ℕ) Refusal) → on_ok found (λ text. Ok (text ++ (end ++ []))) ≡ Ok first → with_text found end (left asked end rest) (tree_written asked tree) ≡ first ++ left asked end rest
      by_text (Ok text) h = let same : text ++ (end ++ []) ≡ first = cc h in beside_more text end (left asked end rest) ∙ ap (λ x. x ++ left asked end rest) same
      by_text (Err why) h = cc h

  -- what is due of the tree alone is in front of what is due of it and the others
  left_before : (tree : Tree) (rest : List Tree) → (more : List ℕ) × (left asked end (tree ∷ rest) ≡ left asked end (tree ∷ []) ++ more)
  left_before tree rest = by_text (tree_text asked tree)
    where
      by_text : (found : Result (List ℕ) Refusal) → (more : List ℕ) × (with_text found end (left asked end rest) (tree_written asked tree) ≡ with_text found end [] (tree_written asked tree) ++ more)
      by_text (Ok text) = (left asked end rest, beside_more text end (left asked end rest))
      by_text (Err why) = ([], sym (append-nil (tree_written asked tree)))

  -- the tree refuses for all
  refused_with : (tree : Tree) (rest : List Tree) (why : Refusal) → texts asked end (tree ∷ []) ≡ Err why → texts asked end (tree ∷ rest) ≡ Err why
  refused_with tree rest why e = by_text (tree_text asked tree) e
    where
      by_text : (found : Result (List ℕ) Refusal) → on_ok found (λ text. Ok (text ++ (end ++ []))) ≡ Err why → on_ok found (λ text. map_ok (λ more. text ++ (end ++ more)) (texts asked end rest)) ≡ Err why
      by_text (Ok text) h = cc h
      by_text (Err other) h = cc h

  left_refused : (tree : Tree) (rest : List Tree) (why : Refusal) → texts asked end (tree ∷ []) ≡ Err why → left asked end (tree ∷ rest) ≡ left asked end (tree ∷ [])
  left_refused tree rest why e = by_text (tree_text asked tree) e
    where
      by_text : (found : Result (List ℕ) Refusal) → on_ok found (λ text. Ok (text ++ (end ++ []))) ≡ Err why → with_text found end (left asked end rest) (tree_written asked tree) ≡ with_text found end [] (tree_written asked tree)
      by_text (Ok text) h = cc h
      by_text (Err other) h = refl

  meant_after : (tree : Tree) (rest : List Tree) (first more : List ℕ) → AreMeant asked end (tree ∷ []) first → AreMeant asked end rest more → AreMeant asked end (tree ∷ rest) (first ++ more)
  meant_after tree rest first more (text, later, e, is, none) others =
      let same : first ≡ text ++ (end ++ []) = e ∙ ap (λ x. text ++ (end ++ x)) none in
      (text, more, ap (λ x. x ++ more) same ∙ sym (beside_more text end more), is, others)

-- ---- so far

-- of these trees all but the rest were written
pub record IsWrittenTo (asked : TreeFormat) (end : List ℕ) (trees : List Tree) (old now : Told) (rest : List Tree) : Type 0 where
  pub front : List ℕ
  pub texts_so : texts asked end trees ≡ map_ok (λ more. front ++ more) (texts asked end rest)
  pub left_so : left asked end trees ≡ front ++ left asked end rest
  pub meant_so : (more : List ℕ) → AreMeant asked end rest more → AreMeant asked end trees (front ++ more)
  pub appends : Appends old front now
  pub steady : IsSteady old now

same_mapped : (r : Result (List ℕ) Refusal) → r ≡ map_ok (λ more. [] ++ more) r
same_mapped (Ok x) = refl
same_mapped (Err why) = refl

pub none_written : (asked : TreeFormat) (end : List ℕ) (trees : List Tree) (told : Told) → IsWrittenTo asked end trees told told trees
none_written asked end trees told = record {
  front = [];
  texts_so = same_mapped (texts asked end trees);
  left_so = refl;
  meant_so = λ more m. m;
  appends = appends_nothing told;
  steady = steady_alone told;
}

pub one_written : {asked : TreeFormat} {end : List ℕ} {trees rest : List Tree} {old mid now : Told} (tree : Tree) → IsWrittenTo asked end trees old mid (tree ∷ rest) → WritesTexts asked end (tree ∷ []) mid now
    → IsWrittenTo asked end trees old now rest
one_written {asked} {end} {trees} {rest} tree so w = record {
  front = so.front ++ w.text;
  texts_so =
      so.texts_so ∙ ap (map_ok (λ more. so.front ++ more)) (texts_after asked end tree rest w.text w.is) ∙ mapped_twice _ _ (texts asked end rest)
      ∙ mapped_same _ _ (λ more. sym (append_assoc so.front w.text more)) (texts asked end rest);
  left_so = so.left_so ∙ ap (λ x. so.front ++ x) (left_after asked end tree rest w.text w.is) ∙ sym (append_assoc so.front w.text (left asked end rest));
  meant_so = λ more m. subst (AreMeant asked end trees) (sym (append_assoc so.front w.text more)) (so.meant_so (w.text ++ more) (meant_after asked end tree rest w.text more w.meant m));
  appends = appends_both so.front w.text so.appends w.appends;
  steady = steady_both so.steady w.steady;
}

pub all_written : {asked : TreeFormat} {end : List ℕ} {trees : List Tree} {old now : Told} → IsWrittenTo asked end trees old now [] → WritesTexts asked end trees old now
all_written {asked} {end} {trees} so = record {
  text = so.front;
  is = so.texts_so ∙ ap Ok (append-nil so.front);
  meant = subst (AreMeant asked end trees) (append-nil so.front) (so.meant_so [] refl);
  appends = so.appends;
  steady = so.steady;
}

want_since : {K : Type 0} (captured : Bool) (told : K → Told) (old mid new : K) → IsSteady (told old) (told mid) → IsWantAmong captured told mid new → IsWantAmong captured told old new
want_since false told old mid new s want = counted_since (told new) sink.NoMemory s want
want_since true told old mid new s (inl still) = inl (steady_both s still)
want_since true told old mid new s (inr rose) = inr (counted_since (told new) sink.NoMemory s rose)

pub stopped_at : {K : Type 0} {asked : TreeFormat} {end : List ℕ} {trees rest : List Tree} (captured : Bool) (told : K → Told) (old mid new : K) (why : RelayError) (tree : Tree)
    → IsWrittenTo asked end trees (told old) (told mid) (tree ∷ rest) → StopsAmong why (IsWantAmong captured told) told asked end (tree ∷ []) mid new
    → StopsAmong why (IsWantAmong captured told) told asked end trees old new
stopped_at {K} {asked} {end} {trees} {rest} captured told old mid new why tree so s = record {
  cause = by_cause why s.cause;
  begins = let before = left_before asked end tree rest in front_after so.front (left asked end (tree ∷ [])) before.0 so.appends (so.left_so ∙ ap (λ x. so.front ++ x) before.1) s.begins;
  counts = counts_since so.steady s.counts;
}
  where
    fails : FailsFull (left asked end (tree ∷ [])) (told mid) (told new) → FailsFull (left asked end trees) (told old) (told new)
    fails f = record {
      fault = counted_since (told new) sink.Failed so.steady f.fault;
      full =
          let (more, before) = left_before asked end tree rest in
          let whole : so.front ++ (left asked end (tree ∷ []) ++ more) ≡ left asked end trees = ap (λ x. so.front ++ x) (sym before) ∙ sym so.left_so in
          subst (LacksRoom (told old)) whole (lacks_both (told old) (told mid) so.front (left asked end (tree ∷ [])) more so.appends f.full);
    }

    refuses : (refusal : Refusal) → RefusesSome asked end refusal (tree ∷ []) (told mid) (told new) → RefusesSome asked end refusal trees (told old) (told new)
    refuses refusal r = record {
      is = so.texts_so ∙ ap (map_ok (λ more. so.front ++ more)) (refused_with asked end tree rest refusal r.is);
      appends =
          let whole : so.front ++ left asked end (tree ∷ []) ≡ left asked end trees = ap (λ x. so.front ++ x) (sym (left_refused asked end tree rest refusal r.is)) ∙ sym so.left_so in
          subst (λ bytes. Appends (told old) bytes (told new)) whole (appends_both so.front (left asked end (tree ∷ [])) so.appends r.appends);
      steady = steady_both so.steady r.steady;
    }

    by_cause : (e : RelayError) → IsCauseAmong e (IsWantAmong captured told) told asked end (tree ∷ []) mid new → IsCauseAmong e (IsWantAmong captured told) told asked end trees old new
    by_cause (answer.BadLine n) c = absurd c
    by_cause (answer.BadCall n) c = absurd c
    by_cause answer.Unfinished c = absurd c
    by_cause answer.InvalidKey c = refuses InvalidKey c
    by_cause answer.InvalidNumber c = refuses InvalidNumber c
    by_cause answer.Write c = fails c
    by_cause answer.NoMemory c = want_since captured told old mid new so.steady c

-- ---- one tree as a list of one

module _ {K : Type 0} (told : K → Told) (asked : TreeFormat) (tree : Tree) where
  text_with : (end text : List ℕ) → tree_text asked tree ≡ Ok text → texts asked end (tree ∷ []) ≡ Ok (text ++ end)
  text_with end text is = ap (λ found. on_ok found (λ text. Ok (text ++ (end ++ [])))) is ∙ ap (λ x. Ok (text ++ x)) (append-nil end)

  meant_with : (end text : List ℕ) → IsMeant asked tree text → AreMeant asked end (tree ∷ []) (text ++ end)
  meant_with end text is = (text, [], ap (λ x. text ++ x) (sym (append-nil end)), is, refl)

  pub with_ending : {old mid new : Told} (end : List ℕ) → WritesTextOf asked tree old mid → WritesWhole mid end new → WritesTexts asked end (tree ∷ []) old new
  with_ending end w e = record {
    text = w.text ++ end;
    is = text_with end w.text w.is;
    meant = meant_with end w.text w.meant;
    appends = appends_both w.text end w.appends e.appends;
    steady = steady_both w.steady e.steady;
  }

  -- what is due of the tree is in front of what is due of it with its ending
  due_before : (end : List ℕ) → (more : List ℕ) × (left asked end (tree ∷ []) ≡ [] ++ (tree_due asked tree ++ more))
  due_before end = by_text (tree_text asked tree)
    where
      by_text : (found : Result (List ℕ) Refusal) → (more : List ℕ) × (with_text found end [] (tree_written asked tree) ≡ due_of found (tree_written asked tree) ++ more)
      by_text (Ok text) = (end ++ [], refl)
      by_text (Err why) = ([], sym (append-nil (tree_written asked tree)))

  due_stopped : {old new : Told} (end : List ℕ) → AppendsFront old (tree_due asked tree) new → AppendsFront old (left asked end (tree ∷ [])) new
  due_stopped {old} end f = let before = due_before end in front_after [] (tree_due asked tree) before.0 (appends_nothing old) before.1 f

  fails_alone : {old new : Told} (end : List ℕ) → FailsFull (tree_due asked tree) old new → FailsFull (left asked end (tree ∷ [])) old new
  fails_alone {old} end f =
      let (more, whole) = due_before end in
      record { fault = f.fault; full = subst (LacksRoom old) (sym whole) (lacks_more old (tree_due asked tree) more f.full) }

  refuses_alone : {old new : Told} (end : List ℕ) (why : Refusal) → RefusesTree asked why tree old new → RefusesSome asked end why (tree ∷ []) old new
  refuses_alone {old} {new} end why r = record {
    is = ap (λ found. on_ok found (λ text. Ok (text ++ (end ++ [])))) r.is;
    appends = subst (λ bytes. Appends old bytes new) (sym (ap (λ found. with_text found end [] (tree_written asked tree)) r.is)) r.appends;
    steady = r.steady;
  }

  stops_with : (Want : K → K → Type 0) (captured : Bool) (end : List ℕ) (old new : K) (why : RelayError) → (IsWantOfTree captured told old new → Want old new) → StopsTree why captured told asked tree old new
      → StopsAmong why Want told asked end (tree ∷ []) old new
  stops_with Want captured end old new why wants s = record { cause = by_cause why s.cause; begins = due_stopped end s.begins; counts = s.counts }
    where
      by_cause : (e : RelayError) → IsCauseOf e captured told asked tree old new → IsCauseAmong e Want told asked end (tree ∷ []) old new
      by_cause (answer.BadLine n) c = absurd c
      by_cause (answer.BadCall n) c = absurd c
      by_cause answer.Unfinished c = absurd c
      by_cause answer.InvalidKey c = refuses_alone end InvalidKey c
      by_cause answer.InvalidNumber c = refuses_alone end InvalidNumber c
      by_cause answer.Write c = fails_alone end c
      by_cause answer.NoMemory c = wants c

  among : (captured : Bool) (old new : K) → IsWantOfTree captured told old new → IsWantAmong captured told old new
  among false old new w = w
  among true old new (inl same) = inl (subst (λ out. IsSteady (told old) (told out)) (sym same) (steady_alone (told old)))
  among true old new (inr rose) = inr rose

  pub stops_among : (captured : Bool) (end : List ℕ) (old new : K) (why : RelayError) → StopsTree why captured told asked tree old new → StopsAmong why (IsWantAmong captured told) told asked end (tree ∷ []) old new
  stops_among captured end old new why s = stops_with (IsWantAmong captured told) captured end old new why (among captured old new) s

  -- the ending wasn't written
  pub stops_ending : (captured : Bool) (end : List ℕ) (old mid new : K) (why : SinkError) → WritesTextOf asked tree (told old) (told mid) → WritesFront why (told mid) end (told new)
      → StopsAmong (of_sink why) (IsWantAmong captured told) told asked end (tree ∷ []) old new
  stops_ending captured end old mid new why w f = record {
    cause = by_cause why f.full (counted_since (told new) why w.steady f.cause);
    begins = front_after w.text end [] w.appends whole f.front;
    counts = counts_since w.steady f.counts;
  }
    where
      whole : left asked end (tree ∷ []) ≡ w.text ++ (end ++ [])
      whole = ap (λ found. with_text found end [] (tree_written asked tree)) w.is

      want : (b : Bool) → Rose (told old).wants (told new).wants → IsWantAmong b told old new
      want false c = c
      want true c = inr c

      by_cause : (e : SinkError) → (e ≡ sink.Failed → LacksRoom (told mid) end) → IsCounted e (told old) (told new) → IsCauseAmong (of_sink e) (IsWantAmong captured told) told asked end (tree ∷ []) old new
      by_cause sink.Failed full c = record { fault = c; full = subst (LacksRoom (told old)) (sym whole) (lacks_both (told old) (told mid) w.text end [] w.appends (full refl)) }
      by_cause sink.NoMemory full c = want captured c

  -- one tree by itself, without an ending
  pub alone : (captured : Bool) (old new : K) (result : Result (Unit {0}) RelayError) → WritesTreeText result captured told asked tree old new → WritesTrees result (IsWantOfTree captured told) told asked [] (tree ∷ []) old new
  alone captured old new (Ok done) w = with_ending [] w (record { appends = appends_nothing (told new); steady = steady_alone (told new) })
  alone captured old new (Err why) s = stops_with (IsWantOfTree captured told) captured [] old new why (λ w. w) s
