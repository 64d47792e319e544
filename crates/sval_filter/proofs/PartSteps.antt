-- What a filter passes on at the begin and the end of a part, of a part that is left out, and of a key.
use Rattle.std.specs.Prelude.{◌≡◌, ℕ, false, List, [], ◌∷◌, ◌++◌, map, Some, refl}
use Rattle.std.specs.List.{concat, cons_option}
use Rattle.std.proofs.Common.{sym, ap, ◌∙◌, subst, append_assoc}
use Rattle.sval_label.specs.Calls.{Call, Slot}
use Rattle.sval_core.specs.Law.{computed}
use Rattle.sval_core.specs.Trees as tree
use Rattle.sval_core.specs.Trees.{Tree, plain_slot, IsGood}
use Rattle.sval_core.specs.Spells.{Says, Spells, plain, plain_call, bare_slot}
use Rattle.sval_core.proofs.Completions.{spelling_is_run}
use Rattle.sval_core.proofs.ManySpellings.{hints_last}
use Rattle.sval_core.proofs.Segments.{next_call, cut_calls, says_front}
use Rattle.sval_buffer.specs.Forest.{Forest, empty_forest, replayed}
use Rattle.sval_buffer.proofs.SameTree.{capture_keeps}
use Rattle.sval_filter.specs.Paths.{Path, Rule, Fate, LeftOut, Stays, Within}
use Rattle.sval_filter.specs.Pruned.{key_label}
use Rattle.sval_filter.specs.Filtering.{Mode, Holding, By, Layer, layer, mode_in, entry_in, with_entry, fragments, key_text_of, held_label, fate_in, passed, mode_of_part, key_due, due_at_end, kept_after_end, kept_after_in, kept_after, due_in, due, all_due}
use Rattle.sval_filter.proofs.Turns.{at, Crossing, one_call, plain_append}
use Rattle.sval_filter.proofs.Silent.{holding, left_out, part_begin_is, part_end_is, silent_run, held_all, held_is}

-- ---- the label of a key

fragments_joined : (pieces : List (List ℕ)) → fragments (map (Call.TextFragment false) pieces ++ (Call.TextEnd ∷ [])) ≡ concat pieces
fragments_joined [] = refl
fragments_joined (piece ∷ pieces) = ap (λ x. piece ++ x) (fragments_joined pieces)

text_label : (t : Tree) (calls : List Call) → Says t calls [] → key_text_of calls ≡ key_label t
text_label tree.Null calls s = ap key_text_of s
text_label (tree.Truth b) calls s = ap key_text_of s
text_label (tree.Int type n) calls s = ap key_text_of s
text_label (tree.Text bytes) calls s = ap key_text_of s.4 ∙ ap Some (fragments_joined s.1 ∙ s.3)
text_label (tree.Binary bytes) calls s = ap key_text_of s.4
text_label (tree.Standalone name) calls s = ap key_text_of s
text_label (tree.Tagged name t) calls s = ap key_text_of s.1
text_label (tree.EmptyEnum name) calls s = ap key_text_of s
text_label (tree.Enum name t) calls s = ap key_text_of s.1
text_label (tree.Container head parts) calls s = ap key_text_of s.3

plain_computed : (calls : List Call) → plain (map computed calls) ≡ plain calls
plain_computed [] = refl
plain_computed (c ∷ calls) = ap (λ x. cons_option x (plain (map computed calls))) (computed_plain c) ∙ ap (λ x. cons_option (plain_call c) x) (plain_computed calls)
  where
    computed_plain : (c : Call) → plain_call (computed c) ≡ plain_call c
    computed_plain (Call.TextFragment borrowed bytes) = refl
    computed_plain c = refl

-- ---- a part begins, and ends

mode_plain : (rule : Rule) (m : Mode) (entry : Fate) (slot : Slot) → mode_of_part rule m entry slot ≡ mode_of_part rule m entry (plain_slot slot)
mode_plain rule Holding entry slot = refl
mode_plain rule (By LeftOut) entry slot = refl
mode_plain rule (By Stays) entry Slot.Key = refl
mode_plain rule (By Stays) entry slot = refl
mode_plain rule (By (Within rests)) entry Slot.Key = refl
mode_plain rule (By (Within rests)) entry slot = refl

begin_passed : (m : Mode) (c s : Slot) → plain_slot c ≡ s → plain (passed m (Call.PartBegin c ∷ [])) ≡ passed m (Call.PartBegin s ∷ [])
begin_passed Holding c s e = refl
begin_passed (By LeftOut) c s e = refl
begin_passed (By fate) c s e = ap (λ x. Call.PartBegin x ∷ []) e

end_passed : (fate : Fate) (c s : Slot) → bare_slot c ≡ s → plain (passed (By fate) (Call.PartEnd c ∷ [])) ≡ passed (By fate) (Call.PartEnd s ∷ [])
end_passed LeftOut c s e = refl
end_passed fate c s e = ap (λ x. Call.PartEnd x ∷ []) e

module _ (rule : Rule) (paths : List Path) where
  pub begin_step : (fate : Fate) (ls : List Layer) (slot : Slot) (m : Mode) (after : List Call) → mode_in paths ls ≡ By fate → mode_of_part rule (By fate) (entry_in ls) slot ≡ m
      → Crossing rule paths ls (layer m ∷ ls) (Call.PartBegin slot ∷ after) (λ x. x ≡ passed m (Call.PartBegin slot ∷ [])) after
  begin_step fate ls slot m after is k raw e =
      let n = next_call raw (Call.PartBegin slot) after e in
      let c = part_begin_is n.call slot n.is in
      let same : mode_of_part rule (By fate) (entry_in ls) c.0 ≡ m = mode_plain rule (By fate) (entry_in ls) c.0 ∙ ap (mode_of_part rule (By fate) (entry_in ls)) c.2 ∙ k in
      one_call rule paths fate ls (layer m ∷ ls) raw (Call.PartBegin slot) after (passed m (Call.PartBegin c.0 ∷ [])) (passed m (Call.PartBegin slot ∷ [])) is n
      (ap (λ x. due_in rule paths x ls empty_forest n.call) is ∙ ap (λ x. due_in rule paths (By fate) ls empty_forest x) c.1 ∙ ap (λ x. passed x (Call.PartBegin c.0 ∷ [])) same)
      (ap (λ x. kept_after_in rule paths x ls empty_forest n.call) is ∙ ap (λ x. kept_after_in rule paths (By fate) ls empty_forest x) c.1
      ∙ ap (λ x. at (layer x ∷ ls) empty_forest) same)
      (begin_passed m c.0 slot c.2)

  pub end_step : (fate : Fate) (ls : List Layer) (slot : Slot) (after : List Call)
      → Crossing rule paths (layer (By fate) ∷ ls) (with_entry Stays ls) (Call.PartEnd slot ∷ after) (λ x. x ≡ passed (By fate) (Call.PartEnd slot ∷ [])) after
  end_step fate ls slot after raw e =
      let n = next_call raw (Call.PartEnd slot) after e in
      let c = part_end_is n.call slot n.is in
      let from = layer (By fate) ∷ ls in
      one_call rule paths fate from (with_entry Stays ls) raw (Call.PartEnd slot) after (passed (By fate) (Call.PartEnd c.0 ∷ [])) (passed (By fate) (Call.PartEnd slot ∷ [])) refl n
      (ap (due rule paths (at from empty_forest)) c.1) (ap (kept_after rule paths (at from empty_forest)) c.1) (end_passed fate c.0 slot c.2)

  -- ---- what is left out

  nothing_held : (held : Forest) (calls : List Call) → held_all (By LeftOut) held calls ≡ held
  nothing_held held [] = refl
  nothing_held held (c ∷ calls) = nothing_held held calls

  pub skip_step : (ls : List Layer) (t : Tree) (calls after : List Call) → IsGood t → Says t calls after
      → Crossing rule paths (layer (By LeftOut) ∷ ls) (layer (By LeftOut) ∷ ls) calls (λ x. x ≡ []) after
  skip_step ls t calls after g s raw e =
      let f = says_front t calls after s in
      let k = cut_calls raw f.front after (e ∙ f.whole) in
      let base = layer (By LeftOut) ∷ ls in
      let run = spelling_is_run k.front t (g, subst (λ x. Says t x []) (sym k.before) f.says) in
      record {
        rest = k.rest;
        out = [];
        goes = ap (all_due rule paths (at base empty_forest)) k.whole ∙ silent_run rule paths (By LeftOut) left_out base refl refl k.front empty_forest k.rest run
            ∙ ap (λ x. all_due rule paths (at base x) k.rest) (nothing_held empty_forest k.front);
        left = k.after;
        says = refl;
      }

  -- ---- a key

  -- what is passed on of a key: nothing where its entry is left out, else the key between its begin and end
  abbrev pub PassesKey : Fate → Tree → List Call → Type 0
  PassesKey LeftOut key calls = calls ≡ []
  PassesKey fate key calls = (inner : List Call) × (calls ≡ Call.PartBegin Slot.Key ∷ (inner ++ (Call.PartEnd Slot.Key ∷ []))) × Says key inner []

  key_passed : (fate : Fate) (key : Tree) (held : Forest) (slot : Slot) → bare_slot slot ≡ Slot.Key → Spells (replayed held) key → PassesKey fate key (plain (key_due fate held slot))
  key_passed LeftOut key held slot e s = refl
  key_passed fate key held slot e s = (
    plain (replayed held),
    ap (λ x. Call.PartBegin Slot.Key ∷ x) (plain_append (map computed (replayed held)) (Call.PartEnd slot ∷ [])
        ∙ ap (λ x. x ++ (Call.PartEnd (bare_slot slot) ∷ [])) (plain_computed (replayed held)) ∙ ap (λ x. plain (replayed held) ++ (Call.PartEnd x ∷ [])) e),
    s.1,
  )

  -- a key is held, and given back at its end
  pub key_step : (fate : Fate) (ls : List Layer) (key : Tree) (calls after : List Call) → mode_in paths ls ≡ By fate → IsGood key → Says key calls (Call.PartEnd Slot.Key ∷ after)
      → Crossing rule paths (layer Holding ∷ ls) (with_entry (fate_in rule fate (key_label key)) ls) calls (PassesKey (fate_in rule fate (key_label key)) key) after
  key_step fate ls key calls after is g s raw e =
      let f = says_front key calls (Call.PartEnd Slot.Key ∷ after) s in
      let k = cut_calls raw f.front (Call.PartEnd Slot.Key ∷ after) (e ∙ f.whole) in
      let n = next_call k.rest (Call.PartEnd Slot.Key) after k.after in
      let c = part_end_is n.call Slot.Key n.is in
      let base = layer Holding ∷ ls in
      let held_calls = k.front ++ n.hints in
      let spells : Spells held_calls key = (g, subst (λ x. Says key x []) (sym (hints_last k.front n.hints n.none ∙ k.before)) f.says) in
      let captured = capture_keeps (map computed held_calls) key (g, subst (λ x. Says key x []) (sym (plain_computed held_calls)) spells.1) in
      let held = held_all Holding empty_forest held_calls in
      let held_so : held ≡ captured.0 = held_is held_calls captured.0 captured.1.taken in
      let replay : Spells (replayed held) key = subst (λ x. Spells (replayed x) key) (sym held_so) captured.1.spells in
      let named : fate_in rule fate (held_label held) ≡ fate_in rule fate (key_label key) = ap (fate_in rule fate) (text_label key (plain (replayed held)) replay.1) in
      let entry = fate_in rule fate (key_label key) in
      let whole : raw ≡ held_calls ++ (n.call ∷ n.rest) = k.whole ∙ ap (λ x. k.front ++ x) n.whole ∙ sym (append_assoc k.front n.hints (n.call ∷ n.rest)) in
      let due_is : due rule paths (at base held) n.call ≡ key_due entry held c.0 =
      ap (due rule paths (at base held)) c.1 ∙ ap (λ x. due_at_end rule Holding x held c.0) is ∙ ap (λ x. key_due x held c.0) named in
      let after_is : kept_after rule paths (at base held) n.call ≡ at (with_entry entry ls) empty_forest =
      ap (kept_after rule paths (at base held)) c.1 ∙ ap (λ x. kept_after_end rule Holding x ls held c.0) is ∙ ap (λ x. at (with_entry x ls) empty_forest) named in
      record {
        rest = n.rest;
        out = key_due entry held c.0;
        goes = ap (all_due rule paths (at base empty_forest)) whole
            ∙ silent_run rule paths Holding holding base refl refl held_calls empty_forest (n.call ∷ n.rest) (spelling_is_run held_calls key spells)
            ∙ ap (λ x. x ++ all_due rule paths (kept_after rule paths (at base held) n.call) n.rest) due_is
            ∙ ap (λ x. key_due entry held c.0 ++ all_due rule paths x n.rest) after_is;
        left = n.after;
        says = key_passed entry key held c.0 c.2 replay;
      }
