-- What the steps of calls that spell a tree write: its line.
use Rattle.std.specs.Prelude.{◌≡◌, ℕ, false, List, [], ◌∷◌, ◌++◌, map, codes, flat_map, Option, Some, None, Result, Ok, Err, refl}
use Rattle.std.specs.List.{concat, cons_option}
use Rattle.std.proofs.Common.{sym, ap, ◌∙◌, append_assoc, append-nil}
use Rattle.sval_label.specs.Calls.{Call, Head, Slot, Tag, Label, Index}
use Rattle.sval_core.specs.Law.{Emission}
use Rattle.sval_core.specs.Spells.{Says, SayParts, plain, plain_call, bare_name, bare_label, bare_index}
use Rattle.sval_core.specs.Trees as tree
use Rattle.sval_core.specs.Trees.{Tree, Parts, none, part, Kind, next_kind, AreInOrder, IsGood}
use Rattle.sval_core.specs.ValueTrees.{Tells}
use Rattle.sval_json.specs.Escape.{escaped, in_quotes}
use Rattle.sval_json.proofs.Texts.{escaped-append}
use Rattle.logfmt.specs.declared.LogfmtError.{LogfmtError}
use Rattle.logfmt.specs.declared.LogfmtError.TheVariants.{NotFlat}
use Rattle.logfmt.specs.declared.writer.Due.{Due}
use Rattle.logfmt.specs.declared.writer.Due.TheVariants as due
use Rattle.logfmt.specs.Pairs.{logfmt_then, a_key, leaf, pair, and_pairs, field_pairs, logfmt_line, record_line}
use Rattle.logfmt.specs.Steps.{Begun, LogfmtStep, space_after, key_step, logfmt_step, logfmt_steps}
use Rattle.logfmt.specs.Writing.{nothing_written, ended_line, written_line}

abbrev at : Due → List ℕ → Begun
at due text = record { due = due; text = text }

-- ---- one thing after another

then_same : {T U : Type 0} (r : Result T LogfmtError) (f g : T → Result U LogfmtError) → ((x : T) → f x ≡ g x) → logfmt_then r f ≡ logfmt_then r g
then_same (Ok x) f g same = same x
then_same (Err why) f g same = refl

then_then : {T U V : Type 0} (r : Result T LogfmtError) (f : T → Result U LogfmtError) (g : U → Result V LogfmtError) → logfmt_then (logfmt_then r f) g ≡ logfmt_then r (λ x. logfmt_then (f x) g)
then_then (Ok x) f g = refl
then_then (Err why) f g = refl

-- ---- what leaves no trace in a tree

abbrev SameStep : Option Call → Call → Begun → Type 0
SameStep None call begun = logfmt_step call begun ≡ Ok begun
SameStep (Some other) call begun = logfmt_step other begun ≡ logfmt_step call begun

same_step : (call : Call) (begun : Begun) → SameStep (plain_call call) call begun
same_step (Call.TagHint _) begun = refl
same_step (Call.Begin Head.Seq size) begun = refl
same_step (Call.Begin Head.Map size) begun = refl
same_step (Call.Begin (Head.Record name) size) begun = refl
same_step (Call.Begin (Head.Tuple name) size) begun = refl
same_step (Call.Begin (Head.RecordTuple name) size) begun = refl
same_step (Call.PartBegin Slot.Item) begun = refl
same_step (Call.PartBegin Slot.Key) begun = refl
same_step (Call.PartBegin Slot.Value) begun = refl
same_step (Call.PartBegin (Slot.Field tag label)) begun = refl
same_step (Call.PartBegin (Slot.Place tag index)) begun = refl
same_step (Call.PartBegin (Slot.FieldPlace tag label index)) begun = refl
same_step (Call.End Head.Seq) begun = refl
same_step (Call.End Head.Map) begun = refl
same_step (Call.End (Head.Record name)) begun = refl
same_step (Call.End (Head.Tuple name)) begun = refl
same_step (Call.End (Head.RecordTuple name)) begun = refl
same_step (Call.PartEnd Slot.Item) begun = refl
same_step (Call.PartEnd Slot.Key) begun = refl
same_step (Call.PartEnd Slot.Value) begun = refl
same_step (Call.PartEnd (Slot.Field tag label)) begun = refl
same_step (Call.PartEnd (Slot.Place tag index)) begun = refl
same_step (Call.PartEnd (Slot.FieldPlace tag label index)) begun = refl
same_step _ begun = refl

plain_one : (other : Option Call) (call : Call) (plainly calls : List Call) (begun : Begun) → SameStep other call begun → ((b : Begun) → logfmt_steps plainly b ≡ logfmt_steps calls b)
    → logfmt_steps (cons_option other plainly) begun ≡ logfmt_steps (call ∷ calls) begun
plain_one None call plainly calls begun same rest = rest begun ∙ sym (ap (λ s. logfmt_then s (logfmt_steps calls)) same)
plain_one (Some other) call plainly calls begun same rest = ap (λ s. logfmt_then s (logfmt_steps plainly)) same ∙ then_same (logfmt_step call begun) (logfmt_steps plainly) (logfmt_steps calls) rest

steps_plain : (calls : List Call) (begun : Begun) → logfmt_steps (plain calls) begun ≡ logfmt_steps calls begun
steps_plain [] begun = refl
steps_plain (call ∷ calls) begun = plain_one (plain_call call) call (plain calls) calls begun (same_step call begun) (steps_plain calls)

-- ---- texts

texts_escaped : (pieces : List (List ℕ)) (rest : List Call) (t : List ℕ) → logfmt_steps (map (Call.TextFragment false) pieces ++ rest) (at due.Text t) ≡ logfmt_steps rest (at due.Text (t ++ escaped (concat pieces)))
texts_escaped [] rest t = ap (λ x. logfmt_steps rest (at due.Text x)) (sym (append-nil t))
texts_escaped (p ∷ pieces) rest t =
    texts_escaped pieces rest (t ++ escaped p)
    ∙ ap (λ x. logfmt_steps rest (at due.Text x)) (append_assoc t (escaped p) (escaped (concat pieces)) ∙ ap (λ x. t ++ x) (sym (escaped-append p (concat pieces))))

quoted : (t q x : List ℕ) → ((t ++ q) ++ x) ++ q ≡ t ++ (q ++ (x ++ q))
quoted t q x = append_assoc (t ++ q) x q ∙ append_assoc t q (x ++ q)

begin_in_value : (head : Head) (size : Option ℕ) (t : List ℕ) → logfmt_step (Call.Begin head size) (at due.Value t) ≡ Err NotFlat
begin_in_value Head.Seq size t = refl
begin_in_value Head.Map size t = refl
begin_in_value (Head.Record name) size t = refl
begin_in_value (Head.Tuple name) size t = refl
begin_in_value (Head.RecordTuple name) size t = refl

-- a leaf is written, or refused at its first call
leaf_written : (tree : Tree) (calls rest : List Call) (t : List ℕ) → Says tree calls rest → logfmt_steps calls (at due.Value t) ≡ logfmt_then (leaf tree) (λ text. logfmt_steps rest (at due.ValueEnd (t ++ text)))
leaf_written tree.Null calls rest t s = ap (λ c. logfmt_steps c (at due.Value t)) s
leaf_written (tree.Truth b) calls rest t s = ap (λ c. logfmt_steps c (at due.Value t)) s
leaf_written (tree.Int type number) calls rest t s = ap (λ c. logfmt_steps c (at due.Value t)) s
leaf_written (tree.Text text) calls rest t s =
    ap (λ c. logfmt_steps c (at due.Value t)) s.4
    ∙ texts_escaped s.1 (Call.TextEnd ∷ rest) (t ++ codes "\"")
    ∙ ap (λ x. logfmt_steps rest (at due.ValueEnd x)) (quoted t (codes "\"") (escaped (concat s.1)) ∙ ap (λ x. t ++ in_quotes (escaped x)) s.3)
leaf_written (tree.Binary bytes) calls rest t s = ap (λ c. logfmt_steps c (at due.Value t)) s.4
leaf_written (tree.Standalone name) calls rest t s = ap (λ c. logfmt_steps c (at due.Value t)) s
leaf_written (tree.Tagged name inner) calls rest t s = ap (λ c. logfmt_steps c (at due.Value t)) s.1
leaf_written (tree.EmptyEnum name) calls rest t s = ap (λ c. logfmt_steps c (at due.Value t)) s
leaf_written (tree.Enum name inner) calls rest t s = ap (λ c. logfmt_steps c (at due.Value t)) s.1
leaf_written (tree.Container head parts) calls rest t s = ap (λ c. logfmt_steps c (at due.Value t)) s.3 ∙ ap (λ is. logfmt_then is (logfmt_steps s.1)) (begin_in_value head s.0 t)

-- ---- pairs

-- these pairs after this text
more : List ℕ → List (List ℕ) → List ℕ
more [] all = logfmt_line all
more (b ∷ t) all = flat_map (λ next. codes " " ++ next) all

nothing_more : (t : List ℕ) → t ++ more t [] ≡ t
unfolding more
nothing_more [] = refl
nothing_more (b ∷ t) = append-nil (b ∷ t)

after_pair : (key text : List ℕ) (all : List (List ℕ)) → more (key ++ codes "=" ++ text) all ≡ flat_map (λ next. codes " " ++ next) all
unfolding more
after_pair [] text all = refl
after_pair (b ∷ key) text all = refl

regroup : (t s k e w f : List ℕ) → ((t ++ (s ++ k ++ e)) ++ w) ++ f ≡ t ++ ((s ++ (k ++ e ++ w)) ++ f)
regroup t s k e w f = simp append_assoc

-- a pair more
pair_more : (t key text : List ℕ) (all : List (List ℕ)) →
    let now = (t ++ (space_after t ++ key ++ codes "=")) ++ text in
    now ++ more now all ≡ t ++ more t ((key ++ codes "=" ++ text) ∷ all)
unfolding more
pair_more [] key text all = ap (λ x. (key ++ codes "=" ++ text) ++ x) (after_pair key text all)
pair_more (b ∷ t) key text all = regroup (b ∷ t) (codes " ") key (codes "=") text (flat_map (λ next. codes " " ++ next) all)

entry : (key value : Result (List ℕ) LogfmtError) (others : Result (List (List ℕ)) LogfmtError) (f : List (List ℕ) → LogfmtStep) →
    logfmt_then (and_pairs (logfmt_then key (λ k. logfmt_then value (λ w. Ok (k ++ codes "=" ++ w)))) others) f
    ≡ logfmt_then key (λ k. logfmt_then value (λ w. logfmt_then others (λ all. f ((k ++ codes "=" ++ w) ∷ all))))
entry (Ok k) (Ok w) (Ok all) f = refl
entry (Ok k) (Ok w) (Err why) f = refl
entry (Ok k) (Err why) others f = refl
entry (Err why) value others f = refl

-- the call ends the value of a key
abbrev EndsValue : Call → Type 0
EndsValue call = (now : List ℕ) → logfmt_step call (at due.ValueEnd now) ≡ Ok (at due.Pair now)

-- the value of a key, and what comes after it
value_written : (value : Tree) (parts : Parts) (end : Call) (inner after rest : List Call) (t key : List ℕ)
    → EndsValue end → Says value inner (end ∷ after)
    → ((now : List ℕ) → logfmt_steps after (at due.Pair now) ≡ logfmt_then (field_pairs parts) (λ all. logfmt_steps rest (at due.Pair (now ++ more now all))))
    → logfmt_steps inner (at due.Value (t ++ (space_after t ++ key ++ codes "=")))
    ≡ logfmt_then (leaf value) (λ text. logfmt_then (field_pairs parts) (λ all. logfmt_steps rest (at due.Pair (t ++ more t ((key ++ codes "=" ++ text) ∷ all)))))
value_written value parts end inner after rest t key ends says others =
    leaf_written value inner (end ∷ after) (t ++ (space_after t ++ key ++ codes "=")) says
    ∙ then_same (leaf value) _ _ (λ text.
    ap (λ is. logfmt_then is (logfmt_steps after)) (ends ((t ++ (space_after t ++ key ++ codes "=")) ++ text))
    ∙ others ((t ++ (space_after t ++ key ++ codes "=")) ++ text)
    ∙ then_same (field_pairs parts) _ _ (λ all. ap (λ x. logfmt_steps rest (at due.Pair x)) (pair_more t key text all)))

-- a field with this label, and the fields after it
field_written : (value : Tree) (parts : Parts) (end : Call) (label : List ℕ) (inner after rest : List Call) (t : List ℕ)
    → EndsValue end → Says value inner (end ∷ after)
    → ((now : List ℕ) → logfmt_steps after (at due.Pair now) ≡ logfmt_then (field_pairs parts) (λ all. logfmt_steps rest (at due.Pair (now ++ more now all))))
    → logfmt_then (key_step label t) (logfmt_steps inner) ≡ logfmt_then (and_pairs (pair label value) (field_pairs parts)) (λ all. logfmt_steps rest (at due.Pair (t ++ more t all)))
field_written value parts end label inner after rest t ends says others =
    then_then (a_key label) (λ key. Ok (at due.Value (t ++ (space_after t ++ key ++ codes "=")))) (logfmt_steps inner)
    ∙ then_same (a_key label) (λ key. logfmt_steps inner (at due.Value (t ++ (space_after t ++ key ++ codes "=")))) _
    (λ key. value_written value parts end inner after rest t key ends says others)
    ∙ sym (entry (a_key label) (leaf value) (field_pairs parts) (λ all. logfmt_steps rest (at due.Pair (t ++ more t all))))

field_ends : (tag : Option Tag) (label : Label) → EndsValue (Call.PartEnd (Slot.Field tag label))
field_ends tag label now = refl

place_ends : (tag : Option Tag) (label : Label) (index : Index) → EndsValue (Call.PartEnd (Slot.FieldPlace tag label index))
place_ends tag label index now = refl

parts_written : (parts : Parts) (kind : Kind) (calls rest : List Call) (t : List ℕ) → AreInOrder kind parts → SayParts parts calls rest
    → logfmt_steps calls (at due.Pair t) ≡ logfmt_then (field_pairs parts) (λ all. logfmt_steps rest (at due.Pair (t ++ more t all)))
parts_written none kind calls rest t o s = ap (λ c. logfmt_steps c (at due.Pair t)) s ∙ ap (λ x. logfmt_steps rest (at due.Pair x)) (sym (nothing_more t))
parts_written (part (Slot.Field tag label) value parts) kind calls rest t o s =
    ap (λ c. logfmt_steps c (at due.Pair t)) s.2
    ∙ field_written value parts (Call.PartEnd (Slot.Field tag (bare_label label))) label.text s.0 s.1 rest t (field_ends tag (bare_label label)) s.3
    (λ now. parts_written parts (next_kind kind) s.1 rest now o.1 s.4)
parts_written (part (Slot.FieldPlace tag label index) value parts) kind calls rest t o s =
    ap (λ c. logfmt_steps c (at due.Pair t)) s.2
    ∙ field_written value parts (Call.PartEnd (Slot.FieldPlace tag (bare_label label) (bare_index index))) label.text s.0 s.1 rest t
    (place_ends tag (bare_label label) (bare_index index)) s.3 (λ now. parts_written parts (next_kind kind) s.1 rest now o.1 s.4)
parts_written (part Slot.Item value parts) kind calls rest t o s = ap (λ c. logfmt_steps c (at due.Pair t)) s.2
parts_written (part Slot.Key value parts) kind calls rest t o s = ap (λ c. logfmt_steps c (at due.Pair t)) s.2
parts_written (part Slot.Value value parts) kind calls rest t o s = ap (λ c. logfmt_steps c (at due.Pair t)) s.2
parts_written (part (Slot.Place tag index) value parts) kind calls rest t o s = ap (λ c. logfmt_steps c (at due.Pair t)) s.2

-- ---- a value

abbrev start : Begun
start = nothing_written.begun

-- the call ends the line
abbrev EndsLine : Call → Type 0
EndsLine call = (text : List ℕ) → logfmt_step call (at due.Pair text) ≡ Ok (at due.Nothing text)

finished : (parts : Parts) (kind : Kind) (end : Call) (inner : List Call) → EndsLine end → AreInOrder kind parts → SayParts parts inner (end ∷ [])
    → logfmt_then (logfmt_steps inner (at due.Pair [])) (ended_line false) ≡ logfmt_then (field_pairs parts) (λ all. Ok (logfmt_line all))
unfolding more
finished parts kind end inner ends o s =
    ap (λ is. logfmt_then is (ended_line false)) (parts_written parts kind inner (end ∷ []) [] o s)
    ∙ then_then (field_pairs parts) (λ all. logfmt_steps (end ∷ []) (at due.Pair (logfmt_line all))) (ended_line false)
    ∙ then_same (field_pairs parts) _ _ (λ all. ap (λ is. logfmt_then (logfmt_then is (logfmt_steps [])) (ended_line false)) (ends (logfmt_line all)))

tree_written : (t : Tree) (calls : List Call) → IsGood t → Says t calls [] → logfmt_then (logfmt_steps calls start) (ended_line false) ≡ record_line t
tree_written tree.Null calls good s = ap (λ c. logfmt_then (logfmt_steps c start) (ended_line false)) s
tree_written (tree.Truth b) calls good s = ap (λ c. logfmt_then (logfmt_steps c start) (ended_line false)) s
tree_written (tree.Int type number) calls good s = ap (λ c. logfmt_then (logfmt_steps c start) (ended_line false)) s
tree_written (tree.Text text) calls good s = ap (λ c. logfmt_then (logfmt_steps c start) (ended_line false)) s.4
tree_written (tree.Binary bytes) calls good s = ap (λ c. logfmt_then (logfmt_steps c start) (ended_line false)) s.4
tree_written (tree.Standalone name) calls good s = ap (λ c. logfmt_then (logfmt_steps c start) (ended_line false)) s
tree_written (tree.Tagged name inner) calls good s = ap (λ c. logfmt_then (logfmt_steps c start) (ended_line false)) s.1
tree_written (tree.EmptyEnum name) calls good s = ap (λ c. logfmt_then (logfmt_steps c start) (ended_line false)) s
tree_written (tree.Enum name inner) calls good s = ap (λ c. logfmt_then (logfmt_steps c start) (ended_line false)) s.1
tree_written (tree.Container Head.Seq parts) calls good s = ap (λ c. logfmt_then (logfmt_steps c start) (ended_line false)) s.3
tree_written (tree.Container Head.Map parts) calls good s = ap (λ c. logfmt_then (logfmt_steps c start) (ended_line false)) s.3
tree_written (tree.Container (Head.Record name) parts) calls good s =
    ap (λ c. logfmt_then (logfmt_steps c start) (ended_line false)) s.3 ∙ finished parts tree.Field (Call.End (Head.Record (bare_name name))) s.1 (λ text. refl) good.1 s.4
tree_written (tree.Container (Head.Tuple name) parts) calls good s = ap (λ c. logfmt_then (logfmt_steps c start) (ended_line false)) s.3
tree_written (tree.Container (Head.RecordTuple name) parts) calls good s =
    ap (λ c. logfmt_then (logfmt_steps c start) (ended_line false)) s.3
    ∙ finished parts tree.FieldPlace (Call.End (Head.RecordTuple (bare_name name))) s.1 (λ text. refl) good.1 s.4

-- the line of a value that tells a tree
pub told_line : (e : Emission) (t : Tree) → Tells e t → written_line e ≡ record_line t
told_line e t tells =
    ap (λ refuses. logfmt_then (logfmt_steps e.calls start) (ended_line refuses)) tells.willing
    ∙ ap (λ is. logfmt_then is (ended_line false)) (sym (steps_plain e.calls start))
    ∙ tree_written t (plain e.calls) tells.spells.0 tells.spells.1
