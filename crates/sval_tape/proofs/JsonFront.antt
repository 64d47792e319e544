-- Values at the front of a tape, built of their parts, and their JSON.
use Rattle.std.specs.Prelude.{◌≡◌, ℕ, ◌+◌, ◌-◌, ◌==◌, nat_lt, Bool, true, false, List, [], ◌∷◌, ◌++◌, length, take, codes, Option, Some, None, option_map, IfSome, refl}
use Rattle.std.specs.Option.{MatchOption}
use Rattle.std.specs.Fmt.{signed_decimal}
use Rattle.std.proofs.Common.{sym, ap, subst, ◌∙◌, append_assoc, append-nil, arith}
use Rattle.std.proofs.lemmas.Bool.Decides.{nat_tests}
use Rattle.std.proofs.lemmas.List.{length-append, take_at}
use Rattle.std.proofs.lemmas.List.Elements.{filter_map-append}
use Rattle.std.specs.List.{list_all}
use Rattle.std.specs.Str.{is_utf8}
use Rattle.std.proofs.lemmas.Str.{is_utf8-from_IsUtf8}
use Rattle.sval_json.proofs.NumberTexts.{ascii_utf8}
use Rattle.sval_label.specs.Calls as call
use Rattle.sval_label.specs.Calls.{Call, Label, Index, Slot, Head, Name, IntType, U8, U16, U32, U64, U128, I8, I16, I32, I64, I128, Tag}
use Rattle.sval_label.specs.declared.grouped.Int.{Int}
use Rattle.sval_label.specs.Grouped.{int_call, int_number, int_type}
use Rattle.sval_label.specs.Texts.{truth_text}
use Rattle.sval_core.specs.Law.{emits, then_emits}
use Rattle.sval_core.specs.Trees as tree
use Rattle.sval_core.specs.Trees.{Tree, Parts, none, part, plain_name, plain_head, plain_slot, plain_label, AreInOrder, first_kind, next_kind, text_kind, TextKind, Ordinary, Number}
use Rattle.sval_core.specs.Spells.{Spells, SayParts, IsSize, plain, plain_call, bare_head, entries}
use Rattle.sval_core.specs.Values.{makes}
use Rattle.sval_core.specs.ValueTrees.{Tells, TellsParts}
use Rattle.sval_core.proofs.ToldTrees.{plain_name_twice, plain_head_twice, bare_plain_head, enum_tells, tagged_tells, part_tells}
use Rattle.sval_json.specs.declared.style.Variants.TheVariants.{Inside}
use Rattle.sval_json.specs.Json as json
use Rattle.sval_json.specs.Json.{Json, Pairs, compact, compact_items, compact_pairs, comma, key_text}
use Rattle.sval_json.specs.Shape.{field_key, items, map_ok, on_ok, pairs, own, tagged_json, shape}
use Rattle.sval_tape.specs.Tapes.{name_bytes, type_number}
use Rattle.sval_tape.specs.Taped.{IsTapedName}
use Rattle.sval_tape.specs.Reading.{ReadsAtFront, call_at_front, operands_at, tape_forms, truth_at, size_at, int_form, name_at_front, name_and_size_at, field_at, field_place_at}
use Rattle.sval_tape.specs.JsonAtFront.{StandAtFront, OperandAt, ValueAt, kind_for, head_for, begin_number, end_number, part_begin_number, part_end_number, SlotAt, FieldsAt, FieldAt, ItemsAt, ItemAt, NumberAt, number_name, some_taped, none_taped}
use Rattle.sval_tape.specs.declared.json.FieldKind.{FieldKind}
use Rattle.sval_tape.specs.declared.json.FieldKind.TheVariants as fields
use Rattle.sval_tape.proofs.OperandReads.{IsBytes, IsOperand}
use Rattle.sval_tape.proofs.Names.{name_operand, field_operand, field_place_operand}

-- what is said of a thing that may be missing
pub if_there : {A : Type 0} {P Q : A → Type 0} (o : Option A) → ((x : A) → P x → Q x) → IfSome o P → IfSome o Q
if_there None f p = tt
if_there (Some x) f p = f x p

-- what is behind bytes that were stripped
pub if_stripped : {X : Type 0} (view : X → List ℕ) (whole operand : List ℕ) (o : Option X) → MatchOption o ((rest : List ℕ) → whole ≡ operand ++ rest → ⊥) (λ x. whole ≡ operand ++ view x) → IfSome o (λ x. whole ≡ operand ++ view x)
if_stripped view whole operand None s = tt
if_stripped view whole operand (Some x) s = s

-- ---- calls at the front

stand_then : (calls others : List Call) (bytes mid rest : List ℕ) → StandAtFront calls bytes mid → StandAtFront others mid rest → StandAtFront (calls ++ others) bytes rest
stand_then [] others bytes mid rest s t = subst (λ x. StandAtFront others x rest) (sym s) t
stand_then (first ∷ calls) others bytes mid rest s t = (s.0, s.1, s.2, stand_then calls others s.0 mid rest s.3 t)

module _ {A : Type 0} {Fits : A → Type 0} {put : A → List ℕ} {get : ReadsAtFront A} (operand : IsOperand Fits put get) where
  operand_at : {bytes : List ℕ} (x : A) (rest : List ℕ) → IsBytes bytes → Some (x, rest) ≡ get bytes → OperandAt get x bytes rest
  operand_at {bytes = bytes} x rest fits e =
      let t = operand.takes bytes x rest fits (sym e) in
      record { operand = put x; parts = t.0.parts; again = λ more. operand.again x more t.1 }

-- the operand at the front of bytes, as it is cut from them
cut_is : (operand rest whole : List ℕ) → whole ≡ operand ++ rest → take (length whole - length rest) whole ≡ operand
cut_is operand rest whole parts =
    let size : length whole ≡ length operand + length rest = ap length parts ∙ length-append operand rest in
    let at : length whole - length rest ≡ length operand = omega arith in
    ap (λ n. take n whole) at ∙ ap (take (length operand)) parts ∙ take_at operand rest (length operand) refl

-- ---- values of one call

pub null_at : (rest : List ℕ) {old new : List ℕ} → new ≡ old ++ codes "null" → ValueAt (0 ∷ rest) rest old new
unfolding operands_at tape_forms
null_at rest w = record {
  tree = tree.Null;
  spelled = record { calls = call.Null ∷ []; stand = (rest, refl, tt, refl); spells = (tt, refl) };
  json = json.null;
  shape_is = refl;
  written = w;
}

pub truth_at_front : (b : Bool) (bytes rest : List ℕ) {old new : List ℕ} → Some (b, rest) ≡ truth_at bytes → new ≡ old ++ truth_text b → ValueAt (1 ∷ bytes) rest old new
unfolding operands_at tape_forms
truth_at_front b bytes rest e w = record {
  tree = tree.Truth b;
  spelled = record {
    calls = call.Truth b ∷ [];
    stand = (rest, ap (option_map (λ (x : Bool × List ℕ). (call.Truth x.0, x.1))) (sym e), tt, refl);
    spells = (tt, refl);
  };
  json = json.truth b;
  shape_is = refl;
  written = w;
}

int_front : (type : IntType) (bytes : List ℕ) → call_at_front ((2 + type_number type) ∷ bytes) ≡ int_form type bytes
unfolding operands_at tape_forms
int_front U8 bytes = refl
int_front U16 bytes = refl
int_front U32 bytes = refl
int_front U64 bytes = refl
int_front U128 bytes = refl
int_front I8 bytes = refl
int_front I16 bytes = refl
int_front I32 bytes = refl
int_front I64 bytes = refl
int_front I128 bytes = refl

pub int_at_front : (type : IntType) (n : Int) (bytes rest : List ℕ) {old new : List ℕ} → Some (int_call n, rest) ≡ int_form type bytes → new ≡ old ++ signed_decimal (int_number n)
    → ValueAt ((2 + type_number type) ∷ bytes) rest old new
int_at_front type n bytes rest e w = record {
  tree = tree.Int (int_type n) (int_number n);
  spelled = record { calls = int_call n ∷ []; stand = (rest, int_front type bytes ∙ sym e, tt, refl); spells = (tt, refl) };
  json = json.number (signed_decimal (int_number n));
  shape_is = refl;
  written = w;
}

-- ---- names

own_plain : (name : Name) → own name ≡ own (plain_name name)
own_plain name = go name.label
  where
    go : (label : Option Label) → own (record { tag = name.tag; label = label; index = name.index }) ≡ own (record { tag = name.tag; label = option_map plain_label label; index = name.index })
    go None = refl
    go (Some label) = refl

alone_spells : (name : Name) → Tells (makes (call.Standalone name ∷ [])) (tree.Standalone (plain_name name))
alone_spells name = record { willing = refl; spells = (plain_name_twice name, refl) }

pub alone_at : (name : Name) (bytes rest : List ℕ) {old new : List ℕ} → Some (name, rest) ≡ name_at_front bytes → new ≡ old ++ compact (own name) → ValueAt (20 ∷ bytes) rest old new
unfolding operands_at tape_forms
alone_at name bytes rest {old = old} e w = record {
  tree = tree.Standalone (plain_name name);
  spelled = record {
    calls = call.Standalone name ∷ [];
    stand = (rest, ap (option_map (λ (x : Name × List ℕ). (call.Standalone x.0, x.1))) (sym e), tt, refl);
    spells = (alone_spells name).spells;
  };
  json = own (plain_name name);
  shape_is = refl;
  written = w ∙ ap (λ j. old ++ compact j) (own_plain name);
}

-- what a name's begin and its end say, and what follows
record IsNamed (name : Name) (bytes inner rest behind : List ℕ) (end : ℕ) : Type 0 where
  pub begun : OperandAt name_at_front name bytes inner
  pub ended : rest ≡ end ∷ begun.operand ++ behind

named : {bytes rest behind : List ℕ} (name : Name) (inner : List ℕ) (end : ℕ) → IsBytes bytes → Some (name, inner) ≡ name_at_front bytes
    → rest ≡ end ∷ take (length bytes - length inner) bytes ++ behind → IsNamed name bytes inner rest behind end
named {bytes = bytes} {behind = behind} name inner end fits e ends =
    let begun = operand_at name_operand name inner fits e in
    record { begun = begun; ended = ends ∙ ap (λ x. end ∷ x ++ behind) (cut_is begun.operand inner bytes begun.parts) }

pub variant_at : (name own_name : Name) (bytes inner operand rest behind : List ℕ) {old new : List ℕ} → IsBytes bytes → Some (name, inner) ≡ name_at_front bytes → inner ≡ 20 ∷ operand
    → Some (own_name, rest) ≡ name_at_front operand → rest ≡ 23 ∷ take (length bytes - length inner) bytes ++ behind → new ≡ old ++ compact (own own_name) → ValueAt (22 ∷ bytes) behind old new
unfolding operands_at tape_forms emits then_emits
variant_at name own_name bytes inner operand rest behind {old = old} fits e first f ends w =
    let n = named name inner 23 fits e ends in
    let told = enum_tells name (makes (call.Standalone own_name ∷ [])) (tree.Standalone (plain_name own_name)) tt (alone_spells own_name) in
    record {
      tree = tree.Enum (plain_name name) (tree.Standalone (plain_name own_name));
      spelled = record {
        calls = call.EnumBegin name ∷ call.Standalone own_name ∷ call.EnumEnd name ∷ [];
        stand = (
          inner,
          ap (option_map (λ (x : Name × List ℕ). (call.EnumBegin x.0, x.1))) (sym e),
          tt,
          (
            rest,
            ap call_at_front first ∙ ap (option_map (λ (x : Name × List ℕ). (call.Standalone x.0, x.1))) (sym f),
            tt,
            (behind, ap call_at_front n.ended ∙ ap (option_map (λ (x : Name × List ℕ). (call.EnumEnd x.0, x.1))) (n.begun.again behind), tt, refl),
          ),
        );
        spells = told.spells;
      };
      json = own (plain_name own_name);
      shape_is = refl;
      written = w ∙ ap (λ j. old ++ compact j) (own_plain own_name);
    }

-- the calls of a value under a name
tagged_stands : (name : Name) (bytes inner rest behind : List ℕ) (calls : List Call) → Some (name, inner) ≡ name_at_front bytes → IsNamed name bytes inner rest behind 25 → StandAtFront calls inner rest
    → StandAtFront (call.TaggedBegin name ∷ (calls ++ call.TaggedEnd name ∷ [])) (24 ∷ bytes) behind
unfolding operands_at tape_forms
tagged_stands name bytes inner rest behind calls e n s = (
  inner,
  ap (option_map (λ (x : Name × List ℕ). (call.TaggedBegin x.0, x.1))) (sym e),
  tt,
  stand_then calls (call.TaggedEnd name ∷ []) inner rest behind s (behind, ap call_at_front n.ended ∙ ap (option_map (λ (x : Name × List ℕ). (call.TaggedEnd x.0, x.1))) (n.begun.again behind), tt, refl),
)

-- a value under a name whose tag doesn't say how text is meant
tagged_named : (name : Name) (bytes inner rest behind : List ℕ) {old new : List ℕ} → Some (name, inner) ≡ name_at_front bytes → IsNamed name bytes inner rest behind 25 → text_kind name.tag ≡ Ordinary
    → ValueAt inner rest old new → ValueAt (24 ∷ bytes) behind old new
unfolding emits then_emits
tagged_named name bytes inner rest behind e n kind v =
    let may = subst (λ k. tree.MayHold k v.tree) (sym kind) tt in
    let told = tagged_tells name (makes v.spelled.calls) v.tree may (record { willing = refl; spells = v.spelled.spells }) in
    record {
      tree = tree.Tagged (plain_name name) v.tree;
      spelled = record {
        calls = call.TaggedBegin name ∷ (v.spelled.calls ++ call.TaggedEnd name ∷ []);
        stand = tagged_stands name bytes inner rest behind v.spelled.calls e n v.spelled.stand;
        spells = told.spells;
      };
      json = v.json;
      shape_is = ap (λ k. map_ok (λ (j : Json). j) (tagged_json k v.tree (shape Inside v.tree false))) kind ∙ ap (map_ok (λ (j : Json). j)) v.shape_is;
      written = v.written;
    }

pub tagged_at : (name : Name) (bytes inner rest behind : List ℕ) {old new : List ℕ} → IsBytes bytes → Some (name, inner) ≡ name_at_front bytes → text_kind name.tag ≡ Ordinary
    → ValueAt inner rest old new → rest ≡ 25 ∷ take (length bytes - length inner) bytes ++ behind → ValueAt (24 ∷ bytes) behind old new
tagged_at name bytes inner rest behind fits e kind v ends = tagged_named name bytes inner rest behind e (named name inner 25 fits e ends) kind v

-- names that are known by their bytes
known_again : (name : Name) → IsTapedName name → (more : List ℕ) → name_at_front (name_bytes name ++ more) ≡ Some (name, more)
known_again name taped more = name_operand.again name more taped

known_named : (name : Name) (bytes rest behind : List ℕ) → IsTapedName name → rest ≡ 25 ∷ name_bytes name ++ behind → IsNamed name (name_bytes name ++ bytes) bytes rest behind 25
known_named name bytes rest behind taped ends = record { begun = record { operand = name_bytes name; parts = refl; again = known_again name taped }; ended = ends }

number_taped : IsTapedName number_name
number_taped = record { tag = (omega arith, refl); label = tt; index = tt }

known_utf8 : (text : List ℕ) → list_all (λ b. nat_lt b 128) text ≡ true → is_utf8 text ≡ true
known_utf8 text ascii = is_utf8-from_IsUtf8 text (ascii_utf8 text ascii)

some_is_taped : IsTapedName some_taped
some_is_taped = record {
  tag = (omega arith, refl);
  label = record { text = (omega arith, known_utf8 (codes "Some") refl); tag = (omega arith, refl); not_static = refl };
  index = record { number = refl; tag = (omega arith, refl) };
}

none_is_taped : IsTapedName none_taped
none_is_taped = record {
  tag = (omega arith, refl);
  label = record { text = (omega arith, known_utf8 (codes "None") refl); tag = (omega arith, refl); not_static = refl };
  index = record { number = refl; tag = (omega arith, refl) };
}

pub some_at : (bytes inner rest last behind : List ℕ) {old new : List ℕ} → bytes ≡ name_bytes some_taped ++ inner → ValueAt inner rest old new → rest ≡ 25 ∷ last → last ≡ name_bytes some_taped ++ behind
    → ValueAt (24 ∷ bytes) behind old new
some_at bytes inner rest last behind {old = old} {new = new} is v ends name =
    let n = known_named some_taped inner rest behind some_is_taped (ends ∙ ap (λ x. 25 ∷ x) name) in
    let at = tagged_named some_taped (name_bytes some_taped ++ inner) inner rest behind (sym (known_again some_taped some_is_taped inner)) n refl v in
    subst (λ x. ValueAt (24 ∷ x) behind old new) (sym is) at

pub none_at : (bytes rest : List ℕ) {old new : List ℕ} → bytes ≡ name_bytes none_taped ++ rest → new ≡ old ++ codes "null" → ValueAt (20 ∷ bytes) rest old new
none_at bytes rest is w = alone_at none_taped bytes rest (sym (ap name_at_front is ∙ known_again none_taped none_is_taped rest)) w

pub number_at : (bytes rest behind : List ℕ) {old new : List ℕ} → NumberAt bytes rest old new → rest ≡ 25 ∷ name_bytes number_name ++ behind → ValueAt (24 ∷ name_bytes number_name ++ bytes) behind old new
unfolding emits then_emits
number_at bytes rest behind v ends =
    let told = tagged_tells number_name (makes v.spelled.calls) (tree.Text v.text) tt (record { willing = refl; spells = v.spelled.spells }) in
    let n = known_named number_name bytes rest behind number_taped ends in
    record {
      tree = tree.Tagged (plain_name number_name) (tree.Text v.text);
      spelled = record {
        calls = call.TaggedBegin number_name ∷ (v.spelled.calls ++ call.TaggedEnd number_name ∷ []);
        stand = tagged_stands number_name (name_bytes number_name ++ bytes) bytes rest behind v.spelled.calls (sym (known_again number_name number_taped bytes)) n v.spelled.stand;
        spells = told.spells;
      };
      json = json.raw v.text;
      shape_is = ap (λ r. map_ok (λ (j : Json). j) (map_ok json.raw r)) v.is_normal;
      written = v.written;
    }

-- ---- fields

pub labels_at : (tag : Option Tag) (label : Label) (bytes rest : List ℕ) → IsBytes bytes → Some ((tag, label), rest) ≡ field_at bytes → SlotAt fields.Labels bytes label rest
unfolding operands_at tape_forms
labels_at tag label bytes rest fits e =
    let o = operand_at field_operand (tag, label) rest fits e in
    record {
      slot = call.Field tag label;
      operand = o.operand;
      parts = o.parts;
      begins = λ more. ap (option_map (λ (x : (Option Tag × Label) × List ℕ). (call.PartBegin (call.Field x.0.0 x.0.1), x.1))) (o.again more);
      ends = λ more. ap (option_map (λ (x : (Option Tag × Label) × List ℕ). (call.PartEnd (call.Field x.0.0 x.0.1), x.1))) (o.again more);
      kind_is = refl;
      is_entry = refl;
      paired = λ tree parts. refl;
    }

pub labels_and_indexes_at : (tag : Option Tag) (label : Label) (index : Index) (bytes rest : List ℕ) → IsBytes bytes → Some ((tag, (label, index)), rest) ≡ field_place_at bytes
    → SlotAt fields.LabelsAndIndexes bytes label rest
unfolding operands_at tape_forms
labels_and_indexes_at tag label index bytes rest fits e =
    let o = operand_at field_place_operand (tag, (label, index)) rest fits e in
    record {
      slot = call.FieldPlace tag label index;
      operand = o.operand;
      parts = o.parts;
      begins = λ more. ap (option_map (λ (x : (Option Tag × (Label × Index)) × List ℕ). (call.PartBegin (call.FieldPlace x.0.0 x.0.1.0 x.0.1.1), x.1))) (o.again more);
      ends = λ more. ap (option_map (λ (x : (Option Tag × (Label × Index)) × List ℕ). (call.PartEnd (call.FieldPlace x.0.0 x.0.1.0 x.0.1.1), x.1))) (o.again more);
      kind_is = refl;
      is_entry = refl;
      paired = λ tree parts. refl;
    }

may_end_there : (kind : FieldKind) → AreInOrder (kind_for kind) none
may_end_there fields.Labels = tt
may_end_there fields.LabelsAndIndexes = tt

same_next : (kind : FieldKind) → kind_for kind ≡ next_kind (kind_for kind)
same_next fields.Labels = refl
same_next fields.LabelsAndIndexes = refl

pub no_fields : (kind : FieldKind) (first : Bool) (bytes out : List ℕ) → FieldsAt kind first bytes bytes out out 0
no_fields kind first bytes out = record {
  parts = none;
  calls = [];
  stand = refl;
  tells = record { willing = refl; good = tt; say = λ rest. refl };
  in_order = may_end_there kind;
  counted = refl;
  shaped = json.no_pair;
  shape_is = refl;
  written = sym (append-nil out);
}

-- a pair behind what was written
behind_old : (old first key colon value pairs : List ℕ) → ((((old ++ first) ++ key) ++ colon) ++ value) ++ pairs ≡ old ++ ((((first ++ key) ++ colon) ++ value) ++ pairs)
behind_old old first key colon value pairs =
    ap (λ x. ((x ++ colon) ++ value) ++ pairs) (append_assoc old first key) ∙ ap (λ x. (x ++ value) ++ pairs) (append_assoc old (first ++ key) colon)
    ∙ ap (λ x. x ++ pairs) (append_assoc old ((first ++ key) ++ colon) value) ∙ append_assoc old (((first ++ key) ++ colon) ++ value) pairs

module _ (kind : FieldKind) (label : Label) (bytes inner rest behind : List ℕ) where
  field_stands : (s : SlotAt kind bytes label inner) (calls : List Call) → StandAtFront calls inner rest → rest ≡ part_end_number kind ∷ take (length bytes - length inner) bytes ++ behind
      → StandAtFront (call.PartBegin s.slot ∷ (calls ++ call.PartEnd s.slot ∷ [])) (part_begin_number kind ∷ bytes) behind
  field_stands s calls stand ends =
      let cut : rest ≡ part_end_number kind ∷ s.operand ++ behind = ends ∙ ap (λ x. part_end_number kind ∷ x ++ behind) (cut_is s.operand inner bytes s.parts) in (
        inner,
        ap (λ x. call_at_front (part_begin_number kind ∷ x)) s.parts ∙ s.begins inner,
        tt,
        stand_then calls (call.PartEnd s.slot ∷ []) inner rest behind stand (behind, ap call_at_front cut ∙ s.ends behind, tt, refl),
      )

  pub field_at_front : (first : Bool) {old mid new : List ℕ} → SlotAt kind bytes label inner → mid ≡ old ++ comma first ++ key_text (field_key label) ++ codes ":" → ValueAt inner rest mid new
      → rest ≡ part_end_number kind ∷ take (length bytes - length inner) bytes ++ behind → FieldAt kind first (part_begin_number kind ∷ bytes) behind old new
  unfolding emits then_emits
  field_at_front first {old = old} s key v ends last final count m = record {
    parts = part (plain_slot s.slot) v.tree m.parts;
    calls = (call.PartBegin s.slot ∷ (v.spelled.calls ++ call.PartEnd s.slot ∷ [])) ++ m.calls;
    stand = stand_then (call.PartBegin s.slot ∷ (v.spelled.calls ++ call.PartEnd s.slot ∷ [])) m.calls (part_begin_number kind ∷ bytes) behind last (field_stands s v.spelled.calls v.spelled.stand ends) m.stand;
    tells = part_tells s.slot (makes v.spelled.calls) (makes m.calls) v.tree m.parts (record { willing = refl; spells = v.spelled.spells }) m.tells;
    in_order = (s.kind_is, subst (λ k. AreInOrder k m.parts) (same_next kind) m.in_order);
    counted = let one = s.is_entry in let more = m.counted in omega (arith, one, more);
    shaped = json.pair (field_key label) v.json m.shaped;
    shape_is =
        s.paired v.tree m.parts
        ∙ ap (λ r. on_ok r (λ j. map_ok (json.pair (field_key label) j) (pairs Inside m.parts))) v.shape_is
        ∙ ap (map_ok (json.pair (field_key label) v.json)) m.shape_is;
    written =
        m.written ∙ ap (λ x. x ++ compact_pairs false m.shaped) (v.written ∙ ap (λ x. x ++ compact v.json) key)
        ∙ behind_old old (comma first) (key_text (field_key label)) (codes ":") (compact v.json) (compact_pairs false m.shaped);
  }

-- a number that some number comes before isn't the first
not_first : (n : ℕ) → (n + 1 == 0) ≡ false
not_first n = grind (arith, nat_tests)

module _ (kind : FieldKind) (bytes rest old now : List ℕ) (n : ℕ) (all : (last new : List ℕ) (more : ℕ) → FieldsAt kind (n == 0) rest last now new more → FieldsAt kind true bytes last old new (n + more)) where
  -- where none follows, these are all
  pub all_fields : FieldsAt kind true bytes rest old now n
  all_fields =
      let none_more : n + 0 ≡ n = omega arith in
      subst (λ m. FieldsAt kind true bytes rest old now m) none_more (all rest now 0 (no_fields kind (n == 0) rest now))

  pub one_more_field : (number : ℕ) (operand behind then : List ℕ) → rest ≡ number ∷ operand → number ≡ part_begin_number kind → FieldAt kind (n == 0) (part_begin_number kind ∷ operand) behind now then
      → (last new : List ℕ) (more : ℕ) → FieldsAt kind (n + 1 == 0) behind last then new more → FieldsAt kind true bytes last old new (n + 1 + more)
  one_more_field number operand behind then is begins one last new more others =
      let later = subst (λ b. FieldsAt kind b behind last then new more) (not_first n) others in
      let here = subst (λ x. FieldsAt kind (n == 0) x last now new (more + 1)) (sym (is ∙ ap (λ m. m ∷ operand) begins)) (one last new more later) in
      let same : n + (more + 1) ≡ n + 1 + more = omega arith in
      subst (λ m. FieldsAt kind true bytes last old new m) same (all last new (more + 1) here)

-- ---- containers

plain_closed : (head : Head) (calls : List Call) → plain calls ++ (call.End (bare_head (plain_head head)) ∷ []) ≡ plain (calls ++ call.End head ∷ [])
plain_closed head calls = sym (filter_map-append plain_call calls (call.End head ∷ []) ∙ ap (λ h. plain calls ++ call.End h ∷ []) (sym (bare_plain_head head)))

container_spells : (head : Head) (size : Option ℕ) (calls : List Call) (parts : Parts) → TellsParts (makes calls) parts → AreInOrder (first_kind (plain_head head)) parts → IsSize size (entries parts)
    → Spells (call.Begin head size ∷ (calls ++ call.End head ∷ [])) (tree.Container (plain_head head) parts)
container_spells head size calls parts tells order counted =
    let end = call.End (bare_head (plain_head head)) in (
      (plain_head_twice head, order, tells.good),
      (size, plain (calls ++ call.End head ∷ []), counted, refl, subst (λ x. SayParts parts x (end ∷ [])) (plain_closed head calls) (tells.say (end ∷ []))),
    )

sized : (size : Option ℕ) {n m : ℕ} → n ≡ m → IsSize size m → IsSize size n
sized size e s = subst (IsSize size) (sym e) s

in_braces : (old pairs : List ℕ) → ((old ++ codes "{") ++ pairs) ++ codes "}" ≡ old ++ (codes "{" ++ (pairs ++ codes "}"))
in_braces old pairs = append_assoc (old ++ codes "{") pairs (codes "}") ∙ append_assoc old (codes "{") (pairs ++ codes "}")

module _ (name : Name) (size : Option ℕ) (bytes with_size inner rest behind : List ℕ) where
  container_stands : (kind : FieldKind) (calls : List Call) → IsBytes bytes → Some (name, with_size) ≡ name_at_front bytes → Some (size, inner) ≡ size_at with_size → StandAtFront calls inner rest
      → rest ≡ end_number kind ∷ take (length bytes - length with_size) bytes ++ behind
      → StandAtFront (call.Begin (head_for kind name) size ∷ (calls ++ call.End (head_for kind name) ∷ [])) (begin_number kind ∷ bytes) behind
  unfolding operands_at tape_forms name_and_size_at
  container_stands fields.Labels calls fits e f s ends =
      let n = named name with_size 33 fits e ends in (
        inner,
        begins,
        tt,
        stand_then calls (call.End (call.Record name) ∷ []) inner rest behind s (behind, ap call_at_front n.ended ∙ ap (option_map (λ (x : Name × List ℕ). (call.End (call.Record x.0), x.1))) (n.begun.again behind), tt, refl),
      )
    where
      begins : call_at_front (28 ∷ bytes) ≡ Some (call.Begin (call.Record name) size, inner)
      begins = rw (sym e, sym f) refl
  container_stands fields.LabelsAndIndexes calls fits e f s ends =
      let n = named name with_size 35 fits e ends in (
        inner,
        begins,
        tt,
        stand_then calls (call.End (call.RecordTuple name) ∷ []) inner rest behind s (behind, ap call_at_front n.ended ∙ ap (option_map (λ (x : Name × List ℕ). (call.End (call.RecordTuple x.0), x.1))) (n.begun.again behind), tt, refl),
      )
    where
      begins : call_at_front (30 ∷ bytes) ≡ Some (call.Begin (call.RecordTuple name) size, inner)
      begins = rw (sym e, sym f) refl

  pub container_at : (kind : FieldKind) {old mid after new : List ℕ} {count : ℕ} → IsBytes bytes → Some (name, with_size) ≡ name_at_front bytes → Some (size, inner) ≡ size_at with_size → mid ≡ old ++ codes "{" → FieldsAt kind true inner rest mid after count
      → IsSize size count → new ≡ after ++ codes "}" → rest ≡ end_number kind ∷ take (length bytes - length with_size) bytes ++ behind → ValueAt (begin_number kind ∷ bytes) behind old new
  container_at kind {old = old} {mid = mid} {after = after} {new = new} {count = count} fits e f opened all given closed ends = go kind all (container_stands kind all.calls fits e f all.stand ends)
    where
      go : (kind : FieldKind) (all : FieldsAt kind true inner rest mid after count)
          → StandAtFront (call.Begin (head_for kind name) size ∷ (all.calls ++ call.End (head_for kind name) ∷ [])) (begin_number kind ∷ bytes) behind → ValueAt (begin_number kind ∷ bytes) behind old new
      go fields.Labels all stand = record {
        tree = tree.Container (plain_head (call.Record name)) all.parts;
        spelled = record {
          calls = call.Begin (call.Record name) size ∷ (all.calls ++ call.End (call.Record name) ∷ []);
          stand = stand;
          spells = container_spells (call.Record name) size all.calls all.parts all.tells all.in_order (sized size all.counted given);
        };
        json = json.object all.shaped;
        shape_is = ap (map_ok (λ fields. json.object fields)) all.shape_is;
        written = closed ∙ ap (λ x. x ++ codes "}") (all.written ∙ ap (λ x. x ++ compact_pairs true all.shaped) opened) ∙ in_braces old (compact_pairs true all.shaped);
      }
      go fields.LabelsAndIndexes all stand = record {
        tree = tree.Container (plain_head (call.RecordTuple name)) all.parts;
        spelled = record {
          calls = call.Begin (call.RecordTuple name) size ∷ (all.calls ++ call.End (call.RecordTuple name) ∷ []);
          stand = stand;
          spells = container_spells (call.RecordTuple name) size all.calls all.parts all.tells all.in_order (sized size all.counted given);
        };
        json = json.object all.shaped;
        shape_is = ap (map_ok (λ fields. json.object fields)) all.shape_is;
        written = closed ∙ ap (λ x. x ++ codes "}") (all.written ∙ ap (λ x. x ++ compact_pairs true all.shaped) opened) ∙ in_braces old (compact_pairs true all.shaped);
      }

-- ---- sequences

pub no_items : (first : Bool) (bytes out : List ℕ) → ItemsAt first bytes bytes out out 0
no_items first bytes out = record {
  parts = none;
  calls = [];
  stand = refl;
  tells = record { willing = refl; good = tt; say = λ rest. refl };
  in_order = tt;
  counted = refl;
  shaped = json.no_item;
  shape_is = refl;
  written = sym (append-nil out);
}

-- an item behind what was written
behind_comma : (old first value items : List ℕ) → ((old ++ first) ++ value) ++ items ≡ old ++ ((first ++ value) ++ items)
behind_comma old first value items = ap (λ x. x ++ items) (append_assoc old first value) ∙ append_assoc old (first ++ value) items

item_stands : (bytes rest behind : List ℕ) (calls : List Call) → StandAtFront calls bytes rest → rest ≡ 42 ∷ behind → StandAtFront (call.PartBegin call.Item ∷ (calls ++ call.PartEnd call.Item ∷ [])) (36 ∷ bytes) behind
unfolding operands_at tape_forms
item_stands bytes rest behind calls stand ends = (bytes, refl, tt, stand_then calls (call.PartEnd call.Item ∷ []) bytes rest behind stand (behind, ap call_at_front ends, tt, refl))

pub item_at_front : (first : Bool) (bytes rest behind : List ℕ) {old mid new : List ℕ} → mid ≡ old ++ comma first → ValueAt bytes rest mid new → rest ≡ 42 ∷ behind → ItemAt first (36 ∷ bytes) behind old new
unfolding emits then_emits
item_at_front first bytes rest behind {old = old} commas v ends last final count m = record {
  parts = part call.Item v.tree m.parts;
  calls = (call.PartBegin call.Item ∷ (v.spelled.calls ++ call.PartEnd call.Item ∷ [])) ++ m.calls;
  stand = stand_then (call.PartBegin call.Item ∷ (v.spelled.calls ++ call.PartEnd call.Item ∷ [])) m.calls (36 ∷ bytes) behind last (item_stands bytes rest behind v.spelled.calls v.spelled.stand ends) m.stand;
  tells = part_tells call.Item (makes v.spelled.calls) (makes m.calls) v.tree m.parts (record { willing = refl; spells = v.spelled.spells }) m.tells;
  in_order = (refl, m.in_order);
  counted = let more = m.counted in omega (arith, more);
  shaped = json.item v.json m.shaped;
  shape_is = ap (λ r. on_ok r (λ j. map_ok (json.item j) (items Inside m.parts))) v.shape_is ∙ ap (map_ok (json.item v.json)) m.shape_is;
  written =
      m.written ∙ ap (λ x. x ++ compact_items false m.shaped) (v.written ∙ ap (λ x. x ++ compact v.json) commas) ∙ behind_comma old (comma first) (compact v.json) (compact_items false m.shaped);
}

module _ (bytes rest old now : List ℕ) (n : ℕ) (all : (last new : List ℕ) (more : ℕ) → ItemsAt (n == 0) rest last now new more → ItemsAt true bytes last old new (n + more)) where
  pub all_items : ItemsAt true bytes rest old now n
  all_items =
      let none_more : n + 0 ≡ n = omega arith in
      subst (λ m. ItemsAt true bytes rest old now m) none_more (all rest now 0 (no_items (n == 0) rest now))

  pub one_more_item : (operand behind then : List ℕ) → rest ≡ 36 ∷ operand → ItemAt (n == 0) (36 ∷ operand) behind now then
      → (last new : List ℕ) (more : ℕ) → ItemsAt (n + 1 == 0) behind last then new more → ItemsAt true bytes last old new (n + 1 + more)
  one_more_item operand behind then is one last new more others =
      let later = subst (λ b. ItemsAt b behind last then new more) (not_first n) others in
      let here = subst (λ x. ItemsAt (n == 0) x last now new (more + 1)) (sym is) (one last new more later) in
      let same : n + (more + 1) ≡ n + 1 + more = omega arith in
      subst (λ m. ItemsAt true bytes last old new m) same (all last new (more + 1) here)

in_brackets : (old items : List ℕ) → ((old ++ codes "[") ++ items) ++ codes "]" ≡ old ++ (codes "[" ++ (items ++ codes "]"))
in_brackets old items = append_assoc (old ++ codes "[") items (codes "]") ∙ append_assoc old (codes "[") (items ++ codes "]")

pub sequence_at : (size : Option ℕ) (bytes inner rest behind : List ℕ) {old mid after new : List ℕ} {count : ℕ} → Some (size, inner) ≡ size_at bytes → mid ≡ old ++ codes "[" → ItemsAt true inner rest mid after count
    → IsSize size count → new ≡ after ++ codes "]" → rest ≡ 31 ∷ behind → ValueAt (26 ∷ bytes) behind old new
unfolding operands_at tape_forms
sequence_at size bytes inner rest behind {old = old} e opened all given closed ends = record {
  tree = tree.Container call.Seq all.parts;
  spelled = record {
    calls = call.Begin call.Seq size ∷ (all.calls ++ call.End call.Seq ∷ []);
    stand = (
      inner,
      ap (option_map (λ (x : Option ℕ × List ℕ). (call.Begin call.Seq x.0, x.1))) (sym e),
      tt,
      stand_then all.calls (call.End call.Seq ∷ []) inner rest behind all.stand (behind, ap call_at_front ends, tt, refl),
    );
    spells = container_spells call.Seq size all.calls all.parts all.tells all.in_order (sized size all.counted given);
  };
  json = json.array all.shaped;
  shape_is = ap (map_ok json.array) all.shape_is;
  written = closed ∙ ap (λ x. x ++ codes "]") (all.written ∙ ap (λ x. x ++ compact_items true all.shaped) opened) ∙ in_brackets old (compact_items true all.shaped);
}
