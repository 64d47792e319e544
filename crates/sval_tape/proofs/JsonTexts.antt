-- Texts at the front of a tape, and a whole tape.
use Rattle.std.specs.Prelude.{◌≡◌, ℕ, ◌+◌, Bool, true, false, List, [], ◌∷◌, ◌++◌, length, map, codes, Option, Some, None, option_map, Ok, IfSome, refl}
use Rattle.std.specs.List.{AllByRecursion, concat}
use Rattle.std.proofs.Common.{sym, ap, subst, ◌∙◌, append_assoc, append-nil}
use Rattle.std.proofs.lemmas.List.{length-append}
use Rattle.std.proofs.lemmas.Str.{IsUtf8-from_is_utf8}
use Rattle.sval_label.specs.Calls as call
use Rattle.sval_label.specs.Calls.{Call, Label, Index, Slot, Head, Name}
use Rattle.sval_core.specs.Trees as tree
use Rattle.sval_core.specs.Spells.{IsSize, plain}
use Rattle.sval_core.specs.Real.{IsRealCall, IsRealLabel, IsRealIndex, IsRealName}
use Rattle.sval_core.proofs.RealTrees.{real_calls-real_tree}
use Rattle.sval_json.specs.Escape.{escaped}
use Rattle.sval_json.specs.Json as json
use Rattle.sval_json.specs.Number.{normal}
use Rattle.sval_json.proofs.Texts.{escaped-append}
use Rattle.sval_tape.specs.Tapes.{tape_of, call_bytes}
use Rattle.sval_tape.specs.Taped.{IsTapedCall, IsTapedName, IsTapedLabel, IsTapedIndex}
use Rattle.sval_tape.specs.Reading.{call_at_front, operands_at, tape_forms, size_at, text_at}
use Rattle.sval_tape.specs.JsonAtFront.{IsJsonOf, IsNoBinary, StandAtFront, ValueAt, fragment_calls, fragments_text, FragmentAt, FragmentsAt, NumberAt}
use Rattle.sval_tape.proofs.OperandReads.{IsBytes}
use Rattle.sval_tape.proofs.Tapes.{tape-cons, tape-nil}
use Rattle.sval_tape.proofs.CallsRead.{call_takes}

-- ---- fragments

abbrev pieces : List (Bool × List ℕ) → List (List ℕ)
pieces fragments = map (λ (fragment : Bool × List ℕ). fragment.1) fragments

plain_fragments : (fragments : List (Bool × List ℕ)) (more : List Call) → plain (fragment_calls fragments ++ more) ≡ map (call.TextFragment false) (pieces fragments) ++ plain more
plain_fragments [] more = refl
plain_fragments (first ∷ fragments) more = ap (λ x. call.TextFragment false first.1 ∷ x) (plain_fragments fragments more)

joined : (fragments : List (Bool × List ℕ)) → concat (pieces fragments) ≡ fragments_text fragments
joined [] = refl
joined (first ∷ fragments) = ap (λ x. first.1 ++ x) (joined fragments)

text_more : (fragments : List (Bool × List ℕ)) (borrowed : Bool) (text : List ℕ) → fragments_text (fragments ++ ((borrowed, text) ∷ [])) ≡ fragments_text fragments ++ text
text_more [] borrowed text = append-nil text
text_more (first ∷ fragments) borrowed text = ap (λ x. first.1 ++ x) (text_more fragments borrowed text) ∙ sym (append_assoc first.1 (fragments_text fragments) text)

stand_more : (fragments : List (Bool × List ℕ)) (borrowed : Bool) (text bytes rest behind : List ℕ) → StandAtFront (fragment_calls fragments) bytes rest
    → call_at_front rest ≡ Some (call.TextFragment borrowed text, behind) → StandAtFront (fragment_calls (fragments ++ ((borrowed, text) ∷ []))) bytes behind
stand_more [] borrowed text bytes rest behind s e = (behind, ap call_at_front s ∙ e, tt, refl)
stand_more (first ∷ fragments) borrowed text bytes rest behind s e = (s.0, s.1, tt, stand_more fragments borrowed text s.0 rest behind s.3 e)

pub no_fragments : (bytes out : List ℕ) → FragmentsAt bytes bytes out out 0
no_fragments bytes out = record { fragments = []; stand = refl; counted = refl; written = sym (append-nil out) }

module _ (borrowed : Bool) (text bytes rest behind : List ℕ) {old mid : List ℕ} (new : List ℕ) {size : ℕ} where
  pub more_fragments : FragmentsAt bytes rest old mid size → call_at_front rest ≡ Some (call.TextFragment borrowed text, behind) → new ≡ mid ++ escaped text → FragmentsAt bytes behind old new (size + length text)
  more_fragments f e w = record {
    fragments = f.fragments ++ ((borrowed, text) ∷ []);
    stand = stand_more f.fragments borrowed text bytes rest behind f.stand e;
    counted = ap length (text_more f.fragments borrowed text) ∙ length-append (fragments_text f.fragments) text ∙ ap (λ n. n + length text) f.counted;
    written =
        w ∙ ap (λ x. x ++ escaped text) f.written ∙ append_assoc old (escaped (fragments_text f.fragments)) (escaped text)
        ∙ ap (λ x. old ++ x) (sym (escaped-append (fragments_text f.fragments) text) ∙ ap escaped (sym (text_more f.fragments borrowed text)));
  }

-- a fragment's call has one of two numbers
pub borrowed_at : (bytes operand text rest : List ℕ) → bytes ≡ 13 ∷ operand → Some (text, rest) ≡ text_at operand → FragmentAt bytes text rest
unfolding operands_at tape_forms
borrowed_at bytes operand text rest is e = (true, ap call_at_front is ∙ ap (option_map (λ (x : List ℕ × List ℕ). (call.TextFragment true x.0, x.1))) (sym e))

pub computed_at : (bytes operand text rest : List ℕ) → bytes ≡ 14 ∷ operand → Some (text, rest) ≡ text_at operand → FragmentAt bytes text rest
unfolding operands_at tape_forms
computed_at bytes operand text rest is e = (false, ap call_at_front is ∙ ap (option_map (λ (x : List ℕ × List ℕ). (call.TextFragment false x.0, x.1))) (sym e))

pub borrowed_read : {X : Type 0} (view : X → List ℕ × List ℕ) (o : Option X) (bytes operand : List ℕ) → bytes ≡ 13 ∷ operand → option_map view o ≡ text_at operand
    → IfSome o (λ x. FragmentAt bytes (view x).0 (view x).1)
borrowed_read view None bytes operand is e = tt
borrowed_read view (Some x) bytes operand is e = borrowed_at bytes operand (view x).0 (view x).1 is e

pub computed_read : {X : Type 0} (view : X → List ℕ × List ℕ) (o : Option X) (bytes operand : List ℕ) → bytes ≡ 14 ∷ operand → option_map view o ≡ text_at operand
    → IfSome o (λ x. FragmentAt bytes (view x).0 (view x).1)
computed_read view None bytes operand is e = tt
computed_read view (Some x) bytes operand is e = computed_at bytes operand (view x).0 (view x).1 is e

-- ---- texts

in_quotes_is : (old text : List ℕ) → ((old ++ codes "\"") ++ text) ++ codes "\"" ≡ old ++ (codes "\"" ++ (text ++ codes "\""))
in_quotes_is old text = append_assoc (old ++ codes "\"") text (codes "\"") ∙ append_assoc old (codes "\"") (text ++ codes "\"")

module _ (given : Option ℕ) (bytes inner rest behind : List ℕ) where
  text_stands : (fragments : List (Bool × List ℕ)) → Some (given, inner) ≡ size_at bytes → StandAtFront (fragment_calls fragments) inner rest → rest ≡ 15 ∷ behind
      → StandAtFront (call.TextBegin given ∷ (fragment_calls fragments ++ call.TextEnd ∷ [])) (12 ∷ bytes) behind
  unfolding operands_at tape_forms
  text_stands fragments e stand ends = (
    inner,
    ap (option_map (λ (x : Option ℕ × List ℕ). (call.TextBegin x.0, x.1))) (sym e),
    tt,
    then_end fragments inner stand,
  )
    where
      then_end : (fragments : List (Bool × List ℕ)) (from : List ℕ) → StandAtFront (fragment_calls fragments) from rest → StandAtFront (fragment_calls fragments ++ call.TextEnd ∷ []) from behind
      then_end [] from s = (behind, ap call_at_front (s ∙ ends), tt, refl)
      then_end (first ∷ fragments) from s = (s.0, s.1, tt, then_end fragments s.0 s.3)

  pub text_at_front : {old mid after new : List ℕ} {size : ℕ} → Some (given, inner) ≡ size_at bytes → mid ≡ old ++ codes "\"" → FragmentsAt inner rest mid after size → rest ≡ 15 ∷ behind → IsSize given size
      → new ≡ after ++ codes "\"" → ValueAt (12 ∷ bytes) behind old new
  text_at_front {old = old} e opened f ends sized closed =
      let text = fragments_text f.fragments in
      record {
        tree = tree.Text text;
        spelled = record {
          calls = call.TextBegin given ∷ (fragment_calls f.fragments ++ call.TextEnd ∷ []);
          stand = text_stands f.fragments e f.stand ends;
          spells = (tt, (given, pieces f.fragments, subst (IsSize given) (sym f.counted) sized, joined f.fragments, ap (λ x. call.TextBegin given ∷ x) (plain_fragments f.fragments (call.TextEnd ∷ []))));
        };
        json = json.text text;
        shape_is = refl;
        written = closed ∙ ap (λ x. x ++ codes "\"") (f.written ∙ ap (λ x. x ++ escaped text) opened) ∙ in_quotes_is old (escaped text);
      }

  -- a number as the text of one fragment
  pub number_at_front : (borrowed : Bool) (text : List ℕ) {old new : List ℕ} → Some (given, inner) ≡ size_at bytes → call_at_front inner ≡ Some (call.TextFragment borrowed text, rest) → rest ≡ 15 ∷ behind
      → IsSize given (length text) → normal text ≡ Ok text → new ≡ old ++ text → NumberAt (12 ∷ bytes) behind old new
  number_at_front borrowed text e f ends sized is_normal w = record {
    text = text;
    spelled = record {
      calls = call.TextBegin given ∷ call.TextFragment borrowed text ∷ call.TextEnd ∷ [];
      stand = text_stands ((borrowed, text) ∷ []) e (rest, f, tt, refl) ends;
      spells = (tt, (given, text ∷ [], sized, append-nil text, refl));
    };
    is_normal = is_normal;
    written = w;
  }

-- ---- a whole tape

label_real : (label : Option Label) → IfSome label IsTapedLabel → IfSome label IsRealLabel
label_real None t = tt
label_real (Some label) t = IsUtf8-from_is_utf8 label.text t.text.1

index_real : (index : Option Index) → IfSome index IsTapedIndex → IfSome index IsRealIndex
index_real None t = tt
index_real (Some index) t = t.number

name_real : (name : Name) → IsTapedName name → IsRealName name
name_real name t = (label_real name.label t.label, index_real name.index t.index)

taped_real : (one : Call) → IsTapedCall one → IsNoBinary one → IsRealCall one
taped_real (call.Int type n) t b = t
taped_real (call.TextFragment borrowed text) t b = IsUtf8-from_is_utf8 text t.1
taped_real (call.BinaryFragment borrowed bytes) t b = absurd b
taped_real (call.Standalone name) t b = name_real name t
taped_real (call.TaggedBegin name) t b = name_real name t
taped_real (call.EnumBegin name) t b = name_real name t
taped_real (call.Begin call.Seq size) t b = (tt, tt)
taped_real (call.Begin call.Map size) t b = (tt, tt)
taped_real (call.Begin (call.Record name) size) t b = name_real name t.0
taped_real (call.Begin (call.Tuple name) size) t b = name_real name t.0
taped_real (call.Begin (call.RecordTuple name) size) t b = name_real name t.0
taped_real (call.PartBegin call.Item) t b = tt
taped_real (call.PartBegin call.Key) t b = tt
taped_real (call.PartBegin call.Value) t b = tt
taped_real (call.PartBegin (call.Field tag label)) t b = IsUtf8-from_is_utf8 label.text t.1.text.1
taped_real (call.PartBegin (call.Place tag index)) t b = t.1.number
taped_real (call.PartBegin (call.FieldPlace tag label index)) t b = (IsUtf8-from_is_utf8 label.text t.1.text.1, t.2.number)
taped_real call.Null t b = tt
taped_real (call.Truth v) t b = tt
taped_real (call.TagHint tag) t b = tt
taped_real (call.TextBegin size) t b = tt
taped_real call.TextEnd t b = tt
taped_real (call.BinaryBegin size) t b = tt
taped_real call.BinaryEnd t b = tt
taped_real (call.EnumEnd name) t b = tt
taped_real (call.TaggedEnd name) t b = tt
taped_real (call.End head) t b = tt
taped_real (call.PartEnd slot) t b = tt

record IsWholeFront (calls : List Call) (bytes rest : List ℕ) : Type 0 where
  pub taped : AllByRecursion IsTapedCall calls
  pub parts : bytes ≡ tape_of calls ++ rest
  pub real : AllByRecursion IsRealCall calls

front_whole : (calls : List Call) {bytes rest : List ℕ} → IsBytes bytes → StandAtFront calls bytes rest → IsWholeFront calls bytes rest
front_whole [] {rest = rest} fits s = record { taped = tt; parts = s ∙ ap (λ x. x ++ rest) (sym tape-nil); real = tt }
front_whole (first ∷ calls) {bytes = bytes} {rest = rest} fits s =
    let c = call_takes bytes first s.0 fits s.1 in
    let w = front_whole calls c.0.rest_fits s.3 in
    record {
      taped = (c.1, w.taped);
      parts =
          c.0.parts ∙ ap (λ x. call_bytes first ++ x) w.parts ∙ sym (append_assoc (call_bytes first) (tape_of calls) rest)
          ∙ ap (λ x. x ++ rest) (sym (tape-cons first calls));
      real = (taped_real first c.1 s.2, w.real);
    }

pub json_of_tape : {bytes rest old new : List ℕ} → IsBytes bytes → ValueAt bytes rest old new → rest ≡ [] → old ≡ [] → IsJsonOf bytes new
json_of_tape {bytes = bytes} fits v done empty =
    let w = front_whole v.spelled.calls fits v.spelled.stand in
    record {
      tree = v.tree;
      calls = v.spelled.calls;
      is = record { taped = w.taped; bytes_are = w.parts ∙ ap (λ x. tape_of v.spelled.calls ++ x) done ∙ append-nil (tape_of v.spelled.calls) };
      spells = v.spelled.spells;
      real = real_calls-real_tree v.spelled.calls v.tree w.real v.spelled.spells;
      json = v.json;
      shape_is = v.shape_is;
      text_is = v.written ∙ ap (λ x. x ++ json.compact v.json) empty;
    }
