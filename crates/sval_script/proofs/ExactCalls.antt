-- Exact calls that spell a tree print as the tree's canonical script.
use Rattle.std.specs.Prelude.{◌≡◌, ℕ, Bool, true, false, List, [], ◌∷◌, ◌++◌, map, length, codes, Option, Some, None, option_map, refl}
use Rattle.std.specs.List.{concat, cons_option, join_with_byte}
use Rattle.std.proofs.Common.{sym, ap, subst, ◌∙◌, append-nil}
use Rattle.sval_label.specs.Calls.{Call, Name, Label, Head, Slot}
use Rattle.sval_label.specs.Calls as call
use Rattle.sval_core.specs.Trees.{Tree, Null, Truth, Int, Text, Binary, Standalone, Tagged, EmptyEnum, Enum, Container, Parts, none, part, plain_label, plain_name, plain_head, plain_slot, calls_then, part_calls_then}
use Rattle.sval_core.specs.ExactCalls.{AreExactFrom, AreExact}
use Rattle.sval_core.specs.Spells.{Spells, Says, SayParts, plain, plain_call, bare_name, bare_head, bare_slot}
use Rattle.sval_script.specs.Printed.{name_fields, tag_field, label_field, index_field, or_dash_field, begin_words, end_words, words_of, line, printed, canonical_call, canonical_calls, printed_canonically}
use Rattle.sval_script.specs.Printing.{whole_line}
use Rattle.sval_script.specs.Canon.{canon}

-- ---- lines don't show whether a label is static

label_shown : (label : Option Label) → or_dash_field label_field (option_map plain_label label) ≡ or_dash_field label_field label
label_shown None = refl
label_shown (Some label) = refl

name_shown : (name : Name) → name_fields (plain_name name) ≡ name_fields name
name_shown name = ap (λ label. tag_field name.tag ∷ label ∷ or_dash_field index_field name.index ∷ []) (label_shown name.label)

begin_shown : (head : Head) → begin_words (plain_head head) None ≡ begin_words head None
begin_shown Head.Seq = refl
begin_shown Head.Map = refl
begin_shown (Head.Record name) = ap (λ fields. codes "record_begin" ∷ (fields ++ (codes "-" ∷ []))) (name_shown name)
begin_shown (Head.Tuple name) = ap (λ fields. codes "tuple_begin" ∷ (fields ++ (codes "-" ∷ []))) (name_shown name)
begin_shown (Head.RecordTuple name) = ap (λ fields. codes "record_tuple_begin" ∷ (fields ++ (codes "-" ∷ []))) (name_shown name)

end_shown : (head : Head) → end_words (plain_head head) ≡ end_words head
end_shown Head.Seq = refl
end_shown Head.Map = refl
end_shown (Head.Record name) = ap (λ fields. codes "record_end" ∷ fields) (name_shown name)
end_shown (Head.Tuple name) = ap (λ fields. codes "tuple_end" ∷ fields) (name_shown name)
end_shown (Head.RecordTuple name) = ap (λ fields. codes "record_tuple_end" ∷ fields) (name_shown name)

part_begin_shown : (slot : Slot) → words_of (call.PartBegin (plain_slot slot)) ≡ words_of (call.PartBegin slot)
part_begin_shown Slot.Item = refl
part_begin_shown Slot.Key = refl
part_begin_shown Slot.Value = refl
part_begin_shown (Slot.Field tag label) = refl
part_begin_shown (Slot.Place tag index) = refl
part_begin_shown (Slot.FieldPlace tag label index) = refl

part_end_shown : (slot : Slot) → words_of (call.PartEnd (plain_slot slot)) ≡ words_of (call.PartEnd slot)
part_end_shown Slot.Item = refl
part_end_shown Slot.Key = refl
part_end_shown Slot.Value = refl
part_end_shown (Slot.Field tag label) = refl
part_end_shown (Slot.Place tag index) = refl
part_end_shown (Slot.FieldPlace tag label index) = refl

-- the same line, where the tree keeps this of the call's name
same_line : (c d : Call) → words_of c ≡ words_of d → line c ≡ line d
unfolding line
same_line c d e = ap (join_with_byte 32) e

named_line : (word : List ℕ) (f : Name → Call) → ((name : Name) → words_of (f name) ≡ word ∷ name_fields name) → (seen kept : Name) → plain_name seen ≡ kept → line (f seen) ≡ line (f kept)
named_line word f are seen kept e =
    same_line (f seen) (f kept) (are seen ∙ ap (λ fields. word ∷ fields) (sym (name_shown seen) ∙ ap name_fields e) ∙ sym (are kept))

begin_line : (seen kept : Head) → plain_head seen ≡ kept → line (call.Begin seen None) ≡ line (call.Begin kept None)
begin_line seen kept e = same_line (call.Begin seen None) (call.Begin kept None) (sym (begin_shown seen) ∙ ap (λ head. begin_words head None) e)

end_line : (seen kept : Head) → plain_head seen ≡ kept → line (call.End seen) ≡ line (call.End kept)
end_line seen kept e = same_line (call.End seen) (call.End kept) (sym (end_shown seen) ∙ ap end_words e)

part_begin_line : (seen kept : Slot) → plain_slot seen ≡ kept → line (call.PartBegin seen) ≡ line (call.PartBegin kept)
part_begin_line seen kept e = same_line (call.PartBegin seen) (call.PartBegin kept) (sym (part_begin_shown seen) ∙ ap (λ slot. words_of (call.PartBegin slot)) e)

part_end_line : (seen kept : Slot) → plain_slot seen ≡ kept → line (call.PartEnd seen) ≡ line (call.PartEnd kept)
part_end_line seen kept e = same_line (call.PartEnd seen) (call.PartEnd kept) (sym (part_end_shown seen) ∙ ap (λ slot. words_of (call.PartEnd slot)) e)

-- ---- the first call that counts

-- the calls of which this is kept
abbrev Origin : Call → Call → Type 0
Origin (call.TextFragment kept bytes) c = (borrowed : Bool) × (c ≡ call.TextFragment borrowed bytes)
Origin (call.BinaryFragment kept bytes) c = (borrowed : Bool) × (c ≡ call.BinaryFragment borrowed bytes)
Origin (call.Standalone kept) c = (name : Name) × (c ≡ call.Standalone name) × (plain_name name ≡ kept)
Origin (call.EnumBegin kept) c = (name : Name) × (c ≡ call.EnumBegin name) × (plain_name name ≡ kept)
Origin (call.EnumEnd kept) c = (name : Name) × (c ≡ call.EnumEnd name)
Origin (call.TaggedBegin kept) c = (name : Name) × (c ≡ call.TaggedBegin name) × (plain_name name ≡ kept)
Origin (call.TaggedEnd kept) c = (name : Name) × (c ≡ call.TaggedEnd name)
Origin (call.Begin kept size) c = (head : Head) × (c ≡ call.Begin head size) × (plain_head head ≡ kept)
Origin (call.End kept) c = (head : Head) × (c ≡ call.End head)
Origin (call.PartBegin kept) c = (slot : Slot) × (c ≡ call.PartBegin slot) × (plain_slot slot ≡ kept)
Origin (call.PartEnd kept) c = (slot : Slot) × (c ≡ call.PartEnd slot)
Origin kept c = c ≡ kept

-- a call is a hint, or something is kept of it
data Kept (c : Call) : Type 0 where
  hint : (tag : List ℕ) → c ≡ call.TagHint tag → Kept c
  keeps : (kept : Call) → plain_call c ≡ Some kept → Origin kept c → Kept c

kept_of : (c : Call) → Kept c
kept_of (call.TagHint tag) = hint tag refl
kept_of call.Null = keeps call.Null refl refl
kept_of (call.Truth b) = keeps (call.Truth b) refl refl
kept_of (call.Int type number) = keeps (call.Int type number) refl refl
kept_of (call.TextBegin size) = keeps (call.TextBegin size) refl refl
kept_of (call.TextFragment borrowed bytes) = keeps (call.TextFragment false bytes) refl (borrowed, refl)
kept_of call.TextEnd = keeps call.TextEnd refl refl
kept_of (call.BinaryBegin size) = keeps (call.BinaryBegin size) refl refl
kept_of (call.BinaryFragment borrowed bytes) = keeps (call.BinaryFragment false bytes) refl (borrowed, refl)
kept_of call.BinaryEnd = keeps call.BinaryEnd refl refl
kept_of (call.Standalone name) = keeps (call.Standalone (plain_name name)) refl (name, refl, refl)
kept_of (call.EnumBegin name) = keeps (call.EnumBegin (plain_name name)) refl (name, refl, refl)
kept_of (call.EnumEnd name) = keeps (call.EnumEnd (bare_name name)) refl (name, refl)
kept_of (call.TaggedBegin name) = keeps (call.TaggedBegin (plain_name name)) refl (name, refl, refl)
kept_of (call.TaggedEnd name) = keeps (call.TaggedEnd (bare_name name)) refl (name, refl)
kept_of (call.Begin head size) = keeps (call.Begin (plain_head head) size) refl (head, refl, refl)
kept_of (call.End head) = keeps (call.End (bare_head head)) refl (head, refl)
kept_of (call.PartBegin slot) = keeps (call.PartBegin (plain_slot slot)) refl (slot, refl, refl)
kept_of (call.PartEnd slot) = keeps (call.PartEnd (bare_slot slot)) refl (slot, refl)

-- the first of the calls that is no hint, and those behind it
record IsFirst (due calls : List Call) (kept : Call) (rest : List Call) : Type 0 where
  seen : Call
  later : List Call
  origin : Origin kept seen
  plain_later : plain later ≡ rest
  exact : AreExactFrom due (seen ∷ later)
  same : canonical_calls calls ≡ canonical_calls (seen ∷ later)

first_of : (due calls : List Call) (kept : Call) (rest : List Call) → plain calls ≡ kept ∷ rest → AreExactFrom due calls → IsFirst due calls kept rest
first_of due [] kept rest e exact = cc e
first_of due (c ∷ calls) kept rest e exact = by_kept (kept_of c) (λ behind exact_behind. first_of due calls kept rest behind exact_behind)
  where
    by_kept : Kept c → (plain calls ≡ kept ∷ rest → AreExactFrom due calls → IsFirst due calls kept rest) → IsFirst due (c ∷ calls) kept rest
    by_kept (hint tag is) search_on =
        let behind : plain calls ≡ kept ∷ rest = subst (λ seen. plain (seen ∷ calls) ≡ kept ∷ rest) is e in
        let first = search_on behind (subst (λ seen. AreExactFrom due (seen ∷ calls)) is exact) in
        record {
          seen = first.seen;
          later = first.later;
          origin = first.origin;
          plain_later = first.plain_later;
          exact = first.exact;
          same = ap (λ seen. canonical_calls (seen ∷ calls)) is ∙ first.same;
        }
    by_kept (keeps found is origin) search_on =
        let both : found ∷ plain calls ≡ kept ∷ rest = subst (λ p. cons_option p (plain calls) ≡ kept ∷ rest) is e in
        let here : found ≡ kept = cc both in
        let behind : plain calls ≡ rest = cc both in
        record { seen = c; later = calls; origin = subst (λ k. Origin k c) here origin; plain_later = behind; exact = exact; same = refl }

-- ---- printed one by one

one_line : (calls later : List Call) (shown wanted : Call) (tail : List Call) → canonical_calls calls ≡ shown ∷ canonical_calls later → line shown ≡ line wanted → printed_canonically later ≡ printed tail
    → printed_canonically calls ≡ printed (wanted ∷ tail)
unfolding printed
one_line calls later shown wanted tail same e rest =
    ap printed same ∙ ap (λ bytes. (bytes ++ (10 ∷ [])) ++ printed_canonically later) e ∙ ap (λ bytes. whole_line wanted ++ bytes) rest

-- the calls begin with these, of which this is made, and go on exactly behind them
record Begins (due calls rest : List Call) (made : List Call → List Call) : Type 0 where
  later : List Call
  plain_later : plain later ≡ rest
  exact : AreExactFrom due later
  prints : (tail : List Call) → printed_canonically later ≡ printed tail → printed_canonically calls ≡ printed (made tail)

-- the first call that counts, which is shown so
one_seen : (calls later : List Call) (seen is shown wanted : Call) (tail : List Call) → canonical_calls calls ≡ canonical_calls (seen ∷ later) → seen ≡ is → canonical_call is ≡ Some shown → line shown ≡ line wanted
    → printed_canonically later ≡ printed tail → printed_canonically calls ≡ printed (wanted ∷ tail)
one_seen calls later seen is shown wanted tail same seen_is is_shown e rest =
    let first : canonical_calls calls ≡ shown ∷ canonical_calls later =
    same ∙ ap (λ seen. canonical_calls (seen ∷ later)) seen_is ∙ ap (λ shown. cons_option shown (canonical_calls later)) is_shown in
    one_line calls later shown wanted tail first e rest

-- a call alone, behind which the same ends are due
alone : (due calls rest : List Call) (kept is shown wanted : Call) (first : IsFirst due calls kept rest) → first.seen ≡ is → canonical_call is ≡ Some shown → line shown ≡ line wanted
    → ((later : List Call) → AreExactFrom due (is ∷ later) → AreExactFrom due later) → Begins due calls rest (λ tail. wanted ∷ tail)
alone due calls rest kept is shown wanted first seen_is is_shown e pass = record {
  later = first.later;
  plain_later = first.plain_later;
  exact = pass first.later (subst (λ seen. AreExactFrom due (seen ∷ first.later)) seen_is first.exact);
  prints = λ tail printed_later. one_seen calls first.later first.seen is shown wanted tail first.same seen_is is_shown e printed_later;
}

-- a text's fragment is all of it
one_piece : (f : List ℕ → Call) (end : Call) (xs : List ℕ) (pieces : List (List ℕ)) (behind rest : List Call) → ((a b : List ℕ) → f a ≡ f b → a ≡ b) → ((a : List ℕ) → f a ≡ end → ⊥)
    → f xs ∷ end ∷ behind ≡ map f pieces ++ (end ∷ rest) → (concat pieces ≡ xs) × (behind ≡ rest)
one_piece f end xs [] behind rest one apart e = let head : f xs ≡ end = cc e in absurd (apart xs head)
one_piece f end xs (p ∷ []) behind rest one apart e =
    let head : f xs ≡ f p = cc e in
    let tail : behind ≡ rest = cc e in
    (append-nil p ∙ sym (one xs p head), tail)
one_piece f end xs (p ∷ q ∷ ps) behind rest one apart e = let head : end ≡ f q = cc e in absurd (apart q (sym head))

-- a text or a binary that comes whole
whole_begins : (begin : Option ℕ → Call) (fragment : Bool → List ℕ → Call) (end : Call) (due calls later rest : List Call) (size : Option ℕ) (content bytes : List ℕ) (pieces : List (List ℕ))
    → (first : IsFirst due calls (begin size) (map (fragment false) pieces ++ (end ∷ rest))) → first.seen ≡ begin size → size ≡ Some (length content) → concat pieces ≡ bytes → AreExactFrom due later
    → canonical_calls (begin size ∷ first.later) ≡ begin size ∷ fragment true content ∷ end ∷ canonical_calls later → plain first.later ≡ fragment false content ∷ end ∷ plain later
    → ((a b : List ℕ) → fragment false a ≡ fragment false b → a ≡ b) → ((a : List ℕ) → fragment false a ≡ end → ⊥)
    → Begins due calls rest (λ tail. begin (Some (length bytes)) ∷ fragment true bytes ∷ end ∷ tail)
unfolding printed
whole_begins begin fragment end due calls later rest size content bytes pieces first origin sized whole exact shown kept one apart =
    let same = one_piece (fragment false) end content pieces (plain later) rest one apart (sym kept ∙ first.plain_later) in
    let is : content ≡ bytes = sym same.0 ∙ whole in
    let are : canonical_calls calls ≡ begin (Some (length bytes)) ∷ fragment true bytes ∷ end ∷ canonical_calls later =
    first.same ∙ ap (λ seen. canonical_calls (seen ∷ first.later)) origin ∙ shown ∙ ap (λ size. begin size ∷ fragment true content ∷ end ∷ canonical_calls later) sized
    ∙ ap (λ bytes. begin (Some (length bytes)) ∷ fragment true bytes ∷ end ∷ canonical_calls later) is in
    record {
      later = later;
      plain_later = same.1;
      exact = exact;
      prints = λ tail e. ap printed are ∙ ap (λ lines. whole_line (begin (Some (length bytes))) ++ (whole_line (fragment true bytes) ++ (whole_line end ++ lines))) e;
    }

text_begins : (due calls rest : List Call) (bytes : List ℕ) (size : Option ℕ) (pieces : List (List ℕ)) → concat pieces ≡ bytes
    → plain calls ≡ call.TextBegin size ∷ map (call.TextFragment false) pieces ++ call.TextEnd ∷ rest → AreExactFrom due calls → Begins due calls rest (calls_then (Text bytes))
text_begins due calls rest bytes size pieces whole e exact =
    let first = first_of due calls (call.TextBegin size) (map (call.TextFragment false) pieces ++ (call.TextEnd ∷ rest)) e exact in
    let (text, behind) = subst (λ seen. AreExactFrom due (seen ∷ first.later)) first.origin first.exact in
    whole_begins call.TextBegin call.TextFragment call.TextEnd due calls text.later rest size text.bytes bytes pieces first first.origin text.has_size whole (subst (AreExactFrom due) text.are behind)
    (ap (λ later. canonical_calls (call.TextBegin size ∷ later)) text.are) (ap plain text.are) (λ a b same. cc same) (λ a same. cc same)

binary_begins : (due calls rest : List Call) (bytes : List ℕ) (size : Option ℕ) (pieces : List (List ℕ)) → concat pieces ≡ bytes
    → plain calls ≡ call.BinaryBegin size ∷ map (call.BinaryFragment false) pieces ++ call.BinaryEnd ∷ rest → AreExactFrom due calls → Begins due calls rest (calls_then (Binary bytes))
binary_begins due calls rest bytes size pieces whole e exact =
    let first = first_of due calls (call.BinaryBegin size) (map (call.BinaryFragment false) pieces ++ (call.BinaryEnd ∷ rest)) e exact in
    let (binary, behind) = subst (λ seen. AreExactFrom due (seen ∷ first.later)) first.origin first.exact in
    whole_begins call.BinaryBegin call.BinaryFragment call.BinaryEnd due calls binary.later rest size binary.bytes bytes pieces first first.origin binary.has_size whole (subst (AreExactFrom due) binary.are behind)
    (ap (λ later. canonical_calls (call.BinaryBegin size ∷ later)) binary.are) (ap plain binary.are) (λ a b same. cc same) (λ a same. cc same)

-- ---- what a begin and its end hold

-- the end that is due closes, whatever is kept of it
abbrev Closes : List Call → Call → Call → Type 0
Closes due end kept = (seen : Call) (later : List Call) → Origin kept seen → AreExactFrom (end ∷ due) (seen ∷ later) → (seen ≡ end) × AreExactFrom due later

closes : {X : Type 0} (end_of : X → Call) (due : List Call) (it : X) (kept : Call) → ((seen : Call) → Origin kept seen → (other : X) × (seen ≡ end_of other))
    → ((other : X) (later : List Call) → AreExactFrom (end_of it ∷ due) (end_of other ∷ later) → (outer : List Call) × (end_of it ∷ due ≡ end_of other ∷ outer) × AreExactFrom outer later)
    → Closes due (end_of it) kept
closes end_of due it kept origin here seen later is_origin exact =
    let (other, is) = origin seen is_origin in
    let (outer, same, rest) = here other later (subst (λ seen. AreExactFrom (end_of it ∷ due) (seen ∷ later)) is exact) in
    let one : end_of other ≡ end_of it = cc same in
    let outside : outer ≡ due = cc same in
    (is ∙ one, subst (λ due. AreExactFrom due later) outside rest)

-- a begin, what it holds, and its end
wrapped : (due calls inner rest : List Call) (kept begin shown wanted kept_end end wanted_end : Call) (made : List Call → List Call) (first : IsFirst due calls kept inner) → first.seen ≡ begin
    → canonical_call begin ≡ Some shown → line shown ≡ line wanted → canonical_call end ≡ Some end → line end ≡ line wanted_end → Closes due end kept_end
    → Begins (end ∷ due) first.later (kept_end ∷ rest) made → Begins due calls rest (λ tail. wanted ∷ made (wanted_end ∷ tail))
wrapped due calls inner rest kept begin shown wanted kept_end end wanted_end made first seen_is is_shown e end_shown end_e closes held =
    let last = first_of (end ∷ due) held.later kept_end rest held.plain_later held.exact in
    let closed = closes last.seen last.later last.origin last.exact in
    record {
      later = last.later;
      plain_later = last.plain_later;
      exact = closed.1;
      prints = λ tail printed_later.
          one_seen calls first.later first.seen begin shown wanted (made (wanted_end ∷ tail)) first.same seen_is is_shown e
          (held.prints (wanted_end ∷ tail) (one_seen held.later last.later last.seen end end wanted_end tail last.same closed.0 end_shown end_e printed_later));
    }

mutual
  tree_begins : (tree : Tree) (due calls rest : List Call) → Says tree (plain calls) rest → AreExactFrom due calls → Begins due calls rest (calls_then tree)
  tree_begins Null due calls rest says exact =
      let first = first_of due calls call.Null rest says exact in
      alone due calls rest call.Null call.Null call.Null call.Null first first.origin refl refl (λ later exact. exact)
  tree_begins (Truth b) due calls rest says exact =
      let first = first_of due calls (call.Truth b) rest says exact in
      alone due calls rest (call.Truth b) (call.Truth b) (call.Truth b) (call.Truth b) first first.origin refl refl (λ later exact. exact)
  tree_begins (Int type number) due calls rest says exact =
      let it = call.Int type number in
      let first = first_of due calls it rest says exact in
      alone due calls rest it it it it first first.origin refl refl (λ later exact. exact)
  tree_begins (Text bytes) due calls rest (size, pieces, sized, whole, e) exact = text_begins due calls rest bytes size pieces whole e exact
  tree_begins (Binary bytes) due calls rest (size, pieces, sized, whole, e) exact = binary_begins due calls rest bytes size pieces whole e exact
  tree_begins (Standalone name) due calls rest says exact =
      let first = first_of due calls (call.Standalone name) rest says exact in
      let (seen, is, kept) = first.origin in
      alone due calls rest (call.Standalone name) (call.Standalone seen) (call.Standalone seen) (call.Standalone name) first is refl
      (named_line (codes "tag") call.Standalone (λ name. refl) seen name kept) (λ later exact. exact)
  tree_begins (Tagged name tree) due calls rest (inner, e, says) exact =
      let first = first_of due calls (call.TaggedBegin name) inner e exact in
      let (seen, is, kept) = first.origin in
      let end = call.TaggedEnd (bare_name name) in
      let inside : AreExactFrom (call.TaggedEnd seen ∷ due) first.later = subst (λ seen. AreExactFrom due (seen ∷ first.later)) is first.exact in
      let held = tree_begins tree (call.TaggedEnd seen ∷ due) first.later (end ∷ rest) (subst (λ calls. Says tree calls (end ∷ rest)) (sym first.plain_later) says) inside in
      wrapped due calls inner rest (call.TaggedBegin name) (call.TaggedBegin seen) (call.TaggedBegin seen) (call.TaggedBegin name) end (call.TaggedEnd seen) (call.TaggedEnd name) (calls_then tree) first is refl
      (named_line (codes "tagged_begin") call.TaggedBegin (λ name. refl) seen name kept) refl (named_line (codes "tagged_end") call.TaggedEnd (λ name. refl) seen name kept) (closes call.TaggedEnd due seen end (λ seen is. is) (λ other later exact. exact)) held
  tree_begins (EmptyEnum name) due calls rest e exact =
      let end = call.EnumEnd (bare_name name) in
      let first = first_of due calls (call.EnumBegin name) (end ∷ rest) e exact in
      let (seen, is, kept) = first.origin in
      let inside : AreExactFrom (call.EnumEnd seen ∷ due) first.later = subst (λ seen. AreExactFrom due (seen ∷ first.later)) is first.exact in
      let held : Begins (call.EnumEnd seen ∷ due) first.later (end ∷ rest) (λ tail. tail) = record { later = first.later; plain_later = first.plain_later; exact = inside; prints = λ tail e. e } in
      wrapped due calls (end ∷ rest) rest (call.EnumBegin name) (call.EnumBegin seen) (call.EnumBegin seen) (call.EnumBegin name) end (call.EnumEnd seen) (call.EnumEnd name) (λ tail. tail) first is refl
      (named_line (codes "enum_begin") call.EnumBegin (λ name. refl) seen name kept) refl (named_line (codes "enum_end") call.EnumEnd (λ name. refl) seen name kept) (closes call.EnumEnd due seen end (λ seen is. is) (λ other later exact. exact)) held
  tree_begins (Enum name tree) due calls rest (inner, e, says) exact =
      let first = first_of due calls (call.EnumBegin name) inner e exact in
      let (seen, is, kept) = first.origin in
      let end = call.EnumEnd (bare_name name) in
      let inside : AreExactFrom (call.EnumEnd seen ∷ due) first.later = subst (λ seen. AreExactFrom due (seen ∷ first.later)) is first.exact in
      let held = tree_begins tree (call.EnumEnd seen ∷ due) first.later (end ∷ rest) (subst (λ calls. Says tree calls (end ∷ rest)) (sym first.plain_later) says) inside in
      wrapped due calls inner rest (call.EnumBegin name) (call.EnumBegin seen) (call.EnumBegin seen) (call.EnumBegin name) end (call.EnumEnd seen) (call.EnumEnd name) (calls_then tree) first is refl
      (named_line (codes "enum_begin") call.EnumBegin (λ name. refl) seen name kept) refl (named_line (codes "enum_end") call.EnumEnd (λ name. refl) seen name kept) (closes call.EnumEnd due seen end (λ seen is. is) (λ other later exact. exact)) held
  tree_begins (Container head parts) due calls rest (size, inner, sized, e, says) exact =
      let first = first_of due calls (call.Begin head size) inner e exact in
      let (seen, is, kept) = first.origin in
      let end = call.End (bare_head head) in
      let inside : AreExactFrom (call.End seen ∷ due) first.later = subst (λ seen. AreExactFrom due (seen ∷ first.later)) is first.exact in
      let held = parts_begin parts (call.End seen ∷ due) first.later (end ∷ rest) (subst (λ calls. SayParts parts calls (end ∷ rest)) (sym first.plain_later) says) inside in
      wrapped due calls inner rest (call.Begin head size) (call.Begin seen size) (call.Begin seen None) (call.Begin head None) end (call.End seen) (call.End head) (part_calls_then parts) first is refl
      (begin_line seen head kept) refl (end_line seen head kept) (closes call.End due seen end (λ seen is. is) (λ other later exact. exact)) held

  parts_begin : (parts : Parts) (due calls rest : List Call) → SayParts parts (plain calls) rest → AreExactFrom due calls → Begins due calls rest (part_calls_then parts)
  parts_begin none due calls rest says exact = record { later = calls; plain_later = says; exact = exact; prints = λ tail e. e }
  parts_begin (part slot tree parts) due calls rest (inner, after, e, says, say_parts) exact =
      let first = first_of due calls (call.PartBegin slot) inner e exact in
      let (seen, is, kept) = first.origin in
      let end = call.PartEnd (bare_slot slot) in
      let inside : AreExactFrom (call.PartEnd seen ∷ due) first.later = subst (λ seen. AreExactFrom due (seen ∷ first.later)) is first.exact in
      let held = tree_begins tree (call.PartEnd seen ∷ due) first.later (end ∷ after) (subst (λ calls. Says tree calls (end ∷ after)) (sym first.plain_later) says) inside in
      let one = wrapped due calls inner after (call.PartBegin slot) (call.PartBegin seen) (call.PartBegin seen) (call.PartBegin slot) end (call.PartEnd seen) (call.PartEnd slot) (calls_then tree) first is refl
      (part_begin_line seen slot kept) refl (part_end_line seen slot kept) (closes call.PartEnd due seen end (λ seen is. is) (λ other later exact. exact)) held in
      let others = parts_begin parts due one.later rest (subst (λ calls. SayParts parts calls rest) (sym one.plain_later) say_parts) one.exact in
      record {
        later = others.later;
        plain_later = others.plain_later;
        exact = others.exact;
        prints = λ tail printed_later. one.prints (part_calls_then parts tail) (others.prints tail printed_later);
      }

-- of nothing nothing but hints is left, which aren't printed
no_line : (calls : List Call) → plain calls ≡ [] → canonical_calls calls ≡ []
no_line [] e = refl
no_line (c ∷ calls) e = by_kept (kept_of c) (λ behind. no_line calls behind)
  where
    by_kept : Kept c → (plain calls ≡ [] → canonical_calls calls ≡ []) → canonical_calls (c ∷ calls) ≡ []
    by_kept (hint tag is) on = ap (λ seen. canonical_calls (seen ∷ calls)) is ∙ on (subst (λ seen. plain (seen ∷ calls) ≡ []) is e)
    by_kept (keeps found is origin) on = let never : found ∷ plain calls ≡ [] = subst (λ p. cons_option p (plain calls) ≡ []) is e in cc never

pub exact_print_canon : (calls : List Call) (tree : Tree) → Spells calls tree → AreExact calls → printed_canonically calls ≡ canon tree
exact_print_canon calls tree spells exact =
    let all = tree_begins tree [] calls [] spells.1 exact in
    all.prints [] (ap printed (no_line all.later all.plain_later))
