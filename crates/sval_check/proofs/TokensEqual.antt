-- Two tokens are equal exactly where their calls are, as far as these are compared.
use Rattle.std.specs.Prelude.{◌≡◌, ℕ, ℤ, pos, Bool, true, false, ◌&&◌, nat_eq, Option, Some, None, option_map, refl}
use Rattle.std.specs.Option.{option_eq}
use Rattle.std.specs.Bool.{Decides}
use Rattle.std.specs.Str.{bytes_eq}
use Rattle.std.specs.Ordering.{int_eq}
use Rattle.std.proofs.Common.{ap, rules}
use Rattle.std.proofs.lemmas.Slice.Eq.{bytes_eq-Decides}
use Rattle.std.proofs.lemmas.Bool.Decides.{Decides-eqb, Decides-int_eq, Decides-and, Decides-like}
use Rattle.sval_label.specs.declared.tag.Tag as program_tag
use Rattle.sval_label.specs.declared.index.Index as program_index
use Rattle.sval_label.specs.SeenTags.{seen_tag}
use Rattle.sval_label.specs.SeenIndex.{seen_index}
use Rattle.sval_label.specs.Equalities.{same_tag, same_label, same_index}
use Rattle.sval_label.specs.Calls.{Call, Tag, Label, Index, Head, Slot, IntType}
use Rattle.sval_core.specs.Spells.{bare_label, bare_index, bare_name}
use Rattle.sval_check.specs.Tokens.{token_name, token_call, compared}
use Rattle.sval_check.specs.declared.token.TokenName.{TokenName}
use Rattle.sval_check.specs.declared.token.Token.{Token}
use Rattle.sval_check.specs.declared.token.Token.TheVariants as token
use Rattle.sval_check.specs.contracts.token.TokenPartialEq.TheImpl as token_eq
use Rattle.sval_check.specs.contracts.token.TokenNamePartialEq.TheImpl as name_eq

abbrev same_tokens : Token → Token → Bool
same_tokens = (token_eq.ghosts).eq

abbrev same_names : TokenName → TokenName → Bool
same_names = (name_eq.ghosts).eq

-- two calls or parts of different kinds
unlike : {P : Type 0} → (P → ⊥) → Decides false P
unlike never = (λ e. absurd (cc), λ p. absurd (never p))

-- ---- what tokens are made of

pub names_decide : (a b : TokenName) → Decides (same_names a b) (bare_name (token_name a) ≡ bare_name (token_name b))
names_decide a b = search rules

truth_decides : (a b : Bool) → Decides (same_tokens (token.Bool a) (token.Bool b)) (Call.Truth a ≡ Call.Truth b)
truth_decides true true = (λ _. refl, λ _. refl)
truth_decides true false = unlike (λ e. cc)
truth_decides false true = unlike (λ e. cc)
truth_decides false false = (λ _. refl, λ _. refl)

nats_decide : (type : IntType) (a b : ℕ) → Decides (nat_eq a b) (Call.Int type (pos a) ≡ Call.Int type (pos b))
nats_decide type a b = Decides-like (nat_eq a b) (λ e. ap (λ n. Call.Int type (pos n)) e) (λ e. cc) (Decides-eqb a b)

ints_decide : (type : IntType) (a b : ℤ) → Decides (int_eq a b) (Call.Int type a ≡ Call.Int type b)
ints_decide type a b = Decides-like (int_eq a b) (λ e. ap (Call.Int type) e) (λ e. cc) (Decides-int_eq a b)

sizes_decide : (a b : Option ℕ) → Decides (option_eq nat_eq a b) (a ≡ b)
sizes_decide None None = (λ _. refl, λ _. refl)
sizes_decide None (Some b) = unlike (λ e. cc)
sizes_decide (Some a) None = unlike (λ e. cc)
sizes_decide (Some a) (Some b) = Decides-like (nat_eq a b) (λ e. ap Some e) (λ e. cc) (Decides-eqb a b)

abbrev same_tags : Option program_tag.Tag → Option program_tag.Tag → Bool
same_tags = option_eq (λ a b. same_tag (seen_tag a) (seen_tag b))

tags_decide : (a b : Option program_tag.Tag) → Decides (same_tags a b) (option_map seen_tag a ≡ option_map seen_tag b)
tags_decide None None = (λ _. refl, λ _. refl)
tags_decide None (Some b) = unlike (λ e. cc)
tags_decide (Some a) None = unlike (λ e. cc)
tags_decide (Some a) (Some b) = Decides-like (same_tag (seen_tag a) (seen_tag b)) (λ e. ap Some e) (λ e. cc) (bytes_eq-Decides (seen_tag a) (seen_tag b))

labels_decide : (a b : Label) → Decides (same_label a b) (bare_label a ≡ bare_label b)
labels_decide a b =
    Decides-like (same_label a b) (λ e. ap (λ text. let l : Label = record { text = text; tag = None; is_static = false } in l) e) (λ e. ap (λ (l : Label). l.text) e)
    (bytes_eq-Decides a.text b.text)

indexes_decide : (a b : Index) → Decides (same_index a b) (bare_index a ≡ bare_index b)
indexes_decide a b =
    Decides-like (same_index a b) (λ e. ap (λ n. let i : Index = record { number = n; tag = None } in i) e) (λ e. ap (λ (i : Index). i.number) e)
    (Decides-int_eq a.number b.number)

-- ---- the places of parts, and containers

field_of : {t t' : Option Tag} {l l' : Label} → (t ≡ t') × (l ≡ l') → Slot.Field t l ≡ Slot.Field t' l'
field_of e = let a = e.0 in let b = e.1 in cc

place_of : {t t' : Option Tag} {i i' : Index} → (t ≡ t') × (i ≡ i') → Slot.Place t i ≡ Slot.Place t' i'
place_of e = let a = e.0 in let b = e.1 in cc

field_place_of : {t t' : Option Tag} {l l' : Label} {i i' : Index} → (t ≡ t') × ((l ≡ l') × (i ≡ i')) → Slot.FieldPlace t l i ≡ Slot.FieldPlace t' l' i'
field_place_of e = let a = e.0 in let b = e.1.0 in let c = e.1.1 in cc

fields_decide : (t t' : Option program_tag.Tag) (l l' : Label) → Decides (same_tags t t' && same_label l l') (Slot.Field (option_map seen_tag t) (bare_label l) ≡ Slot.Field (option_map seen_tag t') (bare_label l'))
fields_decide t t' l l' =
    Decides-like (same_tags t t' && same_label l l') field_of (λ e. (cc, cc)) (Decides-and (same_tags t t') (same_label l l') (tags_decide t t') (labels_decide l l'))

places_decide : (t t' : Option program_tag.Tag) (i i' : Index) → Decides (same_tags t t' && same_index i i') (Slot.Place (option_map seen_tag t) (bare_index i) ≡ Slot.Place (option_map seen_tag t') (bare_index i'))
places_decide t t' i i' =
    Decides-like (same_tags t t' && same_index i i') place_of (λ e. (cc, cc)) (Decides-and (same_tags t t') (same_index i i') (tags_decide t t') (indexes_decide i i'))

field_places_decide : (t t' : Option program_tag.Tag) (l l' : Label) (i i' : Index)
    → Decides (same_tags t t' && (same_label l l' && same_index i i'))
    (Slot.FieldPlace (option_map seen_tag t) (bare_label l) (bare_index i) ≡ Slot.FieldPlace (option_map seen_tag t') (bare_label l') (bare_index i'))
field_places_decide t t' l l' i i' =
    Decides-like (same_tags t t' && (same_label l l' && same_index i i')) field_place_of (λ e. (cc, (cc, cc)))
    (Decides-and (same_tags t t') (same_label l l' && same_index i i') (tags_decide t t')
    (Decides-and (same_label l l') (same_index i i') (labels_decide l l') (indexes_decide i i')))

-- a part's begin, and its end
part_begins : {s s' : Slot} (same : Bool) → Decides same (s ≡ s') → Decides same (Call.PartBegin s ≡ Call.PartBegin s')
part_begins same slots = Decides-like same (λ e. ap Call.PartBegin e) (λ e. cc) slots

part_ends : {s s' : Slot} (same : Bool) → Decides same (s ≡ s') → Decides same (Call.PartEnd s ≡ Call.PartEnd s')
part_ends same slots = Decides-like same (λ e. ap Call.PartEnd e) (λ e. cc) slots

begin_of : {h h' : Head} {s s' : Option ℕ} → (h ≡ h') × (s ≡ s') → Call.Begin h s ≡ Call.Begin h' s'
begin_of e = let a = e.0 in let b = e.1 in cc

-- a container's begin with a name, without one, and its end
begins : {h h' : Head} (same : Bool) (s s' : Option ℕ) → Decides same (h ≡ h') → Decides (same && option_eq nat_eq s s') (Call.Begin h s ≡ Call.Begin h' s')
begins same s s' heads =
    Decides-like (same && option_eq nat_eq s s') begin_of (λ e. (cc, cc)) (Decides-and same (option_eq nat_eq s s') heads (sizes_decide s s'))

bare_begins : {h : Head} (s s' : Option ℕ) → Decides (option_eq nat_eq s s') (Call.Begin h s ≡ Call.Begin h s')
bare_begins {h = h} s s' = Decides-like (option_eq nat_eq s s') (λ e. ap (Call.Begin h) e) (λ e. cc) (sizes_decide s s')

ends : {h h' : Head} (same : Bool) → Decides same (h ≡ h') → Decides same (Call.End h ≡ Call.End h')
ends same heads = Decides-like same (λ e. ap Call.End e) (λ e. cc) heads

records : (n m : TokenName) → Decides (same_names n m) (Head.Record (bare_name (token_name n)) ≡ Head.Record (bare_name (token_name m)))
records n m = Decides-like (same_names n m) (λ e. ap Head.Record e) (λ e. cc) (names_decide n m)

tuples : (n m : TokenName) → Decides (same_names n m) (Head.Tuple (bare_name (token_name n)) ≡ Head.Tuple (bare_name (token_name m)))
tuples n m = Decides-like (same_names n m) (λ e. ap Head.Tuple e) (λ e. cc) (names_decide n m)

record_tuples : (n m : TokenName) → Decides (same_names n m) (Head.RecordTuple (bare_name (token_name n)) ≡ Head.RecordTuple (bare_name (token_name m)))
record_tuples n m = Decides-like (same_names n m) (λ e. ap Head.RecordTuple e) (λ e. cc) (names_decide n m)

-- ---- tokens

pub tokens_decide : (a b : Token) → Decides (same_tokens a b) (compared (token_call a) ≡ compared (token_call b))
tokens_decide token.Null token.Null = (λ _. refl, λ _. refl)
tokens_decide (token.Bool a) (token.Bool b) = truth_decides a b
tokens_decide (token.U8 a) (token.U8 b) = nats_decide IntType.U8 a b
tokens_decide (token.U16 a) (token.U16 b) = nats_decide IntType.U16 a b
tokens_decide (token.U32 a) (token.U32 b) = nats_decide IntType.U32 a b
tokens_decide (token.U64 a) (token.U64 b) = nats_decide IntType.U64 a b
tokens_decide (token.U128 a) (token.U128 b) = nats_decide IntType.U128 a b
tokens_decide (token.I8 a) (token.I8 b) = ints_decide IntType.I8 a b
tokens_decide (token.I16 a) (token.I16 b) = ints_decide IntType.I16 a b
tokens_decide (token.I32 a) (token.I32 b) = ints_decide IntType.I32 a b
tokens_decide (token.I64 a) (token.I64 b) = ints_decide IntType.I64 a b
tokens_decide (token.I128 a) (token.I128 b) = ints_decide IntType.I128 a b
tokens_decide (token.TextBegin s) (token.TextBegin s') = Decides-like (option_eq nat_eq s s') (λ e. ap Call.TextBegin e) (λ e. cc) (sizes_decide s s')
tokens_decide (token.TextFragment a) (token.TextFragment b) = Decides-like (bytes_eq a.now b.now) (λ e. ap (Call.TextFragment true) e) (λ e. cc) (bytes_eq-Decides a.now b.now)
tokens_decide (token.TextFragmentComputed a) (token.TextFragmentComputed b) = Decides-like (bytes_eq a b) (λ e. ap (Call.TextFragment false) e) (λ e. cc) (bytes_eq-Decides a b)
tokens_decide token.TextEnd token.TextEnd = (λ _. refl, λ _. refl)
tokens_decide (token.BinaryBegin s) (token.BinaryBegin s') = Decides-like (option_eq nat_eq s s') (λ e. ap Call.BinaryBegin e) (λ e. cc) (sizes_decide s s')
tokens_decide (token.BinaryFragment a) (token.BinaryFragment b) = Decides-like (bytes_eq a.now b.now) (λ e. ap (Call.BinaryFragment true) e) (λ e. cc) (bytes_eq-Decides a.now b.now)
tokens_decide (token.BinaryFragmentComputed a) (token.BinaryFragmentComputed b) = Decides-like (bytes_eq a b) (λ e. ap (Call.BinaryFragment false) e) (λ e. cc) (bytes_eq-Decides a b)
tokens_decide token.BinaryEnd token.BinaryEnd = (λ _. refl, λ _. refl)
tokens_decide (token.MapBegin s) (token.MapBegin s') = bare_begins s s'
tokens_decide token.MapKeyBegin token.MapKeyBegin = (λ _. refl, λ _. refl)
tokens_decide token.MapKeyEnd token.MapKeyEnd = (λ _. refl, λ _. refl)
tokens_decide token.MapValueBegin token.MapValueBegin = (λ _. refl, λ _. refl)
tokens_decide token.MapValueEnd token.MapValueEnd = (λ _. refl, λ _. refl)
tokens_decide token.MapEnd token.MapEnd = (λ _. refl, λ _. refl)
tokens_decide (token.SeqBegin s) (token.SeqBegin s') = bare_begins s s'
tokens_decide token.SeqValueBegin token.SeqValueBegin = (λ _. refl, λ _. refl)
tokens_decide token.SeqValueEnd token.SeqValueEnd = (λ _. refl, λ _. refl)
tokens_decide token.SeqEnd token.SeqEnd = (λ _. refl, λ _. refl)
tokens_decide (token.EnumBegin n) (token.EnumBegin m) = Decides-like (same_names n m) (λ e. ap Call.EnumBegin e) (λ e. cc) (names_decide n m)
tokens_decide (token.EnumEnd n) (token.EnumEnd m) = Decides-like (same_names n m) (λ e. ap Call.EnumEnd e) (λ e. cc) (names_decide n m)
tokens_decide (token.TaggedBegin n) (token.TaggedBegin m) = Decides-like (same_names n m) (λ e. ap Call.TaggedBegin e) (λ e. cc) (names_decide n m)
tokens_decide (token.TaggedEnd n) (token.TaggedEnd m) = Decides-like (same_names n m) (λ e. ap Call.TaggedEnd e) (λ e. cc) (names_decide n m)
tokens_decide (token.Tag n) (token.Tag m) = Decides-like (same_names n m) (λ e. ap Call.Standalone e) (λ e. cc) (names_decide n m)
tokens_decide (token.TagHint a) (token.TagHint b) = Decides-like (same_tag (seen_tag a) (seen_tag b)) (λ e. ap Call.TagHint e) (λ e. cc) (bytes_eq-Decides (seen_tag a) (seen_tag b))
tokens_decide (token.RecordBegin n s) (token.RecordBegin m s') = begins (same_names n m) s s' (records n m)
tokens_decide (token.RecordValueBegin t l) (token.RecordValueBegin t' l') = part_begins _ (fields_decide t t' l l')
tokens_decide (token.RecordValueEnd t l) (token.RecordValueEnd t' l') = part_ends _ (fields_decide t t' l l')
tokens_decide (token.RecordEnd n) (token.RecordEnd m) = ends (same_names n m) (records n m)
tokens_decide (token.TupleBegin n s) (token.TupleBegin m s') = begins (same_names n m) s s' (tuples n m)
tokens_decide (token.TupleValueBegin t i) (token.TupleValueBegin t' i') = part_begins _ (places_decide t t' (seen_index i) (seen_index i'))
tokens_decide (token.TupleValueEnd t i) (token.TupleValueEnd t' i') = part_ends _ (places_decide t t' (seen_index i) (seen_index i'))
tokens_decide (token.TupleEnd n) (token.TupleEnd m) = ends (same_names n m) (tuples n m)
tokens_decide (token.RecordTupleBegin n s) (token.RecordTupleBegin m s') = begins (same_names n m) s s' (record_tuples n m)
tokens_decide (token.RecordTupleValueBegin t l i) (token.RecordTupleValueBegin t' l' i') = part_begins _ (field_places_decide t t' l l' (seen_index i) (seen_index i'))
tokens_decide (token.RecordTupleValueEnd t l i) (token.RecordTupleValueEnd t' l' i') = part_ends _ (field_places_decide t t' l l' (seen_index i) (seen_index i'))
tokens_decide (token.RecordTupleEnd n) (token.RecordTupleEnd m) = ends (same_names n m) (record_tuples n m)
tokens_decide a b = unlike (λ e. cc)
