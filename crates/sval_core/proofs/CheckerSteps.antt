-- The machine as a function gives a state exactly where the machine goes there.
use Rattle.std.specs.Prelude.{◌≡◌, ℕ, ◌-◌, ◌≤◌, Bool, true, false, ◌&&◌, nat_le, List, [], ◌∷◌, length, Option, Some, None, is_some, option_map, refl}
use Rattle.std.specs.Option.{unwrap_or}
use Rattle.std.specs.Bool.{Decides, then_some}
use Rattle.std.proofs.Common.{sym, ap, ◌∙◌, subst, arith}
use Rattle.std.proofs.lemmas.Bool.Decides.{Decides-and, Decides-eqb, nat_tests}
use Rattle.sval_label.specs.Calls.{Call, Head, Slot, Name}
use Rattle.sval_core.specs.Trees as tree
use Rattle.sval_core.specs.Trees.{Tree, Parts, none, Kind, Item, Key, Value, Field, Place, FieldPlace, kind_of, first_kind, next_kind, MayEnd, TextKind, Ordinary, Number, JsonValue, JsonText, JsonNumber, text_kind, MayHold, IsVariant, plain_label, plain_name, plain_head, plain_slot}
use Rattle.sval_core.specs.Spells.{IsSize, new_entries, bare_name, bare_head, bare_slot, plain}
use Rattle.sval_core.specs.SameNames.{same_name, same_head, same_slot}
use Rattle.sval_core.specs.Stacks.{top_of}
use Rattle.sval_core.specs.Checker as machine
use Rattle.sval_core.specs.Checker.{Frame, InText, InBinary, InTagged, InEnum, InContainer, InPart, Admits, Leaves, Steps, Runs, done, more, State}
use Rattle.sval_core.specs.CheckerSteps.{Form, OneText, Variant, Other, is_variant, form_of_head, may_hold, admits, take_off, is_used_up, same_kind, may_end, filled, unfilled, value, begin, at_top, text_fragment, text_end, binary_fragment, binary_end, tagged_end, enum_end, end, begun_part, part_begin, part_end, next, goes_on, state_after}
use Rattle.sval_core.specs.StepLaws.{Goes}
use Rattle.sval_core.proofs.SameNames.{name_decides, head_decides, slot_decides}
use Rattle.sval_core.proofs.ToldTrees.{plain_name_twice, plain_head_twice, plain_slot_twice}

-- ---- the tests

always : {P : Type 0} → P → Decides true P
always p = (λ _. p, λ _. refl)

unlike : {P : Type 0} → (P → ⊥) → Decides false P
unlike never = (λ e. absurd (cc), λ p. absurd (never p))

abbrev form_of : Tree → Form
form_of (tree.Text bytes) = OneText
form_of (tree.Standalone name) = Variant
form_of (tree.Tagged name inner) = Variant
form_of (tree.EmptyEnum name) = Variant
form_of (tree.Enum name inner) = Variant
form_of (tree.Container head parts) = form_of_head head
form_of other = Other

holds_decides : (kind : TextKind) (t : Tree) → Decides (may_hold kind (form_of t)) (MayHold kind t)
holds_decides Ordinary t = always tt
holds_decides kind (tree.Text bytes) = always tt
holds_decides kind (tree.Container Head.Seq parts) = unlike (λ h. h)
holds_decides kind (tree.Container Head.Map parts) = unlike (λ h. h)
holds_decides kind (tree.Container (Head.Record name) parts) = unlike (λ h. h)
holds_decides kind (tree.Container (Head.Tuple name) parts) = unlike (λ h. h)
holds_decides kind (tree.Container (Head.RecordTuple name) parts) = unlike (λ h. h)
holds_decides kind t = unlike (λ h. h)

variant_decides : (t : Tree) → Decides (is_variant (form_of t)) (IsVariant t)
variant_decides tree.Null = unlike (λ h. h)
variant_decides (tree.Truth b) = unlike (λ h. h)
variant_decides (tree.Int type n) = unlike (λ h. h)
variant_decides (tree.Text bytes) = unlike (λ h. h)
variant_decides (tree.Binary bytes) = unlike (λ h. h)
variant_decides (tree.Container Head.Seq parts) = unlike (λ h. h)
variant_decides (tree.Container Head.Map parts) = unlike (λ h. h)
variant_decides (tree.Container (Head.Record name) parts) = always tt
variant_decides (tree.Container (Head.Tuple name) parts) = always tt
variant_decides (tree.Container (Head.RecordTuple name) parts) = always tt
variant_decides t = always tt

admits_decides : (fs : List Frame) (t : Tree) → Decides (admits (top_of fs) (form_of t)) (Admits fs t)
admits_decides [] t = always tt
admits_decides (InPart slot ∷ fs) t = always tt
admits_decides (InTagged name ∷ fs) t = holds_decides (text_kind name.tag) t
admits_decides (InEnum name ∷ fs) t = variant_decides t
admits_decides (InText left ∷ fs) t = unlike (λ h. h)
admits_decides (InBinary left ∷ fs) t = unlike (λ h. h)
admits_decides (InContainer head kind left ∷ fs) t = unlike (λ h. h)

used_up_decides : (left : Option ℕ) → Decides (is_used_up left) (IsSize left 0)
used_up_decides None = always tt
used_up_decides (Some due) = Decides-eqb due 0

kind_decides : (a b : Kind) → Decides (same_kind a b) (a ≡ b)
kind_decides Item Item = always refl
kind_decides Key Key = always refl
kind_decides Value Value = always refl
kind_decides Field Field = always refl
kind_decides Place Place = always refl
kind_decides FieldPlace FieldPlace = always refl
kind_decides a b = unlike (λ e. cc e)

end_decides : (kind : Kind) → Decides (may_end kind) (MayEnd kind)
end_decides Value = unlike (λ h. h)
end_decides kind = always tt

-- ---- what is taken off a size

is_taken : {A : Type 0} (b : Bool) (x y : A) → then_some b x ≡ Some y → (b ≡ true) × (x ≡ y)
is_taken true x y e = let same : x ≡ y = cc e in (refl, same)
is_taken false x y e = absurd (cc)

takes : {A : Type 0} (b : Bool) (x : A) → b ≡ true → then_some b x ≡ Some x
takes b x e = ap (λ v. then_some v x) e

enough : (n due : ℕ) → nat_le n due ≡ true → n ≤ due
enough n due e = grind (arith, nat_tests)

is_enough : (n due : ℕ) → n ≤ due → nat_le n due ≡ true
is_enough n due h = grind (arith, nat_tests)

off_takes : (left : Option ℕ) (n : ℕ) (rest : Option ℕ) → take_off left n ≡ Some rest → Leaves left n rest
off_takes None n rest e = let same : None ≡ rest = cc e in sym same
off_takes (Some due) n rest e =
    let t = is_taken (nat_le n due) (Some (due - n)) rest e in
    let h = enough n due t.0 in (due - n, sym t.1, omega (arith, h))

takes_off : (left : Option ℕ) (n : ℕ) (rest : Option ℕ) → Leaves left n rest → take_off left n ≡ Some rest
takes_off None n rest t = ap (λ x. Some x) (sym t)
takes_off (Some due) n rest t =
    let h : n ≤ due = omega (arith, t.2) in
    let e : due - n ≡ t.0 = omega (arith, t.2) in
    takes (nat_le n due) (Some (due - n)) (is_enough n due h) ∙ ap (λ x. Some (Some x)) e ∙ ap (λ x. Some x) (sym t.1)

-- ---- what is plain of a part's place

same_place_kind : (slot : Slot) → kind_of (plain_slot slot) ≡ kind_of slot
same_place_kind Slot.Item = refl
same_place_kind Slot.Key = refl
same_place_kind Slot.Value = refl
same_place_kind (Slot.Field tag label) = refl
same_place_kind (Slot.Place tag index) = refl
same_place_kind (Slot.FieldPlace tag label index) = refl

same_entries : (slot : Slot) → new_entries (plain_slot slot) ≡ new_entries slot
same_entries Slot.Item = refl
same_entries Slot.Key = refl
same_entries Slot.Value = refl
same_entries (Slot.Field tag label) = refl
same_entries (Slot.Place tag index) = refl
same_entries (Slot.FieldPlace tag label index) = refl

-- ---- where the function gives a state, the machine goes there

abbrev state : Bool → List Frame → State
state b fs = record { filled = b; frames = fs }

abbrev OneStep : Bool → List Frame → Call → State → Type 0
OneStep b fs p new = Runs b fs (p ∷ []) new.filled new.frames

went : {b : Bool} {fs : List Frame} {p : Call} (there new : State) → there ≡ new → Steps b fs p there.filled there.frames → OneStep b fs p new
went {b} {fs} {p} there new e s = subst (λ (x : State). OneStep b fs p x) e (more s done)

value_goes : (p : Call) (t : Tree) (b : Bool) (fs : List Frame) (new : State) → (Admits fs t → Steps false fs p true fs) → value (form_of t) (state b fs) ≡ Some new → OneStep b fs p new
value_goes p t true fs new f e = absurd (cc e)
value_goes p t false fs new f e =
    let w = is_taken (admits (top_of fs) (form_of t)) (filled fs) new e in
    went (filled fs) new w.1 (f ((admits_decides fs t).0 w.0))

begin_goes : (p : Call) (t : Tree) (frame : Frame) (b : Bool) (fs : List Frame) (new : State) → (Admits fs t → Steps false fs p false (frame ∷ fs)) → begin (form_of t) frame (state b fs) ≡ Some new → OneStep b fs p new
begin_goes p t frame true fs new f e = absurd (cc e)
begin_goes p t frame false fs new f e =
    let w = is_taken (admits (top_of fs) (form_of t)) (unfilled (frame ∷ fs)) new e in
    went (unfilled (frame ∷ fs)) new w.1 (f ((admits_decides fs t).0 w.0))

pub some_mapped : {A B : Type 0} (f : A → B) (o : Option A) (y : B) → option_map f o ≡ Some y → (x : A) × (o ≡ Some x) × (f x ≡ y)
some_mapped f None y e = absurd (cc e)
some_mapped f (Some x) y e = let same : f x ≡ y = cc e in (x, refl, same)

text_fragment_goes : (bytes : List ℕ) (b : Bool) (fs : List Frame) (new : State) → at_top (text_fragment (length bytes)) (state b fs) ≡ Some new → OneStep b fs (Call.TextFragment false bytes) new
text_fragment_goes bytes false (InText left ∷ fs) new e =
    let w = some_mapped (λ (rest : Option ℕ). unfilled (InText rest ∷ fs)) (take_off left (length bytes)) new e in
    went (unfilled (InText w.0 ∷ fs)) new w.2 (machine.text_fragment (off_takes left (length bytes) w.0 w.1))
text_fragment_goes bytes false [] new e = absurd (cc e)
text_fragment_goes bytes false (f ∷ fs) new e = absurd (cc e)
text_fragment_goes bytes true fs new e = absurd (cc e)

binary_fragment_goes : (bytes : List ℕ) (b : Bool) (fs : List Frame) (new : State) → at_top (binary_fragment (length bytes)) (state b fs) ≡ Some new → OneStep b fs (Call.BinaryFragment false bytes) new
binary_fragment_goes bytes false (InBinary left ∷ fs) new e =
    let w = some_mapped (λ (rest : Option ℕ). unfilled (InBinary rest ∷ fs)) (take_off left (length bytes)) new e in
    went (unfilled (InBinary w.0 ∷ fs)) new w.2 (machine.binary_fragment (off_takes left (length bytes) w.0 w.1))
binary_fragment_goes bytes false [] new e = absurd (cc e)
binary_fragment_goes bytes false (f ∷ fs) new e = absurd (cc e)
binary_fragment_goes bytes true fs new e = absurd (cc e)

text_end_goes : (b : Bool) (fs : List Frame) (new : State) → at_top text_end (state b fs) ≡ Some new → OneStep b fs Call.TextEnd new
text_end_goes false (InText left ∷ fs) new e =
    let w = is_taken (is_used_up left) (filled fs) new e in went (filled fs) new w.1 (machine.text_end ((used_up_decides left).0 w.0))
text_end_goes false [] new e = absurd (cc e)
text_end_goes false (f ∷ fs) new e = absurd (cc e)
text_end_goes true fs new e = absurd (cc e)

binary_end_goes : (b : Bool) (fs : List Frame) (new : State) → at_top binary_end (state b fs) ≡ Some new → OneStep b fs Call.BinaryEnd new
binary_end_goes false (InBinary left ∷ fs) new e =
    let w = is_taken (is_used_up left) (filled fs) new e in went (filled fs) new w.1 (machine.binary_end ((used_up_decides left).0 w.0))
binary_end_goes false [] new e = absurd (cc e)
binary_end_goes false (f ∷ fs) new e = absurd (cc e)
binary_end_goes true fs new e = absurd (cc e)

tagged_end_goes : (ended : Name) (b : Bool) (fs : List Frame) (new : State) → at_top (tagged_end ended) (state b fs) ≡ Some new → OneStep b fs (Call.TaggedEnd (bare_name ended)) new
tagged_end_goes ended true (InTagged name ∷ fs) new e =
    let w = is_taken (same_name ended name) (filled fs) new e in went (filled fs) new w.1 (machine.tagged_end ((name_decides ended name).0 w.0))
tagged_end_goes ended true [] new e = absurd (cc e)
tagged_end_goes ended true (f ∷ fs) new e = absurd (cc e)
tagged_end_goes ended false fs new e = absurd (cc e)

enum_end_goes : (ended : Name) (b : Bool) (fs : List Frame) (new : State) → at_top (enum_end ended) (state b fs) ≡ Some new → OneStep b fs (Call.EnumEnd (bare_name ended)) new
enum_end_goes ended b (InEnum name ∷ fs) new e =
    let w = is_taken (same_name ended name) (filled fs) new e in went (filled fs) new w.1 (machine.enum_end ((name_decides ended name).0 w.0))
enum_end_goes ended b [] new e = absurd (cc e)
enum_end_goes ended b (f ∷ fs) new e = absurd (cc e)

end_test : (ended head : Head) (kind : Kind) (left : Option ℕ) → Decides (same_head ended head && (may_end kind && is_used_up left)) ((bare_head ended ≡ bare_head head) × (MayEnd kind × IsSize left 0))
end_test ended head kind left = Decides-and (same_head ended head) (may_end kind && is_used_up left) (head_decides ended head) (Decides-and (may_end kind) (is_used_up left) (end_decides kind) (used_up_decides left))

end_goes : (ended : Head) (b : Bool) (fs : List Frame) (new : State) → at_top (end ended) (state b fs) ≡ Some new → OneStep b fs (Call.End (bare_head ended)) new
end_goes ended false (InContainer head kind left ∷ fs) new e =
    let w = is_taken (same_head ended head && (may_end kind && is_used_up left)) (filled fs) new e in
    let h = (end_test ended head kind left).0 w.0 in went (filled fs) new w.1 (machine.end h.0 h.1.0 h.1.1)
end_goes ended false [] new e = absurd (cc e)
end_goes ended false (f ∷ fs) new e = absurd (cc e)
end_goes ended true fs new e = absurd (cc e)

abbrev part_there : Slot → Head → Kind → List Frame → Option ℕ → State
part_there slot head kind fs rest = unfilled (InPart (plain_slot slot) ∷ InContainer head (next_kind kind) rest ∷ fs)

some_part : (b : Bool) (slot : Slot) (head : Head) (kind : Kind) (fs : List Frame) (o : Option (Option ℕ)) (new : State) → begun_part b slot head kind fs o ≡ Some new
    → (b ≡ true) × (rest : Option ℕ) × (o ≡ Some rest) × (part_there slot head kind fs rest ≡ new)
some_part true slot head kind fs (Some rest) new e = let same : part_there slot head kind fs rest ≡ new = cc e in (refl, rest, refl, same)
some_part true slot head kind fs None new e = absurd (cc e)
some_part false slot head kind fs o new e = absurd (cc e)

part_begin_goes : (slot : Slot) (b : Bool) (fs : List Frame) (new : State) → at_top (part_begin slot) (state b fs) ≡ Some new → OneStep b fs (Call.PartBegin (plain_slot slot)) new
part_begin_goes slot false (InContainer head kind left ∷ fs) new e =
    let w = some_part (same_kind (kind_of slot) kind) slot head kind fs (take_off left (new_entries slot)) new e in
    let t = off_takes left (new_entries slot) w.1 w.2 in
    went (part_there slot head kind fs w.1) new w.3
    (machine.part_begin (plain_slot_twice slot) (same_place_kind slot ∙ (kind_decides (kind_of slot) kind).0 w.0) (subst (λ n. Leaves left n w.1) (sym (same_entries slot)) t))
part_begin_goes slot false [] new e = absurd (cc e)
part_begin_goes slot false (f ∷ fs) new e = absurd (cc e)
part_begin_goes slot true fs new e = absurd (cc e)

part_end_goes : (ended : Slot) (b : Bool) (fs : List Frame) (new : State) → at_top (part_end ended) (state b fs) ≡ Some new → OneStep b fs (Call.PartEnd (bare_slot ended)) new
part_end_goes ended true (InPart slot ∷ fs) new e =
    let w = is_taken (same_slot ended slot) (unfilled fs) new e in went (unfilled fs) new w.1 (machine.part_end ((slot_decides ended slot).0 w.0))
part_end_goes ended true [] new e = absurd (cc e)
part_end_goes ended true (f ∷ fs) new e = absurd (cc e)
part_end_goes ended false fs new e = absurd (cc e)

here : (b : Bool) (fs : List Frame) (new : State) → state b fs ≡ new → Runs b fs [] new.filled new.frames
here b fs new e = subst (λ (x : State). Runs b fs [] x.filled x.frames) e done

step_goes : (call : Call) (b : Bool) (fs : List Frame) (new : State) → next (state b fs) call ≡ Some new → Goes (state b fs) call new
step_goes Call.Null b fs new e = value_goes Call.Null tree.Null b fs new (λ a. machine.null a) e
step_goes (Call.Truth v) b fs new e = value_goes (Call.Truth v) (tree.Truth v) b fs new (λ a. machine.truth a) e
step_goes (Call.Int type n) b fs new e = value_goes (Call.Int type n) (tree.Int type n) b fs new (λ a. machine.int a) e
step_goes (Call.Standalone name) b fs new e = value_goes (Call.Standalone (plain_name name)) (tree.Standalone (plain_name name)) b fs new (λ a. machine.standalone (plain_name_twice name) a) e
step_goes (Call.TagHint tag) b fs new e = let same : state b fs ≡ new = cc e in here b fs new same
step_goes (Call.TextBegin size) b fs new e = begin_goes (Call.TextBegin size) (tree.Text []) (InText size) b fs new (λ a. machine.text_begin a) e
step_goes (Call.TextFragment borrowed bytes) b fs new e = text_fragment_goes bytes b fs new e
step_goes Call.TextEnd b fs new e = text_end_goes b fs new e
step_goes (Call.BinaryBegin size) b fs new e = begin_goes (Call.BinaryBegin size) (tree.Binary []) (InBinary size) b fs new (λ a. machine.binary_begin a) e
step_goes (Call.BinaryFragment borrowed bytes) b fs new e = binary_fragment_goes bytes b fs new e
step_goes Call.BinaryEnd b fs new e = binary_end_goes b fs new e
step_goes (Call.EnumBegin name) b fs new e =
    begin_goes (Call.EnumBegin (plain_name name)) (tree.EmptyEnum (plain_name name)) (InEnum (plain_name name)) b fs new (λ a. machine.enum_begin (plain_name_twice name) a) e
step_goes (Call.EnumEnd name) b fs new e = enum_end_goes name b fs new e
step_goes (Call.TaggedBegin name) b fs new e =
    begin_goes (Call.TaggedBegin (plain_name name)) (tree.Tagged (plain_name name) tree.Null) (InTagged (plain_name name)) b fs new (λ a. machine.tagged_begin (plain_name_twice name) a) e
step_goes (Call.TaggedEnd name) b fs new e = tagged_end_goes name b fs new e
step_goes (Call.Begin Head.Seq size) b fs new e =
    begin_goes (Call.Begin Head.Seq size) (tree.Container Head.Seq none) (InContainer Head.Seq Item size) b fs new (λ a. machine.begin refl a) e
step_goes (Call.Begin Head.Map size) b fs new e =
    begin_goes (Call.Begin Head.Map size) (tree.Container Head.Map none) (InContainer Head.Map Key size) b fs new (λ a. machine.begin refl a) e
step_goes (Call.Begin (Head.Record name) size) b fs new e =
    begin_goes (Call.Begin (Head.Record (plain_name name)) size) (tree.Container (Head.Record (plain_name name)) none) (InContainer (Head.Record (plain_name name)) Field size) b fs new
    (λ a. machine.begin (plain_head_twice (Head.Record name)) a) e
step_goes (Call.Begin (Head.Tuple name) size) b fs new e =
    begin_goes (Call.Begin (Head.Tuple (plain_name name)) size) (tree.Container (Head.Tuple (plain_name name)) none) (InContainer (Head.Tuple (plain_name name)) Place size) b fs new
    (λ a. machine.begin (plain_head_twice (Head.Tuple name)) a) e
step_goes (Call.Begin (Head.RecordTuple name) size) b fs new e =
    begin_goes (Call.Begin (Head.RecordTuple (plain_name name)) size) (tree.Container (Head.RecordTuple (plain_name name)) none) (InContainer (Head.RecordTuple (plain_name name)) FieldPlace size) b fs new
    (λ a. machine.begin (plain_head_twice (Head.RecordTuple name)) a) e
step_goes (Call.End head) b fs new e = end_goes head b fs new e
step_goes (Call.PartBegin slot) b fs new e = part_begin_goes slot b fs new e
step_goes (Call.PartEnd slot) b fs new e = part_end_goes slot b fs new e

pub next_goes : (old new : State) (call : Call) → next old call ≡ Some new → Goes old call new
next_goes old new call e = step_goes call old.filled old.frames new e

-- ---- where the machine goes, the function gives that state

abbrev Gives : Bool → List Frame → Call → Bool → List Frame → Type 0
Gives b fs call b' fs' = next (state b fs) call ≡ Some (state b' fs')

room : (fs : List Frame) (t : Tree) → Admits fs t → {A : Type 0} (x : A) → then_some (admits (top_of fs) (form_of t)) x ≡ Some x
room fs t a x = takes (admits (top_of fs) (form_of t)) x ((admits_decides fs t).1 a)

part_given : (slot : Slot) (head : Head) (kind : Kind) (left rest : Option ℕ) (fs : List Frame) → kind_of (plain_slot slot) ≡ kind → Leaves left (new_entries (plain_slot slot)) rest
    → begun_part (same_kind (kind_of slot) kind) slot head kind fs (take_off left (new_entries slot)) ≡ Some (part_there slot head kind fs rest)
part_given slot head kind left rest fs k t =
    ap (λ b. begun_part b slot head kind fs (take_off left (new_entries slot))) ((kind_decides (kind_of slot) kind).1 (sym (same_place_kind slot) ∙ k))
    ∙ ap (λ o. begun_part true slot head kind fs o) (takes_off left (new_entries slot) rest (subst (λ n. Leaves left n rest) (same_entries slot) t))

gives : (call : Call) {b b' : Bool} {fs fs' : List Frame} → Runs b fs (plain (call ∷ [])) b' fs' → Gives b fs call b' fs'
gives Call.Null {fs = fs} (more (machine.null a) done) = room fs tree.Null a (filled fs)
gives (Call.Truth v) {fs = fs} (more (machine.truth a) done) = room fs (tree.Truth v) a (filled fs)
gives (Call.Int type n) {fs = fs} (more (machine.int a) done) = room fs (tree.Int type n) a (filled fs)
gives (Call.Standalone name) {fs = fs} (more (machine.standalone p a) done) = room fs (tree.Standalone (plain_name name)) a (filled fs)
gives (Call.TagHint tag) done = refl
gives (Call.TextBegin size) {fs = fs} (more (machine.text_begin a) done) = room fs (tree.Text []) a (unfilled (InText size ∷ fs))
gives (Call.TextFragment borrowed bytes) (more (machine.text_fragment {fs} {left} {rest} t) done) =
    ap (λ (o : Option (Option ℕ)). option_map (λ (r : Option ℕ). unfilled (InText r ∷ fs)) o) (takes_off left (length bytes) rest t)
gives Call.TextEnd (more (machine.text_end {fs} {left} h) done) = takes (is_used_up left) (filled fs) ((used_up_decides left).1 h)
gives (Call.BinaryBegin size) {fs = fs} (more (machine.binary_begin a) done) = room fs (tree.Binary []) a (unfilled (InBinary size ∷ fs))
gives (Call.BinaryFragment borrowed bytes) (more (machine.binary_fragment {fs} {left} {rest} t) done) =
    ap (λ (o : Option (Option ℕ)). option_map (λ (r : Option ℕ). unfilled (InBinary r ∷ fs)) o) (takes_off left (length bytes) rest t)
gives Call.BinaryEnd (more (machine.binary_end {fs} {left} h) done) = takes (is_used_up left) (filled fs) ((used_up_decides left).1 h)
gives (Call.EnumBegin name) {fs = fs} (more (machine.enum_begin p a) done) = room fs (tree.EmptyEnum (plain_name name)) a (unfilled (InEnum (plain_name name) ∷ fs))
gives (Call.EnumEnd ended) (more (machine.enum_end {fs} {name = name} e) done) = takes (same_name ended name) (filled fs) ((name_decides ended name).1 e)
gives (Call.TaggedBegin name) {fs = fs} (more (machine.tagged_begin p a) done) = room fs (tree.Tagged (plain_name name) tree.Null) a (unfilled (InTagged (plain_name name) ∷ fs))
gives (Call.TaggedEnd ended) (more (machine.tagged_end {fs} {name} e) done) = takes (same_name ended name) (filled fs) ((name_decides ended name).1 e)
gives (Call.Begin Head.Seq size) {fs = fs} (more (machine.begin p a) done) = room fs (tree.Container Head.Seq none) a (unfilled (InContainer Head.Seq Item size ∷ fs))
gives (Call.Begin Head.Map size) {fs = fs} (more (machine.begin p a) done) = room fs (tree.Container Head.Map none) a (unfilled (InContainer Head.Map Key size ∷ fs))
gives (Call.Begin (Head.Record name) size) {fs = fs} (more (machine.begin p a) done) =
    room fs (tree.Container (Head.Record (plain_name name)) none) a (unfilled (InContainer (Head.Record (plain_name name)) Field size ∷ fs))
gives (Call.Begin (Head.Tuple name) size) {fs = fs} (more (machine.begin p a) done) =
    room fs (tree.Container (Head.Tuple (plain_name name)) none) a (unfilled (InContainer (Head.Tuple (plain_name name)) Place size ∷ fs))
gives (Call.Begin (Head.RecordTuple name) size) {fs = fs} (more (machine.begin p a) done) =
    room fs (tree.Container (Head.RecordTuple (plain_name name)) none) a (unfilled (InContainer (Head.RecordTuple (plain_name name)) FieldPlace size ∷ fs))
gives (Call.End ended) (more (machine.end {fs} {head} {kind = kind} {left} e m h) done) =
    takes (same_head ended head && (may_end kind && is_used_up left)) (filled fs) ((end_test ended head kind left).1 (e, (m, h)))
gives (Call.PartBegin slot) (more (machine.part_begin {fs} {head} {kind} {left} {rest} p k t) done) = part_given slot head kind left rest fs k t
gives (Call.PartEnd ended) (more (machine.part_end {fs} {slot} e) done) = takes (same_slot ended slot) (unfilled fs) ((slot_decides ended slot).1 e)

pub goes_next : (old new : State) (call : Call) → Goes old call new → next old call ≡ Some new
goes_next old new call k = gives call k

-- ---- whether it goes, and where it stands then

pub goes_taken : (old new : State) (call : Call) → Goes old call new → goes_on old call ≡ true
goes_taken old new call k = ap is_some (goes_next old new call k)

pub goes_to : (old new : State) (call : Call) → Goes old call new → new ≡ state_after call old
goes_to old new call k = sym (ap (λ o. unwrap_or o old) (goes_next old new call k))

some_or : {A : Type 0} (o : Option A) (x : A) → is_some o ≡ true → o ≡ Some (unwrap_or o x)
some_or None x e = absurd (cc e)
some_or (Some y) x e = refl

pub goes_after : (old : State) (call : Call) → goes_on old call ≡ true → Goes old call (state_after call old)
goes_after old call e = next_goes old (state_after call old) call (some_or (next old call) old e)
