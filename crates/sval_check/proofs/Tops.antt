-- The innermost frame, and what becomes of it.
use Rattle.std.specs.Prelude.{◌≡◌, ℕ, ◌-◌, true, false, Bool, ◌&&◌, if◌then◌else◌, List, [], ◌∷◌, ◌++◌, length, reverse, take, slice_set, Option, Some, None, refl}
use Rattle.std.proofs.Common.{get_or, nat_lt, sym, ap, ◌∙◌, arith, length-append}
use Rattle.std.proofs.Math.Seq.{set-append_seam, get_or-append_seam, take-append_seam}
use Rattle.std.proofs.lemmas.List.{reverse-append, reverse-reverse}
use Rattle.sval_label.specs.Calls.{Tag, Label, Index, Name}
use Rattle.sval_core.specs.Checker as machine
use Rattle.sval_core.specs.Stacks.{top_of}
use Rattle.sval_check.specs.declared.frame.Frame.{Frame}
use Rattle.sval_check.specs.declared.frame.Frame.TheVariants as frame
use Rattle.sval_check.specs.declared.kept.NamedValue.{NamedValue}
use Rattle.sval_check.specs.declared.kept.NamedValue.TheVariants as value
use Rattle.sval_check.specs.declared.names.Names.{Names}
use Rattle.sval_check.specs.Kept.{parts_in, innermost_name, with_name, without_name, is_container_value, value_frame}
use Rattle.sval_check.specs.Stacked.{below_if}
use Rattle.sval_check.specs.Frames.{frame_in, frames_of, has_left, names_around, is_there, are_counted, innermost_left}
use Rattle.sval_check.specs.Tops.{on_top, under_top, named_frame, advanced, lefts_after, lefts_after_around, after_part}

-- the innermost frame of the machine is that of the checker
pub top_is : (fs : List Frame) (lefts : List (Option ℕ)) (names : Names) (f : Frame) → top_of fs ≡ Some f → Some (frame_in f (innermost_left lefts) names) ≡ top_of (frames_of fs lefts names)
top_is [] lefts names f e = absurd (cc e)
top_is (g ∷ fs) lefts names f e = let same : f ≡ g = cc e in ap (λ f. Some (frame_in f (innermost_left lefts) names)) same

-- ---- a frame is opened

name_kept : (t : Option Tag) (l : Option Label) (i : Option Index) (names : Names) → let name : Name = record { tag = t; label = l; index = i } in innermost_name (parts_in name) (with_name name names) ≡ name
name_kept None None None names = refl
name_kept None None (Some i) names = refl
name_kept None (Some l) None names = refl
name_kept None (Some l) (Some i) names = refl
name_kept (Some t) None None names = refl
name_kept (Some t) None (Some i) names = refl
name_kept (Some t) (Some l) None names = refl
name_kept (Some t) (Some l) (Some i) names = refl

name_around : (t : Option Tag) (l : Option Label) (i : Option Index) (names : Names) → let name : Name = record { tag = t; label = l; index = i } in without_name (parts_in name) (with_name name names) ≡ names
name_around None None None names = refl
name_around None None (Some i) names = refl
name_around None (Some l) None names = refl
name_around None (Some l) (Some i) names = refl
name_around (Some t) None None names = refl
name_around (Some t) None (Some i) names = refl
name_around (Some t) (Some l) None names = refl
name_around (Some t) (Some l) (Some i) names = refl

kept_is : (name : Name) (names : Names) → innermost_name (parts_in name) (with_name name names) ≡ name
kept_is name names = name_kept name.tag name.label name.index names

around_is : (name : Name) (names : Names) → without_name (parts_in name) (with_name name names) ≡ names
around_is name names = name_around name.tag name.label name.index names

single : (v : NamedValue) (name : Name) (l left : Option ℕ) (fs : List Frame) (lefts : List (Option ℕ)) (names : Names) → is_container_value v ≡ false
    → value_frame v name l ∷ frames_of fs (below_if (is_container_value v) lefts) names ≡ value_frame v name left ∷ frames_of fs lefts names
single value.Tagged name l left fs lefts names e = refl
single value.Enum name l left fs lefts names e = refl
single value.Record name l left fs lefts names e = absurd (cc e)
single value.Tuple name l left fs lefts names e = absurd (cc e)
single value.RecordTuple name l left fs lefts names e = absurd (cc e)

container : (v : NamedValue) (name : Name) (left : Option ℕ) (fs : List Frame) (lefts : List (Option ℕ)) (names : Names) → is_container_value v ≡ true
    → value_frame v name left ∷ frames_of fs (below_if (is_container_value v) (left ∷ lefts)) names ≡ value_frame v name left ∷ frames_of fs lefts names
container v name left fs lefts names e = ap (λ b. value_frame v name left ∷ frames_of fs (below_if b (left ∷ lefts)) names) e

opened_as : (f : Name → machine.Frame) (b : Bool) (name : Name) (fs : List Frame) (lefts : List (Option ℕ)) (names : Names)
    → f (innermost_name (parts_in name) (with_name name names)) ∷ frames_of fs (below_if b lefts) (without_name (parts_in name) (with_name name names))
    ≡ f name ∷ frames_of fs (below_if b lefts) names
opened_as f b name fs lefts names =
    ap (λ n. f n ∷ frames_of fs (below_if b lefts) (without_name (parts_in name) (with_name name names))) (kept_is name names)
    ∙ ap (λ ns. f name ∷ frames_of fs (below_if b lefts) ns) (around_is name names)

opened : (v : NamedValue) (name : Name) (fs : List Frame) (lefts : List (Option ℕ)) (names : Names)
    → frames_of (named_frame v (parts_in name) ∷ fs) lefts (with_name name names)
    ≡ value_frame v name (innermost_left lefts) ∷ frames_of fs (below_if (is_container_value v) lefts) names
opened value.Tagged name fs lefts names = opened_as (λ n. value_frame value.Tagged n (innermost_left lefts)) false name fs lefts names
opened value.Enum name fs lefts names = opened_as (λ n. value_frame value.Enum n (innermost_left lefts)) false name fs lefts names
opened value.Record name fs lefts names = opened_as (λ n. value_frame value.Record n (innermost_left lefts)) true name fs lefts names
opened value.Tuple name fs lefts names = opened_as (λ n. value_frame value.Tuple n (innermost_left lefts)) true name fs lefts names
opened value.RecordTuple name fs lefts names = opened_as (λ n. value_frame value.RecordTuple n (innermost_left lefts)) true name fs lefts names

-- the frames of the machine where a frame with a name is the last of these
put_last : (v : NamedValue) (name : Name) (items items' : List Frame) (lefts : List (Option ℕ)) (names names' : Names)
    → items' ≡ items ++ (named_frame v (parts_in name) ∷ []) → names' ≡ with_name name names
    → frames_of (reverse items') lefts names' ≡ value_frame v name (innermost_left lefts) ∷ frames_of (reverse items) (below_if (is_container_value v) lefts) names
put_last v name items items' lefts names names' e e' =
    ap (λ xs. frames_of (reverse xs) lefts names') e ∙ ap (λ xs. frames_of xs lefts names') (reverse-append items (named_frame v (parts_in name) ∷ []))
    ∙ ap (λ ns. frames_of (named_frame v (parts_in name) ∷ reverse items) lefts ns) e' ∙ opened v name (reverse items) lefts names

-- a value with a name that is no container is opened
pub single_opened : (v : NamedValue) (name : Name) (left : Option ℕ) (items items' : List Frame) (lefts : List (Option ℕ)) (names names' : Names)
    → items' ≡ items ++ (named_frame v (parts_in name) ∷ []) → names' ≡ with_name name names → is_container_value v ≡ false
    → frames_of (reverse items') lefts names' ≡ value_frame v name left ∷ frames_of (reverse items) lefts names
single_opened v name left items items' lefts names names' e e' is =
    put_last v name items items' lefts names names' e e' ∙ single v name (innermost_left lefts) left (reverse items) lefts names is

-- a container with a name is opened
pub container_opened : (v : NamedValue) (name : Name) (left : Option ℕ) (items items' : List Frame) (lefts lefts' : List (Option ℕ)) (names names' : Names)
    → items' ≡ items ++ (named_frame v (parts_in name) ∷ []) → lefts' ≡ lefts ++ (left ∷ []) → names' ≡ with_name name names → is_container_value v ≡ true
    → frames_of (reverse items') (reverse lefts') names' ≡ value_frame v name left ∷ frames_of (reverse items) (reverse lefts) names
container_opened v name left items items' lefts lefts' names names' e l e' is =
    ap (λ ls. frames_of (reverse items') ls names') (ap (λ ls. reverse ls) l ∙ reverse-append lefts (left ∷ []))
    ∙ put_last v name items items' (left ∷ reverse lefts) names names' e e' ∙ container v name left (reverse items) (reverse lefts) names is

-- ---- a part is counted

-- a vector's items where all of them are put anew
pub refilled : {A : Type 0} (n : ℕ) (items rest : List A) → length items ≡ n → take n (items ++ rest) ≡ items
refilled n items rest e = ap (λ n. take n (items ++ rest)) (sym e) ∙ take-append_seam items rest

-- what the frames of the machine are advanced by
pub advanced_is : (left : Option ℕ) (fs : List Frame) (lefts : List (Option ℕ)) (names : Names) → are_counted fs lefts ≡ true
    → frames_of (on_top advanced fs) (lefts_after left fs lefts) names ≡ after_part left (frames_of fs lefts names)
advanced_is left [] lefts names e = refl
advanced_is left (frame.Text ∷ fs) lefts names e = refl
advanced_is left (frame.Binary ∷ fs) lefts names e = refl
advanced_is left (frame.Seq ∷ fs) [] names e = absurd (cc e)
advanced_is left (frame.Seq ∷ fs) (l ∷ lefts) names e = refl
advanced_is left (frame.Map ∷ fs) [] names e = absurd (cc e)
advanced_is left (frame.Map ∷ fs) (l ∷ lefts) names e = refl
advanced_is left (frame.Entry ∷ fs) [] names e = absurd (cc e)
advanced_is left (frame.Entry ∷ fs) (l ∷ lefts) names e = refl
advanced_is left (frame.Item ∷ fs) lefts names e = refl
advanced_is left (frame.Key ∷ fs) lefts names e = refl
advanced_is left (frame.Value ∷ fs) lefts names e = refl
advanced_is left (frame.Tagged parts ∷ fs) lefts names e = refl
advanced_is left (frame.Enum parts ∷ fs) lefts names e = refl
advanced_is left (frame.Record parts ∷ fs) [] names e = absurd (cc e)
advanced_is left (frame.Record parts ∷ fs) (l ∷ lefts) names e = refl
advanced_is left (frame.Tuple parts ∷ fs) [] names e = absurd (cc e)
advanced_is left (frame.Tuple parts ∷ fs) (l ∷ lefts) names e = refl
advanced_is left (frame.RecordTuple parts ∷ fs) [] names e = absurd (cc e)
advanced_is left (frame.RecordTuple parts ∷ fs) (l ∷ lefts) names e = refl
advanced_is left (frame.Field tag ∷ fs) lefts names e = refl
advanced_is left (frame.Place tag ∷ fs) lefts names e = refl
advanced_is left (frame.FieldPlace tag ∷ fs) lefts names e = refl

-- what is still to come of a frame that keeps none doesn't change it
no_left : (f : Frame) (l left : Option ℕ) (names : Names) → has_left f ≡ false → frame_in f l names ≡ frame_in f left names
no_left frame.Text l left names e = absurd (cc e)
no_left frame.Binary l left names e = absurd (cc e)
no_left frame.Seq l left names e = absurd (cc e)
no_left frame.Map l left names e = absurd (cc e)
no_left frame.Entry l left names e = absurd (cc e)
no_left frame.Item l left names e = refl
no_left frame.Key l left names e = refl
no_left frame.Value l left names e = refl
no_left (frame.Tagged parts) l left names e = refl
no_left (frame.Enum parts) l left names e = refl
no_left (frame.Record parts) l left names e = absurd (cc e)
no_left (frame.Tuple parts) l left names e = absurd (cc e)
no_left (frame.RecordTuple parts) l left names e = absurd (cc e)
no_left (frame.Field tag) l left names e = refl
no_left (frame.Place tag) l left names e = refl
no_left (frame.FieldPlace tag) l left names e = refl

-- each frame keeps what it kept
counted : (left : Option ℕ) (fs : List Frame) (lefts : List (Option ℕ)) → are_counted fs lefts ≡ true → are_counted (on_top advanced fs) (lefts_after left fs lefts) ≡ true
counted left [] lefts e = refl
counted left (frame.Text ∷ fs) lefts e = e
counted left (frame.Binary ∷ fs) lefts e = e
counted left (frame.Seq ∷ fs) [] e = absurd (cc e)
counted left (frame.Seq ∷ fs) (l ∷ lefts) e = e
counted left (frame.Map ∷ fs) [] e = absurd (cc e)
counted left (frame.Map ∷ fs) (l ∷ lefts) e = e
counted left (frame.Entry ∷ fs) [] e = absurd (cc e)
counted left (frame.Entry ∷ fs) (l ∷ lefts) e = e
counted left (frame.Item ∷ fs) lefts e = e
counted left (frame.Key ∷ fs) lefts e = e
counted left (frame.Value ∷ fs) lefts e = e
counted left (frame.Tagged parts ∷ fs) lefts e = e
counted left (frame.Enum parts ∷ fs) lefts e = e
counted left (frame.Record parts ∷ fs) [] e = absurd (cc e)
counted left (frame.Record parts ∷ fs) (l ∷ lefts) e = e
counted left (frame.Tuple parts ∷ fs) [] e = absurd (cc e)
counted left (frame.Tuple parts ∷ fs) (l ∷ lefts) e = e
counted left (frame.RecordTuple parts ∷ fs) [] e = absurd (cc e)
counted left (frame.RecordTuple parts ∷ fs) (l ∷ lefts) e = e
counted left (frame.Field tag ∷ fs) lefts e = e
counted left (frame.Place tag ∷ fs) lefts e = e
counted left (frame.FieldPlace tag ∷ fs) lefts e = e

-- the same of the frame around the innermost
counted_under : (left : Option ℕ) (fs : List Frame) (lefts : List (Option ℕ)) → are_counted fs lefts ≡ true
    → are_counted (under_top (on_top advanced) fs) (lefts_after_around left fs lefts) ≡ true
counted_under left [] lefts e = refl
counted_under left (f ∷ fs) lefts e = by_left (has_left f) lefts e
  where
    by_left : (b : Bool) (lefts : List (Option ℕ)) → (is_there b lefts && are_counted fs (below_if b lefts)) ≡ true
        → (is_there b (if b then under_top (lefts_after left fs) lefts else lefts_after left fs lefts)
        && are_counted (on_top advanced fs) (below_if b (if b then under_top (lefts_after left fs) lefts else lefts_after left fs lefts))) ≡ true
    by_left false lefts e = counted left fs lefts e
    by_left true [] e = absurd (cc e)
    by_left true (l ∷ lefts) e = counted left fs lefts e

pub counted_around : (left : Option ℕ) (fs fs' : List Frame) (lefts lefts' : List (Option ℕ)) → fs' ≡ under_top (on_top advanced) fs → lefts' ≡ lefts_after_around left fs lefts
    → are_counted fs lefts ≡ true → are_counted fs' lefts' ≡ true
counted_around left fs fs' lefts lefts' e l is = ap (λ fs. are_counted fs lefts') e ∙ ap (λ lefts. are_counted (under_top (on_top advanced) fs) lefts) l ∙ counted_under left fs lefts is

advanced_under : (left : Option ℕ) (fs : List Frame) (lefts : List (Option ℕ)) (names : Names) → are_counted fs lefts ≡ true
    → frames_of (under_top (on_top advanced) fs) (lefts_after_around left fs lefts) names ≡ under_top (after_part left) (frames_of fs lefts names)
advanced_under left [] lefts names e = refl
advanced_under left (f ∷ fs) lefts names e = by_left (has_left f) refl lefts e
  where
    by_left : (b : Bool) → has_left f ≡ b → (lefts : List (Option ℕ)) → (is_there b lefts && are_counted fs (below_if b lefts)) ≡ true
        → frame_in f (innermost_left (if b then under_top (lefts_after left fs) lefts else lefts_after left fs lefts)) names
        ∷ frames_of (on_top advanced fs) (below_if b (if b then under_top (lefts_after left fs) lefts else lefts_after left fs lefts)) (names_around f names)
        ≡ frame_in f (innermost_left lefts) names ∷ after_part left (frames_of fs (below_if b lefts) (names_around f names))
    by_left false is lefts e =
        ap (λ top. top ∷ frames_of (on_top advanced fs) (lefts_after left fs lefts) (names_around f names)) (no_left f (innermost_left (lefts_after left fs lefts)) (innermost_left lefts) names is)
        ∙ ap (λ rest. frame_in f (innermost_left lefts) names ∷ rest) (advanced_is left fs lefts (names_around f names) e)
    by_left true is [] e = absurd (cc e)
    by_left true is (l ∷ lefts) e = ap (λ rest. frame_in f l names ∷ rest) (advanced_is left fs lefts (names_around f names) e)

-- the frames of the machine where a part is counted in the frame around the innermost
pub advanced_around : (left : Option ℕ) (fs fs' : List Frame) (lefts lefts' : List (Option ℕ)) (names : Names) → fs' ≡ under_top (on_top advanced) fs → lefts' ≡ lefts_after_around left fs lefts
    → are_counted fs lefts ≡ true → frames_of fs' lefts' names ≡ under_top (after_part left) (frames_of fs lefts names)
advanced_around left fs fs' lefts lefts' names e l is =
    ap (λ fs. frames_of fs lefts' names) e ∙ ap (λ lefts. frames_of (under_top (on_top advanced) fs) lefts names) l ∙ advanced_under left fs lefts names is

-- ---- the innermost is the last of the items

ends_in : {A : Type 0} (items : List A) (top : A) (rest : List A) → reverse items ≡ top ∷ rest → items ≡ reverse rest ++ (top ∷ [])
ends_in items top rest e = sym (reverse-reverse items) ∙ ap (λ xs. reverse xs) e ∙ reverse-append (top ∷ []) rest

set_at_end : {A : Type 0} (front : List A) (top x : A) → slice_set (front ++ (top ∷ [])) (length (front ++ (top ∷ [])) - 1) x ≡ front ++ (x ∷ [])
set_at_end front top x =
    let e : length (front ++ (top ∷ [])) - 1 ≡ length front = omega (arith, length-append front (top ∷ [])) in
    ap (λ n. slice_set (front ++ (top ∷ [])) n x) e ∙ set-append_seam front top [] x

last_is : {A : Type 0} (items : List A) (top : A) (rest : List A) (d : A) → reverse items ≡ top ∷ rest → get_or items (length items - 1) d ≡ top
last_is items top rest d e =
    let is = ends_in items top rest e in
    let n : length (reverse rest ++ (top ∷ [])) - 1 ≡ length (reverse rest) = omega (arith, length-append (reverse rest) (top ∷ [])) in
    ap (λ xs. get_or xs (length xs - 1) d) is ∙ ap (λ m. get_or (reverse rest ++ (top ∷ [])) m d) n ∙ get_or-append_seam (reverse rest) top [] d

replaced : {A : Type 0} (items : List A) (top : A) (rest : List A) (x : A) → reverse items ≡ top ∷ rest → reverse (slice_set items (length items - 1) x) ≡ x ∷ rest
replaced items top rest x e =
    let is = ends_in items top rest e in
    ap (λ xs. reverse (slice_set xs (length xs - 1) x)) is ∙ ap (λ xs. reverse xs) (set_at_end (reverse rest) top x)
    ∙ reverse-append (reverse rest) (x ∷ []) ∙ ap (λ xs. x ∷ xs) (reverse-reverse rest)

none_left : {A : Type 0} (items : List A) → reverse items ≡ [] → items ≡ []
none_left items e = sym (reverse-reverse items) ∙ ap (λ xs. reverse xs) e

-- the innermost is changed
pub changed : {A : Type 0} (f : A → A) (items : List A) (top x : A) → true ≡ nat_lt 0 (length items) → top ≡ get_or items (length items - 1) top → x ≡ f top
    → reverse (slice_set items (length items - 1) x) ≡ on_top f (reverse items)
changed {A} f items top x some is e = by_items (reverse items) refl
  where
    by_items : (ys : List A) → reverse items ≡ ys → reverse (slice_set items (length items - 1) x) ≡ on_top f ys
    by_items [] h = let never : true ≡ false = some ∙ ap (λ xs. nat_lt 0 (length xs)) (none_left items h) in absurd (cc never)
    by_items (y ∷ ys) h = replaced items y ys x h ∙ ap (λ z. z ∷ ys) (e ∙ ap f (is ∙ last_is items y ys top h))
