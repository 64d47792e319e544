-- The labels of a word, character by character.
use Rattle.std.specs.Prelude.{◌≡◌, ℕ, zero, suc, ◌+◌, ◌<◌, Bool, true, false, ◌==◌, ◌&&◌, not, if◌then◌else◌, List, [], ◌∷◌, ◌++◌, length, map, take, codes, encode_utf8, Some, Err, refl}
use Rattle.std.proofs.Common.{sym, ap, ◌∙◌, add-one, arith, get_or, append_assoc, append-nil, ne_eqb}
use Rattle.std.proofs.lemmas.Bool.{eqb-true}
use Rattle.std.proofs.lemmas.List.{length-map, map-append}
use Rattle.sval_filter.specs.Paths.{Path, with_label}
use Rattle.sval_filter.specs.PathErrors.{AddsLabel}
use Rattle.sval_filter.specs.declared.paths.PathError.{PathError}
use Rattle.sval_filter.specs.declared.paths.PathError.TheVariants.{NoPath, BadWord, NoMemory}
use Rattle.sval_tool.specs.PathWords.{AddsLabels, labels_from, left_chars, with_backslash}

-- ---- one character more

-- a dot ends a label
pub labels_at_dot : (label rest : List ℕ) → labels_from label (46 ∷ rest) ≡ label ∷ labels_from [] rest
labels_at_dot label [] = refl
labels_at_dot label (next ∷ chs) = refl

-- a character that is no dot and no backslash is in the label
labels_plain : (label : List ℕ) (ch : ℕ) (rest : List ℕ) → (ch == 46) ≡ false → (ch == 92) ≡ false → labels_from label (ch ∷ rest) ≡ labels_from (label ++ encode_utf8 ch) rest
labels_plain label ch [] dot slash = rw dot refl
labels_plain label ch (next ∷ chs) dot slash = rw (dot, slash) refl

-- a character behind a backslash
module _ (label : List ℕ) (ch : ℕ) (rest : List ℕ) where
  escaped_by : (dot slash : Bool) → (ch == 46) ≡ dot → (ch == 92) ≡ slash
      → labels_from (with_backslash (not dot) label ++ encode_utf8 ch) rest ≡ (if dot then labels_from (label ++ codes ".") rest else if slash then labels_from (label ++ codes "\\\\") rest else labels_from (label ++ (92 ∷ [])) (ch ∷ rest))
  unfolding lib.Utf8.encode
  escaped_by true slash d s =
      let e : ch ≡ 46 = eqb-true ch 46 d in
      ap (λ (n : ℕ). labels_from (label ++ encode_utf8 n) rest) e
  escaped_by false true d s =
      let e : ch ≡ 92 = eqb-true ch 92 s in
      ap (λ (n : ℕ). labels_from ((label ++ (92 ∷ [])) ++ encode_utf8 n) rest) e ∙ ap (λ (bytes : List ℕ). labels_from bytes rest) (append_assoc label (92 ∷ []) (92 ∷ []))
  escaped_by false false d s = sym (labels_plain (label ++ (92 ∷ [])) ch rest d s)

-- a character that ends no label and doesn't wait
pub char_pushed : (label : List ℕ) (escaped : Bool) (ch : ℕ) (rest : List ℕ) → (ch ≡ 46 → escaped ≡ true) → (ch ≡ 92 → escaped ≡ true)
    → labels_from (with_backslash (escaped && not (ch == 46)) label ++ encode_utf8 ch) rest ≡ labels_from label (left_chars escaped (ch ∷ rest))
unfolding lib.Utf8.encode
char_pushed label true ch rest dot slash = escaped_by label ch rest (ch == 46) (ch == 92) refl refl
char_pushed label false ch rest dot slash =
    sym (labels_plain label ch rest (ne_eqb ch 46 (λ e. cc (dot e))) (ne_eqb ch 92 (λ e. cc (slash e))))

-- behind the last character
pub labels_end : (label : List ℕ) (escaped : Bool) → labels_from label (left_chars escaped []) ≡ with_backslash escaped label ∷ []
unfolding lib.Utf8.encode
labels_end label true = refl
labels_end label false = refl

-- there is a label
pub some_labels : (label chs : List ℕ) → 0 < length (labels_from label chs)
some_labels label [] = omega arith
some_labels label (ch ∷ []) = one_left (ch == 46)
  where
    one_left : (b : Bool) → 0 < length (if b then label ∷ [] ∷ [] else (label ++ encode_utf8 ch) ∷ [])
    one_left true = omega arith
    one_left false = omega arith
some_labels label (ch ∷ next ∷ chs) =
    more_left (ch == 46) ((ch == 92) && (next == 46)) ((ch == 92) && (next == 92))
    (some_labels (label ++ codes ".") chs) (some_labels (label ++ codes "\\\\") chs) (some_labels (label ++ encode_utf8 ch) (next ∷ chs))
  where
    more_left : (a b c : Bool) → 0 < length (labels_from (label ++ codes ".") chs) → 0 < length (labels_from (label ++ codes "\\\\") chs) → 0 < length (labels_from (label ++ encode_utf8 ch) (next ∷ chs))
        → 0 < length (if a then label ∷ labels_from [] (next ∷ chs) else if b then labels_from (label ++ codes ".") chs else if c then labels_from (label ++ codes "\\\\") chs else labels_from (label ++ encode_utf8 ch) (next ∷ chs))
    more_left true b c x y z = omega arith
    more_left false true c x y z = x
    more_left false false true x y z = y
    more_left false false false x y z = z

-- ---- the last path

-- it has a label more
pub last_extended : (paths : List Path) (path : Path) (label : List ℕ) → with_label (paths ++ (path ∷ [])) label ≡ Some (paths ++ ((path ++ (label ∷ [])) ∷ []))
last_extended [] path label = refl
last_extended (first ∷ []) path label = refl
last_extended (first ∷ next ∷ paths) path label = rw (last_extended (next ∷ paths) path label) refl

-- ---- steps of loops

-- a dot ends a label
pub dot_taken : (labels now : List (List ℕ)) (label begun : List ℕ) (escaped : Bool) (ch : ℕ) → false ≡ escaped → ch ≡ 46 → now ≡ labels ++ (label ∷ []) → begun ≡ []
    → (rest : List ℕ) → now ++ labels_from begun rest ≡ labels ++ labels_from label (left_chars escaped (ch ∷ rest))
dot_taken labels now label begun true ch open_end is pushed none rest = cc
dot_taken labels now label begun false ch open_end is pushed none rest =
    ap (λ (path : List (List ℕ)). path ++ labels_from begun rest) pushed
    ∙ (ap (λ (bytes : List ℕ). (labels ++ (label ∷ [])) ++ labels_from bytes rest) none
    ∙ (append_assoc labels (label ∷ []) (labels_from [] rest)
    ∙ (ap (λ (path : List (List ℕ)). labels ++ path) (sym (labels_at_dot label rest))
    ∙ ap (λ (n : ℕ). labels ++ labels_from label (n ∷ rest)) (sym is))))

-- a character is read, before whatever follows
pub char_read : (labels now : List (List ℕ)) (label next yielded : List ℕ) (escaped escapes : Bool) (ch : ℕ)
    → ((rest : List ℕ) → now ++ labels_from next (left_chars escapes rest) ≡ labels ++ labels_from label (left_chars escaped (ch ∷ rest)))
    → ((rest : List ℕ) → labels ++ labels_from label (left_chars escaped rest) ≡ labels_from [] (yielded ++ rest))
    → (rest : List ℕ) → now ++ labels_from next (left_chars escapes rest) ≡ labels_from [] ((yielded ++ (ch ∷ [])) ++ rest)
char_read labels now label next yielded escaped escapes ch step so_far rest =
    step rest ∙ (so_far (ch ∷ rest) ∙ ap (λ (chs : List ℕ). labels_from [] chs) (sym (append_assoc yielded (ch ∷ []) rest)))

-- behind the last character
pub end_step : (labels : List (List ℕ)) (label word : List ℕ) (escaped : Bool) → ((rest : List ℕ) → labels ++ labels_from label (left_chars escaped rest) ≡ labels_from [] (word ++ rest))
    → labels ++ (with_backslash escaped label ∷ []) ≡ labels_from [] word
end_step labels label word escaped so_far =
    ap (λ (path : List (List ℕ)). labels ++ path) (sym (labels_end label escaped))
    ∙ (so_far [] ∙ ap (λ (chs : List ℕ). labels_from [] chs) (append-nil word))

-- the last of paths has a label more
module _ {X : Type 0} (view : X → List ℕ) where
  taken : (labels : List X) (i : ℕ) (d : X) → i < length labels → map view (take (i + 1) labels) ≡ map view (take i labels) ++ (view (get_or labels i d) ∷ [])
  taken labels i d low = rw add-one (at_suc labels i low)
    where
      at_suc : (labels : List X) (i : ℕ) → i < length labels → map view (take (suc i) labels) ≡ map view (take i labels) ++ (view (get_or labels i d) ∷ [])
      at_suc [] i low = absurd (omega (arith, low))
      at_suc (label ∷ labels) zero low = refl
      at_suc (label ∷ labels) (suc i) low = ap (λ (path : List (List ℕ)). view label ∷ path) (at_suc labels i (omega (arith, low)))

  label_step : (old now next : List Path) (labels : List X) (i : ℕ) (d : X) → i + 1 < length labels → now ≡ old ++ (map view (take (i + 1) labels) ∷ [])
      → with_label now (view (get_or labels (i + 1) d)) ≡ Some next → next ≡ old ++ (map view (take (i + 1 + 1) labels) ∷ [])
  label_step old now next labels i d low so_far added =
      let extended = last_extended old (map view (take (i + 1) labels)) (view (get_or labels (i + 1) d)) in
      let same : Some next ≡ Some (old ++ ((map view (take (i + 1) labels) ++ (view (get_or labels (i + 1) d) ∷ [])) ∷ [])) =
      sym added ∙ (ap (λ (paths : List Path). with_label paths (view (get_or labels (i + 1) d))) so_far ∙ extended) in
      let here : next ≡ old ++ ((map view (take (i + 1) labels) ++ (view (get_or labels (i + 1) d) ∷ [])) ∷ []) = cc in
      here ∙ ap (λ (path : Path). old ++ (path ∷ [])) (sym (taken labels (i + 1) d low))

  -- by the first label and the others
  pub label_added : (old now next : List Path) (labels others : List X) (first x : X) (i : ℕ) (d : X) (text : List ℕ) → i < length others → labels ≡ first ∷ others → x ≡ get_or others i d → text ≡ view x
      → now ≡ old ++ (map view (take (i + 1) labels) ∷ []) → with_label now text ≡ Some next → next ≡ old ++ (map view (take (i + 1 + 1) labels) ∷ [])
  label_added old now next labels others first x i d text low is is_x is_text so_far added =
      let behind : get_or (first ∷ others) (i + 1) d ≡ get_or others i d = rw add-one refl in
      let place : text ≡ view (get_or labels (i + 1) d) = is_text ∙ (ap view is_x ∙ ap view (sym (ap (λ (xs : List X). get_or xs (i + 1) d) is ∙ behind))) in
      label_step old now next labels i d (omega (arith, ap length is, low)) so_far (ap (λ (bytes : List ℕ). with_label now bytes) (sym place) ∙ added)

  -- one more, as it is seen
  pub pushed_view : (items now : List X) (x : X) → now ≡ items ++ (x ∷ []) → map view now ≡ map view items ++ (view x ∷ [])
  pushed_view items now x is = ap (map view) is ∙ map-append view items (x ∷ [])

  -- there are as many as are seen
  pub some_items : (items : List X) (seen : List (List ℕ)) → map view items ≡ seen → 0 < length seen → 0 < length items
  some_items items seen is some = omega (arith, ap length is, length-map items view, some)

-- a label isn't added for want of memory alone, since there is a path
pub label_refused : (old now new : List Path) (path whole : Path) (label : List ℕ) (why : PathError) → now ≡ old ++ (path ∷ []) → AddsLabel now label (Err why) new → AddsLabels old whole (Err why) new
label_refused old now new path whole label NoMemory is refused = tt
label_refused old now new path whole label BadWord is refused = refused
label_refused old now new path whole label NoPath is refused = no_path old (sym refused.0 ∙ is)
  where
    no_path : (old : List Path) → [] ≡ old ++ (path ∷ []) → ⊥
    no_path [] e = cc
    no_path (first ∷ old) e = cc
