-- Calls with each text and binary in one piece spell the same tree.
use Rattle.std.specs.Prelude.{◌≡◌, ℕ, Bool, true, false, List, [], ◌∷◌, ◌++◌, map, length, Option, Some, refl}
use Rattle.std.specs.List.{concat}
use Rattle.std.proofs.Common.{sym, ap, subst, ◌∙◌}
use mathlib.Core.List.{append_assoc, append-nil}
use Rattle.sval_label.specs.Calls.{Call, Null, Truth, Int, Standalone, TextBegin, TextFragment, TextEnd, BinaryBegin, BinaryFragment, BinaryEnd, EnumBegin, EnumEnd, TaggedBegin, TaggedEnd, Begin, End, PartBegin, PartEnd}
use Rattle.sval_core.specs.Trees as tree
use Rattle.sval_core.specs.Trees.{Tree, Parts, plain_label, plain_name, plain_head, plain_slot}
use Rattle.sval_core.specs.Spells.{Says, SayParts, Spells, plain, bare_name, bare_head, bare_slot}
use Rattle.sval_core.proofs.OneTree.{same_texts, same_binaries}
use Rattle.sval_buffer.specs.declared.part.Medium.{Medium}
use Rattle.sval_buffer.specs.declared.part.Medium.TheVariants as media

abbrev pub is_other : Call → Bool
is_other (TextBegin size) = false
is_other (BinaryBegin size) = false
is_other call = true

-- ---- the calls of a text or a binary

abbrev pub begins : Medium → Option ℕ → Call
begins media.Text size = TextBegin size
begins media.Binary size = BinaryBegin size

abbrev pub piece : Medium → List ℕ → Call
piece media.Text = TextFragment false
piece media.Binary = BinaryFragment false

abbrev pub ends : Medium → Call
ends media.Text = TextEnd
ends media.Binary = BinaryEnd

no_other : (medium : Medium) (size : Option ℕ) → is_other (begins medium size) ≡ false
no_other media.Text size = refl
no_other media.Binary size = refl

one_medium : (m n : Medium) (size other : Option ℕ) → begins m size ≡ begins n other → m ≡ n
one_medium media.Text media.Text size other e = refl
one_medium media.Text media.Binary size other e = absurd (cc e)
one_medium media.Binary media.Text size other e = absurd (cc e)
one_medium media.Binary media.Binary size other e = refl

same_pieces : (medium : Medium) (ps qs : List (List ℕ)) (cs ds : List Call) → map (piece medium) ps ++ (ends medium ∷ cs) ≡ map (piece medium) qs ++ (ends medium ∷ ds) → (ps ≡ qs) × (cs ≡ ds)
same_pieces media.Text = same_texts
same_pieces media.Binary = same_binaries

-- ---- each text and binary in one piece

pub data Joins : List Call → List Call → Type 0 where
  nothing : Joins [] []
  as_is : {cs ds : List Call} (c : Call) → is_other c ≡ true → Joins cs ds → Joins (c ∷ cs) (c ∷ ds)
  joined : {cs ds : List Call} (medium : Medium) (size : Option ℕ) (pieces : List (List ℕ)) → Joins cs ds
      → Joins (begins medium size ∷ (map (piece medium) pieces ++ (ends medium ∷ cs))) (begins medium (Some (length (concat pieces))) ∷ piece medium (concat pieces) ∷ ends medium ∷ ds)

pub joins-append : {a b c d : List Call} → Joins a b → Joins c d → Joins (a ++ c) (b ++ d)
joins-append nothing k = k
joins-append (as_is x h j) k = as_is x h (joins-append j k)
joins-append {b = b} {c = c} {d = d} (joined {cs = cs} {ds = ds} medium size pieces j) k =
    subst (λ x. Joins (begins medium size ∷ x) (begins medium (Some (length (concat pieces))) ∷ piece medium (concat pieces) ∷ ends medium ∷ (ds ++ d)))
    (sym (append_assoc (map (piece medium) pieces) (ends medium ∷ cs) c)) (joined medium size pieces (joins-append j k))

pub head_same : (c d : Call) (cs ds : List Call) → (c ∷ cs) ≡ (d ∷ ds) → (c ≡ d) × (cs ≡ ds)
head_same c d cs ds e = (cc e, cc e)

pub record After (c : Call) (rest ds : List Call) : Type 0 where
  pub others : List Call
  pub is : ds ≡ c ∷ others
  pub joins : Joins rest others

pub joins_other : {cs ds : List Call} (c : Call) (rest : List Call) → is_other c ≡ true → cs ≡ c ∷ rest → Joins cs ds → After c rest ds
joins_other c rest h e nothing = absurd (cc e)
joins_other c rest h e (as_is {cs = cs} {ds = ds} d k j) =
    let f = head_same d c cs rest e in record { others = ds; is = ap (λ x. x ∷ ds) f.0; joins = subst (λ x. Joins x ds) f.1 j }
joins_other c rest h e (joined {cs = cs} medium size pieces j) =
    let f = head_same (begins medium size) c (map (piece medium) pieces ++ (ends medium ∷ cs)) rest e in let g = sym (no_other medium size) ∙ ap is_other f.0 ∙ h in absurd (cc g)

pub record AfterPieces (medium : Medium) (bytes : List ℕ) (rest ds : List Call) : Type 0 where
  pub others : List Call
  pub is : ds ≡ begins medium (Some (length bytes)) ∷ piece medium bytes ∷ ends medium ∷ others
  pub joins : Joins rest others

pub joins_pieces : {cs ds : List Call} (medium : Medium) (size : Option ℕ) (pieces : List (List ℕ)) (rest : List Call) → cs ≡ begins medium size ∷ (map (piece medium) pieces ++ (ends medium ∷ rest)) → Joins cs ds
    → AfterPieces medium (concat pieces) rest ds
joins_pieces medium size pieces rest e nothing = absurd (cc e)
joins_pieces medium size pieces rest e (as_is {cs = cs} d k j) =
    let f = head_same d (begins medium size) cs (map (piece medium) pieces ++ (ends medium ∷ rest)) e in let g = sym k ∙ ap is_other f.0 ∙ no_other medium size in absurd (cc g)
joins_pieces medium size pieces rest e (joined {cs = cs} {ds = ds} other size' ps j) =
    let f = head_same (begins other size') (begins medium size) (map (piece other) ps ++ (ends other ∷ cs)) (map (piece medium) pieces ++ (ends medium ∷ rest)) e in
    subst (λ m. map (piece m) ps ++ (ends m ∷ cs) ≡ map (piece medium) pieces ++ (ends medium ∷ rest) → AfterPieces medium (concat pieces) rest (begins m (Some (length (concat ps))) ∷ piece m (concat ps) ∷ ends m ∷ ds))
    (sym (one_medium other medium size' size f.0)) same f.1
  where
    same : map (piece medium) ps ++ (ends medium ∷ cs) ≡ map (piece medium) pieces ++ (ends medium ∷ rest)
        → AfterPieces medium (concat pieces) rest (begins medium (Some (length (concat ps))) ∷ piece medium (concat ps) ∷ ends medium ∷ ds)
    same e =
        let g = same_pieces medium ps pieces cs rest e in
        record { others = ds; is = ap (λ p. begins medium (Some (length (concat p))) ∷ piece medium (concat p) ∷ ends medium ∷ ds) g.0; joins = subst (λ x. Joins x ds) g.1 j }

-- ---- they spell the same tree

pub record StillSays (t : Tree) (ds rest : List Call) : Type 0 where
  pub others : List Call
  pub makes : Says t ds others
  pub joins : Joins rest others

pub record StillSayParts (p : Parts) (ds rest : List Call) : Type 0 where
  pub others : List Call
  pub makes : SayParts p ds others
  pub joins : Joins rest others

pub leaf : (t : Tree) (c : Call) (ds rest : List Call) → ((others : List Call) → ds ≡ c ∷ others → Says t ds others) → After c rest ds → StillSays t ds rest
leaf t c ds rest f a = record { others = a.others; makes = f a.others a.is; joins = a.joins }

mutual
  still_says : (t : Tree) {cs ds : List Call} (rest : List Call) → Says t cs rest → Joins cs ds → StillSays t ds rest
  still_says tree.Null {ds = ds} rest s j = leaf tree.Null Null ds rest (λ o e. e) (joins_other Null rest refl s j)
  still_says (tree.Truth b) {ds = ds} rest s j = leaf (tree.Truth b) (Truth b) ds rest (λ o e. e) (joins_other (Truth b) rest refl s j)
  still_says (tree.Int type n) {ds = ds} rest s j = leaf (tree.Int type n) (Int type n) ds rest (λ o e. e) (joins_other (Int type n) rest refl s j)
  still_says (tree.Standalone name) {ds = ds} rest s j = leaf (tree.Standalone name) (Standalone name) ds rest (λ o e. e) (joins_other (Standalone name) rest refl s j)
  still_says (tree.Text bytes) {ds = ds} rest s j =
      let a = joins_pieces media.Text s.0 s.1 rest s.4 j in
      record { others = a.others; makes = (Some (length bytes), bytes ∷ [], refl, append-nil bytes, subst (λ b. ds ≡ TextBegin (Some (length b)) ∷ TextFragment false b ∷ TextEnd ∷ a.others) s.3 a.is); joins = a.joins }
  still_says (tree.Binary bytes) {ds = ds} rest s j =
      let a = joins_pieces media.Binary s.0 s.1 rest s.4 j in
      record { others = a.others; makes = (Some (length bytes), bytes ∷ [], refl, append-nil bytes, subst (λ b. ds ≡ BinaryBegin (Some (length b)) ∷ BinaryFragment false b ∷ BinaryEnd ∷ a.others) s.3 a.is); joins = a.joins }
  still_says (tree.Tagged name inner) rest s j =
      let a = joins_other (TaggedBegin name) s.0 refl s.1 j in
      let b = still_says inner (TaggedEnd (bare_name name) ∷ rest) s.2 a.joins in
      let c = joins_other (TaggedEnd (bare_name name)) rest refl refl b.joins in
      record { others = c.others; makes = (a.others, a.is, subst (λ x. Says inner a.others x) c.is b.makes); joins = c.joins }
  still_says (tree.EmptyEnum name) rest s j =
      let a = joins_other (EnumBegin name) (EnumEnd (bare_name name) ∷ rest) refl s j in
      let c = joins_other (EnumEnd (bare_name name)) rest refl refl a.joins in
      record { others = c.others; makes = a.is ∙ ap (λ x. EnumBegin name ∷ x) c.is; joins = c.joins }
  still_says (tree.Enum name inner) rest s j =
      let a = joins_other (EnumBegin name) s.0 refl s.1 j in
      let b = still_says inner (EnumEnd (bare_name name) ∷ rest) s.2 a.joins in
      let c = joins_other (EnumEnd (bare_name name)) rest refl refl b.joins in
      record { others = c.others; makes = (a.others, a.is, subst (λ x. Says inner a.others x) c.is b.makes); joins = c.joins }
  still_says (tree.Container head parts) rest s j =
      let a = joins_other (Begin head s.0) s.1 refl s.3 j in
      let b = still_say_parts parts (End (bare_head head) ∷ rest) s.4 a.joins in
      let c = joins_other (End (bare_head head)) rest refl refl b.joins in
      record { others = c.others; makes = (s.0, a.others, s.2, a.is, subst (λ x. SayParts parts a.others x) c.is b.makes); joins = c.joins }

  still_say_parts : (p : Parts) {cs ds : List Call} (rest : List Call) → SayParts p cs rest → Joins cs ds → StillSayParts p ds rest
  still_say_parts tree.none {ds = ds} rest s j = record { others = ds; makes = refl; joins = subst (λ x. Joins x ds) s j }
  still_say_parts (tree.part slot inner parts) rest s j =
      let a = joins_other (PartBegin slot) s.0 refl s.2 j in
      let b = still_says inner (PartEnd (bare_slot slot) ∷ s.1) s.3 a.joins in
      let c = joins_other (PartEnd (bare_slot slot)) s.1 refl refl b.joins in
      let d = still_say_parts parts rest s.4 c.joins in
      record { others = d.others; makes = (a.others, c.others, a.is, subst (λ x. Says inner a.others x) c.is b.makes, d.makes); joins = d.joins }

pub nothing_after : {ds : List Call} → Joins [] ds → ds ≡ []
nothing_after nothing = refl

pub spells_joined : (calls other : List Call) (t : Tree) → Spells calls t → Joins (plain calls) (plain other) → Spells other t
spells_joined calls other t s j =
    let r = still_says t [] s.1 j in (s.0, subst (λ x. Says t (plain other) x) (nothing_after r.joins) r.makes)
