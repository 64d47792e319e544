-- Where in a list of calls the calls of a tree end, with the hints among them.
use Rattle.std.specs.Prelude.{◌≡◌, false, List, [], ◌∷◌, ◌++◌, map, Option, Some, None, refl}
use Rattle.std.proofs.Common.{sym, ap, ◌∙◌, append_assoc}
use Rattle.sval_label.specs.Calls.{Call}
use Rattle.sval_core.specs.Trees.{Tree, Null, Truth, Int, Text, Binary, Standalone, Tagged, EmptyEnum, Enum, Container, Parts, none, part}
use Rattle.sval_core.specs.Spells.{Says, SayParts, plain, plain_call, bare_name, bare_head, bare_slot}
use Rattle.sval_core.proofs.ManySpellings.{says_before, parts_before}
use Rattle.sval_core.proofs.ManyRuns.{plain_none, plain_some}

-- ---- a spelling without what follows it

pub record Front (t : Tree) (cs r : List Call) : Type 0 where
  pub front : List Call
  pub whole : cs ≡ front ++ r
  pub says : Says t front []

pub record PartsFront (p : Parts) (cs r : List Call) : Type 0 where
  pub front : List Call
  pub whole : cs ≡ front ++ r
  pub says : SayParts p front []

one_front : (t : Tree) (c : Call) (cs r : List Call) → cs ≡ c ∷ r → Says t (c ∷ []) [] → Front t cs r
one_front t c cs r e s = record { front = c ∷ []; whole = e; says = s }

-- something is begun, spelled and ended
around : (begin end : Call) (cs inner r front : List Call) → cs ≡ begin ∷ inner → inner ≡ front ++ (end ∷ r) → cs ≡ (begin ∷ (front ++ (end ∷ []))) ++ r
around begin end cs inner r front e f = e ∙ ap (λ x. begin ∷ x) (f ∙ sym (append_assoc front (end ∷ []) r))

mutual
  pub says_front : (t : Tree) (cs r : List Call) → Says t cs r → Front t cs r
  says_front Null cs r s = one_front Null Call.Null cs r s refl
  says_front (Truth b) cs r s = one_front (Truth b) (Call.Truth b) cs r s refl
  says_front (Int type n) cs r s = one_front (Int type n) (Call.Int type n) cs r s refl
  says_front (Standalone name) cs r s = one_front (Standalone name) (Call.Standalone name) cs r s refl
  says_front (Text bytes) cs r s = record {
    front = Call.TextBegin s.0 ∷ (map (Call.TextFragment false) s.1 ++ (Call.TextEnd ∷ []));
    whole = s.4 ∙ ap (λ x. Call.TextBegin s.0 ∷ x) (sym (append_assoc (map (Call.TextFragment false) s.1) (Call.TextEnd ∷ []) r));
    says = (s.0, s.1, s.2, s.3, refl);
  }
  says_front (Binary bytes) cs r s = record {
    front = Call.BinaryBegin s.0 ∷ (map (Call.BinaryFragment false) s.1 ++ (Call.BinaryEnd ∷ []));
    whole = s.4 ∙ ap (λ x. Call.BinaryBegin s.0 ∷ x) (sym (append_assoc (map (Call.BinaryFragment false) s.1) (Call.BinaryEnd ∷ []) r));
    says = (s.0, s.1, s.2, s.3, refl);
  }
  says_front (EmptyEnum name) cs r s = record { front = Call.EnumBegin name ∷ Call.EnumEnd (bare_name name) ∷ []; whole = s; says = refl }
  says_front (Tagged name t) cs r s =
      let i = says_front t s.0 (Call.TaggedEnd (bare_name name) ∷ r) s.2 in
      record {
        front = Call.TaggedBegin name ∷ (i.front ++ (Call.TaggedEnd (bare_name name) ∷ []));
        whole = around (Call.TaggedBegin name) (Call.TaggedEnd (bare_name name)) cs s.0 r i.front s.1 i.whole;
        says = (i.front ++ (Call.TaggedEnd (bare_name name) ∷ []), refl, says_before t i.front [] (Call.TaggedEnd (bare_name name) ∷ []) i.says);
      }
  says_front (Enum name t) cs r s =
      let i = says_front t s.0 (Call.EnumEnd (bare_name name) ∷ r) s.2 in
      record {
        front = Call.EnumBegin name ∷ (i.front ++ (Call.EnumEnd (bare_name name) ∷ []));
        whole = around (Call.EnumBegin name) (Call.EnumEnd (bare_name name)) cs s.0 r i.front s.1 i.whole;
        says = (i.front ++ (Call.EnumEnd (bare_name name) ∷ []), refl, says_before t i.front [] (Call.EnumEnd (bare_name name) ∷ []) i.says);
      }
  says_front (Container head p) cs r s =
      let i = parts_front p s.1 (Call.End (bare_head head) ∷ r) s.4 in
      record {
        front = Call.Begin head s.0 ∷ (i.front ++ (Call.End (bare_head head) ∷ []));
        whole = around (Call.Begin head s.0) (Call.End (bare_head head)) cs s.1 r i.front s.3 i.whole;
        says = (s.0, i.front ++ (Call.End (bare_head head) ∷ []), s.2, refl, parts_before p i.front [] (Call.End (bare_head head) ∷ []) i.says);
      }

  pub parts_front : (p : Parts) (cs r : List Call) → SayParts p cs r → PartsFront p cs r
  parts_front none cs r s = record { front = []; whole = s; says = refl }
  parts_front (part slot t p) cs r s =
      let i = says_front t s.0 (Call.PartEnd (bare_slot slot) ∷ s.1) s.3 in
      let j = parts_front p s.1 r s.4 in
      record {
        front = Call.PartBegin slot ∷ (i.front ++ (Call.PartEnd (bare_slot slot) ∷ j.front));
        whole = s.2 ∙ ap (λ x. Call.PartBegin slot ∷ x) (i.whole ∙ ap (λ x. i.front ++ (Call.PartEnd (bare_slot slot) ∷ x)) j.whole
            ∙ sym (append_assoc i.front (Call.PartEnd (bare_slot slot) ∷ j.front) r));
        says = (
          i.front ++ (Call.PartEnd (bare_slot slot) ∷ j.front),
          j.front,
          refl,
          says_before t i.front [] (Call.PartEnd (bare_slot slot) ∷ j.front) i.says,
          j.says,
        );
      }

-- ---- calls with their hints

-- the calls that say the first of two joined lists, and those that say the second
pub record CutCalls (raw a b : List Call) : Type 0 where
  pub front : List Call
  pub rest : List Call
  pub whole : raw ≡ front ++ rest
  pub before : plain front ≡ a
  pub after : plain rest ≡ b

pub cut_calls : (raw a b : List Call) → plain raw ≡ a ++ b → CutCalls raw a b
cut_calls raw [] b e = record { front = []; rest = raw; whole = refl; before = refl; after = e }
cut_calls [] (p ∷ a) b e = absurd (cc e)
cut_calls (c ∷ raw) (p ∷ a) b e = by_call (λ h. cut_calls raw (p ∷ a) b h) (λ h. cut_calls raw a b h) (plain_call c) refl
  where
    by_call : (plain raw ≡ p ∷ (a ++ b) → CutCalls raw (p ∷ a) b) → (plain raw ≡ a ++ b → CutCalls raw a b) → (o : Option Call) → plain_call c ≡ o → CutCalls (c ∷ raw) (p ∷ a) b
    by_call hint next None h =
        let k = hint (sym (plain_none c raw h) ∙ e) in
        record { front = c ∷ k.front; rest = k.rest; whole = ap (λ x. c ∷ x) k.whole; before = plain_none c k.front h ∙ k.before; after = k.after }
    by_call hint next (Some q) h =
        let f : q ∷ plain raw ≡ p ∷ (a ++ b) = sym (plain_some c q raw h) ∙ e in
        let first : q ≡ p = cc f in
        let later : plain raw ≡ a ++ b = cc f in
        let k = next later in
        record {
          front = c ∷ k.front;
          rest = k.rest;
          whole = ap (λ x. c ∷ x) k.whole;
          before = plain_some c q k.front h ∙ ap (λ x. x ∷ plain k.front) first ∙ ap (λ x. p ∷ x) k.before;
          after = k.after;
        }

-- the next call that is no hint
pub record NextCall (raw : List Call) (p : Call) (ps : List Call) : Type 0 where
  pub hints : List Call
  pub call : Call
  pub rest : List Call
  pub whole : raw ≡ hints ++ (call ∷ rest)
  pub none : plain hints ≡ []
  pub is : plain_call call ≡ Some p
  pub after : plain rest ≡ ps

pub next_call : (raw : List Call) (p : Call) (ps : List Call) → plain raw ≡ p ∷ ps → NextCall raw p ps
next_call [] p ps e = absurd (cc e)
next_call (c ∷ raw) p ps e = by_call (λ h. next_call raw p ps h) (plain_call c) refl
  where
    by_call : (plain raw ≡ p ∷ ps → NextCall raw p ps) → (o : Option Call) → plain_call c ≡ o → NextCall (c ∷ raw) p ps
    by_call next None h =
        let k = next (sym (plain_none c raw h) ∙ e) in
        record { hints = c ∷ k.hints; call = k.call; rest = k.rest; whole = ap (λ x. c ∷ x) k.whole; none = plain_none c k.hints h ∙ k.none; is = k.is; after = k.after }
    by_call next (Some q) h =
        let f : q ∷ plain raw ≡ p ∷ ps = sym (plain_some c q raw h) ∙ e in
        let first : q ≡ p = cc f in
        let later : plain raw ≡ ps = cc f in
        record { hints = []; call = c; rest = raw; whole = refl; none = refl; is = h ∙ ap Some first; after = later }
