-- Lists of trees: calls spell one list at most.
use Rattle.std.specs.Prelude.{◌≡◌, false, List, [], ◌∷◌, ◌++◌, map, refl}
use Rattle.std.proofs.Common.{sym, ap, ◌∙◌, subst, append_assoc, append-nil}
use Rattle.std.proofs.lemmas.List.Elements.{filter_map-append}
use Rattle.sval_label.specs.Calls.{Call}
use Rattle.sval_core.specs.Trees.{Tree, Null, Truth, Int, Text, Binary, Standalone, Tagged, EmptyEnum, Enum, Container, Parts, none, part}
use Rattle.sval_core.specs.Spells.{Says, SayParts, Spells, plain, plain_call}
use Rattle.sval_core.specs.Many.{SpellsAll, IsViableAll}
use Rattle.sval_core.proofs.OneTree.{one_tree}

-- ---- further calls behind a spelling

mutual
  pub says_before : (t : Tree) (cs r more : List Call) → Says t cs r → Says t (cs ++ more) (r ++ more)
  says_before Null cs r more s = ap (λ c. c ++ more) s
  says_before (Truth b) cs r more s = ap (λ c. c ++ more) s
  says_before (Int type number) cs r more s = ap (λ c. c ++ more) s
  says_before (Text bytes) cs r more s =
      (s.0, s.1, s.2, s.3, ap (λ c. c ++ more) s.4 ∙ ap (λ c. Call.TextBegin s.0 ∷ c) (append_assoc (map (Call.TextFragment false) s.1) (Call.TextEnd ∷ r) more))
  says_before (Binary bytes) cs r more s =
      (s.0, s.1, s.2, s.3, ap (λ c. c ++ more) s.4 ∙ ap (λ c. Call.BinaryBegin s.0 ∷ c) (append_assoc (map (Call.BinaryFragment false) s.1) (Call.BinaryEnd ∷ r) more))
  says_before (Standalone name) cs r more s = ap (λ c. c ++ more) s
  says_before (Tagged name tree) cs r more s = (s.0 ++ more, ap (λ c. c ++ more) s.1, says_before tree s.0 _ more s.2)
  says_before (EmptyEnum name) cs r more s = ap (λ c. c ++ more) s
  says_before (Enum name tree) cs r more s = (s.0 ++ more, ap (λ c. c ++ more) s.1, says_before tree s.0 _ more s.2)
  says_before (Container head parts) cs r more s =
      (s.0, s.1 ++ more, s.2, ap (λ c. c ++ more) s.3, parts_before parts s.1 _ more s.4)

  pub parts_before : (p : Parts) (cs r more : List Call) → SayParts p cs r → SayParts p (cs ++ more) (r ++ more)
  parts_before none cs r more s = ap (λ c. c ++ more) s
  parts_before (part slot tree parts) cs r more s =
      (s.0 ++ more, s.1 ++ more, ap (λ c. c ++ more) s.2, says_before tree s.0 _ more s.3, parts_before parts s.1 r more s.4)

-- ---- one list

-- the same without cutting the calls
abbrev SayAll : List Tree → List Call → Type 0
SayAll [] calls = calls ≡ []
SayAll (tree ∷ trees) calls = (rest : List Call) × Says tree calls rest × SayAll trees rest

all_said : (calls : List Call) (trees : List Tree) → SpellsAll calls trees → SayAll trees (plain calls)
all_said calls [] s = s
all_said calls (tree ∷ trees) s =
    (plain s.1, subst (λ c. Says tree c (plain s.1)) (sym (ap plain s.2 ∙ filter_map-append plain_call s.0 s.1)) (says_before tree (plain s.0) [] (plain s.1) s.3.1), all_said s.1 trees s.4)

pub nothing_said : (t : Tree) (r : List Call) → Says t [] r → ⊥
nothing_said Null r s = cc s
nothing_said (Truth b) r s = cc s
nothing_said (Int type number) r s = cc s
nothing_said (Text bytes) r s = cc (s.4)
nothing_said (Binary bytes) r s = cc (s.4)
nothing_said (Standalone name) r s = cc s
nothing_said (Tagged name tree) r s = cc (s.1)
nothing_said (EmptyEnum name) r s = cc s
nothing_said (Enum name tree) r s = cc (s.1)
nothing_said (Container head parts) r s = cc (s.3)

one_said : (calls : List Call) (ts us : List Tree) → SayAll ts calls → SayAll us calls → ts ≡ us
one_said calls [] [] s s' = refl
one_said calls [] (u ∷ us) s s' = absurd (nothing_said u s'.0 (subst (λ c. Says u c s'.0) s s'.1))
one_said calls (t ∷ ts) [] s s' = absurd (nothing_said t s.0 (subst (λ c. Says t c s.0) s' s.1))
one_said calls (t ∷ ts) (u ∷ us) s s' =
    let same = one_tree t u calls s.0 s'.0 s.1 s'.1 in
    let rest = one_said s.0 ts us s.2 (subst (SayAll us) (sym same.1) s'.2) in
    cc (same.0, rest)

pub one_list : (calls : List Call) (ts us : List Tree) → SpellsAll calls ts → SpellsAll calls us → ts ≡ us
one_list calls ts us s s' = one_said (plain calls) ts us (all_said calls ts s) (all_said calls us s')

-- ---- joined spellings

pub hints_first : (hints calls : List Call) → plain hints ≡ [] → plain (hints ++ calls) ≡ plain calls
hints_first hints calls e = filter_map-append plain_call hints calls ∙ ap (λ c. c ++ plain calls) e

pub hints_last : (calls hints : List Call) → plain hints ≡ [] → plain (calls ++ hints) ≡ plain calls
hints_last calls hints e = filter_map-append plain_call calls hints ∙ ap (λ c. plain calls ++ c) e ∙ append-nil (plain calls)

-- calls that say the same spell the same
pub same_plain : (calls other : List Call) (t : Tree) → plain calls ≡ plain other → Spells calls t → Spells other t
same_plain calls other t e s = (s.0, subst (λ c. Says t c []) e s.1)

pub one_is_list : (calls : List Call) (t : Tree) → Spells calls t → SpellsAll calls (t ∷ [])
one_is_list calls t s = (calls, [], sym (append-nil calls), s, refl)

pub list_is_one : (calls : List Call) (t : Tree) → SpellsAll calls (t ∷ []) → Spells calls t
list_is_one calls t s = same_plain s.0 calls t (sym (ap plain s.2 ∙ hints_last s.0 s.1 s.4)) s.3

-- a tree behind a list of trees
pub one_more_tree : (calls more : List Call) (trees : List Tree) (t : Tree) → SpellsAll calls trees → Spells more t → SpellsAll (calls ++ more) (trees ++ (t ∷ []))
one_more_tree calls more [] t s s' = one_is_list (calls ++ more) t (same_plain more (calls ++ more) t (sym (hints_first calls more s)) s')
one_more_tree calls more (tree ∷ trees) t s s' =
    (s.0, s.1 ++ more, ap (λ c. c ++ more) s.2 ∙ append_assoc s.0 s.1 more, s.3, one_more_tree s.1 more trees t s.4 s')

-- ---- fronts

pub list_front_is_viable : (cs ds : List Call) → IsViableAll (cs ++ ds) → IsViableAll cs
list_front_is_viable cs ds v = (ds ++ v.0, v.1, subst (λ c. SpellsAll c v.1) (append_assoc cs ds v.0) v.2)

pub list_spelling_is_viable : (cs : List Call) (ts : List Tree) → SpellsAll cs ts → IsViableAll cs
list_spelling_is_viable cs ts s = ([], ts, subst (λ c. SpellsAll c ts) (sym (append-nil cs)) s)
