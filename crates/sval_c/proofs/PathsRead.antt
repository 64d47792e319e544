-- Paths, read line by line.
use Rattle.std.specs.Prelude.{◌≡◌, ℕ, suc, ◌+◌, ◌-◌, ◌<◌, ◌^◌, min, List, [], ◌∷◌, ◌++◌, map, length, take, drop, Some, Ok, Err, IsUtf8, refl}
use Rattle.std.specs.List.{AllByRecursion}
use Rattle.std.proofs.Math.ListN.{get_or}
use Rattle.std.specs.Str.Lines.{lines}
use Rattle.std.specs.Borrow.{Bor}
use Rattle.std.proofs.Common.{sym, ap, subst, ◌∙◌, arith}
use Rattle.std.proofs.lemmas.List.{map-append, length-append}
use Rattle.std.proofs.Math.Seq.{split_at}
use Rattle.sval_filter.specs.Paths.{Path, labels_of}
use Rattle.sval_filter.specs.PathErrors.{AddsWord}
use Rattle.sval_filter.specs.declared.paths.PathError.{PathError}
use Rattle.sval_filter.specs.declared.paths.PathError.TheVariants as path
use Rattle.sval_c.specs.declared.fault.Fault.TheVariants as fault
use Rattle.sval_c.specs.declared.lack.Lack.{Lack}
use Rattle.sval_c.specs.declared.lack.Lack.TheVariants as lack
use Rattle.sval_c.specs.Lacks.{lack_of_path, IsLacking}
use Rattle.sval_c.specs.OfFilters.{IsPath, ArePaths, HasNoPaths, bad_path}

-- these lines are paths, and were read as such; the number of the last one stops at the greatest u64
pub record AreRead (words : List (List ℕ)) (paths : List Path) (line : ℕ) : Type 0 where
  pub good : AllByRecursion IsPath words
  pub are : paths ≡ map labels_of words
  pub number : line ≡ min (length words) (2 ^ 64 - 1)

pub none_read : {paths : List Path} → paths ≡ [] → AreRead [] paths 0
none_read none = record { good = tt; are = none; number = refl }

all_more : (words : List (List ℕ)) (word : List ℕ) → AllByRecursion IsPath words → IsPath word → AllByRecursion IsPath (words ++ (word ∷ []))
all_more [] word all one = (one, tt)
all_more (first ∷ words) word all one = (all.0, all_more words word all.1 one)

-- the number of the next line
next_number : (words : List (List ℕ)) (line : ℕ) → line ≡ min (length words) (2 ^ 64 - 1) → min (line + 1) (2 ^ 64 - 1) ≡ min (length words + 1) (2 ^ 64 - 1)
next_number words line e = omega (arith, e)

one_read : {words : List (List ℕ)} (paths new : List Path) {line next : ℕ} (word : List ℕ) → AreRead words paths line → AddsWord paths word (Ok tt) new → next ≡ min (line + 1) (2 ^ 64 - 1)
    → AreRead (words ++ (word ∷ [])) new next
one_read {words} paths new {line} word r adds step = record {
  good = all_more words word r.good adds.0;
  are = adds.1 ∙ ap (λ front. front ++ (labels_of word ∷ [])) r.are ∙ sym (map-append labels_of words (word ∷ []));
  number = step ∙ next_number words line r.number ∙ ap (λ n. min n (2 ^ 64 - 1)) (sym (length-append words (word ∷ [])));
}

-- the texts of lines that are lent
abbrev pub texts : List (Bor (List ℕ)) → List (List ℕ)
texts words = map (λ word. word.now) words

pub one_more_read : (paths new : List Path) {line next : ℕ} (words : List (Bor (List ℕ))) (word : Bor (List ℕ)) → AreRead (texts words) paths line → AddsWord paths word.now (Ok tt) new
    → next ≡ min (line + 1) (2 ^ 64 - 1) → AreRead (texts (words ++ (word ∷ []))) new next
one_more_read paths new {next = next} words word r adds step =
    subst (λ all. AreRead all new next) (sym (map-append (λ (w : Bor (List ℕ)). w.now) words (word ∷ []))) (one_read paths new word.now r adds step)

-- a word needs no path before it
pub no_path_never : (paths new : List Path) (word : List ℕ) → AddsWord paths word (Err path.NoPath) new → ⊥
no_path_never paths new word adds = adds.1

pub all_read : {words : List (List ℕ)} {paths : List Path} {line : ℕ} (text : List ℕ) → IsUtf8 text → words ≡ lines text → AreRead words paths line → ArePaths text paths
all_read text utf8 whole r = record { utf8 = utf8; good = subst (AllByRecursion IsPath) whole r.good; are = r.are ∙ ap (map labels_of) whole }

-- the lines that were read, the next one, and those behind it
parts : (text : List ℕ) (words : List (Bor (List ℕ))) (word : List ℕ) → length words < length (lines text) → texts words ≡ take (length words) (lines text)
    → word ≡ get_or (lines text) (length words) word → lines text ≡ texts words ++ (word ∷ drop (suc (length words)) (lines text))
parts text words word within before is =
    split_at (lines text) (length words) word within
    ∙ ap (λ (front : List (List ℕ)). front ++ (get_or (lines text) (length words) word ∷ drop (suc (length words)) (lines text))) (sym before)
    ∙ ap (λ (w : List ℕ). texts words ++ (w ∷ drop (suc (length words)) (lines text))) (sym is)

module _ (text : List ℕ) (utf8 : IsUtf8 text) (words : List (Bor (List ℕ))) (paths new : List Path) (line next : ℕ) (word : List ℕ) where
  -- the line behind those that were read is no path, or memory was wanting
  pub one_unread : (why : PathError) (found : Lack) → length words < length (lines text) → texts words ≡ take (length words) (lines text) → word ≡ get_or (lines text) (length words) word
      → AreRead (texts words) paths line → AddsWord paths word (Err why) new → next ≡ min (line + 1) (2 ^ 64 - 1) → lack_of_path next why ≡ Some found → IsLacking (HasNoPaths text) found
  one_unread path.BadWord found within before is r adds step e =
      let same : lack.Fault (fault.BadPath next) ≡ found = cc e in
      subst (IsLacking (HasNoPaths text)) same (
        [],
        bad_path next utf8 (record {
          front = texts words;
          word = word;
          rest = drop (suc (length words)) (lines text);
          whole = parts text words word within before is;
          before = r.good;
          bad = adds.0;
          number = step ∙ next_number (texts words) line r.number;
        }),
      )
  one_unread path.NoMemory found within before is r adds step e = let same : lack.NoMemory ≡ found = cc e in subst (IsLacking (HasNoPaths text)) same tt
  one_unread path.NoPath found within before is r adds step e = absurd adds.1
