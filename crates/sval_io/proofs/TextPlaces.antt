-- One more byte of a text, and its first bytes.
use Rattle.std.specs.Prelude.{◌≡◌, ℕ, suc, ◌+◌, ◌==◌, ◌<◌, ◌≤◌, if◌then◌else◌, Bool, true, false, List, [], ◌∷◌, ◌++◌, length, take, get_or, refl}
use Rattle.std.proofs.Common.{sym, ap, subst, ◌∙◌, arith, take_all}
use Rattle.std.proofs.lemmas.List.{take_more}
use Rattle.sval_io.specs.TextPlaces.{line_feeds, behind_line_feed}

line_feeds_more : (bytes : List ℕ) (byte : ℕ) → line_feeds (bytes ++ (byte ∷ [])) ≡ if byte == 10 then suc (line_feeds bytes) else line_feeds bytes
line_feeds_more [] byte = refl
line_feeds_more (first ∷ bytes) byte = go (first == 10) (byte == 10) (line_feeds_more bytes byte)
  where
    go : (f b : Bool) → line_feeds (bytes ++ (byte ∷ [])) ≡ (if b then suc (line_feeds bytes) else line_feeds bytes)
        → (if f then suc (line_feeds (bytes ++ (byte ∷ []))) else line_feeds (bytes ++ (byte ∷ [])))
        ≡ (if b then suc (if f then suc (line_feeds bytes) else line_feeds bytes) else (if f then suc (line_feeds bytes) else line_feeds bytes))
    go true true e = ap suc e
    go true false e = ap suc e
    go false true e = e
    go false false e = e

behind_more : (before : ℕ) (bytes : List ℕ) (byte : ℕ) → behind_line_feed before (bytes ++ (byte ∷ [])) ≡ if byte == 10 then 0 else suc (behind_line_feed before bytes)
behind_more before [] byte = refl
behind_more before (first ∷ bytes) byte = go (first == 10) (behind_more 0 bytes byte) (behind_more (suc before) bytes byte)
  where
    go : (f : Bool) → behind_line_feed 0 (bytes ++ (byte ∷ [])) ≡ (if byte == 10 then 0 else suc (behind_line_feed 0 bytes))
        → behind_line_feed (suc before) (bytes ++ (byte ∷ [])) ≡ (if byte == 10 then 0 else suc (behind_line_feed (suc before) bytes))
        → (if f then behind_line_feed 0 (bytes ++ (byte ∷ [])) else behind_line_feed (suc before) (bytes ++ (byte ∷ [])))
        ≡ (if byte == 10 then 0 else suc (if f then behind_line_feed 0 bytes else behind_line_feed (suc before) bytes))
    go true new old = new
    go false new old = old

-- what was counted of the first `n` bytes
pub record Counts (bytes : List ℕ) (n lines columns : ℕ) : Type 0 where
  pub lines_are : lines ≡ line_feeds (take n bytes)
  pub columns_are : columns ≡ behind_line_feed 0 (take n bytes)
  pub few_lines : lines ≤ n
  pub few_columns : columns ≤ n

at_most : (b : Bool) (lines n : ℕ) → lines ≤ n → (if b then suc lines else lines) ≤ n + 1
at_most true lines n h = omega (arith, h)
at_most false lines n h = omega (arith, h)

at_most_columns : (b : Bool) (columns n : ℕ) → columns ≤ n → (if b then 0 else suc columns) ≤ n + 1
at_most_columns true columns n h = omega arith
at_most_columns false columns n h = omega (arith, h)

pub none_counted : (bytes : List ℕ) → Counts bytes 0 0 0
none_counted bytes = record { lines_are = refl; columns_are = refl; few_lines = omega arith; few_columns = omega arith }

pub one_more : (bytes : List ℕ) (n lines columns l c : ℕ) → n < length bytes → Counts bytes n lines columns → l ≡ (if get_or bytes n 0 == 10 then suc lines else lines) → c ≡ (if get_or bytes n 0 == 10 then 0 else suc columns)
    → Counts bytes (n + 1) l c
one_more bytes n lines columns l c less h e f = record {
  lines_are = e ∙ ap (λ k. if get_or bytes n 0 == 10 then suc k else k) h.lines_are ∙ sym (line_feeds_more (take n bytes) (get_or bytes n 0)) ∙ ap line_feeds (sym (take_more bytes n 0 less));
  columns_are = f ∙ ap (λ k. if get_or bytes n 0 == 10 then 0 else suc k) h.columns_are ∙ sym (behind_more 0 (take n bytes) (get_or bytes n 0)) ∙ ap (behind_line_feed 0) (sym (take_more bytes n 0 less));
  few_lines = subst (λ x. x ≤ n + 1) (sym e) (at_most (get_or bytes n 0 == 10) lines n h.few_lines);
  few_columns = subst (λ x. x ≤ n + 1) (sym f) (at_most_columns (get_or bytes n 0 == 10) columns n h.few_columns);
}

pub all_lines : (bytes : List ℕ) (n lines columns : ℕ) → Counts bytes n lines columns → length bytes ≤ n → lines ≡ line_feeds bytes
all_lines bytes n lines columns h enough = h.lines_are ∙ ap line_feeds (take_all n bytes enough)

pub all_columns : (bytes : List ℕ) (n lines columns : ℕ) → Counts bytes n lines columns → length bytes ≤ n → columns ≡ behind_line_feed 0 bytes
all_columns bytes n lines columns h enough = h.columns_are ∙ ap (behind_line_feed 0) (take_all n bytes enough)
