-- Trees that are served one after another, by where each of them ends.
use Rattle.std.specs.Prelude.{◌≡◌, ℕ, ◌+◌, ◌-◌, ◌<◌, ◌≤◌, List, [], ◌∷◌, ◌++◌, length, take, drop}
use Rattle.std.specs.List.{AllByRecursion}
use Rattle.std.proofs.Common.{sym, ap, ◌∙◌, subst, arith, get_or, append_assoc}
use Rattle.std.proofs.lemmas.List.{drop_more, drop_all, length-append}
use Rattle.std.proofs.Math.Seq.{take-append_seam, drop-append_seam}
use Rattle.sval_label.specs.Calls.{Call}
use Rattle.sval_core.specs.Many.{EndAfter}
use Rattle.sval_core.specs.Real.{IsPrintable}
use Rattle.sval_core.specs.Spells.{Spells}
use Rattle.sval_core.specs.Trees.{Tree}
use Rattle.sval_io.specs.Sinks.{Told}
use Rattle.sval_relay.specs.Verdict.{TreeFormat}
use Rattle.sval_relay.specs.WrittenTrees.{WritesTexts, AreTrees}
use Rattle.sval_relay.proofs.ListTexts.{IsWrittenTo, none_written, one_written, all_written}

-- so many calls of the list were served, and this is left: its calls, where its trees end, and the trees
pub record IsServedTo (asked : TreeFormat) (end : List ℕ) (trees : List Tree) (old now : Told) (past : ℕ) (calls : List Call) (ends : List ℕ) : Type 0 where
  pub rest : List Tree
  pub end_there : EndAfter past calls rest ends
  pub printable : AllByRecursion IsPrintable rest
  pub written : IsWrittenTo asked end trees old now rest

pub served_none : (asked : TreeFormat) (end : List ℕ) (told : Told) (calls : List Call) (ends : List ℕ) (trees : List Tree) → AreTrees calls ends trees → IsServedTo asked end trees told told 0 calls ends
served_none asked end told calls ends trees are = record { rest = trees; end_there = are.end_there; printable = are.printable; written = none_written asked end trees told }

pub served_all : {asked : TreeFormat} {end : List ℕ} {trees : List Tree} {old now : Told} {past : ℕ} {calls : List Call} → IsServedTo asked end trees old now past calls [] → WritesTexts asked end trees old now
served_all {asked} {end} {trees} {old} {now} {past} {calls} so = by_rest so.rest so.end_there so.written
  where
    by_rest : (rest : List Tree) → EndAfter past calls rest [] → IsWrittenTo asked end trees old now rest → WritesTexts asked end trees old now
    by_rest [] there w = all_written w
    by_rest (tree ∷ rest) (front, last, more, others, is, counts, spells, e, there) w = cc e

-- the next tree, and what is left behind it
pub record IsNext (asked : TreeFormat) (end : List ℕ) (trees : List Tree) (old now : Told) (past : ℕ) (calls : List Call) (to : ℕ) (ends : List ℕ) : Type 0 where
  pub tree : Tree
  pub rest : List Tree
  pub later : past ≤ to
  pub there : to - past ≤ length calls
  pub spells : Spells (take (to - past) calls) tree
  pub printable : IsPrintable tree
  pub rest_printable : AllByRecursion IsPrintable rest
  pub end_there : EndAfter to (drop (to - past) calls) rest ends
  pub written : IsWrittenTo asked end trees old now (tree ∷ rest)

next_of : {asked : TreeFormat} {end : List ℕ} {trees : List Tree} {old now : Told} {past : ℕ} {calls : List Call} {to : ℕ} {ends : List ℕ} → IsServedTo asked end trees old now past calls (to ∷ ends)
    → IsNext asked end trees old now past calls to ends
next_of {asked} {end} {trees} {old} {now} {past} {calls} {to} {ends} so = by_rest so.rest so.end_there so.printable so.written
  where
    by_rest : (rest : List Tree) → EndAfter past calls rest (to ∷ ends) → AllByRecursion IsPrintable rest → IsWrittenTo asked end trees old now rest → IsNext asked end trees old now past calls to ends
    by_rest [] (none, e) p w = cc e
    by_rest (tree ∷ rest) (front, last, more, others, is, counts, spells, e, there) p w =
        let here : to ≡ past + length front + 1 = cc e in
        let same : ends ≡ others = cc e in
        let piece = front ++ (last ∷ []) in
        let size : length piece ≡ length front + 1 = length-append front (last ∷ []) in
        let number : length piece ≡ to - past = omega (arith, here, size) in
        let whole : calls ≡ piece ++ more = is ∙ sym (append_assoc front (last ∷ []) more) in
        let first : piece ≡ take (to - past) calls = sym (take-append_seam piece more) ∙ ap (λ n. take n (piece ++ more)) number ∙ ap (take (to - past)) (sym whole) in
        let behind : more ≡ drop (to - past) calls = sym (drop-append_seam piece more) ∙ ap (λ n. drop n (piece ++ more)) number ∙ ap (drop (to - past)) (sym whole) in
        let all : length calls ≡ length piece + length more = ap length whole ∙ length-append piece more in
        record {
          tree = tree;
          rest = rest;
          later = omega (arith, here);
          there = omega (arith, all, number);
          spells = subst (λ calls. Spells calls tree) first spells;
          printable = p.0;
          rest_printable = p.1;
          end_there =
              subst (λ calls. EndAfter to calls rest ends) behind
              (subst (λ ends. EndAfter to more rest ends) (sym same) (subst (λ n. EndAfter n more rest others) (sym here) there));
          written = w;
        }

-- the same by the place of the end
pub next_at : {asked : TreeFormat} {end : List ℕ} {trees : List Tree} {old now : Told} {past : ℕ} {calls : List Call} (ends : List ℕ) (i : ℕ) → i < length ends
    → IsServedTo asked end trees old now past calls (drop i ends) → IsNext asked end trees old now past calls (get_or ends i 0) (drop (i + 1) ends)
next_at {asked} {end} {trees} {old} {now} {past} {calls} ends i within so = next_of (subst (IsServedTo asked end trees old now past calls) (drop_more ends i 0 within) so)

-- it was served
pub served_next : {asked : TreeFormat} {end : List ℕ} {trees : List Tree} {old mid now : Told} {past : ℕ} {calls : List Call} {to : ℕ} {ends : List ℕ} (next : IsNext asked end trees old mid past calls to ends)
    → WritesTexts asked end (next.tree ∷ []) mid now → IsServedTo asked end trees old now to (drop (to - past) calls) ends
served_next next w = record { rest = next.rest; end_there = next.end_there; printable = next.rest_printable; written = one_written next.tree next.written w }

-- none is left behind the last end
pub served_to_end : {asked : TreeFormat} {end : List ℕ} {trees : List Tree} {old now : Told} {past : ℕ} {calls : List Call} (ends : List ℕ) (i : ℕ) → length ends ≤ i
    → IsServedTo asked end trees old now past calls (drop i ends) → WritesTexts asked end trees old now
served_to_end {asked} {end} {trees} {old} {now} {past} {calls} ends i past_all so = served_all (subst (IsServedTo asked end trees old now past calls) (drop_all i ends past_all) so)
