-- Lines that were converted, one after the other.
use Rattle.std.specs.Prelude.{◌≡◌, ℕ, suc, ◌+◌, ◌++◌, true, false, List, [], Option, Some, None, Ok, Err, IfSome, refl}
use Rattle.std.proofs.Common.{sym, subst, ◌∙◌, arith}
use Rattle.sval_io.specs.Sinks.{Told}
use Rattle.sval_io.specs.Sources.{Supply}
use Rattle.sval_io.proofs.Appending.{writes_nothing, writes_both}
use Rattle.sval_core.specs.Law.{Rose}
use Rattle.sval_lines.specs.SourceLines.{TakesPart, TakesOrEnds}
use Rattle.sval_lines.specs.declared.error.LineError.{LineError}
use Rattle.sval_lines.specs.declared.error.LineError.TheVariants as reading
use Rattle.sval_tool.specs.Conversions.{WritesDue, IsDocumentCause}
use Rattle.sval_tool.specs.ConvertedLines.{IsLineDue, no_line, one_more, ConvertsLine, HasNoLine, ConvertsOne, ConvertsSome, IsNumberedBehind, ConvertsLines, HasLinesCause}
use Rattle.sval_tool.specs.declared.convert.Conversion.{Conversion}
use Rattle.sval_tool.specs.declared.error.DocumentError.{DocumentError}
use Rattle.sval_tool.specs.declared.lines.LinesError.{LinesError}
use Rattle.sval_tool.specs.declared.lines.LinesError.TheVariants.{Unread, Line}

-- some lines were converted, and the rest is left; so many were taken before them, and so many now
pub record AreConverted {K : Type 0} (told : K → Told) (c : Conversion) (bytes : List ℕ) (before : ℕ) (left : Option (List ℕ)) (taken : ℕ) (old new : K) : Type 0 where
  pub rest : List ℕ
  pub count : ℕ
  pub counted : taken ≡ before + count
  pub is : left ≡ Some rest
  pub converts : ConvertsSome told c bytes rest count old new

module _ {K : Type 0} (told : K → Told) (c : Conversion) where
  -- ---- one line

  pub not_read : (bytes left : Option (List ℕ)) (part : List ℕ) (why : LineError) (old : K) → IfSome bytes (λ all. TakesPart all part left)
      → IfSome bytes (λ all. ConvertsOne told c all (Err (Unread why)) [] left old old)
  not_read None left part why old t = tt
  not_read (Some all) left part why old t = record { part = part; taken = t; same = refl }

  pub no_more : (bytes left : Option (List ℕ)) (line : List ℕ) (old : K) → IfSome bytes (λ all. TakesOrEnds false all line left)
      → IfSome bytes (λ all. ConvertsOne told c all (Ok false) [] left old old)
  no_more None left line old t = tt
  no_more (Some all) left line old t = record { empty = t.empty; left = t.left; same = refl }

  pub one_done : (bytes left : Option (List ℕ)) (line : List ℕ) (old new : K) → IfSome bytes (λ all. TakesOrEnds true all line left) → WritesDue (IsLineDue c line) (told old) (told new)
      → IfSome bytes (λ all. ConvertsOne told c all (Ok true) [] left old new)
  one_done None left line old new t w = tt
  one_done (Some all) left line old new t w = record { line = line; taken = t; writes = w }

  pub one_stopped : (bytes left : Option (List ℕ)) (line : List ℕ) (number : ℕ) (why : DocumentError) (old new : K) → IfSome bytes (λ all. TakesOrEnds true all line left)
      → IsDocumentCause told c (IsLineDue c line) line why old new → IfSome bytes (λ all. ConvertsOne told c all (Err (Line number why)) line left old new)
  one_stopped None left line number why old new t cause = tt
  one_stopped (Some all) left line number why old new t cause = record { taken = t; cause = cause }

  -- ---- and further ones

  pub none_converted : (bytes : Option (List ℕ)) (before : ℕ) (old : K) → IfSome bytes (λ all. AreConverted told c all before bytes before old old)
  none_converted None before old = tt
  none_converted (Some all) before old = record { rest = all; count = 0; counted = omega arith; is = refl; converts = record { text = []; due = no_line; writes = writes_nothing (told old) } }

  pub one_converted : (bytes left next : Option (List ℕ)) (before taken now : ℕ) (old mid new : K) → now ≡ taken + 1 → IfSome bytes (λ all. AreConverted told c all before left taken old mid)
      → IfSome left (λ rest. ConvertsOne told c rest (Ok true) [] next mid new) → IfSome bytes (λ all. AreConverted told c all before next now old new)
  one_converted None left next before taken now old mid new n a o = tt
  one_converted (Some all) left next before taken now old mid new n a o =
      let l : ConvertsLine c a.rest next (told mid) (told new) = subst (λ x. IfSome x (λ rest. ConvertsOne told c rest (Ok true) [] next mid new)) a.is o in
      record {
        rest = l.taken.rest;
        count = suc a.count;
        counted = omega (arith, n, a.counted);
        is = l.taken.left;
        converts = record {
          text = a.converts.text ++ l.writes.text;
          due = one_more l.writes.text a.converts.due l.taken.no_feed l.taken.ends l.writes.due;
          writes = writes_both a.converts.text l.writes.text a.converts.writes l.writes.writes;
        };
      }

  pub all_converted : (bytes left next : Option (List ℕ)) (before taken : ℕ) (old mid new : K) → IfSome bytes (λ all. AreConverted told c all before left taken old mid)
      → IfSome left (λ rest. ConvertsOne told c rest (Ok false) [] next mid new) → IfSome bytes (λ all. ConvertsLines told c all before (Ok tt) [] next old new)
  all_converted None left next before taken old mid new a o = tt
  all_converted (Some all) left next before taken old mid new a o =
      let e : HasNoLine a.rest next mid new = subst (λ x. IfSome x (λ rest. ConvertsOne told c rest (Ok false) [] next mid new)) a.is o in
      record {
        count = a.count;
        converts = subst (λ k. ConvertsSome told c all [] a.count old k) (sym e.same) (subst (λ rest. ConvertsSome told c all rest a.count old mid) e.empty a.converts);
        left = e.left;
      }

  pub then_stopped : (bytes left next : Option (List ℕ)) (line : List ℕ) (before taken : ℕ) (why : LinesError) (old mid new : K) → IsNumberedBehind taken why
      → IfSome bytes (λ all. AreConverted told c all before left taken old mid) → IfSome left (λ rest. ConvertsOne told c rest (Err why) line next mid new)
      → IfSome bytes (λ all. ConvertsLines told c all before (Err why) line next old new)
  then_stopped None left next line before taken why old mid new n a o = tt
  then_stopped (Some all) left next line before taken why old mid new n a o = record {
    rest = a.rest;
    count = a.count;
    numbered = subst (λ (k : ℕ). IsNumberedBehind k why) a.counted n;
    middle = mid;
    converts = a.converts;
    cause = subst (λ x. IfSome x (λ rest. ConvertsOne told c rest (Err why) line next mid new)) a.is o;
  }

-- a cause after lines at which the source didn't fail
pub cause_since : (why : LinesError) (number : ℕ) (old mid new : Supply) → mid.faults ≡ old.faults → HasLinesCause why number mid new → HasLinesCause why number old new
cause_since (Unread reading.ReadFault) number old mid new e cause = subst (λ n. Rose n new.faults) e cause
cause_since (Unread reading.TooManyLines) number old mid new e cause = cause
cause_since (Unread reading.NoMemory) number old mid new e cause = sym e ∙ cause
cause_since (Line line why) number old mid new e cause = (cause.0, cause.1 ∙ e)
