-- What is due of a text of JSON that was filtered to memory, and why it wasn't.
use Rattle.std.specs.Prelude.{◌≡◌, ℕ, zero, suc, List, [], Option, Some, None, Result, Ok, Err, refl}
use Rattle.std.proofs.Common.{sym, subst, ◌∙◌, inl, inr}
use Rattle.sval_io.specs.declared.sink.SinkError.TheVariants as sink
use Rattle.sval_io.specs.Taken.{Taken, taken_told}
use Rattle.sval_filter.specs.Paths.{Path}
use Rattle.sval_filter.specs.declared.paths.Rule.{Rule}
use Rattle.sval_filter.specs.Pruned.{pruned}
use Rattle.sval_filter.specs.Verdict.{IsJson}
use Rattle.sval_json_read.specs.Trees.{tree_of}
use Rattle.sval_tool.specs.Conversions.{IsTextLeft, WritesDue, WritesParts, IsDocumentCause}
use Rattle.sval_tool.specs.declared.convert.Conversion.{Conversion}
use Rattle.sval_tool.specs.declared.convert.Target.TheVariants as target
use Rattle.sval_tool.specs.declared.error.DocumentError.{DocumentError}
use Rattle.sval_tool.specs.declared.error.DocumentError.TheVariants as document
use Rattle.sval_c.specs.declared.fault.Fault.{Fault}
use Rattle.sval_c.specs.declared.fault.Fault.TheVariants as fault
use Rattle.sval_c.specs.declared.lack.Lack.{Lack}
use Rattle.sval_c.specs.declared.lack.Lack.TheVariants as lack
use Rattle.sval_c.specs.Due.{OfText, denotes, no_utf8, no_json}
use Rattle.sval_c.specs.Lacks.{lack_of_document, IsLacking, GivesOrLacks}
use Rattle.sval_c.specs.OfFilters.{LeftOf, ArePaths, HasNoPaths, FilteredBy, is_left, no_paths, FilteredTextDue}
use Rattle.sval_c.proofs.Taken.{no_rise, taken_whole}

module _ (rule : Rule) (paths : List Path) (input : List ℕ) (old new : Taken) where
  -- what is due of the input
  abbrev Left : Option Fault → List ℕ → Type 0
  Left = OfText (LeftOf rule paths) input

  pub left_written : old.bytes ≡ [] → WritesDue (IsTextLeft rule paths target.Json input) (taken_told old) (taken_told new) → Left None new.bytes
  left_written empty w =
      let d = w.due in
      denotes d.value d.denotes (subst (λ text. IsJson text (pruned rule paths (tree_of d.value))) (sym (taken_whole old new w.text empty w.writes.appends)) d.is)

  -- memory has no faults
  no_stop : (text : List ℕ) → WritesParts (Err sink.Failed) (taken_told old) text (taken_told new) → ⊥
  no_stop text (inl front) = no_rise front.cause
  no_stop text (inr pauses) = let never = pauses.want in cc never

  module _ (c : Conversion) where
    pub write_never : IsDocumentCause taken_told c (IsTextLeft rule paths target.Json input) input document.WriteFault old new → ⊥
    write_never s = no_stop s.text s.stops

    -- JSON has each number
    json_has_all : target.Json ≡ target.Cbor → ⊥
    json_has_all e = cc e

    pub left_unwritten : c.target ≡ target.Json → (why : DocumentError) (found : Lack) → lack_of_document why ≡ Some found
        → IsDocumentCause taken_told c (IsTextLeft rule paths target.Json input) input why old new → IsLacking Left found
    left_unwritten is (document.NotUtf8 at) found e cause =
        let same : lack.Fault (fault.NotUtf8 at) ≡ found = cc e in subst (IsLacking Left) same ([], no_utf8 at cause.0 cause.1)
    left_unwritten is (document.BadJson at) found e cause =
        let same : lack.Fault (fault.BadJson at) ≡ found = cc e in subst (IsLacking Left) same ([], no_json at cause.0)
    left_unwritten is document.NotInteger found e cause = absurd (json_has_all (sym is ∙ cause.0.to_cbor))
    left_unwritten is document.NoMemory found e cause = let same : lack.NoMemory ≡ found = cc e in subst (IsLacking Left) same tt
    left_unwritten is document.WriteFault found e cause = let never : None ≡ Some found = e in absurd (cc never)

-- ---- by the paths of a text

pub left_gives : {Bytes : Type 0} (rule : Rule) (paths : List Path) (input text : List ℕ) (made : Result Bytes Lack) (items : Bytes → List ℕ) → ArePaths text paths
    → GivesOrLacks (OfText (LeftOf rule paths) input) made items → GivesOrLacks (FilteredBy rule input text) made items
left_gives rule paths input text (Ok made) items are given = is_left paths are given
left_gives rule paths input text (Err (lack.Fault why)) items are given = (given.0, is_left paths are given.1)
left_gives rule paths input text (Err lack.NoMemory) items are given = tt

pub none_left : (rule : Rule) (input text : List ℕ) (why : Lack) → IsLacking (HasNoPaths text) why → IsLacking (FilteredBy rule input text) why
none_left rule input text (lack.Fault why) lacking = (lacking.0, no_paths lacking.1)
none_left rule input text lack.NoMemory lacking = tt

-- a number names no rule
pub no_rule : (rule : ℕ) (input text : List ℕ) → (rule ≡ 0 → ⊥) → (rule ≡ 1 → ⊥) → FilteredTextDue rule input text (Some fault.BadChoice) []
no_rule zero input text first second = absurd (first refl)
no_rule (suc zero) input text first second = absurd (second refl)
no_rule (suc (suc rule)) input text first second = (refl, refl)
