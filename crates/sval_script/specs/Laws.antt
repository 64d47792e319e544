-- The laws of scripts, as facts.
use Rattle.std.specs.Prelude.{◌≡◌, ◌↔◌, ℕ, ◌<◌, ◌^◌, List, length, flat_map}
use Rattle.std.specs.List.{AllByRecursion}
use Rattle.sval_label.specs.Calls.{Call}
use Rattle.sval_core.specs.Trees.{Tree, calls_of}
use Rattle.sval_core.specs.Spells.{Spells}
use Rattle.sval_core.specs.Many.{SpellsAll}
use Rattle.sval_core.specs.Law.{Ran}
use Rattle.sval_core.specs.Real.{IsRealCall, IsPrintable}
use Rattle.sval_script.specs.Lines.{lines, Good}
use Rattle.sval_core.specs.Spells.{Spells}
use Rattle.sval_core.specs.ExactCalls.{AreExact}
use Rattle.sval_script.specs.Printed.{printed, canonical_calls, printed_canonically, ArePrintable}
use Rattle.sval_script.specs.Printing.{Printing, HasKnownTags, with_printed, printer_law}
use Rattle.sval_script.specs.PrintedValues.{HaveKnownTags}
use Rattle.sval_script.specs.Canon.{canon, canon_all}

-- the lines of printed calls spell these calls
abbrev pub PrintedLinesReadBack : Type 0
PrintedLinesReadBack = (calls : List Call) → ArePrintable calls → lines (printed calls) ≡ Good calls

-- a printer that took these calls wrote their lines and nothing else, and knows their tags
abbrev pub PrintersPrint : Type 0
PrintersPrint =
    (calls : List Call) (begun done : Printing) → Ran printer_law begun calls done → AllByRecursion HasKnownTags calls × (done ≡ with_printed (printed calls) begun)

-- the lines of a tree's canonical script spell its canonical calls
abbrev pub CanonReadsBack : Type 0
CanonReadsBack = (tree : Tree) → IsPrintable tree → lines (canon tree) ≡ Good (calls_of tree)

-- no two trees have one canonical script
abbrev pub CanonIsOfOneTree : Type 0
CanonIsOfOneTree = (tree other : Tree) → IsPrintable tree → IsPrintable other → canon tree ≡ canon other → tree ≡ other

-- the lines of joined canonical scripts spell the trees' canonical calls, joined
abbrev pub CanonsReadBack : Type 0
CanonsReadBack = (trees : List Tree) → AllByRecursion IsPrintable trees → lines (canon_all trees) ≡ Good (flat_map calls_of trees)

-- no two lists of trees have one canonical script
abbrev pub CanonsAreOfOneList : Type 0
CanonsAreOfOneList =
    (trees others : List Tree) → AllByRecursion IsPrintable trees → AllByRecursion IsPrintable others → canon_all trees ≡ canon_all others → trees ≡ others

-- exact calls that spell a tree print canonically as the tree's canonical script, whatever hints stand among them
abbrev pub ExactCallsPrintCanon : Type 0
ExactCallsPrintCanon = (calls : List Call) (tree : Tree) → Spells calls tree → AreExact calls → printed_canonically calls ≡ canon tree

-- and if the tree is printable, all tags that they show are among the ten names
abbrev pub ExactCallsHaveKnownTags : Type 0
ExactCallsHaveKnownTags = (calls : List Call) (tree : Tree) → Spells calls tree → IsPrintable tree → AreExact calls → HaveKnownTags (canonical_calls calls)

-- the calls of a script are real
abbrev pub ScriptsAreReal : Type 0
ScriptsAreReal = (script : List ℕ) (calls : List Call) → lines script ≡ Good calls → AllByRecursion IsRealCall calls

-- the lines of a script, of as many bytes as memory can hold, spell this tree
abbrev pub IsScriptOf : Tree → List ℕ → Type 0
IsScriptOf tree script = (length script < 2 ^ 64) × (calls : List Call) × (lines script ≡ Good calls) × Spells calls tree

-- the same for a list of trees
abbrev pub IsScriptOfAll : List Tree → List ℕ → Type 0
IsScriptOfAll trees script = (length script < 2 ^ 64) × (calls : List Call) × (lines script ≡ Good calls) × SpellsAll calls trees

-- a script spells printable trees
abbrev pub ScriptsSpellPrintableTrees : Type 0
ScriptsSpellPrintableTrees = (script : List ℕ) (trees : List Tree) → IsScriptOfAll trees script → AllByRecursion IsPrintable trees

-- two scripts have one canonical script exactly if they spell one tree
abbrev pub OneCanonIfOneTree : Type 0
OneCanonIfOneTree = (script another : List ℕ) (tree other : Tree) → IsScriptOf tree script → IsScriptOf other another → (canon tree ≡ canon other) ↔ (tree ≡ other)

-- the same for lists of trees
abbrev pub OneCanonIfOneList : Type 0
OneCanonIfOneList =
    (script another : List ℕ) (trees others : List Tree) → IsScriptOfAll trees script → IsScriptOfAll others another
    → (canon_all trees ≡ canon_all others) ↔ (trees ≡ others)
