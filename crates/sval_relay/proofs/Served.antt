-- What was written of a script that was checked, as what serving it answers.
use Rattle.std.specs.Prelude.{◌≡◌, ℕ, ◌+◌, ◌<◌, ◌^◌, Bool, true, false, List, [], ◌∷◌, length, map, Result, Err, refl}
use Rattle.std.proofs.Common.{sym, ap, ◌∙◌, subst, arith, inr}
use Rattle.std.proofs.lemmas.List.{length-append, length-map}
use Rattle.sval_label.specs.Calls.{Call}
use Rattle.sval_core.specs.Many.{EndAfter}
use Rattle.sval_core.specs.Real.{IsPrintable}
use Rattle.sval_core.specs.Spells.{Spells}
use Rattle.sval_core.specs.Trees.{Tree}
use Rattle.sval_core.specs.Values.{makes}
use Rattle.sval_io.specs.Sinks.{Told}
use Rattle.sval_check.specs.ManyChecks.{as_kept, AreValues}
use Rattle.sval_script.specs.Lines.{lines, Good}
use Rattle.sval_script.proofs.PrintableTrees.{script_tree, script_trees}
use Rattle.sval_relay.specs.declared.way.Way.{Way}
use Rattle.sval_relay.specs.declared.way.Way.TheVariants.{Direct, Buffered, Calls, DirectBeside, BufferedBeside}
use Rattle.sval_relay.specs.declared.relaying.RelayError.{RelayError}
use Rattle.sval_relay.specs.declared.relaying.RelayError.TheVariants.{Write}
use Rattle.sval_relay.specs.Ways.{is_captured}
use Rattle.sval_relay.specs.Verdict.{asked_in, ending, one_in, all_in, OnVerdict}
use Rattle.sval_relay.specs.Relays.{LacksRoomFor, IsWantFor, Relays}
use Rattle.sval_relay.specs.WrittenTrees.{IsWantOfTree, IsWantAmong, WritesTreeBy, WritesTrees, WritesListIn, AreTrees, IsOfScript}
use Rattle.sval_relay.proofs.ListTexts.{alone}
use Rattle.sval_relay.proofs.RelayAnswers.{relays_written, full_where_failed}

-- ---- one value

-- its tree can be printed
pub one_printable : (calls : List Call) (tree : Tree) → IsOfScript calls → Spells calls tree → IsPrintable tree
one_printable calls tree of s = script_tree of.script tree (of.small, calls, of.read, s)

no_ending : (way : Way) → [] ≡ ending (asked_in way) false
no_ending Direct = refl
no_ending Buffered = refl
no_ending Calls = refl
no_ending DirectBeside = refl
no_ending BufferedBeside = refl

pub want_of_one : {K : Type 0} (captured : Bool) (told : K → Told) (old new : K) → IsWantOfTree captured told old new → IsWantFor captured false told old new
want_of_one false told old new want = inr want
want_of_one true told old new want = want

pub as_list : {K : Type 0} (told : K → Told) (way : Way) (tree : Tree) (old new : K) (result : Result (Unit {0}) RelayError) → WritesTreeBy way result told tree old new
    → WritesTrees result (IsWantOfTree (is_captured way) told) told (asked_in way) (ending (asked_in way) false) (tree ∷ []) old new
as_list told way tree old new result w =
    subst (λ end. WritesTrees result (IsWantOfTree (is_captured way) told) told (asked_in way) end (tree ∷ []) old new) (no_ending way)
    (alone told (asked_in way) tree (is_captured way) old new result w)

pub serves_one : {K : Type 0} (told : K → Told) (bytes : List ℕ) (way : Way) (calls : List Call) (tree : Tree) (old new : K) (result : Result (Unit {0}) RelayError) → lines bytes ≡ Good calls → Spells calls tree
    → WritesTreeBy way result told tree old new → Relays told bytes (one_in way) result old new
serves_one told bytes way calls tree old new result is s w =
    relays_written bytes (one_in way) calls (tree ∷ []) is (tree, refl, s) told (IsWantOfTree (is_captured way) told) old new result (as_list told way tree old new result w) (want_of_one (is_captured way) told old new)

pub full_for_one : {K : Type 0} (told : K → Told) (bytes : List ℕ) (way : Way) (calls : List Call) (tree : Tree) (old new : K) (result : Result (Unit {0}) RelayError) → lines bytes ≡ Good calls → Spells calls tree
    → WritesTreeBy way result told tree old new → result ≡ Err Write → OnVerdict (LacksRoomFor (told old)) bytes (one_in way)
full_for_one told bytes way calls tree old new result is s w =
    full_where_failed bytes (one_in way) calls (tree ∷ []) is (tree, refl, s) told (IsWantOfTree (is_captured way) told) old new result (as_list told way tree old new result w)

-- ---- many values

-- no end is past the last call, so each is kept as it is
ends_kept : (past : ℕ) (calls : List Call) (trees : List Tree) (ends : List ℕ) → past + length calls < 2 ^ 64 → EndAfter past calls trees ends → map as_kept ends ≡ ends
ends_kept past calls [] ends few (none, e) = ap (map as_kept) e ∙ sym e
ends_kept past calls (tree ∷ trees) ends few (front, last, more, others, is, counts, spells, e, there) =
    let all : length calls ≡ length front + (length more + 1) = ap length is ∙ length-append front (last ∷ more) ∙ omega arith in
    let here : as_kept (past + length front + 1) ≡ past + length front + 1 = omega (arith, few, all) in
    let behind = ends_kept (past + length front + 1) more trees others (omega (arith, few, all)) there in
    ap (map as_kept) e ∙ ap (λ n. n ∷ map as_kept others) here ∙ ap (λ xs. (past + length front + 1) ∷ xs) behind ∙ sym e

-- what was found by checking
pub found_trees : (calls : List Call) (ends : List ℕ) → length calls < 2 ^ 64 → IsOfScript calls → AreValues (makes calls) ends → (trees : List Tree) × AreTrees calls ends trees
found_trees calls ends few of found =
    let same : ends ≡ found.ends = found.are_kept ∙ ends_kept 0 calls found.trees found.ends (omega (arith, few)) found.end_there in (
      found.trees,
      record {
        spell = found.spells;
        printable = script_trees of.script found.trees (of.small, calls, of.read, found.spells);
        end_there = subst (EndAfter 0 calls found.trees) (sym same) found.end_there;
      },
    )

-- who has an end has a call
some_call : (past : ℕ) (calls : List Call) (trees : List Tree) (ends : List ℕ) → EndAfter past calls trees ends → 0 < length ends → 0 < length calls
some_call past calls [] ends (none, e) some = absurd (omega (arith, some, ap length e))
some_call past calls (tree ∷ trees) ends (front, last, more, others, is, counts, spells, e, there) some =
    let all : length calls ≡ length front + (length more + 1) = ap length is ∙ length-append front (last ∷ more) ∙ omega arith in
    omega (arith, all)

-- calls in which some value ends are some
pub some_of_ends : (calls : List Call) (ends : List ℕ) → AreValues (makes calls) ends → 0 < length ends → 0 < length calls
some_of_ends calls ends found some =
    some_call 0 calls found.trees found.ends found.end_there (omega (arith, some, ap length found.are_kept, length-map found.ends as_kept))

pub want_among_many : {K : Type 0} (captured : Bool) (told : K → Told) (old new : K) → IsWantAmong captured told old new → IsWantFor captured true told old new
want_among_many false told old new want = inr want
want_among_many true told old new want = want

pub serves_many : {K : Type 0} (told : K → Told) (bytes : List ℕ) (way : Way) (calls : List Call) (ends : List ℕ) (trees : List Tree) (old new : K) (result : Result (Unit {0}) RelayError) → lines bytes ≡ Good calls
    → AreTrees calls ends trees → WritesListIn way result told trees old new → Relays told bytes (all_in way) result old new
serves_many {K} told bytes way calls ends trees old new result is are w =
    let Want : K → K → Type 0 = IsWantAmong (is_captured way) told in
    relays_written bytes (all_in way) calls trees is are.spell told Want old new result w (want_among_many (is_captured way) told old new)

pub full_for_many : {K : Type 0} (told : K → Told) (bytes : List ℕ) (way : Way) (calls : List Call) (ends : List ℕ) (trees : List Tree) (old new : K) (result : Result (Unit {0}) RelayError) → lines bytes ≡ Good calls
    → AreTrees calls ends trees → WritesListIn way result told trees old new → result ≡ Err Write → OnVerdict (LacksRoomFor (told old)) bytes (all_in way)
full_for_many told bytes way calls ends trees old new result is are w =
    full_where_failed bytes (all_in way) calls trees is are.spell told (IsWantAmong (is_captured way) told) old new result w
