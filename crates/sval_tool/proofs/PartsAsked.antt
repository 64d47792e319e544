-- What parts ask for, part by part.
use Rattle.std.specs.Prelude.{◌≡◌, ℕ, Bool, true, false, List, [], ◌∷◌, ◌++◌, ◌||◌, Option, Some, None, Result, Ok, Err, refl}
use Rattle.std.specs.List.{cons_option, filter_map}
use Rattle.std.proofs.Common.{sym, ap, ◌∙◌, append_assoc, append-nil}
use Rattle.std.proofs.lemmas.List.Elements.{filter_map-append}
use Rattle.std.proofs.lemmas.List.Folds.{list_any-append}
use Rattle.sval_filter.specs.declared.paths.Rule.{Rule}
use Rattle.sval_filter.specs.declared.paths.Rule.TheVariants.{Drop, Keep}
use Rattle.sval_tool.specs.Words.{Asked, Part, Turned, Given, Named, Wrong, asked_for, first_of, first_stop, input_in, input_named, once, output_in, output_named, pointer_in, pointer_named, rule_of_part, stop_at, stop_at_path, stop_beside, stop_within, unless}
use Rattle.sval_tool.specs.WordReading.{asked_with_part}
use Rattle.sval_tool.specs.declared.switch.Flag.TheVariants as flag
use Rattle.sval_tool.specs.declared.switch.Setting.{Setting}
use Rattle.sval_tool.specs.declared.switch.Setting.TheVariants as setting
use Rattle.sval_tool.specs.declared.words.Command.{Command}
use Rattle.sval_tool.specs.declared.words.Stop.{Stop}

-- ---- one part more

or_false : (b : Bool) → (b || false) ≡ b
or_false true = refl
or_false false = refl

or_true : (b : Bool) → (b || true) ≡ true
or_true true = refl
or_true false = refl

-- what all parts give or tell, by what the last one does
ruleset by_last = (filter_map-append, list_any-append, append-nil, or_false, or_true)

-- ---- what doesn't end the reading

-- nothing was given before beside which this may not come
beside_none : {X : Type 0} (at : ℕ) (before : Option X) (other : Option Stop) → stop_beside at before other ≡ None → other ≡ None
beside_none at (Some x) other e = cc
beside_none at None other e = e

-- an argument that may come once is the first
once_more : {X : Type 0} (at : ℕ) (which : Setting) (before : List X) (it : Option X) → once at which (first_of before) it ≡ None → first_of (before ++ cons_option it []) ≡ it
once_more at which [] None e = refl
once_more at which [] (Some it) e = refl
once_more at which (x ∷ before) None e = cc
once_more at which (x ∷ before) (Some it) e = cc

-- a path's rule is that of the paths before it
rule_more : (at : ℕ) (which : Setting) (word : List ℕ) (before : List Rule) (rule : Rule) → stop_at_path at which rule (first_of before) word ≡ None → first_of (before ++ (rule ∷ [])) ≡ Some rule
rule_more at which word [] rule e = refl
rule_more at which word (Keep ∷ before) Keep e = refl
rule_more at which word (Drop ∷ before) Drop e = refl
rule_more at which word (Drop ∷ before) Keep e = cc
rule_more at which word (Keep ∷ before) Drop e = cc

module _ (what : Command) (before : List Part) where
  abbrev rules : List Rule
  rules = filter_map rule_of_part before

  abbrev pointers : List (List ℕ)
  pointers = filter_map pointer_in before

  -- what is asked for with a part more
  pub asked_more : (part : Part) → stop_at (asked_for what before) part ≡ None → asked_with_part (asked_for what before) part ≡ asked_for what (before ++ (part ∷ []))
  asked_more (Turned flag.Lines) none = simp by_last
  asked_more (Turned flag.Beside) none = simp by_last
  asked_more (Turned flag.Progress) none = simp by_last
  asked_more (Turned flag.Help) none = cc
  asked_more (Turned flag.Version) none = cc
  asked_more (Given at setting.From word) none = simp (by_last, once_more at setting.From (filter_map input_in before) (input_named word) none)
  asked_more (Given at setting.To word) none = simp (by_last, once_more at setting.To (filter_map output_in before) (output_named word) none)
  asked_more (Given at setting.Keep word) none =
      let same = beside_none at (first_of pointers) (stop_at_path at setting.Keep Keep (first_of rules) word) none in
      simp (by_last, rule_more at setting.Keep word rules Keep same)
  asked_more (Given at setting.Drop word) none =
      let same = beside_none at (first_of pointers) (stop_at_path at setting.Drop Drop (first_of rules) word) none in
      simp (by_last, rule_more at setting.Drop word rules Drop same)
  asked_more (Given at setting.Pointer word) none =
      let free = beside_none at (first_of rules) (once at setting.Pointer (first_of pointers) (pointer_named word)) none in
      simp (by_last, once_more at setting.Pointer pointers (pointer_named word) free)
  asked_more (Named word) none = simp by_last
  asked_more (Wrong at why) none = cc

-- ---- all parts

-- a stop, or else this
abbrev pub after_stop : Option Stop → Result Asked Stop → Result Asked Stop
after_stop (Some why) later = Err why
after_stop None later = later

-- what is asked for with parts more, one by one
abbrev pub with_parts : Asked → List Part → Result Asked Stop
with_parts asked [] = Ok asked
with_parts asked (part ∷ parts) = after_stop (stop_at asked part) (with_parts (asked_with_part asked part) parts)

-- they ask for what all of them ask for together
pub parts_asked : (what : Command) (before parts : List Part) → with_parts (asked_for what before) parts ≡ unless (stop_within what before parts) (asked_for what (before ++ parts))
parts_asked what before [] = ap (λ (parts : List Part). unless None (asked_for what parts)) (sym (append-nil before))
parts_asked what before (part ∷ parts) = by_stop (stop_at (asked_for what before) part) refl (parts_asked what (before ++ (part ∷ [])) parts)
  where
    by_stop : (s : Option Stop) → stop_at (asked_for what before) part ≡ s
        → with_parts (asked_for what (before ++ (part ∷ []))) parts ≡ unless (stop_within what (before ++ (part ∷ [])) parts) (asked_for what ((before ++ (part ∷ [])) ++ parts))
        → after_stop s (with_parts (asked_with_part (asked_for what before) part) parts) ≡ unless (first_stop s (stop_within what (before ++ (part ∷ [])) parts)) (asked_for what (before ++ (part ∷ parts)))
    by_stop (Some why) is rest = refl
    by_stop None is rest =
        ap (λ (asked : Asked). with_parts asked parts) (asked_more what before part is)
        ∙ (rest ∙ ap (λ (all : List Part). unless (stop_within what (before ++ (part ∷ [])) parts) (asked_for what all)) (append_assoc before (part ∷ []) parts))
