-- Loops over the parts that an iterator gives, after what comes before them.
use Rattle.std.specs.Prelude.{◌≡◌, length, take, map, List, [], ◌∷◌, ◌++◌, Option, Some, None, Result}
use Rattle.std.specs.Iterator.{Yields}
use Rattle.std.proofs.Common.{sym, subst}
use Rattle.std.proofs.lemmas.List.{map-append}
use Rattle.std.proofs.lemmas.Iterator.{YieldsList}
use Rattle.std.proofs.lemmas.Iterator.Consumers.{YieldsList-so_far, YieldsList-turn, YieldsList-end}
use Rattle.sval_label.specs.declared.error.Error.{Error}
use Rattle.sval_core.specs.Law.{Standing, Law, Emission, then_emits, Streams, Stops, Emits}
use Rattle.sval_core.specs.Values.{parts_emission}
use Rattle.sval_core.proofs.Joining.{streams_pushed, stops_at_part, emits_after}

-- what comes before the parts, by an equal name
pub stops_renamed : {V : Type 0} {law : Law V} {old new : Standing V} {front other : Emission} (rest : Emission) → front ≡ other → Stops law old (then_emits front rest) new → Stops law old (then_emits other rest) new
stops_renamed {law = law} {old = old} {new = new} rest same p = subst (λ e. Stops law old (then_emits e rest) new) same p

pub emits_renamed : {V : Type 0} (law : Law V) (old new : Standing V) {front other : Emission} (r : Result (Unit {0}) Error) (rest : Emission)
    → front ≡ other → Emits law r old (then_emits front rest) new → Emits law r old (then_emits other rest) new
emits_renamed law old new r rest same p = subst (λ e. Emits law r old (then_emits e rest) new) same p

module _ {A T V : Type 0} (shows : A → T) (emission : T → Emission) {law : Law V} {old mid : Standing V} (front : Emission) where
  -- one part more is streamed,
  pub streams_yielded : {new : Standing V} (xs : List A) (x : A)
      → Streams law old (then_emits front (parts_emission emission (map shows xs))) mid → Streams law mid (emission (shows x)) new
      → Streams law old (then_emits front (parts_emission emission (map shows (xs ++ x ∷ [])))) new
  streams_yielded {new = new} xs x s t =
      subst (λ all. Streams law old (then_emits front (parts_emission emission all)) new) (sym (map-append shows xs (x ∷ []))) (streams_pushed emission front (map shows xs) (shows x) s t)

  module _ {I : Type 0} {steps : I → Option A → I → Type 0} {items : I} {all : List T} (gives : YieldsList steps shows items all) (xs : List A) (at next : I) (so_far : Yields steps items xs at) where
    -- or it stops, whatever follows the parts;
    pub stops_at_yielded : {new : Standing V} (given : Option A) (x : A) (more : Emission) → given ≡ Some x → steps at given next
        → Streams law old (then_emits front (parts_emission emission (map shows xs))) mid → Stops law mid (emission (shows x)) new
        → Stops law old (then_emits front (then_emits (parts_emission emission all) more)) new
    stops_at_yielded given x more is step s t =
        let turn = YieldsList-turn gives xs at so_far given next x is step in
        stops_at_part emission front all (length xs) (shows x) more turn.0 turn.1
        (subst (λ parts. Streams law old (then_emits front (parts_emission emission parts)) mid) (YieldsList-so_far gives xs at so_far) s) t

    -- and after all parts what follows them.
    pub emits_after_yielded : (new : Standing V) (given : Option A) (r : Result (Unit {0}) Error) (more : Emission) → given ≡ None → steps at given next
        → Streams law old (then_emits front (parts_emission emission (map shows xs))) mid → Emits law r mid more new
        → Emits law r old (then_emits front (then_emits (parts_emission emission all) more)) new
    emits_after_yielded new given r more is step s t =
        emits_after emission front new r all more
        (subst (λ parts. Streams law old (then_emits front (parts_emission emission parts)) mid) (YieldsList-end gives xs at so_far given next is step).0 s) t
