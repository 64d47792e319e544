-- A list of calls has one first call that no value goes on with, if it has any.
use Rattle.std.specs.Prelude.{◌≡◌, List, [], ◌∷◌, ◌++◌, refl}
use Rattle.std.proofs.Common.{sym, ap, ◌∙◌, subst, append_assoc}
use Rattle.sval_label.specs.Calls.{Call}
use Rattle.sval_core.specs.Spells.{IsViable}
use Rattle.sval_core.proofs.Spellings.{front_is_viable}

-- of two fronts of one list the shorter one and the call after it begin the longer one
pub data Meet : List Call → Call → List Call → Call → Type 0 where
  same_front : {front other : List Call} {call next : Call} → front ≡ other → Meet front call other next
  before : {front other : List Call} {call next : Call} (more : List Call) → other ≡ (front ++ (call ∷ [])) ++ more → Meet front call other next
  after : {front other : List Call} {call next : Call} (more : List Call) → front ≡ (other ++ (next ∷ [])) ++ more → Meet front call other next

longer : (first : Call) (front other : List Call) (call next : Call) → Meet front call other next → Meet (first ∷ front) call (first ∷ other) next
longer first front other call next (same_front e) = same_front (ap (λ x. first ∷ x) e)
longer first front other call next (before more e) = before more (ap (λ x. first ∷ x) e)
longer first front other call next (after more e) = after more (ap (λ x. first ∷ x) e)

first_same : (c d : Call) (cs ds : List Call) → (c ∷ cs) ≡ (d ∷ ds) → (c ≡ d) × (cs ≡ ds)
first_same c d cs ds e = (cc e, cc e)

pub fronts_meet : (front other : List Call) (call next : Call) (rest last : List Call) → front ++ (call ∷ rest) ≡ other ++ (next ∷ last) → Meet front call other next
fronts_meet [] [] call next rest last e = same_front refl
fronts_meet [] (first ∷ other) call next rest last e = let f = first_same call first rest (other ++ (next ∷ last)) e in before other (ap (λ c. c ∷ other) (sym f.0))
fronts_meet (first ∷ front) [] call next rest last e = let f = first_same first next (front ++ (call ∷ rest)) last e in after front (ap (λ c. c ∷ front) f.0)
fronts_meet (first ∷ front) (second ∷ other) call next rest last e =
    let f = first_same first second (front ++ (call ∷ rest)) (other ++ (next ∷ last)) e in
    subst (λ c. Meet (first ∷ front) call (c ∷ other) next) f.0 (longer first front other call next (fronts_meet front other call next rest last f.1))

same_front_of : {front other : List Call} {call next : Call} → IsViable front → (IsViable (front ++ (call ∷ [])) → ⊥) → IsViable other → (IsViable (other ++ (next ∷ [])) → ⊥) → Meet front call other next
    → front ≡ other
same_front_of v n w m (same_front e) = e
same_front_of {front = front} {call = call} v n w m (before more e) = absurd (n (front_is_viable (front ++ (call ∷ [])) more (subst IsViable e w)))
same_front_of {other = other} {next = next} v n w m (after more e) = absurd (m (front_is_viable (other ++ (next ∷ [])) more (subst IsViable e v)))

-- two first bad calls stand at one place
pub one_first_bad : {calls : List Call} (front other : List Call) (call next : Call) (rest last : List Call) → calls ≡ front ++ (call ∷ rest) → calls ≡ other ++ (next ∷ last)
    → IsViable front → (IsViable (front ++ (call ∷ [])) → ⊥) → IsViable other → (IsViable (other ++ (next ∷ [])) → ⊥) → front ≡ other
one_first_bad front other call next rest last e f v n w m = same_front_of v n w m (fronts_meet front other call next rest last (sym e ∙ f))

-- viable calls have none
pub none_bad : (calls front rest : List Call) (call : Call) → calls ≡ front ++ (call ∷ rest) → IsViable calls → (IsViable (front ++ (call ∷ [])) → ⊥) → ⊥
none_bad calls front rest call e v n = n (front_is_viable (front ++ (call ∷ [])) rest (subst IsViable (e ∙ sym (append_assoc front (call ∷ []) rest)) v))
