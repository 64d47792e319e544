-- What calls lower to: one list, which is there wherever the base calls are taken.
use Rattle.std.specs.Prelude.{◌≡◌, ℕ, zero, suc, ◌<◌, ◌≤◌, Bool, true, false, List, [], ◌∷◌, ◌++◌, flat_map, refl}
use Rattle.std.specs.List.{AllByRecursion}
use Rattle.std.proofs.Common.{ap, ◌∙◌, sym, subst, arith, append_assoc, append-nil}
use Rattle.std.proofs.lemmas.List.Concat.{flat_map-append}
use Rattle.sval_label.specs.Calls.{Call}
use Rattle.sval_lower.specs.Lower.{lower}
use Rattle.sval_lower.specs.Lowered.{TakesBase, LowersTo, no_call, keeps, replaces, rank, lowered_within, lowered_call, lowered}
use Rattle.sval_lower.proofs.Ranks.{Falls, is_at_base, falls, falls_or_base}

-- what a call is lowered to, by whether it is taken
chosen : (taken : Call → Bool) → ℕ → Call → Bool → List Call
chosen taken n call true = call ∷ []
chosen taken n call false = flat_map (lowered_within n taken) (lower call)

module _ (taken : Call → Bool) where
  one_step : (n : ℕ) (call : Call) (b : Bool) → taken call ≡ b → lowered_within (suc n) taken call ≡ chosen taken n call b
  unfolding lowered_within chosen
  one_step n call true t = rw (lowered_within, t) refl
  one_step n call false t = rw (lowered_within, t) refl

  kept_within : (n : ℕ) (call : Call) → taken call ≡ true → lowered_within n taken call ≡ call ∷ []
  unfolding lowered_within chosen
  kept_within zero call t = refl
  kept_within (suc n) call t = one_step n call true t

  replaced_within : (n : ℕ) (call : Call) → taken call ≡ false → lowered_within (suc n) taken call ≡ flat_map (lowered_within n taken) (lower call)
  unfolding chosen
  replaced_within n call t = one_step n call false t

  base_by : (n : ℕ) (call : Call) → lower call ≡ call ∷ [] → lowered_within n taken call ≡ call ∷ [] → (b : Bool) → taken call ≡ b → lowered_within (suc n) taken call ≡ call ∷ []
  base_by n call e before true t = kept_within (suc n) call t
  base_by n call e before false t = replaced_within n call t ∙ ap (flat_map (lowered_within n taken)) e ∙ append-nil (lowered_within n taken call) ∙ before

  -- a base call stays, taken or not
  base_within : (n : ℕ) (call : Call) → lower call ≡ call ∷ [] → lowered_within n taken call ≡ call ∷ []
  unfolding lowered_within
  base_within zero call e = refl
  base_within (suc n) call e = base_by n call e (base_within n call e) (taken call) refl

  all_enough : (n m r : ℕ) (calls : List Call) → r ≤ suc n → r ≤ suc m → ((c : Call) → rank c ≤ n → rank c ≤ m → lowered_within n taken c ≡ lowered_within m taken c)
      → AllByRecursion (λ c. rank c < r) calls → flat_map (lowered_within n taken) calls ≡ flat_map (lowered_within m taken) calls
  all_enough n m r [] a b each below = refl
  all_enough n m r (call ∷ calls) a b each below =
      let h = below.0 in
      ap (λ first. first ++ flat_map (lowered_within n taken) calls) (each call (omega (arith, h)) (omega (arith, h)))
      ∙ ap (λ rest. lowered_within m taken call ++ rest) (all_enough n m r calls a b each below.1)

  enough_by : (n m : ℕ) (call : Call) → ((k : ℕ) (c : Call) → rank c ≤ n → rank c ≤ k → lowered_within n taken c ≡ lowered_within k taken c)
      → rank call ≤ suc n → rank call ≤ m → Falls call → (b : Bool) → taken call ≡ b → lowered_within (suc n) taken call ≡ lowered_within m taken call
  enough_by n m call each a b (is_at_base base zero_rank itself) t is = base_within (suc n) call itself ∙ sym (base_within m call itself)
  enough_by n m call each a b (falls base low below) true is = kept_within (suc n) call is ∙ sym (kept_within m call is)
  enough_by n zero call each a b (falls base low below) false is = absurd (omega arith)
  enough_by n (suc m) call each a b (falls base low below) false is =
      replaced_within n call is ∙ all_enough n m (rank call) (lower call) a b (each m) below ∙ sym (replaced_within m call is)

  zero_enough : (m : ℕ) (call : Call) → rank call ≤ 0 → Falls call → lowered_within 0 taken call ≡ lowered_within m taken call
  zero_enough m call a (is_at_base base zero_rank itself) = base_within 0 call itself ∙ sym (base_within m call itself)
  zero_enough m call a (falls base low below) = absurd (omega arith)

  -- any number that is as large as the rank serves
  enough : (n m : ℕ) (call : Call) → rank call ≤ n → rank call ≤ m → lowered_within n taken call ≡ lowered_within m taken call
  enough zero m call a b = zero_enough m call a (falls_or_base call)
  enough (suc n) m call a b = enough_by n m call (λ k c. enough n k c) a b (falls_or_base call) (taken call) refl

  own_ranks : (n r : ℕ) (calls : List Call) → r ≤ suc n → AllByRecursion (λ c. rank c < r) calls → flat_map (lowered_within n taken) calls ≡ lowered taken calls
  own_ranks n r [] a below = refl
  own_ranks n r (call ∷ calls) a below =
      let h = below.0 in
      ap (λ first. first ++ flat_map (lowered_within n taken) calls) (enough n (rank call) call (omega (arith, h)) (omega arith))
      ∙ ap (λ rest. lowered_call taken call ++ rest) (own_ranks n r calls a below.1)

  by_rank : (r : ℕ) (call : Call) → rank call ≡ r → 0 < r → AllByRecursion (λ c. rank c < rank call) (lower call) → taken call ≡ false → lowered_within r taken call ≡ lowered taken (lower call)
  by_rank zero call e low below t = absurd (omega arith)
  by_rank (suc n) call e low below t = replaced_within n call t ∙ own_ranks n (rank call) (lower call) (omega arith) below

  -- a call that isn't taken is lowered as its lower calls are
  pub unrolls : (call : Call) → Falls call → taken call ≡ false → lowered_call taken call ≡ lowered taken (lower call)
  unrolls call (is_at_base base zero_rank itself) t =
      base_within (rank call) call itself
      ∙ sym (append-nil (call ∷ []) ∙ refl)
      ∙ ap (λ first. first ++ []) (sym (base_within (rank call) call itself))
      ∙ ap (lowered taken) (sym itself)
  unrolls call (falls base low below) t = by_rank (rank call) call refl low below t

  -- calls lower to no other list
  pub to_one : {calls result : List Call} → LowersTo taken calls result → result ≡ lowered taken calls
  to_one no_call = refl
  to_one (keeps {call = call} {calls = calls} t d) =
      ap (λ rest. call ∷ rest) (to_one d) ∙ ap (λ first. first ++ lowered taken calls) (sym (kept_within (rank call) call t))
  to_one (replaces {call = call} {calls = calls} t d) =
      to_one d ∙ flat_map-append (lowered_call taken) (lower call) calls ∙ ap (λ first. first ++ lowered taken calls) (sym (unrolls call (falls_or_base call) t))

  pub leaves : {calls result : List Call} → LowersTo taken calls result → AllByRecursion (λ call. taken call ≡ true) result
  leaves no_call = tt
  leaves (keeps t d) = (t, leaves d)
  leaves (replaces t d) = leaves d

  pub stay : (calls : List Call) → AllByRecursion (λ call. taken call ≡ true) calls → lowered taken calls ≡ calls
  stay [] all = refl
  stay (call ∷ calls) all =
      ap (λ first. first ++ lowered taken calls) (kept_within (rank call) call all.0) ∙ ap (λ rest. call ∷ rest) (stay calls all.1)

  pub kept_alone : (call : Call) → taken call ≡ true → lowered taken (call ∷ []) ≡ call ∷ []
  kept_alone call t = stay (call ∷ []) (t, tt)

  pub replaced_alone : (call : Call) → taken call ≡ false → lowered taken (call ∷ []) ≡ lowered taken (lower call)
  replaced_alone call t = append-nil (lowered_call taken call) ∙ unrolls call (falls_or_base call) t

  all_reach : (n r : ℕ) (cs calls result : List Call) → r ≤ suc n
      → ((c : Call) → rank c ≤ n → (calls result : List Call) → LowersTo taken calls result → LowersTo taken (c ∷ calls) (lowered_call taken c ++ result))
      → AllByRecursion (λ c. rank c < r) cs → LowersTo taken calls result → LowersTo taken (cs ++ calls) (lowered taken cs ++ result)
  all_reach n r [] calls result a each below d = d
  all_reach n r (c ∷ cs) calls result a each below d =
      let h = below.0 in
      subst (λ x. LowersTo taken (c ∷ (cs ++ calls)) x) (sym (append_assoc (lowered_call taken c) (lowered taken cs) result))
      (each c (omega (arith, h)) (cs ++ calls) (lowered taken cs ++ result) (all_reach n r cs calls result a each below.1 d))

  module _ (takes : TakesBase taken) where
    reach_by : (n : ℕ) (call : Call) → rank call ≤ suc n
        → ((c : Call) → rank c ≤ n → (calls result : List Call) → LowersTo taken calls result → LowersTo taken (c ∷ calls) (lowered_call taken c ++ result))
        → Falls call → (b : Bool) → taken call ≡ b → (calls result : List Call) → LowersTo taken calls result → LowersTo taken (call ∷ calls) (lowered_call taken call ++ result)
    reach_by n call a each f true t calls result d = subst (λ x. LowersTo taken (call ∷ calls) (x ++ result)) (sym (kept_within (rank call) call t)) (keeps t d)
    reach_by n call a each (is_at_base base zero_rank itself) false t calls result d = let h = takes call base in absurd (cc)
    reach_by n call a each (falls base low below) false t calls result d =
        replaces t (subst (λ x. LowersTo taken (lower call ++ calls) (x ++ result)) (sym (unrolls call (falls base low below) t))
        (all_reach n (rank call) (lower call) calls result a each below d))

    zero_reach : (call : Call) → rank call ≤ 0 → Falls call → (calls result : List Call) → LowersTo taken calls result → LowersTo taken (call ∷ calls) (lowered_call taken call ++ result)
    zero_reach call a (is_at_base base zero_rank itself) calls result d =
        let t = takes call base in subst (λ x. LowersTo taken (call ∷ calls) (x ++ result)) (sym (kept_within (rank call) call t)) (keeps t d)
    zero_reach call a (falls base low below) calls result d = absurd (omega arith)

    reach : (n : ℕ) (call : Call) → rank call ≤ n → (calls result : List Call) → LowersTo taken calls result → LowersTo taken (call ∷ calls) (lowered_call taken call ++ result)
    reach zero call a = zero_reach call a (falls_or_base call)
    reach (suc n) call a = reach_by n call a (reach n) (falls_or_base call) (taken call) refl

    -- where the base calls are taken, calls lower to this list
    pub lowers_to : (calls : List Call) → LowersTo taken calls (lowered taken calls)
    lowers_to [] = no_call
    lowers_to (call ∷ calls) = reach (rank call) call (omega arith) calls (lowered taken calls) (lowers_to calls)
