-- What a stream that collects answers to one call.
use Rattle.std.specs.Prelude.{◌≡◌, ℕ, ◌≤◌, ◌⊎◌, Bool, true, false, List, [], ◌∷◌, not, ◌&&◌, Some, Result, Ok, Err, is_ok, IsOk, OnOk, IfErr, refl}
use Rattle.std.proofs.Common.{sym, ap, ◌∙◌, subst, arith, inl, inr}
use Rattle.sval_label.specs.Calls.{Label, Call}
use Rattle.sval_label.specs.Texts.{is_empty}
use Rattle.sval_core.specs.Law.{Takes, Refuses, Rose, one_more}
use Rattle.sval_buffer.specs.Pushes.{HeldBytes, pushed}
use Rattle.sval_buffer.specs.declared.error.Word.{Word}
use Rattle.sval_buffer.specs.declared.error.ErrorKind.{ErrorKind}
use Rattle.sval_buffer.specs.declared.error.ErrorKind.TheVariants as error
use Rattle.sval_buffer.specs.declared.refusals.Refusals.{Refusals}
use Rattle.sval_buffer.specs.Capture.{IsNoAlloc, wants_after_error}
use Rattle.sval_buffer.specs.CollectSteps.{push, push_label, takes_memory, label_takes_memory, Collects, Collecting, held_by, IsUnfitBy, CollectsBy, collect_law, collecting}

-- ---- one fragment

-- a push that failed takes memory
push_lacks : (bytes : List ℕ) (borrowed : Bool) → (borrowed ≡ true → bytes ≡ [] → false ≡ true) → not (is_empty bytes && borrowed) ≡ true
push_lacks [] true first = first refl refl
push_lacks [] false first = refl
push_lacks (byte ∷ bytes) borrowed first = refl

-- a fragment is collected as it is pushed
pub fragment_collected : (expected : Word) (old new fragment : HeldBytes) (r : Result (Unit {0}) ErrorKind) → OnOk r (new ≡ pushed old fragment)
    → IfErr r (λ why. IsNoAlloc why × (new ≡ old)) → (fragment.borrowed ≡ true → old.bytes ≡ [] → IsOk r)
    → CollectsBy expected (takes_memory old fragment.borrowed) (push old fragment.borrowed fragment.bytes) old r new
fragment_collected expected old new fragment (Ok done) ok err first = ap Ok (sym ok)
fragment_collected expected old new fragment (Err why) ok err first =
    (err.1, record { no_alloc = err.0; takes_memory = push_lacks old.bytes fragment.borrowed first })

-- a label is collected as its text, which is borrowed where the label is static
pub label_collected : (expected : Word) (old new : HeldBytes) (r : Result (Unit {0}) ErrorKind) (label : Label) (borrowed : Bool) (text : List ℕ) → borrowed ≡ label.is_static → text ≡ label.text
    → CollectsBy expected (takes_memory old borrowed) (push old borrowed text) old r new
    → CollectsBy expected (label_takes_memory old (Some label)) (push_label old (Some label)) old r new
label_collected expected old new r label borrowed text same_kind same_text h =
    subst (λ (t : List ℕ). CollectsBy expected (takes_memory old label.is_static) (push old label.is_static t) old r new) same_text
    (subst (λ (b : Bool). CollectsBy expected (takes_memory old b) (push old b text) old r new) same_kind h)

-- ---- the stream

-- what stands after a call that was taken
pub takes_by : (how : Collects) (old : Collecting) (held : HeldBytes) (call : Call) → how.step old.held call ≡ Ok held
    → Takes (collect_law how) (collecting old) call (collecting (record { held = held; refusal = old.refusal; wants = old.wants }))
takes_by how old held call fits = record {
  accepted = ap is_ok fits;
  view = ap (λ (r : Result HeldBytes Word). let c : Collecting = record { held = held_by r old.held; refusal = old.refusal; wants = old.wants } in c) (sym fits);
  faults = refl;
  wants = refl;
}

rose_once : (why : ErrorKind) (wants : ℕ) → IsNoAlloc why → one_more wants ≤ wants_after_error why wants
rose_once (error.NoAlloc method) wants h = omega arith
rose_once (error.Unsupported actual expected) wants h = absurd h
rose_once (error.InvalidValue reason) wants h = absurd h
rose_once (error.OutsideContainer method) wants h = absurd h

-- what stands after a call that was refused, and why
pub refuses_by : (how : Collects) (old : Collecting) (held : HeldBytes) (kept : Refusals) (call : Call) (why : ErrorKind) → held ≡ old.held
    → IsUnfitBy how.expected (how.grows old.held call) (how.step old.held call) why → kept ≡ record { last = Some why; wants = wants_after_error why old.wants } → old.wants ≤ kept.wants
    → Refuses (collect_law how) (collecting old) call (collecting (record { held = held; refusal = kept.last; wants = kept.wants }))
refuses_by how old held kept call why same cause now rises = record {
  cause = go (how.step old.held call) cause;
  left = record {
    held = same;
    why = why;
    refusal = ap (λ (r : Refusals). r.last) now;
    cause = cause;
    wants = ap (λ (r : Refusals). r.wants) now;
  };
  faults = omega arith;
  wants = rises;
}
  where
    go : (r : Result HeldBytes Word) → IsUnfitBy how.expected (how.grows old.held call) r why → (IsOk r → ⊥) ⊎ (Rose 0 0 ⊎ Rose old.wants kept.wants)
    go (Ok next) h = let now_wants = ap (λ (r : Refusals). r.wants) now in let r = rose_once why old.wants h.no_alloc in inr (inr (omega (arith, r, now_wants)))
    go (Err actual) h = inl (λ ok. cc)
