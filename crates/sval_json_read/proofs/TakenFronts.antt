-- The machine takes exactly the fronts of texts that denote a value.
use Rattle.std.specs.Prelude.{◌≡◌, ℕ, ◌<◌, true, false, List, length, take, get_or, Some, None, ◌↔◌, refl, IsTrue, IsUtf8}
use Rattle.std.proofs.Common.{sym, subst, arith, take_all}
use Rattle.sval_json.specs.Fronts.{IsFront, FailsAt}
use Rattle.sval_json_read.specs.Reader.{ReaderState, reader_start, reader_step, after_bytes}
use Rattle.sval_json_read.proofs.Fails.{stops-fails}
use Rattle.sval_json_read.proofs.Loop.{refused-taken, ended-taken}

-- bytes that are taken to their end are a front
pub taken-front : (bytes : List ℕ) (state : ReaderState) → IsUtf8 bytes → after_bytes reader_start bytes ≡ Some state → IsFront bytes
taken-front bytes state u e =
    let fails = subst (FailsAt bytes) (ended-taken bytes state u e) (stops-fails bytes u) in
    subst IsFront (take_all (length bytes) bytes (omega arith)) fails.front

-- bytes of which one is refused are none
pub refused-front : (bytes : List ℕ) (n : ℕ) (state : ReaderState) → IsUtf8 bytes → n < length bytes → after_bytes reader_start (take n bytes) ≡ Some state
    → reader_step state (get_or bytes n 0) ≡ None → IsFront bytes → ⊥
refused-front bytes n state u l e r f =
    let fails = subst (FailsAt bytes) (refused-taken bytes n state l e r) (stops-fails bytes u) in
    let all = take_all (length bytes) bytes (omega arith) in
    fails.longest (length bytes) l (omega arith) (subst IsUtf8 (sym all) u) (subst IsFront (sym all) f)

pub front-true : (bytes : List ℕ) → IsFront bytes → IsTrue true ↔ IsFront bytes
front-true bytes f = (λ _. f, λ _. refl)

pub front-false : (bytes : List ℕ) → (IsFront bytes → ⊥) → IsTrue false ↔ IsFront bytes
front-false bytes f = (λ h. absurd (cc h), λ g. absurd (f g))
