use Rattle.std.proofs.Common.{◌≡◌, ◌+◌, ℕ, List, length, take, drop, ◌++◌, Option, Some, None, true, false, Bor}
use Rattle.std.specs.Str.{bytes_eq}
use Rattle.std.specs.Option.{MatchOption, IfSome}
use Rattle.sval_json.proofs.TextFronts.{begins_with, begins_otherwise}
use Rattle.sval_cbor_read.proofs.cbor_text.behind.Goals as goal

found_by : (text bytes : List ℕ) (result : Option (Bor (List ℕ)))
    → MatchOption result (bytes_eq (take (length text) bytes) text ≡ false) (λ x. (bytes_eq (take (length text) bytes) text ≡ true) × (x.now ≡ drop (length text) bytes) × (length x.now + length text ≡ length bytes))
    → IfSome result (λ more. bytes ≡ text ++ more.now)
found_by text bytes None m = tt
found_by text bytes (Some x) m = begins_with text bytes x.now m.0 m.1

other_by : (text bytes : List ℕ) (result : Option (Bor (List ℕ)))
    → MatchOption result (bytes_eq (take (length text) bytes) text ≡ false) (λ x. (bytes_eq (take (length text) bytes) text ≡ true) × (x.now ≡ drop (length text) bytes) × (length x.now + length text ≡ length bytes))
    → result ≡ None → (more : List ℕ) → bytes ≡ text ++ more → ⊥
other_by text bytes None m e more b = begins_otherwise text bytes more m b
other_by text bytes (Some x) m e more b = absurd (cc e)

pub returns-clause-found : goal.returns-clause-found
returns-clause-found c = found_by c.args.front.now c.args.bytes.now c.strip_prefix.result c.strip_prefix.ensures.cases

pub returns-clause-other : goal.returns-clause-other
returns-clause-other c = other_by c.args.front.now c.args.bytes.now c.strip_prefix.result c.strip_prefix.ensures.cases
