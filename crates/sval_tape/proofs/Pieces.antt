-- Bytes that are written in two pieces.
use Rattle.std.specs.Prelude.{◌≡◌, ◌≢◌, List, [], ◌∷◌, ◌++◌, Result, Ok, Err, ℕ, zero, suc, ◌+◌, ◌-◌, ◌/◌, ◌%◌, ◌<◌, ◌≤◌, refl}
use Rattle.std.proofs.Common.{sym, ap, ◌∙◌, subst, append-nil, arith, cond}
use Rattle.std.proofs.lemmas.Bool.{lt-ltb, le-ltb}
use Rattle.sval_io.specs.declared.sink.SinkError.{SinkError}
use Rattle.sval_io.specs.Sinks.{Told, WritesWhole, WritesFront, WritesAll}
use Rattle.sval_io.proofs.Appending.{writes_nothing, writes_both, stops_after}
use Rattle.sval_tape.specs.Tapes.{leb128_in}

pub stops_first : {old new : Told} {why : SinkError} {all : List ℕ} (xs ys : List ℕ) → all ≡ xs ++ ys → WritesFront why old xs new → WritesFront why old all new
stops_first {old} xs ys e f = stops_after [] xs ys (writes_nothing old) e f

pub goes_on : {old mid : Told} (new : Told) (r : Result (Unit {0}) SinkError) {all : List ℕ} (xs ys : List ℕ) → all ≡ xs ++ ys → WritesWhole old xs mid → WritesAll r mid ys new → WritesAll r old all new
goes_on {old} new (Ok done) xs ys e w v = subst (λ all. WritesWhole old all new) (sym e) (writes_both xs ys w v)
goes_on new (Err why) xs ys e w v = stops_after xs ys [] w (e ∙ ap (λ more. xs ++ more) (sym (append-nil ys))) v

-- ---- numbers, byte by byte

pub last_byte : (room n : ℕ) → room ≢ 0 → n < 128 → leb128_in room n ≡ n ∷ []
last_byte zero n some lt = absurd (some refl)
last_byte (suc room) n some lt = ap (λ b. cond b (n ∷ []) ((n % 128 + 128) ∷ leb128_in room (n / 128))) (lt-ltb n 128 lt)

pub next_byte : (room n : ℕ) → room ≢ 0 → 128 ≤ n → leb128_in room n ≡ ((n % 128 + 128) ∷ []) ++ leb128_in (room - 1) (n / 128)
next_byte zero n some le = absurd (some refl)
next_byte (suc room) n some le =
    let one : suc room - 1 ≡ room = omega arith in
    ap (λ b. cond b (n ∷ []) ((n % 128 + 128) ∷ leb128_in room (n / 128))) (le-ltb n 128 le) ∙ ap (λ r. (n % 128 + 128) ∷ leb128_in r (n / 128)) (sym one)
