-- Where bytes stop being a tape.
use Rattle.std.proofs.Common.{◌≡◌, ℕ, ◌+◌, ◌<◌, List, [], ◌∷◌, ◌++◌, length, take, drop, sym, ap, ◌∙◌, append_assoc, append-nil, arith}
use Rattle.std.specs.List.{AllByRecursion}
use Rattle.std.proofs.lemmas.Option.{same_Some}
use Rattle.std.proofs.lemmas.List.{length-append, take-append-drop, length-take}
use Rattle.sval_label.specs.Calls.{Call}
use Rattle.sval_tape.specs.Tapes.{call_bytes, tape_of}
use Rattle.sval_tape.specs.Taped.{IsTapedCall, IsTape, IsBadAt}
use Rattle.sval_tape.specs.Reading.{call_at_front}
use Rattle.sval_tape.proofs.Tapes.{tape-cons, tape-nil}
use Rattle.sval_tape.proofs.CallsRead.{call_again, calls_of_tape}

pub one_list : (bytes : List ℕ) (calls others : List Call) → IsTape bytes calls → IsTape bytes others → calls ≡ others
one_list bytes calls others tape other = sym (calls_of_tape bytes calls tape) ∙ calls_of_tape bytes others other

-- no call begins here
abbrev NoCallIn : List ℕ → Type 0
NoCallIn bytes = (call : Call) (rest : List ℕ) → IsTapedCall call → bytes ≡ call_bytes call ++ rest → ⊥

-- one call begins bytes
same_call : (call other : Call) (rest more : List ℕ) → IsTapedCall call → IsTapedCall other → call_bytes call ++ rest ≡ call_bytes other ++ more → rest ≡ more
same_call call other rest more taped fits e =
    let both = sym (call_again call rest taped) ∙ ap call_at_front e ∙ call_again other more fits in
    ap (λ (r : Call × List ℕ). r.1) (same_Some (call, rest) (other, more) both)

next : (call : Call) (calls : List Call) (rest : List ℕ) → tape_of (call ∷ calls) ++ rest ≡ call_bytes call ++ (tape_of calls ++ rest)
next call calls rest = ap (λ (w : List ℕ). w ++ rest) (tape-cons call calls) ∙ append_assoc (call_bytes call) (tape_of calls) rest

none : (rest : List ℕ) → tape_of [] ++ rest ≡ rest
none rest = ap (λ (w : List ℕ). w ++ rest) tape-nil

-- two fronts behind which no call begins have the same behind them
same_rest : (calls others : List Call) (rest more : List ℕ) → AllByRecursion IsTapedCall calls → AllByRecursion IsTapedCall others → NoCallIn rest → NoCallIn more → tape_of calls ++ rest ≡ tape_of others ++ more → rest ≡ more
same_rest [] [] rest more taped fits bad worse e = sym (none rest) ∙ e ∙ none more
same_rest [] (other ∷ others) rest more taped fits bad worse e = absurd (bad other (tape_of others ++ more) fits.0 (sym (none rest) ∙ e ∙ next other others more))
same_rest (call ∷ calls) [] rest more taped fits bad worse e = absurd (worse call (tape_of calls ++ rest) taped.0 (sym (none more) ∙ sym e ∙ next call calls rest))
same_rest (call ∷ calls) (other ∷ others) rest more taped fits bad worse e =
    let first = same_call call other (tape_of calls ++ rest) (tape_of others ++ more) taped.0 fits.0 (sym (next call calls rest) ∙ e ∙ next other others more) in
    same_rest calls others rest more taped.1 fits.1 bad worse first

cut : (bytes : List ℕ) (at : ℕ) (calls : List Call) → take at bytes ≡ tape_of calls → bytes ≡ tape_of calls ++ drop at bytes
cut bytes at calls e = sym (take-append-drop at bytes) ∙ ap (λ (w : List ℕ). w ++ drop at bytes) e

left_len : (bytes : List ℕ) (at : ℕ) → at < length bytes → at + length (drop at bytes) ≡ length bytes
left_len bytes at within =
    let whole : length (take at bytes) + length (drop at bytes) ≡ length bytes = sym (length-append (take at bytes) (drop at bytes)) ∙ ap length (take-append-drop at bytes) in
    omega (arith, length-take at bytes)

pub one_place : (bytes : List ℕ) (at other : ℕ) → IsBadAt bytes at → IsBadAt bytes other → at ≡ other
one_place bytes at other bad worse =
    let e : tape_of bad.calls ++ drop at bytes ≡ tape_of worse.calls ++ drop other bytes = sym (cut bytes at bad.calls bad.before.bytes_are) ∙ cut bytes other worse.calls worse.before.bytes_are in
    let rest = same_rest bad.calls worse.calls (drop at bytes) (drop other bytes) bad.before.taped worse.before.taped bad.bad worse.bad e in
    let len : length (drop at bytes) ≡ length (drop other bytes) = ap length rest in
    let first = left_len bytes at bad.within in
    let second = left_len bytes other worse.within in
    omega arith

nothing_begins : NoCallIn []
nothing_begins call rest taped e = cc e

pub no_tape : (bytes : List ℕ) (at : ℕ) (calls : List Call) → IsBadAt bytes at → IsTape bytes calls → ⊥
no_tape bytes at calls bad tape =
    let whole : bytes ≡ tape_of calls ++ [] = tape.bytes_are ∙ sym (append-nil (tape_of calls)) in
    let e : tape_of bad.calls ++ drop at bytes ≡ tape_of calls ++ [] = sym (cut bytes at bad.calls bad.before.bytes_are) ∙ whole in
    let rest = same_rest bad.calls calls (drop at bytes) [] bad.before.taped tape.taped bad.bad nothing_begins e in
    let len : length (drop at bytes) ≡ 0 = ap length rest in
    let left = left_len bytes at bad.within in
    let within = bad.within in
    omega arith
