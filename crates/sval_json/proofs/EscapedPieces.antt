-- A text that is written run by run, and escape by escape.
use Rattle.std.specs.Prelude.{◌≡◌, ℕ, ◌+◌, ◌-◌, ◌<◌, ◌≤◌, Result, Ok, Err, true, false, ◌==◌, nat_lt, List, [], ◌∷◌, ◌++◌, take, drop, length, slice_index, refl}
use Rattle.std.specs.List.{AllPass, list_all}
use Rattle.std.proofs.Common.{sym, ap, ◌∙◌, subst, arith, append_assoc, append-nil}
use Rattle.std.proofs.lemmas.Bool.{and_parts}
use Rattle.std.proofs.lemmas.Bool.Decides.{nat_tests}
use Rattle.std.proofs.lemmas.List.{take-append-drop, take_all, take_rest, drop_more, nil_from_length}
use Rattle.std.proofs.lemmas.List.Sums.{list_all-from_AllPass}
use Rattle.std.proofs.lemmas.List.Elements.{All-append}
use Rattle.std.proofs.Math.Seq.{take-add}
use Rattle.sval_io.specs.declared.sink.SinkError.{SinkError}
use Rattle.sval_io.specs.Sinks.{Told, WritesWhole, WritesFront, WritesAll}
use Rattle.sval_io.proofs.Appending.{writes_nothing, writes_both, stops_after}
use Rattle.sval_json.specs.Escape.{escape, escaped, is_escaped, is_plain}
use Rattle.sval_json.proofs.Texts.{escaped-append}

pub escape-plain : (byte : ℕ) → is_plain byte ≡ true → escape byte ≡ byte ∷ []
escape-plain byte h =
    let low : nat_lt byte 32 ≡ false = grind (arith, nat_tests) in
    let b8 : (byte == 8) ≡ false = grind (arith, nat_tests) in
    let b9 : (byte == 9) ≡ false = grind (arith, nat_tests) in
    let b10 : (byte == 10) ≡ false = grind (arith, nat_tests) in
    let b12 : (byte == 12) ≡ false = grind (arith, nat_tests) in
    let b13 : (byte == 13) ≡ false = grind (arith, nat_tests) in
    let quote : (byte == 34) ≡ false = grind (arith, nat_tests) in
    let slash : (byte == 92) ≡ false = grind (arith, nat_tests) in
    rw (b8, b9, b10, b12, b13, quote, slash, low) refl

all_plain : (xs : List ℕ) → list_all is_plain xs ≡ true → escaped xs ≡ xs
all_plain [] h = refl
all_plain (x ∷ xs) h =
    let (a, b) = and_parts (is_plain x) (list_all is_plain xs) h in
    rw (escape-plain x a) (ap (λ rest. x ∷ rest) (all_plain xs b))

pub escaped-plain : (xs : List ℕ) → AllPass is_plain xs → escaped xs ≡ xs
escaped-plain xs h = all_plain xs (list_all-from_AllPass is_plain xs h)

-- where the first escape is at the end, nothing is escaped
pub escaped_whole : (bytes : List ℕ) (n : ℕ) → length bytes ≤ n → AllPass is_plain (take n bytes) → escaped bytes ≡ bytes
escaped_whole bytes n end plain = escaped-plain bytes (subst (AllPass is_plain) (take_all n bytes end) plain)

-- what is plain in two parts is plain
pub plain_joins : (bytes rest : List ℕ) (start n : ℕ) → rest ≡ drop start bytes → AllPass is_plain (take start bytes) → AllPass is_plain (take n rest) → AllPass is_plain (take (start + n) bytes)
plain_joins bytes rest start n e p q =
    let both : AllPass is_plain (take start bytes ++ take n rest) = All-append (λ x. is_plain x ≡ true) (take start bytes) (take n rest) p q in
    let whole : take start bytes ++ take n rest ≡ take (start + n) bytes = ap (λ r. take start bytes ++ take n r) e ∙ sym (take-add start n bytes) in
    subst (AllPass is_plain) whole both

-- some first part of the bytes was written, and the rest is due
pub record IsPartlyEscaped (old : Told) (bytes rest : List ℕ) (new : Told) : Type 0 where
  pub before : List ℕ
  pub whole : bytes ≡ before ++ rest
  pub writes : WritesWhole old (escaped before) new

pub nothing_escaped : (told : Told) (bytes : List ℕ) → IsPartlyEscaped told bytes bytes told
nothing_escaped told bytes = record { before = []; whole = refl; writes = writes_nothing told }

-- the next part of the rest was written
escaped_on : {old mid new : Told} {bytes rest : List ℕ} (part after : List ℕ) → IsPartlyEscaped old bytes rest mid → rest ≡ part ++ after → WritesWhole mid (escaped part) new
    → IsPartlyEscaped old bytes after new
escaped_on {old} {mid} {new} {bytes} {rest} part after p e w = record {
  before = p.before ++ part;
  whole = p.whole ∙ ap (λ r. p.before ++ r) e ∙ sym (append_assoc p.before part after);
  writes = subst (λ taken. WritesWhole old taken new) (sym (escaped-append p.before part)) (writes_both (escaped p.before) (escaped part) p.writes w);
}

-- a first part of the next part was written
stops_on : {old mid new : Told} {bytes rest : List ℕ} {why : SinkError} (part after : List ℕ) → IsPartlyEscaped old bytes rest mid → rest ≡ part ++ after → WritesFront why mid (escaped part) new
    → WritesFront why old (escaped bytes) new
stops_on {bytes = bytes} part after p e w =
    let all : escaped bytes ≡ escaped p.before ++ (escaped part ++ escaped after) =
    ap escaped (p.whole ∙ ap (λ r. p.before ++ r) e) ∙ escaped-append p.before (part ++ after) ∙ ap (λ r. escaped p.before ++ r) (escaped-append part after) in
    stops_after (escaped p.before) (escaped part) (escaped after) p.writes all w

pub all_escaped : {old new : Told} {bytes rest : List ℕ} → IsPartlyEscaped old bytes rest new → length rest ≡ 0 → WritesWhole old (escaped bytes) new
all_escaped {old} {new} {bytes} {rest} p e =
    let none : rest ≡ [] = nil_from_length rest e in
    subst (λ taken. WritesWhole old (escaped taken) new) (sym (p.whole ∙ ap (λ r. p.before ++ r) none ∙ append-nil p.before)) p.writes

-- the rest, of which nothing is escaped, is written at the end
pub ends_plain : {old mid : Told} {bytes rest : List ℕ} (new : Told) (r : Result (Unit {0}) SinkError) → IsPartlyEscaped old bytes rest mid → escaped rest ≡ rest → WritesAll r mid rest new → WritesAll r old (escaped bytes) new
ends_plain {mid = mid} {rest = rest} new (Ok done) p e w =
    all_escaped (escaped_on rest [] p (sym (append-nil rest)) (subst (λ taken. WritesWhole mid taken new) (sym e) w)) refl
ends_plain {mid = mid} {rest = rest} new (Err why) p e w =
    stops_on rest [] p (sym (append-nil rest)) (subst (λ taken. WritesFront why mid taken new) (sym e) w)

-- ---- a run without an escape, and then an escape

-- a rest is due, whose first escape is at this place
pub record IsAtRun (old : Told) (bytes rest : List ℕ) (run : ℕ) (new : Told) : Type 0 where
  pub due : IsPartlyEscaped old bytes rest new
  pub within : run ≤ length rest
  pub plain : AllPass is_plain (take run rest)
  pub found : run < length rest → is_escaped (slice_index rest run) ≡ true

run_first : (run : ℕ) (rest : List ℕ) → rest ≡ take run rest ++ drop run rest
run_first run rest = sym (take-append-drop run rest)

run_and_byte : (run : ℕ) (rest : List ℕ) → run < length rest → drop run rest ≡ (slice_index rest run ∷ []) ++ drop (run + 1) rest
run_and_byte run rest h = drop_more rest run 0 h

escaped-one : (byte : ℕ) → escaped (byte ∷ []) ≡ escape byte
escaped-one byte = append-nil (escape byte)

pub after_run : {old mid new : Told} {bytes rest : List ℕ} (run : ℕ) → IsPartlyEscaped old bytes rest mid → AllPass is_plain (take run rest) → WritesWhole mid (take run rest) new
    → IsPartlyEscaped old bytes (drop run rest) new
after_run {mid = mid} {new = new} {rest = rest} run p plain w =
    escaped_on (take run rest) (drop run rest) p (run_first run rest) (subst (λ taken. WritesWhole mid taken new) (sym (escaped-plain (take run rest) plain)) w)

pub stops_in_run : {old mid new : Told} {bytes rest : List ℕ} {why : SinkError} (run : ℕ) → IsPartlyEscaped old bytes rest mid → AllPass is_plain (take run rest) → WritesFront why mid (take run rest) new
    → WritesFront why old (escaped bytes) new
stops_in_run {mid = mid} {new = new} {rest = rest} {why = why} run p plain w =
    stops_on (take run rest) (drop run rest) p (run_first run rest) (subst (λ taken. WritesFront why mid taken new) (sym (escaped-plain (take run rest) plain)) w)

pub after_escape : {old mid new : Told} {bytes : List ℕ} (rest : List ℕ) (run : ℕ) → run < length rest → IsPartlyEscaped old bytes (drop run rest) mid → WritesWhole mid (escape (slice_index rest run)) new
    → IsPartlyEscaped old bytes (drop (run + 1) rest) new
after_escape {mid = mid} {new = new} rest run h p w =
    escaped_on (slice_index rest run ∷ []) (drop (run + 1) rest) p (run_and_byte run rest h) (subst (λ taken. WritesWhole mid taken new) (sym (escaped-one (slice_index rest run))) w)

pub stops_in_escape : {old mid new : Told} {bytes : List ℕ} {why : SinkError} (rest : List ℕ) (run : ℕ) → run < length rest → IsPartlyEscaped old bytes (drop run rest) mid
    → WritesFront why mid (escape (slice_index rest run)) new → WritesFront why old (escaped bytes) new
stops_in_escape {mid = mid} {new = new} {why = why} rest run h p w =
    stops_on (slice_index rest run ∷ []) (drop (run + 1) rest) p (run_and_byte run rest h) (subst (λ taken. WritesFront why mid taken new) (sym (escaped-one (slice_index rest run))) w)

pub from_place : {old new : Told} {bytes : List ℕ} (rest : List ℕ) (n : ℕ) → IsPartlyEscaped old bytes (drop n rest) new → IsPartlyEscaped old bytes (take (length rest - n) (drop n rest)) new
from_place {old} {new} {bytes} rest n p = subst (λ due. IsPartlyEscaped old bytes due new) (sym (take_rest rest n)) p
