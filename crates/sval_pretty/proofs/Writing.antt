-- Pretty text that is written piece by piece.
use Rattle.std.specs.Prelude.{◌≡◌, ℕ, zero, suc, ◌+◌, ◌-◌, ◌<◌, List, [], ◌∷◌, ◌++◌, Option, Some, None, Result, Ok, Err, take, drop, length, refl}
use Rattle.std.proofs.Common.{sym, ap, ◌∙◌, subst, arith, append_assoc, append-nil, get_or, ◌≤◌}
use Rattle.std.proofs.lemmas.List.{drop_all}
use Rattle.sval_io.specs.Sinks.{Told, WritesWhole, WritesFront, WritesAll}
use Rattle.sval_io.specs.declared.sink.SinkError.{SinkError}
use Rattle.sval_io.proofs.Appending.{writes_nothing, writes_both, stops_after}
use Rattle.sval_pretty.specs.declared.layout.Mark.{Mark}
use Rattle.sval_pretty.specs.declared.layout.Mark.TheVariants.{Space, Quote, Begin, End, Comma, Colon, Other}
use Rattle.sval_pretty.specs.declared.layout.Place.{Place}
use Rattle.sval_pretty.specs.declared.layout.Place.TheVariants.{Outside, Inside, Escaped}
use Rattle.sval_pretty.specs.Layout.{indent, new_line, one_less, mark_of_byte, laid_byte, laid_out, next_place, next_depth, depth_past, pretty}

-- ---- a piece and what stands behind it

pub both_written : {old mid : Told} (new : Told) (xs ys : List ℕ) (r : Result (Unit {0}) SinkError) → WritesWhole old xs mid → WritesAll r mid ys new → WritesAll r old (xs ++ ys) new
both_written new xs ys (Ok done) w a = writes_both xs ys w a
both_written new xs ys (Err why) w a = stops_after xs ys [] w (ap (λ z. xs ++ z) (sym (append-nil ys))) a

pub stops_in_first : {old new : Told} {why : SinkError} (xs ys : List ℕ) → WritesFront why old xs new → WritesFront why old (xs ++ ys) new
stops_in_first {old} xs ys f = stops_after [] xs ys (writes_nothing old) refl f

-- ---- a front that is written

pub record IsLaid (old : Told) (whole rest : List ℕ) (new : Told) : Type 0 where
  pub front : List ℕ
  pub same : whole ≡ front ++ rest
  pub writes : WritesWhole old front new

pub laid_nothing : (told : Told) (whole : List ℕ) → IsLaid told whole whole told
laid_nothing told whole = record { front = []; same = refl; writes = writes_nothing told }

pub laid_on : {old mid new : Told} {whole : List ℕ} (piece later : List ℕ) → IsLaid old whole (piece ++ later) mid → WritesWhole mid piece new → IsLaid old whole later new
laid_on piece later l w = record {
  front = l.front ++ piece;
  same = l.same ∙ sym (append_assoc l.front piece later);
  writes = writes_both l.front piece l.writes w;
}

pub laid_whole : {old new : Told} {whole : List ℕ} (rest : List ℕ) → rest ≡ [] → IsLaid old whole rest new → WritesWhole old whole new
laid_whole {old} {new} {whole} rest e l = subst (λ x. WritesWhole old x new) (sym (l.same ∙ ap (λ x. l.front ++ x) e ∙ append-nil l.front)) l.writes

pub laid_stops : {old mid new : Told} {whole : List ℕ} {why : SinkError} (piece later : List ℕ) → IsLaid old whole (piece ++ later) mid → WritesFront why mid piece new → WritesFront why old whole new
laid_stops piece later l f = stops_after l.front piece later l.writes l.same f

-- ---- lines

-- an indent of one level more
pub indent_more : (level : ℕ) → indent (level + 1) ≡ indent level ++ (32 ∷ 32 ∷ [])
indent_more level = ap indent (next level) ∙ at level
  where
    next : (n : ℕ) → n + 1 ≡ suc n
    next n = omega arith

    at : (n : ℕ) → indent (suc n) ≡ indent n ++ (32 ∷ 32 ∷ [])
    at zero = refl
    at (suc n) = ap (λ x. 32 ∷ 32 ∷ x) (at n)

indent_parts : (level rest : ℕ) → indent (rest + suc level) ≡ indent level ++ (32 ∷ 32 ∷ indent rest)
indent_parts zero rest = ap indent (one rest)
  where
    one : (n : ℕ) → n + 1 ≡ suc n
    one n = omega arith
indent_parts (suc level) rest = ap indent (next rest level) ∙ ap (λ x. 32 ∷ 32 ∷ x) (indent_parts level rest)
  where
    next : (n k : ℕ) → n + suc (suc k) ≡ suc (n + suc k)
    next n k = omega arith

indent_split : (depth level : ℕ) → level < depth → indent depth ≡ indent level ++ (32 ∷ 32 ∷ indent (depth - suc level))
indent_split depth level h = let e : depth ≡ (depth - suc level) + suc level = omega arith in ap indent e ∙ indent_parts level (depth - suc level)

pub line_stops : {old mid new : Told} {why : SinkError} (depth level : ℕ) → level < depth → WritesWhole old (new_line level) mid → WritesFront why mid (32 ∷ 32 ∷ []) new
    → WritesFront why old (new_line depth) new
line_stops depth level h w f = stops_after (new_line level) (32 ∷ 32 ∷ []) (indent (depth - suc level)) w (ap (λ x. 10 ∷ x) (indent_split depth level h)) f

pub line_on : {old mid new : Told} (level : ℕ) → WritesWhole old (new_line level) mid → WritesWhole mid (32 ∷ 32 ∷ []) new → WritesWhole old (new_line (level + 1)) new
line_on {old} {mid} {new} level w v = subst (λ x. WritesWhole old (10 ∷ x) new) (sym (indent_more level)) (writes_both (new_line level) (32 ∷ 32 ∷ []) w v)

pub line_begun_stops : {old new : Told} {why : SinkError} (depth : ℕ) → WritesFront why old (10 ∷ []) new → WritesFront why old (new_line depth) new
line_begun_stops depth f = stops_in_first (10 ∷ []) (indent depth) f

-- ---- byte by byte

laid_step : (json : List ℕ) (index : ℕ) (place : Place) (depth : ℕ) → index < length json → laid_out place depth (drop index json)
    ≡ laid_byte place depth (get_or json index 0) ++ laid_out (next_place place (get_or json index 0)) (next_depth place depth (get_or json index 0)) (drop (suc index) json)
laid_step [] index place depth h = absurd (omega arith)
laid_step (byte ∷ json) zero place depth h = refl
laid_step (byte ∷ json) (suc index) place depth h = laid_step json index place depth (omega arith)

pub byte_on : {old mid new : Told} (json : List ℕ) (index : ℕ) (place onto : Place) (depth deep : ℕ) → index < length json
    → IsLaid old (pretty json) (laid_out place depth (drop index json)) mid → WritesWhole mid (laid_byte place depth (get_or json index 0)) new
    → onto ≡ next_place place (get_or json index 0) → deep ≡ next_depth place depth (get_or json index 0) → IsLaid old (pretty json) (laid_out onto deep (drop (index + 1) json)) new
byte_on {old} {mid} {new} json index place onto depth deep h l w p d =
    let later = laid_out (next_place place (get_or json index 0)) (next_depth place depth (get_or json index 0)) (drop (suc index) json) in
    let one : index + 1 ≡ suc index = omega arith in
    let same : later ≡ laid_out onto deep (drop (index + 1) json) =
    ap (λ x. laid_out x (next_depth place depth (get_or json index 0)) (drop (suc index) json)) (sym p)
    ∙ ap (λ x. laid_out onto x (drop (suc index) json)) (sym d) ∙ ap (λ n. laid_out onto deep (drop n json)) (sym one) in
    subst (λ x. IsLaid old (pretty json) x new) same
    (laid_on (laid_byte place depth (get_or json index 0)) later (subst (λ x. IsLaid old (pretty json) x mid) (laid_step json index place depth h) l) w)

pub byte_stops : {old mid new : Told} {why : SinkError} (json : List ℕ) (index : ℕ) (place : Place) (depth : ℕ) → index < length json
    → IsLaid old (pretty json) (laid_out place depth (drop index json)) mid → WritesFront why mid (laid_byte place depth (get_or json index 0)) new → WritesFront why old (pretty json) new
byte_stops {old} {mid} {new} json index place depth h l f =
    laid_stops (laid_byte place depth (get_or json index 0)) (laid_out (next_place place (get_or json index 0)) (next_depth place depth (get_or json index 0)) (drop (suc index) json))
    (subst (λ x. IsLaid old (pretty json) x mid) (laid_step json index place depth h) l) f

pub laid_to_end : {old new : Told} (json : List ℕ) (index : ℕ) (place : Place) (depth : ℕ) → length json ≤ index → IsLaid old (pretty json) (laid_out place depth (drop index json)) new
    → WritesWhole old (pretty json) new
laid_to_end json index place depth h l = laid_whole (laid_out place depth (drop index json)) (ap (laid_out place depth) (drop_all index json h)) l

marked_depth : (depth : ℕ) (m : Mark) → depth_past depth m ≤ depth + 1
marked_depth depth Begin = omega arith
marked_depth depth End = less depth
  where
    less : (d : ℕ) → one_less d ≤ d + 1
    less zero = omega arith
    less (suc d) = omega arith
marked_depth depth Space = omega arith
marked_depth depth Quote = omega arith
marked_depth depth Comma = omega arith
marked_depth depth Colon = omega arith
marked_depth depth Other = omega arith

pub depth_grows : (place : Place) (depth byte : ℕ) → next_depth place depth byte ≤ depth + 1
depth_grows (Outside gap) depth byte = marked_depth depth (mark_of_byte byte)
depth_grows Inside depth byte = omega arith
depth_grows Escaped depth byte = omega arith
