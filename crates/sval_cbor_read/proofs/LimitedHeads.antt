-- What the loop knows of limits.
use Rattle.std.specs.Prelude.{◌≡◌, ℕ, suc, ◌+◌, ◌<◌, ◌≤◌, Bool, true, false, if◌then◌else◌, List, [], ◌∷◌, length, drop, max, refl}
use Rattle.std.proofs.Common.{sym, ap, ◌∙◌, subst, arith}
use Rattle.std.proofs.lemmas.Bool.{false≢true}
use Rattle.sval_io.specs.declared.limits.Limits.{Limits}
use Rattle.sval_cbor_read.specs.declared.document.limited.CborLimitedError.{CborLimitedError}
use Rattle.sval_cbor_read.specs.declared.document.limited.CborLimitedError.TheVariants.{Read, TooDeep, TooMany}
use Rattle.sval_cbor_read.specs.declared.reader.Expected.TheVariants as expected
use Rattle.sval_cbor_read.specs.declared.reader.Reader.{Reader}
use Rattle.sval_cbor_read.specs.CborLimits.{IsFrontWithin, EndsWithin, FailsWithin, OpensTooMany, HasTooMany, IsLimitedCborError}
use Rattle.sval_cbor_read.specs.HeadFronts.{so_many, head_front, IsFrontOf, no_heads, one_head_more, FailsFrom, at_its_head}
use Rattle.sval_cbor_read.specs.SeenDue.{is_begun_behind}
use Rattle.sval_cbor_read.specs.SeenLimited.{CountsBegun, CborPasses}
use Rattle.sval_cbor_read.specs.SeenReader.{front_of, TakesHead, nothing_begun, node_begun, level_begun}
use Rattle.sval_cbor_read.proofs.HeadsGo.{front_is}

-- the front that a reader has read is within limits
abbrev pub ReadsWithin : List ℕ → Limits → Reader → ℕ → Type 0
ReadsWithin bytes limits reader begun = (deepest : ℕ) × IsFrontWithin bytes limits (front_of bytes reader deepest begun)

pub starts_within : (bytes : List ℕ) (limits : Limits) (reader : Reader) → front_of bytes reader 0 0 ≡ head_front (so_many 1 ∷ []) 0 0 bytes → ReadsWithin bytes limits reader 0
starts_within bytes limits reader e = (0, record { is_front = subst (IsFrontOf bytes) (sym e) no_heads; depth = omega arith; nodes = omega arith })

max_within : (a b most : ℕ) → a ≤ most → b ≤ most → max a b ≤ most
max_within a b most h k = omega arith

max_passes : (a b most : ℕ) → a ≤ most → b ≡ suc most → max a b ≡ suc most
max_passes a b most h k = omega arith

module _ (bytes : List ℕ) (limits : Limits) (old new : Reader) (begun : ℕ) (reads : ReadsWithin bytes limits old begun) (kept : ℕ) (kept_is : kept ≡ length old.nodes.items) where
  abbrev has_begun : Bool
  has_begun = is_begun_behind kept new.nodes.items

  begun_is : (b : Bool) → is_begun_behind (length old.nodes.items) new.nodes.items ≡ b → has_begun ≡ b
  begun_is b e = ap (λ n. is_begun_behind n new.nodes.items) kept_is ∙ e

  -- the front grows
  pub stays_within : (count : ℕ) → TakesHead bytes old new → CountsBegun has_begun (length new.opened) begun limits count → ReadsWithin bytes limits new count
  stays_within count (nothing_begun b l f) k =
      let same : count ≡ begun = k.count_is ∙ ap (λ t. if t then begun + 1 else begun) (begun_is false b) in
      subst (ReadsWithin bytes limits new) (sym same) (reads.0, record { is_front = f reads.0 begun reads.1.is_front; depth = reads.1.depth; nodes = reads.1.nodes })
  stays_within count (node_begun b l f) k =
      let more : count ≡ begun + 1 = k.count_is ∙ ap (λ t. if t then begun + 1 else begun) (begun_is true b) in
      let few = k.not_many (begun_is true b) in
      let same : count ≡ suc begun = omega arith in
      subst (ReadsWithin bytes limits new) (sym same) (reads.0, record { is_front = one_head_more reads.1.is_front (f reads.0 begun); depth = reads.1.depth; nodes = omega arith })
  stays_within count (level_begun b l f) k =
      let more : count ≡ begun + 1 = k.count_is ∙ ap (λ t. if t then begun + 1 else begun) (begun_is true b) in
      let few = k.not_many (begun_is true b) in
      let same : count ≡ suc begun = omega arith in
      subst (ReadsWithin bytes limits new) (sym same)
      (max reads.0 (length new.opened), record { is_front = one_head_more reads.1.is_front (f reads.0 begun); depth = max_within reads.0 (length new.opened) limits.depth reads.1.depth k.not_deep; nodes = omega arith })

  -- it passes a limit
  too_deep : old.at ≤ length bytes → length old.opened ≤ limits.depth → limits.depth < length new.opened → TakesHead bytes old new → OpensTooMany bytes limits old.at
  too_deep w o d (nothing_begun b l f) = absurd (omega arith)
  too_deep w o d (node_begun b l f) = absurd (omega arith)
  too_deep w o d (level_begun b l f) =
      let one_more : length new.opened ≡ suc limits.depth = omega arith in
      record {
        front = front_of bytes old reads.0 begun;
        within = reads.1;
        at_is = refl;
        next = front_of bytes new (max reads.0 (length new.opened)) (suc begun);
        goes_on = f reads.0 begun;
        passes = max_passes reads.0 (length new.opened) limits.depth reads.1.depth one_more;
        inside = w;
      }

  too_many : old.at ≤ length bytes → length new.opened ≤ limits.depth → has_begun ≡ true → limits.nodes ≤ begun → TakesHead bytes old new → HasTooMany bytes limits old.at
  too_many w o h m (nothing_begun b l f) = absurd (false≢true (sym (begun_is false b) ∙ h))
  too_many w o h m (node_begun b l f) =
      let n = reads.1.nodes in
      let all : begun ≡ limits.nodes = omega arith in
      record {
        front = front_of bytes old reads.0 begun;
        within = reads.1;
        at_is = refl;
        next = front_of bytes new reads.0 (suc begun);
        goes_on = f reads.0 begun;
        passes = ap suc all;
        not_deeper = reads.1.depth;
        inside = w;
      }
  too_many w o h m (level_begun b l f) =
      let n = reads.1.nodes in
      let all : begun ≡ limits.nodes = omega arith in
      record {
        front = front_of bytes old reads.0 begun;
        within = reads.1;
        at_is = refl;
        next = front_of bytes new (max reads.0 (length new.opened)) (suc begun);
        goes_on = f reads.0 begun;
        passes = ap suc all;
        not_deeper = max_within reads.0 (length new.opened) limits.depth reads.1.depth o;
        inside = w;
      }

  pub passes_limit : (error : CborLimitedError) → old.at ≤ length bytes → length old.opened ≤ limits.depth → TakesHead bytes old new → CborPasses has_begun (length new.opened) begun limits old.at error
      → IsLimitedCborError bytes limits error
  passes_limit (Read error) w o t p = absurd p
  passes_limit (TooDeep at) w o t p = subst (OpensTooMany bytes limits) (sym p.0) (too_deep w o p.1 t)
  passes_limit (TooMany at) w o t p = subst (HasTooMany bytes limits) (sym p.0) (too_many w p.1 p.2 p.3 t)

-- the bytes fail behind it
pub fails_within : (bytes : List ℕ) (limits : Limits) (old : Reader) (begun : ℕ) → ReadsWithin bytes limits old begun → (at : ℕ) → FailsFrom bytes old.at at → FailsWithin bytes limits at
fails_within bytes limits old begun reads at f = record { front = front_of bytes old reads.0 begun; within = reads.1; from = old.at; from_is = refl; fails = f }

-- the item has ended
pub ends_within : (bytes : List ℕ) (limits : Limits) (reader : Reader) (begun : ℕ) → reader.expected ≡ expected.Nothing → ReadsWithin bytes limits reader begun → EndsWithin bytes limits (drop reader.at bytes)
ends_within bytes limits reader begun e r = record {
  deepest = r.0;
  nodes = begun;
  front = subst (IsFrontWithin bytes limits) (front_is bytes reader expected.Nothing reader.opened reader.at r.0 begun e refl refl) r.1;
}

-- bytes follow it
pub more_within : (bytes : List ℕ) (limits : Limits) (at : ℕ) → EndsWithin bytes limits (drop at bytes) → FailsWithin bytes limits at
more_within bytes limits at e = record { front = head_front (so_many 0 ∷ []) e.deepest e.nodes (drop at bytes); within = e.front; from = at; from_is = refl; fails = at_its_head }
