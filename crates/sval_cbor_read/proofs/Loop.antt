-- What the loop over the steps knows, from the first one to the end.
use Rattle.std.specs.Prelude.{◌≡◌, ℕ, ◌<◌, ◌≤◌, List, [], ◌++◌, length, drop, None, refl}
use Rattle.std.proofs.Common.{sym, ap, subst, arith, append-nil}
use Rattle.std.proofs.lemmas.List.{length-drop}
use Rattle.sval_label.specs.Calls.{Call}
use Rattle.sval_core.specs.Spells.{Spells}
use Rattle.sval_cbor_read.specs.declared.reader.Expected.TheVariants as expected
use Rattle.sval_cbor_read.specs.declared.reader.Reader.{Reader}
use Rattle.sval_cbor_read.specs.Reading.{ItemState, Ended, reading_step, Reached, at_start, onward, distance}
use Rattle.sval_cbor_read.specs.Steps.{Spot, first_spot, ItemSteps, one_step, more_steps, IsReached, StopsWith, at_once, after_steps, IsStuckWith, MakesSomeCall}
use Rattle.sval_cbor_read.specs.SeenNodes.{streamed_items}
use Rattle.sval_cbor_read.specs.SeenReader.{spot_of}
use Rattle.sval_cbor_read.specs.ReadErrors.{IsReadItem, IsReadFront, IsBadCbor, IsBadFront, MakesSome}
use Rattle.sval_cbor_read.proofs.Nearer.{step_nearer}
use Rattle.sval_cbor_read.proofs.Complete.{item_is_read, front_is_read}
use Rattle.sval_cbor_read.proofs.OneReading.{ends_well, ends_front, front_spells, read_spells}
use Rattle.sval_cbor_read.proofs.OneTree.{item_has_one_tree}
use Rattle.sval_cbor_read.proofs.Bignums.{nothing_at}
use Rattle.sval_cbor_read.proofs.ReadsOn.{spot_is}
use Rattle.sval_cbor_read.proofs.Fronts.{item_alone}

-- what is reached before the steps is reached behind them
pub reached_by : {bytes : List ℕ} {first last : Spot} → ItemSteps first last → IsReached bytes first → IsReached bytes last
reached_by (one_step e) r = onward r e
reached_by (more_steps s t) r = reached_by t (reached_by s r)

-- steps bring the end nearer
pub nearer_by : {first last : Spot} → ItemSteps first last → distance last.state last.left < distance first.state first.left
nearer_by (one_step {state = state} {left = left} {move = move} e) = step_nearer state left move e
nearer_by (more_steps s t) = let a = nearer_by s in let b = nearer_by t in omega arith

pub reached_first : (bytes : List ℕ) (at : Spot) → at ≡ first_spot bytes → IsReached bytes at
reached_first bytes at e = subst (IsReached bytes) (sym e) at_start

pub makes_some : (bytes : List ℕ) (at : Spot) → IsReached bytes at → MakesSomeCall at → MakesSome bytes
makes_some bytes at r m = record { spot = m.second; reached = reached_by m.steps r; some = m.some }

-- where the steps stop that are reached
stops_at : {bytes left : List ℕ} {at : Spot} → IsReached bytes at → StopsWith at left → (state : ItemState) × (made : List Call) × Reached bytes state left made × (reading_step state left ≡ None)
stops_at r (at_once {state = state} {made = made} e) = (state, made, r, e)
stops_at r (after_steps s t) = stops_at (reached_by s r) t

-- bytes that the reader is stuck in are bad there
pub stuck_is_bad : (bytes : List ℕ) (at : Spot) (stop : ℕ) → IsReached bytes at → IsStuckWith at (drop stop bytes) → stop ≤ length bytes → IsBadFront bytes stop
stuck_is_bad bytes at stop r s w =
    let (state, made, reached, stops) = stops_at r s.stops in
    record { no_item = s.no_item bytes r; stops_at = record { state = state; calls = made; reached = reached; stops = stops; within = w } }

-- where an item has ended, it was read
module _ (bytes : List ℕ) (reader : Reader) (ended : reader.expected ≡ expected.Nothing) (r : IsReached bytes (spot_of bytes reader)) where
  at_end : Reached bytes (Ended []) (drop reader.at bytes) (streamed_items bytes reader.nodes.items ++ [])
  at_end = subst (IsReached bytes) (spot_is bytes reader expected.Nothing reader.opened reader.at reader.nodes.items ended refl refl refl) r

  pub end_is_reached : Reached bytes (Ended []) (drop reader.at bytes) (streamed_items bytes reader.nodes.items)
  end_is_reached = subst (Reached bytes (Ended []) (drop reader.at bytes)) (append-nil (streamed_items bytes reader.nodes.items)) at_end

  pub front_is : reader.at ≤ length bytes → IsReadFront bytes (streamed_items bytes reader.nodes.items) reader.at
  front_is w =
      let left = drop reader.at bytes in
      let calls = streamed_items bytes reader.nodes.items in
      let (tree, item, same) = front_spells left bytes calls (ends_front bytes left calls end_is_reached) in
      record { tree = tree; item = item; alone = item_alone bytes tree reader.at w item; same = same; spells = subst (λ x. Spells x tree) (sym same) (front_is_read left bytes tree item).1; within = w }

-- an item behind which bytes follow
pub more_is_bad : (bytes : List ℕ) (calls : List Call) (at : ℕ) → IsReadFront bytes calls at → Reached bytes (Ended []) (drop at bytes) calls → at < length bytes → IsBadCbor bytes at
more_is_bad bytes calls at f r l = record {
  no_item = λ tree item. let e = ap length (item_has_one_tree bytes [] (drop at bytes) tree f.tree item f.item).1 in omega (arith, e, length-drop at bytes);
  stops_at = record { state = Ended []; calls = calls; reached = r; stops = refl; within = f.within };
}

-- an item that takes all bytes
pub all_is_read : (bytes : List ℕ) (calls : List Call) (at : ℕ) → Reached bytes (Ended []) (drop at bytes) calls → length bytes ≤ at → IsReadItem bytes calls
all_is_read bytes calls at r l =
    let (tree, item, same) = read_spells bytes calls (ends_well bytes calls (subst (λ x. Reached bytes (Ended []) x calls) (nothing_at bytes at l) r)) in
    record { tree = tree; item = item; same = same; spells = subst (λ x. Spells x tree) (sym same) (item_is_read bytes tree item).1 }
