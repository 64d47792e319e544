-- The reader's steps stop at one place of the bytes at most.
use Rattle.std.specs.Prelude.{◌≡◌, ℕ, List, [], length, Some, None, refl}
use Rattle.std.proofs.Common.{sym, ap, subst, arith}
use Rattle.std.proofs.lemmas.List.{length-drop}
use Rattle.sval_label.specs.Calls.{Call}
use Rattle.sval_cbor_read.specs.Reading.{ItemState, Item, Move, reading_step, Reached, at_start, onward}
use Rattle.sval_cbor_read.specs.ReadErrors.{StepsStopAt}
use Rattle.sval_cbor_read.proofs.OneReading.{one_move}

-- steps from one state on to another
data LeadsTo : ItemState → List ℕ → ItemState → List ℕ → Type 0 where
  none_made : {state : ItemState} {left : List ℕ} → LeadsTo state left state left
  one_made : {state last : ItemState} {left behind : List ℕ} {move : Move} → reading_step state left ≡ Some move → LeadsTo move.next move.left last behind → LeadsTo state left last behind

one_more : {state last : ItemState} {left behind : List ℕ} {move : Move} → LeadsTo state left last behind → reading_step last behind ≡ Some move → LeadsTo state left move.next move.left
one_more none_made e = one_made e none_made
one_more (one_made f s) e = one_made f (one_more s e)

from_the_first : {bytes left : List ℕ} {state : ItemState} {made : List Call} → Reached bytes state left made → LeadsTo (Item []) bytes state left
from_the_first at_start = none_made
from_the_first (onward r e) = one_more (from_the_first r) e

one_end : {state last other : ItemState} {left behind rest : List ℕ} → LeadsTo state left last behind → LeadsTo state left other rest → reading_step last behind ≡ None → reading_step other rest ≡ None → behind ≡ rest
one_end none_made none_made e f = refl
one_end none_made (one_made g s) e f = absurd (let h = sym e in cc)
one_end (one_made g s) none_made e f = absurd (let h = sym f in cc)
one_end (one_made {last = last} {behind = behind} {move = m} g s) (one_made {move = n} h t) e f =
    one_end (subst (λ x. LeadsTo x.next x.left last behind) (one_move g h) s) t e f

pub one_place : (bytes : List ℕ) (at other : ℕ) → StepsStopAt bytes at → StepsStopAt bytes other → at ≡ other
one_place bytes at other a b =
    let same = ap length (one_end (from_the_first a.reached) (from_the_first b.reached) a.stops b.stops) in
    let v = a.within in
    let w = b.within in
    omega (arith, same, length-drop at bytes, length-drop other bytes)
