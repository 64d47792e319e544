-- The reader's steps are determined by the bytes, and where they stop, the bytes are an item or none.
use Rattle.std.specs.Prelude.{◌≡◌, ℕ, false, List, [], ◌++◌, Option, Some, None, refl}
use Rattle.std.proofs.Common.{sym, ap, ◌∙◌, subst, append_assoc, append-nil}
use Rattle.sval_label.specs.Calls.{Call}
use Rattle.sval_core.specs.Trees.{Tree}
use Rattle.sval_cbor_read.specs.Items.{IsItem, IsItemOf}
use Rattle.sval_cbor_read.specs.Reading.{OpenItem, ItemState, Item, Ended, BignumPieces, Move, fits, reading_step, ReadsTo, at_end, goes_on, IsReadAs, Reached, at_start, onward, IsAtEnd}
use Rattle.sval_cbor_read.specs.Document.{cbor_calls, cbor_document_calls}
use Rattle.sval_cbor_read.proofs.Sound.{read_is_item, too_large}
use Rattle.sval_cbor_read.proofs.Complete.{item_is_read, front_is_read}

pub one_move : {m n : Move} {o : Option Move} → o ≡ Some m → o ≡ Some n → m ≡ n
one_move e f = cc

moved_reads : {end : List ℕ} {m n : Move} {last : List Call} → m ≡ n → ReadsTo end n.next n.left last → ReadsTo end m.next m.left last
moved_reads {end = end} {last = last} e r = subst (λ x. ReadsTo end x.next x.left last) (sym e) r

-- the steps are determined by the bytes
pub one_reading : {end : List ℕ} {state : ItemState} {bytes : List ℕ} {made other : List Call} → ReadsTo end state bytes made → ReadsTo end state bytes other → made ≡ other
one_reading (at_end e) (at_end f) = refl
one_reading (at_end f) (goes_on e r) = absurd (cc e)
one_reading (goes_on e r) (at_end f) = absurd (cc e)
one_reading (goes_on {move = m} {more = last} e r) (goes_on {move = n} f s) =
    let g : m ≡ n = one_move e f in
    let h = one_reading r (moved_reads g s) in
    ap (λ x. x ++ last) (ap (λ x. x.calls) g) ∙ ap (λ x. n.calls ++ x) h

pub one_document : (bytes : List ℕ) (made other : List Call) → IsReadAs bytes made → IsReadAs bytes other → made ≡ other
one_document bytes made other r s = one_reading r s

-- what is read is an item, and the calls are its own
pub front_spells : (last bytes : List ℕ) (made : List Call) → ReadsTo last (Item []) bytes made → (tree : Tree) × (i : IsItem bytes tree last) × (made ≡ cbor_calls i [])
front_spells last bytes made r =
    let (tree, i) = read_is_item last r in
    (tree, i, one_reading r (front_is_read last bytes tree i).0)

-- and where no byte is left, its document's
pub read_spells : (bytes : List ℕ) (made : List Call) → IsReadAs bytes made → (tree : Tree) × (i : IsItemOf bytes tree) × (made ≡ cbor_document_calls i)
read_spells bytes made r = front_spells [] bytes made r

-- ---- steps from the first on

joined : (made calls more : List Call) → made ++ calls ++ more ≡ made ++ (calls ++ more)
joined made calls more = append_assoc made calls more

-- what the steps from here on read, the steps from the first on read
reads_on : {end bytes left : List ℕ} {state : ItemState} {made more : List Call} → Reached bytes state left made → ReadsTo end state left more → ReadsTo end (Item []) bytes (made ++ more)
reads_on at_start r = r
reads_on {end = end} {bytes = bytes} {more = more} (onward {made = made} {move = m} reached e) r = subst (ReadsTo end (Item []) bytes) (sym (joined made m.calls more)) (reads_on reached (goes_on e r))

-- what is read from the first step on goes through each state that is reached
pub reads_after : {end bytes left : List ℕ} {state : ItemState} {made calls : List Call} → Reached bytes state left made → ReadsTo end (Item []) bytes calls → (more : List Call) × ReadsTo end state left more
reads_after at_start r = (_, r)
reads_after (onward {move = m} reached e) r = next_reads (reads_after reached r).1 e
  where
    next_reads : {end : List ℕ} {state : ItemState} {left : List ℕ} {more : List Call} {m : Move} → ReadsTo end state left more → reading_step state left ≡ Some m → (last : List Call) × ReadsTo end m.next m.left last
    next_reads (at_end e) f = absurd (cc f)
    next_reads (goes_on {more = last} g s) f = (last, moved_reads (one_move f g) s)

-- where an item has ended, it is read up to there
pub ends_front : (bytes left : List ℕ) (made : List Call) → Reached bytes (Ended []) left made → ReadsTo left (Item []) bytes made
ends_front bytes left made reached = subst (ReadsTo left (Item []) bytes) (append-nil made) (reads_on reached (at_end refl))

pub ends_well : (bytes : List ℕ) (made : List Call) → Reached bytes (Ended []) [] made → IsReadAs bytes made
ends_well bytes made reached = ends_front bytes [] made reached

stuck : {end : List ℕ} {state : ItemState} {left : List ℕ} {more : List Call} → ReadsTo end state left more → reading_step state left ≡ None → (state ≡ Ended [] → left ≡ end → ⊥) → ⊥
stuck (at_end f) e h = h refl f
stuck (goes_on f r) e h = cc (sym e ∙ f)

-- where the steps stop within an item, no item begins the bytes
pub stops_in_front : {bytes left rest : List ℕ} {state : ItemState} {made : List Call} {tree : Tree} → Reached bytes state left made → reading_step state left ≡ None → (state ≡ Ended [] → ⊥) → IsItem bytes tree rest → ⊥
stops_in_front {bytes = bytes} {rest = rest} {tree = tree} reached e h i = stuck (reads_after reached (front_is_read rest bytes tree i).0).1 e (λ f g. h f)

pub stops_badly : (bytes left : List ℕ) (state : ItemState) (made : List Call) → Reached bytes state left made → reading_step state left ≡ None → (IsAtEnd state left → ⊥) → (tree : Tree) → IsItemOf bytes tree → ⊥
stops_badly bytes left state made reached e h tree i = stuck (reads_after reached (item_is_read bytes tree i).0).1 e (λ f g. h (f, g))

-- a number that is too large before its last piece is in no item
pub no_large_number : (bytes left : List ℕ) (tag : ℕ) (front : List ℕ) (frames : List OpenItem) (made : List Call) → Reached bytes (BignumPieces tag front frames) left made → fits tag front ≡ false
    → (tree : Tree) → IsItemOf bytes tree → ⊥
no_large_number bytes left tag front frames made reached e tree i = let f = too_large (reads_after reached (item_is_read bytes tree i).0).1 in cc (sym e ∙ f)
