use Rattle.std.proofs.Common.{pos, negsuc, [], ◌∷◌, arith, drop, Some, refl}
use Rattle.sval_label.specs.Calls.{Begin, Int, U64, Seq, Map}
use Rattle.sval_cbor_read.specs.declared.stack.Frame.TheVariants.{Items, Keys}
use Rattle.sval_cbor_read.specs.declared.item.Item.TheVariants.{Whole, Container}
use Rattle.sval_cbor_read.specs.Items.{negative_type}
use Rattle.sval_cbor_read.specs.CborValues as value
use Rattle.sval_cbor_read.specs.HeadFronts.{unsigned, negative, array, map}
use Rattle.sval_cbor_read.proofs.BegunItems.{begins_behind, begins_nothing_behind, headed_by, major_is, no_major}
use Rattle.sval_cbor_read.proofs.item.headed_item.Goals as goal

pub returns-in-0-clause-found : goal.returns-in-0-clause-found
returns-in-0-clause-found c =
    begins_behind c.args.bytes.now c.args.head Whole (Int U64 (pos c.args.head.number) ∷ []) c.args.head.next (λ frames. major_is c.args.head 0 (drop c.args.head.next c.args.bytes.now) frames c.in-0.is)
    (omega arith, record { value = value.Int (pos c.args.head.number); puts_it = λ levels. refl; begins = tt; closed = λ depth more. refl }) (λ here e. unsigned (headed_by c.args.bytes.now c.args.head 0 here c.in-0.is e)) (omega arith) c.requires

pub returns-in-1-clause-found : goal.returns-in-1-clause-found
returns-in-1-clause-found c =
    begins_behind c.args.bytes.now c.args.head Whole (Int (negative_type c.args.head.number) (negsuc c.args.head.number) ∷ []) c.args.head.next
    (λ frames. major_is c.args.head 1 (drop c.args.head.next c.args.bytes.now) frames c.in-1.is)
    (omega arith, record { value = value.Int (negsuc c.args.head.number); puts_it = λ levels. refl; begins = tt; closed = λ depth more. refl }) (λ here e. negative (headed_by c.args.bytes.now c.args.head 1 here c.in-1.is e)) (omega arith) c.requires

pub returns-in-4-clause-found : goal.returns-in-4-clause-found
returns-in-4-clause-found c =
    let size = Some c.args.head.number in
    begins_behind c.args.bytes.now c.args.head (Container (Items size)) (Begin Seq size ∷ []) c.args.head.next (λ frames. major_is c.args.head 4 (drop c.args.head.next c.args.bytes.now) frames c.in-4.is)
    (omega arith, record { of = λ level. value.Array level.values; closes_it = λ levels. refl; begins = tt; opens = λ depth more. refl }) (λ here e. array (headed_by c.args.bytes.now c.args.head 4 here c.in-4.is e)) (omega arith) c.requires

pub returns-in-5-clause-found : goal.returns-in-5-clause-found
returns-in-5-clause-found c =
    let size = Some c.args.head.number in
    begins_behind c.args.bytes.now c.args.head (Container (Keys size)) (Begin Map size ∷ []) c.args.head.next (λ frames. major_is c.args.head 5 (drop c.args.head.next c.args.bytes.now) frames c.in-5.is)
    (omega arith, record { of = λ level. value.Map level.values; closes_it = λ levels. refl; begins = tt; opens = λ depth more. refl }) (λ here e. map (headed_by c.args.bytes.now c.args.head 5 here c.in-5.is e)) (omega arith) c.requires

pub returns-in_default-clause-nothing : goal.returns-in_default-clause-nothing
returns-in_default-clause-nothing c = λ none.
    begins_nothing_behind c.args.bytes.now c.args.head
    (λ frames. no_major c.args.head (drop c.args.head.next c.args.bytes.now) frames (omega arith) (omega arith) (omega arith) (omega arith) (omega arith) (omega arith) (omega arith))
