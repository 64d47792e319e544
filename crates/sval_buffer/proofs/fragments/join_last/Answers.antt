use Rattle.std.proofs.Common.{◌≡◌, ◌++◌, length, drop, sym, ap, ◌∙◌, subst}
use Rattle.sval_buffer.specs.SeenStores.{SeenStores, with_bytes}
use Rattle.sval_buffer.specs.SeenParts.{copied_bytes, HoldsBytes}
use Rattle.sval_buffer.specs.declared.part.Part.TheVariants as part
use Rattle.sval_buffer.proofs.JoinedParts.{joined_last}
use Rattle.sval_buffer.proofs.fragments.join_last.Goals as goal

pub returns-clause-holds : goal.returns-clause-holds
returns-clause-holds g c =
    let new : c.append.new.stores ≡ with_bytes c.args.stores.now c.args.next.now = c.in_ok-append.ensures.appends in
    let held = copied_bytes (drop c.args.start c.args.stores.now.bytes ++ c.args.next.now) in
    subst (λ (s : SeenStores). HoldsBytes s c.args.medium c.args.holder held (part.Stored c.args.medium c.args.holder c.args.start c.len.result)) (sym new)
    (joined_last c.args.stores.now c.args.medium c.args.holder c.args.start c.len.result c.args.next.now c.requires.within c.requires.suits c.requires.next_suits (c.len.ensures ∙ ap (λ (s : SeenStores). length s.bytes) new))
