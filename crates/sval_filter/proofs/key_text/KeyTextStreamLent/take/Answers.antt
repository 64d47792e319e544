use Rattle.std.proofs.Common.{true, false, sym, string_bytes}
use Rattle.sval_label.specs.Made.{lent_call}
use Rattle.sval_filter.specs.SeenKeys.{wants_by}
use Rattle.sval_filter.proofs.Holding.{fragment_read}
use Rattle.sval_filter.proofs.key_text.KeyTextStreamLent.take.Goals as goal

pub returns-in-TextFragment-Borrowed : goal.returns-in-TextFragment-Borrowed
returns-in-TextFragment-Borrowed c =
    fragment_read (record { place = c.args.self.now.place; text = string_bytes c.args.self.now.text }) (record { place = c.fragment.new.self.place; text = string_bytes c.fragment.new.self.text })
    (wants_by c.args.self.now.want) (wants_by c.fragment.new.self.want) true c.in-TextFragment-Borrowed.text.now (lent_call c.args.call) c.fragment.result
    (sym (rw c.in-TextFragment-Borrowed.field-0-is at (c.in-TextFragment-Borrowed.ensures (λ text. text.now) (λ bytes. bytes.now))))
    c.fragment.ensures.copies c.fragment.ensures.never_falls

pub returns-in-TextFragment-Computed : goal.returns-in-TextFragment-Computed
returns-in-TextFragment-Computed c =
    fragment_read (record { place = c.args.self.now.place; text = string_bytes c.args.self.now.text }) (record { place = c.fragment-in-TextFragment-Computed.new.self.place; text = string_bytes c.fragment-in-TextFragment-Computed.new.self.text })
    (wants_by c.args.self.now.want) (wants_by c.fragment-in-TextFragment-Computed.new.self.want) false c.in-TextFragment-Computed.text.now (lent_call c.args.call) c.fragment-in-TextFragment-Computed.result
    (sym (rw c.in-TextFragment-Computed.field-0-is at (c.in-TextFragment-Computed.ensures (λ text. text.now) (λ bytes. bytes.now))))
    c.fragment-in-TextFragment-Computed.ensures.copies c.fragment-in-TextFragment-Computed.ensures.never_falls
