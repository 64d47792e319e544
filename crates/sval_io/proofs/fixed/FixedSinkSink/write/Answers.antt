use Rattle.std.proofs.Common.{rules, sym, arith, ◌≡◌, ◌∙◌, ◌+◌, ◌-◌, ◌≤◌, drop, length}
use Rattle.std.proofs.lemmas.Slice.{drop-put_mid}
use Rattle.std.proofs.lemmas.List.{drop-drop}
use Rattle.sval_io.proofs.fixed.FixedSinkSink.write.Goals as goal

pub returns-clause-rest : goal.returns-clause-rest
returns-clause-rest c =
    let taken = c.self.inside.taken in
    let count = c.min-count.result in
    let there : taken ≤ length c.self.inside.buffer.now = search rules in
    let size : length c.copy_from_slice.new.self ≡ taken + count - taken = search rules in
    let same : drop (taken + count) c.self.inside.buffer.now ≡ drop count c.args.self.now.behind = rw (← c.self.view_is) (sym (drop-drop count taken c.self.inside.buffer.now)) in
    drop-put_mid taken (taken + count - taken) c.self.inside.buffer.now c.copy_from_slice.new.self (taken + count) (omega arith) there size ∙ same
