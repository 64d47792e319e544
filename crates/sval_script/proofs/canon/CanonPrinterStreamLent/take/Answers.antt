use Rattle.std.proofs.Common.{sym, ap}
use Rattle.sval_label.specs.Grouped.{grouped_call}
use Rattle.sval_label.specs.Made.{lent_call}
use Rattle.sval_script.specs.Printed.{canonical_call}
use Rattle.sval_script.proofs.CanonPrinters.{takes_shown, refuses_any}
use Rattle.sval_script.proofs.canon.CanonPrinterStreamLent.take.Goals as goal

pub returns-in-Ok : goal.returns-in-Ok
returns-in-Ok g c =
    let told = g.K.Sink.told in
    let old = c.args.self.now in
    let said = grouped_call (λ text. text.now) (λ bytes. bytes.now) c.grouped.result in
    let is = ap canonical_call (sym (c.grouped.ensures (λ text. text.now) (λ bytes. bytes.now))) in
    takes_shown (told old.out.now) (told c.print_shown.new.sink) old.why old.out.ghost_name (lent_call c.args.call) (canonical_call said) is c.in-Ok.ensures

pub returns-in-Err : goal.returns-in-Err
returns-in-Err g c =
    let told = g.K.Sink.told in
    let old = c.args.self.now in
    let said = grouped_call (λ text. text.now) (λ bytes. bytes.now) c.grouped.result in
    let is = ap canonical_call (sym (c.grouped.ensures (λ text. text.now) (λ bytes. bytes.now))) in
    refuses_any (told old.out.now) (told c.print_shown.new.sink) old.why old.out.ghost_name (lent_call c.args.call) (canonical_call said) c.in-Err.why is c.in-Err.ensures
