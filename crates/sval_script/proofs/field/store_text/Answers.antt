use Rattle.std.proofs.Common.{rules, ◌≡◌, refl, get_or}
use Rattle.sval_script.proofs.FieldTexts.{bytes_behind, text_stored, text_refused}
use Rattle.sval_script.proofs.field.store_text.Goals as goal

pub returns-clause-stored : goal.returns-clause-stored
returns-clause-stored c =
    let h : get_or c.args.field.now 0 0 ≡ 61 = search rules in
    text_stored c.args.field.now _ c.args.store.now.items c.decode.new.self.items c.len-start.result c.text_len.result (bytes_behind c.args.field.now _ h refl)
    c.in_ok-decode.ensures.decoded c.len-start.ensures c.text_len.ensures.same c.text_len.ensures.text

pub returns-clause-bad : goal.returns-clause-bad
returns-clause-bad c bad =
    let h : get_or c.args.field.now 0 0 ≡ 61 = search rules in
    text_refused c.args.field.now _ c.args.store.now.items c.decode.new.self.items c.len-start.result (bytes_behind c.args.field.now _ h refl)
    c.in_ok-decode.ensures.decoded c.len-start.ensures (c.text_len.ensures.bad bad)
