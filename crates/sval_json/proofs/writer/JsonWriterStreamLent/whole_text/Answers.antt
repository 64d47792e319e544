use Rattle.std.proofs.Common.{rules, sym, subst, ◌≡◌, ◌++◌, codes, List, ℕ, true, false, refl}
use Rattle.sval_core.specs.Values.{whole_text_calls}
use Rattle.sval_json.specs.Actions.{WriterState, set_empty, write}
use Rattle.sval_json.specs.WriterLaw.{Does, writer_state, writer_view}
use Rattle.std.specs.Prelude.{IsUtf8}
use Rattle.sval_json.proofs.Passing.{text_passed}
use Rattle.sval_json.proofs.Joined.{JoinsAs, emits_joined, escaping, text_joins}
use Rattle.sval_json.proofs.writer.JsonWriterStreamLent.whole_text.Goals as goal

pub returns-then-push_plain : goal.returns-then-push_plain
returns-then-push_plain g c =
    let w = c.args.self.now in
    let text = c.args.text.now in
    let calls = whole_text_calls c.args.size text in
    let bytes : List ℕ = codes "\"" ++ (text ++ codes "\"") in
    let is : c.as_bytes.result.now ≡ bytes = search rules in
    let state_is : writer_state w ≡ escaping w.named w.empty true = rw (c.if-self.true, c.if-escapes.ensures) refl in
    let joins : JoinsAs w.variants (writer_state w) calls bytes (set_empty false (writer_state w)) =
    subst (λ (s : WriterState). JoinsAs w.variants s calls bytes (set_empty false s)) (sym state_is) (text_joins w.variants w.named w.empty c.args.size text c.if-push_plain.ensures.plain) in
    let u : IsUtf8 text = c.text_is_real.ensures in
    text_passed c.write_few.result _ _ c.args.size text u (emits_joined g.K.Sink.told w c.write_few.new.self c.write_few.result calls bytes (set_empty false (writer_state w)) joins
    (subst (λ b. Does (write b) c.write_few.result (writer_view g.K.Sink.told (record w { empty = false })) (writer_view g.K.Sink.told c.write_few.new.self)) is c.write_few.ensures.does)
    c.write_few.ensures.full)
