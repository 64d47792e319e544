use Rattle.std.proofs.Common.{rules, sym, ap, subst, ◌∙◌, ◌≡◌, ◌++◌, ◌-◌, codes, drop, take, length, take_all, length-drop, List, ℕ, true, false, refl, arith}
use Rattle.sval_core.specs.Values.{whole_key_calls}
use Rattle.sval_json.specs.Actions.{WriterState, write}
use Rattle.sval_json.specs.WriterLaw.{Does, writer_state, writer_view}
use Rattle.std.specs.Prelude.{IsUtf8}
use Rattle.sval_json.proofs.Passing.{key_passed}
use Rattle.sval_json.proofs.Joined.{JoinsAs, emits_joined, escaping, key_begins, key_joins}
use Rattle.sval_json.proofs.writer.JsonWriterStreamLent.whole_text_key.Goals as goal
use Rattle.sval_json.proofs.writer.JsonWriterStreamLent.whole_text_key.Goals.{then-self, else-self}

pub returns-then-push_plain : goal.returns-then-push_plain
returns-then-push_plain g c =
    let w = c.args.self.now in
    let text = c.args.text.now in
    let calls = whole_key_calls c.args.size text in
    let all : List ℕ = codes ",\"" ++ (text ++ codes "\":") in
    let is : c.as_bytes.result.now ≡ all = search rules in
    let bytes : List ℕ = key_begins w.empty ++ (text ++ codes "\":") in
    let skipped : drop c.if-self.no_comma all ≡ bytes = elim c.if-self.branch [
      | then-self t ↦ ap (λ n. drop n all) t.no_comma-is ∙ ap (λ b. key_begins b ++ (text ++ codes "\":")) (sym t.if-self.true)
      | else-self e ↦ ap (λ n. drop n all) e.no_comma-is ∙ ap (λ b. key_begins b ++ (text ++ codes "\":")) (sym e.if-self.false)
    ] in
    let joined : List ℕ = c.as_bytes.result.now in
    let left : List ℕ = drop c.if-self.no_comma joined in
    let whole : take (length joined - c.if-self.no_comma) left ≡ left =
    take_all (length joined - c.if-self.no_comma) left (omega (arith, length-drop c.if-self.no_comma joined)) in
    let bytes_are : take (length joined - c.if-self.no_comma) left ≡ bytes = whole ∙ ap (drop c.if-self.no_comma) is ∙ skipped in
    let last : WriterState = record { named = false; empty = false; quoted = true; handler = (writer_state w).handler } in
    let state_is : writer_state w ≡ escaping w.named w.empty w.quoted = rw c.if-escapes.ensures refl in
    let joins : JoinsAs w.variants (writer_state w) calls bytes last =
    subst (λ (s : WriterState). JoinsAs w.variants s calls bytes (record { named = false; empty = false; quoted = true; handler = s.handler })) (sym state_is)
    (key_joins w.variants w.named w.empty w.quoted c.args.size text c.if-push_plain.ensures.plain) in
    let u : IsUtf8 text = c.text_is_real.ensures in
    key_passed c.write_few.result _ _ c.args.size text u (emits_joined g.K.Sink.told w c.write_few.new.self c.write_few.result calls bytes last joins
    (subst (λ b. Does (write b) c.write_few.result (writer_view g.K.Sink.told (record w { named = false; empty = false; quoted = true })) (writer_view g.K.Sink.told c.write_few.new.self)) bytes_are c.write_few.ensures.does)
    c.write_few.ensures.full)
