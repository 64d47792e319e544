use Rattle.sval_filter.proofs.running.write_value.Goals as goal

pub returns-in-Ok : goal.returns-in-Ok
returns-in-Ok g c = λ bytes good. c.write_json.ensures bytes c.args.form.now (record { calls = c.args.script.now; good = good; is = c.in-Ok.ensures.ok })
