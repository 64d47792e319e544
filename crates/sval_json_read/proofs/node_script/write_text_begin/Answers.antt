use Rattle.std.proofs.Common.{◌++◌, codes, ◌∙◌, subst}
use Rattle.sval_io.specs.Sinks.{WritesAll}
use Rattle.sval_json_read.proofs.node_script.write_text_begin.Goals as goal

pub returns : goal.returns
returns g c =
    subst (λ digits. WritesAll c.write_between.result (g.K.Sink.told c.args.out.now) (codes "text_begin " ++ (digits ++ codes "\ntext_fragment =")) (g.K.Sink.told c.write_between.new.out))
    (c.as_bytes.ensures.value ∙ c.format.ensures.text) c.write_between.ensures
