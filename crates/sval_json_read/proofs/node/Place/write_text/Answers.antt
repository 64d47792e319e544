use Rattle.std.proofs.Common.{◌++◌, ℕ, List, refl, subst}
use Rattle.std.specs.List.{between}
use Rattle.sval_io.specs.Sinks.{WritesAll}
use Rattle.sval_json.specs.Escape.{in_quotes}
use Rattle.sval_json_read.specs.SeenNodes.{node_place}
use Rattle.sval_json_read.specs.TextParts.{IsStringIn}
use Rattle.sval_json_read.specs.TokenTexts.{comma_at, colon_behind}
use Rattle.sval_json_read.proofs.TextParts.{ready_string}
use Rattle.sval_json_read.proofs.node.Place.write_text.Goals as goal

pub returns : goal.returns
returns g c =
    let place = node_place c.args.self in
    let from = c.args.from in
    let to = c.args.to in
    let text = c.args.text.now in
    let found : IsStringIn text c.args.ready from to = subst (λ (bytes : List ℕ). IsStringIn bytes c.args.ready from to) c.as_bytes.ensures.value (c.if-not-has_string.ensures refl) in
    let wrote = subst (λ text. WritesAll c.write_plain_text.result (g.K.Sink.told c.args.out.now) (comma_at c.args.is_first place ++ (in_quotes (between from to text) ++ colon_behind place)) (g.K.Sink.told c.write_plain_text.new.out))
    c.as_bytes-2.ensures.value c.write_plain_text.ensures in
    subst (λ row. WritesAll c.write_plain_text.result (g.K.Sink.told c.args.out.now) (comma_at c.args.is_first place ++ (in_quotes row ++ colon_behind place)) (g.K.Sink.told c.write_plain_text.new.out))
    (ready_string c.requires.ready c.requires.order found.within c.requires.raw found.order found.quote) wrote
