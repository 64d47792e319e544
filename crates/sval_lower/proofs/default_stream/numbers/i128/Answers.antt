use Rattle.std.specs.Prelude.{◌≡◌, Some, None}
use Rattle.std.specs.Fmt.{signed_decimal}
use Rattle.std.proofs.Common.{rules}
use Rattle.sval_label.specs.Calls.{Int, I64}
use Rattle.sval_label.specs.SeenIndex.{in_signed}
use Rattle.sval_core.specs.Law.{Answers}
use Rattle.sval_lower.proofs.WideStreams.{emits_small, emits_large}
use Rattle.sval_lower.proofs.default_stream.numbers.i128.Goals as goal

pub returns-in-Some : goal.returns-in-Some
returns-in-Some g c =
    let fits : Some c.in-Some.number ≡ in_signed 63 c.args.value = search rules in
    let old = g.S.Stream.standing c.args.stream.now in
    let new = g.S.Stream.standing c.small.new.stream in
    let taken : Answers g.S.Stream.law c.small.result (g.S.Stream.standing c.args.stream.now) (Int I64 c.in-Some.number) (g.S.Stream.standing c.small.new.stream) = search rules in
    emits_small g.S.Stream.law old new c.small.result c.in-Some.number (c.args.value) fits taken

pub returns-in-None : goal.returns-in-None
returns-in-None g c =
    let fits : None ≡ in_signed 63 c.args.value = search rules in
    let digits : c.format.result.now ≡ signed_decimal c.args.value = search rules in
    emits_large g.S.Stream.law (g.S.Stream.standing c.args.stream.now) (g.S.Stream.standing c.text_under.new.stream) c.text_under.result (c.args.value) fits (rw digits at c.text_under.ensures)
