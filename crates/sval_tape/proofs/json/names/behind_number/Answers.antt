use Rattle.std.proofs.lemmas.Bool.Decides.{Decides-eqb}
use Rattle.std.proofs.lemmas.Slice.Eq.{strip_prefix_is}
use Rattle.sval_tape.specs.Tapes.{leb128, name_bytes}
use Rattle.sval_tape.specs.JsonAtFront.{number_name}
use Rattle.sval_tape.proofs.JsonFront.{if_stripped}
use Rattle.sval_tape.proofs.json.names.behind_number.Goals as goal

pub returns : goal.returns
unfolding leb128
returns c =
    let name = name_bytes number_name in
    if_stripped (λ x. x.now) c.args.bytes.now name c.strip_prefix.result (strip_prefix_is Decides-eqb c.args.bytes.now name c.strip_prefix.result c.strip_prefix.ensures.cases)
