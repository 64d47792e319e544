use Rattle.std.proofs.lemmas.Bool.Decides.{Decides-eqb}
use Rattle.std.proofs.lemmas.Slice.Eq.{strip_prefix_is}
use Rattle.sval_tape.specs.Tapes.{leb128, name_bytes}
use Rattle.sval_tape.specs.JsonAtFront.{none_taped}
use Rattle.sval_tape.proofs.JsonFront.{if_stripped}
use Rattle.sval_tape.proofs.json.names.behind_none.Goals as goal

pub returns : goal.returns
unfolding leb128
returns c =
    let name = name_bytes none_taped in
    if_stripped (λ x. x.now) c.args.bytes.now name c.strip_prefix.result (strip_prefix_is Decides-eqb c.args.bytes.now name c.strip_prefix.result c.strip_prefix.ensures.cases)
