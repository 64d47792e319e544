use Rattle.sval_pretty.specs.declared.layout.Gap.TheVariants.{Nothing}
use Rattle.sval_pretty.specs.declared.layout.Place.TheVariants.{Outside}
use Rattle.sval_pretty.proofs.laws.pretty_laws.Goals as goal
use Rattle.sval_pretty.proofs.LaidJson.{laid_json}
use Rattle.sval_pretty.proofs.Unspacing.{pretty_unspaced, pretty_is_compact}
use Rattle.sval_pretty.proofs.LaidUtf8.{laid_utf8}
use Rattle.sval_pretty.proofs.LaidGrammar.{pretty_denotes, pretty_json_denotes}

pub returns-clause-compact_is_laid_out : goal.returns-clause-compact_is_laid_out
returns-clause-compact_is_laid_out c = laid_json

pub returns-clause-keeps_all_but_space : goal.returns-clause-keeps_all_but_space
returns-clause-keeps_all_but_space c = pretty_unspaced

pub returns-clause-pretty_is_compact : goal.returns-clause-pretty_is_compact
returns-clause-pretty_is_compact c = pretty_is_compact

pub returns-clause-stays_utf8 : goal.returns-clause-stays_utf8
returns-clause-stays_utf8 c = λ text u. laid_utf8 (Outside Nothing) 0 text u

pub returns-clause-denotes_the_same : goal.returns-clause-denotes_the_same
returns-clause-denotes_the_same c = pretty_denotes

pub returns-clause-pretty_denotes_the_same : goal.returns-clause-pretty_denotes_the_same
returns-clause-pretty_denotes_the_same c = pretty_json_denotes
