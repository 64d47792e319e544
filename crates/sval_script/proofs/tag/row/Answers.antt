use Rattle.sval_script.proofs.TagTable.{named_at, tag_at, text_at}
use Rattle.sval_script.proofs.tag.row.Goals as goal

pub returns-clause-text : goal.returns-clause-text
returns-clause-text c = text_at c.tags.result.now _ _ c.tags.ensures c.requires

pub returns-clause-named : goal.returns-clause-named
returns-clause-named c = named_at c.tags.result.now _ _ c.tags.ensures c.requires

pub returns-clause-tag : goal.returns-clause-tag
returns-clause-tag c = tag_at c.tags.result.now _ _ c.tags.ensures c.requires
