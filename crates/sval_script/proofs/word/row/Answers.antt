use Rattle.sval_script.proofs.WordTable.{slot_is_word, form_at, text_at_row}
use Rattle.sval_script.proofs.word.row.Goals as goal

pub bounds-words-place : goal.bounds-words-place
bounds-words-place c = slot_is_word c.args.place c.requires

pub returns-clause-text : goal.returns-clause-text
returns-clause-text c = text_at_row c.words.result.now _ _ c.words.ensures (slot_is_word c.args.place c.requires)

pub returns-clause-form : goal.returns-clause-form
returns-clause-form c = form_at c.words.result.now _ _ c.words.ensures (slot_is_word c.args.place c.requires)
