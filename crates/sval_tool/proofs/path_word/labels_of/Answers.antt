use Rattle.std.proofs.Common.{Global, List, ℕ, [], ◌∷◌, ◌++◌, ap, map, string_bytes, sym, ◌∙◌}
use Rattle.std.proofs.lemmas.Iterator.{YieldsList-from_chars}
use Rattle.std.proofs.lemmas.Iterator.Consumers.{YieldsList-end}
use Rattle.std.proofs.lemmas.List.{map-id}
use Rattle.sval_tool.specs.PathWords.{labels_from}
use Rattle.sval_tool.proofs.PathTexts.{end_step, pushed_view}
use Rattle.sval_tool.proofs.path_word.labels_of.Goals as goal

pub returns : goal.returns
returns c =
    let all = YieldsList-end (YieldsList-from_chars c.args.word.now c.utf8.word cc) c.loop-ch.yielded _ c.loop-ch.yielded_by _ _ c.in-None.is c.next.ensures.steps in
    pushed_view (string_bytes {Z = Global}) c.loop-ch.labels.items c.push.new.self.items c.push_backslash.new.label c.in_ok-push.ensures.items
    ∙ (ap (λ (label : List ℕ). map (string_bytes {Z = Global}) c.loop-ch.labels.items ++ (label ∷ [])) c.in_ok-push_backslash.ensures
    ∙ (end_step (map (string_bytes {Z = Global}) c.loop-ch.labels.items) (string_bytes c.loop-ch.label) c.loop-ch.yielded c.loop-ch.escaped c.loop-ch.invariant
    ∙ ap (λ (chs : List ℕ). labels_from [] chs) (sym (map-id c.loop-ch.yielded) ∙ all.0)))
