use Rattle.std.specs.Prelude.{Result, Ok, Err, OnErr}
use Rattle.std.proofs.Common.{◌≡◌, List, [], ◌∷◌, ◌++◌, map, string_bytes, ap, ◌∙◌}
use Rattle.std.proofs.lemmas.List.{map-append}
use Rattle.sval_label.specs.Calls.{Call}
use Rattle.sval_buffer.specs.SeenNames.{kept_call}
use Rattle.sval_buffer.specs.declared.kept.NamedCall.{NamedCall}
use Rattle.sval_buffer.proofs.KeptNames.{all_more, all_append}
use Rattle.sval_buffer.proofs.named.NamedCalls.add.Goals as goal

-- what holds whatever is answered
always : {T E P : Type 0} (r : Result T E) → P → OnErr r P
always (Ok x) p = tt
always (Err e) p = p

pub invariant_of-self-2 : goal.invariant_of-self-2
invariant_of-self-2 c =
    let texts = string_bytes c.keep.new.texts in
    let items = c.self.inside.calls.items in
    let all = all_more (string_bytes c.self.inside.texts) texts items c.keep.ensures.grows c.self.invariant in
    rw (c.push_reserved.ensures.items, c.reserve.ensures.items) (all_append texts items c.in_ok-call.call all.0 c.in_ok-call.ensures.stands)

pub invariant_of-self-in_err-call : goal.invariant_of-self-in_err-call
invariant_of-self-in_err-call c =
    let all = all_more (string_bytes c.self.inside.texts) (string_bytes c.keep.new.texts) c.self.inside.calls.items c.keep.ensures.grows c.self.invariant in
    rw c.reserve.ensures.items all.0

pub returns-clause-kept : goal.returns-clause-kept
returns-clause-kept c =
    let texts = string_bytes c.keep.new.texts in
    let items = c.self.inside.calls.items in
    let call = c.in_ok-call.call in
    let all = all_more (string_bytes c.self.inside.texts) texts items c.keep.ensures.grows c.self.invariant in
    let pushed : c.push_reserved.new.self.items ≡ items ++ (call ∷ []) = c.push_reserved.ensures.items ∙ ap (λ (xs : List NamedCall). xs ++ (call ∷ [])) c.reserve.ensures.items in
    ap (map (kept_call texts)) pushed ∙ map-append (kept_call texts) items (call ∷ [])
    ∙ ap (λ (xs : List Call). xs ++ (kept_call texts call ∷ [])) (all.1 ∙ c.self.view_is)
    ∙ ap (λ (x : Call). c.args.self.now ++ (x ∷ [])) c.in_ok-call.ensures.kept

pub returns-in_err-call-clause-err : goal.returns-in_err-call-clause-err
returns-in_err-call-clause-err c =
    let texts = string_bytes c.keep.new.texts in
    let all = all_more (string_bytes c.self.inside.texts) texts c.self.inside.calls.items c.keep.ensures.grows c.self.invariant in
    always c.from_residual-in_err-call.result (ap (map (kept_call texts)) c.reserve.ensures.items ∙ all.1 ∙ c.self.view_is)
