use Rattle.std.proofs.Common.{sym, ap, subst, ◌∙◌, ◌∷◌, ◌≤◌, ◌+◌, List, map, drop, take, length}
use Rattle.std.specs.List.{between}
use Rattle.sval_json_read.specs.Lookups.{Member, paired}
use Rattle.sval_json_read.specs.Nodes.{tokens_in}
use Rattle.sval_json_read.specs.SeenNodes.{seen_node}
use Rattle.sval_json_read.specs.SeenValues.{text_in, value_in, members_in}
use Rattle.sval_json_read.specs.ValueNodes.{AreOfValue, AreOfMembers}
use Rattle.sval_json_read.proofs.NextNodes.{first_pair_by, a_key_first}
use Rattle.sval_json_read.proofs.json_parts.JsonMembers.next.Goals as goal

pub split_at-requires : goal.split_at-requires
split_at-requires c =
    subst (λ row. c.value_len.result ≤ length row) (sym c.behind_first-values.ensures)
    (first_pair_by c.self.inside.text.now c.self.inside.nodes.now _ c.value_len.result c.in-Text.field-0 c.in-Text.from c.in-Text.length
    c.self.invariant c.if-is_empty.ensures c.in-Text.is c.behind_first-values.ensures c.value_len.ensures).within

pub new-requires : goal.new-requires
new-requires c =
    subst (AreOfValue c.self.inside.text.now) (sym (c.split_at.ensures.front ∙ ap (take c.value_len.result) c.behind_first-values.ensures))
    (first_pair_by c.self.inside.text.now c.self.inside.nodes.now _ c.value_len.result c.in-Text.field-0 c.in-Text.from c.in-Text.length
    c.self.invariant c.if-is_empty.ensures c.in-Text.is c.behind_first-values.ensures c.value_len.ensures).first

pub invariant_of-self : goal.invariant_of-self
invariant_of-self c =
    subst (AreOfMembers c.self.inside.text.now) (sym (c.split_at.ensures.back ∙ ap (drop c.value_len.result) c.behind_first-values.ensures))
    (first_pair_by c.self.inside.text.now c.self.inside.nodes.now _ c.value_len.result c.in-Text.field-0 c.in-Text.from c.in-Text.length
    c.self.invariant c.if-is_empty.ensures c.in-Text.is c.behind_first-values.ensures c.value_len.ensures).behind

pub unreachable-requires : goal.unreachable-requires
unreachable-requires c = a_key_first c.self.inside.text.now c.self.inside.nodes.now c.self.invariant c.if-is_empty.ensures c.in_default.not-Text

pub returns : goal.returns
returns c =
    let bytes = c.self.inside.text.now in
    let pair = first_pair_by bytes c.self.inside.nodes.now _ c.value_len.result c.in-Text.field-0 c.in-Text.from c.in-Text.length
    c.self.invariant c.if-is_empty.ensures c.in-Text.is c.behind_first-values.ensures c.value_len.ensures in
    let name = c.new-name.ensures ∙ ap text_in (c.range.ensures.value ∙ ap (λ n. between n (n + c.in-Text.length) bytes) c.get-from.ensures) in
    let value = c.new.ensures ∙ ap (λ nodes. value_in (tokens_in bytes (map seen_node nodes))) (c.split_at.ensures.front ∙ ap (take c.value_len.result) c.behind_first-values.ensures) in
    let left = ap (λ nodes. paired (members_in (tokens_in bytes (map seen_node nodes)))) (c.split_at.ensures.back ∙ ap (drop c.value_len.result) c.behind_first-values.ensures) in
    sym c.self.view_is ∙ pair.is
    ∙ ap (λ n. record { name = n; value = value_in (tokens_in bytes (map seen_node (take c.value_len.result (drop 1 c.self.inside.nodes.now)))) } ∷ paired (members_in (tokens_in bytes (map seen_node (drop c.value_len.result (drop 1 c.self.inside.nodes.now)))))) (sym name)
    ∙ ap (λ v. record { name = c.new-name.result; value = v } ∷ paired (members_in (tokens_in bytes (map seen_node (drop c.value_len.result (drop 1 c.self.inside.nodes.now)))))) (sym value)
    ∙ ap (λ (row : List Member). record { name = c.new-name.result; value = c.new.result } ∷ row) (sym left)
