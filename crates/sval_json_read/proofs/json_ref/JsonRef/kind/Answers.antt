use Rattle.std.proofs.Common.{sym, ap, ◌∙◌, inl, inr}
use Rattle.sval_json_read.specs.Lookups.{json_kind_of}
use Rattle.sval_json_read.proofs.FirstNodes.{some_nodes, begins}
use Rattle.sval_json_read.proofs.json_ref.JsonRef.kind.Goals as goal

pub bounds-0 : goal.bounds-0
bounds-0 c = some_nodes c.self.inside.text.now c.self.inside.nodes.now c.self.invariant

pub returns-in-Text : goal.returns-in-Text
returns-in-Text c = ap json_kind_of (sym (begins c.self.invariant c.in-Text.is)) ∙ ap json_kind_of c.self.view_is

pub returns-in-BeginArray : goal.returns-in-BeginArray
returns-in-BeginArray c = elim c.in-BeginArray.is [
  | inl b ↦ ap json_kind_of (sym (begins c.self.invariant b.2).1) ∙ ap json_kind_of c.self.view_is
  | inr e ↦ absurd (begins c.self.invariant e.1)
]

pub returns-in-BeginObject : goal.returns-in-BeginObject
returns-in-BeginObject c = elim c.in-BeginObject.is [
  | inl b ↦ ap json_kind_of (sym (begins c.self.invariant b.2).1) ∙ ap json_kind_of c.self.view_is
  | inr e ↦ absurd (begins c.self.invariant e.1)
]
