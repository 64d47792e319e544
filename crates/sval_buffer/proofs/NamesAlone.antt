-- No call with a name is a fragment.
use Rattle.std.specs.Prelude.{◌≡◌, ℕ, List, [], ◌∷◌, map, Option, Some, None, refl}
use Rattle.std.proofs.Common.{sym, ap, ◌∙◌, subst}
use Rattle.sval_label.specs.Calls as calls
use Rattle.sval_label.specs.Calls.{Call}
use Rattle.sval_core.specs.Law.{computed}
use Rattle.sval_buffer.specs.declared.kept.NamedCall.{NamedCall}
use Rattle.sval_buffer.specs.declared.named.NamedKind.{NamedKind}
use Rattle.sval_buffer.specs.declared.named.NamedKind.TheVariants as kind
use Rattle.sval_buffer.specs.SeenNames.{stored_name, kept_call, named_call}

name_stays : (k : NamedKind) (tag : Option calls.Tag) (label : Option calls.Label) (index : Option calls.Index)
    → let name : calls.Name = record { tag = tag; label = label; index = index } in computed (named_call k name) ≡ named_call k name
name_stays kind.Tag tag label index = refl
name_stays kind.Hint (Some tag) label index = refl
name_stays kind.Hint None label index = refl
name_stays kind.Enum tag label index = refl
name_stays kind.Tagged tag label index = refl
name_stays (kind.Sized head size) tag label index = refl
name_stays (kind.Part slot) tag label index = refl

names_stay : (texts : List ℕ) (kept : List NamedCall) → map computed (map (kept_call texts) kept) ≡ map (kept_call texts) kept
names_stay texts [] = refl
names_stay texts (call ∷ kept) =
    let name = stored_name texts call in
    rw (name_stays call.kind name.tag name.label name.index, names_stay texts kept) refl

-- as the buffer's calls are seen
pub names_alone : (texts : List ℕ) (kept : List NamedCall) {seen : List Call} → map (kept_call texts) kept ≡ seen → map computed seen ≡ seen
names_alone texts kept e = subst (λ (cs : List Call). map computed cs ≡ cs) e (names_stay texts kept)
