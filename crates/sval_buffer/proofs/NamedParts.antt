-- A part with a name that is put after the others.
use Rattle.std.specs.Prelude.{◌≡◌, ℕ, Bool, List, [], ◌∷◌, ◌++◌, length, Option, Some, refl}
use Rattle.std.proofs.Common.{sym, ap}
use Rattle.sval_label.specs.Calls.{Call}
use Rattle.sval_buffer.specs.Forest.{Single, Forest, add, begun}
use Rattle.sval_buffer.specs.Flat as flat
use Rattle.sval_buffer.specs.Flat.{flat_part}
use Rattle.sval_buffer.specs.SeenHolder.{held_place}
use Rattle.sval_buffer.specs.SeenNames.{Extends, KeepsNamedCall}
use Rattle.sval_buffer.specs.SeenStores.{SeenStores}
use Rattle.sval_buffer.specs.declared.holder.Holder.{Holder}
use Rattle.sval_buffer.specs.declared.part.Part.TheVariants as part
use Rattle.sval_buffer.specs.declared.part.Part.{Part}
use Rattle.sval_buffer.proofs.KeptParts.{grows_calls}
use Rattle.sval_buffer.proofs.KeptPlaces.{HoldsAround, grown_around, added_around, begun_around}

module _ {s t : SeenStores} {parts : List Part} {within : Bool} {f : Forest} (newest : Option ℕ) (h : HoldsAround s parts newest within f)
    {call : Call} {at : ℕ} (holder : Holder) (extends : Extends s.calls t.calls) (bytes : t.bytes ≡ s.bytes) (keeps : KeepsNamedCall t.calls at call)
    (held : held_place holder ≡ newest) where
  pub holds_single : HoldsAround t (parts ++ (part.Named holder at ∷ [])) newest within (add (Single call) f)
  holds_single =
      added_around newest (grown_around newest h (grows_calls extends bytes)) (part.Named holder at) (Single call) (ap (λ x. flat_part (flat.One x) 0 ∷ []) (sym keeps.is)) (λ place k. refl) held keeps.within

  pub holds_container : {place : Option ℕ} → place ≡ Some (length parts) → HoldsAround t (parts ++ (part.NamedContainer holder at 0 ∷ [])) place within (begun call f)
  holds_container {place} e =
      begun_around newest (grown_around newest h (grows_calls extends bytes)) (part.NamedContainer holder at 0) call place (ap (λ x. flat_part (flat.Holder x) 0) keeps.is) held e keeps.within
