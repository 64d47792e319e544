-- The parts of the program with owned texts and binaries tell the owned forest.
use Rattle.std.specs.Prelude.{◌≡◌, ℕ, Bool, List, [], ◌∷◌, map, refl, zero, suc}
use Rattle.std.proofs.Common.{sym, ap, ◌∙◌}
use Rattle.sval_label.specs.Calls.{Call}
use Rattle.sval_label.specs.Grouped.{int_call}
use Rattle.sval_label.specs.declared.grouped.Int.{Int}
use Rattle.sval_label.specs.declared.grouped.Int.TheVariants as int
use Rattle.sval_core.specs.Law.{computed}
use Rattle.sval_buffer.specs.Forest.{Forest}
use Rattle.sval_buffer.specs.Flat as flat
use Rattle.sval_buffer.specs.Flat.{FlatPart}
use Rattle.sval_buffer.specs.Pushes.{HeldBytes}
use Rattle.sval_buffer.specs.SeenInts.{wide_int}
use Rattle.sval_buffer.specs.SeenNames.{call_at}
use Rattle.sval_buffer.specs.SeenStores.{SeenStores}
use Rattle.sval_buffer.specs.declared.part.Single.{Single}
use Rattle.sval_buffer.specs.declared.part.Single.TheVariants as single
use Rattle.sval_buffer.specs.declared.part.Begin.{Begin}
use Rattle.sval_buffer.specs.declared.part.Begin.TheVariants as begin
use Rattle.sval_buffer.specs.declared.part.Medium.{Medium}
use Rattle.sval_buffer.specs.declared.part.Medium.TheVariants as media
use Rattle.sval_buffer.specs.declared.part.Part.{Part}
use Rattle.sval_buffer.specs.declared.part.Part.TheVariants as part
use Rattle.sval_buffer.specs.SeenParts.{SeenPart, flat_part_of, holder, single_call, begin_call, of_medium, borrowed_bytes, copied_bytes, flat_kind, seen_parts, owned_part, AllKept}
use Rattle.sval_buffer.specs.Owned.{owned_kind, owned}
use Rattle.sval_buffer.proofs.Steps.{is_told, tells_it, within_it}
use Rattle.sval_buffer.proofs.KeptParts.{Holds}
use Rattle.sval_buffer.proofs.OwnedForest.{owned_flat, owned_flat_kind, flat_owned, places_owned, holders_owned}

-- ---- a call that is no fragment stays

int_stays : (n : Int) → int_call n ≡ computed (int_call n)
int_stays (int.U8 n) = refl
int_stays (int.U16 n) = refl
int_stays (int.U32 n) = refl
int_stays (int.U64 n) = refl
int_stays (int.U128 n) = refl
int_stays (int.I8 n) = refl
int_stays (int.I16 n) = refl
int_stays (int.I32 n) = refl
int_stays (int.I64 n) = refl
int_stays (int.I128 n) = refl

single_stays : (s : Single) → single_call s ≡ computed (single_call s)
single_stays single.Null = refl
single_stays (single.Bool b) = refl
single_stays (single.U8 n) = refl
single_stays (single.U16 n) = refl
single_stays (single.U32 n) = refl
single_stays (single.U64 n) = refl
single_stays (single.I8 n) = refl
single_stays (single.I16 n) = refl
single_stays (single.I32 n) = refl
single_stays (single.I64 n) = refl

begin_stays : (b : Begin) (size : ℕ) → begin_call b size ≡ computed (begin_call b size)
begin_stays begin.Seq size = refl
begin_stays begin.SizedSeq size = refl
begin_stays begin.Map size = refl
begin_stays begin.SizedMap size = refl
begin_stays begin.Item size = refl
begin_stays begin.Key size = refl
begin_stays begin.Value size = refl

call_computed : (calls : List Call) (at : ℕ) → call_at (map computed calls) at ≡ computed (call_at calls at)
call_computed [] at = refl
call_computed (call ∷ calls) zero = refl
call_computed (call ∷ calls) (suc at) = call_computed calls at

held_owned : (medium : Medium) (held : HeldBytes) → owned_kind (of_medium medium held) ≡ owned_flat_kind (of_medium medium held)
held_owned media.Text held = refl
held_owned media.Binary held = refl

module _ (s : SeenStores) (names : map computed s.calls ≡ s.calls) where
  kind_owned : (p : Part) → owned_kind (flat_kind s p) ≡ owned_flat_kind (flat_kind s p)
  kind_owned (part.Single holder single) = ap flat.One (single_stays single)
  kind_owned (part.Wide signed holder number) = ap flat.One (int_stays (wide_int signed number))
  kind_owned (part.Named holder at) = ap flat.One (ap (λ cs. call_at cs at) (sym names) ∙ call_computed s.calls at)
  kind_owned (part.Borrowed medium holder bytes) = held_owned medium (borrowed_bytes bytes.now)
  kind_owned (part.Stored medium holder start end) = held_owned medium (copied_bytes _)
  kind_owned (part.Container b holder size holds) = ap flat.Holder (begin_stays b size)
  kind_owned (part.NamedContainer holder at holds) = ap flat.Holder (ap (λ cs. call_at cs at) (sym names) ∙ call_computed s.calls at)

  stored_owned : (parts : List Part) → map flat_part_of (map owned_part (seen_parts s parts)) ≡ map owned_flat (map flat_part_of (seen_parts s parts))
  stored_owned [] = refl
  stored_owned (p ∷ parts) = rw (kind_owned p, stored_owned parts) refl

held_again : (seen : List SeenPart) → map holder (map owned_part seen) ≡ map holder seen
held_again [] = refl
held_again (p ∷ seen) = ap (λ hs. p.holder ∷ hs) (held_again seen)

-- copies of all parts, with owned texts and binaries
pub holds_owned : {s t : SeenStores} {parts copies : List Part} {places : List ℕ} {within : Bool} {f : Forest} → map computed s.calls ≡ s.calls → Holds s parts places within f
    → seen_parts t copies ≡ map owned_part (seen_parts s parts) → AllKept t copies → Holds t copies places within (owned f)
holds_owned {s} {t} {parts} {copies} {places} {within} {f} names h same kept =
    let told = tells_it h.is in
    record {
      is = is_told (seen_parts t copies) places within (owned f)
          (record {
            parts_are = ap (map flat_part_of) same ∙ stored_owned s names parts ∙ ap (map owned_flat) told.parts_are ∙ sym (flat_owned f.nodes f.spine);
            places_are = told.places_are ∙ sym (places_owned f.nodes f.spine);
            holders_are = ap (map holder) same ∙ held_again (seen_parts s parts) ∙ told.holders_are ∙ sym (holders_owned f);
          })
          (within_it h.is);
      kept = kept;
    }
