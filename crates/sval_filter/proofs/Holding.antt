-- What a buffer says of a key's call that it refuses, the text that a key's calls begin with, and that reading it stops only where there is one.
use Rattle.std.specs.Prelude.{◌≡◌, ℕ, ◌≤◌, Bool, true, false, not, List, [], ◌∷◌, ◌++◌, fold, Option, Some, None, is_some, Result, Ok, Err, refl}
use Rattle.std.proofs.Common.{arith, inl, inr, sym, ap, subst, ◌∙◌}
use Rattle.std.proofs.lemmas.List.{append_assoc, append-nil}
use Rattle.sval_label.specs.declared.error.NoMemory.{NoMemory}
use Rattle.sval_label.specs.declared.error.Error.{Error}
use Rattle.sval_label.specs.Calls.{Call, TagHint, TextBegin, TextFragment, TextEnd, BinaryFragment, BinaryEnd, EnumEnd, TaggedEnd, End, PartEnd}
use Rattle.sval_core.specs.Law.{Standing, Takes, HasCause, Rose, Refuses, Answers, Streams, StoppedIn, Stops, computed, one_more}
use Rattle.sval_core.specs.Values.{makes}
use Rattle.sval_core.proofs.Folds.{streams_folds}
use Rattle.sval_core.specs.Spells.{plain}
use Rattle.sval_buffer.specs.Forest.{Forest, CaptureAnswer, Becomes, Rejects, take, may_grow}
use Rattle.sval_buffer.specs.Capture.{Capture, forest_by, IsAccepted, IsCaptureCause, capture_law, capture_standing}
use Rattle.sval_buffer.specs.declared.error.ErrorKind.{ErrorKind}
use Rattle.sval_filter.specs.Filtering.{Holding, key_may_grow, fragments, key_text_of}
use Rattle.sval_filter.specs.Held.{is_end, HoldsCall}
use Rattle.sval_filter.proofs.Refusals.{least}
use Rattle.sval_filter.specs.SeenKeys.{KeyRead, nothing_read, key_read_on, text_by, with_fragment, Copies, read_law, read_standing}
use Rattle.sval_filter.specs.declared.key_text.Place.{Place}
use Rattle.sval_filter.specs.declared.key_text.Place.TheVariants.{Before, Inside, After, NoText}

-- ---- refusals of a buffer

-- what takes no memory is refused only where the forest rejects it
no_want : (f : Forest) (answer : CaptureAnswer) (why : ErrorKind) → IsCaptureCause false answer why → f ≡ forest_by answer f
no_want f (Becomes next) why c = let never = c.takes_memory in absurd (cc never)
no_want f (Rejects misfit) why c = refl

-- what the forest takes is refused only where it may take memory
wants : (grows : Bool) (answer : CaptureAnswer) (why : ErrorKind) → IsAccepted answer → IsCaptureCause grows answer why → grows ≡ true
wants grows (Becomes next) why a c = c.takes_memory
wants grows (Rejects misfit) why a c = absurd a

module _ (old new : Capture) where
  -- an end that a buffer refuses leaves what the forest makes of it
  pub end_stays : (call : Call) → true ≡ is_end call → Refuses capture_law (capture_standing old) (computed call) (capture_standing new)
      → new.forest ≡ forest_by (take old.forest (computed call)) old.forest
  unfolding take may_grow
  end_stays TextEnd e r = r.left.forest ∙ no_want old.forest (take old.forest TextEnd) r.left.why r.left.cause
  end_stays BinaryEnd e r = r.left.forest ∙ no_want old.forest (take old.forest BinaryEnd) r.left.why r.left.cause
  end_stays (EnumEnd name) e r = r.left.forest ∙ no_want old.forest (take old.forest (EnumEnd name)) r.left.why r.left.cause
  end_stays (TaggedEnd name) e r = r.left.forest ∙ no_want old.forest (take old.forest (TaggedEnd name)) r.left.why r.left.cause
  end_stays (End head) e r = r.left.forest ∙ no_want old.forest (take old.forest (End head)) r.left.why r.left.cause
  end_stays (PartEnd slot) e r = r.left.forest ∙ no_want old.forest (take old.forest (PartEnd slot)) r.left.why r.left.cause
  end_stays call e r = absurd (cc e)

  -- any other call is refused for want of memory
  pub call_wants : (call : Call) → false ≡ is_end call → Refuses capture_law (capture_standing old) (computed call) (capture_standing new)
      → (new.forest ≡ old.forest) × (key_may_grow Holding old.forest call ≡ true)
  unfolding take may_grow
  call_wants TextEnd e r = absurd (cc e)
  call_wants BinaryEnd e r = absurd (cc e)
  call_wants (EnumEnd name) e r = absurd (cc e)
  call_wants (TaggedEnd name) e r = absurd (cc e)
  call_wants (End head) e r = absurd (cc e)
  call_wants (PartEnd slot) e r = absurd (cc e)
  call_wants (TextFragment borrowed bytes) e r = (r.left.forest, refl)
  call_wants (BinaryFragment borrowed bytes) e r = (r.left.forest, refl)
  call_wants (TagHint tag) e r = (r.left.forest, wants (not old.forest.in_fragments) (take old.forest (TagHint tag)) r.left.why tt r.left.cause)
  call_wants call e r = (r.left.forest, refl)

-- what holding a call says, by what the buffer says of the call with computed fragments
module _ (old new : Capture) (call taken : Call) (is : taken ≡ computed call) where
  pub holds_taken : {done : Unit {0}} → Takes capture_law (capture_standing old) taken (capture_standing new) → HoldsCall call old.forest (Ok done) new.forest
  holds_taken t = ap (λ (capture : Capture). capture.forest) t.view ∙ ap (λ c. forest_by (take old.forest c) old.forest) is

  pub holds_end : {done : Unit {0}} → true ≡ is_end call → Refuses capture_law (capture_standing old) taken (capture_standing new) → HoldsCall call old.forest (Ok done) new.forest
  holds_end e r = end_stays old new call e (subst (λ c. Refuses capture_law (capture_standing old) c (capture_standing new)) is r)

  pub holds_none : {want : NoMemory} → false ≡ is_end call → Refuses capture_law (capture_standing old) taken (capture_standing new) → HoldsCall call old.forest (Err want) new.forest
  holds_none e r = call_wants old new call e (subst (λ c. Refuses capture_law (capture_standing old) c (capture_standing new)) is r)

-- ---- the text that calls begin with

-- the text after more calls
abbrev label_after : Place → List ℕ → List Call → Option (List ℕ)
label_after place text calls = let key = fold key_read_on (record { place = place; text = text }) calls in text_by key.place key.text

-- behind a text nothing counts
behind : (text : List ℕ) (calls : List Call) → label_after After text calls ≡ Some text
behind text [] = refl
behind text (TagHint tag ∷ calls) = behind text calls
behind text (TextBegin size ∷ calls) = behind text calls
behind text (TextFragment borrowed bytes ∷ calls) = behind text calls
behind text (call ∷ calls) = behind text calls

-- nor where there is none
nowhere : (text : List ℕ) (calls : List Call) → label_after NoText text calls ≡ None
nowhere text [] = refl
nowhere text (TagHint tag ∷ calls) = nowhere text calls
nowhere text (TextBegin size ∷ calls) = nowhere text calls
nowhere text (TextFragment borrowed bytes ∷ calls) = nowhere text calls
nowhere text (call ∷ calls) = nowhere text calls

within : (text : List ℕ) (calls : List Call) → label_after Inside text calls ≡ Some (text ++ fragments (plain calls))
within text [] = ap Some (sym (append-nil text))
within text (TagHint tag ∷ calls) = within text calls
within text (TextFragment borrowed bytes ∷ calls) = within (text ++ bytes) calls ∙ ap Some (append_assoc text bytes (fragments (plain calls)))
within text (TextBegin size ∷ calls) = behind text calls ∙ ap Some (sym (append-nil text))
within text (call ∷ calls) = behind text calls ∙ ap Some (sym (append-nil text))

from_start : (calls : List Call) → label_after Before [] calls ≡ key_text_of (plain calls)
from_start [] = refl
from_start (TagHint tag ∷ calls) = from_start calls
from_start (TextBegin size ∷ calls) = within [] calls
from_start (TextFragment borrowed bytes ∷ calls) = nowhere [] calls
from_start (call ∷ calls) = nowhere [] calls

-- what was read of calls from the start is their text
pub text_read : (calls : List Call) (old new : Standing KeyRead) → old.view ≡ nothing_read → Streams read_law old (makes calls) new
    → text_by new.view.place new.view.text ≡ key_text_of (plain calls)
text_read calls old new start s =
    ap (λ (key : KeyRead). text_by key.place key.text) (streams_folds read_law s ∙ ap (λ (key : KeyRead). fold key_read_on key calls) start) ∙ from_start calls

-- the same from where nothing was read
pub label_read : (calls : List Call) (place : Place) (text : List ℕ) (wants : ℕ) (new : Standing KeyRead) → place ≡ Before → text ≡ []
    → Streams read_law (read_standing (record { place = place; text = text }) wants) (makes calls) new → text_by new.view.place new.view.text ≡ key_text_of (plain calls)
label_read calls place text wants new p t s =
    text_read calls (read_standing (record { place = place; text = text }) wants) new
    (ap (λ (x : Place). let key : KeyRead = record { place = x; text = text } in key) p ∙ ap (λ (x : List ℕ). let key : KeyRead = record { place = Before; text = x } in key) t) s

-- calls of which one was refused have a text
has_text : (old new : Standing KeyRead) (place : Place) (text : List ℕ) (calls : List Call)
    → StoppedIn read_law old new (record { place = place; text = text }) calls false → is_some (label_after place text calls) ≡ true
has_text old new place text [] s = absurd (cc (s.0))
has_text old new place text (call ∷ calls) (inl s) =
    ap (λ (p : Place). is_some (label_after p text (call ∷ calls))) s.1 ∙ ap is_some (within text (call ∷ calls))
has_text old new place text (call ∷ calls) (inr s) =
    let key : KeyRead = key_read_on (record { place = place; text = text }) call in has_text old new key.place key.text calls s.1

-- the same of calls from where nothing was read
pub label_wanted : (calls : List Call) (place : Place) (text : List ℕ) (wants : ℕ) (new : Standing KeyRead) → place ≡ Before → text ≡ []
    → Stops read_law (read_standing (record { place = place; text = text }) wants) (makes calls) new → is_some (key_text_of (plain calls)) ≡ true
label_wanted calls place text wants new p t s =
    ap is_some (sym (ap (λ (x : Place). label_after x text calls) p ∙ ap (λ (x : List ℕ). label_after Before x calls) t ∙ from_start calls))
    ∙ has_text (read_standing (record { place = place; text = text }) wants) new place text calls s.stopped

-- calls of which one was refused wanted memory
never_stopped : (calls : List Call) (key : KeyRead) (old new : Standing KeyRead) → old.faults ≡ 0 → new.faults ≡ 0 → old.wants ≡ 0 → new.wants ≡ 0
    → StoppedIn read_law old new key calls false → ⊥
never_stopped [] key old new f g v w s = absurd (cc s.0)
never_stopped (call ∷ calls) key old new f g v w (inl s) = by_cause s.0
  where
    never : (before now : ℕ) → before ≡ 0 → now ≡ 0 → Rose before now → ⊥
    never before now e still up = let first : one_more 0 ≤ now = subst (λ n. one_more n ≤ now) e up in omega (arith, first, still)

    by_cause : HasCause read_law key call old new → ⊥
    by_cause (inl taken) = taken tt
    by_cause (inr (inl rose)) = never old.faults new.faults f g rose
    by_cause (inr (inr rose)) = never old.wants new.wants v w rose
never_stopped (call ∷ calls) key old new f g v w (inr s) = never_stopped calls (key_read_on key call) old new f g v w s.1

pub want_is_kept : (calls : List Call) (key : KeyRead) (wants : ℕ) (new : Standing KeyRead) → wants ≡ 0 → new.faults ≡ 0 → new.wants ≡ 0
    → Stops read_law (read_standing key wants) (makes calls) new → ⊥
want_is_kept calls key wants new v g w s = never_stopped calls key (read_standing key wants) new refl g v w s.stopped

-- what is refused where a fragment leads inside the text is refused inside it
was_inside : (place : Place) (text bytes : List ℕ) → (with_fragment place text bytes).place ≡ Inside → place ≡ Inside
was_inside Inside text bytes e = refl
was_inside Before text bytes e = absurd (cc e)
was_inside After text bytes e = absurd (cc e)
was_inside NoText text bytes e = absurd (cc e)

-- a fragment that was copied was read, and one that wasn't was refused
pub fragment_read : (old new : KeyRead) (wants now : ℕ) (borrowed : Bool) (bytes : List ℕ) (call : Call) (result : Result (Unit {0}) Error) → call ≡ TextFragment borrowed bytes
    → Copies (with_fragment old.place old.text bytes) wants result new now → wants ≤ now → Answers read_law result (read_standing old wants) call (read_standing new now)
fragment_read old new wants now borrowed bytes call (Ok done) is c up =
    record { accepted = tt; view = c.0 ∙ ap (λ (c : Call). key_read_on old c) (sym is); faults = refl; wants = c.1 }
fragment_read old new wants now borrowed bytes call (Err refusal) is c up =
    record {
      cause = inr (inr c.1);
      left = was_inside old.place old.text bytes c.0;
      faults = least 0;
      wants = up;
    }
