-- Values that are shown by the text that they print.
use Rattle.std.specs.Prelude.{◌≡◌, ℕ, List, [], ◌∷◌, ◌++◌, Bool, true, false, Option, None, Result, Ok, Err, IfSome}
use Rattle.sval_label.specs.Calls.{Call}
use Rattle.sval_core.specs.Law.{Standing, Law, Streams, Stops}
use Rattle.sval_core.specs.Names.{number_tag, tag_alone}
use Rattle.sval_core.specs.Values.{makes}
use Rattle.sval_label.specs.declared.error.Error.{Error}
use Rattle.sval.specs.Rendered.{PrintsSome}
use Rattle.sval.specs.declared.shown.DisplayError.{DisplayError}
use Rattle.sval.specs.declared.shown.DisplayError.TheVariants.{Format, Refused, NoMemory}

-- a part of a text
abbrev pub fragment_calls : List ℕ → List Call
fragment_calls text = Call.TextFragment false text ∷ []

-- a text whose size isn't given
abbrev pub shown_calls : List ℕ → List Call
shown_calls text = Call.TextBegin None ∷ Call.TextFragment false text ∷ Call.TextEnd ∷ []

-- a text that is a number
abbrev pub number_text_calls : List ℕ → List Call
number_text_calls text = Call.TaggedBegin (tag_alone number_tag) ∷ (shown_calls text ++ Call.TaggedEnd (tag_alone number_tag) ∷ [])

-- the text is what the value prints, where that is told
abbrev pub IsPrinted : Option (List ℕ) → List ℕ → Type 0
IsPrinted told text = IfSome told (λ printed. text ≡ printed)

-- some text that the value prints, of which this holds
pub record SomePrinted (told : Option (List ℕ)) (Holds : List ℕ → Type 0) : Type 0 where
  pub text : List ℕ
  pub is : IsPrinted told text
  pub holds : Holds text

-- why a value wasn't rendered: memory is wanting only for one that prints something
abbrev pub CantRender : (told : Option (List ℕ)) (unprintable : Bool) → DisplayError → Type 0
CantRender told unprintable Format = unprintable ≡ true
CantRender told unprintable Refused = ⊥
CantRender told unprintable NoMemory = PrintsSome told

-- the value is printed, and these calls of its text are made; before that the stream stays where it stands
abbrev pub Shows : {V : Type 0} → (told : Option (List ℕ)) (unprintable : Bool) (calls : List ℕ → List Call) → Law V → Result (Unit {0}) DisplayError → (old new : Standing V) → Type 0
Shows told unprintable calls law (Ok _) old new = SomePrinted told (λ text. Streams law old (makes (calls text)) new)
Shows told unprintable calls law (Err Format) old new = CantRender told unprintable Format × (new ≡ old)
Shows told unprintable calls law (Err Refused) old new = SomePrinted told (λ text. Stops law old (makes (calls text)) new)
Shows told unprintable calls law (Err NoMemory) old new = CantRender told unprintable NoMemory × (new ≡ old)

-- the answer of a stream, as an answer of what renders and then streams
abbrev pub of_stream : Result (Unit {0}) Error → Result (Unit {0}) DisplayError
of_stream (Ok done) = Ok done
of_stream (Err _) = Err Refused
