-- From the JSON of what is left of a document to its layout.
use Rattle.std.specs.Prelude.{◌≡◌, ℕ, List, [], ◌++◌, Result, Ok, Err, refl}
use Rattle.std.proofs.Common.{ap, subst, ◌∙◌, arith, inl, inr}
use Rattle.sval_io.specs.Sinks.{Told, WritesAll}
use Rattle.sval_io.specs.Taken.{Taken, taken_told}
use Rattle.sval_io.specs.declared.sink.SinkError.{SinkError}
use Rattle.sval_io.specs.declared.sink.SinkError.TheVariants as sink
use Rattle.sval_io.proofs.Appending.{appends_nothing, steady_alone}
use Rattle.sval_pretty.specs.Layout.{pretty}
use Rattle.sval_filter.specs.Paths.{Path}
use Rattle.sval_filter.specs.declared.paths.Rule.{Rule}
use Rattle.sval_tool.specs.Conversions.{IsTextLeft, WritesParts, WritesLeft, WritesLeftJson}
use Rattle.sval_tool.specs.declared.convert.Target.TheVariants as target

module _ (rule : Rule) (paths : List Path) (input : List ℕ) (begun made : Taken) (empty : begun.bytes ≡ []) where
  -- the layout of the JSON that is due
  laid_due : (text : List ℕ) → IsTextLeft rule paths target.Json input text → IsTextLeft rule paths target.Pretty input (pretty text)
  laid_due text due = record { value = due.value; denotes = due.denotes; is = record { json = text; is = due.is; laid = refl } }

  -- the JSON that was made is what is due
  made_whole : (w : WritesLeftJson rule paths input (Ok tt) (taken_told begun) (taken_told made)) → made.bytes ≡ w.text
  made_whole w =
      let e : made.bytes ≡ begun.bytes ++ w.text = cc w.writes.appends.text in e ∙ ap (λ (bytes : List ℕ). bytes ++ w.text) empty

  laid_parts : (result : Result (Unit {0}) SinkError) (old new : Told) (text : List ℕ) → WritesAll result old text new → WritesParts result old text new
  laid_parts (Ok done) old new text w = w
  laid_parts (Err why) old new text w = inl w

  pub laid_out : (result : Result (Unit {0}) SinkError) (old new : Told) → WritesLeftJson rule paths input (Ok tt) (taken_told begun) (taken_told made) → WritesAll result old (pretty made.bytes) new
      → WritesLeft rule paths target.Pretty input result old new
  laid_out result old new w all = record {
    text = pretty w.text;
    due = laid_due w.text w.due;
    writes = laid_parts result old new (pretty w.text) (subst (λ (bytes : List ℕ). WritesAll result old (pretty bytes) new) (made_whole w) all);
  }

  -- memory was wanting for the JSON, and nothing was written of its layout
  is_want : (why : SinkError) (text : List ℕ) → WritesParts (Err why) (taken_told begun) text (taken_told made) → why ≡ sink.NoMemory
  is_want sink.NoMemory text w = refl
  is_want sink.Failed text (inl w) = absurd (omega (arith, w.cause))
  is_want sink.Failed text (inr p) = p.want

  pub unmade : (why : SinkError) (old : Told) → WritesLeftJson rule paths input (Err why) (taken_told begun) (taken_told made) → WritesLeft rule paths target.Pretty input (Err why) old old
  unmade why old w = record {
    text = pretty w.text;
    due = laid_due w.text w.due;
    writes = inr (record {
      want = is_want why w.text w.writes;
      front = record { count = 0; within = omega arith; appends = appends_nothing old };
      steady = steady_alone old;
    });
  }
