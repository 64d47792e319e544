-- What a sink over a buffer tells, where its writer tells what it holds always, or never.
use Rattle.std.specs.Prelude.{◌≡◌, ℕ, Bool, List, [], Option, Some, None, refl}
use Rattle.std.proofs.Common.{◌∙◌, ap, sym}
use Rattle.std.specs.Option.{is_some}
use Rattle.std.specs.Io.KnownBytes.{Keeps, append_known}
use Rattle.std.specs.Io.Buffered.{writer_buffer, writer_contents, writer_inner}
use Rattle.std.specs.declared.io.buffered.BufWriter.{BufWriter}
use Rattle.sval_io.specs.Known.{told_behind}
use Rattle.sval_io.specs.Sinks.{Told, IsSteady, Declines}
use Rattle.sval_io.specs.declared.sink.SinkError.{SinkError}
use Rattle.sval_io.proofs.Appending.{appended-nothing, counted_since, counts_since}

kept : (old new : Option (List ℕ)) → is_some new ≡ is_some old → Keeps old new → new ≡ old
kept None None told keeps = refl
kept None (Some held) told keeps = absurd (cc told)
kept (Some before) None told keeps = absurd keeps
kept (Some before) (Some held) told keeps = ap Some keeps

-- an empty buffer adds nothing
pub nothing_behind : (held : Option (List ℕ)) → append_known held [] ≡ held
nothing_behind held = appended-nothing held

-- what stands in the writer and its buffer stays
pub keeps_behind : {W A : Type 0} (contents : W → Option (List ℕ)) (tells : Bool) → ((writer : W) → is_some (contents writer) ≡ tells) → (old new : BufWriter W A)
    → Keeps (writer_contents contents old) (writer_contents contents new) → writer_contents contents new ≡ writer_contents contents old
keeps_behind {W} {A} contents tells law old new keeps = kept (writer_contents contents old) (writer_contents contents new) (told new ∙ sym (told old)) keeps
  where
    told : (writer : BufWriter W A) → is_some (writer_contents contents writer) ≡ tells
    told writer = told_behind (contents (writer_inner writer)) (writer_buffer writer) (law (writer_inner writer))

-- a call before the one that was declined left the text as it was
pub declines_since : {mid new : Told} {why : SinkError} (old : Told) → mid.text ≡ old.text → mid.room ≡ old.room → IsSteady old mid → Declines why mid new → Declines why old new
declines_since {mid} {new} {why} old text room steady declined = record {
  text = declined.text ∙ text;
  room = declined.room ∙ room;
  cause = counted_since new why steady declined.cause;
  counts = counts_since steady declined.counts;
}
