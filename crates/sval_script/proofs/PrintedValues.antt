-- What is known of a sink after a printer took some calls of a value.
use Rattle.std.specs.Prelude.{◌≡◌, Bool, true, false, List, [], ◌∷◌, ◌++◌, Option, Some, None, Ok, Err, refl}
use Rattle.std.specs.Option.{unwrap_or}
use Rattle.std.proofs.Common.{sym, ap, ◌∙◌, subst, inl, inr, append_assoc, append-nil}
use Rattle.sval_label.specs.Calls.{Call}
use Rattle.sval_core.specs.Law.{Standing, Emission, Ran, Streams, StoppedIn, Stops}
use Rattle.sval_io.specs.declared.sink.SinkError.{SinkError}
use Rattle.sval_io.specs.declared.sink.SinkError.TheVariants.{Failed, NoMemory}
use Rattle.sval_io.specs.Sinks.{Told, WritesWhole, WritesFront}
use Rattle.sval_io.proofs.Appending.{all_is_front, steady_counts, writes_nothing, writes_both, stops_after}
use Rattle.sval_script.specs.declared.print_error.PrintError.{PrintError}
use Rattle.sval_script.specs.declared.print_error.PrintError.TheVariants as error
use Rattle.sval_script.specs.Printed.{printed}
use Rattle.sval_script.specs.Printing.{Printing, HasKnownTags, IsCutBy, MayPrint, whole_line, with_printed, printer_law}
use Rattle.sval_script.specs.PrintedValues.{HaveKnownTags, ArePrinted, BeginsKnown, EndsUnknown, PrintsValue}
use Rattle.sval_script.proofs.CanonicalScripts.{printed-append}
use Rattle.sval_script.proofs.Printers.{stands}

-- ---- from view to view

first_line : (printing : Printing) (call : Call) → MayPrint printing call → WritesWhole printing.told (whole_line call) (with_printed (whole_line call) printing).told
first_line printing call may = record { appends = record { fits = may.fits; text = refl; room = refl }; steady = record { faults = refl; wants = refl } }

-- these calls were printed
pub record HasPrinted (calls : List Call) (old new : Printing) : Type 0 where
  pub known : HaveKnownTags calls
  pub whole : WritesWhole old.told (printed calls) new.told
  pub why : new.why ≡ old.why

printed_none : (printing : Printing) → HasPrinted [] printing printing
unfolding printed
printed_none printing = record { known = tt; whole = writes_nothing printing.told; why = refl }

printed_then : {calls : List Call} {old new : Printing} (call : Call) → MayPrint old call → HasPrinted calls (with_printed (whole_line call) old) new → HasPrinted (call ∷ calls) old new
unfolding printed
printed_then {calls} {old} call may rest = record {
  known = (may.known, rest.known);
  whole = writes_both (whole_line call) (printed calls) (first_line old call may) rest.whole;
  why = rest.why;
}

ran_prints : (calls : List Call) (old new : Printing) → Ran printer_law old calls new → HasPrinted calls old new
ran_prints [] old new is = subst (HasPrinted [] old) (sym is) (printed_none old)
ran_prints (call ∷ calls) old new (may, ran) = printed_then call may (ran_prints calls (with_printed (whole_line call) old) new ran)

-- the calls before this one were printed, and it was refused
pub record IsStoppedAt (calls : List Call) (old new : Printing) : Type 0 where
  pub front : List Call
  pub call : Call
  pub later : List Call
  pub are : calls ≡ front ++ (call ∷ later)
  pub mid : Printing
  pub has_printed : HasPrinted front old mid
  pub cut : IsCutBy new.why call mid.told new.told

-- all calls were printed and the value refused, or the printer refused one of them
data Ending (old : Printing) (e : Emission) (new : Printing) : Type 0 where
  itself : e.refuses ≡ true → HasPrinted e.calls old new → Ending old e new
  stopped : IsStoppedAt e.calls old new → Ending old e new

ending_of : (old new : Standing Printing) (calls : List Call) (refuses : Bool) (view : Printing) → StoppedIn printer_law old new view calls refuses
    → Ending view (record { calls = calls; refuses = refuses }) new.view
ending_of old new [] refuses view (r, is) = itself r (ran_prints [] view new.view is)
ending_of old new (call ∷ calls) refuses view (inl (cause, cut)) =
    stopped (record { front = []; call = call; later = calls; are = refl; mid = view; has_printed = printed_none view; cut = cut })
ending_of old new (call ∷ calls) refuses view (inr (may, rest)) = later (ending_of old new calls refuses (with_printed (whole_line call) view) rest)
  where
    later : Ending (with_printed (whole_line call) view) (record { calls = calls; refuses = refuses }) new.view → Ending view (record { calls = call ∷ calls; refuses = refuses }) new.view
    later (itself r p) = itself r (printed_then call may p)
    later (stopped s) = stopped (record {
      front = call ∷ s.front;
      call = s.call;
      later = s.later;
      are = ap (λ calls. call ∷ calls) s.are;
      mid = s.mid;
      has_printed = printed_then call may s.has_printed;
      cut = s.cut;
    })

-- ---- what the sink tells

told_whole : {old new : Told} {calls : List Call} (why after : Option PrintError) → HasPrinted calls (stands old why).view (stands new after).view → ArePrinted calls old new
told_whole why after p = record {
  known = p.known;
  appends = record { fits = p.whole.appends.fits; text = p.whole.appends.text; room = p.whole.appends.room };
  steady = record { faults = p.whole.steady.faults; wants = p.whole.steady.wants };
}

all_known : (calls : List Call) → HaveKnownTags calls → BeginsKnown calls calls
all_known calls known = record { later = []; are = sym (append-nil calls); known = known }

-- a call with an unknown tag is none of those whose tags are known
known_at : (front : List Call) (call : Call) (later : List Call) → HaveKnownTags (front ++ (call ∷ later)) → HasKnownTags call
known_at [] call later known = known.0
known_at (first ∷ front) call later known = known_at front call later known.1

known_more : (front : List Call) (call : Call) → HaveKnownTags front → HasKnownTags call → HaveKnownTags (front ++ (call ∷ []))
known_more [] call known here = (here, tt)
known_more (first ∷ front) call known here = (known.0, known_more front call known.1 here)

printed_one : (call : Call) → printed (call ∷ []) ≡ whole_line call
unfolding printed
printed_one call = append-nil (whole_line call)

-- a first part of the line behind printed calls
cut_front : {old mid new : Told} {why : SinkError} (front : List Call) (call : Call) → WritesWhole old (printed front) mid → WritesFront why mid (whole_line call) new
    → WritesFront why old (printed (front ++ (call ∷ []))) new
cut_front front call whole cut =
    let all : printed (front ++ (call ∷ [])) ≡ printed front ++ (whole_line call ++ []) =
    printed-append front (call ∷ []) ∙ ap (λ bytes. printed front ++ bytes) (printed_one call ∙ sym (append-nil (whole_line call))) in
    stops_after (printed front) (whole_line call) [] whole all cut

begins_with : {calls : List Call} (front : List Call) (call : Call) (later : List Call) → calls ≡ front ++ (call ∷ later) → HaveKnownTags front → HasKnownTags call
    → BeginsKnown calls (front ++ (call ∷ []))
begins_with front call later are known here = record {
  later = later;
  are = are ∙ sym (append_assoc front (call ∷ []) later);
  known = known_more front call known here;
}

module _ (e : Emission) (old new : Told) where
  pub prints_all : e.refuses ≡ false → ArePrinted e.calls old new → PrintsValue e (Ok tt) old new
  prints_all willing p = record {
    all_printed = p;
    willing = willing;
    refused_comes = λ itself quiet. let r = itself.refuses in cc;
    refused = λ is. cc is;
    unknown_comes = λ unknown quiet. absurd (unknown p.known);
    unknown = λ is. cc is;
    write = λ is. cc is;
    write_room = λ is. cc is;
    write_short = λ is. cc is;
    no_memory = λ is. cc is;
    no_memory_short = λ is. cc is;
    counts = steady_counts p.steady;
    prefix = tt;
  }

  ends_refused : e.refuses ≡ true → ArePrinted e.calls old new → PrintsValue e (Err error.Refused) old new
  ends_refused r p = record {
    all_printed = tt;
    willing = tt;
    refused_comes = λ itself quiet. refl;
    refused = λ is. record { refuses = r; all_printed = p };
    unknown_comes = λ unknown quiet. absurd (unknown p.known);
    unknown = λ is. cc is;
    write = λ is. cc is;
    write_room = λ is. cc is;
    write_short = λ is. cc is;
    no_memory = λ is. cc is;
    no_memory_short = λ is. cc is;
    counts = steady_counts p.steady;
    prefix = record { front = e.calls; begins = all_known e.calls p.known; appends = all_is_front (printed e.calls) p.appends };
  }

  ends_unknown : EndsUnknown e.calls old new → PrintsValue e (Err error.UnknownTag) old new
  ends_unknown u = record {
    all_printed = tt;
    willing = tt;
    refused_comes = λ itself quiet. absurd (u.unknown (known_at u.front u.call u.later (subst HaveKnownTags u.are itself.known)));
    refused = λ is. cc is;
    unknown_comes = λ unknown quiet. refl;
    unknown = λ is. u;
    write = λ is. cc is;
    write_room = λ is. cc is;
    write_short = λ is. cc is;
    no_memory = λ is. cc is;
    no_memory_short = λ is. cc is;
    counts = steady_counts u.printed_before.steady;
    prefix = record {
      front = u.front;
      begins = record { later = u.call ∷ u.later; are = u.are; known = u.printed_before.known };
      appends = all_is_front (printed u.front) u.printed_before.appends;
    };
  }

  ends_failed : (front : List Call) → BeginsKnown e.calls front → WritesFront Failed old (printed front) new → PrintsValue e (Err error.Write) old new
  ends_failed front begins w = record {
    all_printed = tt;
    willing = tt;
    refused_comes = λ itself quiet. absurd (quiet.faults w.cause);
    refused = λ is. cc is;
    unknown_comes = λ unknown quiet. absurd (quiet.faults w.cause);
    unknown = λ is. cc is;
    write = λ is. w.cause;
    write_room = λ is. record { front = front; begins = begins; lacks = w.full refl };
    write_short = λ is. record { front = front; begins = begins; appends = w.part };
    no_memory = λ is. cc is;
    no_memory_short = λ is. cc is;
    counts = w.counts;
    prefix = record { front = front; begins = begins; appends = w.front };
  }

  ends_without_memory : (front : List Call) → BeginsKnown e.calls front → WritesFront NoMemory old (printed front) new → PrintsValue e (Err error.NoMemory) old new
  ends_without_memory front begins w = record {
    all_printed = tt;
    willing = tt;
    refused_comes = λ itself quiet. absurd (quiet.wants w.cause);
    refused = λ is. cc is;
    unknown_comes = λ unknown quiet. absurd (quiet.wants w.cause);
    unknown = λ is. cc is;
    write = λ is. cc is;
    write_room = λ is. cc is;
    write_short = λ is. cc is;
    no_memory = λ is. w.cause;
    no_memory_short = λ is. record { front = front; begins = begins; appends = w.part };
    counts = w.counts;
    prefix = record { front = front; begins = begins; appends = w.front };
  }

  stopped_at : (before : Option PrintError) (after : Option PrintError) → IsStoppedAt e.calls (stands old before).view (stands new after).view → PrintsValue e (Err (unwrap_or after error.Refused)) old new
  stopped_at before None s = absurd s.cut
  stopped_at before (Some error.Refused) s = absurd s.cut
  stopped_at before (Some error.UnknownTag) s =
      let p = s.has_printed in
      let text : new.text ≡ s.mid.told.text = ap (λ told. told.text) s.cut.1 in
      let room : new.room ≡ s.mid.told.room = ap (λ told. told.room) s.cut.1 in
      let faults : new.faults ≡ s.mid.told.faults = ap (λ told. told.faults) s.cut.1 in
      let wants : new.wants ≡ s.mid.told.wants = ap (λ told. told.wants) s.cut.1 in
      ends_unknown (record {
        front = s.front;
        call = s.call;
        later = s.later;
        are = s.are;
        unknown = s.cut.0;
        printed_before = record {
          known = p.known;
          appends = record { fits = p.whole.appends.fits; text = text ∙ p.whole.appends.text; room = room ∙ p.whole.appends.room };
          steady = record { faults = faults ∙ p.whole.steady.faults; wants = wants ∙ p.whole.steady.wants };
        };
      })
  stopped_at before (Some error.Write) s =
      let w = cut_front s.front s.call s.has_printed.whole s.cut.1 in
      ends_failed (s.front ++ (s.call ∷ [])) (begins_with s.front s.call s.later s.are s.has_printed.known s.cut.0) (record {
        front = record { count = w.front.count; within = w.front.within; appends = record { fits = w.front.appends.fits; text = w.front.appends.text; room = w.front.appends.room } };
        part = record { count = w.part.count; within = w.part.within; appends = record { fits = w.part.appends.fits; text = w.part.appends.text; room = w.part.appends.room } };
        cause = w.cause;
        full = w.full;
        counts = record { faults = w.counts.faults; wants = w.counts.wants };
      })
  stopped_at before (Some error.NoMemory) s =
      let w = cut_front s.front s.call s.has_printed.whole s.cut.1 in
      ends_without_memory (s.front ++ (s.call ∷ [])) (begins_with s.front s.call s.later s.are s.has_printed.known s.cut.0) (record {
        front = record { count = w.front.count; within = w.front.within; appends = record { fits = w.front.appends.fits; text = w.front.appends.text; room = w.front.appends.room } };
        part = record { count = w.part.count; within = w.part.within; appends = record { fits = w.part.appends.fits; text = w.part.appends.text; room = w.part.appends.room } };
        cause = w.cause;
        full = w.full;
        counts = record { faults = w.counts.faults; wants = w.counts.wants };
      })

  pub printed_streams : (before after : Option PrintError) → Streams printer_law (stands old before) e (stands new after) → PrintsValue e (Ok tt) old new
  printed_streams before after s = prints_all s.willing (told_whole before after (ran_prints e.calls (stands old before).view (stands new after).view s.ran))

  pub printed_stops : (after : Option PrintError) → Stops printer_law (stands old None) e (stands new after) → PrintsValue e (Err (unwrap_or after error.Refused)) old new
  printed_stops after s = by_ending (ending_of (stands old None) (stands new after) e.calls e.refuses (stands old None).view s.stopped)
    where
      by_ending : Ending (stands old None).view e (stands new after).view → PrintsValue e (Err (unwrap_or after error.Refused)) old new
      by_ending (itself r p) =
          let why : unwrap_or after error.Refused ≡ error.Refused = ap (λ why. unwrap_or why error.Refused) p.why in
          rw why (ends_refused r (told_whole None after p))
      by_ending (stopped s) = stopped_at None after s
