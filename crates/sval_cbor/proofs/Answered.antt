-- What streaming to CBOR answers, by what the check, the capture and the writer answer.
use Rattle.std.specs.Prelude.{◌≡◌, ◌⊎◌, ℕ, true, false, List, Result, Ok, Err, IsOk, refl}
use Rattle.std.proofs.Common.{sym, ap, ◌∙◌, subst, inl, inr, arith}
use Rattle.sval_core.specs.Law.{Emission, Rose}
use Rattle.sval_core.specs.Spells.{Spells}
use Rattle.sval_core.specs.Trees.{Tree}
use Rattle.sval_io.specs.Sinks.{Told, NoCountFell, Appends, AppendsFront, AppendsPart, LacksRoom, WritesWhole, WritesFront}
use Rattle.sval_io.specs.Counted.{counted_told}
use Rattle.sval_io.specs.declared.sink.SinkError.TheVariants as sink
use Rattle.sval_io.proofs.Appending.{appends_nothing, steady_alone, steady_counts}
use Rattle.sval_check.specs.Checks.{CheckAnswer, IsOneValue, OnlyRefuses}
use Rattle.sval_check.specs.Checks as checks
use Rattle.sval_check.specs.declared.error.CheckError.{CheckError}
use Rattle.sval_check.specs.declared.error.CheckError.TheVariants as check
use Rattle.sval_json.specs.Json.{Json}
use Rattle.sval_cbor.specs.declared.error.CborError.{CborError}
use Rattle.sval_cbor.specs.declared.error.CborError.TheVariants as error
use Rattle.sval_cbor.specs.declared.error.Stop.{Stop}
use Rattle.sval_cbor.specs.declared.error.Stop.TheVariants as stop
use Rattle.sval_cbor.specs.declared.style.Style.{Style}
use Rattle.sval_cbor.specs.declared.style.TheConstants.Style.{DEFAULT}
use Rattle.sval_cbor.specs.Packs.{PackRefusal, BadKey, BadNumber, RawJson, NotInteger, map_packed, pack_as}
use Rattle.sval_cbor.specs.Cbor.{cbor_as}
use Rattle.sval_cbor.proofs.Styles.{packs_alike, refused_alike}
use Rattle.sval_cbor.specs.Streamed.{CborAnswer, refusal_error, check_error, stop_error, WroteAll, IsHalted, AnswersBytes, AnswersDue, IsNoTree, IsChecked, IsRefusedAs, HasCbor, IsCborDue, WritesCborTree, TakesMemory, IsCauseOfValue, StreamsCborAs}

-- ---- the writer

-- what was written was to be written
pub is_due : {due : Result (List ℕ) PackRefusal} {old new : Told} → WroteAll due old new → IsOk due
is_due w = subst IsOk (sym w.are) refl

-- a sink that counts never declines
never_counted : Rose 0 0 → ⊥
never_counted rose = omega (arith, rose)

pub count_refused : (why : Stop) (due : Result (List ℕ) PackRefusal) (told : Told) {result : CborAnswer} → IsHalted why due (counted_told 0) (counted_told 0) → result ≡ Err (stop_error why) → AnswersDue result told due told
count_refused (stop.Step why) due told {result} halted is = subst (λ due. AnswersDue result told due told) (sym halted) (is, refl)
count_refused (stop.Sink sink.Failed) due told halted is = absurd (never_counted halted.cause)
count_refused (stop.Sink sink.NoMemory) due told halted is = absurd (never_counted halted.cause)

-- what was written, where no step refuses
pub all_answered : {due : Result (List ℕ) PackRefusal} {old new : Told} → WroteAll due old new → AnswersDue (Ok tt) old due new
all_answered {old = old} {new = new} w = subst (λ due. AnswersDue (Ok tt) old due new) (sym w.are) w.whole

pub stop_answered : (why : Stop) (due : Result (List ℕ) PackRefusal) (old new : Told) → IsOk due → IsHalted why due old new → AnswersDue (Err (stop_error why)) old due new
stop_answered (stop.Step why) (Ok bytes) old new ok halted = cc halted
stop_answered (stop.Step why) (Err refusal) old new ok halted = cc ok
stop_answered (stop.Sink sink.Failed) (Ok bytes) old new ok halted = halted.front bytes refl
stop_answered (stop.Sink sink.NoMemory) (Ok bytes) old new ok halted = halted.front bytes refl
stop_answered (stop.Sink why) (Err refusal) old new ok halted = cc ok

pub stop_leaves : (why : Stop) (due : Result (List ℕ) PackRefusal) (old new : Told) → IsOk due → IsHalted why due old new → IsCauseOfValue (Err (stop_error why)) → ⊥
stop_leaves (stop.Step why) (Ok bytes) old new ok halted own = cc halted
stop_leaves (stop.Step why) (Err refusal) old new ok halted own = cc ok
stop_leaves (stop.Sink sink.Failed) due old new ok halted own = own
stop_leaves (stop.Sink sink.NoMemory) due old new ok halted own = own

-- ---- trees and their bytes

packed_by : (style : Style) (found : Result Json PackRefusal) (bytes : List ℕ) → Ok bytes ≡ map_packed (cbor_as style.lengths) found → (json : Json) × (found ≡ Ok json) × (bytes ≡ cbor_as style.lengths json)
packed_by style (Ok json) bytes e = (json, refl, cc e)
packed_by style (Err why) bytes e = cc e

refused_by : (style : Style) (found : Result Json PackRefusal) (why : PackRefusal) → Err why ≡ map_packed (cbor_as style.lengths) found → found ≡ Err why
refused_by style (Ok json) why e = cc e
refused_by style (Err other) why e = let same : why ≡ other = cc e in ap Err (sym same)

json_bytes : (style : Style) {found : Result Json PackRefusal} {bytes : List ℕ} {json : Json} → Ok bytes ≡ map_packed (cbor_as style.lengths) found → found ≡ Ok json → bytes ≡ cbor_as style.lengths json
json_bytes style e is = let f = e ∙ ap (map_packed (cbor_as style.lengths)) is in cc f

-- ---- errors of the value

-- nothing is a first part of all
nothing_is_front : (told : Told) (bytes : List ℕ) → AppendsFront told bytes told
nothing_is_front told bytes = record { count = 0; within = omega arith; appends = appends_nothing told }

nothing_fell : (told : Told) → NoCountFell told told
nothing_fell told = steady_counts (steady_alone told)

pub due_streams : (style : Style) (e : Emission) (why : CborError) (told : Told) → IsCauseOfValue (Err why) → IsCborDue e (Err why) → ((other : CborError) → IsCborDue e (Err other) → other ≡ why) → (HasCbor e → ⊥)
    → StreamsCborAs style e (Err why) told told
due_streams style e why told own due only none = record {
  value = tt;
  written = tt;
  steady = tt;
  only_where = λ h. due;
  error_comes = λ other d. inl (ap Err (sym (only other d)));
  ok_comes = λ has quiet. absurd (none has);
  write = λ is. absurd (subst IsCauseOfValue is own);
  write_room = λ is. absurd (subst IsCauseOfValue is own);
  write_short = λ is. absurd (subst IsCauseOfValue is own);
  write_value = λ is. absurd (subst IsCauseOfValue is own);
  no_memory = λ is. absurd (subst IsCauseOfValue is own);
  no_memory_short = λ is. absurd (subst IsCauseOfValue is own);
  counts = nothing_fell told;
  prefix = λ tree json spells packs. nothing_is_front told (cbor_as style.lengths json);
}

pub memory_streams : (style : Style) (e : Emission) (told : Told) → TakesMemory e → StreamsCborAs style e (Err error.NoMemory) told told
memory_streams style e told wants = record {
  value = tt;
  written = tt;
  steady = tt;
  only_where = λ h. absurd h;
  error_comes = λ other d. inr refl;
  ok_comes = λ has quiet. inr refl;
  write = λ is. cc is;
  write_room = λ is. cc is;
  write_short = λ is. cc is;
  write_value = λ is. cc is;
  no_memory = λ is. inr (refl, wants);
  no_memory_short = λ is. inl refl;
  counts = nothing_fell told;
  prefix = λ tree json spells packs. nothing_is_front told (cbor_as style.lengths json);
}

-- ---- a value that is no tree, or refuses

-- what the check answers
abbrev accepted : CheckAnswer
accepted = Ok tt

abbrev pub declined : CheckError → CheckAnswer
declined why = Err why

-- it comes wherever it is due
abbrev pub Comes : Emission → CheckAnswer → Type 0
Comes e r = (due : CheckAnswer) → checks.IsCheckDue e due → (r ≡ due) ⊎ (r ≡ Err check.NoMemory)

bad_is_no_other : (at : ℕ) {due : CheckAnswer} → (declined (check.BadCall at) ≡ due) ⊎ (declined (check.BadCall at) ≡ declined check.NoMemory) → due ≡ declined (check.BadCall at)
bad_is_no_other at (inl is) = sym is
bad_is_no_other at (inr is) = cc is

unfinished_is_no_other : {due : CheckAnswer} → (declined check.Unfinished ≡ due) ⊎ (declined check.Unfinished ≡ declined check.NoMemory) → due ≡ declined check.Unfinished
unfinished_is_no_other (inl is) = sym is
unfinished_is_no_other (inr is) = cc is

refused_is_no_other : {due : CheckAnswer} → (declined check.Refused ≡ due) ⊎ (declined check.Refused ≡ declined check.NoMemory) → due ≡ declined check.Refused
refused_is_no_other (inl is) = sym is
refused_is_no_other (inr is) = cc is

-- where the check's answer is the only one that is due, no other error is due than its own
module _ (e : Emission) (why : CheckError) (alone : (due : CheckAnswer) → checks.IsCheckDue e due → due ≡ declined why) where
  no_value : IsOneValue e → ⊥
  no_value one = let never : accepted ≡ declined why = alone (Ok tt) one in cc never

  same_error : (found : CheckError) → checks.IsCheckDue e (Err found) → check_error found ≡ check_error why
  same_error found due = let is : declined found ≡ declined why = alone (Err found) due in let same : found ≡ why = cc is in ap check_error same

  only_error : (other : CborError) → IsCborDue e (Err other) → other ≡ check_error why
  only_error (error.BadCall at) due = same_error (check.BadCall at) due
  only_error error.Unfinished due = same_error check.Unfinished due
  only_error error.Refused due = same_error check.Refused due
  only_error error.Key due = absurd (no_value due.value)
  only_error error.Number due = absurd (no_value due.value)
  only_error error.Raw due = absurd (no_value due.value)
  only_error error.NotInteger due = absurd (no_value due.value)
  only_error error.Write due = absurd due
  only_error error.NoMemory due = absurd due

  refuses_so : (style : Style) (told : Told) → IsCauseOfValue (Err (check_error why)) → IsCborDue e (Err (check_error why)) → StreamsCborAs style e (Err (check_error why)) told told
  refuses_so style told own due = due_streams style e (check_error why) told own due only_error (λ has. no_value has.value)

pub bad_streams : (style : Style) (e : Emission) (at : ℕ) (told : Told) → checks.IsFirstBadCall e.calls at → Comes e (Err (check.BadCall at)) → StreamsCborAs style e (Err (error.BadCall at)) told told
bad_streams style e at told bad comes = refuses_so e (check.BadCall at) (λ due is. bad_is_no_other at (comes due is)) style told tt bad

pub unfinished_streams : (style : Style) (e : Emission) (told : Told) → checks.IsUnfinished e → Comes e (Err check.Unfinished) → StreamsCborAs style e (Err error.Unfinished) told told
unfinished_streams style e told unfinished comes = refuses_so e check.Unfinished (λ due is. unfinished_is_no_other (comes due is)) style told tt unfinished

pub refused_streams : (style : Style) (e : Emission) (told : Told) → OnlyRefuses e → Comes e (Err check.Refused) → StreamsCborAs style e (Err error.Refused) told told
refused_streams style e told refuses comes = refuses_so e check.Refused (λ due is. refused_is_no_other (comes due is)) style told tt refuses

-- what the check doesn't accept
pub unaccepted_streams : (style : Style) (e : Emission) (why : CheckError) (told : Told) → ((at : ℕ) → declined why ≡ declined (check.BadCall at) → checks.IsFirstBadCall e.calls at) → (declined why ≡ declined check.Refused → OnlyRefuses e)
    → (declined why ≡ declined check.Unfinished → checks.IsUnfinished e) → (declined why ≡ declined check.NoMemory → checks.NeedsMemory e.calls) → Comes e (Err why) → StreamsCborAs style e (Err (check_error why)) told told
unaccepted_streams style e (check.BadCall at) told bad refused unfinished memory comes = bad_streams style e at told (bad at refl) comes
unaccepted_streams style e check.Refused told bad refused unfinished memory comes = refused_streams style e told (refused refl) comes
unaccepted_streams style e check.Unfinished told bad refused unfinished memory comes = unfinished_streams style e told (unfinished refl) comes
unaccepted_streams style e check.NoMemory told bad refused unfinished memory comes = memory_streams style e told (inl (memory refl))

-- what the capture doesn't take
pub uncaptured_streams : (style : Style) (e : Emission) (told : Told) → IsOneValue e → StreamsCborAs style e (Err error.NoMemory) told told
uncaptured_streams style e told one = memory_streams style e told (inr one)

-- ---- a value that was checked

pub checked : (e : Emission) → IsOneValue e → Comes e (Ok tt) → IsChecked e
checked e one comes = record { value = one; surely = surely }
  where
    not_that : {due : CheckAnswer} → (accepted ≡ due) ⊎ (accepted ≡ declined check.NoMemory) → due ≡ accepted
    not_that (inl is) = sym is
    not_that (inr is) = cc is

    surely : IsNoTree e → ⊥
    surely (inl (at, bad)) = cc (not_that (comes (Err (check.BadCall at)) bad))
    surely (inr unfinished) = cc (not_that (comes (Err check.Unfinished) unfinished))

-- no refusal is want of memory
not_of_memory : (why : PackRefusal) → ◌≡◌ {A = CborAnswer} (Err (refusal_error why)) (Err error.NoMemory) → ⊥
not_of_memory BadKey is = cc is
not_of_memory BadNumber is = cc is
not_of_memory RawJson is = cc is
not_of_memory NotInteger is = cc is

module _ (e : Emission) (one : IsChecked e) where
  not_refusing : OnlyRefuses e → ⊥
  not_refusing refuses = let both : false ≡ true = sym one.value.willing ∙ refuses.refuses in cc both

  -- where the tree packs, no error of the value is due
  not_refused : HasCbor e → (why : PackRefusal) → IsRefusedAs e why → ⊥
  not_refused has why refused =
      let (tree, spells) = one.value.spells in
      let (json, packs) = has.packs tree spells in
      let both : Ok json ≡ Err why = sym packs ∙ refused.packs tree spells in
      cc both

  no_error : HasCbor e → (why : CborError) → IsCborDue e (Err why) → ⊥
  no_error has (error.BadCall at) due = one.surely (inl (at, due))
  no_error has error.Unfinished due = one.surely (inr due)
  no_error has error.Refused due = not_refusing due
  no_error has error.Key due = not_refused has BadKey due
  no_error has error.Number due = not_refused has BadNumber due
  no_error has error.Raw due = not_refused has RawJson due
  no_error has error.NotInteger due = not_refused has NotInteger due
  no_error has error.Write due = due
  no_error has error.NoMemory due = due

  -- where it doesn't, no other error is
  same_refusal : (why other : PackRefusal) → IsRefusedAs e why → IsRefusedAs e other → other ≡ why
  same_refusal why other refused too =
      let (tree, spells) = one.value.spells in
      let both : Err other ≡ Err why = sym (too.packs tree spells) ∙ refused.packs tree spells in
      cc both

  only_refusal : (why : PackRefusal) → IsRefusedAs e why → (other : CborError) → IsCborDue e (Err other) → other ≡ refusal_error why
  only_refusal why refused (error.BadCall at) due = absurd (one.surely (inl (at, due)))
  only_refusal why refused error.Unfinished due = absurd (one.surely (inr due))
  only_refusal why refused error.Refused due = absurd (not_refusing due)
  only_refusal why refused error.Key due = ap refusal_error (same_refusal why BadKey refused due)
  only_refusal why refused error.Number due = ap refusal_error (same_refusal why BadNumber refused due)
  only_refusal why refused error.Raw due = ap refusal_error (same_refusal why RawJson refused due)
  only_refusal why refused error.NotInteger due = ap refusal_error (same_refusal why NotInteger refused due)
  only_refusal why refused error.Write due = absurd due
  only_refusal why refused error.NoMemory due = absurd due

  refusal_due : (why : PackRefusal) → IsRefusedAs e why → IsCborDue e (Err (refusal_error why))
  refusal_due BadKey refused = refused
  refusal_due BadNumber refused = refused
  refusal_due RawJson refused = refused
  refusal_due NotInteger refused = refused

  refusal_of_value : (why : PackRefusal) → IsCauseOfValue (Err (refusal_error why))
  refusal_of_value BadKey = tt
  refusal_of_value BadNumber = tt
  refusal_of_value RawJson = tt
  refusal_of_value NotInteger = tt

  refusal_streams : (style : Style) (why : PackRefusal) (told : Told) → IsRefusedAs e why → StreamsCborAs style e (Err (refusal_error why)) told told
  refusal_streams style why told refused =
      due_streams style e (refusal_error why) told (refusal_of_value why) (refusal_due why refused) (only_refusal why refused) (λ has. not_refused has why refused)

  module _ (style : Style) (bytes : List ℕ) (gives : (tree : Tree) → Spells e.calls tree → Ok bytes ≡ map_packed (cbor_as style.lengths) (pack_as style tree)) where
    has_cbor : HasCbor e
    has_cbor = record {
      value = one.value;
      packs = λ tree spells. let packed = packed_by style (pack_as style tree) bytes (gives tree spells) in packs_alike style DEFAULT tree packed.0 packed.1;
    }

    writes_tree : {old new : Told} → WritesWhole old bytes new → (tree : Tree) → Spells e.calls tree → WritesCborTree style tree old new
    writes_tree {old} {new} w tree spells =
        let packed = packed_by style (pack_as style tree) bytes (gives tree spells) in
        record { json = packed.0; packs = packed.1; appends = subst (λ bytes. Appends old bytes new) packed.2 w.appends }

    begins_tree : {old new : Told} → AppendsFront old bytes new → (tree : Tree) (json : Json) → Spells e.calls tree → pack_as style tree ≡ Ok json → AppendsFront old (cbor_as style.lengths json) new
    begins_tree {old} {new} front tree json spells packs = subst (λ bytes. AppendsFront old bytes new) (json_bytes style (gives tree spells) packs) front

    cuts_tree : {old new : Told} → AppendsPart old bytes new → (tree : Tree) (json : Json) → Spells e.calls tree → pack_as style tree ≡ Ok json → AppendsPart old (cbor_as style.lengths json) new
    cuts_tree {old} {new} part tree json spells packs = subst (λ bytes. AppendsPart old bytes new) (json_bytes style (gives tree spells) packs) part

    lacks_room : (old : Told) → LacksRoom old bytes → (tree : Tree) (json : Json) → Spells e.calls tree → pack_as style tree ≡ Ok json → LacksRoom old (cbor_as style.lengths json)
    lacks_room old lacks tree json spells packs = subst (LacksRoom old) (json_bytes style (gives tree spells) packs) lacks

    bytes_stream : (result : CborAnswer) (old new : Told) → AnswersBytes result old bytes new → StreamsCborAs style e result old new
    bytes_stream (Ok done) old new w = record {
      value = one.value;
      written = writes_tree w;
      steady = w.steady;
      only_where = λ h. absurd h;
      error_comes = λ why due. absurd (no_error has_cbor why due);
      ok_comes = λ has quiet. inl refl;
      write = λ is. cc is;
      write_room = λ is. cc is;
      write_short = λ is. cc is;
      write_value = λ is. cc is;
      no_memory = λ is. cc is;
      no_memory_short = λ is. cc is;
      counts = steady_counts w.steady;
      prefix = tt;
    }
    bytes_stream (Err error.Write) old new front = record {
      value = tt;
      written = tt;
      steady = tt;
      only_where = λ h. absurd h;
      error_comes = λ why due. absurd (no_error has_cbor why due);
      ok_comes = λ has quiet. absurd (quiet.faults front.cause);
      write = λ is. front.cause;
      write_room = λ is. lacks_room old (front.full refl);
      write_short = λ is. cuts_tree front.part;
      write_value = λ is. has_cbor;
      no_memory = λ is. cc is;
      no_memory_short = λ is. cc is;
      counts = front.counts;
      prefix = begins_tree front.front;
    }
    bytes_stream (Err error.NoMemory) old new front = record {
      value = tt;
      written = tt;
      steady = tt;
      only_where = λ h. absurd h;
      error_comes = λ why due. inr refl;
      ok_comes = λ has quiet. inr refl;
      write = λ is. cc is;
      write_room = λ is. cc is;
      write_short = λ is. cc is;
      write_value = λ is. cc is;
      no_memory = λ is. inl (front.cause, has_cbor);
      no_memory_short = λ is. inr (cuts_tree front.part);
      counts = front.counts;
      prefix = begins_tree front.front;
    }
    bytes_stream (Err (error.BadCall at)) old new h = absurd h
    bytes_stream (Err error.Unfinished) old new h = absurd h
    bytes_stream (Err error.Refused) old new h = absurd h
    bytes_stream (Err error.Key) old new h = absurd h
    bytes_stream (Err error.Number) old new h = absurd h
    bytes_stream (Err error.Raw) old new h = absurd h
    bytes_stream (Err error.NotInteger) old new h = absurd h

  refused_as : (style : Style) (why : PackRefusal) → ((tree : Tree) → Spells e.calls tree → Err why ≡ map_packed (cbor_as style.lengths) (pack_as style tree)) → IsRefusedAs e why
  refused_as style why gives = record { value = one.value; packs = λ tree spells. refused_alike style DEFAULT tree why (refused_by style (pack_as style tree) why (gives tree spells)) }

  pub checked_streams : (style : Style) (due : Result (List ℕ) PackRefusal) (result : CborAnswer) (old new : Told) → ((tree : Tree) → Spells e.calls tree → due ≡ map_packed (cbor_as style.lengths) (pack_as style tree))
      → AnswersDue result old due new → StreamsCborAs style e result old new
  checked_streams style (Ok bytes) result old new gives answers = bytes_stream style bytes gives result old new answers
  checked_streams style (Err why) result old new gives (is, same) =
      subst (λ r. StreamsCborAs style e r old new) (sym is) (subst (λ (t : Told). StreamsCborAs style e (Err (refusal_error why)) old t) (sym same) (refusal_streams style why old (refused_as style why gives)))

  -- where memory was wanting to write, the sink's count of wants rose
  pub checked_want : (style : Style) (due : Result (List ℕ) PackRefusal) (result : CborAnswer) (old new : Told) → ((tree : Tree) → Spells e.calls tree → due ≡ map_packed (cbor_as style.lengths) (pack_as style tree))
      → AnswersDue result old due new → result ≡ Err error.NoMemory → Rose old.wants new.wants × HasCbor e
  checked_want style (Ok bytes) result old new gives answers is =
      let front : WritesFront sink.NoMemory old bytes new = subst (λ (r : CborAnswer). AnswersBytes r old bytes new) is answers in (front.cause, has_cbor style bytes gives)
  checked_want style (Err why) result old new gives (same, left) is = absurd (not_of_memory why (sym same ∙ is))
