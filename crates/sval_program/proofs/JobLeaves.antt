-- From what serving the words says to what is left of the devices.
use Rattle.std.specs.Prelude.{◌≡◌, ◌⊎◌, ℕ, ◌==◌, ◌≤◌, Bool, true, false, not, ◌||◌, List, Option, Some, None, Ok, Err, refl}
use Rattle.std.proofs.Common.{sym, ap, subst, ◌∙◌, arith, inl, inr}
use Rattle.sval_core.specs.Law.{Rose}
use Rattle.sval_io.specs.Sinks.{IsSteady, NoCountFell}
use Rattle.sval_io.specs.declared.sink.SinkError.{SinkError}
use Rattle.sval_io.specs.declared.sink.SinkError.TheVariants as sink
use Rattle.sval_io.proofs.Appending.{all_is_front, steady_counts}
use Rattle.sval_io.specs.declared.input_error.InputError.{InputError}
use Rattle.sval_io.specs.declared.input_error.InputError.TheVariants as input
use Rattle.sval_io.specs.WholeInputs.{StaysShort}
use Rattle.sval_io.proofs.ReadParts.{read_nothing}
use Rattle.sval_program.specs.declared.failure.Fault.{Fault}
use Rattle.sval_program.specs.declared.failure.Failure.TheVariants.{Input, Fault as Found, NoMemory, Write}
use Rattle.sval_program.specs.declared.status.TheConstants.{DONE, USAGE, WRITE, NO_MEMORY, TOO_LONG}
use Rattle.sval_program.specs.Failures.{status_of_fault, status_of_failure, status_of, is_read}
use Rattle.sval_program.specs.Inputs.{OnShort, OnLong, IsSpentIf}
use Rattle.sval_program.specs.Jobs.{Terms, may_write, FindsFault}
use Rattle.sval_program.specs.Outputs.{Grows}
use Rattle.sval_program.specs.Runs.{is_unwritten, MayLeave, HasFault}
use Rattle.sval_program.specs.Statuses.{is_among}
use Rattle.sval_program.proofs.Growing.{counts_stay, grows_by_nothing, grows_by_front, stop_begins, stop_counts}
use Rattle.sval_program.proofs.JobRuns.{Case, Ended, Ran, Served, Unread, OnInput, on_unread, on_served, by_end, no_fault, unread_status, stopped_status, spent_served}

-- ---- what is left of the sink

-- the fault of a status before which nothing is written
unwritten_fault : {Form : Type 0} (terms : Terms Form) (why : Fault) → is_unwritten terms (status_of_fault why) ≡ true → may_write terms (Some why) ≡ false
unwritten_fault terms why e = neither (DONE == status_of_fault why) (WRITE == status_of_fault why) (NO_MEMORY == status_of_fault why) (is_among (status_of_fault why) terms.written) e
  where
    neither : (a b c d : Bool) → not (a || (b || (c || d))) ≡ true → d ≡ false
    neither a b c false e = refl
    neither true b c true e = sym e
    neither false true c true e = sym e
    neither false false true true e = sym e
    neither false false false true e = sym e

pub untouched : {Form I K : Type 0} (k : Case Form I K) (form : Option Form) (r : Ended) → Ran k form r → is_unwritten k.terms (status_of r) ≡ true → k.new ≡ k.old
untouched k = by_end k (λ form r. is_unwritten k.terms (status_of r) ≡ true → k.new ≡ k.old)
    (λ input out e. out)
    (λ asked s e. absurd (cc e))
    (λ asked why u e. u.out)
    (λ asked why s e. s.serves.untouched (unwritten_fault k.terms why e))
    (λ asked s e. s.serves)
    (λ asked why s. written why)
  where
    written : (why : SinkError) → is_unwritten k.terms (status_of_failure (Write why)) ≡ true → k.new ≡ k.old
    written sink.Failed e = absurd (cc e)
    written sink.NoMemory e = absurd (cc e)

left_by_fault : {Form I K : Type 0} (k : Case Form I K) (asked : Form) (input : List ℕ) (why : Fault) → FindsFault k.terms k.sink asked input why k.old k.new → MayLeave k.terms k.sink k.old k.new input asked
left_by_fault k asked input why s = either (may_write k.terms (Some why)) refl
  where
    either : (b : Bool) → may_write k.terms (Some why) ≡ b → MayLeave k.terms k.sink k.old k.new input asked
    either true e = inr (record { found = Some why; bytes = s.all.bytes; due = s.all.due; may = e; front = all_is_front s.all.bytes s.all.writes.appends })
    either false e = inl (s.untouched e)

pub leaves : {Form I K : Type 0} (k : Case Form I K) (form : Option Form) (r : Ended) → Ran k form r → OnInput k form (OnShort (MayLeave k.terms k.sink k.old k.new))
leaves k = by_end k (λ form r. OnInput k form (OnShort (MayLeave k.terms k.sink k.old k.new)))
    (λ input out. tt)
    (λ asked s. on_served k asked (OnShort (MayLeave k.terms k.sink k.old k.new)) s (λ short.
    inr (record { found = None; bytes = s.serves.bytes; due = s.serves.due; may = refl; front = all_is_front s.serves.bytes s.serves.writes.appends })))
    (λ asked why u. on_unread k asked (OnShort (MayLeave k.terms k.sink k.old k.new)) u (λ input told short. inl u.out))
    (λ asked why s. on_served k asked (OnShort (MayLeave k.terms k.sink k.old k.new)) s (λ short. left_by_fault k asked s.input why s.serves))
    (λ asked s. on_served k asked (OnShort (MayLeave k.terms k.sink k.old k.new)) s (λ short. inl s.serves))
    (λ asked why s. on_served k asked (OnShort (MayLeave k.terms k.sink k.old k.new)) s (λ short.
    inr (record { found = s.serves.found; bytes = s.serves.bytes; due = s.serves.due; may = s.serves.may; front = stop_begins k.sink s.serves.bytes k.old k.new (k.terms.partly (Some asked)) why s.serves.stops })))

grows_same : {Form I K : Type 0} (k : Case Form I K) → k.new ≡ k.old → Grows (k.sink k.old) (k.sink k.new)
grows_same k same = subst (λ out. Grows (k.sink k.old) (k.sink out)) (sym same) (grows_by_nothing (k.sink k.old))

pub grows : {Form I K : Type 0} (k : Case Form I K) (form : Option Form) (r : Ended) → Ran k form r → Grows (k.sink k.old) (k.sink k.new)
grows k = by_end k (λ form r. Grows (k.sink k.old) (k.sink k.new))
    (λ input out. grows_same k out)
    (λ asked s. (_, s.serves.writes.appends))
    (λ asked why u. grows_same k u.out)
    (λ asked why s. (_, s.serves.all.writes.appends))
    (λ asked s. grows_same k s.serves)
    (λ asked why s. grows_by_front (stop_begins k.sink s.serves.bytes k.old k.new (k.terms.partly (Some asked)) why s.serves.stops))

-- ---- an input that is too long, and one that was read whole

long_served : {Form I K : Type 0} (k : Case Form I K) (asked : Form) {r : Ended} (P : Type 0) → Served k asked r → OnInput k (Some asked) (OnLong P)
long_served k asked P s = on_served k asked (OnLong P) s (λ long. absurd (omega (arith, long, s.short)))

abbrev IsLongStatus : ℕ → Type 0
IsLongStatus status = (status ≡ TOO_LONG) ⊎ (status ≡ NO_MEMORY)

long_unread : {Form I K : Type 0} (k : Case Form I K) (asked : Form) (why : InputError) → Unread k asked why → (Rose (k.source k.before).faults (k.source k.after).faults → ⊥)
    → OnInput k (Some asked) (OnLong (IsLongStatus (status_of (Err (Input why)))))
long_unread k asked input.ReadFault u quiet = absurd (quiet (u.stops.fault refl))
long_unread k asked input.TooLong u quiet = on_unread k asked (OnLong (IsLongStatus TOO_LONG)) u (λ input told long. inl refl)
long_unread k asked input.NoMemory u quiet = on_unread k asked (OnLong (IsLongStatus NO_MEMORY)) u (λ input told long. inr refl)

pub long_comes : {Form I K : Type 0} (k : Case Form I K) (form : Option Form) (r : Ended) → Ran k form r → (Rose (k.source k.before).faults (k.source k.after).faults → ⊥)
    → OnInput k form (OnLong ((status_of r ≡ TOO_LONG) ⊎ (status_of r ≡ NO_MEMORY)))
long_comes k form r ran quiet = by_end k (λ form r. OnInput k form (OnLong (IsLongStatus (status_of r))))
    (λ input out. tt)
    (λ asked s. long_served k asked (IsLongStatus (status_of (Ok tt))) s)
    (λ asked why u. long_unread k asked why u quiet)
    (λ asked why s. long_served k asked (IsLongStatus (status_of (Err (Found why)))) s)
    (λ asked s. long_served k asked (IsLongStatus (status_of (Err NoMemory))) s)
    (λ asked why s. long_served k asked (IsLongStatus (status_of (Err (Write why)))) s)
    form r ran

pub leaves_long : {Form I K : Type 0} (k : Case Form I K) (form : Option Form) (r : Ended) → Ran k form r → OnInput k form (OnLong (k.new ≡ k.old))
leaves_long k = by_end k (λ form r. OnInput k form (OnLong (k.new ≡ k.old)))
    (λ input out. tt)
    (λ asked s. long_served k asked (k.new ≡ k.old) s)
    (λ asked why u. on_unread k asked (OnLong (k.new ≡ k.old)) u (λ input told long. u.out))
    (λ asked why s. long_served k asked (k.new ≡ k.old) s)
    (λ asked s. long_served k asked (k.new ≡ k.old) s)
    (λ asked why s. long_served k asked (k.new ≡ k.old) s)

-- ---- what is left of the source

pub nothing_read : {Form I K : Type 0} (k : Case Form I K) (form : Option Form) (r : Ended) → Ran k form r → status_of r ≡ USAGE → k.after ≡ k.before
nothing_read k = by_end k (λ form r. status_of r ≡ USAGE → k.after ≡ k.before)
    (λ input out e. input)
    (λ asked s e. absurd (omega (arith, e)))
    (λ asked why u e. absurd ((unread_status why).3 e))
    (λ asked why s e. absurd (no_fault why USAGE refl e))
    (λ asked s e. absurd (omega (arith, e)))
    (λ asked why s e. absurd ((stopped_status why).3 e))

-- a form that isn't read
pub unread : {Form I K : Type 0} (k : Case Form I K) (form : Option Form) (r : Ended) → Ran k form r → k.terms.reads form ≡ false → k.after ≡ k.before
unread k = by_end k (λ form r. k.terms.reads form ≡ false → k.after ≡ k.before)
    (λ input out e. input)
    (λ asked s e. s.unread e)
    (λ asked why u e. absurd (let never : true ≡ false = sym u.reads ∙ e in cc never))
    (λ asked why s e. s.unread e)
    (λ asked s e. s.unread e)
    (λ asked why s e. s.unread e)

pub nothing_written : {Form I K : Type 0} (k : Case Form I K) (form : Option Form) (r : Ended) → Ran k form r → status_of r ≡ USAGE → k.new ≡ k.old
nothing_written k = by_end k (λ form r. status_of r ≡ USAGE → k.new ≡ k.old)
    (λ input out e. out)
    (λ asked s e. absurd (omega (arith, e)))
    (λ asked why u e. absurd ((unread_status why).3 e))
    (λ asked why s e. absurd (no_fault why USAGE refl e))
    (λ asked s e. absurd (omega (arith, e)))
    (λ asked why s e. absurd ((stopped_status why).3 e))

pub spent : {Form I K : Type 0} (k : Case Form I K) (form : Option Form) (r : Ended) → Ran k form r → is_read (status_of r) ≡ true → OnInput k form (IsSpentIf (k.terms.reads form) (k.source k.after))
spent k = by_end k (λ form r. is_read (status_of r) ≡ true → OnInput k form (IsSpentIf (k.terms.reads form) (k.source k.after)))
    (λ input out e. tt)
    (λ asked s e. spent_served k asked s)
    (λ asked why u e. absurd ((unread_status why).1 e))
    (λ asked why s e. spent_served k asked s)
    (λ asked s e. spent_served k asked s)
    (λ asked why s e. spent_served k asked s)

short_same : {Form I K : Type 0} (k : Case Form I K) → k.after ≡ k.before → StaysShort (k.source k.before) (k.source k.after)
short_same k same = subst (λ after. StaysShort (k.source k.before) (k.source after)) (sym same) (read_nothing (k.source k.before).left)

-- no more than the limit was taken, unless the input is too long
pub stays_short : {Form I K : Type 0} (k : Case Form I K) (form : Option Form) (r : Ended) → Ran k form r → (status_of r ≡ TOO_LONG → ⊥) → StaysShort (k.source k.before) (k.source k.after)
stays_short k = by_end k (λ form r. (status_of r ≡ TOO_LONG → ⊥) → StaysShort (k.source k.before) (k.source k.after))
    (λ input out no. short_same k input)
    (λ asked s no. s.at_most)
    (λ asked why u no. u.stops.short (λ e. no (ap (λ w. status_of_failure (Input w)) e)))
    (λ asked why s no. s.at_most)
    (λ asked s no. s.at_most)
    (λ asked why s no. s.at_most)

-- ---- the counts

abbrev Steady : {Form I K : Type 0} → Case Form I K → Type 0
Steady k = ((k.source k.after).faults ≡ (k.source k.before).faults) × IsSteady (k.sink k.old) (k.sink k.new)

pub steady : {Form I K : Type 0} (k : Case Form I K) (form : Option Form) (r : Ended) → Ran k form r → is_read (status_of r) ≡ true → ((k.source k.after).faults ≡ (k.source k.before).faults) × IsSteady (k.sink k.old) (k.sink k.new)
steady k = by_end k (λ form r. is_read (status_of r) ≡ true → Steady k)
    (λ input out e. absurd (cc e))
    (λ asked s e. (s.faults, s.serves.writes.steady))
    (λ asked why u e. absurd ((unread_status why).1 e))
    (λ asked why s e. (s.faults, s.serves.all.writes.steady))
    (λ asked s e. absurd (cc e))
    (λ asked why s e. absurd ((stopped_status why).1 e))

abbrev Counts : {Form I K : Type 0} → Case Form I K → Type 0
Counts k = ((k.source k.before).faults ≤ (k.source k.after).faults) × NoCountFell (k.sink k.old) (k.sink k.new)

count_stays : {n m : ℕ} → m ≡ n → n ≤ m
count_stays e = omega (arith, e)

counts_same : {Form I K : Type 0} (k : Case Form I K) → k.new ≡ k.old → NoCountFell (k.sink k.old) (k.sink k.new)
counts_same k same = subst (λ out. NoCountFell (k.sink k.old) (k.sink out)) (sym same) (counts_stay (k.sink k.old))

pub counts : {Form I K : Type 0} (k : Case Form I K) (form : Option Form) (r : Ended) → Ran k form r → ((k.source k.before).faults ≤ (k.source k.after).faults) × NoCountFell (k.sink k.old) (k.sink k.new)
counts k = by_end k (λ form r. Counts k)
    (λ input out. (count_stays (ap (λ source. (k.source source).faults) input), counts_same k out))
    (λ asked s. (count_stays s.faults, steady_counts s.serves.writes.steady))
    (λ asked why u. (u.stops.faults, counts_same k u.out))
    (λ asked why s. (count_stays s.faults, steady_counts s.serves.all.writes.steady))
    (λ asked s. (count_stays s.faults, counts_same k s.serves))
    (λ asked why s. (count_stays s.faults, stop_counts k.sink s.serves.bytes k.old k.new (k.terms.partly (Some asked)) why s.serves.stops))

-- ---- what is told

pub has_fault : {Form I K : Type 0} (k : Case Form I K) (form : Option Form) (r : Ended) → Ran k form r → (why : Fault) → r ≡ Err (Found why) → OnInput k form (HasFault k.terms why)
has_fault k form r ran why = by_end k (λ form r. r ≡ Err (Found why) → OnInput k form (HasFault k.terms why))
    (λ input out e. absurd (cc e))
    (λ asked s e. absurd (cc e))
    (λ asked other u e. absurd (cc e))
    (λ asked other s e. on_served k asked (HasFault k.terms why) s (s.serves.all.bytes, subst (λ found. k.terms.Due asked s.input (Some found) s.serves.all.bytes) (same other e) s.serves.all.due))
    (λ asked s e. absurd (cc e))
    (λ asked other s e. absurd (cc e))
    form r ran
  where
    same : (other : Fault) → ◌≡◌ {A = Ended} (Err (Found other)) (Err (Found why)) → other ≡ why
    same other e = cc e
