-- From what serving the words says to what each status says.
use Rattle.std.specs.Prelude.{◌≡◌, ℕ, ◌<◌, Bool, true, false, List, [], Option, Some, None, Result, Ok, Err, IfSome, OnOk, refl}
use Rattle.std.proofs.Common.{sym, ap, subst, ◌∙◌, arith, inl, inr}
use Rattle.sval_core.specs.Law.{Rose}
use Rattle.sval_io.specs.Sinks.{Told}
use Rattle.sval_io.specs.declared.sink.SinkError.{SinkError}
use Rattle.sval_io.specs.declared.sink.SinkError.TheVariants as sink
use Rattle.sval_io.specs.declared.input_error.InputError.{InputError}
use Rattle.sval_io.specs.declared.input_error.InputError.TheVariants as input
use Rattle.sval_io.specs.WholeInputs.{IsShort, ReadsWhole, IsTooLong, TakesAll, TakesOneMore, StaysShort, StaysBelow, StopsReading}
use Rattle.sval_io.specs.Sources.{Supply}
use Rattle.sval_io.proofs.ReadParts.{read_nothing, read_all, below_nothing}
use Rattle.sval_program.specs.declared.failure.Fault.{Fault}
use Rattle.sval_program.specs.declared.failure.Fault.TheVariants as fault
use Rattle.sval_program.specs.declared.failure.Failure.{Failure}
use Rattle.sval_program.specs.declared.failure.Failure.TheVariants.{Usage, Input, Fault as Found, NoMemory, Write}
use Rattle.sval_program.specs.declared.status.TheConstants.{DONE, USAGE, WRITE, READ, NO_MEMORY, TOO_LONG}
use Rattle.sval_program.specs.Failures.{status_of_fault, status_of_failure, status_of, is_fault, is_read}
use Rattle.sval_program.specs.Inputs.{OnShort, OnBoth, IsSpent, IsSpentIf, input_if}
use Rattle.sval_program.specs.Jobs.{Terms, WritesAllDue, ServesBytes, IsServed, ServesInput, ServesNothing, ServesIf, ServesForm}
use Rattle.sval_program.specs.Outputs.{IsWantIf}
use Rattle.sval_program.specs.Runs.{TakesDue, TakesFault, IsStatusDue, AreQuiet, TakesAllOrLess}
use Rattle.sval_program.proofs.Growing.{want_before, stop_is_fault, stop_is_want}

abbrev pub Ended : Type 0
Ended = Result (Unit {0}) Failure

-- a program and the devices of a run of it
pub record Case (Form I K : Type 0) : Type 1 where
  pub terms : Terms Form
  pub source : I → Supply
  pub sink : K → Told
  pub before : I
  pub after : I
  pub old : K
  pub new : K

abbrev pub Ran : {Form I K : Type 0} → Case Form I K → Option Form → Result (Unit {0}) Failure → Type 0
Ran k form result = ServesForm k.terms k.source k.sink form result k.before k.after k.old k.new

-- the bytes that are served
abbrev pub input_of : {Form I K : Type 0} → Case Form I K → Option Form → Option (List ℕ)
input_of k form = input_if (k.terms.reads form) (k.source k.before)

-- a fact where the words are a form, and the source told what it had, or it isn't read
abbrev pub OnInput : {Form I K : Type 0} → Case Form I K → Option Form → (List ℕ → Form → Type 0) → Type 0
OnInput k form P = OnBoth form (input_of k form) P

-- bytes were served, which are all that the source had, or none where it isn't read
pub record Served {Form I K : Type 0} (k : Case Form I K) (asked : Form) (result : Result (Unit {0}) Failure) : Type 0 where
  pub input : List ℕ
  pub serves : ServesBytes k.terms k.sink asked input result k.old k.new
  pub all : IfSome (input_of k (Some asked)) (λ whole. input ≡ whole)
  pub spent : IfSome (input_of k (Some asked)) (λ whole. IsSpentIf (k.terms.reads (Some asked)) (k.source k.after) whole asked)
  pub want : IfSome (input_of k (Some asked)) (λ whole. TakesAllOrLess (k.source k.before) (k.source k.after) whole asked)
  pub unread : k.terms.reads (Some asked) ≡ false → k.after ≡ k.before
  pub short : IsShort input
  pub at_most : StaysShort (k.source k.before) (k.source k.after)
  pub faults : (k.source k.after).faults ≡ (k.source k.before).faults

-- the input is one to be read, and wasn't
pub record Unread {Form I K : Type 0} (k : Case Form I K) (asked : Form) (why : InputError) : Type 0 where
  pub reads : k.terms.reads (Some asked) ≡ true
  pub stops : StopsReading why (k.source k.before) (k.source k.after)
  pub out : k.new ≡ k.old

-- ---- an input that was read and served

pub served : {Form I K : Type 0} (terms : Terms Form) (source : I → Supply) (told : K → Told) (before after : I) (old new : K) {input : List ℕ} (asked : Form) (result : Result (Unit {0}) Failure)
    → ReadsWhole (source before) input (source after) → ServesBytes terms told asked input result old new → ServesInput terms source told asked result before after old new
served terms source told before after old new {input = input} asked (Ok done) reads serves = record { input = input; reads = reads; serves = serves }
served terms source told before after old new asked (Err Usage) reads serves = absurd serves
served terms source told before after old new asked (Err (Input why)) reads serves = absurd serves
served terms source told before after old new {input = input} asked (Err (Found why)) reads serves = record { input = input; reads = reads; serves = serves }
served terms source told before after old new {input = input} asked (Err NoMemory) reads serves = record { input = input; reads = reads; serves = serves }
served terms source told before after old new {input = input} asked (Err (Write why)) reads serves = record { input = input; reads = reads; serves = serves }

-- ---- a fact on what was asked for

-- one that holds of each input that the source may have told
pub on_input : {Form : Type 0} (asked : Form) (left : Option (List ℕ)) (P : List ℕ → Form → Type 0) → ((input : List ℕ) → left ≡ Some input → P input asked) → OnBoth (Some asked) left P
on_input asked None P f = tt
on_input asked (Some input) P f = f input refl

-- one that is so of what the source may have told
pub on_some : {Form : Type 0} (asked : Form) (left : Option (List ℕ)) (Q : List ℕ → Type 0) (P : List ℕ → Form → Type 0) → ((input : List ℕ) → Q input → P input asked) → IfSome left Q → OnBoth (Some asked) left P
on_some asked None Q P f h = tt
on_some asked (Some input) Q P f h = f input h

-- one that holds of the input that was served
pub on_served : {Form I K : Type 0} (k : Case Form I K) (asked : Form) {r : Ended} (P : List ℕ → Form → Type 0) (s : Served k asked r) → P s.input asked → OnInput k (Some asked) P
on_served k asked P s p = on_some asked (input_of k (Some asked)) (λ whole. s.input ≡ whole) P (λ input all. subst (λ input. P input asked) all p) s.all

-- one that holds of each input that wasn't read
pub on_unread : {Form I K : Type 0} (k : Case Form I K) (asked : Form) {why : InputError} (P : List ℕ → Form → Type 0) (u : Unread k asked why) → ((input : List ℕ) → (k.source k.before).left ≡ Some input → P input asked) → OnInput k (Some asked) P
on_unread k asked P u f = subst (λ reads. OnBoth (Some asked) (input_if reads (k.source k.before)) P) (sym u.reads) (on_input asked (k.source k.before).left P f)

-- one that follows from another
pub on_both : {Form : Type 0} (form : Option Form) (left : Option (List ℕ)) (P Q : List ℕ → Form → Type 0) → ((input : List ℕ) (asked : Form) → P input asked → Q input asked) → OnBoth form left P → OnBoth form left Q
on_both None left P Q f h = tt
on_both (Some asked) None P Q f h = tt
on_both (Some asked) (Some input) P Q f h = f input asked h

-- ---- how it ended

-- the source is as it was
stays_short : {I : Type 0} (source : I → Supply) (before after : I) → after ≡ before → StaysShort (source before) (source after)
stays_short source before after same = subst (λ now. StaysShort (source before) (source now)) (sym same) (read_nothing (source before).left)

stays_below : {I : Type 0} (source : I → Supply) (before after : I) → after ≡ before → StaysBelow (source before) (source after)
stays_below source before after same = subst (λ now. StaysBelow (source before) (source now)) (sym same) (below_nothing (source before))

if_some : (left : Option (List ℕ)) (P Q : List ℕ → Type 0) → ((input : List ℕ) → P input → Q input) → IfSome left P → IfSome left Q
if_some None P Q f h = tt
if_some (Some input) P Q f h = f input h

-- the input was read whole
was_read : {Form I K : Type 0} (k : Case Form I K) (asked : Form) {r : Ended} → k.terms.reads (Some asked) ≡ true → IsServed k.terms k.source k.sink asked r k.before k.after k.old k.new → Served k asked r
was_read k asked reads s =
    let Taken : List ℕ → Type 0 = λ whole. TakesAll whole s.input (k.source k.after).left in
    record {
      input = s.input;
      serves = s.serves;
      all = subst (λ b. IfSome (input_if b (k.source k.before)) (λ whole. s.input ≡ whole)) (sym reads) (if_some (k.source k.before).left Taken (λ whole. s.input ≡ whole) (λ whole t. t.all) s.reads.taken);
      spent = subst (λ b. IfSome (input_if b (k.source k.before)) (λ whole. IsSpentIf b (k.source k.after) whole asked)) (sym reads) (if_some (k.source k.before).left Taken (λ whole. IsSpent (k.source k.after) whole asked) (λ whole t. t.left) s.reads.taken);
      want = subst (λ b. IfSome (input_if b (k.source k.before)) (λ whole. TakesAllOrLess (k.source k.before) (k.source k.after) whole asked)) (sym reads)
          (if_some (k.source k.before).left Taken (λ whole. TakesAllOrLess (k.source k.before) (k.source k.after) whole asked) (λ whole t. inl t.left) s.reads.taken);
      unread = λ e. absurd (let never : true ≡ false = sym reads ∙ e in cc never);
      short = s.reads.short;
      at_most = read_all s.reads;
      faults = s.reads.faults;
    }

-- nothing was read
was_unread : {Form I K : Type 0} (k : Case Form I K) (asked : Form) {r : Ended} → k.terms.reads (Some asked) ≡ false → ServesNothing k.terms k.sink asked r k.before k.after k.old k.new → Served k asked r
was_unread k asked reads s = record {
  input = [];
  serves = s.serves;
  all = subst (λ b. IfSome (input_if b (k.source k.before)) (λ whole. [] ≡ whole)) (sym reads) refl;
  spent = subst (λ b. IfSome (input_if b (k.source k.before)) (λ whole. IsSpentIf b (k.source k.after) whole asked)) (sym reads) tt;
  want = subst (λ b. IfSome (input_if b (k.source k.before)) (λ whole. TakesAllOrLess (k.source k.before) (k.source k.after) whole asked)) (sym reads) (inr (stays_below k.source k.before k.after s.input));
  unread = λ never. s.input;
  short = omega arith;
  at_most = stays_short k.source k.before k.after s.input;
  faults = ap (λ source. (k.source source).faults) s.input;
}

-- how a form was served
abbrev Answered : {Form I K : Type 0} → Case Form I K → Form → Ended → Type 0
Answered k asked (Err (Input why)) = Unread k asked why
Answered k asked r = Served k asked r

answered : {Form I K : Type 0} (k : Case Form I K) (asked : Form) (r : Ended) (reads : Bool) → k.terms.reads (Some asked) ≡ reads → ServesIf reads k.terms k.source k.sink asked r k.before k.after k.old k.new → Answered k asked r
answered k asked (Ok u) true e s = was_read k asked e s
answered k asked (Err Usage) true e s = was_read k asked e s
answered k asked (Err (Input why)) true e s = record { reads = e; stops = s.stops; out = s.out }
answered k asked (Err (Found why)) true e s = was_read k asked e s
answered k asked (Err NoMemory) true e s = was_read k asked e s
answered k asked (Err (Write why)) true e s = was_read k asked e s
answered k asked (Ok u) false e s = was_unread k asked e s
answered k asked (Err Usage) false e s = was_unread k asked e s
answered k asked (Err (Input why)) false e s = absurd s.serves
answered k asked (Err (Found why)) false e s = was_unread k asked e s
answered k asked (Err NoMemory) false e s = was_unread k asked e s
answered k asked (Err (Write why)) false e s = was_unread k asked e s

-- a fact on each way to end
pub by_end : {Form I K : Type 0} (k : Case Form I K) (P : Option Form → Ended → Type 0)
    → (k.after ≡ k.before → k.new ≡ k.old → P None (Err Usage))
    → ((asked : Form) → Served k asked (Ok tt) → P (Some asked) (Ok tt))
    → ((asked : Form) (why : InputError) → Unread k asked why → P (Some asked) (Err (Input why)))
    → ((asked : Form) (why : Fault) → Served k asked (Err (Found why)) → P (Some asked) (Err (Found why)))
    → ((asked : Form) → Served k asked (Err NoMemory) → P (Some asked) (Err NoMemory))
    → ((asked : Form) (why : SinkError) → Served k asked (Err (Write why)) → P (Some asked) (Err (Write why)))
    → (form : Option Form) (r : Ended) → Ran k form r → P form r
by_end {Form} k P none done unread found want stopped = by_form
  where
    by_result : (asked : Form) (r : Ended) → Answered k asked r → P (Some asked) r
    by_result asked (Ok u) a = done asked a
    by_result asked (Err Usage) a = absurd a.serves
    by_result asked (Err (Input why)) a = unread asked why a
    by_result asked (Err (Found why)) a = found asked why a
    by_result asked (Err NoMemory) a = want asked a
    by_result asked (Err (Write why)) a = stopped asked why a

    by_form : (form : Option Form) (r : Ended) → Ran k form r → P form r
    by_form None r ran = subst (P None) (sym ran.usage) (none ran.input ran.out)
    by_form (Some asked) r ran = by_result asked r (answered k asked r (k.terms.reads (Some asked)) refl ran)

-- ---- which status is whose

fault_status : (why : Fault) → is_fault (status_of_fault why) ≡ true
fault_status (fault.BadLine number) = refl
fault_status (fault.BadCall number) = refl
fault_status (fault.Unfinished many) = refl
fault_status fault.InvalidKey = refl
fault_status fault.InvalidNumber = refl
fault_status fault.NotUtf8 = refl
fault_status (fault.BadJson at) = refl
fault_status fault.Raw = refl
fault_status fault.NotInteger = refl
fault_status fault.BadCbor = refl

-- a fault's status is none of the others
pub no_fault : (why : Fault) (status : ℕ) → is_fault status ≡ false → status_of_fault why ≡ status → ⊥
no_fault why status other e = let never : true ≡ false = sym (fault_status why) ∙ ap is_fault e ∙ other in cc never

pub unread_status : (why : InputError) → (is_fault (status_of_failure (Input why)) ≡ true → ⊥) × (is_read (status_of_failure (Input why)) ≡ true → ⊥) × (status_of_failure (Input why) ≡ DONE → ⊥) × (status_of_failure (Input why) ≡ USAGE → ⊥)
    × (status_of_failure (Input why) ≡ WRITE → ⊥)
unread_status input.ReadFault = (λ e. cc e, λ e. cc e, λ e. omega (arith, e), λ e. omega (arith, e), λ e. omega (arith, e))
unread_status input.TooLong = (λ e. cc e, λ e. cc e, λ e. omega (arith, e), λ e. omega (arith, e), λ e. omega (arith, e))
unread_status input.NoMemory = (λ e. cc e, λ e. cc e, λ e. omega (arith, e), λ e. omega (arith, e), λ e. omega (arith, e))

pub stopped_status : (why : SinkError) → (is_fault (status_of_failure (Write why)) ≡ true → ⊥) × (is_read (status_of_failure (Write why)) ≡ true → ⊥) × (status_of_failure (Write why) ≡ DONE → ⊥) × (status_of_failure (Write why) ≡ USAGE → ⊥)
    × (status_of_failure (Write why) ≡ READ → ⊥) × (status_of_failure (Write why) ≡ TOO_LONG → ⊥)
stopped_status sink.Failed = (λ e. cc e, λ e. cc e, λ e. omega (arith, e), λ e. omega (arith, e), λ e. omega (arith, e), λ e. omega (arith, e))
stopped_status sink.NoMemory = (λ e. cc e, λ e. cc e, λ e. omega (arith, e), λ e. omega (arith, e), λ e. omega (arith, e), λ e. omega (arith, e))

-- a failure with a fault's status is that fault
pub the_fault : (r : Result (Unit {0}) Failure) → is_fault (status_of r) ≡ true → (why : Fault) × (r ≡ Err (Found why))
the_fault (Ok done) e = absurd (cc e)
the_fault (Err Usage) e = absurd (cc e)
the_fault (Err (Input why)) e = absurd ((unread_status why).0 e)
the_fault (Err (Found why)) e = (why, refl)
the_fault (Err NoMemory) e = absurd (cc e)
the_fault (Err (Write why)) e = absurd ((stopped_status why).0 e)

-- ---- what each status says

due_taken : {Form : Type 0} {terms : Terms Form} {found : Option Fault} {old new : Told} {input : List ℕ} {asked : Form} → WritesAllDue terms asked input found old new → TakesDue terms found old new input asked
due_taken w = record { bytes = w.bytes; due = w.due; appends = w.writes.appends }

pub done : {Form I K : Type 0} (k : Case Form I K) (form : Option Form) (r : Ended) → Ran k form r → status_of r ≡ DONE → OnInput k form (TakesDue k.terms None (k.sink k.old) (k.sink k.new))
done k = by_end k (λ form r. status_of r ≡ DONE → OnInput k form (TakesDue k.terms None (k.sink k.old) (k.sink k.new)))
    (λ input out e. tt)
    (λ asked s e. on_served k asked (TakesDue k.terms None (k.sink k.old) (k.sink k.new)) s (due_taken s.serves))
    (λ asked why u e. absurd ((unread_status why).2 e))
    (λ asked why s e. absurd (no_fault why DONE refl e))
    (λ asked s e. absurd (omega (arith, e)))
    (λ asked why s e. absurd ((stopped_status why).2 e))

-- what is so of a run that was well
pub flushed : {Form I K : Type 0} (k : Case Form I K) {P : Type 0} (form : Option Form) (r : Ended) → Ran k form r → OnOk r P → status_of r ≡ DONE → P
flushed k {P} = by_end k (λ form r. OnOk r P → status_of r ≡ DONE → P)
    (λ input out held e. absurd (omega (arith, e)))
    (λ asked s held e. held)
    (λ asked why u held e. absurd ((unread_status why).2 e))
    (λ asked why s held e. absurd (no_fault why DONE refl e))
    (λ asked s held e. absurd (omega (arith, e)))
    (λ asked why s held e. absurd ((stopped_status why).2 e))

pub finds : {Form I K : Type 0} (k : Case Form I K) (form : Option Form) (r : Ended) → Ran k form r → is_fault (status_of r) ≡ true → OnInput k form (TakesFault k.terms (status_of r) (k.sink k.old) (k.sink k.new))
finds k = by_end k (λ form r. is_fault (status_of r) ≡ true → OnInput k form (TakesFault k.terms (status_of r) (k.sink k.old) (k.sink k.new)))
    (λ input out e. tt)
    (λ asked s e. absurd (cc e))
    (λ asked why u e. absurd ((unread_status why).0 e))
    (λ asked why s e. on_served k asked (TakesFault k.terms (status_of_fault why) (k.sink k.old) (k.sink k.new)) s (record { why = why; is = refl; takes = due_taken s.serves.all }))
    (λ asked s e. absurd (cc e))
    (λ asked why s e. absurd ((stopped_status why).0 e))

pub write : {Form I K : Type 0} (k : Case Form I K) (form : Option Form) (r : Ended) → Ran k form r → status_of r ≡ WRITE → Rose (k.sink k.old).faults (k.sink k.new).faults
write {Form} k = by_end k (λ form r. status_of r ≡ WRITE → Rose (k.sink k.old).faults (k.sink k.new).faults)
    (λ input out e. absurd (omega (arith, e)))
    (λ asked s e. absurd (omega (arith, e)))
    (λ asked why u e. absurd ((unread_status why).4 e))
    (λ asked why s e. absurd (no_fault why WRITE refl e))
    (λ asked s e. absurd (omega (arith, e)))
    (λ asked why s. rose asked why s)
  where
    rose : (asked : Form) (why : SinkError) → Served k asked (Err (Write why)) → status_of_failure (Write why) ≡ WRITE → Rose (k.sink k.old).faults (k.sink k.new).faults
    rose asked sink.Failed s e = stop_is_fault k.sink s.serves.bytes k.old k.new (k.terms.partly (Some asked)) s.serves.stops
    rose asked sink.NoMemory s e = absurd (omega (arith, e))

pub read : {Form I K : Type 0} (k : Case Form I K) (form : Option Form) (r : Ended) → Ran k form r → status_of r ≡ READ → Rose (k.source k.before).faults (k.source k.after).faults
read {Form} k = by_end k (λ form r. status_of r ≡ READ → Rose (k.source k.before).faults (k.source k.after).faults)
    (λ input out e. absurd (omega (arith, e)))
    (λ asked s e. absurd (omega (arith, e)))
    (λ asked why u. rose asked why u)
    (λ asked why s e. absurd (no_fault why READ refl e))
    (λ asked s e. absurd (omega (arith, e)))
    (λ asked why s e. absurd ((stopped_status why).4 e))
  where
    rose : (asked : Form) (why : InputError) → Unread k asked why → status_of_failure (Input why) ≡ READ → Rose (k.source k.before).faults (k.source k.after).faults
    rose asked input.ReadFault u e = u.stops.fault refl
    rose asked input.TooLong u e = absurd (omega (arith, e))
    rose asked input.NoMemory u e = absurd (omega (arith, e))

pub own_want : {Form I K : Type 0} (k : Case Form I K) (form : Option Form) (r : Ended) → Ran k form r → status_of r ≡ NO_MEMORY → IsWantIf (k.terms.partly form) k.sink k.old k.new
own_want {Form} k = by_end k (λ form r. status_of r ≡ NO_MEMORY → IsWantIf (k.terms.partly form) k.sink k.old k.new)
    (λ input out e. want_before (k.terms.partly None) k.sink out)
    (λ asked s e. absurd (omega (arith, e)))
    (λ asked why u e. want_before (k.terms.partly (Some asked)) k.sink u.out)
    (λ asked why s e. absurd (no_fault why NO_MEMORY refl e))
    (λ asked s e. want_before (k.terms.partly (Some asked)) k.sink s.serves)
    (λ asked why s. want asked why s)
  where
    want : (asked : Form) (why : SinkError) → Served k asked (Err (Write why)) → status_of_failure (Write why) ≡ NO_MEMORY → IsWantIf (k.terms.partly (Some asked)) k.sink k.old k.new
    want asked sink.Failed s e = absurd (omega (arith, e))
    want asked sink.NoMemory s e = stop_is_want k.sink s.serves.bytes k.old k.new (k.terms.partly (Some asked)) s.serves.stops

pub spent_served : {Form I K : Type 0} (k : Case Form I K) (asked : Form) {r : Ended} → Served k asked r → OnInput k (Some asked) (IsSpentIf (k.terms.reads (Some asked)) (k.source k.after))
spent_served k asked s =
    let Spent : List ℕ → Type 0 = λ whole. IsSpentIf (k.terms.reads (Some asked)) (k.source k.after) whole asked in
    on_some asked (input_of k (Some asked)) Spent (IsSpentIf (k.terms.reads (Some asked)) (k.source k.after)) (λ input spent. spent) s.spent

spent_or_less : {Form I K : Type 0} (k : Case Form I K) (asked : Form) {r : Ended} → Served k asked r → OnInput k (Some asked) (TakesAllOrLess (k.source k.before) (k.source k.after))
spent_or_less k asked s =
    on_some asked (input_of k (Some asked)) (λ whole. TakesAllOrLess (k.source k.before) (k.source k.after) whole asked) (TakesAllOrLess (k.source k.before) (k.source k.after)) (λ input less. less) s.want

pub want : {Form I K : Type 0} (k : Case Form I K) (form : Option Form) (r : Ended) → Ran k form r → status_of r ≡ NO_MEMORY → OnInput k form (TakesAllOrLess (k.source k.before) (k.source k.after))
want {Form} k = by_end k (λ form r. status_of r ≡ NO_MEMORY → OnInput k form (TakesAllOrLess (k.source k.before) (k.source k.after)))
    (λ input out e. tt)
    (λ asked s e. spent_or_less k asked s)
    (λ asked why u. less asked why u)
    (λ asked why s e. spent_or_less k asked s)
    (λ asked s e. spent_or_less k asked s)
    (λ asked why s e. spent_or_less k asked s)
  where
    less : (asked : Form) (why : InputError) → Unread k asked why → status_of_failure (Input why) ≡ NO_MEMORY → OnInput k (Some asked) (TakesAllOrLess (k.source k.before) (k.source k.after))
    less asked input.ReadFault u e = absurd (omega (arith, e))
    less asked input.TooLong u e = absurd (omega (arith, e))
    less asked input.NoMemory u e = on_unread k asked (TakesAllOrLess (k.source k.before) (k.source k.after)) u (λ input told. inr (u.stops.want refl))

pub long : {Form I K : Type 0} (k : Case Form I K) (form : Option Form) (r : Ended) → Ran k form r → status_of r ≡ TOO_LONG → IsTooLong (k.source k.before) (k.source k.after)
long {Form} k = by_end k (λ form r. status_of r ≡ TOO_LONG → IsTooLong (k.source k.before) (k.source k.after))
    (λ input out e. absurd (omega (arith, e)))
    (λ asked s e. absurd (omega (arith, e)))
    (λ asked why u. too_long asked why u)
    (λ asked why s e. absurd (no_fault why TOO_LONG refl e))
    (λ asked s e. absurd (omega (arith, e)))
    (λ asked why s e. absurd ((stopped_status why).5 e))
  where
    too_long : (asked : Form) (why : InputError) → Unread k asked why → status_of_failure (Input why) ≡ TOO_LONG → IsTooLong (k.source k.before) (k.source k.after)
    too_long asked input.ReadFault u e = absurd (omega (arith, e))
    too_long asked input.TooLong u e = u.stops.long refl
    too_long asked input.NoMemory u e = absurd (omega (arith, e))

-- a fault of the source that was counted means READ
pub read_comes : {Form I K : Type 0} (k : Case Form I K) (form : Option Form) (r : Ended) → Ran k form r → (k.source k.before).faults < (k.source k.after).faults → status_of r ≡ READ
read_comes k = by_end k (λ form r. (k.source k.before).faults < (k.source k.after).faults → status_of r ≡ READ)
    (λ input out moved. absurd (stays (ap (λ source. (k.source source).faults) input) moved))
    (λ asked s moved. absurd (stays s.faults moved))
    (λ asked why u moved. ap (λ why. status_of_failure (Input why)) (u.stops.moved moved))
    (λ asked why s moved. absurd (stays s.faults moved))
    (λ asked s moved. absurd (stays s.faults moved))
    (λ asked why s moved. absurd (stays s.faults moved))
  where
    stays : (k.source k.after).faults ≡ (k.source k.before).faults → (k.source k.before).faults < (k.source k.after).faults → ⊥
    stays e moved = omega (arith, e, moved)

-- ---- the status that is due

due_unread : {Form I K : Type 0} (k : Case Form I K) (asked : Form) (why : InputError) → Unread k asked why → (Rose (k.source k.before).faults (k.source k.after).faults → ⊥)
    → OnInput k (Some asked) (OnShort (IsStatusDue k.terms (status_of (Err (Input why)))))
due_unread k asked input.ReadFault u quiet = absurd (quiet (u.stops.fault refl))
due_unread k asked input.TooLong u quiet = on_unread k asked (OnShort (IsStatusDue k.terms TOO_LONG)) u (λ input told short.
    let long : TakesOneMore input (k.source k.after).left = subst (λ left. IfSome left (λ all. TakesOneMore all (k.source k.after).left)) told (u.stops.long refl) in absurd (omega (arith, short, long.long)))
due_unread k asked input.NoMemory u quiet = on_unread k asked (OnShort (IsStatusDue k.terms NO_MEMORY)) u (λ input told short. inr refl)

due_stopped : {Form I K : Type 0} (k : Case Form I K) (asked : Form) (why : SinkError) → Served k asked (Err (Write why)) → (Rose (k.sink k.old).faults (k.sink k.new).faults → ⊥)
    → OnInput k (Some asked) (OnShort (IsStatusDue k.terms (status_of (Err (Write why)))))
due_stopped k asked sink.Failed s quiet = absurd (quiet (stop_is_fault k.sink s.serves.bytes k.old k.new (k.terms.partly (Some asked)) s.serves.stops))
due_stopped k asked sink.NoMemory s quiet = on_input asked (input_of k (Some asked)) (OnShort (IsStatusDue k.terms NO_MEMORY)) (λ input told short. inr refl)

pub comes : {Form I K : Type 0} (k : Case Form I K) (form : Option Form) (r : Ended) → Ran k form r → AreQuiet k.source k.sink k.before k.after k.old k.new → OnInput k form (OnShort (IsStatusDue k.terms (status_of r)))
comes k form r ran quiet = by_end k (λ form r. OnInput k form (OnShort (IsStatusDue k.terms (status_of r))))
    (λ input out. tt)
    (λ asked s. on_served k asked (OnShort (IsStatusDue k.terms DONE)) s (λ short. inl (record { found = None; bytes = s.serves.bytes; due = s.serves.due; is = refl })))
    (λ asked why u. due_unread k asked why u quiet.input)
    (λ asked why s. on_served k asked (OnShort (IsStatusDue k.terms (status_of_fault why))) s (λ short. inl (record { found = Some why; bytes = s.serves.all.bytes; due = s.serves.all.due; is = refl })))
    (λ asked s. on_served k asked (OnShort (IsStatusDue k.terms NO_MEMORY)) s (λ short. inr refl))
    (λ asked why s. due_stopped k asked why s quiet.out)
    form r ran
