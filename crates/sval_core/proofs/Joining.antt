-- How emissions join: one after another, and the parts of a list at any place.
use Rattle.std.specs.Prelude.{◌≡◌, ℕ, ◌+◌, ◌<◌, ◌≤◌, length, take, drop, get_or, Bool, true, false, List, [], ◌∷◌, ◌++◌, Result, Ok, Err, refl}
use Rattle.std.proofs.Common.{ap, ◌∙◌, sym, subst, append_assoc, append-nil}
use Rattle.std.proofs.lemmas.List.{take_more, drop_more, take-append-drop, take_all}
use Rattle.sval_label.specs.declared.error.Error.{Error}
use Rattle.sval_label.specs.Calls.{Call}
use Rattle.sval_core.specs.Law.{Standing, Law, Emission, silent, emits, then_emits, Streams, Stops, Emits}
use Rattle.sval_core.proofs.Emissions.{streams_then, stops_first, stops_later}
use Rattle.sval_core.specs.Values.{makes, between, parts_emission}

abbrev emission_of : List Call → Bool → Emission
emission_of calls refuses = record { calls = calls; refuses = refuses }

associate_by : (first second : List Call) (p q : Bool) (c : Emission)
    → then_emits (then_emits (emission_of first p) (emission_of second q)) c ≡ then_emits (emission_of first p) (then_emits (emission_of second q) c)
unfolding then_emits
associate_by first second true q c = refl
associate_by first second false true c = refl
associate_by first second false false c = ap (λ calls. emission_of calls c.refuses) (append_assoc first second c.calls)

pub associate : (a b c : Emission) → then_emits (then_emits a b) c ≡ then_emits a (then_emits b c)
associate a b c = associate_by a.calls b.calls a.refuses b.refuses c

pub silent_first : (e : Emission) → then_emits silent e ≡ e
unfolding then_emits silent
silent_first e = refl

silent_by : (calls : List Call) (refuses : Bool) → then_emits (emission_of calls refuses) silent ≡ emission_of calls refuses
unfolding then_emits silent
silent_by calls true = refl
silent_by calls false = ap (λ calls. emission_of calls false) (append-nil calls)

pub silent_last : (e : Emission) → then_emits e silent ≡ e
silent_last e = silent_by e.calls e.refuses

-- what a willing value makes between two calls
pub between_is : (begin end : Call) (e : Emission) → e.refuses ≡ false → between begin end e ≡ makes (begin ∷ (e.calls ++ end ∷ []))
unfolding then_emits emits
between_is begin end e willing = rw willing refl

module _ {T : Type 0} (emission : T → Emission) where
  pub parts_none : parts_emission emission [] ≡ silent
  unfolding parts_emission
  parts_none = refl

  pub parts_first : (x : T) (xs : List T) → parts_emission emission (x ∷ xs) ≡ then_emits (emission x) (parts_emission emission xs)
  unfolding parts_emission
  parts_first x xs = refl

  pub parts_join : (first second : List T) → parts_emission emission (first ++ second) ≡ then_emits (parts_emission emission first) (parts_emission emission second)
  unfolding parts_emission
  parts_join [] second = sym (silent_first (parts_emission emission second))
  parts_join (x ∷ first) second =
      ap (then_emits (emission x)) (parts_join first second) ∙ sym (associate (emission x) (parts_emission emission first) (parts_emission emission second))

  pub parts_one : (x : T) → parts_emission emission (x ∷ []) ≡ emission x
  unfolding parts_emission
  parts_one x = silent_last (emission x)

  -- the parts before one, that one, and those after it
  pub parts_around : (before after : List T) (x : T)
      → parts_emission emission (before ++ x ∷ after) ≡ then_emits (parts_emission emission before) (then_emits (emission x) (parts_emission emission after))
  parts_around before after x = parts_join before (x ∷ after) ∙ ap (then_emits (parts_emission emission before)) (parts_first x after)

  pub parts_pushed : (before : List T) (x : T) → parts_emission emission (before ++ x ∷ []) ≡ then_emits (parts_emission emission before) (emission x)
  parts_pushed before x = parts_join before (x ∷ []) ∙ ap (then_emits (parts_emission emission before)) (parts_one x)

  module _ {V : Type 0} {law : Law V} {old mid : Standing V} (front : Emission) where
    -- A loop over parts, after what comes before them. At the start no part was streamed;
    pub streams_no_parts : Streams law old front mid → Streams law old (then_emits front (parts_emission emission [])) mid
    streams_no_parts s = subst (λ e. Streams law old e mid) (sym (ap (then_emits front) parts_none ∙ silent_last front)) s

    -- then one part more is streamed,
    pub streams_pushed : {new : Standing V} (before : List T) (x : T)
        → Streams law old (then_emits front (parts_emission emission before)) mid → Streams law mid (emission x) new
        → Streams law old (then_emits front (parts_emission emission (before ++ x ∷ []))) new
    streams_pushed {new = new} before x s t =
        subst (λ e. Streams law old e new) (associate front (parts_emission emission before) (emission x) ∙ ap (then_emits front) (sym (parts_pushed before x))) (streams_then s t)

    -- or it stops, whatever would follow it;
    pub stops_among : {new : Standing V} (before after : List T) (x : T) (more : Emission)
        → Streams law old (then_emits front (parts_emission emission before)) mid → Stops law mid (emission x) new
        → Stops law old (then_emits front (then_emits (parts_emission emission (before ++ x ∷ after)) more)) new
    stops_among {new = new} before after x more s t =
        let first = parts_emission emission before in
        let last = parts_emission emission after in
        subst (λ e. Stops law old e new)
        (associate front first (then_emits (emission x) (then_emits last more))
        ∙ ap (then_emits front) (ap (then_emits first) (sym (associate (emission x) last more)) ∙ sym (associate first (then_emits (emission x) last) more)
        ∙ ap (λ e. then_emits e more) (sym (parts_around before after x))))
        (stops_later s (stops_first (then_emits last more) t))

    -- and after all parts what follows them is streamed,
    pub streams_after : {new : Standing V} (xs : List T) {more : Emission}
        → Streams law old (then_emits front (parts_emission emission xs)) mid → Streams law mid more new
        → Streams law old (then_emits front (then_emits (parts_emission emission xs) more)) new
    streams_after {new = new} xs {more = more} s t = subst (λ e. Streams law old e new) (associate front (parts_emission emission xs) more) (streams_then s t)

    -- or it stops.
    pub stops_after : {new : Standing V} (xs : List T) {more : Emission}
        → Streams law old (then_emits front (parts_emission emission xs)) mid → Stops law mid more new
        → Stops law old (then_emits front (then_emits (parts_emission emission xs) more)) new
    stops_after {new = new} xs {more = more} s t = subst (λ e. Stops law old e new) (associate front (parts_emission emission xs) more) (stops_later s t)

    -- The same for a loop over a slice, at the place of the part that was read.
    pub streams_part : {new : Standing V} (xs : List T) (i : ℕ) (x : T) → i < length xs → x ≡ get_or xs i x
        → Streams law old (then_emits front (parts_emission emission (take i xs))) mid → Streams law mid (emission x) new
        → Streams law old (then_emits front (parts_emission emission (take (i + 1) xs))) new
    streams_part {new = new} xs i x h is s t =
        subst (λ all. Streams law old (then_emits front (parts_emission emission all)) new) (ap (λ y. take i xs ++ y ∷ []) is ∙ sym (take_more xs i x h)) (streams_pushed (take i xs) x s t)

    pub stops_at_part : {new : Standing V} (xs : List T) (i : ℕ) (x : T) (more : Emission) → i < length xs → x ≡ get_or xs i x
        → Streams law old (then_emits front (parts_emission emission (take i xs))) mid → Stops law mid (emission x) new
        → Stops law old (then_emits front (then_emits (parts_emission emission xs) more)) new
    stops_at_part {new = new} xs i x more h is s t =
        subst (λ all. Stops law old (then_emits front (then_emits (parts_emission emission all) more)) new)
        (ap (λ y. take i xs ++ y ∷ drop (i + 1) xs) is ∙ ap (λ rest. take i xs ++ rest) (sym (drop_more xs i x h)) ∙ take-append-drop i xs)
        (stops_among (take i xs) (drop (i + 1) xs) x more s t)

    pub streams_after_parts : {new : Standing V} (xs : List T) (i : ℕ) {more : Emission} → length xs ≤ i
        → Streams law old (then_emits front (parts_emission emission (take i xs))) mid → Streams law mid more new
        → Streams law old (then_emits front (then_emits (parts_emission emission xs) more)) new
    streams_after_parts {new = new} xs i {more = more} h s t =
        streams_after xs (subst (λ all. Streams law old (then_emits front (parts_emission emission all)) mid) (take_all i xs h) s) t

    pub stops_after_parts : {new : Standing V} (xs : List T) (i : ℕ) {more : Emission} → length xs ≤ i
        → Streams law old (then_emits front (parts_emission emission (take i xs))) mid → Stops law mid more new
        → Stops law old (then_emits front (then_emits (parts_emission emission xs) more)) new
    stops_after_parts {new = new} xs i {more = more} h s t =
        stops_after xs (subst (λ all. Streams law old (then_emits front (parts_emission emission all)) mid) (take_all i xs h) s) t

    -- So what is answered after all parts is answered of the whole.
    pub emits_after : (new : Standing V) (r : Result (Unit {0}) Error) (xs : List T) (more : Emission)
        → Streams law old (then_emits front (parts_emission emission xs)) mid → Emits law r mid more new
        → Emits law r old (then_emits front (then_emits (parts_emission emission xs) more)) new
    emits_after new (Ok done) xs more s t = streams_after xs s t
    emits_after new (Err refusal) xs more s t = stops_after xs s t

    pub emits_after_parts : (new : Standing V) (r : Result (Unit {0}) Error) (xs : List T) (i : ℕ) (more : Emission) → length xs ≤ i
        → Streams law old (then_emits front (parts_emission emission (take i xs))) mid → Emits law r mid more new
        → Emits law r old (then_emits front (then_emits (parts_emission emission xs) more)) new
    emits_after_parts new (Ok done) xs i more h s t = streams_after_parts xs i h s t
    emits_after_parts new (Err refusal) xs i more h s t = stops_after_parts xs i h s t
