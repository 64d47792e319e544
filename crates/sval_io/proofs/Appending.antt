-- How what a sink took joins: piece after piece.
use Rattle.std.specs.Prelude.{◌≡◌, ℕ, ◌+◌, ◌<◌, ◌≤◌, List, [], ◌++◌, Option, Some, None, IfSome, take, length, refl}
use Rattle.std.proofs.Common.{sym, ap, ◌∙◌, subst, arith, append_assoc, append-nil}
use Rattle.std.proofs.lemmas.List.{length-append, take-append-le, take_all}
use Rattle.std.proofs.Math.Seq.{take-append-add}
use Rattle.sval_core.specs.Law.{Rose}
use Rattle.sval_io.specs.declared.sink.SinkError.{SinkError}
use Rattle.sval_io.specs.declared.sink.SinkError.TheVariants.{Failed, NoMemory}
use Rattle.sval_io.specs.Sinks.{Told, IsSteady, NoCountFell, IsCounted, appended, less_room, LacksRoom, Appends, AppendsFront, AppendsPart, WritesWhole, WritesFront}

pub appended-appended : (told : Option (List ℕ)) (xs ys : List ℕ) → appended (appended told xs) ys ≡ appended told (xs ++ ys)
appended-appended None xs ys = refl
appended-appended (Some text) xs ys = ap Some (append_assoc text xs ys)

pub appended-nothing : (told : Option (List ℕ)) → appended told [] ≡ told
appended-nothing None = refl
appended-nothing (Some text) = ap Some (append-nil text)

-- ---- the room

pub less_room-zero : (room : Option ℕ) → less_room room 0 ≡ room
less_room-zero None = refl
less_room-zero (Some left) = ap Some (omega arith)

pub less_room-less_room : (room : Option ℕ) (n m : ℕ) → less_room (less_room room n) m ≡ less_room room (n + m)
less_room-less_room None n m = refl
less_room-less_room (Some left) n m = ap Some (omega arith)

pub room_for_nothing : (room : Option ℕ) → IfSome room (λ left. 0 ≤ left)
room_for_nothing None = tt
room_for_nothing (Some left) = omega arith

pub room_for_both : (room : Option ℕ) (n m : ℕ) → IfSome room (λ left. n ≤ left) → IfSome (less_room room n) (λ left. m ≤ left) → IfSome room (λ left. n + m ≤ left)
room_for_both None n m h k = tt
room_for_both (Some left) n m h k = omega (arith, h, k)

-- where there was room for the first bytes, and none for the next, there was none for all
pub lacks_both : (old mid : Told) (xs ys zs : List ℕ) → Appends old xs mid → LacksRoom mid ys → LacksRoom old (xs ++ (ys ++ zs))
lacks_both old mid xs ys zs a lacks =
    let size : length (xs ++ (ys ++ zs)) ≡ length xs + (length ys + length zs) = length-append xs (ys ++ zs) ∙ ap (λ n. length xs + n) (length-append ys zs) in
    by_room old.room a.fits (subst (λ room. IfSome room (λ left. left < length ys)) a.room lacks) size
  where
    by_room : (room : Option ℕ) → IfSome room (λ left. length xs ≤ left) → IfSome (less_room room (length xs)) (λ left. left < length ys)
        → length (xs ++ (ys ++ zs)) ≡ length xs + (length ys + length zs) → IfSome room (λ left. left < length (xs ++ (ys ++ zs)))
    by_room None fits lacks size = tt
    by_room (Some left) fits lacks size = omega (arith, fits, lacks, size)

-- ---- what was taken

pub appends_nothing : (told : Told) → Appends told [] told
appends_nothing told = record { fits = room_for_nothing told.room; text = sym (appended-nothing told.text); room = sym (less_room-zero told.room) }

pub appends_both : {old mid new : Told} (xs ys : List ℕ) → Appends old xs mid → Appends mid ys new → Appends old (xs ++ ys) new
appends_both {old} {mid} {new} xs ys a b =
    let size : length xs + length ys ≡ length (xs ++ ys) = sym (length-append xs ys) in
    let both = room_for_both old.room (length xs) (length ys) a.fits (subst (λ room. IfSome room (λ left. length ys ≤ left)) a.room b.fits) in
    record {
      fits = subst (λ n. IfSome old.room (λ left. n ≤ left)) size both;
      text = b.text ∙ ap (λ text. appended text ys) a.text ∙ appended-appended old.text xs ys;
      room = b.room ∙ ap (λ room. less_room room (length ys)) a.room ∙ less_room-less_room old.room (length xs) (length ys) ∙ ap (less_room old.room) size;
    }

pub all_is_front : {old new : Told} (bytes : List ℕ) → Appends old bytes new → AppendsFront old bytes new
all_is_front {old} {new} bytes a = record {
  count = length bytes;
  within = omega arith;
  appends = subst (λ taken. Appends old taken new) (sym (take_all (length bytes) bytes (omega arith))) a;
}

-- a first part of what comes after some bytes is, with these bytes, a first part of the whole
pub front_after : {old mid new : Told} {whole : List ℕ} (xs ys zs : List ℕ) → Appends old xs mid → whole ≡ xs ++ (ys ++ zs) → AppendsFront mid ys new → AppendsFront old whole new
front_after {old} {mid} {new} {whole} xs ys zs a w f = record {
  count = length xs + f.count;
  within = let size : length whole ≡ length xs + (length ys + length zs) = ap length w ∙ length-append xs (ys ++ zs) ∙ ap (λ n. length xs + n) (length-append ys zs) in omega (arith, f.within);
  appends =
      let taken : xs ++ take f.count ys ≡ take (length xs + f.count) whole =
      ap (λ r. xs ++ r) (sym (take-append-le f.count ys zs f.within)) ∙ sym (take-append-add xs (ys ++ zs) f.count) ∙ ap (take (length xs + f.count)) (sym w) in
      subst (λ bytes. Appends old bytes new) taken (appends_both xs (take f.count ys) a f.appends);
}

-- the same of a first part that isn't all
pub part_after : {old mid new : Told} {whole : List ℕ} (xs ys zs : List ℕ) → Appends old xs mid → whole ≡ xs ++ (ys ++ zs) → AppendsPart mid ys new → AppendsPart old whole new
part_after {old} {mid} {new} {whole} xs ys zs a w p = record {
  count = length xs + p.count;
  within = let size : length whole ≡ length xs + (length ys + length zs) = ap length w ∙ length-append xs (ys ++ zs) ∙ ap (λ n. length xs + n) (length-append ys zs) in omega (arith, p.within);
  appends =
      let taken : xs ++ take p.count ys ≡ take (length xs + p.count) whole =
      ap (λ r. xs ++ r) (sym (take-append-le p.count ys zs (omega (arith, p.within)))) ∙ sym (take-append-add xs (ys ++ zs) p.count) ∙ ap (take (length xs + p.count)) (sym w) in
      subst (λ bytes. Appends old bytes new) taken (appends_both xs (take p.count ys) a p.appends);
}

-- ---- the counts

pub steady_alone : (told : Told) → IsSteady told told
steady_alone told = record { faults = refl; wants = refl }

pub steady_both : {old mid new : Told} → IsSteady old mid → IsSteady mid new → IsSteady old new
steady_both s t = record { faults = t.faults ∙ s.faults; wants = t.wants ∙ s.wants }

pub steady_counts : {old new : Told} → IsSteady old new → NoCountFell old new
steady_counts {old} s = record { faults = subst (λ n. old.faults ≤ n) (sym s.faults) (omega arith); wants = subst (λ n. old.wants ≤ n) (sym s.wants) (omega arith) }

pub counts_since : {old mid new : Told} → IsSteady old mid → NoCountFell mid new → NoCountFell old new
counts_since {new = new} s n = record { faults = subst (λ count. count ≤ new.faults) s.faults n.faults; wants = subst (λ count. count ≤ new.wants) s.wants n.wants }

pub counted_since : {old mid : Told} (new : Told) (why : SinkError) → IsSteady old mid → IsCounted why mid new → IsCounted why old new
counted_since new Failed s c = subst (λ count. Rose count new.faults) s.faults c
counted_since new NoMemory s c = subst (λ count. Rose count new.wants) s.wants c

-- ---- whole pieces

pub writes_nothing : (told : Told) → WritesWhole told [] told
writes_nothing told = record { appends = appends_nothing told; steady = steady_alone told }

pub writes_both : {old mid new : Told} (xs ys : List ℕ) → WritesWhole old xs mid → WritesWhole mid ys new → WritesWhole old (xs ++ ys) new
writes_both xs ys w v = record { appends = appends_both xs ys w.appends v.appends; steady = steady_both w.steady v.steady }

-- after some first bytes, it stopped within the next
pub stops_after : {old mid new : Told} {why : SinkError} {whole : List ℕ} (xs ys zs : List ℕ) → WritesWhole old xs mid → whole ≡ xs ++ (ys ++ zs) → WritesFront why mid ys new → WritesFront why old whole new
stops_after {old} {mid} {new} {why} {whole} xs ys zs w e f = record {
  front = front_after xs ys zs w.appends e f.front;
  part = part_after xs ys zs w.appends e f.part;
  cause = counted_since new why w.steady f.cause;
  full = λ failed. subst (LacksRoom old) (sym e) (lacks_both old mid xs ys zs w.appends (f.full failed));
  counts = counts_since w.steady f.counts;
}
