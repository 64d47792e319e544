-- A line that is read part by part.
use Rattle.std.specs.Prelude.{◌≡◌, ◌≢◌, ℕ, ◌<◌, Bool, true, false, not, ◌==◌, List, [], ◌∷◌, ◌++◌, Option, Some, None, option_map, IfSome, take, drop, length, refl}
use Rattle.std.proofs.Common.{sym, ap, ◌∙◌, subst, arith, append_assoc, append-nil}
use Rattle.std.proofs.lemmas.List.{take-append-drop, length-take-le}
use Rattle.std.proofs.lemmas.List.Folds.{list_all-append}
use Rattle.sval_io.specs.Sources.{Supply, TakesFirst, Gives}
use Rattle.sval_lines.specs.SourceLines.{ahead_of, has_no_feed, EndsBefore, by_feed, by_end, TakesLine, TakesOrEnds, TakesPart}
use Rattle.sval_lines.specs.LineParts.{MovesUpToFeed, MovesAll, ReadsAhead, HasNoMore, Refills}

-- of what was left at first the line has the front, and these bytes and the source have the rest
abbrev pub Stands : Option (List ℕ) → List ℕ → List ℕ → Supply → Type 0
Stands start line bytes supply = IfSome start (λ all. TakesPart all line (ahead_of bytes supply))

pub starts : (start : Option (List ℕ)) (bytes : List ℕ) (supply : Supply) → start ≡ ahead_of bytes supply → Stands start [] bytes supply
starts None bytes supply e = tt
starts (Some all) bytes supply e = record { rest = all; same = refl; left = sym e }

no_feeds : (xs ys : List ℕ) → has_no_feed xs ≡ true → has_no_feed ys ≡ true → has_no_feed (xs ++ ys) ≡ true
no_feeds xs ys h k = list_all-append (λ byte. not (byte == 10)) xs ys ∙ rw (h, k) refl

-- what is left in all, by what the source has left
record Split (left : Option (List ℕ)) (bytes rest : List ℕ) : Type 0 where
  behind : List ℕ
  known : left ≡ Some behind
  same : rest ≡ bytes ++ behind

split : (left : Option (List ℕ)) (bytes rest : List ℕ) → option_map (λ l. bytes ++ l) left ≡ Some rest → Split left bytes rest
split None bytes rest e = absurd (cc e)
split (Some l) bytes rest e = record { behind = l; known = refl; same = cc e }

pub moved_all : (start : Option (List ℕ)) (line bytes rest next : List ℕ) (supply : Supply) → Stands start line bytes supply → MovesAll bytes line rest next → Stands start next rest supply
moved_all None line bytes rest next supply s m = tt
moved_all (Some all) line bytes rest next supply s m =
    let p = split supply.left bytes s.rest s.left in
    record {
      rest = p.behind;
      same = s.same ∙ ap (λ x. line ++ x) p.same ∙ sym (append_assoc line bytes p.behind) ∙ ap (λ x. x ++ p.behind) (sym m.moved);
      left = ap (option_map (λ l. rest ++ l)) p.known ∙ ap (λ x. Some (x ++ p.behind)) m.empty;
    }

pub all_no_feed : (line bytes rest next : List ℕ) → has_no_feed line ≡ true → MovesAll bytes line rest next → has_no_feed next ≡ true
all_no_feed line bytes rest next h m = ap has_no_feed m.moved ∙ no_feeds line bytes h m.no_feed

pub moved_feed : (start : Option (List ℕ)) (line bytes rest next : List ℕ) (supply : Supply) → Stands start line bytes supply → has_no_feed line ≡ true → MovesUpToFeed bytes line rest next
    → IfSome start (λ all. TakesLine all next (ahead_of rest supply))
moved_feed None line bytes rest next supply s h m = tt
moved_feed (Some all) line bytes rest next supply s h m =
    let p = split supply.left bytes s.rest s.left in
    let whole : all ≡ next ++ (10 ∷ (rest ++ p.behind)) =
    s.same ∙ ap (λ x. line ++ x) (p.same ∙ ap (λ x. x ++ p.behind) m.same ∙ append_assoc m.part (10 ∷ rest) p.behind)
    ∙ sym (append_assoc line m.part (10 ∷ (rest ++ p.behind))) ∙ ap (λ x. x ++ (10 ∷ (rest ++ p.behind))) (sym m.moved) in
    record {
      rest = rest ++ p.behind;
      no_feed = ap has_no_feed m.moved ∙ no_feeds line m.part h m.no_feed;
      ends = subst (λ x. EndsBefore x next (rest ++ p.behind)) (sym whole) by_feed;
      left = ap (option_map (λ l. rest ++ l)) p.known;
    }

pub refilled : (start : Option (List ℕ)) (line bytes : List ℕ) (old new : Supply) → Stands start line [] old → Refills true old bytes new → Stands start line bytes new
refilled None line bytes old new s r = tt
refilled (Some all) line bytes old new s r =
    let p = split old.left [] s.rest s.left in
    let ahead : ReadsAhead p.behind bytes new.left = subst (λ l. IfSome l (λ a. ReadsAhead a bytes new.left)) p.known r.read in
    record {
      rest = s.rest;
      same = s.same;
      left = ap (option_map (λ l. bytes ++ l)) ahead.left ∙ ap (λ x. Some x) (sym ahead.same ∙ sym p.same);
    }

pub ended : (start : Option (List ℕ)) (line bytes : List ℕ) (old new : Supply) → Stands start line [] old → has_no_feed line ≡ true → Refills false old bytes new
    → (empty : Bool) → (empty ≡ true → line ≡ []) → (empty ≡ false → line ≢ []) → IfSome start (λ all. TakesOrEnds (not empty) all line (ahead_of bytes new))
ended None line bytes old new s h r empty e n = tt
ended (Some all) line bytes old new s h r empty e n = go empty e n
  where
    p : Split old.left [] s.rest
    p = split old.left [] s.rest s.left

    over : HasNoMore p.behind new.left
    over = subst (λ l. IfSome l (λ a. HasNoMore a new.left)) p.known r.read

    left : ahead_of bytes new ≡ Some []
    left = ap (option_map (λ l. bytes ++ l)) over.left ∙ ap (λ x. Some (x ++ [])) (r.none refl)

    whole : all ≡ line
    whole = s.same ∙ ap (λ x. line ++ x) (p.same ∙ over.empty) ∙ append-nil line

    go : (b : Bool) → (b ≡ true → line ≡ []) → (b ≡ false → line ≢ []) → TakesOrEnds (not b) all line (ahead_of bytes new)
    go true e n = record { empty = whole ∙ e refl; left = left }
    go false e n = record { rest = []; no_feed = h; ends = subst (λ x. EndsBefore x line []) (sym whole) (by_end (n refl)); left = left }

-- ---- the ends of a line

pub first_feed_moved : (start : Option (List ℕ)) (line bytes rest next : List ℕ) (old new : Supply) → start ≡ ahead_of bytes old → new ≡ old → line ≡ [] → MovesUpToFeed bytes line rest next
    → IfSome start (λ all. TakesLine all next (ahead_of rest new))
first_feed_moved start line bytes rest next old new e f g m =
    let s : Stands start line bytes new = subst (λ x. Stands start x bytes new) (sym g) (starts start bytes new (e ∙ ap (ahead_of bytes) (sym f))) in
    moved_feed start line bytes rest next new s (ap has_no_feed g) m

pub later_feed_moved : (start : Option (List ℕ)) (line kept bytes rest next : List ℕ) (old mid new : Supply) → Stands start line [] old → has_no_feed line ≡ true → Refills true old bytes mid
    → kept ≡ line → new ≡ mid → MovesUpToFeed bytes kept rest next → IfSome start (λ all. TakesLine all next (ahead_of rest new))
later_feed_moved start line kept bytes rest next old mid new s h r k n m =
    let t : Stands start line bytes mid = refilled start line bytes old mid s r in
    let u : Stands start kept bytes new = subst (λ x. Stands start x bytes new) (sym k) (subst (λ x. Stands start line bytes x) (sym n) t) in
    moved_feed start kept bytes rest next new u (ap has_no_feed k ∙ h) m

pub ended_line : (start : Option (List ℕ)) (line kept bytes : List ℕ) (old new : Supply) → Stands start line [] old → has_no_feed line ≡ true → Refills false old bytes new → kept ≡ line
    → (empty : Bool) → (empty ≡ true → kept ≡ []) → (empty ≡ false → kept ≢ []) → IfSome start (λ all. TakesOrEnds (not empty) all kept (ahead_of bytes new))
ended_line start line kept bytes old new s h r k empty e n =
    ended start kept bytes old new (subst (λ x. Stands start x [] old) (sym k) s) (ap has_no_feed k ∙ h) r empty e n

-- ---- one read

pub refills_some : (old new : Supply) (buffer bytes : List ℕ) (count : ℕ) → Gives count old buffer new → bytes ≡ take count buffer → 0 < count → Refills true old bytes new
refills_some old new buffer bytes count g e some = record {
  read = from old.left g.taken;
  filled = λ t none. absurd (omega (arith, length-take-le count buffer g.within, ap length (sym e ∙ none)));
  none = λ f. absurd (cc f);
  faults = g.faults;
}
  where
    from : (left : Option (List ℕ)) → IfSome left (λ all. TakesFirst all count buffer new.left) → IfSome left (λ all. ReadsAhead all bytes new.left)
    from None t = tt
    from (Some all) t = record { rest = drop count all; same = sym (take-append-drop count all) ∙ ap (λ x. x ++ drop count all) (sym (e ∙ t.taken)); left = t.left }

pub refills_none : (old new : Supply) (buffer bytes : List ℕ) (count : ℕ) → Gives count old buffer new → bytes ≡ [] → count ≡ 0 → 0 < length buffer → Refills false old bytes new
refills_none old new buffer bytes count g e none room = record {
  read = from old.left g.taken (g.end none room);
  filled = λ t. absurd (cc t);
  none = λ f. e;
  faults = g.faults;
}
  where
    from : (left : Option (List ℕ)) → IfSome left (λ all. TakesFirst all count buffer new.left) → IfSome left (λ all. all ≡ []) → IfSome left (λ all. HasNoMore all new.left)
    from None t e = tt
    from (Some all) t e = record { empty = e; left = t.left ∙ ap (λ x. Some (drop count x)) e ∙ ap (λ n. Some (drop n [])) none }
