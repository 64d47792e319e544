-- Lines that are written one after another.
use Rattle.std.specs.Prelude.{◌≡◌, ℕ, ◌+◌, ◌<◌, ◌≤◌, List, [], ◌∷◌, ◌++◌, Result, Ok, Err, length, take, drop, get_or, refl}
use Rattle.std.proofs.Common.{sym, ap, ◌∙◌, subst, append_assoc, append-nil}
use Rattle.std.proofs.lemmas.Grind.{flat_map-append}
use Rattle.std.proofs.lemmas.List.{take_more, take-append-drop, take_all}
use Rattle.sval_io.specs.declared.sink.SinkError.{SinkError}
use Rattle.sval_io.specs.Sinks.{Told, WritesWhole, WritesFront, WritesAll}
use Rattle.sval_io.proofs.Appending.{writes_nothing, writes_both, stops_after}
use Rattle.sval_buffer.specs.FlatForest.{FlatForest}
use Rattle.event_log.specs.Logs.{event_line, lines_of}

-- ---- two pieces

pub stops_first : {old new : Told} {why : SinkError} (xs ys : List ℕ) → WritesFront why old xs new → WritesFront why old (xs ++ ys) new
stops_first {old} xs ys f = stops_after [] xs ys (writes_nothing old) refl f

pub goes_on : {old mid : Told} (new : Told) (r : Result (Unit {0}) SinkError) (xs ys : List ℕ) → WritesWhole old xs mid → WritesAll r mid ys new → WritesAll r old (xs ++ ys) new
goes_on new (Ok done) xs ys w v = writes_both xs ys w v
goes_on new (Err why) xs ys w v = stops_after xs ys [] w (ap (λ more. xs ++ more) (sym (append-nil ys))) v

-- ---- a line more

module _ (events : List FlatForest) (i : ℕ) (event : FlatForest) (within : i < length events) (is : event ≡ get_or events i event) where
  one_more : lines_of (take (i + 1) events) ≡ lines_of (take i events) ++ event_line event
  one_more =
      ap lines_of (take_more events i event within) ∙ flat_map-append event_line (take i events) (get_or events i event ∷ [])
      ∙ ap (λ line. lines_of (take i events) ++ line) (append-nil (event_line (get_or events i event)) ∙ ap event_line (sym is))

  around : lines_of events ≡ lines_of (take i events) ++ (event_line event ++ lines_of (drop (i + 1) events))
  around =
      ap lines_of (sym (take-append-drop (i + 1) events)) ∙ flat_map-append event_line (take (i + 1) events) (drop (i + 1) events)
      ∙ ap (λ lines. lines ++ lines_of (drop (i + 1) events)) one_more ∙ append_assoc (lines_of (take i events)) (event_line event) (lines_of (drop (i + 1) events))

  pub writes_next : {old mid new : Told} → WritesWhole old (lines_of (take i events)) mid → WritesWhole mid (event_line event) new → WritesWhole old (lines_of (take (i + 1) events)) new
  writes_next {old} {new = new} w v = subst (λ lines. WritesWhole old lines new) (sym one_more) (writes_both (lines_of (take i events)) (event_line event) w v)

  pub stops_next : {old mid new : Told} {why : SinkError} → WritesWhole old (lines_of (take i events)) mid → WritesFront why mid (event_line event) new → WritesFront why old (lines_of events) new
  stops_next w f = stops_after (lines_of (take i events)) (event_line event) (lines_of (drop (i + 1) events)) w around f

pub writes_last : {old new : Told} (events : List FlatForest) (i : ℕ) → length events ≤ i → WritesWhole old (lines_of (take i events)) new → WritesWhole old (lines_of events) new
writes_last {old} {new} events i past w = subst (λ all. WritesWhole old (lines_of all) new) (take_all i events past) w

-- ---- two slices

pub writes_slices : {old mid : Told} (new : Told) (r : Result (Unit {0}) SinkError) (xs ys all : List FlatForest) → xs ++ ys ≡ all
    → WritesWhole old (lines_of xs) mid → WritesAll r mid (lines_of ys) new → WritesAll r old (lines_of all) new
writes_slices {old} new r xs ys all is w v =
    subst (λ lines. WritesAll r old lines new) (sym (flat_map-append event_line xs ys) ∙ ap lines_of is) (goes_on new r (lines_of xs) (lines_of ys) w v)
