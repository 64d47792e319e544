-- What the frames around the innermost one are, with the innermost of them first.
use Rattle.std.specs.Prelude.{◌≡◌, ℕ, suc, true, false, List, [], ◌∷◌, ◌++◌, length, reverse, Option, Some, None, refl}
use Rattle.std.proofs.Common.{sym, ap, ◌∙◌}
use Rattle.std.proofs.lemmas.List.{reverse-append, length-reverse}
use Rattle.sval_cbor_read.specs.declared.stack.Frame as made_frame
use Rattle.sval_cbor_read.specs.declared.outer.Kept as made_kept
use Rattle.sval_cbor_read.specs.declared.outer.Kept.TheVariants as kept
use Rattle.sval_cbor_read.specs.Reading.{OpenItem}
use Rattle.sval_cbor_read.specs.SeenFrames.{open_frames}
use Rattle.sval_cbor_read.specs.KeptFrames.{is_counted, kept_frame, first_count, counts_behind, kept_frames, TakesFrame}

-- the frame that is kept last is the first of all
pub kept_first : (frames : List made_kept.Kept) (frame : made_kept.Kept) (counts : List ℕ)
    → kept_frames (reverse (frames ++ (frame ∷ []))) counts ≡ kept_frame frame (first_count counts) ∷ kept_frames (reverse frames) (counts_behind (is_counted frame) counts)
kept_first frames frame counts = ap (λ all. kept_frames all counts) (reverse-append frames (frame ∷ []))

any_count : (frame : made_kept.Kept) (count other : ℕ) → is_counted frame ≡ false → kept_frame frame count ≡ kept_frame frame other
any_count kept.Items count other e = cc e
any_count kept.NoItems count other e = refl
any_count kept.ItemsToBreak count other e = refl
any_count kept.Keys count other e = cc e
any_count kept.NoKeys count other e = refl
any_count kept.KeysToBreak count other e = refl
any_count kept.Values count other e = cc e
any_count kept.LastValue count other e = refl
any_count kept.ValuesToBreak count other e = refl

pub uncounted : (frames : List made_kept.Kept) (frame : made_kept.Kept) (counts : List ℕ) → is_counted frame ≡ false → kept_frames (reverse (frames ++ (frame ∷ []))) counts ≡ kept_frame frame 0 ∷ kept_frames (reverse frames) counts
uncounted frames frame counts e =
    kept_first frames frame counts ∙ ap (λ b. kept_frame frame (first_count counts) ∷ kept_frames (reverse frames) (counts_behind b counts)) e
    ∙ ap (λ x. x ∷ kept_frames (reverse frames) counts) (any_count frame (first_count counts) 0 e)

pub counted : (frames : List made_kept.Kept) (frame : made_kept.Kept) (counts : List ℕ) (count : ℕ) → is_counted frame ≡ true
    → kept_frames (reverse (frames ++ (frame ∷ []))) (reverse (counts ++ (count ∷ []))) ≡ kept_frame frame count ∷ kept_frames (reverse frames) (reverse counts)
counted frames frame counts count e =
    kept_first frames frame (reverse (counts ++ (count ∷ [])))
    ∙ ap (λ all. kept_frame frame (first_count all) ∷ kept_frames (reverse frames) (counts_behind (is_counted frame) all)) (reverse-append counts (count ∷ []))
    ∙ ap (λ b. kept_frame frame count ∷ kept_frames (reverse frames) (counts_behind b (count ∷ reverse counts))) e

kept_count : (frames : List made_kept.Kept) (counts : List ℕ) → length (kept_frames frames counts) ≡ length frames
kept_count [] counts = refl
kept_count (frame ∷ frames) counts = ap suc (kept_count frames (counts_behind (is_counted frame) counts))

pub kept_length : (frames : List made_kept.Kept) (counts : List ℕ) → length (kept_frames (reverse frames) (reverse counts)) ≡ length frames
kept_length frames counts = kept_count (reverse frames) (reverse counts) ∙ length-reverse frames

pub taken : (result : Option made_frame.Frame) (old new : List OpenItem) → TakesFrame result old new → open_frames result new ≡ old
taken None old new t = sym t
taken (Some frame) old new t = sym t
