-- What a text says that was printed before it was appended.
use Rattle.std.specs.Prelude.{◌≡◌, ℕ, List, [], ◌∷◌, ◌++◌, Option, Some, None, refl}
use Rattle.std.proofs.Common.{append-nil, append_assoc, sym, subst, ap, ◌∙◌}
use Rattle.std.specs.Fmt.{WritesText}
use Rattle.std.specs.List.{concat, FoldsTo}
use Rattle.std.specs.String.{string_bytes}
use Rattle.std.specs.declared.alloc.AllocError.{AllocError}
use Rattle.sval.specs.Rendered.{IsPrefixOf, Appended, AppendedPart, PrintsSome}
use Rattle.sval.specs.Shown.{IsPrinted}
use Rattle.sval.specs.Wrote.{Wrote}
use Rattle.sval.specs.declared.std_display.Written.{Written}

-- nothing was appended
pub nothing_appended : (told : Option (List ℕ)) (old : List ℕ) → AppendedPart told old old
nothing_appended None old = record { stands = record { rest = []; is = sym (append-nil old) }; part = tt }
nothing_appended (Some text) old = record { stands = record { rest = []; is = sym (append-nil old) }; part = record { rest = text; is = refl } }

-- a text that is what the value prints was appended
pub appended : (told : Option (List ℕ)) (text old new : List ℕ) → IsPrinted told text → Appended (Some text) old new → Appended told old new
appended None text old new is done = record { stands = done.stands; text = tt }
appended (Some printed) text old new is done = record { stands = done.stands; text = subst (λ (t : List ℕ). new ≡ old ++ t) is done.text }

pub appended_part : (told : Option (List ℕ)) (text old new : List ℕ) → IsPrinted told text → AppendedPart (Some text) old new → AppendedPart told old new
appended_part None text old new is done = record { stands = done.stands; part = tt }
appended_part (Some printed) text old new is done = record { stands = done.stands; part = subst (λ (t : List ℕ). IsPrefixOf new (old ++ t)) is done.part }

-- joined lists of bytes are empty only where each is
front_empty : (xs ys : List ℕ) → xs ++ ys ≡ [] → xs ≡ []
front_empty [] ys empty = refl
front_empty (x ∷ xs) ys empty = cc empty

rest_empty : (xs ys : List ℕ) → xs ++ ys ≡ [] → ys ≡ []
rest_empty [] ys empty = empty
rest_empty (x ∷ xs) ys empty = cc empty

-- memory wasn't wanting before, where it wasn't wanting by the end
none_earlier : (old : Written) (parts : List (List ℕ)) (new : Written) → FoldsTo Wrote old parts new → new.want ≡ None → old.want ≡ None
none_earlier old [] new is fine = ap (λ (w : Written). w.want) is ∙ fine
none_earlier old (part ∷ parts) new run fine = run.1.earlier (none_earlier run.0 parts new run.2 fine)

-- then each part was appended
all_appended : (old : Written) (parts : List (List ℕ)) (new : Written) → FoldsTo Wrote old parts new → new.want ≡ None → string_bytes new.text ≡ string_bytes old.text ++ concat parts
all_appended old [] new is fine = ap (λ (w : Written). string_bytes w.text) (sym is) ∙ sym (append-nil (string_bytes old.text))
all_appended old (part ∷ parts) new run fine =
    all_appended run.0 parts new run.2 fine
    ∙ ap (λ (l : List ℕ). l ++ concat parts) (run.1.appended (none_earlier run.0 parts new run.2 fine))
    ∙ append_assoc (string_bytes old.text) part (concat parts)

-- empty parts change nothing of what is wanting
none_wanting : (old : Written) (parts : List (List ℕ)) (new : Written) → FoldsTo Wrote old parts new → concat parts ≡ [] → new.want ≡ old.want
none_wanting old [] new is empty = ap (λ (w : Written). w.want) (sym is)
none_wanting old (part ∷ parts) new run empty =
    none_wanting run.0 parts new run.2 (rest_empty part (concat parts) empty) ∙ run.1.unchanged (front_empty part (concat parts) empty)

-- where memory wasn't wanting, a writer that held nothing holds what the value prints
pub printed_whole : (told : Option (List ℕ)) (old new : Written) → string_bytes old.text ≡ [] → WritesText Wrote old told new → new.want ≡ None → IsPrinted told (string_bytes new.text)
printed_whole None old new empty wrote fine = tt
printed_whole (Some text) old new empty wrote fine =
    all_appended old wrote.parts new wrote.calls fine ∙ ap (λ (l : List ℕ). l ++ concat wrote.parts) empty ∙ wrote.whole

-- where memory was wanting, the value prints something
pub wanting_prints : (told : Option (List ℕ)) (old new : Written) (cause : AllocError) → old.want ≡ None → WritesText Wrote old told new → new.want ≡ Some cause → PrintsSome told
wanting_prints None old new cause none wrote want prints_none = cc prints_none
wanting_prints (Some text) old new cause none wrote want prints_none =
    let empty : text ≡ [] = cc prints_none in
    let never : None ≡ Some cause = sym none ∙ sym (none_wanting old wrote.parts new wrote.calls (wrote.whole ∙ empty)) ∙ want in
    cc never
