-- Texts: blocks that are UTF-8.
use Rattle.std.proofs.Common.{◌≡◌, ℕ, cond, List, Some, None, sym, ap, ◌∙◌}
use Rattle.std.specs.Prelude.{option_and_then}
use Rattle.std.specs.Str.{IsUtf8, is_utf8}
use Rattle.std.proofs.lemmas.Str.{is_utf8-from_IsUtf8, IsUtf8-from_is_utf8}
use Rattle.std.proofs.lemmas.Bool.{false_from_ne_true}
use Rattle.sval_tape.specs.Reading.{block_at, text_at}

pub text_kept : (bytes text block rest : List ℕ) → block_at bytes ≡ Some (block, rest) → text ≡ block → IsUtf8 block → text_at bytes ≡ Some (text, rest)
unfolding text_at
text_kept bytes text block rest e same utf8 =
    ap (option_and_then (λ (r : List ℕ × List ℕ). cond (is_utf8 r.0) (Some r) None)) e
    ∙ ap (λ b. cond b (Some (block, rest)) None) (is_utf8-from_IsUtf8 block utf8) ∙ ap (λ (t : List ℕ). Some (t, rest)) (sym same)

pub text_refused : (bytes block rest : List ℕ) → block_at bytes ≡ Some (block, rest) → (IsUtf8 block → ⊥) → text_at bytes ≡ None
unfolding text_at
text_refused bytes block rest e never =
    ap (option_and_then (λ (r : List ℕ × List ℕ). cond (is_utf8 r.0) (Some r) None)) e
    ∙ ap (λ b. cond b (Some (block, rest)) None) (false_from_ne_true (is_utf8 block) (λ t. never (IsUtf8-from_is_utf8 block t)))
