-- The text of an item that is put together before the writer takes it.
use Rattle.std.specs.Prelude.{◌≡◌, ℕ, ◌+◌, ◌-◌, ◌≤◌, Bool, true, List, ◌++◌, codes, take, drop}
use Rattle.std.specs.List.{AllPass, between as part}
use Rattle.std.proofs.Common.{sym, ap, ◌∙◌, subst, append_assoc, arith}
use Rattle.std.proofs.lemmas.List.{take-take}
use Rattle.std.proofs.lemmas.List.Elements.{All-take}
use Rattle.sval_json.specs.Escape.{escaped, is_plain}
use Rattle.sval_json.proofs.EscapedPieces.{escaped-plain}
use Rattle.sval_cbor_read.specs.declared.node.Place as made_place
use Rattle.sval_cbor_read.specs.JoinedNodes.{comma_in, quoted_in}

four_joined : (old before quote text behind : List ℕ) → ((old ++ before) ++ quote) ++ (text ++ behind) ≡ old ++ (before ++ (quote ++ (text ++ behind)))
four_joined old before quote text behind = append_assoc (old ++ before) quote (text ++ behind) ∙ append_assoc old before (quote ++ (text ++ behind))

-- the text between two places is so many bytes behind the first
pub part_is : (bytes : List ℕ) (next number end : ℕ) → end ≡ next + number → part next end bytes ≡ take number (drop next bytes)
part_is bytes next number end e =
    let size : end - next ≡ number = omega (arith, e) in
    ap (λ n. take n (drop next bytes)) size

pub text_joined : (p : made_place.Place) (f : Bool) (bytes : List ℕ) (next number end run : ℕ) (old a b c d behind : List ℕ) → a ≡ old ++ comma_in f p → b ≡ a ++ codes "\"" → c ≡ b ++ part next end bytes → d ≡ c ++ behind
    → end ≡ next + number → number ≤ run → AllPass is_plain (take run (drop next bytes)) → ((text : List ℕ) → quoted_in p text ≡ codes "\"" ++ (text ++ behind))
    → d ≡ old ++ (comma_in f p ++ quoted_in p (escaped (take number (drop next bytes))))
text_joined p f bytes next number end run old a b c d behind is_a is_b is_c is_d e short plain quoted =
    let text = take number (drop next bytes) in
    let same : part next end bytes ≡ escaped text = part_is bytes next number end e ∙ sym (escaped-plain text (subst (AllPass is_plain) (take-take number run (drop next bytes) short) (All-take (λ byte. is_plain byte ≡ true) number (take run (drop next bytes)) plain))) in
    let parts : c ≡ ((old ++ comma_in f p) ++ codes "\"") ++ escaped text = is_c ∙ ap (λ x. b ++ x) same ∙ ap (λ x. x ++ escaped text) (is_b ∙ ap (λ x. x ++ codes "\"") is_a) in
    is_d ∙ ap (λ x. x ++ behind) parts ∙ append_assoc ((old ++ comma_in f p) ++ codes "\"") (escaped text) behind
    ∙ four_joined old (comma_in f p) (codes "\"") (escaped text) behind ∙ ap (λ x. old ++ (comma_in f p ++ x)) (sym (quoted (escaped text)))
