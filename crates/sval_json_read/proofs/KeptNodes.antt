-- The flat list in which a document is kept: its calls, and how it grows.
use Rattle.std.specs.Prelude.{◌≡◌, ℕ, suc, ◌+◌, ◌-◌, ◌<◌, ◌≤◌, List, [], ◌∷◌, ◌++◌, length, take, drop, get_or, refl}
use Rattle.std.specs.List.{between}
use Rattle.std.proofs.Common.{sym, ap, subst, ◌∙◌, arith, take-suc, length-drop, get_or-drop}
use Rattle.std.proofs.lemmas.Grind.{flat_map-append}
use Rattle.sval_core.specs.Spells.{Spells}
use Rattle.sval_json_read.specs.Trees.{tree_of}
use Rattle.sval_json_read.specs.Documents.{IsDocument}
use Rattle.sval_json_read.specs.Calls.{placed_token_calls, document_calls}
use Rattle.sval_json_read.specs.Nodes.{JsonNode, placed_in, tokens_in, streamed}
use Rattle.sval_json_read.proofs.Documents.{document-calls}

pub streamed-calls : (bytes : List ℕ) (nodes : List JsonNode) → streamed bytes nodes ≡ document_calls (tokens_in bytes nodes)
streamed-calls bytes [] = refl
streamed-calls bytes (node ∷ nodes) = ap (λ x. placed_token_calls (placed_in bytes node) ++ x) (streamed-calls bytes nodes)

pub streamed-spells : (bytes : List ℕ) (nodes : List JsonNode) (d : IsDocument bytes (tokens_in bytes nodes)) → Spells (streamed bytes nodes) (tree_of d.value)
streamed-spells bytes nodes d = subst (λ x. Spells x (tree_of d.value)) (sym (streamed-calls bytes nodes)) (document-calls bytes (tokens_in bytes nodes) d)

pub tokens_in-append : (bytes : List ℕ) (nodes others : List JsonNode) → tokens_in bytes (nodes ++ others) ≡ tokens_in bytes nodes ++ tokens_in bytes others
tokens_in-append bytes [] others = refl
tokens_in-append bytes (node ∷ nodes) others = ap (λ x. placed_in bytes node ∷ x) (tokens_in-append bytes nodes others)

pub streamed-append : (bytes : List ℕ) (nodes others : List JsonNode) → streamed bytes (nodes ++ others) ≡ streamed bytes nodes ++ streamed bytes others
streamed-append bytes nodes others =
    flat_map-append (λ node. placed_token_calls (placed_in bytes node)) nodes others

-- ---- the bytes between two places

pub between_nothing : (bytes : List ℕ) (n : ℕ) → between n n bytes ≡ []
between_nothing bytes n = ap (λ k. take k (drop n bytes)) (let e : n - n ≡ 0 = omega arith in e)

pub between_more : (bytes : List ℕ) (from n : ℕ) → from ≤ n → n < length bytes → between from (n + 1) bytes ≡ between from n bytes ++ (get_or bytes n 0 ∷ [])
between_more bytes from n le l =
    ap (λ k. take k (drop from bytes)) (let e : n + 1 - from ≡ suc (n - from) = omega arith in e)
    ∙ take-suc (drop from bytes) (n - from) 0 (omega (arith, length-drop from bytes))
    ∙ ap (λ x. between from n bytes ++ (x ∷ [])) (get_or-drop from bytes (n - from) 0 ∙ ap (λ k. get_or bytes k 0) (let e : from + (n - from) ≡ n = omega arith in e))

pub between_one : (bytes : List ℕ) (n : ℕ) → n < length bytes → between n (n + 1) bytes ≡ get_or bytes n 0 ∷ []
between_one bytes n l = between_more bytes n n (omega arith) l ∙ ap (λ x. x ++ (get_or bytes n 0 ∷ [])) (between_nothing bytes n)
