-- What is written of items, keys and pairs as they are read.
use Rattle.std.specs.Prelude.{◌≡◌, ℕ, ◌+◌, ◌<◌, ◌≤◌, ◌==◌, pos, negsuc, true, false, List, [], ◌∷◌, ◌++◌, length, take, drop, get_or, codes, Ok, IsUtf8, refl}
use Rattle.std.specs.Fmt.{signed_decimal}
use Rattle.std.specs.List.{AllPass, between}
use Rattle.std.specs.Str.{IsAscii}
use Rattle.std.proofs.Common.{sym, ap, subst, ◌∙◌, append_assoc, append-nil, arith, drop_of_length-le}
use Rattle.std.proofs.lemmas.List.{take-take, length-drop, drop-drop}
use Rattle.std.proofs.lemmas.List.Elements.{All-take}
use Rattle.std.proofs.lemmas.Str.{IsAscii-take, IsUtf8-from_ascii, is_utf8-from_IsUtf8}
use Rattle.sval_label.specs.Calls.{U64}
use Rattle.sval_core.specs.Trees as tree
use Rattle.sval_core.specs.Trees.{Tree}
use Rattle.sval_json.specs.declared.style.Variants.TheVariants.{Inside}
use Rattle.sval_json.specs.Escape.{escaped, is_plain}
use Rattle.sval_json.specs.Json as json
use Rattle.sval_json.specs.Json.{Json, compact, compact_items}
use Rattle.sval_json.specs.Shape.{byte_items, shape}
use Rattle.sval_json.proofs.EscapedPieces.{escaped-plain}
use Rattle.sval_json.proofs.WritingKeys.{signed_escaped}
use Rattle.sval_cbor_read.specs.declared.head.Head.{Head}
use Rattle.sval_cbor_read.specs.Items.{IsItem, IsBody, by_head, head_at_front, unsigned, negative, negative_type, binary, text, tagged, falsehood, truth, null}
use Rattle.sval_cbor_read.specs.ItemJson.{BodyAt, ItemAt, KeyAt, KeyBodyAt, NumberAt, TextAt}
use Rattle.sval_cbor_read.specs.SeenHeads.{IsHead}
use Rattle.sval_cbor_read.specs.SeenStrings.{IsBehind}
use Rattle.sval_cbor_read.proofs.Bignums.{bytes_at}
use Rattle.sval_cbor_read.proofs.ContainerJson.{in_brackets}
use Rattle.sval_cbor_read.proofs.JoinedNodes.{part_is}

-- ---- the buffer

-- a short text that is ASCII and plain is written as it is
pub plain_text : (number run front : ℕ) (behind : List ℕ) → number ≤ run → number ≤ front → AllPass is_plain (take run behind) → IsAscii (take front behind)
    → IsUtf8 (take number behind) × (take number behind ≡ escaped (take number behind))
plain_text number run front behind short near plain ascii =
    let text = take number behind in
    let all_plain : AllPass is_plain text = subst (AllPass is_plain) (take-take number run behind short) (All-take (λ byte. is_plain byte ≡ true) number (take run behind) plain) in
    let all_ascii : IsAscii text = subst IsAscii (take-take number front behind near) (IsAscii-take (take front behind) number ascii) in
    (IsUtf8-from_ascii text all_ascii, sym (escaped-plain text all_plain))

-- it was joined behind what was
pub plain_joined : (bytes ahead : List ℕ) (next number end run front : ℕ) (passed joined new : List ℕ) → ahead ≡ drop next bytes → end ≡ next + number → number ≤ run → number ≤ front → AllPass is_plain (take run ahead)
    → IsAscii (take front ahead) → new ≡ joined ++ between next end bytes → IsUtf8 (take number (drop next bytes)) × (passed ++ new ≡ (passed ++ joined) ++ escaped (take number (drop next bytes)))
plain_joined bytes ahead next number end run front passed joined new behind e short near plain ascii is =
    let text = plain_text number run front (drop next bytes) short near (subst (λ xs. AllPass is_plain (take run xs)) behind plain) (subst (λ xs. IsAscii (take front xs)) behind ascii) in
    (text.0, ap (λ x. passed ++ x) (is ∙ ap (λ x. joined ++ x) (part_is bytes next number end e ∙ text.1)) ∙ sym (append_assoc passed joined (escaped (take number (drop next bytes)))))

-- ---- texts and numbers

-- a text is a body, up to the place behind it
text_is_body : (bytes : List ℕ) (h : Head) (next : ℕ) → h.major ≡ 3 → h.next ≤ length bytes → next ≡ h.next + h.number → next ≤ length bytes → IsUtf8 (take h.number (drop h.next bytes))
    → IsBody h.major h.number (drop h.next bytes) (tree.Text (take h.number (drop h.next bytes))) (drop next bytes)
text_is_body bytes h next is before e within utf8 =
    let after = drop h.next bytes in
    let fits : h.number ≤ length after = omega (arith, length-drop h.next bytes, e, within) in
    let rest : drop h.number after ≡ drop next bytes = drop-drop h.number h.next bytes ∙ ap (λ n. drop n bytes) (sym e) in
    subst (λ x. IsBody x h.number after (tree.Text (take h.number after)) (drop next bytes)) (sym is)
    (subst (IsBody 3 h.number after (tree.Text (take h.number after))) rest (text fits (is_utf8-from_IsUtf8 (take h.number after) utf8)))

pub text_body : (bytes : List ℕ) (h : Head) (next : ℕ) {old new : List ℕ} → h.major ≡ 3 → h.next ≤ length bytes → TextAt bytes h (codes "\"") next old new → BodyAt bytes h next old new
text_body bytes h next is before t = record {
  tree = tree.Text (take h.number (drop h.next bytes));
  body = text_is_body bytes h next is before t.next_is t.within t.is_text;
  later = let e = t.next_is in omega (arith, e);
  within = t.within;
  json = json.text (take h.number (drop h.next bytes));
  shape_is = refl;
  written = t.written;
}

pub text_key : (bytes : List ℕ) (h : Head) (next : ℕ) {old new : List ℕ} → h.major ≡ 3 → h.next ≤ length bytes → TextAt bytes h (codes "\":") next old new → KeyBodyAt bytes h next old new
text_key bytes h next {old = old} is before t =
    let text = take h.number (drop h.next bytes) in
    record {
      tree = tree.Text text;
      body = text_is_body bytes h next is before t.next_is t.within t.is_text;
      later = let e = t.next_is in omega (arith, e);
      within = t.within;
      key = json.escaped_key text;
      key_is = refl;
      written = t.written ∙ ap (λ x. old ++ (codes "\"" ++ x)) (sym (append_assoc (escaped text) (codes "\"") (codes ":")));
    }

pub unsigned_at : (h : Head) {old new : List ℕ} → h.major ≡ 0 → new ≡ old ++ signed_decimal (pos h.number) → NumberAt h old new
unsigned_at h is w = record {
  type = U64;
  value = pos h.number;
  body = λ after. subst (λ x. IsBody x h.number after (tree.Int U64 (pos h.number)) after) (sym is) unsigned;
  written = w;
}

pub negative_at : (h : Head) {old new : List ℕ} → h.major ≡ 1 → new ≡ old ++ signed_decimal (negsuc h.number) → NumberAt h old new
negative_at h is w = record {
  type = negative_type h.number;
  value = negsuc h.number;
  body = λ after. subst (λ x. IsBody x h.number after (tree.Int (negative_type h.number) (negsuc h.number)) after) (sym is) negative;
  written = w;
}

pub number_body : (bytes : List ℕ) (h : Head) {old new : List ℕ} → h.next ≤ length bytes → NumberAt h old new → BodyAt bytes h h.next old new
number_body bytes h within n = record {
  tree = tree.Int n.type n.value;
  body = n.body (drop h.next bytes);
  later = omega arith;
  within = within;
  json = json.number (signed_decimal n.value);
  shape_is = refl;
  written = n.written;
}

-- a number's digits, between the quote and what closes a key
key_joined : (old comma digits : List ℕ) → ((old ++ (comma ++ codes "\"")) ++ digits) ++ codes "\":" ≡ (old ++ comma) ++ ((codes "\"" ++ (digits ++ codes "\"")) ++ codes ":")
key_joined old comma digits =
    append_assoc (old ++ (comma ++ codes "\"")) digits (codes "\":") ∙ ap (λ x. x ++ (digits ++ codes "\":")) (sym (append_assoc old comma (codes "\"")))
    ∙ append_assoc (old ++ comma) (codes "\"") (digits ++ codes "\":") ∙ ap (λ x. (old ++ comma) ++ (codes "\"" ++ x)) (sym (append_assoc digits (codes "\"") (codes ":")))

pub number_key : (bytes : List ℕ) (h : Head) (old comma : List ℕ) {opened digits new : List ℕ} → h.next ≤ length bytes → opened ≡ old ++ (comma ++ codes "\"") → NumberAt h opened digits → new ≡ digits ++ codes "\":"
    → KeyBodyAt bytes h h.next (old ++ comma) new
number_key bytes h old comma within opens n closes = record {
  tree = tree.Int n.type n.value;
  body = n.body (drop h.next bytes);
  later = omega arith;
  within = within;
  key = json.escaped_key (signed_decimal n.value);
  key_is = refl;
  written =
      closes ∙ ap (λ x. x ++ codes "\":") (n.written ∙ ap (λ x. x ++ signed_decimal n.value) opens) ∙ key_joined old comma (signed_decimal n.value)
      ∙ ap (λ x. (old ++ comma) ++ ((codes "\"" ++ (x ++ codes "\"")) ++ codes ":")) (sym (signed_escaped n.value));
}

-- ---- heads and what they begin

pub item_by_head : (bytes : List ℕ) (at : ℕ) (h : Head) (next : ℕ) {old new : List ℕ} → (at < h.next) × IsHead bytes at h (head_at_front (drop at bytes)) → BodyAt bytes h next old new → ItemAt bytes at next old new
item_by_head bytes at h next (further, (is, before, within)) b = record {
  tree = b.tree;
  item = by_head is b.body;
  later = let l = b.later in omega (arith, l, further);
  within = b.within;
  json = b.json;
  shape_is = b.shape_is;
  written = b.written;
}

pub key_by_head : (bytes : List ℕ) (at : ℕ) (h : Head) (next : ℕ) {old new : List ℕ} → (at < h.next) × IsHead bytes at h (head_at_front (drop at bytes)) → KeyBodyAt bytes h next old new → KeyAt bytes at next old new
key_by_head bytes at h next (further, (is, before, within)) b = record {
  tree = b.tree;
  item = by_head is b.body;
  later = let l = b.later in omega (arith, l, further);
  within = b.within;
  key = b.key;
  key_is = b.key_is;
  written = b.written;
}

-- ---- simple values

-- the word of a byte, which is an item by itself
module _ (bytes : List ℕ) (at : ℕ) {old commas new : List ℕ} (within : at < length bytes) where
  word_at : (byte : ℕ) (t : Tree) (value : Json) → get_or bytes at 0 ≡ byte → IsItem (byte ∷ drop (at + 1) bytes) t (drop (at + 1) bytes) → shape Inside t false ≡ Ok value → commas ≡ old → new ≡ commas ++ compact value → ItemAt bytes at (at + 1) old new
  word_at byte t value is item shaped same written = record {
    tree = t;
    item = subst (λ x. IsItem x t (drop (at + 1) bytes)) (sym (bytes_at bytes at within ∙ ap (λ x. x ∷ drop (at + 1) bytes) is)) item;
    later = omega arith;
    within = omega (arith, within);
    json = value;
    shape_is = shaped;
    written = written ∙ ap (λ x. x ++ compact value) same;
  }

  pub false_at : get_or bytes at 0 ≡ 244 → commas ≡ old → new ≡ commas ++ codes "false" → ItemAt bytes at (at + 1) old new
  false_at is same written = word_at 244 (tree.Truth false) (json.truth false) is falsehood refl same written

  pub true_at : get_or bytes at 0 ≡ 245 → commas ≡ old → new ≡ commas ++ codes "true" → ItemAt bytes at (at + 1) old new
  true_at is same written = word_at 245 (tree.Truth true) (json.truth true) is truth refl same written

  pub null_at : get_or bytes at 0 ≡ 246 → commas ≡ old → new ≡ commas ++ codes "null" → ItemAt bytes at (at + 1) old new
  null_at is same written = word_at 246 tree.Null json.null is null refl same written

-- ---- tags and byte strings

pub tagged_body : (bytes : List ℕ) (h : Head) (next : ℕ) {old new : List ℕ} → h.major ≡ 6 → (h.number ≡ 2 → ⊥) → (h.number ≡ 3 → ⊥) → ItemAt bytes h.next next (old ++ []) new → BodyAt bytes h next old new
tagged_body bytes h next {old = old} is no_big no_negative i = record {
  tree = i.tree;
  body = subst (λ x. IsBody x h.number (drop h.next bytes) i.tree (drop next bytes)) (sym is) (tagged no_big no_negative i.item);
  later = let l = i.later in omega (arith, l);
  within = i.within;
  json = i.json;
  shape_is = i.shape_is;
  written = i.written ∙ ap (λ x. x ++ compact i.json) (append-nil old);
}

-- all are written where none is left
pub bytes_done : (content : List ℕ) (k : ℕ) (now due : List ℕ) → length content ≤ k → now ++ compact_items (k == 0) (byte_items (drop k content)) ≡ due → now ≡ due
bytes_done content k now due past all = sym (append-nil now) ∙ ap (λ xs. now ++ compact_items (k == 0) (byte_items xs)) (sym (drop_of_length-le content past)) ∙ all

pub bytes_body : (bytes content : List ℕ) (h : Head) (next : ℕ) {old opened closed new : List ℕ} → h.major ≡ 2 → h.next ≤ length bytes → IsBehind bytes h content next → opened ≡ old ++ codes "["
    → closed ≡ opened ++ compact_items true (byte_items content) → new ≡ closed ++ codes "]" → BodyAt bytes h next old new
bytes_body bytes content h next {old = old} is before b opens all closes =
    let after = drop h.next bytes in
    let fits : h.number ≤ length after = let e = b.next_is in let w = b.within in omega (arith, length-drop h.next bytes, e, w) in
    let rest : drop h.number after ≡ drop next bytes = drop-drop h.number h.next bytes ∙ ap (λ n. drop n bytes) (sym b.next_is) in
    record {
      tree = tree.Binary content;
      body = subst (λ x. IsBody x h.number after (tree.Binary content) (drop next bytes)) (sym is)
          (subst (λ x. IsBody 2 h.number after (tree.Binary x) (drop next bytes)) (sym b.content_is) (subst (IsBody 2 h.number after (tree.Binary (take h.number after))) rest (binary fits)));
      later = let e = b.next_is in omega (arith, e);
      within = b.within;
      json = json.array (byte_items content);
      shape_is = refl;
      written = closes ∙ ap (λ x. x ++ codes "]") (all ∙ ap (λ x. x ++ compact_items true (byte_items content)) opens) ∙ in_brackets old (compact_items true (byte_items content));
    }
