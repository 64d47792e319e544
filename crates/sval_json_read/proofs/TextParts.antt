-- Pieces of a text that stand one directly behind the other, and parts whose escapes are written again as they are.
use Rattle.std.specs.Prelude.{◌≡◌, ℕ, ◌+◌, ◌-◌, ◌<◌, ◌≤◌, true, false, ◌==◌, List, [], ◌∷◌, ◌++◌, codes, length, drop, take, get_or, Option, Some, None, IfSome, refl}
use Rattle.std.specs.List.{between, list_all, starts_with}
use Rattle.std.proofs.Common.{sym, ap, subst, ◌∙◌, append_assoc, arith, inl, inr, take-append-drop, length-take-le, length-drop, length-append}
use Rattle.std.proofs.lemmas.Bool.{cases_lt, eqb-true}
use Rattle.std.proofs.lemmas.Bool.Decides.{Decides-eqb}
use Rattle.std.proofs.lemmas.List.{take_at}
use Rattle.std.proofs.lemmas.List.Edits.{between_more, between_none, get_or-between, length-between}
use Rattle.std.proofs.lemmas.Slice.{between_to_end}
use Rattle.std.proofs.lemmas.Slice.Eq.{starts_is}
use Rattle.memchr.specs.Find.{is_byte}
use Rattle.sval_json.specs.Escape.{escaped, in_quotes}
use Rattle.sval_json_read.specs.DueEscapes.{HasDueEscapes, done}
use Rattle.sval_json_read.specs.RawStrings.{IsRaw, is_no_backslash}
use Rattle.sval_json_read.specs.SeenValues.{text_in}
use Rattle.sval_json_read.specs.TextParts.{IsReadyPart, IsTextPiece}
use Rattle.sval_json_read.specs.declared.text_part.TextPart.{TextPart}
use Rattle.sval_json_read.proofs.DueEscapes.{due_joined, due_plain, due_behind_quote, due_front, due_string, IsDueFront}
use Rattle.sval_json_read.proofs.ExtendedPieces.{cut_out}
use Rattle.sval_json_read.proofs.PlainRuns.{between_run}

pub own_piece : (text : List ℕ) (from upto : ℕ) → from ≤ upto → upto ≤ length text → IsTextPiece text from upto (between from upto text)
own_piece text from upto o w = record { order = o; within = w; same = refl }

pub piece_byte : (text : List ℕ) (at byte : ℕ) → at < length text → get_or text at 0 ≡ byte → IsTextPiece text at (at + 1) (byte ∷ [])
piece_byte text at byte l e = record {
  order = omega arith;
  within = omega arith;
  same = between_more text at at 0 (omega arith) l ∙ ap (λ front. front ++ (get_or text at 0 ∷ [])) (between_none text at) ∙ ap (λ b. b ∷ []) e;
}

pub pieces_joined : {text xs ys : List ℕ} {a b c : ℕ} → IsTextPiece text a b xs → IsTextPiece text b c ys → IsTextPiece text a c (xs ++ ys)
pieces_joined {text} {xs} {ys} {a} {b} {c} p q =
    let o = p.order in
    let r = q.order in
    let n : c ≡ b + (c - b) = omega arith in
    record {
      order = omega arith;
      within = q.within;
      same = ap (λ k. between a k text) n ∙ between_run text a b (c - b) o ∙ ap (λ front. front ++ between b c text) p.same ∙ ap (λ rest. xs ++ rest) q.same;
    }

-- the same where the code may have found no second piece
pub joined_if : {text xs : List ℕ} {a b : ℕ} (ys : List ℕ) (found : Option ℕ) → IsTextPiece text a b xs → IfSome found (λ upto. IsTextPiece text b upto ys) → IfSome found (λ upto. IsTextPiece text a upto (xs ++ ys))
joined_if ys None p q = tt
joined_if ys (Some c) p q = pieces_joined p q

-- what stands between quotes
pub quoted_if : {text : List ℕ} {at : ℕ} (from to : ℕ) (found : Option ℕ) → IsTextPiece text at from (codes "\"") → from ≤ to → to ≤ length text
    → IfSome found (λ upto. IsTextPiece text to upto (codes "\"")) → IfSome found (λ upto. IsTextPiece text at upto (in_quotes (between from to text)))
quoted_if {text} from to found p o w q = joined_if (between from to text ++ codes "\"") found p (joined_if (codes "\"") found (own_piece text from to o w) q)

-- a text between quotes, cut behind the first quote and before the last
pub quoted_parts : (before text behind : List ℕ) → before ++ (in_quotes text ++ behind) ≡ (before ++ (34 ∷ [])) ++ (text ++ (34 ∷ behind))
quoted_parts before text behind = ap (λ row. before ++ (34 ∷ row)) (append_assoc text (34 ∷ []) behind) ∙ sym (append_assoc before (34 ∷ []) (text ++ (34 ∷ behind)))

-- a byte is where its piece ends
piece_last : {text : List ℕ} {at upto byte : ℕ} → IsTextPiece text at upto (byte ∷ []) → get_or text (upto - 1) 0 ≡ byte
piece_last {text} {at} {upto} {byte} p =
    let o = p.order in
    let size : 1 ≡ upto - at = ap length (sym p.same) ∙ length-between text at upto p.within in
    let here : upto - 1 ≡ at + 0 = omega (arith, size) in
    ap (λ k. get_or text k 0) here ∙ sym (get_or-between text at upto 0 0 (omega (arith, size))) ∙ ap (λ row. get_or row 0 0) p.same

pub quote_if : {text : List ℕ} {at from : ℕ} (found : Option ℕ) → IsTextPiece text at from (codes "\"") → IfSome found (λ upto. get_or text (from - 1) 0 ≡ 34)
quote_if None p = tt
quote_if (Some upto) p = piece_last p

-- where the code tests for a word
pub piece_by_test : (text word : List ℕ) (at : ℕ) → at ≤ length text → true ≡ starts_with ◌==◌ (between at (length text) text) word → IsTextPiece text at (at + length word) word
piece_by_test text word at w t =
    let rest = drop (length word) (between at (length text) text) in
    let tail : drop at text ≡ word ++ rest = sym (between_to_end text at (length text) (omega arith)) ∙ (starts_is Decides-eqb (between at (length text) text) word true t).0 refl in
    let sizes : length text - at ≡ length word + length rest = sym (length-drop at text) ∙ ap length tail ∙ length-append word rest in
    record {
      order = omega arith;
      within = omega arith;
      same =
          cut_out text (take at text) word rest at (at + length word) (sym (take-append-drop at text) ∙ ap (λ row. take at text ++ row) tail)
          (length-take-le at text w) (omega arith);
    }

-- ---- parts whose escapes are written again as they are

pub ready_nothing : (text : List ℕ) (at : ℕ) → at ≤ length text → IsReadyPart text (record { from = at; to = at })
ready_nothing text at w = record { part_of = record { order = omega arith; within = w }; due = subst HasDueEscapes (sym (between_none text at)) done }

-- such a part, and a piece behind it
pub ready_on : {text piece : List ℕ} {from at to : ℕ} → IsReadyPart text (record { from = from; to = at }) → IsTextPiece text at to piece → HasDueEscapes piece → IsReadyPart text (record { from = from; to = to })
ready_on {text} {piece} {from} {at} {to} p q d =
    let o = p.part_of.order in
    let r = q.order in
    record {
      part_of = record { order = omega arith; within = q.within };
      due = subst HasDueEscapes (sym (pieces_joined (own_piece text from at o (omega (arith, r, q.within))) q).same) (due_joined p.due d);
    }

-- such a part, and what stands behind it in front of the next backslash, or in all that was looked at
pub ready_no_escape : {text : List ℕ} {from at : ℕ} (to upto n : ℕ) → IsReadyPart text (record { from = from; to = at }) → at + n ≡ to → to ≤ upto → upto ≤ length text → list_all is_no_backslash (take n (between at upto text)) ≡ true
    → IsReadyPart text (record { from = from; to = to })
ready_no_escape {text} {from} {at} to upto n p e o w h =
    let front = between at to text in
    let back = between to upto text in
    let run : IsTextPiece text at to front = own_piece text at to (omega arith) (omega arith) in
    let cut : between at upto text ≡ front ++ back = (pieces_joined run (own_piece text to upto o w)).same in
    let size : length front ≡ n = length-between text at to (omega arith) ∙ (let m : to - at ≡ n = omega arith in m) in
    ready_on p run (due_plain front (subst (λ row. list_all is_no_backslash row ≡ true) (ap (take n) cut ∙ take_at front back n size) h))

-- a backslash that is found is the first byte of what is looked at next
pub found_first : (text : List ℕ) (at upto n : ℕ) → (n < length (between at upto text) → is_byte 92 (get_or (between at upto text) n 0) ≡ true) → upto ≤ length text → at ≤ upto → at + n < upto → get_or text (at + n) 0 ≡ 92
found_first text at upto n b w o near =
    let size : length (between at upto text) ≡ upto - at = length-between text at upto w in
    sym (get_or-between text at upto n 0 near) ∙ eqb-true (get_or (between at upto text) n 0) 92 (b (omega (arith, size)))

pub found_next : (text : List ℕ) (at upto n : ℕ) → (n < length (between at upto text) → is_byte 92 (get_or (between at upto text) n 0) ≡ true) → upto ≤ length text → at ≤ upto → at + n < upto → get_or (between (at + n) upto text) 0 0 ≡ 92
found_next text at upto n b w o near =
    get_or-between text (at + n) upto 0 0 (omega arith) ∙ ap (λ k. get_or text k 0) (let e : at + n + 0 ≡ at + n = omega arith in e) ∙ found_first text at upto n b w o near

-- such a part, and an escape behind it
pub ready_escape : {text : List ℕ} {from : ℕ} (at upto n : ℕ) → IsReadyPart text (record { from = from; to = at }) → upto ≤ length text → at + n ≤ upto → HasDueEscapes (take n (between at upto text)) → IsReadyPart text (record { from = from; to = at + n })
ready_escape {text} at upto n p w o h =
    let front = between at (at + n) text in
    let back = between (at + n) upto text in
    let run : IsTextPiece text at (at + n) front = own_piece text at (at + n) (omega arith) (omega arith) in
    let cut : between at upto text ≡ front ++ back = (pieces_joined run (own_piece text (at + n) upto o w)).same in
    let size : length front ≡ n = length-between text at (at + n) (omega arith) ∙ (let m : (at + n) - at ≡ n = omega arith in m) in
    ready_on p run (subst HasDueEscapes (ap (take n) cut ∙ take_at front back n size) h)

-- a string in such a part is written as it was read
module _ {text : List ℕ} {part : TextPart} {from to : ℕ} (p : IsReadyPart text part) (o : from ≤ to) (w : to ≤ part.to) (r : IsRaw (between from to text)) where
  abbrev due : Type 0
  due = between from to text ≡ escaped (text_in (between from to text))

  ends : IsTextPiece text from part.to (between from to text ++ between to part.to text)
  ends = let within = p.part_of.within in pieces_joined (own_piece text from to o (omega (arith, w, within))) (own_piece text to part.to w within)

  at_begin : part.from ≡ from → due
  at_begin e = due_string (between to part.to text) r (subst HasDueEscapes (ap (λ k. between k part.to text) e ∙ ends.same) p.due)

  behind_quote : part.from < from → get_or text (from - 1) 0 ≡ 34 → due
  behind_quote l q =
      let within = p.part_of.within in
      let n : (from - 1) + 1 ≡ from = omega arith in
      let quote : IsTextPiece text (from - 1) from (34 ∷ []) = subst (λ k. IsTextPiece text (from - 1) k (34 ∷ [])) n (piece_byte text (from - 1) 34 (omega (arith, o, w, within)) q) in
      let front = own_piece text part.from (from - 1) (omega arith) (omega (arith, o, w, within)) in
      due_string (between to part.to text) r
      (due_behind_quote (between part.from (from - 1) text) (between from to text ++ between to part.to text) (subst HasDueEscapes (pieces_joined front (pieces_joined quote ends)).same p.due))

  pub ready_string : part.from ≤ from → (part.from < from → get_or text (from - 1) 0 ≡ 34) → due
  ready_string f q = elim (cases_lt part.from from) [ inl less ↦ behind_quote less (q less) | inr same ↦ at_begin (omega arith) ]

-- a string that is cut behind such a part
pub ready_front : (raw front rest : List ℕ) (part : TextPart) → IsReadyPart raw part → part.from ≡ 0 → IsRaw raw → front ≡ take part.to raw → rest ≡ drop part.to raw → IsDueFront front rest
ready_front raw front rest part p b r f g =
    let bytes : between part.from part.to raw ≡ take part.to raw = ap (λ k. between k part.to raw) b ∙ ap (λ k. take k raw) (let e : part.to - 0 ≡ part.to = omega arith in e) in
    let due : HasDueEscapes (take part.to raw) = subst HasDueEscapes bytes p.due in
    let whole = due_front (drop part.to raw) due (subst IsRaw (sym (take-append-drop part.to raw)) r) in
    subst (λ row. IsDueFront row rest) (sym f) (subst (IsDueFront (take part.to raw)) (sym g) whole)
