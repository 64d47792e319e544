-- Bytes that are decoded into the room behind others.
use Rattle.std.specs.Prelude.{◌≡◌, ℕ, ◌+◌, ◌-◌, ◌≤◌, List, ◌++◌, Result, Ok, Err, MatchResult, true, is_ok, length, take, drop, refl}
use Rattle.std.proofs.Common.{arith, sym, ap, subst, ◌∙◌, append_assoc}
use Rattle.std.proofs.lemmas.List.{take-take, take_at, take-append-drop, drop-take, drop_at, length-append, length-drop, length-take-le}
use Rattle.hex.specs.Hex.{decode_of, decode_sized}
use Rattle.hex.specs.declared.error.FromHexError.{FromHexError}
use Rattle.hex.proofs.HexLemmas.{decode_sized-ok, decode_sized-twice, decode_of-ok}
use Rattle.sval_script.specs.FieldValues.{Decodes}

-- what digits spell, where they were decoded into room for it
pub spelled : (digits out : List ℕ) (n : ℕ) (d : Result (List ℕ) FromHexError) (r : Result Unit FromHexError) → d ≡ decode_sized digits n
    → MatchResult d (λ bytes. (r ≡ Ok tt) × (out ≡ bytes)) (λ e. r ≡ Err e) → is_ok r ≡ true → (decode_of digits ≡ Ok out) × (length out ≡ n)
spelled digits out n (Ok bytes) r is written ok =
    let sized : decode_sized digits n ≡ Ok out = sym is ∙ ap Ok (sym written.1) in
    let long = decode_sized-ok digits n out sized in
    let spells : decode_of digits ≡ Ok out = sym (decode_sized-twice digits n long) ∙ sized in
    let size = (decode_of-ok digits out spells).2 in
    (spells, omega arith)
spelled digits out n (Err e) r is written ok = cc (sym (ap (λ (s : Result Unit FromHexError). is_ok s) written) ∙ ok)

-- what the room has up to the end of the bytes that were written behind its first ones
written : (room out post more : List ℕ) (len n whole : ℕ) → len ≤ length room → length out ≡ n → len + n ≤ whole
    → take (len + n) (take whole (take len room ++ (out ++ post) ++ more)) ≡ take len room ++ out
written room out post more len n whole long size within =
    let front : length (take len room ++ out) ≡ len + n = omega (arith, length-append (take len room) out, length-take-le len room long) in
    take-take (len + n) whole (take len room ++ (out ++ post) ++ more) within
    ∙ ap (λ run. take (len + n) (run ++ more)) (sym (append_assoc (take len room) out post))
    ∙ ap (take (len + n)) (append_assoc (take len room ++ out) post more)
    ∙ take_at (take len room ++ out) (post ++ more) (len + n) front

-- they stand behind the bytes that were there before the room was made
pub decoded : (digits old before room out post more : List ℕ) (len n whole : ℕ) → old ≡ take len before → take len room ≡ take len before
    → len ≤ length room → length out ≡ n → len + n ≤ whole → decode_of digits ≡ Ok out
    → Decodes digits old (take (len + n) (take whole (take len room ++ (out ++ post) ++ more)))
decoded digits old before room out post more len n whole was same long size within spells = record {
  bytes = out;
  spells = spells;
  stored = written room out post more len n whole long size within ∙ ap (λ front. front ++ out) (same ∙ sym was);
}

-- the same of the first of the bytes that were written
pub first_put : (old before room out text post more : List ℕ) (len few whole : ℕ) → few ≤ 16 → out ≡ text → length out ≡ 16
    → old ≡ take len before → take len room ≡ take len before → len ≤ length room → len + 16 ≤ whole
    → take (len + few) (take whole (take len room ++ (out ++ post) ++ more)) ≡ old ++ take few text
first_put old before room out text post more len few whole short is size was same long within =
    let front : length (take few out) ≡ few = length-take-le few out (omega arith) in
    let parts : out ++ post ≡ take few out ++ (drop few out ++ post) = ap (λ run. run ++ post) (sym (take-append-drop few out)) ∙ append_assoc (take few out) (drop few out) post in
    ap (λ run. take (len + few) (take whole (take len room ++ run ++ more))) parts
    ∙ written room (take few out) (drop few out ++ post) more len few whole long front (omega arith)
    ∙ ap (λ run. run ++ take few out) (same ∙ sym was)
    ∙ ap (λ run. old ++ take few run) is

-- the items from here on are the first of 16 bytes of the room
pub first_here : (items before room text : List ℕ) (len start : ℕ) → items ≡ take len before → room ≡ before → len ≤ length before → start ≤ len → len - start ≤ 16
    → text ≡ take 16 (drop start room) → take (len - start) text ≡ drop start items
first_here items before room text len start was same long inside short is =
    let whole : start + (len - start) ≡ len = omega arith in
    let part : drop start items ≡ take (len - start) text =
    ap (drop start) was
    ∙ ap (λ n. drop start (take n before)) (sym whole)
    ∙ drop-take start (len - start) before
    ∙ ap (λ run. take (len - start) (drop start run)) (sym same)
    ∙ sym (take-take (len - start) 16 (drop start room) short)
    ∙ ap (take (len - start)) (sym is) in
    sym part
