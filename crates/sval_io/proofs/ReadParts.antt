-- An input that is read part by part.
use Rattle.std.specs.Prelude.{◌≡◌, ℕ, zero, suc, ◌∷◌, ◌+◌, ◌-◌, ◌^◌, ◌<◌, ◌≤◌, List, [], ◌++◌, take, drop, length, Option, Some, None, IfSome, refl}
use Rattle.std.proofs.Common.{sym, ap, ◌∙◌, subst, arith, append_assoc}
use Rattle.std.proofs.lemmas.List.{length-drop, drop_all, length-take-le, length-append, drop-drop, take-append-le, take_all}
use Rattle.std.proofs.Math.Seq.{drop-nil, take-add, take-append-add}
use Rattle.sval_io.specs.Sources.{Supply, TakesFirst, Gives}
use Rattle.sval_io.specs.WholeInputs.{TakesAll, ReadsWhole, TakesOneMore, TakesAtMost, StaysShort, StaysBelow}

-- some first bytes were read, and the others are left
pub record IsRead (all : List ℕ) (new : Option (List ℕ)) (bytes : List ℕ) : Type 0 where
  pub there : length bytes ≤ length all
  pub taken : bytes ≡ take (length bytes) all
  pub left : new ≡ Some (drop (length bytes) all)

abbrev pub IsPartlyRead : Option (List ℕ) → Option (List ℕ) → List ℕ → Type 0
IsPartlyRead old new bytes = IfSome old (λ all. IsRead all new bytes)

-- what one part more leaves
pub read_on : (old : Option (List ℕ)) (mid new : Supply) (xs b : List ℕ) (n : ℕ) → IsPartlyRead old mid.left xs → Gives n mid b new → IsPartlyRead old new.left (xs ++ take n b)
read_on None mid new xs b n p g = tt
read_on (Some all) mid new xs b n p g =
    let k = length xs in
    let t : TakesFirst (drop (length xs) all) n b new.left = subst (λ m. IfSome m (λ rest. TakesFirst rest n b new.left)) p.left g.taken in
    let room : k + n ≤ length all = omega (arith, t.there, length-drop k all, p.there) in
    let part : take n b ≡ take n (drop k all) = t.taken in
    let size : length (take n b) ≡ n = ap length part ∙ length-take-le n (drop k all) t.there in
    let total : length (xs ++ take n b) ≡ k + n = length-append xs (take n b) ∙ ap (λ m. k + m) size in
    record {
      there = rw total room;
      taken = ap (λ x. x ++ take n b) p.taken ∙ ap (λ y. take k all ++ y) part ∙ sym (take-add k n all) ∙ ap (λ m. take m all) (sym total);
      left = t.left ∙ ap (λ x. Some x) (drop-drop n k all ∙ ap (λ m. drop m all) (sym total));
    }

-- where nothing more came, all was read
pub read_whole : (old : Option (List ℕ)) (mid new : Supply) (xs b : List ℕ) (n : ℕ) → IsPartlyRead old mid.left xs → Gives n mid b new → n ≡ 0 → 0 < length b → IfSome old (λ all. TakesAll all xs new.left)
read_whole None mid new xs b n p g none some = tt
read_whole (Some all) mid new xs b n p g none some =
    let k = length xs in
    let t : TakesFirst (drop (length xs) all) n b new.left = subst (λ m. IfSome m (λ rest. TakesFirst rest n b new.left)) p.left g.taken in
    let over : drop (length xs) all ≡ [] = subst (λ m. IfSome m (λ rest. rest ≡ [])) p.left (g.end none some) in
    let size : length (drop k all) ≡ 0 = ap length over in
    let reached : length all ≤ k = omega (arith, length-drop k all, size) in
    record {
      all = p.taken ∙ take_all k all reached;
      left = t.left ∙ ap Some (ap (drop n) over ∙ drop-nil n);
    }

-- a byte more than the limit was taken
pub read_long : (old : Option (List ℕ)) (mid new : Supply) (xs b : List ℕ) (n : ℕ) → IsPartlyRead old mid.left xs → length xs ≡ 2 ^ 24 → Gives n mid b new → n ≡ 1 → IfSome old (λ all. TakesOneMore all new.left)
read_long None mid new xs b n p e g one = tt
read_long (Some all) mid new xs b n p e g one =
    let t : TakesFirst (drop (length xs) all) n b new.left = subst (λ m. IfSome m (λ rest. TakesFirst rest n b new.left)) p.left g.taken in
    let room : length xs + n ≤ length all = omega (arith, t.there, length-drop (length xs) all, p.there) in
    let place : length xs + n ≡ 2 ^ 24 + 1 = omega arith in
    record {
      long = omega (arith, room, place);
      left = t.left ∙ ap (λ x. Some x) (drop-drop n (length xs) all ∙ ap (λ m. drop m all) place);
    }

-- where reading goes no further, no more than the limit was taken
pub read_short : (old mid new : Option (List ℕ)) (xs : List ℕ) → IsPartlyRead old mid xs → length xs ≤ 2 ^ 24 → new ≡ mid → IfSome old (λ all. TakesAtMost (2 ^ 24) all new)
read_short None mid new xs p short same = tt
read_short (Some all) mid new xs p short same = (length xs, short, same ∙ p.left)

pub below_nothing : (supply : Supply) → StaysBelow supply supply
below_nothing supply = from supply.left
  where
    from : (left : Option (List ℕ)) → IfSome left (λ all. TakesAtMost (2 ^ 24 - 1) all left)
    from None = tt
    from (Some all) = (0, omega arith, refl)

-- nothing was taken
pub read_nothing : (left : Option (List ℕ)) → IfSome left (λ all. TakesAtMost (2 ^ 24) all left)
read_nothing None = tt
read_nothing (Some all) = (0, omega arith, refl)

-- all was taken, which was no more than the limit
pub read_all : {old new : Supply} {bytes : List ℕ} → ReadsWhole old bytes new → StaysShort old new
read_all {old} {new} {bytes} r = from old.left r.taken
  where
    from : (left : Option (List ℕ)) → IfSome left (λ all. TakesAll all bytes new.left) → IfSome left (λ all. TakesAtMost (2 ^ 24) all new.left)
    from None t = tt
    from (Some all) t = (length bytes, r.short, t.left ∙ ap Some (sym (drop_all (length bytes) all (omega (arith, ap length t.all)))))

-- ---- bytes that are read behind others of a vector

take_take : (i j : ℕ) (xs : List ℕ) → i ≤ j → take i (take j xs) ≡ take i xs
take_take zero j xs h = refl
take_take (suc i) zero xs h = absurd (omega arith)
take_take (suc i) (suc j) [] h = refl
take_take (suc i) (suc j) (x ∷ xs) h = ap (λ r. x ∷ r) (take_take i j xs (omega arith))

-- of a vector whose last bytes were lent to be filled, the first ones
filled_on : (xs d b post rest : List ℕ) (s n len : ℕ) → take s d ≡ xs → length xs ≡ s → n ≤ length b → s + n ≤ len
    → take (s + n) (take len ((take s d ++ (b ++ post)) ++ rest)) ≡ xs ++ take n b
filled_on xs d b post rest s n len e size h room =
    take_take (s + n) len _ room
    ∙ ap (λ x. take (s + n) ((x ++ (b ++ post)) ++ rest)) e
    ∙ ap (λ x. take (s + n) x) (append_assoc xs (b ++ post) rest)
    ∙ ap (λ m. take (m + n) (xs ++ ((b ++ post) ++ rest))) (sym size)
    ∙ take-append-add xs ((b ++ post) ++ rest) n
    ∙ ap (λ x. xs ++ x) (ap (take n) (append_assoc b post rest) ∙ take-append-le n b (post ++ rest) h)

-- a part that was read behind the first bytes of a vector, where these were kept and there was room
pub part_read : (old : Option (List ℕ)) (mid new : Supply) (before made lent buffer post rest : List ℕ) (filled len n : ℕ)
    → IsPartlyRead old mid.left (take filled before) → filled ≤ length before → take filled made ≡ take filled before → filled < length made
    → lent ≡ made → length made ≡ len → length buffer ≡ length (take (length lent - filled) (drop filled lent)) → Gives n mid buffer new
    → IsPartlyRead old new.left (take (filled + n) (take len ((take filled lent ++ (buffer ++ post)) ++ rest))) × (filled + n ≤ len)
part_read old mid new before made lent buffer post rest filled len n read there kept room is long size gives =
    let all : length lent ≡ len = ap length is ∙ long in
    let behind : length (take (length lent - filled) (drop filled lent)) ≡ length lent - filled =
    length-take-le (length lent - filled) (drop filled lent) (omega (arith, length-drop filled lent)) in
    let within : filled + n ≤ len = omega (arith, gives.within) in
    let items = filled_on (take filled before) lent buffer post rest filled n len (ap (take filled) is ∙ kept) (length-take-le filled before there) gives.within within in
    (subst (IsPartlyRead old new.left) (sym items) (read_on old mid new (take filled before) buffer n read gives), within)
