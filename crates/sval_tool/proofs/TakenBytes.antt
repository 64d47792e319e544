-- What a sink in memory took of the bytes of tokens.
use Rattle.std.specs.Prelude.{◌≡◌, ℕ, ℤ, Bool, false, true, List, [], ◌∷◌, ◌++◌, Result, Ok, Err, refl}
use Rattle.std.proofs.Common.{sym, ap, subst, ◌∙◌, append_assoc, append-nil}
use Rattle.sval_io.specs.Sinks.{WritesWhole}
use Rattle.sval_io.specs.Taken.{Taken, taken_told}
use Rattle.sval_filter.specs.Walks.{Walking}
use Rattle.sval_json.specs.Number.{normal}
use Rattle.sval_json_read.specs.Tokens.{Token, Placed}
use Rattle.sval_json_read.specs.Trees.{fits_i64}
use Rattle.sval_json_read.specs.TokenMarks.{IsIntToken, IsTextToken}
use Rattle.sval_cbor.specs.Packs.{PackRefusal, BadKey, BadNumber, RawJson, NotInteger}
use Rattle.sval_cbor.specs.Cbor.{string, integer}
use Rattle.sval_cbor.specs.Streamed.{AnswersDue, refusal_error}
use Rattle.sval_cbor.specs.Writing.{number_bytes}
use Rattle.sval_cbor.specs.declared.error.CborError.{CborError}
use Rattle.sval_cbor.specs.declared.error.CborError.TheVariants as error
use Rattle.sval_tool.specs.LeftTokens.{walk_after, token_stays, staying, left_tokens}
use Rattle.sval_tool.specs.TokenBytes.{MaybeBytes, bytes_then, number_bytes_of, token_bytes, tokens_bytes, passed_bytes, TookBytes, TakesDue}
use Rattle.sval_tool.specs.declared.packed.Unpacked.{Unpacked}
use Rattle.sval_tool.specs.declared.packed.Unpacked.TheVariants as unpacked
use Rattle.sval_tool.proofs.TokenBytes.{then_both, then_nothing}

-- what was written was taken
pub took : (bytes : List ℕ) (old new : Taken) → WritesWhole (taken_told old) bytes (taken_told new) → TookBytes (Ok bytes) old new
took bytes old new w = record { bytes = bytes; are = refl; took = cc w.appends.text }

-- ---- a token

pub by_mark : {found same : Token} (r : Result (Unit {0}) Unpacked) (old new : Taken) → found ≡ same → TakesDue r (token_bytes same) old new → TakesDue r (token_bytes found) old new
by_mark r old new e t = subst (λ (found : Token). TakesDue r (token_bytes found) old new) (sym e) t

pub by_int : {found : Token} {number : ℤ} (r : Result (Unit {0}) Unpacked) (old new : Taken) → IsIntToken found number → TakesDue r (Ok (integer number)) old new → TakesDue r (token_bytes found) old new
by_int {number = number} r old new m t =
    let same : number_bytes_of m.text ≡ Ok (integer number) = rw m.whole.fits (ap (λ z. Ok (integer z)) (sym m.whole.is)) in
    by_mark r old new m.is (subst (λ (due : MaybeBytes). TakesDue r due old new) (sym same) t)

pub by_text : {found : Token} {text : List ℕ} (r : Result (Unit {0}) Unpacked) (old new : Taken) → IsTextToken found text → TakesDue r (Ok (string 3 text)) old new → TakesDue r (token_bytes found) old new
by_text r old new m t = by_mark r old new m.is (subst (λ (text : List ℕ). TakesDue r (Ok (string 3 text)) old new) m.same t)

-- ---- a number that fits no `i64`

other_number : (text : List ℕ) → fits_i64 text ≡ false → number_bytes false (normal text) ≡ number_bytes_of text
other_number text f = rw f refl

took_due : (due : MaybeBytes) (old new : Taken) → AnswersDue (Ok tt) (taken_told old) due (taken_told new) → TookBytes due old new
took_due (Ok bytes) old new w = took bytes old new w
took_due (Err why) old new (is, same) = cc is

not_whole : (why : PackRefusal) → ◌≡◌ {A = Result (Unit {0}) CborError} (Err error.NotInteger) (Err (refusal_error why)) → why ≡ NotInteger
not_whole BadKey is = cc is
not_whole BadNumber is = cc is
not_whole RawJson is = cc is
not_whole NotInteger is = refl

refused_due : (due : MaybeBytes) (old new : Taken) → AnswersDue (Err error.NotInteger) (taken_told old) due (taken_told new) → due ≡ Err NotInteger
refused_due (Ok bytes) old new w = absurd w
refused_due (Err why) old new (is, same) = ap Err (not_whole why is)

pub number_took : (text : List ℕ) (old new : Taken) → fits_i64 text ≡ false → AnswersDue (Ok tt) (taken_told old) (number_bytes false (normal text)) (taken_told new) → TookBytes (number_bytes_of text) old new
number_took text old new f w = subst (λ (due : MaybeBytes). TookBytes due old new) (other_number text f) (took_due (number_bytes false (normal text)) old new w)

pub number_refused : (text : List ℕ) (old new : Taken) → fits_i64 text ≡ false → AnswersDue (Err error.NotInteger) (taken_told old) (number_bytes false (normal text)) (taken_told new) → number_bytes_of text ≡ Err NotInteger
number_refused text old new f w = sym (other_number text f) ∙ refused_due (number_bytes false (normal text)) old new w

-- ---- tokens, one after the other

-- these bytes were taken, and those of these tokens are left of all
pub record IsPutUpTo (begun now : Taken) (all : MaybeBytes) (rest : MaybeBytes) : Type 0 where
  pub done : List ℕ
  pub all_is : all ≡ bytes_then (Ok done) rest
  pub took : now.bytes ≡ begun.bytes ++ done

then_none : (rest : MaybeBytes) → rest ≡ bytes_then (Ok []) rest
then_none (Ok bytes) = refl
then_none (Err why) = refl

pub none_put : (begun : Taken) (all : MaybeBytes) → IsPutUpTo begun begun all all
none_put begun all = record { done = []; all_is = then_none all; took = sym (append-nil begun.bytes) }

-- one more was put
pub one_put : {begun mid now : Taken} {all first rest : MaybeBytes} → IsPutUpTo begun mid all (bytes_then first rest) → TookBytes first mid now → IsPutUpTo begun now all rest
one_put {begun} {all = all} {rest = rest} s t = record {
  done = s.done ++ t.bytes;
  all_is = s.all_is ∙ ap (λ first. bytes_then (Ok s.done) (bytes_then first rest)) t.are ∙ then_both s.done t.bytes rest;
  took = t.took ∙ ap (λ (x : List ℕ). x ++ t.bytes) s.took ∙ append_assoc begun.bytes s.done t.bytes;
}

pub stops_at : {begun mid : Taken} {all : MaybeBytes} (first rest : MaybeBytes) (new : Taken) (why : Unpacked) → IsPutUpTo begun mid all (bytes_then first rest) → TakesDue (Err why) first mid new → TakesDue (Err why) all begun new
stops_at first rest new unpacked.NotInteger s t = s.all_is ∙ ap (λ first. bytes_then (Ok s.done) (bytes_then first rest)) t
stops_at first rest new unpacked.NoMemory s t = tt

pub all_put : {begun now : Taken} {all rest : MaybeBytes} → IsPutUpTo begun now all rest → rest ≡ Ok [] → TookBytes all begun now
all_put {begun} {all = all} s e = record { bytes = s.done; are = s.all_is ∙ ap (bytes_then (Ok s.done)) e ∙ ap Ok (append-nil s.done); took = s.took }

-- ---- and those that stay

pub took_nothing : (at : Taken) → TookBytes (Ok []) at at
took_nothing at = record { bytes = []; are = refl; took = sym (append-nil at.bytes) }

-- the first token's bytes, if it stays, and those of what stays of the tokens behind it
first_left : (walk : Walking) (placed : Placed) (tokens : List Placed)
    → tokens_bytes (left_tokens walk (placed ∷ tokens)) ≡ bytes_then (passed_bytes (token_stays walk placed) placed.token) (tokens_bytes (left_tokens (walk_after walk placed) tokens))
first_left walk placed tokens = go (token_stays walk placed)
  where
    go : (b : Bool) → tokens_bytes (staying b placed (left_tokens (walk_after walk placed) tokens)) ≡ bytes_then (passed_bytes b placed.token) (tokens_bytes (left_tokens (walk_after walk placed) tokens))
    go true = refl
    go false = sym (then_nothing (tokens_bytes (left_tokens (walk_after walk placed) tokens)))

-- these bytes were taken, and those of what stays of these tokens are left of all
pub record IsPutWalked (begun now : Taken) (all : MaybeBytes) (walk : Walking) (tokens : List Placed) : Type 0 where
  pub put : IsPutUpTo begun now all (tokens_bytes (left_tokens walk tokens))

pub none_walked : (begun : Taken) (walk : Walking) (tokens : List Placed) → IsPutWalked begun begun (tokens_bytes (left_tokens walk tokens)) walk tokens
none_walked begun walk tokens = record { put = none_put begun (tokens_bytes (left_tokens walk tokens)) }

module _ {begun mid : Taken} {all : MaybeBytes} (walk : Walking) (row tokens : List Placed) (placed : Placed) (s : IsPutWalked begun mid all walk row) (is : row ≡ placed ∷ tokens) where
  abbrev first : MaybeBytes
  first = passed_bytes (token_stays walk placed) placed.token

  abbrev later : MaybeBytes
  later = tokens_bytes (left_tokens (walk_after walk placed) tokens)

  from_here : IsPutUpTo begun mid all (bytes_then first later)
  from_here =
      subst (λ (rest : MaybeBytes). IsPutUpTo begun mid all rest) (ap (λ x. tokens_bytes (left_tokens walk x)) is ∙ first_left walk placed tokens) s.put

  pub one_walked : (now : Taken) (next : Walking) → next ≡ walk_after walk placed → TookBytes first mid now → IsPutWalked begun now all next tokens
  one_walked now next e t =
      subst (λ (w : Walking). IsPutWalked begun now all w tokens) (sym e) (record { put = one_put {first = first} {rest = later} from_here t })

  pub then_unpacked : (new : Taken) (why : Unpacked) → TakesDue (Err why) first mid new → TakesDue (Err why) all begun new
  then_unpacked new why t = stops_at first later new why from_here t

pub all_walked : {begun now : Taken} {all : MaybeBytes} (walk : Walking) (tokens : List Placed) → IsPutWalked begun now all walk tokens → tokens ≡ [] → TookBytes all begun now
all_walked walk tokens s e = all_put s.put (ap (λ x. tokens_bytes (left_tokens walk x)) e)
