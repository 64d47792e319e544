use Rattle.std.proofs.Common.{◌≡◌, None, sym, ◌∙◌, arith, rules}
use Rattle.std.proofs.lemmas.Str.Pattern.{strip_prefix_char, split_parts}
use Rattle.sval_cbor_read.specs.CborPointers.{cbor_referenced}
use Rattle.sval_json_read.proofs.Pointers.{token_taken, token_last, no_slash_first}
use Rattle.sval_cbor_read.proofs.cbor_ref.CborRef.pointer.Goals as goal

pub returns-in_err-rest : goal.returns-in_err-rest
returns-in_err-rest c =
    let pointer = c.args.pointer.now in
    let gone : c.from_residual.result ≡ None = grind arith in
    let other = rw c.in_err-rest.was at (strip_prefix_char 47 pointer c.strip_prefix.result c.strip_prefix.ensures.cases (omega arith)) in
    rw gone (sym (no_slash_first cbor_referenced pointer c.args.self.now (grind arith) other))

pub returns-in_err-found : goal.returns-in_err-found
returns-in_err-found c =
    let l = c.tokens in
    let cut = rw c.in-Some.is at (split_parts 47 l.rest.now c.split_once.result c.split_once.ensures.cases (omega arith)) in
    let gone : c.from_residual-in_err-found.result ≡ None = grind arith in
    rw gone (sym (token_taken cbor_referenced _ _ l.rest.now _ c.in-Some.behind.now l.found l.invariant.0 cut c.in_err-found.ensures))

pub tokens-preserved : goal.tokens-preserved
tokens-preserved c =
    let l = c.tokens in
    let cut = rw c.in-Some.is at (split_parts 47 l.rest.now c.split_once.result c.split_once.ensures.cases (omega arith)) in
    (token_taken cbor_referenced _ _ l.rest.now _ c.in-Some.behind.now l.found l.invariant.0 cut c.in_ok-found.ensures, search rules)

pub returns : goal.returns
returns c =
    let l = c.tokens in
    let none = rw c.in_default.is at (split_parts 47 l.rest.now c.split_once.result c.split_once.ensures.cases (omega arith)) in
    c.referenced-2.ensures ∙ sym (l.invariant.0 ∙ token_last cbor_referenced l.rest.now l.found none)
