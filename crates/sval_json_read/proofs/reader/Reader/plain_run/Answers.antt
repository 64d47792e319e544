use Rattle.std.specs.Char.{is_ascii_digit}
use Rattle.std.specs.List.{AllPass}
use Rattle.std.proofs.Common.{rules, ◌≡◌, ◌≤◌, ℕ, List, ◌-◌, Bool, length, take, drop, take_all, length-drop, subst, sym, ◌∙◌, arith}
use Rattle.sval_json.specs.Escape.{is_plain}
use Rattle.sval_json.specs.Grammar.{is_space}
use Rattle.sval_json_read.specs.declared.reader.Expected.TheVariants.{InString}
use Rattle.sval_json_read.specs.declared.string.Within.TheVariants.{Plain}
use Rattle.sval_json_read.proofs.PlainRuns.{passes_over}
use Rattle.sval_json_read.proofs.ByteRuns.{passes_digits, passes_spaces}
use Rattle.sval_json_read.proofs.reader.Reader.plain_run.Goals as goal

-- the bytes from a place on are all that stand behind it
to_the_end : (test : ℕ → Bool) (bytes : List ℕ) (at n : ℕ) → at ≤ length bytes → AllPass test (take n (take (length bytes - at) (drop at bytes))) → AllPass test (take n (drop at bytes))
to_the_end test bytes at n le all = subst (λ rest. AllPass test (take n rest)) (take_all (length bytes - at) (drop at bytes) (omega (arith, length-drop at bytes))) all

pub returns-in-InString-default-Plain-clause-passes : goal.returns-in-InString-default-Plain-clause-passes
returns-in-InString-default-Plain-clause-passes c =
    let is_key = c.in-InString-default-Plain.field-0 in
    let in_string : c.args.self.now.expected ≡ InString is_key Plain = search rules in
    let plain = to_the_end is_plain c.args.bytes.now c.args.at c.plain_ahead.result c.requires.at_in c.plain_ahead.ensures.plain in
    passes_over c.args.bytes.now c.args.at c.plain_ahead.result c.args.self.now is_key in_string c.requires.before plain

pub returns-in-InNumber-clause-passes : goal.returns-in-InNumber-clause-passes
returns-in-InNumber-clause-passes c =
    let digits = to_the_end is_ascii_digit c.args.bytes.now c.args.at c.digits_ahead.result c.requires.at_in c.digits_ahead.ensures.digits in
    passes_digits c.args.bytes.now c.args.at c.digits_ahead.result c.args.self.now c.in-InNumber.phase c.in-InNumber.is (sym c.takes_digits.ensures ∙ c.if-takes_digits.true) c.requires.before digits

pub returns-in-Some-clause-passes : goal.returns-in-Some-clause-passes
returns-in-Some-clause-passes c =
    let spaces = to_the_end is_space c.args.bytes.now c.args.at c.spaces_ahead.result c.requires.at_in c.spaces_ahead.ensures.spaces in
    passes_spaces c.args.bytes.now c.args.at c.spaces_ahead.result c.args.self.now (sym c.skips_spaces.ensures ∙ c.if-skips_spaces.true) spaces
