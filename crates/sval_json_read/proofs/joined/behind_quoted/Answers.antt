use Rattle.std.proofs.Common.{subst, codes, arith, ◌≡◌}
use Rattle.sval_json_read.specs.TextParts.{IsTextPiece}
use Rattle.sval_json_read.proofs.TextParts.{quote_if, quoted_if}
use Rattle.sval_json_read.proofs.joined.behind_quoted.Goals as goal

pub returns-else-begin-from : goal.returns-else-begin-from
returns-else-begin-from c =
    let same : c.in-Some.begin ≡ c.args.from = omega arith in
    let quote = subst (λ place. IsTextPiece c.args.bytes.now c.args.at place (codes "\"")) same c.in-Some.ensures in
    record {
      quote = quote_if c.behind_byte-in-Some.result quote;
      piece = quoted_if c.args.from c.args.to c.behind_byte-in-Some.result quote c.requires.order c.requires.within c.behind_byte-in-Some.ensures;
    }
