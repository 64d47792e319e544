use Rattle.sval_lines.proofs.Feeds.{is_first_feed}
use Rattle.sval_lines.proofs.lines.first_feed.Goals as goal

pub returns : goal.returns
returns c = is_first_feed c.args.bytes.now c.memchr.result c.memchr.ensures
