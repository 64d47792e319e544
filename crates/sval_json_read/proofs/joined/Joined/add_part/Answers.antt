use Rattle.std.proofs.Common.{rules, arith, ◌+◌, ◌≤◌, length}
use Rattle.sval_json_read.proofs.JoinedParts.{part_added}
use Rattle.sval_json_read.proofs.joined.Joined.add_part.Goals as goal

pub returns : goal.returns
returns c =
    let room : c.self.inside.length ≤ length c.self.inside.room = search rules in
    let short : c.args.to ≤ c.args.from + 32 = omega arith in
    let ahead : c.args.from + 32 ≤ length c.args.bytes.now = omega arith in
    rw (← c.self.view_is) (part_added c.self.inside.room c.copy_from_slice.new.self c.args.bytes.now c.self.inside.length _ c.args.from c.args.to room c.requires.order short ahead c.copy_from_slice.ensures.after)
