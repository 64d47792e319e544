use Rattle.std.proofs.Common.{rules, ◌≡◌, ◌++◌}
use Rattle.sval_program.specs.Reports.{shown}
use Rattle.sval_program.proofs.Telling.{stops_in_first, stops_in_number, ends_line}
use Rattle.sval_program.proofs.line.Line.write.Goals as goal

pub returns-in_err-write_all : goal.returns-in_err-write_all
returns-in_err-write_all g c =
    let are : c.args.self.now ≡ c.as_bytes.result.now ++ (shown c.self.inside.number ++ c.self.inside.after.now) = cc (c.self.view_is, c.as_bytes.ensures.value) in
    let stops = stops_in_first c.as_bytes.result.now (shown c.self.inside.number) c.self.inside.after.now are c.in_err-write_all.ensures.writes in
    search rules

pub returns-in_err-write_number : goal.returns-in_err-write_number
returns-in_err-write_number g c =
    let are : c.args.self.now ≡ c.as_bytes.result.now ++ (shown c.self.inside.number ++ c.self.inside.after.now) = cc (c.self.view_is, c.as_bytes.ensures.value) in
    let stops = stops_in_number c.as_bytes.result.now (shown c.self.inside.number) c.self.inside.after.now are c.in_ok-write_all.ensures.writes c.in_err-write_number.ensures in
    search rules

pub returns : goal.returns
returns g c =
    let are : c.args.self.now ≡ c.as_bytes.result.now ++ (shown c.self.inside.number ++ c.as_bytes-2.result.now) = cc (c.self.view_is, c.as_bytes.ensures.value, c.as_bytes-2.ensures.value) in
    ends_line _ c.write_all-2.result c.as_bytes.result.now (shown c.self.inside.number) c.as_bytes-2.result.now are c.in_ok-write_all.ensures.writes c.in_ok-write_number.ensures c.write_all-2.ensures.writes
