use Rattle.std.proofs.Common.{rules}
use Rattle.sval_relay.proofs.Verdicts.{has_a_call}
use Rattle.sval_relay.proofs.relaying.relay_lines.Goals as goal

pub returns-clause-some_line : goal.returns-clause-some_line
returns-clause-some_line g c = λ e. has_a_call c.args.script.now c.in_ok-script.script c.in_ok-script.ensures.ok (c.serve_list.ensures.some_call e)

pub returns-clause-relays : goal.returns-clause-relays
returns-clause-relays g c = c.serve_list.ensures.relays c.args.script.now (search rules) c.in_ok-script.ensures.ok

pub returns-clause-write_room : goal.returns-clause-write_room
returns-clause-write_room g c = c.serve_list.ensures.write_room c.args.script.now c.in_ok-script.ensures.ok
