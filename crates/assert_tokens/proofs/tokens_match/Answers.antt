use Rattle.std.proofs.Common.{◌≡◌, refl, ap, rules}
use Rattle.sval_core.specs.Law as law
use Rattle.sval_check.specs.Tokens.{token_calls}
use Rattle.sval_check.specs.TokenBufs.{TakenCalls, token_standing}
use Rattle.sval.specs.Structs.{record_emission}
use Rattle.assert_tokens.specs.Points.{unnamed_point_emission}
use Rattle.assert_tokens.proofs.Kept.{matches_made, never_stops}
use Rattle.assert_tokens.proofs.tokens_match.Goals as goal

pub returns-in-Ok : goal.returns-in-Ok
returns-in-Ok c =
    matches_made (unnamed_point_emission c.args.point.now) (token_calls c.args.expected.now) c.new-buffer.result c.value.new.self c.matches.result
    c.new-buffer.ensures c.in-Ok.ensures.ran c.matches.ensures

-- a refused point lacked memory, which the buffer says
pub unreachable-requires : goal.unreachable-requires
unfolding law.then_emits law.emits law.silent record_emission
unreachable-requires c =
    let wants : c.value.new.self.wants ≡ 0 = search (rules, c.no_memory.ensures) in
    never_stops (token_standing c.new-buffer.result) (token_standing c.value.new.self) _ (unnamed_point_emission c.args.point.now).calls
    refl (ap (λ (t : TakenCalls). t.wants) c.new-buffer.ensures) refl wants c.in-Err.ensures.stopped
