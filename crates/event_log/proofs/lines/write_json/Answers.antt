use Rattle.std.proofs.Common.{rules, inl, inr}
use Rattle.event_log.proofs.Captured.{never_refused}
use Rattle.event_log.proofs.lines.write_json.Goals as goal

pub unreachable-requires-in-InvalidKey : goal.unreachable-requires-in-InvalidKey
unreachable-requires-in-InvalidKey g c =
    let never = never_refused c.args.event.now c.requires in
    elim c.in-InvalidKey.is [
      | inl is ↦ (let at = (c.in-Err.ensures.invalid_key (search rules)).refusal in cc)
      | inr is ↦ (let at = (c.in-Err.ensures.invalid_number (search rules)).refusal in cc)
    ]
