use Rattle.sval_check.proofs.laws.checked_laws.Goals as goal
use Rattle.sval_check.proofs.SoFar.{accepts_the_viable, accepted_is_appended, all_are_passed_on, refused_is_left}

pub returns : goal.returns
returns g c = record {
  accepts_the_viable = accepts_the_viable g.S.Stream.law;
  accepted_is_appended = accepted_is_appended g.S.Stream.law;
  all_are_passed_on = all_are_passed_on g.S.Stream.law;
  refused_is_left = refused_is_left g.S.Stream.law;
}
