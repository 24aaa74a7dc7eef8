use Rattle.plan_base.proofs.Common.{arith}
use Rattle.jiff_core.proofs.SignedLemmas.{signed_arith}
use Rattle.jiff_core.proofs.DateLemmas.{epoch_day-lt-max}
use Rattle.service_days.proofs.DateSteps.{next_number}
use Rattle.service_days.proofs.civil.next_date.Goals as goal

pub unreachable-requires : goal.unreachable-requires
unreachable-requires c =
    let there = c.in-Err.ensures.succeeds.1 (epoch_day-lt-max c.args.date (λ h. grind (arith, signed_arith, h, c.requires.not_last))) in
    cc

pub returns-clause-number : goal.returns-clause-number
returns-clause-number c = (next_number c.args.date c.in-Ok.next c.requires.not_early c.requires.not_last c.in-Ok.ensures.value).number

pub returns-clause-not_back : goal.returns-clause-not_back
returns-clause-not_back c = (next_number c.args.date c.in-Ok.next c.requires.not_early c.requires.not_last c.in-Ok.ensures.value).not_back

pub returns-clause-near : goal.returns-clause-near
returns-clause-near c = (next_number c.args.date c.in-Ok.next c.requires.not_early c.requires.not_last c.in-Ok.ensures.value).near
