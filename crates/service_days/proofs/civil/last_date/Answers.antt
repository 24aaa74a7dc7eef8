use Rattle.plan_base.proofs.Common.{arith}
use Rattle.jiff_core.proofs.SignedLemmas.{signed_arith}
use Rattle.jiff_core.proofs.DateLemmas.{min-lt-epoch_day}
use Rattle.service_days.proofs.DateSteps.{last_number}
use Rattle.service_days.proofs.civil.last_date.Goals as goal

pub unreachable-requires : goal.unreachable-requires
unreachable-requires c =
    let there = c.in-Err.ensures.succeeds.1 (min-lt-epoch_day c.args.date (λ h. grind (arith, signed_arith, h, c.requires.not_first))) in
    cc

pub returns-clause-number : goal.returns-clause-number
returns-clause-number c = (last_number c.args.date c.in-Ok.last c.requires.not_first c.in-Ok.ensures.value).number

pub returns-clause-not_on : goal.returns-clause-not_on
returns-clause-not_on c = (last_number c.args.date c.in-Ok.last c.requires.not_first c.in-Ok.ensures.value).not_on

pub returns-clause-near : goal.returns-clause-near
returns-clause-near c = (last_number c.args.date c.in-Ok.last c.requires.not_first c.in-Ok.ensures.value).near
