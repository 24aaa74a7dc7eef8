use Rattle.service_days.proofs.ZoneDays.{plain_are_kept}
use Rattle.service_days.proofs.region_days.Days.new.Goals as goal

pub invariant_of-result : goal.invariant_of-result
invariant_of-result c =
    rw (c.in_ok-even_bases.ensures, c.in_ok-dates_around.ensures) (plain_are_kept c.args.first c.args.count c.in_ok-check_range.ensures.date c.in_ok-check_range.ensures.count)
