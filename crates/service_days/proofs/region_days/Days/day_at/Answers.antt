use Rattle.service_days.proofs.PlainDays.{bases_rise}
use Rattle.service_days.proofs.region_days.Days.day_at.Goals as goal

pub last_begun-requires-clause-rise : goal.last_begun-requires-clause-rise
last_begun-requires-clause-rise c = rw c.deref.ensures.value (bases_rise _ c.self.invariant.are)
