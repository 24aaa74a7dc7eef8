use Rattle.service_days.proofs.PlainDays.{dates_rise}
use Rattle.service_days.proofs.region_days.Days.day_of.Goals as goal

pub place_of-requires-clause-rise : goal.place_of-requires-clause-rise
place_of-requires-clause-rise c = rw c.deref.ensures.value (dates_rise _ c.self.invariant.are)
