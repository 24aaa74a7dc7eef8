use Rattle.plan_base.proofs.Common.{◌≡◌, subst, Ok, IfSome}
use Rattle.service_days.specs.{DaysMeaning.DaysMeaning, AreDays, AreRisingDays, CountFromNoons, days_made}
use Rattle.service_days.proofs.{InOrder.are_in_order, ZoneDays.made_from_noons}
use Rattle.service_days.proofs.region_days.Days.known.Goals as goal

pub returns-clause-days : goal.returns-clause-days
returns-clause-days c = subst AreDays c.self.view_is c.self.invariant.are

pub returns-clause-order : goal.returns-clause-order
returns-clause-order c = subst AreRisingDays c.self.view_is (are_in_order _ c.self.invariant.are)

pub returns-clause-made : goal.returns-clause-made
returns-clause-made c = subst (λ (days : DaysMeaning). days_made days.first days.count days.zone ≡ Ok days) c.self.view_is c.self.invariant.made

pub returns-clause-noons : goal.returns-clause-noons
returns-clause-noons c = subst (λ (days : DaysMeaning). IfSome days.zone (λ rule. CountFromNoons rule days)) c.self.view_is (made_from_noons _ c.self.invariant.made)
