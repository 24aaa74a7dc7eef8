use Rattle.plan_base.proofs.Common.{◌≡◌, true, ◌+◌, ◌-◌, sym, ap, ap₂, subst, ◌∙◌, arith, length, take, map, Some, None, Ok, range_with_len}
use Rattle.service_days.specs.{DaysMeaning.DaysMeaning, IsDaysRefusal, CountFromNoons, AreKept, RefusesLengths, dates_and_next, days_with_bases, have_day_lengths, zone_base, zone_days, zone_of}
use Rattle.service_days.proofs.{PlainDays.few_days, ZoneDays.cond_some_is, ZoneDays.count_from_noons, ZoneDays.dates_civil, ZoneDays.days_in_ok, ZoneDays.days_in_refused, ZoneDays.first_dates, ZoneDays.length-dates_and_next, ZoneDays.same_days, ZoneDays.zone_are_kept, ZoneDays.zone_days_is}
use Rattle.service_days.proofs.region_days.Days.in_zone.Goals as goal

pub returns-in-None-clause-err : goal.returns-in-None-clause-err
returns-in-None-clause-err c =
    zone_days_is c.args.first c.args.count c.args.rule.now None c.in_ok-check_range.ensures.date c.in_ok-check_range.ensures.count c.in-None.ensures

pub zone_bases-requires-clause-civil : goal.zone_bases-requires-clause-civil
zone_bases-requires-clause-civil c =
    let dates = c.deref.ensures.value ∙ c.in_ok-dates.ensures in
    rw dates (λ day h. dates_civil c.args.first (c.args.count + 8) day c.in_ok-check_range.ensures.date (omega (arith, few_days c.args.count c.in_ok-check_range.ensures.count)) h)

pub returns-in-Err-clause-err : goal.returns-in-Err-clause-err
returns-in-Err-clause-err c =
    let zone = zone_of c.in-Some.zone in
    let dates : c.deref.result.now ≡ dates_and_next c.args.first c.args.count = c.deref.ensures.value ∙ c.in_ok-dates.ensures in
    let n : length c.deref.result.now - 1 ≡ c.args.count + 7 = omega (arith, ap length dates ∙ length-dates_and_next c.args.first c.args.count) in
    let refused = subst (λ lengths. RefusesLengths lengths c.in-Err.fault) (ap₂ (have_day_lengths zone) dates n) c.in-Err.ensures.err in
    subst (λ made. IsDaysRefusal made c.in-Err.fault)
    (sym (zone_days_is c.args.first c.args.count c.args.rule.now (Some zone) c.in_ok-check_range.ensures.date c.in_ok-check_range.ensures.count c.in-Some.ensures))
    (days_in_refused zone c.args.rule.now c.args.first c.args.count c.in-Err.fault refused)

-- each day has its length, and what is kept are the days with their bases in the zone
record IsMade (c : goal.In_ok-from_slice) : Type 0 where
  lengths : have_day_lengths (zone_of c.in-Some.zone) (dates_and_next c.args.first c.args.count) (c.args.count + 7) ≡ true
  days : ◌≡◌ {A = DaysMeaning}
      (record { first = c.args.first; count = c.args.count; bases = c.in-Ok.bases.items; dates = c.truncate.new.self.items; zone = Some c.in_ok-from_slice.field-0.items })
      (days_with_bases (zone_of c.in-Some.zone) c.args.rule.now c.args.first c.args.count (dates_and_next c.args.first c.args.count))

is_made : (c : goal.In_ok-from_slice) → IsMade c
is_made c =
    let zone = zone_of c.in-Some.zone in
    let dates : c.deref.result.now ≡ dates_and_next c.args.first c.args.count = c.deref.ensures.value ∙ c.in_ok-dates.ensures in
    let n : length c.deref.result.now - 1 ≡ c.args.count + 7 = omega (arith, ap length dates ∙ length-dates_and_next c.args.first c.args.count) in
    record {
      lengths = sym (ap₂ (have_day_lengths zone) dates n) ∙ c.in-Ok.ensures.lengths;
      days = same_days c.args.first c.args.count _ _ _ _ _ _
          (c.in-Ok.ensures.bases ∙ ap₂ (λ ds k. map (zone_base zone ds) (range_with_len 0 k)) dates n)
          (c.truncate.ensures.items ∙ ap (take (c.args.count + 7)) c.in_ok-dates.ensures ∙ first_dates c.args.first c.args.count)
          c.in_ok-from_slice.ensures.items;
    }

-- they are what the first date, the count and the rule give
given : (c : goal.In_ok-from_slice) → zone_days c.args.first c.args.count c.args.rule.now ≡ Ok (days_with_bases (zone_of c.in-Some.zone) c.args.rule.now c.args.first c.args.count (dates_and_next c.args.first c.args.count))
given c =
    zone_days_is c.args.first c.args.count c.args.rule.now (Some (zone_of c.in-Some.zone)) c.in_ok-check_range.ensures.date c.in_ok-check_range.ensures.count c.in-Some.ensures
    ∙ days_in_ok (zone_of c.in-Some.zone) c.args.rule.now c.args.first c.args.count (is_made c).lengths

pub invariant_of-result : goal.invariant_of-result
invariant_of-result c =
    let made = is_made c in
    subst AreKept (sym made.days) (zone_are_kept (zone_of c.in-Some.zone) c.args.rule.now c.args.first c.args.count c.in_ok-check_range.ensures.date c.in_ok-check_range.ensures.count made.lengths (given c))

pub returns-clause-ok : goal.returns-clause-ok
returns-clause-ok c = given c ∙ ap Ok (sym (is_made c).days)

pub returns-clause-noons : goal.returns-clause-noons
returns-clause-noons c =
    let made = is_made c in
    subst (CountFromNoons c.args.rule.now) (sym made.days) (count_from_noons (zone_of c.in-Some.zone) c.args.rule.now c.args.first c.args.count (cond_some_is _ _ _ c.in-Some.ensures))
