use Rattle.plan_base.proofs.Common.{◌≡◌, subst, ℕ, zero, suc, ◌+◌, ◌*◌, ◌<◌, ◌≤◌, arith}
use Rattle.service_days.specs.{DaysMeaning.DaysMeaning, AreDays, AreRisingDays, base_of, date_of}
use Rattle.service_days.proofs.{PlainDays.bases_rise, PlainDays.dates_rise, CivilDates.IsDateOn, CivilDates.on_day, CivilDates.parts_civil}

base-le : (days : DaysMeaning) → AreDays days → (day : ℕ) → day < days.count + 7 → base_of days day ≤ 93600000 * day
base-le days are zero h = omega (arith, are.start)
base-le days are (suc k) h =
    let one : k + 1 ≡ suc k = omega arith in
    let step : base_of days (suc k) ≤ base_of days k + 93600000 = subst (λ n. base_of days n ≤ base_of days k + 93600000) one (are.not_long k (omega (arith, h))) in
    omega (arith, step, base-le days are k (omega (arith, h)))

date_is : (days : DaysMeaning) → AreDays days → (day : ℕ) → day < days.count + 7 → IsDateOn days.first day (date_of days day)
date_is days are day h = rw (are.on day h) (on_day days.first day are.first_is (omega (arith, h, are.few)))

pub are_in_order : (days : DaysMeaning) → AreDays days → AreRisingDays days
are_in_order days are = record {
  bases_rise = bases_rise days are;
  bases_small = λ day h. omega (arith, base-le days are day h, h, are.few);
  dates_rise = dates_rise days are;
  civil = λ day h. parts_civil (date_of days day) (date_is days are day h).parts;
  eight_digits = λ day h. let on = date_is days are day h in (omega (arith, on.year_low), omega (arith, on.parts.year_high));
  in_a_row = λ day h. (date_is days are day h).day;
}
