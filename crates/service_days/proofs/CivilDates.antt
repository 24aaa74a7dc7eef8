-- The date after a civil date, and the one before, are civil dates, one day later and earlier.
use Rattle.plan_base.proofs.Common.{◌≡◌, refl, sym, ap, ◌∙◌, ℕ, zero, suc, ◌+◌, ◌-◌, ◌*◌, ◌<◌, ◌≤◌, true, false, ltb, arith, pos, ◌+ℤ◌, ltb-true, ltb-false, lt-ltb, le-ltb}
use Rattle.jiff_core.specs.Calendar.{days_in_month, days_from_civil}
use Rattle.jiff_core.proofs.SignedLemmas.{signed_arith}
use Rattle.jiff_core.proofs.CalendarLemmas.{days_in_month_bounds}
use Rattle.jiff_core.proofs.DateLemmas.{days_from_civil-day, days_from_civil-next_month, days_from_civil-next_year}
use Rattle.service_days.specs.{year_of, month_of, day_of_month, month_length, is_civil, epoch_day_of, date_after, date_before, earlier_date, date_on, is_first_date}
use Rattle.service_days.proofs.PlainDays.{later_date-suc, later_date-zero, earlier_date-suc, earlier_date-zero, first_year}

-- the parts of a number YYYYMMDD
number-year : (y m d : ℕ) → m < 100 → d < 100 → year_of (y * 10000 + m * 100 + d) ≡ y
number-year y m d small fits = omega arith

number-month : (y m d : ℕ) → m < 100 → d < 100 → month_of (y * 10000 + m * 100 + d) ≡ m
number-month y m d small fits = omega arith

number-day : (y m d : ℕ) → d < 100 → day_of_month (y * 10000 + m * 100 + d) ≡ d
number-day y m d fits = omega arith

-- the parts of a civil date
pub record HasCivilParts (date : ℕ) : Type 0 where
  pub year_low : 1 ≤ year_of date
  pub year_high : year_of date ≤ 9999
  pub month_low : 1 ≤ month_of date
  pub month_high : month_of date ≤ 12
  pub day_low : 1 ≤ day_of_month date
  pub day_high : day_of_month date ≤ month_length date

pub civil_parts : (date : ℕ) → is_civil date ≡ true → HasCivilParts date
civil_parts date h = grind (arith, h)

pub parts_civil : (date : ℕ) → HasCivilParts date → is_civil date ≡ true
parts_civil date p = grind (arith, p.year_low, p.year_high, p.month_low, p.month_high, p.day_low, p.day_high)

-- a date of these parts
pub dated : (y m d : ℕ) → 1 ≤ y → y ≤ 9999 → 1 ≤ m → m ≤ 12 → 1 ≤ d → d ≤ days_in_month (pos y) m → HasCivilParts (y * 10000 + m * 100 + d)
dated y m d y1 y2 m1 m2 d1 d2 =
    let long = days_in_month_bounds (pos y) m in
    let small : m < 100 = omega (arith, m2) in
    let fits : d < 100 = omega (arith, d2, long) in
    let year : year_of (y * 10000 + m * 100 + d) ≡ y = number-year y m d small fits in
    let month : month_of (y * 10000 + m * 100 + d) ≡ m = number-month y m d small fits in
    let day : day_of_month (y * 10000 + m * 100 + d) ≡ d = number-day y m d fits in
    record {
      year_low = omega (arith, year, y1);
      year_high = omega (arith, year, y2);
      month_low = omega (arith, month, m1);
      month_high = omega (arith, month, m2);
      day_low = omega (arith, day, d1);
      day_high = rw (day, month, year) d2;
    }

pub epoch_day_of-dated : (y m d : ℕ) → m < 100 → d < 100 → epoch_day_of (y * 10000 + m * 100 + d) ≡ days_from_civil (pos y) m d
epoch_day_of-dated y m d small fits = rw (number-day y m d fits, number-month y m d small fits, number-year y m d small fits) refl

-- the date after, and before: a civil date in the same year or the next, and a day later
pub record IsDayAfter (date next : ℕ) : Type 0 where
  pub parts : HasCivilParts next
  pub year_low : year_of date ≤ year_of next
  pub year_high : year_of next ≤ year_of date + 1
  pub day : epoch_day_of next ≡ epoch_day_of date +ℤ pos 1

pub number_of_parts : (date : ℕ) → year_of date * 10000 + month_of date * 100 + day_of_month date ≡ date
number_of_parts date = omega arith

day_after_is : (date y m d : ℕ) → HasCivilParts (y * 10000 + m * 100 + d) → m < 100 → d < 100 → year_of date ≤ y → y ≤ year_of date + 1 → days_from_civil (pos y) m d ≡ epoch_day_of date +ℤ pos 1 → IsDayAfter date (y * 10000 + m * 100 + d)
day_after_is date y m d parts small fits low high day =
    record { parts = parts; year_low = omega (arith, number-year y m d small fits, low); year_high = omega (arith, number-year y m d small fits, high); day = epoch_day_of-dated y m d small fits ∙ day }

in_month : (date : ℕ) → HasCivilParts date → day_of_month date < month_length date → IsDayAfter date (date_after date)
in_month date p within =
    let y = year_of date in let m = month_of date in let d = day_of_month date in
    let long = days_in_month_bounds (pos y) m in
    let after : date_after date ≡ y * 10000 + m * 100 + (d + 1) = rw (lt-ltb d (month_length date) within) (omega (arith, number_of_parts date)) in
    rw after (day_after_is date y m (d + 1)
    (dated y m (d + 1) p.year_low p.year_high p.month_low p.month_high (omega arith) (omega (arith, within)))
    (omega (arith, p.month_high)) (omega (arith, within, long)) (omega arith) (omega arith)
    (omega (arith, signed_arith, days_from_civil-day (pos y) m (d + 1) d (omega arith) p.day_low)))

in_year : (date : ℕ) → HasCivilParts date → month_length date ≤ day_of_month date → month_of date < 12 → IsDayAfter date (date_after date)
in_year date p last early =
    let y = year_of date in let m = month_of date in let d = day_of_month date in
    let long = days_in_month_bounds (pos y) (m + 1) in
    let after : date_after date ≡ y * 10000 + (m + 1) * 100 + 1 = rw (le-ltb d (month_length date) last, lt-ltb m 12 early) refl in
    rw after (day_after_is date y (m + 1) 1
    (dated y (m + 1) 1 p.year_low p.year_high (omega arith) (omega (arith, early)) (omega arith) (omega (arith, long)))
    (omega (arith, early)) (omega arith) (omega arith) (omega arith)
    (days_from_civil-next_month (pos y) m d p.month_low (omega (arith, last, p.day_high))))

on_new_year : (date : ℕ) → HasCivilParts date → month_length date ≤ day_of_month date → 12 ≤ month_of date → year_of date < 9999 → IsDayAfter date (date_after date)
on_new_year date p last december room =
    let y = year_of date in let m = month_of date in let d = day_of_month date in
    let month : m ≡ 12 = omega (arith, december, p.month_high) in
    let length : month_length date ≡ 31 = ap (days_in_month (pos y)) month in
    let day : d ≡ 31 = omega (arith, length, last, p.day_high) in
    let after : date_after date ≡ (y + 1) * 10000 + 1 * 100 + 1 = rw (le-ltb d (month_length date) last, le-ltb m 12 december) (omega arith) in
    let epoch : epoch_day_of date ≡ days_from_civil (pos y) 12 31 = rw (month, day) refl in
    rw after (day_after_is date (y + 1) 1 1
    (dated (y + 1) 1 1 (omega arith) (omega (arith, room)) (omega arith) (omega arith) (omega arith) (omega arith))
    (omega arith) (omega arith) (omega arith) (omega arith)
    (days_from_civil-next_year (pos y) (pos (y + 1)) (omega (arith, signed_arith)) (omega (arith, signed_arith)) ∙ ap (λ z. z +ℤ pos 1) (sym epoch)))

pub after_date : (date : ℕ) → HasCivilParts date → year_of date < 9999 → IsDayAfter date (date_after date)
after_date date p room =
    elim (ltb (day_of_month date) (month_length date)) as (λ v. ltb (day_of_month date) (month_length date) ≡ v → IsDayAfter date (date_after date)) [
      | true ↦ λ t. in_month date p (ltb-true (day_of_month date) (month_length date) t)
      | false ↦ λ f. elim (ltb (month_of date) 12) as (λ v. ltb (month_of date) 12 ≡ v → IsDayAfter date (date_after date)) [
        | true ↦ λ t. in_year date p (ltb-false (day_of_month date) (month_length date) f) (ltb-true (month_of date) 12 t)
        | false ↦ λ g. on_new_year date p (ltb-false (day_of_month date) (month_length date) f) (ltb-false (month_of date) 12 g) room
      ] refl
    ] refl

pub record IsDayBefore (date last : ℕ) : Type 0 where
  pub parts : HasCivilParts last
  pub year_low : year_of date ≤ year_of last + 1
  pub year_high : year_of last ≤ year_of date
  pub day : epoch_day_of date ≡ epoch_day_of last +ℤ pos 1

day_before_is : (date y m d : ℕ) → HasCivilParts (y * 10000 + m * 100 + d) → m < 100 → d < 100 → y ≤ year_of date → year_of date ≤ y + 1 → epoch_day_of date ≡ days_from_civil (pos y) m d +ℤ pos 1 → IsDayBefore date (y * 10000 + m * 100 + d)
day_before_is date y m d parts small fits high low day =
    record { parts = parts; year_low = omega (arith, number-year y m d small fits, low); year_high = omega (arith, number-year y m d small fits, high); day = day ∙ ap (λ z. z +ℤ pos 1) (sym (epoch_day_of-dated y m d small fits)) }

back_in_month : (date : ℕ) → HasCivilParts date → 1 < day_of_month date → IsDayBefore date (date_before date)
back_in_month date p within =
    let y = year_of date in let m = month_of date in let d = day_of_month date in
    let long = days_in_month_bounds (pos y) m in
    let before : date_before date ≡ y * 10000 + m * 100 + (d - 1) = rw (lt-ltb 1 d within) (omega (arith, number_of_parts date, within)) in
    rw before (day_before_is date y m (d - 1)
    (dated y m (d - 1) p.year_low p.year_high p.month_low p.month_high (omega (arith, within)) (omega (arith, p.day_high)))
    (omega (arith, p.month_high)) (omega (arith, p.day_high, long)) (omega arith) (omega arith)
    (omega (arith, signed_arith, within, days_from_civil-day (pos y) m (d - 1) d (omega (arith, within)) p.day_low)))

back_in_year : (date : ℕ) → HasCivilParts date → day_of_month date ≤ 1 → 1 < month_of date → IsDayBefore date (date_before date)
back_in_year date p first late =
    let y = year_of date in let m = month_of date in let d = day_of_month date in
    let last = days_in_month (pos y) (m - 1) in
    let long = days_in_month_bounds (pos y) (m - 1) in
    let before : date_before date ≡ y * 10000 + (m - 1) * 100 + last = rw (le-ltb 1 d first, lt-ltb 1 m late) refl in
    let day : d ≡ 1 = omega (arith, first, p.day_low) in
    let month : m - 1 + 1 ≡ m = omega (arith, late) in
    let epoch : epoch_day_of date ≡ days_from_civil (pos y) (m - 1 + 1) 1 = rw (month, day) refl in
    rw before (day_before_is date y (m - 1) last
    (dated y (m - 1) last p.year_low p.year_high (omega (arith, late)) (omega (arith, p.month_high)) (omega (arith, long)) (omega arith))
    (omega (arith, p.month_high)) (omega (arith, long)) (omega arith) (omega arith)
    (epoch ∙ days_from_civil-next_month (pos y) (m - 1) last (omega (arith, late)) refl))

back_to_old_year : (date : ℕ) → HasCivilParts date → day_of_month date ≤ 1 → month_of date ≤ 1 → 1 < year_of date → IsDayBefore date (date_before date)
back_to_old_year date p first january room =
    let y = year_of date in let m = month_of date in let d = day_of_month date in
    let before : date_before date ≡ (y - 1) * 10000 + 12 * 100 + 31 = rw (le-ltb 1 d first, le-ltb 1 m january) (omega arith) in
    let day : d ≡ 1 = omega (arith, first, p.day_low) in
    let month : m ≡ 1 = omega (arith, january, p.month_low) in
    let epoch : epoch_day_of date ≡ days_from_civil (pos y) 1 1 = rw (month, day) refl in
    rw before (day_before_is date (y - 1) 12 31
    (dated (y - 1) 12 31 (omega (arith, room)) (omega (arith, p.year_high)) (omega arith) (omega arith) (omega arith) (omega arith))
    (omega arith) (omega arith) (omega arith) (omega (arith, room))
    (epoch ∙ days_from_civil-next_year (pos (y - 1)) (pos y) (omega (arith, signed_arith)) (omega (arith, signed_arith, room))))

pub before_date : (date : ℕ) → HasCivilParts date → 1 < year_of date → IsDayBefore date (date_before date)
before_date date p room =
    elim (ltb 1 (day_of_month date)) as (λ v. ltb 1 (day_of_month date) ≡ v → IsDayBefore date (date_before date)) [
      | true ↦ λ t. back_in_month date p (ltb-true 1 (day_of_month date) t)
      | false ↦ λ f. elim (ltb 1 (month_of date)) as (λ v. ltb 1 (month_of date) ≡ v → IsDayBefore date (date_before date)) [
        | true ↦ λ t. back_in_year date p (ltb-false 1 (day_of_month date) f) (ltb-true 1 (month_of date) t)
        | false ↦ λ g. back_to_old_year date p (ltb-false 1 (day_of_month date) f) (ltb-false 1 (month_of date) g) room
      ] refl
    ] refl

-- so many days before a first date
pub record IsDaysBefore (first n date : ℕ) : Type 0 where
  pub parts : HasCivilParts date
  pub year_low : 1900 ≤ year_of date + n
  pub year_high : year_of date ≤ 2199
  pub day : epoch_day_of date +ℤ pos n ≡ epoch_day_of first

pub days_before : (first n : ℕ) → is_first_date first ≡ true → n < 100 → IsDaysBefore first n (earlier_date n first)
days_before first zero h few =
    let years = first_year first h in
    rw (earlier_date-zero first) (record { parts = civil_parts first (grind (arith, h)); year_low = omega (arith, years); year_high = years.1; day = omega (arith, signed_arith) })
days_before first (suc n) h few =
    let one : n + 1 ≡ suc n = omega arith in
    let before = days_before first n h (omega (arith, few)) in
    let back = before_date (earlier_date n first) before.parts (omega (arith, before.year_low, few)) in
    let step : earlier_date (suc n) first ≡ date_before (earlier_date n first) = ap (λ k. earlier_date k first) (sym one) ∙ earlier_date-suc n first in
    rw step (record { parts = back.parts; year_low = omega (arith, before.year_low, back.year_low); year_high = omega (arith, before.year_high, back.year_high); day = omega (arith, signed_arith, before.day, back.day) })

-- the date of a day number
pub record IsDateOn (first n date : ℕ) : Type 0 where
  pub parts : HasCivilParts date
  pub year_low : 1893 ≤ year_of date
  pub year_high : year_of date ≤ 2199 + n
  pub day : epoch_day_of date +ℤ pos 7 ≡ epoch_day_of first +ℤ pos n

pub on_day : (first day : ℕ) → is_first_date first ≡ true → day < 100 → IsDateOn first day (date_on first day)
on_day first zero h few =
    let before = days_before first 7 h (omega arith) in
    rw (later_date-zero (earlier_date 7 first)) (record { parts = before.parts; year_low = omega (arith, before.year_low); year_high = before.year_high; day = omega (arith, signed_arith, before.day) })
on_day first (suc n) h few =
    let one : n + 1 ≡ suc n = omega arith in
    let before = on_day first n h (omega (arith, few)) in
    let next = after_date (date_on first n) before.parts (omega (arith, before.year_high, few)) in
    let step : date_on first (suc n) ≡ date_after (date_on first n) = ap (date_on first) (sym one) ∙ later_date-suc n (earlier_date 7 first) in
    rw step (record { parts = next.parts; year_low = omega (arith, before.year_low, next.year_low); year_high = omega (arith, before.year_high, next.year_high); day = omega (arith, signed_arith, before.day, next.day) })
