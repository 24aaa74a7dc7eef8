use Rattle.plan_base.proofs.Common.{◌≡◌, refl, sym, ap, subst, ◌∙◌, ℕ, suc, ◌+◌, ◌*◌, ◌<◌, ◌≤◌, true, map, length, get_or, ◌++◌, ◌∷◌, [], arith, pos, unsigned_abs, range_with_len, length-map-range_with_len, get_or-map-range_with_len, map-range_with_len_more}
use Rattle.jiff_core.specs.Date.{IsYmd}
use Rattle.jiff_core.specs.declared.civil.date.Date.{Date}
use Rattle.service_days.specs.{DaysMeaning.DaysMeaning, year_of, month_of, day_of_month, later_date, earlier_date, date_after, date_before, Rise, AreDays, plain_days, date_on, is_first_date, is_day_count, inside.number_of_date}
use Rattle.service_days.proofs.RisingLists.{rise_by_steps}

pub later_date-suc : (n date : ℕ) → later_date (n + 1) date ≡ date_after (later_date n date)
unfolding later_date
later_date-suc n date = let e : n + 1 ≡ suc n = omega arith in rw e refl

pub earlier_date-suc : (n date : ℕ) → earlier_date (n + 1) date ≡ date_before (earlier_date n date)
unfolding earlier_date
earlier_date-suc n date = let e : n + 1 ≡ suc n = omega arith in rw e refl

pub later_date-zero : (date : ℕ) → later_date 0 date ≡ date
unfolding later_date
later_date-zero date = refl

pub earlier_date-zero : (date : ℕ) → earlier_date 0 date ≡ date
unfolding earlier_date
earlier_date-zero date = refl

-- one value more at the end
pub one_more : (f : ℕ → ℕ) (n : ℕ) → map f (range_with_len 0 (n + 1)) ≡ map f (range_with_len 0 n) ++ f n ∷ []
one_more f n = map-range_with_len_more f 0 n n (omega arith)

-- a number is that of its own date
pub number_again : (n : ℕ) (date : Date) → IsYmd (pos (year_of n)) (pos (month_of n)) (pos (day_of_month n)) date → number_of_date date ≡ n
number_again n date is =
    let year : unsigned_abs date.year ≡ year_of n = ap unsigned_abs is.0 in
    let month : date.month ≡ month_of n = ap unsigned_abs is.1 in
    let day : date.day ≡ day_of_month n = ap unsigned_abs is.2 in
    omega (arith, year, month, day)

-- the value of f at day k, in the list of its values
pub at_day : (f : ℕ → ℕ) (n k : ℕ) → k < n → get_or (map f (range_with_len 0 n)) k 0 ≡ f k
at_day f n k h = get_or-map-range_with_len f 0 n k k 0 h (omega arith)

pub plain_are_days : (first count : ℕ) → is_first_date first ≡ true → is_day_count count ≡ true → AreDays (plain_days first count)
plain_are_days first count date few =
    let base = λ (k : ℕ) (h : k < count + 7). at_day (λ day. 86400000 * day) (count + 7) k h in
    record {
      some = grind (arith, few);
      few = grind (arith, few);
      bases_long = length-map-range_with_len (λ day. 86400000 * day) 0 (count + 7);
      dates_long = length-map-range_with_len (date_on first) 0 (count + 7);
      start = base 0 (omega arith);
      not_short = λ day h. omega (arith, base day (omega (arith, h)), base (day + 1) (omega (arith, h)));
      not_long = λ day h. omega (arith, base day (omega (arith, h)), base (day + 1) (omega (arith, h)));
      even = λ _ day h. base day h;
      first_is = date;
      on = λ day h. at_day (date_on first) (count + 7) day h;
    }

-- the years of first dates
pub first_year : (date : ℕ) → is_first_date date ≡ true → (1900 ≤ year_of date) × (year_of date ≤ 2199)
first_year date h = (grind (arith, h), grind (arith, h))

-- the date after a date is a greater number
pub date-lt-date_after : (date : ℕ) → date < date_after date
date-lt-date_after date = grind arith

-- the bases rise
pub bases_rise : (days : DaysMeaning) → AreDays days → Rise days.bases
bases_rise days are j k before within =
    rise_by_steps (λ day. get_or days.bases day 0) (length days.bases) (λ day h. omega (arith, are.not_short day (omega (arith, h, are.bases_long)))) j k before within

-- and so do the dates
pub dates_rise : (days : DaysMeaning) → AreDays days → Rise days.dates
dates_rise days are j k before within =
    rise_by_steps (λ day. get_or days.dates day 0) (length days.dates)
    (λ day h.
    let here = are.on day (omega (arith, h, are.dates_long)) in
    let next = are.on (day + 1) (omega (arith, h, are.dates_long)) in
    let step : get_or days.dates (day + 1) 0 ≡ date_after (get_or days.dates day 0) = next ∙ later_date-suc day (earlier_date 7 days.first) ∙ sym (ap date_after here) in
    subst (λ date. get_or days.dates day 0 < date) (sym step) (date-lt-date_after (get_or days.dates day 0)))
    j k before within

-- there are few days
pub few_days : (count : ℕ) → is_day_count count ≡ true → count ≤ 60
few_days count h = grind (arith, h)
