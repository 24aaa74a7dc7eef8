-- The numbers of neighbouring dates of `jiff`.
use Rattle.plan_base.proofs.Common.{◌≡◌, refl, sym, ap, ap₂, ◌∙◌, ℕ, ◌+◌, ◌*◌, ◌<◌, arith, ℤ, pos, negsuc, ◌+ℤ◌, ◌-ℤ◌, ◌≤ℤ◌, ◌<ℤ◌, unsigned_abs}
use Rattle.jiff_core.specs.Calendar.{days_from_civil}
use Rattle.jiff_core.specs.Date.{epoch_day}
use Rattle.jiff_core.specs.declared.civil.date.Date.{Date}
use Rattle.jiff_core.proofs.DateLemmas.{epoch_day_injective}
use Rattle.jiff_core.proofs.CalendarLemmas.{days_in_month_bounds}
use Rattle.jiff_core.proofs.SignedLemmas.{signed_arith}
use Rattle.service_days.specs.{year_of, month_of, day_of_month, epoch_day_of, date_after, date_before, inside.number_of_date}
use Rattle.service_days.proofs.CivilDates.{HasCivilParts, dated, epoch_day_of-dated, number_of_parts, after_date, before_date}

pub pos-unsigned_abs : (z : ℤ) → pos 0 ≤ℤ z → pos (unsigned_abs z) ≡ z
pos-unsigned_abs (pos n) h = refl
pos-unsigned_abs (negsuc n) h = absurd h.le

-- a date of the years from 1 on, and its number
record HasNumber (date : Date) : Type 0 where
  parts : HasCivilParts (number_of_date date)
  year : pos (year_of (number_of_date date)) ≡ date.year
  day : epoch_day_of (number_of_date date) ≡ epoch_day date

has_number : (date : Date) → pos 1 ≤ℤ date.year → HasNumber date
has_number date h =
    let y = unsigned_abs date.year in
    let long = days_in_month_bounds date.year date.month in
    let same = pos-unsigned_abs date.year (omega (arith, signed_arith, h)) in
    let small : date.month < 100 = omega (arith, date.month_in) in
    let fits : date.day < 100 = omega (arith, date.day_in, long) in
    let year : year_of (number_of_date date) ≡ y = omega (arith, small, fits) in
    record {
      parts = dated y date.month date.day (omega (arith, signed_arith, same, h)) (omega (arith, signed_arith, same, date.year_in)) date.month_in.0 date.month_in.1 date.day_in.0 date.day_in.1;
      year = ap pos year ∙ same;
      day = epoch_day_of-dated y date.month date.day small fits ∙ ap (λ z. days_from_civil z date.month date.day) same;
    }

-- the date of a number
date_of_number : (n : ℕ) → HasCivilParts n → Date
date_of_number n p = record {
  year = pos (year_of n);
  month = month_of n;
  day = day_of_month n;
  year_in = (omega (arith, signed_arith), omega (arith, signed_arith, p.year_high));
  month_in = (p.month_low, p.month_high);
  day_in = (p.day_low, p.day_high);
}

-- a date of that day number has that number
pub record IsNumbered (date : Date) (n : ℕ) : Type 0 where
  pub number : number_of_date date ≡ n
  pub year : date.year ≡ pos (year_of n)

is_numbered : (date : Date) (n : ℕ) → HasCivilParts n → epoch_day date ≡ epoch_day_of n → IsNumbered date n
unfolding date_of_number
is_numbered date n p e =
    let same = epoch_day_injective date (date_of_number n p) e in
    record {
      number = ap₂ (λ (m d : ℕ). unsigned_abs date.year * 10000 + m * 100 + d) same.1 same.2 ∙ ap (λ y. unsigned_abs y * 10000 + month_of n * 100 + day_of_month n) same.0 ∙ number_of_parts n;
      year = same.0;
    }

-- b is the date after a, in the same year or the next
pub record IsNext (a b : Date) : Type 0 where
  pub number : number_of_date b ≡ date_after (number_of_date a)
  pub not_back : a.year ≤ℤ b.year
  pub near : b.year ≤ℤ (a.year +ℤ pos 1)

-- what follows by one day is the next date
pub next_number : (a b : Date) → pos 1 ≤ℤ a.year → a.year <ℤ pos 9999 → epoch_day b ≡ epoch_day a +ℤ pos 1 → IsNext a b
next_number a b h late e =
    let from = has_number a h in
    let after = after_date (number_of_date a) from.parts (omega (arith, signed_arith, from.year, late)) in
    let to = is_numbered b (date_after (number_of_date a)) after.parts (e ∙ ap (λ z. z +ℤ pos 1) (sym from.day) ∙ sym after.day) in
    record { number = to.number; not_back = omega (arith, signed_arith, from.year, to.year, after.year_low); near = omega (arith, signed_arith, from.year, to.year, after.year_high) }

-- b is the date before a, in the same year or the one before
pub record IsLast (a b : Date) : Type 0 where
  pub number : number_of_date b ≡ date_before (number_of_date a)
  pub not_on : b.year ≤ℤ a.year
  pub near : a.year ≤ℤ (b.year +ℤ pos 1)

-- and what is a day earlier is the date before
pub last_number : (a b : Date) → pos 2 ≤ℤ a.year → epoch_day b ≡ epoch_day a -ℤ pos 1 → IsLast a b
last_number a b h e =
    let from = has_number a (omega (arith, signed_arith, h)) in
    let before = before_date (number_of_date a) from.parts (omega (arith, signed_arith, from.year, h)) in
    let to = is_numbered b (date_before (number_of_date a)) before.parts (omega (arith, signed_arith, e, from.day, before.day)) in
    record { number = to.number; not_on = omega (arith, signed_arith, from.year, to.year, before.year_high); near = omega (arith, signed_arith, from.year, to.year, before.year_low) }
