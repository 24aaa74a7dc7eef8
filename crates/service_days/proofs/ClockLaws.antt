-- A clock text tells its time.
use Rattle.plan_base.proofs.Common.{◌≡◌, refl, sym, ap, ap₂, subst, ◌∙◌, ℕ, zero, suc, ◌+◌, ◌-◌, ◌*◌, ◌/◌, ◌%◌, ◌^◌, ◌<◌, ◌≤◌, Bool, true, false, cond, ◌&&◌, ltb, leb, List, ◌∷◌, ◌++◌, length, take, drop, get_or, Some, arith, append_assoc, length-append, option_and_then, ltb-true, ltb-false, lt-ltb, le-ltb, lt-leb, leb-true, leb-false, take-append_seam, drop-append_seam}
use Rattle.plain_texts.specs.{fixed_decimal, fixed_at}
use Rattle.plain_texts.proofs.FixedDecimal.{length-fixed_decimal, fixed_again}
use Rattle.service_days.specs.{DaysMeaning.DaysMeaning, AreDays, numbers_of, base_of, date_of, day_with_date, day_at, last_not_later, part_text, time_text, clock_text_of, short_at, hundreds_at, after_space, moment_at, front_at, clock_at}
use Rattle.service_days.proofs.{InOrder.are_in_order, RisingLists.last_is, RisingLists.found_at, RisingLists.non_decreasing, ReadClockLaws.short_text, ReadClockLaws.hundreds_text, ReadClockLaws.time_split, ReadClockLaws.short_again, ReadClockLaws.hundreds_again}

-- a day is under way at t: its base is not later, and the next day's is
pub record IsUnderWay (days : DaysMeaning) (day t : ℕ) : Type 0 where
  pub within : day < days.count + 7
  pub begun : base_of days day ≤ t
  pub not_over : day + 1 < days.count + 7 → t < base_of days (day + 1)

pub under_way_is : (days : DaysMeaning) → AreDays days → (day t : ℕ) → IsUnderWay days day t → day_at days t ≡ day
under_way_is days are day t is =
    let order = are_in_order days are in
    last_is days.bases t (days.count + 6) day (omega (arith, is.within)) is.begun
    (λ j later small.
    let next : t < base_of days (day + 1) = is.not_over (omega (arith, later, small)) in
    let up : base_of days (day + 1) ≤ base_of days j = non_decreasing days.bases order.bases_rise (day + 1) j (omega (arith, later)) (omega (arith, small, are.bases_long)) in
    omega (arith, next, up))

-- what the last day up to k whose base is not later is
record IsLastTo (bases : List ℕ) (t k m : ℕ) : Type 0 where
  up : m ≤ k
  begun : get_or bases m 0 ≤ t
  not_over : (j : ℕ) → m < j → j ≤ k → t < get_or bases j 0

last_to : (bases : List ℕ) (t k : ℕ) → get_or bases 0 0 ≤ t → IsLastTo bases t k (last_not_later bases t k)
unfolding last_not_later
last_to bases t zero begun = record { up = omega arith; begun = begun; not_over = λ j later up. absurd (none j later up) }
  where
    none : (j : ℕ) → 0 < j → j ≤ 0 → ⊥
    none j later up = omega (arith, later, up)
last_to bases t (suc k) begun =
    elim (leb (get_or bases (suc k) 0) t) as (λ v. leb (get_or bases (suc k) 0) t ≡ v → IsLastTo bases t (suc k) (cond v (suc k) (last_not_later bases t k))) [
      | true ↦ λ e. record { up = omega arith; begun = leb-true (get_or bases (suc k) 0) t e; not_over = λ j later up. absurd (none j later up) }
      | false ↦ λ e. let before = last_to bases t k begun in
          record {
            up = omega (arith, before.up);
            begun = before.begun;
            not_over = λ j later up.
                elim (ltb k j) as (λ v. ltb k j ≡ v → t < get_or bases j 0) [
                  | true ↦ λ f. let same : j ≡ suc k = omega (arith, up, ltb-true k j f) in rw same (leb-false (get_or bases (suc k) 0) t e)
                  | false ↦ λ f. before.not_over j later (ltb-false k j f)
                ] refl;
          }
    ] refl
  where
    none : (j : ℕ) → suc k < j → j ≤ suc k → ⊥
    none j later up = omega (arith, later, up)

pub at_is_under_way : (days : DaysMeaning) → AreDays days → (t : ℕ) → IsUnderWay days (day_at days t) t
at_is_under_way days are t =
    let last = last_to days.bases t (days.count + 6) (omega (arith, are.start)) in
    record {
      within = omega (arith, last.up);
      begun = last.begun;
      not_over = λ more. last.not_over (day_at days t + 1) (omega arith) (omega (arith, more));
    }

-- the clock text of a time of a day
text_on : (days : DaysMeaning) → AreDays days → (day t hundreds short : ℕ) → IsUnderWay days day t → t < 2 ^ 128 → t ≡ base_of days day + (hundreds * 360000000 + short) → short < 360000000
    → clock_text_of days t ≡ (fixed_decimal 8 (date_of days day) ++ 32 ∷ hundreds_text hundreds) ++ short_text short
text_on days are day t hundreds short is small e fits =
    let at : day_at days t ≡ day = under_way_is days are day t is in
    let ms : t - base_of days day ≡ hundreds * 360000000 + short = omega (arith, e) in
    let whole : (hundreds * 360000000 + short) / 360000000 ≡ hundreds = omega (arith, fits) in
    let rest : (hundreds * 360000000 + short) % 360000000 ≡ short = omega (arith, fits) in
    let time : time_text (hundreds * 360000000 + short) ≡ hundreds_text hundreds ++ short_text short =
    time_split (hundreds * 360000000 + short) (omega (arith, e, small)) ∙ ap₂ (λ n s. hundreds_text n ++ short_text s) whole rest in
    ap (λ k. fixed_decimal 8 (date_of days k) ++ 32 ∷ time_text (t - base_of days k)) at
    ∙ ap (λ text. fixed_decimal 8 (date_of days day) ++ 32 ∷ text) (ap time_text ms ∙ time)
    ∙ sym (append_assoc (fixed_decimal 8 (date_of days day)) (32 ∷ hundreds_text hundreds) (short_text short))

length-short_text : (ms : ℕ) → length (short_text ms) ≡ 12
length-short_text ms =
    let h = length-fixed_decimal 2 (ms / 3600000) in
    let m = length-fixed_decimal 2 (ms / 60000 % 60) in
    let s = length-fixed_decimal 2 (ms / 1000 % 60) in
    let f = length-fixed_decimal 3 (ms % 1000) in
    let l1 = length-append (fixed_decimal 2 (ms / 3600000)) (part_text 58 2 (ms / 60000 % 60)) in
    let l2 = length-append (fixed_decimal 2 (ms / 3600000) ++ part_text 58 2 (ms / 60000 % 60)) (part_text 58 2 (ms / 1000 % 60)) in
    let l3 = length-append (fixed_decimal 2 (ms / 3600000) ++ part_text 58 2 (ms / 60000 % 60) ++ part_text 58 2 (ms / 1000 % 60)) (part_text 46 3 (ms % 1000)) in
    omega (arith, l1, l2, l3, h, m, s, f)

-- the parts of a text whose end has twelve bytes
clock_cut : (days : DaysMeaning) (front tail : List ℕ) → length tail ≡ 12 → clock_at days (front ++ tail) ≡ option_and_then (front_at days front) (short_at tail)
clock_cut days front tail twelve =
    let long : length (front ++ tail) ≡ length front + 12 = length-append front tail ∙ ap (λ n. length front + n) twelve in
    let cut : length (front ++ tail) - 12 ≡ length front = omega (arith, long) in
    rw (le-ltb (length (front ++ tail)) 12 (omega (arith, long)), cut, take-append_seam front tail, drop-append_seam front tail) refl

-- what the front gives, with its parts known
front_cut : (days : DaysMeaning) (date rest : List ℕ) (short : ℕ) → length date ≡ 8 → front_at days (date ++ rest) short
    ≡ option_and_then (λ hundreds. option_and_then (λ n. option_and_then (λ day. moment_at days day (hundreds * 360000000 + short)) (day_with_date days n)) (fixed_at date)) (option_and_then hundreds_at (after_space rest))
front_cut days date rest short eight =
    let long : length (date ++ rest) ≡ 8 + length rest = length-append date rest ∙ ap (λ n. n + length rest) eight in
    let front : take 8 (date ++ rest) ≡ date = subst (λ n. take n (date ++ rest) ≡ date) eight (take-append_seam date rest) in
    let back : drop 8 (date ++ rest) ≡ rest = subst (λ n. drop n (date ++ rest) ≡ rest) eight (drop-append_seam date rest) in
    rw (le-ltb (length (date ++ rest)) 8 (omega (arith, long)), front, back) refl

not_over_and : (b : Bool) (x y : ℕ) → (b ≡ true → y < x) → (b && leb x y) ≡ false
not_over_and true x y h = lt-leb x y (h refl)
not_over_and false x y h = refl

moment_again : (days : DaysMeaning) (day t ms : ℕ) → IsUnderWay days day t → t < 2 ^ 128 → t ≡ base_of days day + ms → moment_at days day ms ≡ Some t
moment_again days day t ms is small e =
    let ended : (ltb (day + 1) (numbers_of days) && leb (base_of days (day + 1)) t) ≡ false =
    not_over_and (ltb (day + 1) (numbers_of days)) (base_of days (day + 1)) t (λ h. is.not_over (ltb-true (day + 1) (numbers_of days) h)) in
    rw (sym e, ended, lt-ltb t (2 ^ 128) small) refl

-- a clock text gives its time back
pub clock_again : (days : DaysMeaning) → AreDays days → (t : ℕ) → t < 2 ^ 128 → clock_at days (clock_text_of days t) ≡ Some t
clock_again days are t small =
    let order = are_in_order days are in
    let day = day_at days t in
    let is = at_is_under_way days are t in
    let ms = t - base_of days day in
    let hundreds = ms / 360000000 in
    let short = ms % 360000000 in
    let e : t ≡ base_of days day + (hundreds * 360000000 + short) = omega (arith, is.begun) in
    let fits : short < 360000000 = omega arith in
    let few : hundreds < 10 ^ 30 = omega (arith, small) in
    let date = date_of days day in
    let digits = order.eight_digits day is.within in
    let found : day_with_date days date ≡ Some day = found_at days.dates date day order.dates_rise (omega (arith, is.within, are.dates_long)) refl in
    let read : fixed_at (fixed_decimal 8 date) ≡ Some date = fixed_again 8 date (record { digits = digits.1; within = omega (arith, digits.1) }) in
    ap (clock_at days) (text_on days are day t hundreds short is small e fits)
    ∙ clock_cut days (fixed_decimal 8 date ++ 32 ∷ hundreds_text hundreds) (short_text short) (length-short_text short)
    ∙ ap (option_and_then (front_at days (fixed_decimal 8 date ++ 32 ∷ hundreds_text hundreds))) (short_again short fits)
    ∙ front_cut days (fixed_decimal 8 date) (32 ∷ hundreds_text hundreds) short (length-fixed_decimal 8 date)
    ∙ rw (hundreds_again hundreds few, read, found) (moment_again days day t (hundreds * 360000000 + short) is small e)
