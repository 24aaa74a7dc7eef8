-- Days in a zone.
use Rattle.plan_base.proofs.Common.{◌≡◌, refl, sym, ap, ap₂, subst, ◌∙◌, ℕ, zero, suc, ◌+◌, ◌/◌, ◌<◌, ◌≤◌, Bool, true, false, ◌&&◌, List, length, map, get_or, take, arith, ltb, ℤ, pos, ◌+ℤ◌, ◌-ℤ◌, ◌*ℤ◌, ◌≤ℤ◌, int_le, unsigned_abs, Option, Some, None, Result, Ok, Err, IfSome, cond, range_with_len, ltb-true, ltb-false, T_from_true, length-map-range_with_len, same_Some}
use Rattle.jiff_core.specs.Calendar.{IsWithin}
use Rattle.jiff_core.proofs.SignedLemmas.{signed_arith}
use Rattle.std.proofs.lemmas.List.FromFn.{take-map-range_with_len}
use Rattle.service_days.specs.{is_civil, AreDays, date_on, is_first_date, is_day_count, plain_days, IsDaysRefusal, RangeFault, BadDate, BadCount, BadZone, OutOfMemory, AreKept, RefusesLengths, days_in, days_in_read, is_rule_text, read_zone, zone_days, days_made, Zone, have_day_lengths, is_day_length, noon_in, noon_on, zone_base, zone_of, dates_and_next, days_with_bases, CountFromNoons, IsNoonOf, DaysMeaning.DaysMeaning}
use Rattle.jiff_core.specs.declared.civil.datetime.DateTime.{DateTime}
use Rattle.service_days.proofs.{Noons.noon_is_instant, Noons.zone_again, DateSteps.pos-unsigned_abs, PlainDays.at_day, PlainDays.plain_are_days, CivilDates.on_day, CivilDates.parts_civil}

-- where the days so far have led: to this noon, in seconds, which is not before the first one
pub record IsAtNoon (zone : Zone) (dates : List ℕ) (day : ℕ) (start here : ℤ) : Type 0 where
  pub first : noon_on zone dates 0 ≡ start *ℤ pos 1000000000
  pub now : noon_on zone dates day ≡ here *ℤ pos 1000000000
  pub first_within : IsWithin 1000000000000 start
  pub within : IsWithin 1000000000000 here
  pub later : start ≤ℤ here

pub have_day_lengths-zero : (zone : Zone) (dates : List ℕ) → have_day_lengths zone dates 0 ≡ true
unfolding have_day_lengths
have_day_lengths-zero zone dates = refl

pub have_day_lengths-suc : (zone : Zone) (dates : List ℕ) (n : ℕ) → have_day_lengths zone dates (suc n) ≡ (have_day_lengths zone dates n && is_day_length (noon_on zone dates n) (noon_on zone dates (n + 1)))
unfolding have_day_lengths
have_day_lengths-suc zone dates n = refl

pub have_day_lengths-more : (zone : Zone) (dates : List ℕ) (n : ℕ) → have_day_lengths zone dates (n + 1) ≡ (have_day_lengths zone dates n && is_day_length (noon_on zone dates n) (noon_on zone dates (n + 1)))
have_day_lengths-more zone dates n = let one : n + 1 ≡ suc n = omega arith in ap (have_day_lengths zone dates) one ∙ have_day_lengths-suc zone dates n

true_false : ◌≡◌ {A = Bool} true false → ⊥
true_false h = cc

false_true : ◌≡◌ {A = Bool} false true → ⊥
false_true h = cc

and_false : (a b : Bool) → a ≡ false → (a && b) ≡ false
and_false true b e = absurd (true_false e)
and_false false b e = refl

and_both : (a b : Bool) → (a && b) ≡ true → (a ≡ true) × (b ≡ true)
and_both true b e = (refl, e)
and_both false b e = absurd (false_true e)

-- where a day is too short or too long, longer lists of days have it too
pub lengths_fail : (zone : Zone) (dates : List ℕ) (n m : ℕ) → n ≤ m → have_day_lengths zone dates n ≡ false → have_day_lengths zone dates m ≡ false
lengths_fail zone dates n zero up e = let same : n ≡ zero = omega (arith, up) in ap (have_day_lengths zone dates) (sym same) ∙ e
lengths_fail zone dates n (suc m) up e =
    elim (ltb m n) as (λ v. ltb m n ≡ v → have_day_lengths zone dates (suc m) ≡ false) [
      | true ↦ λ t. let same : n ≡ suc m = omega (arith, up, ltb-true m n t) in ap (have_day_lengths zone dates) (sym same) ∙ e
      | false ↦ λ f. have_day_lengths-suc zone dates m ∙ and_false (have_day_lengths zone dates m) _ (lengths_fail zone dates n m (ltb-false m n f) e)
    ] refl

-- each day has its length
pub length_at : (zone : Zone) (dates : List ℕ) (n k : ℕ) → have_day_lengths zone dates n ≡ true → k < n → is_day_length (noon_on zone dates k) (noon_on zone dates (k + 1)) ≡ true
length_at zone dates zero k h below = absurd (none k below)
  where
    none : (k : ℕ) → k < zero → ⊥
    none k below = omega (arith, below)
length_at zone dates (suc n) k h below =
    let both = and_both (have_day_lengths zone dates n) (is_day_length (noon_on zone dates n) (noon_on zone dates (n + 1))) (sym (have_day_lengths-suc zone dates n) ∙ h) in
    elim (ltb k n) as (λ v. ltb k n ≡ v → is_day_length (noon_on zone dates k) (noon_on zone dates (k + 1)) ≡ true) [
      | true ↦ λ t. length_at zone dates n k both.0 (ltb-true k n t)
      | false ↦ λ f. let same : k ≡ n = omega (arith, below, ltb-false k n f) in ap (λ day. is_day_length (noon_on zone dates day) (noon_on zone dates (day + 1))) same ∙ both.1
    ] refl

-- from a noon to the next there are so many hours
pub record HasLength (noon next : ℤ) : Type 0 where
  pub not_short : (noon +ℤ pos 79200000000000) ≤ℤ next
  pub not_long : next ≤ℤ (noon +ℤ pos 93600000000000)

pub day_length : (noon next : ℤ) → is_day_length noon next ≡ true → HasLength noon next
day_length noon next e =
    let both = and_both (int_le (noon +ℤ pos 79200000000000) next) (int_le next (noon +ℤ pos 93600000000000)) e in
    record { not_short = record { le = T_from_true _ both.0 }; not_long = record { le = T_from_true _ both.1 } }

-- one day on
pub at_next_noon : (zone : Zone) (dates : List ℕ) (day : ℕ) (start here next : ℤ) → IsAtNoon zone dates day start here → noon_on zone dates (day + 1) ≡ next *ℤ pos 1000000000 → IsWithin 1000000000000 next
    → is_day_length (here *ℤ pos 1000000000) (next *ℤ pos 1000000000) ≡ true → IsAtNoon zone dates (day + 1) start next
at_next_noon zone dates day start here next at now within e =
    let long = day_length (here *ℤ pos 1000000000) (next *ℤ pos 1000000000) e in
    record { first = at.first; now = now; first_within = at.first_within; within = within; later = omega (arith, signed_arith, at.later, long.not_short) }

pub and_fails : (a b : Bool) → b ≡ false → (a && b) ≡ false
and_fails true b e = e
and_fails false b e = refl

pub and_holds : (a b : Bool) → a ≡ true → b ≡ true → (a && b) ≡ true
and_holds true b h e = e
and_holds false b h e = absurd (false_true h)

-- noons do not fall
pub noons_rise : (zone : Zone) (dates : List ℕ) (n k : ℕ) → have_day_lengths zone dates n ≡ true → k ≤ n → noon_on zone dates 0 ≤ℤ noon_on zone dates k
noons_rise zone dates n zero h up = omega (arith, signed_arith)
noons_rise zone dates n (suc k) h up =
    let one : k + 1 ≡ suc k = omega arith in
    let before = noons_rise zone dates n k h (omega (arith, up)) in
    let step = day_length (noon_on zone dates k) (noon_on zone dates (k + 1)) (length_at zone dates n k h (omega (arith, up))) in
    subst (λ day. noon_on zone dates 0 ≤ℤ noon_on zone dates day) one (omega (arith, signed_arith, before, step.not_short))

-- what a day's length is for two bases
base_step : (start noon next : ℤ) → start ≤ℤ noon → HasLength noon next
    → (unsigned_abs (noon -ℤ start) / 1000000 + 79200000 ≤ unsigned_abs (next -ℤ start) / 1000000) × (unsigned_abs (next -ℤ start) / 1000000 ≤ unsigned_abs (noon -ℤ start) / 1000000 + 93600000)
base_step start noon next up long =
    let here = pos-unsigned_abs (noon -ℤ start) (omega (arith, signed_arith, up)) in
    let there = pos-unsigned_abs (next -ℤ start) (omega (arith, signed_arith, up, long.not_short)) in
    (omega (arith, signed_arith, here, there, long.not_short), omega (arith, signed_arith, here, there, long.not_long))

base_zero : (start : ℤ) → unsigned_abs (start -ℤ start) / 1000000 ≡ 0
base_zero start =
    let none = pos-unsigned_abs (start -ℤ start) (omega (arith, signed_arith)) in
    omega (arith, signed_arith, none)

pub zone_are_days : (zone : Zone) (rule : List ℕ) (first count : ℕ) → is_first_date first ≡ true → is_day_count count ≡ true → have_day_lengths zone (dates_and_next first count) (count + 7) ≡ true
    → AreDays (days_with_bases zone rule first count (dates_and_next first count))
zone_are_days zone rule first count date few lengths =
    let dates = dates_and_next first count in
    let base = λ (k : ℕ) (h : k < count + 7). at_day (zone_base zone dates) (count + 7) k h in
    let step = λ (k : ℕ) (h : k < count + 6).
    base_step (noon_on zone dates 0) (noon_on zone dates k) (noon_on zone dates (k + 1)) (noons_rise zone dates (count + 7) k lengths (omega (arith, h)))
    (day_length (noon_on zone dates k) (noon_on zone dates (k + 1)) (length_at zone dates (count + 7) k lengths (omega (arith, h)))) in
    record {
      some = grind (arith, few);
      few = grind (arith, few);
      bases_long = length-map-range_with_len (zone_base zone dates) 0 (count + 7);
      dates_long = length-map-range_with_len (date_on first) 0 (count + 7);
      start = base 0 (omega arith) ∙ base_zero (noon_on zone dates 0);
      not_short = λ day h. rw (base day (omega (arith, h)), base (day + 1) (omega (arith, h))) (step day h).0;
      not_long = λ day h. rw (base day (omega (arith, h)), base (day + 1) (omega (arith, h))) (step day h).1;
      even = λ none. absurd (none_some rule none);
      first_is = date;
      on = λ day h. at_day (date_on first) (count + 7) day h;
    }
  where
    none_some : (rule : List ℕ) → ◌≡◌ {A = Option (List ℕ)} (Some rule) None → ⊥
    none_some rule e = cc

-- what is made without a rule
pub plain_are_kept : (first count : ℕ) → is_first_date first ≡ true → is_day_count count ≡ true → AreKept (plain_days first count)
plain_are_kept first count date few = record { are = plain_are_days first count date few; made = rw (date, few) refl }

-- what is made in a zone
pub zone_are_kept : (zone : Zone) (rule : List ℕ) (first count : ℕ) → is_first_date first ≡ true → is_day_count count ≡ true → have_day_lengths zone (dates_and_next first count) (count + 7) ≡ true
    → zone_days first count rule ≡ Ok (days_with_bases zone rule first count (dates_and_next first count)) → AreKept (days_with_bases zone rule first count (dates_and_next first count))
zone_are_kept zone rule first count date few lengths made = record { are = zone_are_days zone rule first count date few lengths; made = made }

-- the dates of a first date are civil dates
pub dates_civil : (first n day : ℕ) → is_first_date first ≡ true → n < 100 → day < length (map (date_on first) (range_with_len 0 n)) → is_civil (get_or (map (date_on first) (range_with_len 0 n)) day 0) ≡ true
dates_civil first n day h few within =
    let below : day < n = omega (arith, within, length-map-range_with_len (date_on first) 0 n) in
    rw (at_day (date_on first) n day below) (parts_civil (date_on first day) (on_day first day h (omega (arith, below, few))).parts)

rule_cases : (text : Bool) (read o : Option Zone) (rule : List ℕ) (first count : ℕ) → o ≡ cond text read None → cond text (days_in_read read rule first count) (Err BadZone) ≡ days_in_read o rule first count
rule_cases true read o rule first count e = ap (λ z. days_in_read z rule first count) (sym e)
rule_cases false read o rule first count e = ap (λ z. days_in_read z rule first count) (sym e)

-- what a first date, a count and a rule give, by the zone that was read
pub zone_days_is : (first count : ℕ) (rule : List ℕ) (o : Option Zone) → is_first_date first ≡ true → is_day_count count ≡ true → o ≡ cond (is_rule_text rule) (read_zone rule) None → zone_days first count rule ≡ days_in_read o rule first count
zone_days_is first count rule o date few e = rw (date, few) (rule_cases (is_rule_text rule) (read_zone rule) o rule first count e)

pub days_in_refused : (zone : Zone) (rule : List ℕ) (first count : ℕ) (fault : RangeFault) → RefusesLengths (have_day_lengths zone (dates_and_next first count) (count + 7)) fault → IsDaysRefusal (days_in zone rule first count) fault
days_in_refused zone rule first count BadDate h = absurd h
days_in_refused zone rule first count BadCount h = absurd h
days_in_refused zone rule first count BadZone h = rw h refl
days_in_refused zone rule first count OutOfMemory h = tt

-- the same days, part by part
pub same_days : (first count : ℕ) (bases dates rule other_bases other_dates other_rule : List ℕ) → bases ≡ other_bases → dates ≡ other_dates → rule ≡ other_rule
    → ◌≡◌ {A = DaysMeaning} (record { first = first; count = count; bases = bases; dates = dates; zone = Some rule }) (record { first = first; count = count; bases = other_bases; dates = other_dates; zone = Some other_rule })
same_days first count bases dates rule other_bases other_dates other_rule e f g = rw (e, f, g) refl

pub days_in_ok : (zone : Zone) (rule : List ℕ) (first count : ℕ) → have_day_lengths zone (dates_and_next first count) (count + 7) ≡ true → days_in zone rule first count ≡ Ok (days_with_bases zone rule first count (dates_and_next first count))
days_in_ok zone rule first count h = rw h refl

pub first_dates : (first count : ℕ) → take (count + 7) (dates_and_next first count) ≡ map (date_on first) (range_with_len 0 (count + 7))
first_dates first count = take-map-range_with_len (date_on first) 0 (count + 8) (count + 7) (omega arith)

pub length-dates_and_next : (first count : ℕ) → length (dates_and_next first count) ≡ count + 8
length-dates_and_next first count = length-map-range_with_len (date_on first) 0 (count + 8)

pub cond_some_is : (text : Bool) (read : Option Zone) (zone : Zone) → Some zone ≡ cond text read None → read ≡ Some zone
cond_some_is true read zone e = sym e
cond_some_is false read zone e = absurd (none_some zone (sym e))
  where
    none_some : (zone : Zone) → ◌≡◌ {A = Option Zone} None (Some zone) → ⊥
    none_some zone e = cc

-- days in a zone that a rule spells count from its noons
pub count_from_noons : (spelled : Zone) (rule : List ℕ) (first count : ℕ) → read_zone rule ≡ Some spelled
    → CountFromNoons rule (days_with_bases spelled rule first count (dates_and_next first count))
count_from_noons spelled rule first count spelled_is zone read day within at start is_at is_start =
    let dates = dates_and_next first count in
    let same : spelled ≡ zone_of zone = same_Some spelled (zone_of zone) (sym spelled_is ∙ zone_again rule zone read) in
    let date = λ (k : ℕ) (h : k < count + 7). at_day (date_on first) (count + 7) k h ∙ sym (at_day (date_on first) (count + 8) k (omega (arith, h))) in
    let noon = λ (k : ℕ) (h : k < count + 7) (when : DateTime) (is : IsNoonOf (get_or (map (date_on first) (range_with_len 0 (count + 7))) k 0) when).
    noon_is_instant zone (get_or (map (date_on first) (range_with_len 0 (count + 7))) k 0) when is ∙ ap₂ noon_in (sym same) (date k h) in
    at_day (zone_base spelled dates) (count + 7) day within
    ∙ ap₂ (λ (a : ℤ) (b : ℤ). unsigned_abs (a -ℤ b) / 1000000) (sym (noon day within at is_at)) (sym (noon 0 (omega arith) start is_start))

ok_parts : (test : Bool) (made : Result DaysMeaning RangeFault) (fault : RangeFault) (days : DaysMeaning) → cond test made (Err fault) ≡ Ok days → (test ≡ true) × (made ≡ Ok days)
ok_parts true made fault days e = (refl, e)
ok_parts false made fault days e = cc

read_from_noons : (read : Option Zone) (rule : List ℕ) (first count : ℕ) (days : DaysMeaning) → read_zone rule ≡ read → days_in_read read rule first count ≡ Ok days → CountFromNoons rule days
read_from_noons None rule first count days spelled made = cc
read_from_noons (Some zone) rule first count days spelled made =
    let ok = ok_parts (have_day_lengths zone (dates_and_next first count) (count + 7)) _ _ days made in
    subst (CountFromNoons rule) (same_Ok _ days ok.1) (count_from_noons zone rule first count spelled)
  where
    same_Ok : (a b : DaysMeaning) → ◌≡◌ {A = Result DaysMeaning RangeFault} (Ok a) (Ok b) → a ≡ b
    same_Ok a b e = cc

-- days that a rule gives count from its noons
zone_from_noons : (first count : ℕ) (rule : List ℕ) (days : DaysMeaning) → zone_days first count rule ≡ Ok days → CountFromNoons rule days
zone_from_noons first count rule days made =
    let date = ok_parts (is_first_date first) _ _ days made in
    let few = ok_parts (is_day_count count) _ _ days date.1 in
    let text = ok_parts (is_rule_text rule) _ _ days few.1 in
    read_from_noons (read_zone rule) rule first count days refl text.1

-- days that have a rule count from its noons
pub made_from_noons : (days : DaysMeaning) → days_made days.first days.count days.zone ≡ Ok days → IfSome days.zone (λ rule. CountFromNoons rule days)
made_from_noons days made = by_zone days.zone made
  where
    by_zone : (zone : Option (List ℕ)) → days_made days.first days.count zone ≡ Ok days → IfSome zone (λ rule. CountFromNoons rule days)
    by_zone None made = tt
    by_zone (Some rule) made = zone_from_noons days.first days.count rule days made
